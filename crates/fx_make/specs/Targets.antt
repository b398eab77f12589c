-- What is swept of a candidate's rows: each row of its net and, behind the rows, a pair for each output.
use Rattle.std.specs.Prelude.{ℕ, ◌+◌, ◌-◌, nat_lt, cond, List, [], ◌∷◌, length}
use Rattle.fx_math.specs.Sums.{joined}
use Rattle.fx_eqs.specs.Expanded.{expanded}
use Rattle.fx_files.specs.Filter.{Filter}
use Rattle.fx_net.specs.Net.{Net, empty_net}
use Rattle.fx_net.specs.Rows.{put_rows}
use Rattle.fx_code.specs.Code.{BareRow}
use Rattle.fx_code.specs.NetRows.{put_bare_rows}
use Rattle.fx_sweep.specs.declared.target.Target.{Target}
use Rattle.fx_sweep.specs.declared.target.Target.TheVariants.{Row}
use Rattle.fx_block.specs.Candidate.{candidate_count, candidate_pair}

abbrev pub target_count : Filter → List BareRow → ℕ
target_count f rows = candidate_count f rows + length f.outputs

unfoldable pub target_at : Filter → List BareRow → ℕ → Target
target_at f rows t =
    cond (nat_lt t (candidate_count f rows)) (Row t) (candidate_pair f rows (t - candidate_count f rows))

abbrev pub targets_of : Filter → List BareRow → List Target
targets_of f rows = joined (target_count f rows) (λ t. target_at f rows t ∷ [])

-- the net of the rows and the filter's expanded rows, with empty rows behind, so that it has n
abbrev pub padded_net : ℕ → Filter → List BareRow → Net
padded_net n f rows = put_rows (expanded f.equations) (length rows) (put_bare_rows rows 0 (empty_net n))
