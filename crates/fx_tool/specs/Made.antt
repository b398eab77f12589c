-- The program and the certificate that are made of rows that pass, with their bounds.
use Rattle.std.specs.Prelude.{ℕ, zero, suc, ◌+◌, ◌-◌, ◌^◌, nat_lt, cond, pos, [], ◌∷◌, length}
use Rattle.fx_math.specs.Sums.{joined}
use Rattle.fx_math.specs.declared.words.TheConstants.{LEAST_WIDTH}
use Rattle.fx_files.specs.Filter.{Filter}
use Rattle.fx_code.specs.Code.{Code}
use Rattle.fx_code.specs.NetRows.{bare_at}
use Rattle.fx_cert.specs.Certificate.{Certificate}
use Rattle.fx_block.specs.Candidate.{candidate_count, candidate_total, inner_count}
use Rattle.fx_block.specs.Formats.{input_at, output_at}
use Rattle.fx_quant.specs.Design.{sized}
use Rattle.fx_make.specs.Candidates.{Passing}

-- the first width, of so many from one on, whose words take every number up to x
abbrev pub first_width : ℕ → ℕ → ℕ → ℕ
first_width zero width x = width
first_width (suc n) width x = cond (nat_lt x (2 ^ (width - 1))) width (first_width n (width + 1) x)

-- the least width whose words take the bound x of a row
unfoldable pub least_width : ℕ → ℕ
least_width x = first_width 31 LEAST_WIDTH x

-- a row that is put out has the width of its output, and each other row the least that takes its bound
abbrev pub made_width : Filter → Passing → ℕ → ℕ
made_width f p i =
    cond (nat_lt i (inner_count f p.design.rows)) (least_width (p.bounds i))
    (output_at f (i - inner_count f p.design.rows)).width

-- the rows with their widths, over the filter's accumulators and inputs; the last rows are put out
abbrev pub made_program : Filter → Passing → Code
made_program f p = record {
  accumulator = f.settings.accumulator;
  inputs = joined (length f.inputs) (λ j. (input_at f j).width ∷ []);
  rows = joined (length p.design.rows) (λ i. sized (made_width f p i) (bare_at p.design.rows i) ∷ []);
  outputs = joined (length f.outputs) (λ o. (inner_count f p.design.rows + o) ∷ []);
}

-- the bounds of the rows and of the filter's expanded rows, and for each output the total of its pair
abbrev pub made_certificate : Filter → ℕ → Passing → Certificate
made_certificate f moments p = record {
  length = moments;
  bounds = joined (candidate_count f p.design.rows) (λ j. pos (p.bounds j) ∷ []);
  errors = joined (length f.outputs) (λ o. candidate_total f p.design.rows moments p.bounds o ∷ []);
}
