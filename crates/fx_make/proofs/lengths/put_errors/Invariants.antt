use Rattle.std.proofs.Common.{◌≡◌, ℕ, ◌<◌, length}
use Rattle.std.specs.Prelude.{None}
use Rattle.fx_block.specs.Candidate.{first_above}
use Rattle.fx_block.specs.Formats.{output_at}
use Rattle.fx_sweep.specs.Swept.{whole_in}
use Rattle.fx_totals.specs.Kept.{bound_in}
use Rattle.fx_make.specs.Lengths.{kept_pairs}
use Rattle.fx_make.proofs.lengths.put_errors.Given as goal

abbrev pub invariant-loop-o : goal.invariant-loop-o
invariant-loop-o g l = record {
  long : length l.e ≡ length l.f.outputs;
  first : (k : ℕ) → k < l.o → whole_in l.e k ≡ kept_pairs l.f l.d.rows l.totals (bound_in l.x) k;
  none : first_above l.o (kept_pairs l.f l.d.rows l.totals (bound_in l.x)) (λ k. (output_at l.f k).target) ≡ None;
}
