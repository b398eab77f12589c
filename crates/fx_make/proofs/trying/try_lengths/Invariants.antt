use Rattle.std.proofs.Common.{◌≡◌, ℕ, ◌<◌, ◌≤◌}
use Rattle.std.specs.Prelude.{None}
use Rattle.fx_totals.specs.Filled.{length_in}
use Rattle.fx_make.specs.Lengths.{fail_in, first_passing, length_fail}
use Rattle.fx_make.proofs.trying.try_lengths.Given as goal

abbrev pub invariant-loop-l : goal.invariant-loop-l
invariant-loop-l g l = record {
  none : first_passing l.f l.d.rows (length_in l.f.settings.lengths) l.l ≡ None;
  told : (k : ℕ) → k < l.l → fail_in l.fails k ≡ length_fail l.f l.d.rows (length_in l.f.settings.lengths k);
  others : (k : ℕ) → l.l ≤ k → fail_in l.fails k ≡ None;
}
