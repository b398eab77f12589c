use Rattle.std.proofs.Common.{◌≡◌, length}
use Rattle.fx_totals.proofs.series.Series.new.Given as goal

abbrev pub invariant-loop : goal.invariant-loop
invariant-loop g l = length l.parts.items ≡ l.counter
