use Rattle.std.proofs.Common.{◌≡◌, drop}
use Rattle.fx_quant.specs.Rows.{wide_fault}
use Rattle.fx_quant.proofs.row.wide_fault.Given as goal

abbrev pub invariant-loop-place : goal.invariant-loop-place
invariant-loop-place l = wide_fault l.row l.shift l.place (drop l.place l.terms) ≡ wide_fault l.row l.shift 0 l.terms
