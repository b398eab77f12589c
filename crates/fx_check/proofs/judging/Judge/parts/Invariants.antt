use Rattle.std.proofs.Common.{◌≡◌, ℕ, ◌<◌, ◌≤◌, get_or, length, All}
use Rattle.fx_eqs.specs.declared.limits.TheConstants.{PORTS}
use Rattle.fx_error.specs.PartsOf.{PartsFit}
use Rattle.fx_check.specs.Report.{no_parts, parts_at}
use Rattle.fx_check.proofs.judging.Judge.parts.Given as goal

abbrev pub invariant-loop-o : goal.invariant-loop-o
invariant-loop-o g l = record {
  long : length l.parts ≡ PORTS;
  first : (k : ℕ) → k < l.o → get_or l.parts k no_parts ≡ parts_at l.f l.p l.c k;
  behind : (k : ℕ) → l.o ≤ k → get_or l.parts k no_parts ≡ no_parts;
  small : All PartsFit l.parts;
}
