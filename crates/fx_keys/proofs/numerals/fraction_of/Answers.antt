use Rattle.std.proofs.Common.{Result, Ok, Err, IfOk, subst, sym}
use Rattle.fx_nums.specs.Fraction.{Fraction}
use Rattle.fx_decimal.specs.declared.fault.DecimalFault.{DecimalFault}
use Rattle.fx_nums.specs.Fraction.{OverTen}
use Rattle.fx_keys.proofs.TenPowers.{IsOverTen, of_numeral}
use Rattle.fx_keys.proofs.numerals.fraction_of.Goals as goal

told : (r : Result Fraction DecimalFault) → IsOverTen r → IfOk r OverTen
told (Ok c) h = h
told (Err e) h = tt

pub returns-clause-over_ten : goal.returns-clause-over_ten
returns-clause-over_ten c =
    told c.read_decimal.result (subst IsOverTen (sym c.read_decimal.ensures) (of_numeral c.args.text.now))
