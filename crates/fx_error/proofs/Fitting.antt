-- The parts of a total are small.
use Rattle.std.proofs.Common.{◌≡◌, ◌^◌, arith}
use Rattle.std.proofs.Math.IntN.{ℤ, ◌+ℤ◌}
use Rattle.std.proofs.lemmas.Int.{ints}
use Rattle.fx_totals.specs.Kept.{IsUpTo}
use Rattle.fx_error.specs.PartsOf.{PartsFit}

pub parts_fit : (rounding inputs widths difference rest : ℤ) → IsUpTo (2 ^ 95) rounding → IsUpTo (2 ^ 121) inputs →
    IsUpTo (2 ^ 113) widths → difference ≡ inputs +ℤ widths → IsUpTo (2 ^ 125) rest →
    PartsFit (record { rounding = rounding; difference = difference; rest = rest })
parts_fit rounding inputs widths difference rest a b c e d = record {
  rounding = (a.0, omega (arith, ints, a.1));
  difference = (omega (arith, ints, e, b.0, c.0), omega (arith, ints, e, b.1, c.1));
  rest = (d.0, omega (arith, ints, d.1));
  whole = (omega (arith, ints, a.0, e, b.0, c.0, d.0), omega (arith, ints, a.1, e, b.1, c.1, d.1));
}
