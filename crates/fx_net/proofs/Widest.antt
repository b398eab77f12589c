-- Each denominator of a fraction divides the widest one.
use Rattle.std.proofs.Common.{◌≡◌, ℕ, ◌-◌, ◌*◌, ◌/◌, ◌^◌, ◌≤◌, sym, arith}
use Rattle.fx_nums.specs.Fraction.{DenFits, den_value}
use Rattle.fx_nums.specs.declared.fraction.Den.{Den}
use Rattle.fx_nums.specs.declared.fraction.Den.TheVariants.{Two, Ten}
use Rattle.fx_nums.specs.declared.limits.TheConstants.{GREATEST_TWO, GREATEST_TEN}
use Rattle.fx_cross.specs.Table.{entry_at}
use Rattle.fx_net.specs.Run.{IsDenominator}
use Rattle.fx_net.specs.Running.{widest}
use Rattle.fx_net.specs.Tables.{Tables, TablesFit, net_of}
use Rattle.fx_net.proofs.Carried.{power}
use Rattle.fx_eqs.proofs.Denominators.{whole_product}

split : (b top e : ℕ) → e ≤ top → b ^ top ≡ b ^ e * b ^ (top - e)
split b top e h = sym (power b e (top - e) top (omega arith))

-- each denominator of a fraction divides it
pub divides_widest : (d : Den) → DenFits d → den_value d * (widest / den_value d) ≡ widest
divides_widest (Two e) h =
    whole_product (Two e) (2 ^ GREATEST_TWO) (10 ^ GREATEST_TEN) (
      2 ^ (GREATEST_TWO - e),
      split 2 GREATEST_TWO e h,
    ) (10 ^ GREATEST_TEN, omega arith)
divides_widest (Ten d) h =
    whole_product (Ten d) (2 ^ GREATEST_TWO) (10 ^ GREATEST_TEN) (
      2 ^ GREATEST_TWO,
      omega arith,
    ) (10 ^ (GREATEST_TEN - d), split 10 GREATEST_TEN d h)

pub whole_over_widest : (t : Tables) → TablesFit t → IsDenominator (net_of t) widest
whole_over_widest t fits = record {
  positive = omega arith;
  now = λ i j h k. divides_widest (entry_at t.now_table i j).den (fits.now i j);
  old = λ i j h k. divides_widest (entry_at t.old_table i j).den (fits.old i j);
  input = λ i j h k. divides_widest (entry_at t.input_table i j).den (fits.input i j);
}
