-- Digits as they are kept while they are read: the number without the zeros at its end, and their count.
use Rattle.std.specs.Prelude.{ℕ, ◌+◌, ◌*◌, ◌^◌, ◌==◌, min, if◌then◌else◌, List, [], ◌∷◌}
use Rattle.fx_nums.specs.Signs.{digit_zero, digit_value}
use Rattle.fx_decimal.specs.declared.limits.TheConstants.{MOST_DIGITS}
use Rattle.fx_decimal.specs.declared.value.Kept.{Kept}

-- one more digit, where a number of too many digits counts as the least of those
abbrev pub with_digit : Kept → ℕ → Kept
with_digit s c = if c == digit_zero then record {
  number = s.number;
  zeros =
      s.zeros + 1;
} else record {
  number =
      min (s.number * 10 ^ (s.zeros + 1) + digit_value c) (10 ^ MOST_DIGITS);
  zeros = 0;
}

abbrev pub kept_from : Kept → List ℕ → Kept
kept_from s [] = s
kept_from s (c ∷ cs) = kept_from (with_digit s c) cs
