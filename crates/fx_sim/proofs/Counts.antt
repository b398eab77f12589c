-- How many digits numbers have.
use Rattle.std.proofs.Common.{◌≡◌, ◌+◌, ◌/◌, ◌≤◌, ◌<◌, ◌^◌, ℕ, ℤ, pos, negsuc, length, unsigned_abs, FitsSigned}
use Rattle.std.proofs.Common.{suc, sym, arith, w64}
use Rattle.std.specs.Fmt.{decimal}
use Rattle.std.proofs.lemmas.Fmt.{length-decimal-le}
use Rattle.itoa.proofs.Decimal.{length_four, length_one, length_pair, length_two}

pub one_digit : (n : ℕ) → n < 10 → 1 ≡ length (decimal n)
one_digit n below = sym (length_one n below)

pub two_digits : (n : ℕ) → 10 ≤ n → n < 100 → 2 ≡ length (decimal n)
two_digits n above below = sym (length_two n above below)

pub three_digits : (n : ℕ) → 100 ≤ n → n < 1000 → 3 ≡ length (decimal n)
three_digits n above below =
    omega (arith, length_pair n above (omega arith), length_one (n / 100) (omega arith))

pub four_digits : (n : ℕ) → 1000 ≤ n → n < 10000 → 4 ≡ length (decimal n)
four_digits n above below =
    omega (arith, length_pair n (omega arith) (omega arith), length_two (n / 100) (omega arith) (omega arith))

pub four_more : (n : ℕ) → 10000 ≤ n → n < 2 ^ 64 → length (decimal n) ≡ length (decimal (n / 10000)) + 4
four_more n above below = length_four n above below

pub few_digits : (n : ℕ) → n < 2 ^ 64 → length (decimal n) ≤ 20
few_digits n below = length-decimal-le 20 n (omega arith) (omega arith) below

pub digits_of_word : (z : ℤ) → FitsSigned w64 z → length (decimal (unsigned_abs z)) ≤ 19
digits_of_word (pos n) fits =
    let small = fits.sfits in
    length-decimal-le 19 n (omega arith) (omega arith) (omega arith)
digits_of_word (negsuc n) fits =
    let small = fits.sfits in
    length-decimal-le 19 (suc n) (omega arith) (omega arith) (omega arith)
