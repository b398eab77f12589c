-- Decimals as they are printed.
use Rattle.std.specs.Prelude.{ℕ, zero, suc, ◌+◌, ◌-◌, ◌*◌, ◌/◌, ◌%◌, ◌^◌, ◌==◌, Bool, true, false}
use Rattle.std.specs.Prelude.{if◌then◌else◌, ℤ, pos, negsuc, ◌*ℤ◌, unsigned_abs, List, [], ◌∷◌, ◌++◌, length}
use Rattle.std.specs.Prelude.{replicate}
use Rattle.std.specs.Fmt.{decimal}
use Rattle.std.specs.Int.{div_ceil}
use Rattle.fx_math.specs.Division.{floor_div, ceil_div}
use Rattle.fx_nums.specs.Fraction.{Fraction, tens}
use Rattle.fx_nums.specs.Signs.{digit_zero, point_mark, minus_text}

-- zeros, and the decimal of a number below 10 ^ k, k digits in all
unfoldable pub padded : ℕ → ℕ → List ℕ
padded k n = replicate (k - length (decimal n)) digit_zero ++ decimal n

-- the last k digits of a number
abbrev pub last_digits : ℕ → ℕ → List ℕ
last_digits zero n = []
last_digits (suc k) n = last_digits k (n / 10) ++ ((digit_zero + n % 10) ∷ [])

-- a point and digits, or nothing where no digit is wanted
abbrev pub places_text : ℕ → ℕ → List ℕ
places_text zero n = []
places_text (suc k) n = point_mark ∷ padded (suc k) n

abbrev pub is_below_zero : ℤ → Bool
is_below_zero (pos n) = false
is_below_zero (negsuc n) = true

-- a sign, a whole number, and k digits behind a point
unfoldable pub written : Bool → ℕ → ℕ → ℕ → List ℕ
written negative whole rest k = minus_text negative ++ (decimal whole ++ places_text k rest)

-- q / 10 ^ k, with k digits after the point
abbrev pub fixed_text : ℤ → ℕ → List ℕ
fixed_text q k = written (is_below_zero q) (unsigned_abs q / 10 ^ k) (unsigned_abs q % 10 ^ k) k

-- v / 2 ^ 64 with k places, rounded up in the last
unfoldable pub up_text : ℤ → ℕ → List ℕ
up_text v k = fixed_text (ceil_div (v *ℤ pos (10 ^ k)) (2 ^ 64)) k

-- v / 2 ^ 64 with k places, rounded down in the last
unfoldable pub down_text : ℤ → ℕ → List ℕ
down_text v k = fixed_text (floor_div (v *ℤ pos (10 ^ k)) (2 ^ 64)) k

-- m / 2 ^ 64 in units of 10 ^ -k, rounded up or down
unfoldable pub units : Bool → ℕ → ℕ → ℕ
units up m k = if up then div_ceil (m * 10 ^ k) (2 ^ 64) else m * 10 ^ k / 2 ^ 64

-- n / 10 ^ d with the least power of ten that serves
abbrev pub lowest : ℕ → ℕ → ℕ × ℕ
lowest n zero = (n, 0)
lowest n (suc d) = if n % 10 == 0 then lowest (n / 10) d else (n, suc d)

-- a fraction over a power of ten, exactly, with no zero at the end of its places
unfoldable pub fraction_text : Fraction → List ℕ
fraction_text c =
    let r = lowest (unsigned_abs c.num) (tens c.den) in
    written (is_below_zero c.num) (r.0 / 10 ^ r.1) (r.0 % 10 ^ r.1) r.1
