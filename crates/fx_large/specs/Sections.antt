-- Sections and samples that are drawn.
use Rattle.std.specs.Prelude.{ℕ, suc, ◌+◌, ◌*◌, ◌%◌, ℤ, pos, ◌-ℤ◌, List, [], ◌∷◌}
use Rattle.fx_math.specs.Sums.{joined}
use Rattle.fx_nums.specs.Fraction.{Fraction, one_fraction}
use Rattle.fx_nums.specs.declared.fraction.Den.TheVariants.{Ten}
use Rattle.fx_large.specs.Draws.{draw, state_after}
use Rattle.fx_large.specs.declared.limits.TheConstants.{FILTER_DRAWS, SECTIONS_DRAWN, SECTION_DRAWS}

-- a draw, brought into the numbers from -middle to middle
abbrev pub centred : ℕ → ℕ → ℤ
centred d middle = pos (d % (2 * middle + 1)) -ℤ pos middle

-- ---- coefficients

abbrev pub thousandths : ℤ → Fraction
thousandths z = record { num = z; den = Ten 3 }

-- of the numerator, from -0.3 to 0.3
abbrev pub numerator_of : ℕ → Fraction
numerator_of d = thousandths (centred d 300)

-- of the denominator, from -0.2 to 0.2, so that |a1| + |a2| < 1
abbrev pub denominator_of : ℕ → Fraction
denominator_of d = thousandths (centred d 200)

-- ---- sections

-- b0, b1, b2, a0, a1, a2, from a state: three draws, 1, and two draws
unfoldable pub section_from : ℕ → List Fraction
section_from s =
    numerator_of (draw s 1) ∷ numerator_of (draw s 2) ∷ numerator_of (draw s 3) ∷ one_fraction
    ∷ denominator_of (draw s 4) ∷ denominator_of (draw s 5) ∷ []

-- so many sections from a state, one behind the other
abbrev pub sections_from : ℕ → ℕ → List Fraction
sections_from count s = joined count (λ i. section_from (state_after (SECTION_DRAWS * i) s))

-- those of a number
abbrev pub sections_of : ℕ → List Fraction
sections_of number = sections_from SECTIONS_DRAWN number

-- ---- samples

-- a word from -1000 to 1000
abbrev pub sample_of : ℕ → ℤ
sample_of d = centred d 1000

-- the sample at moment k, from 0 on, of those that follow a state
abbrev pub sample_at : ℕ → ℕ → ℤ
sample_at s k = sample_of (draw s (suc k))

-- the state behind the draws of a number's sections, which its samples follow
abbrev pub samples_state : ℕ → ℕ
samples_state number = state_after FILTER_DRAWS number
