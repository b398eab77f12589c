-- Sections that are drawn fit a filter.
use Rattle.std.proofs.Common.{◌≡◌, ℕ, zero, suc, ◌+◌, ◌*◌, List, [], ◌∷◌, ◌++◌, length, length-append, Ok}
use Rattle.std.proofs.Common.{refl, arith}
use Rattle.std.specs.Prelude.{All}
use Rattle.std.proofs.lemmas.List.Elements.{All-nil, All-append}
use Rattle.fx_nums.specs.Fraction.{Fraction, OverTen, is_one, one_fraction}
use Rattle.fx_keys.specs.declared.key.Key.TheVariants as key
use Rattle.fx_keys.specs.declared.fault.FilterFault.TheVariants.{NotMonic}
use Rattle.fx_math.specs.Faults.{unless}
use Rattle.fx_files.proofs.Steps.{bind_ok}
use Rattle.fx_files.specs.Lists.{each_monic}
use Rattle.fx_files.specs.Plan.{SectionsFit}
use Rattle.fx_files.proofs.FilterOfSections.{one_section_fits}
use Rattle.fx_large.specs.Sections.{denominator_of, numerator_of, section_from}
use Rattle.fx_large.specs.Draws.{draw}

-- i sections of six coefficients over powers of ten, the fourth being 1
pub record AreSections (i : ℕ) (cs : List Fraction) : Type 0 where
  pub count : length cs ≡ 6 * i
  pub lead : (place : ℕ) → each_monic key.Sections place cs ≡ Ok tt
  pub over_ten : All OverTen cs

pub no_sections : AreSections 0 []
unfolding each_monic
no_sections = record { count = refl; lead = λ place. refl; over_ten = All-nil OverTen }

-- one section with a0 = 1
pub given_section_fits : (b0 b1 b2 a0 a1 a2 : Fraction) → OverTen b0 → OverTen b1 → OverTen b2 → a0 ≡ one_fraction →
    OverTen a1 → OverTen a2 → SectionsFit (b0 ∷ b1 ∷ b2 ∷ a0 ∷ a1 ∷ a2 ∷ [])
given_section_fits = one_section_fits

pub one_section : (s : ℕ) → AreSections 1 (section_from s)
unfolding each_monic section_from
one_section s = record {
  count = refl;
  lead = λ place. refl;
  over_ten = (given_section_fits (numerator_of (draw s 1)) (numerator_of (draw s 2)) (numerator_of (draw s 3))
      one_fraction (denominator_of (draw s 4)) (denominator_of (draw s 5)) refl refl refl refl refl refl).over_ten;
}

-- the fourth of each six, of a list of whole sections and what follows it
leads : (i place : ℕ) (cs ds : List Fraction) → length cs ≡ 6 * i → each_monic key.Sections place cs ≡ Ok tt →
    ((later : ℕ) → each_monic key.Sections later ds ≡ Ok tt) → each_monic key.Sections place (cs ++ ds) ≡ Ok tt
unfolding each_monic
leads zero place [] ds count h rest = rest place
leads zero place (c ∷ cs) ds count h rest = absurd (omega arith)
leads (suc i) place (a ∷ b ∷ c ∷ d ∷ e ∷ f ∷ cs) ds count h rest =
    let (u, one, left) = bind_ok (unless (NotMonic key.Sections (place + 3)) (is_one d))
    (λ u. each_monic key.Sections (place + 6) cs) tt h in
    let more : each_monic key.Sections (place + 6) (cs ++ ds) ≡ Ok tt =
    leads i (place + 6) cs ds (omega arith) left rest in
    rw (one, more) refl
leads (suc i) place [] ds count h rest = absurd (omega arith)
leads (suc i) place (a ∷ []) ds count h rest = absurd (omega arith)
leads (suc i) place (a ∷ b ∷ []) ds count h rest = absurd (omega arith)
leads (suc i) place (a ∷ b ∷ c ∷ []) ds count h rest = absurd (omega arith)
leads (suc i) place (a ∷ b ∷ c ∷ d ∷ []) ds count h rest = absurd (omega arith)
leads (suc i) place (a ∷ b ∷ c ∷ d ∷ e ∷ []) ds count h rest = absurd (omega arith)

pub more_sections : (i : ℕ) (cs : List Fraction) (s : ℕ) → AreSections i cs → AreSections (i + 1) (cs ++ section_from s)
more_sections i cs s h =
    let one = one_section s in
    record {
      count = omega (arith, length-append cs (section_from s), h.count, one.count);
      lead = λ place. leads i place cs (section_from s) h.count (h.lead place) one.lead;
      over_ten = All-append OverTen cs (section_from s) h.over_ten one.over_ten;
    }
