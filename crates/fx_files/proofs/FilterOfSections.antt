-- The filter of sections and a plan is that of every file with these values.
use Rattle.std.proofs.Common.{◌≡◌, ◌∙◌, List, [], ◌∷◌, length, refl, ap, sym, subst, arith, All, IfOk}
use Rattle.std.proofs.Common.{Result, Ok, Err}
use Rattle.std.proofs.lemmas.List.Elements.{All-nil, All-cons}
use Rattle.fx_nums.specs.Fraction.{Fraction, OverTen, one_fraction}
use Rattle.fx_files.specs.Lists.{each_monic}
use Rattle.fx_files.specs.Building.{assembled, equations_of, with_rows}
use Rattle.fx_files.specs.Coefficients.{Coefficients, Sos}
use Rattle.fx_files.specs.Filter.{Filter}
use Rattle.fx_files.specs.Plan.{HasValues, IsOfFiles, SectionsFit, filter_of_sections}
use Rattle.fx_files.specs.Plan.{ports_of, settings_of}
use Rattle.fx_files.specs.Ports.{Ports}
use Rattle.fx_files.specs.Settings.{Settings}
use Rattle.fx_files.specs.declared.plan.Plan.{Plan}
use Rattle.fx_files.proofs.HeldFilter.{entry_of as output_entry, parts_of, same_filter}

-- the parts of a filter with the plan's values are those of the plan
same_parts : (sections : List Fraction) (p : Plan) (g : Filter) → HasValues sections p g → parts_of g ≡ ports_of p
unfolding parts_of output_entry
same_parts sections p g h = rw (h.input_low, h.inputs, h.outputs) refl

-- sections of one length put out the same row, so only coefficients and equations differ
other_sections : (p : Plan) (given sections : List Fraction) → length given ≡ length sections →
    filter_of_sections sections p ≡ record (filter_of_sections given p) {
      coefficients = Sos sections;
      equations = equations_of 1 1 (Sos sections);
    }
unfolding assembled with_rows
other_sections p given sections e = rw e refl

pub of_sections_is : (sections : List Fraction) (p : Plan) → IsOfFiles sections p (filter_of_sections sections p)
of_sections_is sections p t g d h =
    let built : Ports → Coefficients → Settings → Filter =
    λ ports cs settings. assembled ports cs settings in
    let parts = same_parts sections p g h in
    let given : filter_of_sections h.given p ≡ g =
    subst (λ (x : Ports). assembled x (Sos h.given) (settings_of p) ≡ g) parts
    (subst (λ (x : Coefficients). assembled (parts_of g) x (settings_of p) ≡ g) h.sos
    (subst (λ (x : Settings). assembled (parts_of g) g.coefficients x ≡ g) h.settings (same_filter t g d))) in
    let changed : Filter → Filter =
    λ x. record x { coefficients = Sos sections; equations = equations_of 1 1 (Sos sections) } in
    other_sections p h.given sections h.count ∙ ap changed given

pub is_of_files : (sections : List Fraction) (p : Plan) (f : Filter) → f ≡ filter_of_sections sections p →
    IsOfFiles sections p f
is_of_files sections p f e = subst (IsOfFiles sections p) (sym e) (of_sections_is sections p)

-- one section with a0 = 1
pub one_section_fits : (b0 b1 b2 a0 a1 a2 : Fraction) → OverTen b0 → OverTen b1 → OverTen b2 → a0 ≡ one_fraction →
    OverTen a1 → OverTen a2 → SectionsFit (b0 ∷ b1 ∷ b2 ∷ a0 ∷ a1 ∷ a2 ∷ [])
unfolding each_monic
one_section_fits b0 b1 b2 a0 a1 a2 p q r lead s t =
    let one : OverTen a0 = rw lead refl in
    let five : All OverTen (a2 ∷ []) = All-cons OverTen a2 [] t (All-nil OverTen) in
    let four : All OverTen (a1 ∷ a2 ∷ []) = All-cons OverTen a1 (a2 ∷ []) s five in
    let three : All OverTen (a0 ∷ a1 ∷ a2 ∷ []) = All-cons OverTen a0 (a1 ∷ a2 ∷ []) one four in
    let two : All OverTen (b2 ∷ a0 ∷ a1 ∷ a2 ∷ []) = All-cons OverTen b2 (a0 ∷ a1 ∷ a2 ∷ []) r three in
    let next : All OverTen (b1 ∷ b2 ∷ a0 ∷ a1 ∷ a2 ∷ []) = All-cons OverTen b1 (b2 ∷ a0 ∷ a1 ∷ a2 ∷ []) q two in
    record {
      cascade = record { low = omega arith; high = omega arith; whole = refl; is_monic = rw lead refl };
      over_ten = All-cons OverTen b0 (b1 ∷ b2 ∷ a0 ∷ a1 ∷ a2 ∷ []) p next;
    }

-- the same of an answer that may be want of memory
pub each_of_files : {E : Type 0} (sections : List Fraction) (p : Plan) (r : Result Filter E) →
    IfOk r (λ f. f ≡ filter_of_sections sections p) → IfOk r (IsOfFiles sections p)
each_of_files sections p (Ok f) h = is_of_files sections p f h
each_of_files sections p (Err e) h = tt
