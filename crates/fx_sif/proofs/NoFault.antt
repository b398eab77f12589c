-- What fits has no fault.
use Rattle.std.proofs.Common.{◌≡◌, ℕ, zero, suc, ◌<◌, ◌≤◌, ◌⊎◌, inl, inr, Bool, true, false, not, ◌&&◌, eqb}
use Rattle.std.proofs.Common.{ltb, int_lt, pos, unsigned_abs, ℤ, List, [], ◌∷◌, ◌++◌, All, get_or, None, refl}
use Rattle.std.proofs.Common.{arith, ◌∙◌}
use Rattle.std.specs.List.{IsDistinct, list_any}
use Rattle.std.proofs.lemmas.Bool.{lt-leb, le-ltb, ne_eqb, eq-eqb, or_from, and_from, le-leb, and_left}
use Rattle.std.proofs.lemmas.Bool.{cases_eq, cases_lt}
use Rattle.std.proofs.lemmas.Bool.Decides.{nat_tests}
use Rattle.std.proofs.lemmas.List.Elements.{All-head, All-tail}
use Rattle.std.proofs.lemmas.Map.Keys.{IsDistinct-tail}
use Rattle.std.proofs.lemmas.List.Folds.{list_any-append}
use Rattle.fx_math.proofs.Faults.{none_if, none_or}
use Rattle.fx_nums.proofs.Denominators.{den_positive}
use Rattle.fx_nums.specs.Fraction.{Fraction, den_value, is_one, is_zero}
use Rattle.fx_eqs.proofs.Distinct.{distinct_head}
use Rattle.fx_sif.specs.Blocks.{height, width, same_place}
use Rattle.fx_sif.specs.Faults.{is_out, breaks_unit_lower, entry_fault, entries_fault}
use Rattle.fx_sif.specs.Fits.{IsUnitLower, KeepsUnitLower, EntryFits}
use Rattle.fx_sif.specs.Implicit.{rows}
use Rattle.fx_sif.specs.Laws.{WhatFitsHasNoFault}
use Rattle.fx_eqs.specs.declared.limits.TheConstants.{PORTS}
use Rattle.fx_sif.specs.declared.limits.TheConstants.{FORM_ROWS}
use Rattle.fx_sif.specs.declared.parts.Block.{Block}
use Rattle.fx_sif.specs.declared.parts.Block.TheVariants.{J, K, L, M, N, P, Q, R, S}
use Rattle.fx_sif.specs.declared.parts.Entry.{Entry}
use Rattle.fx_sif.specs.declared.parts.Sizes.{Sizes}

-- ---- J

one_passes : (z : ℤ) (n : ℕ) → 1 ≤ n → z ≡ pos n → int_lt (pos 0) z && eqb (unsigned_abs z) n ≡ true
one_passes z zero low e = elim low [ ]
one_passes z (suc n) low e = rw e (and_from _ _ (le-leb 1 (suc n) low) (eq-eqb (suc n) (suc n) refl))

zero_passes : (z : ℤ) → z ≡ pos 0 → eqb (unsigned_abs z) 0 ≡ true
zero_passes z e = rw e refl

not_from : (a b : Bool) → b ≡ true → a && not b ≡ false
not_from a b e = grind (arith, nat_tests)

lower : (i j : ℕ) (c : Fraction) → IsUnitLower i j c → breaks_unit_lower J i j c ≡ false
lower i j c h = or_from _ _ (diagonal (cases_eq i j)) (above (cases_lt i j))
  where
    diagonal : (i ≡ j) ⊎ (i ≡ j → ⊥) → eqb i j && not (is_one c) ≡ false
    diagonal (inl a) = not_from (eqb i j) (is_one c)
        (one_passes c.num (den_value c.den) (den_positive c.den) (h.diagonal a))
    diagonal (inr a) = and_left _ _ (ne_eqb i j a)

    above : (i < j) ⊎ (j ≤ i) → ltb i j && not (is_zero c) ≡ false
    above (inl a) = not_from (ltb i j) (is_zero c) (zero_passes c.num (h.above a))
    above (inr a) = and_left _ _ (le-ltb i j a)

unit_passes : (block : Block) (i j : ℕ) (c : Fraction) → KeepsUnitLower block i j c →
    breaks_unit_lower block i j c ≡ false
unit_passes J i j c h = lower i j c h
unit_passes K i j c h = refl
unit_passes L i j c h = refl
unit_passes M i j c h = refl
unit_passes N i j c h = refl
unit_passes P i j c h = refl
unit_passes Q i j c h = refl
unit_passes R i j c h = refl
unit_passes S i j c h = refl

-- ---- entry by entry

no_entry_fault : (s : Sizes) (earlier : List Entry) (e : Entry) → EntryFits s e →
    list_any (same_place e) earlier ≡ false → entry_fault s earlier e ≡ None
no_entry_fault s earlier e fits fresh =
    none_if _ _ _ (or_from _ _ (lt-leb (height s e.block) e.i fits.row) (lt-leb (width s e.block) e.j fits.column))
    (none_if _ _ _ (unit_passes e.block e.i e.j e.coef fits.unit_lower)
    (none_if _ _ _ fresh refl))

-- none of these entries stands where an earlier one does
abbrev AllFresh : List Entry → List Entry → Type 0
AllFresh earlier es = All (λ e. list_any (same_place e) earlier ≡ false) es

-- one more joins the earlier ones
fresh_behind : (earlier : List Entry) (e : Entry) (es : List Entry) → AllFresh earlier es →
    All (λ g. same_place g e ≡ false) es → AllFresh (earlier ++ e ∷ []) es
fresh_behind earlier e es fresh apart = λ k d h.
    let g = get_or es k d in
    list_any-append (same_place g) earlier (e ∷ []) ∙ or_from _ _ (fresh k d h) (or_from _ _ (apart k d h) refl)

no_entries_fault : (s : Sizes) (earlier es : List Entry) → All (EntryFits s) es →
    IsDistinct (λ (e g : Entry). same_place g e) es → AllFresh earlier es → entries_fault s earlier es ≡ None
no_entries_fault s earlier [] fits once fresh = refl
no_entries_fault s earlier (e ∷ es) fits once fresh =
    none_or _ _
    (no_entry_fault s earlier e (All-head (EntryFits s) e es fits)
    (All-head (λ g. list_any (same_place g) earlier ≡ false) e es fresh))
    (no_entries_fault s (earlier ++ e ∷ []) es
    (All-tail (EntryFits s) e es fits)
    (IsDistinct-tail (λ (e g : Entry). same_place g e) e es once)
    (fresh_behind earlier e es (All-tail (λ g. list_any (same_place g) earlier ≡ false) e es fresh)
    (distinct_head (λ (e g : Entry). same_place g e) e es once)))

-- ---- the form

inside : (greatest n : ℕ) → 1 ≤ n → n ≤ greatest → is_out greatest n ≡ false
inside greatest n low high = or_from _ _ (ne_eqb n 0 (λ e. omega (arith, low, e))) (le-ltb greatest n high)

pub what_fits : WhatFitsHasNoFault
what_fits f fits =
    none_if _ _ _ (inside FORM_ROWS (rows f.sizes) fits.rows_low fits.rows_high)
    (none_if _ _ _ (inside PORTS f.sizes.u fits.inputs_low fits.inputs_high)
    (none_if _ _ _ (inside PORTS f.sizes.y fits.outputs_low fits.outputs_high)
    (no_entries_fault f.sizes [] f.entries fits.entries fits.once (λ k d h. refl))))
