-- What the tests refuse not, fits.
use Rattle.std.proofs.Common.{◌≡◌, ℕ, ◌≤◌, Bool, true, false, not, ◌&&◌, eqb, ltb, List, [], ◌∷◌, ◌++◌, All}
use Rattle.std.proofs.Common.{None, arith, pos, negsuc, ℤ, int_lt, unsigned_abs, append_assoc, ap, sym, ◌∙◌}
use Rattle.std.specs.List.{IsDistinct, AllByRecursion, list_any}
use Rattle.std.proofs.lemmas.Bool.{or_parts, ltb-false, eq-eqb, lt-ltb}
use Rattle.std.proofs.lemmas.Bool.Decides.{nat_tests}
use Rattle.std.proofs.lemmas.List.Elements.{All-nil, All-cons}
use Rattle.fx_math.proofs.Faults.{if_none, or_none}
use Rattle.fx_math.proofs.Orders.{not_le, not_zero}
use Rattle.fx_nums.specs.Fraction.{Fraction, den_value, is_one, is_zero}
use Rattle.fx_sif.specs.Blocks.{same_place}
use Rattle.fx_sif.specs.Faults.{is_out, breaks_unit_lower, entry_fault, entries_fault, sif_fault}
use Rattle.fx_sif.specs.Fits.{KeepsUnitLower, EntryFits, ImplicitFits}
use Rattle.fx_sif.specs.Implicit.{rows}
use Rattle.fx_eqs.specs.declared.limits.TheConstants.{PORTS}
use Rattle.fx_sif.specs.declared.limits.TheConstants.{FORM_ROWS}
use Rattle.fx_sif.specs.declared.parts.Block.{Block}
use Rattle.fx_sif.specs.declared.parts.Block.TheVariants.{J, K, L, M, N, P, Q, R, S}
use Rattle.fx_sif.specs.declared.parts.Entry.{Entry}
use Rattle.fx_sif.specs.declared.parts.Sizes.{Sizes}

-- ---- what no fault means

-- a count that passes is from 1 to the greatest
inside : (greatest n : ℕ) → is_out greatest n ≡ false → (1 ≤ n) × (n ≤ greatest)
inside greatest n e = let p = or_parts _ _ e in (not_zero n p.0, ltb-false greatest n p.1)

-- ---- one entry

not_and : (a b : Bool) → a && not b ≡ false → a ≡ true → b ≡ true
not_and a b e t = grind (arith, nat_tests)

is_one-value : (z : ℤ) (n : ℕ) → int_lt (pos 0) z && eqb (unsigned_abs z) n ≡ true → z ≡ pos n
is_one-value (pos k) n e = grind (arith, nat_tests)
is_one-value (negsuc k) n e = cc

pub is_zero-value : (z : ℤ) → eqb (unsigned_abs z) 0 ≡ true → z ≡ pos 0
is_zero-value (pos k) e = grind (arith, nat_tests)
is_zero-value (negsuc k) e = grind (arith, nat_tests)

keeps : (block : Block) (i j : ℕ) (c : Fraction) → breaks_unit_lower block i j c ≡ false → KeepsUnitLower block i j c
keeps J i j c e =
    let p = or_parts _ _ e in
    record {
      diagonal = λ same. is_one-value c.num (den_value c.den) (not_and (eqb i j) (is_one c) p.0 (eq-eqb i j same));
      above = λ less. is_zero-value c.num (not_and (ltb i j) (is_zero c) p.1 (lt-ltb i j less));
    }
keeps K i j c e = tt
keeps L i j c e = tt
keeps M i j c e = tt
keeps N i j c e = tt
keeps P i j c e = tt
keeps Q i j c e = tt
keeps R i j c e = tt
keeps S i j c e = tt

record EntryPasses (s : Sizes) (earlier : List Entry) (e : Entry) : Type 0 where
  fits : EntryFits s e
  once : list_any (same_place e) earlier ≡ false

passes : (s : Sizes) (earlier : List Entry) (e : Entry) → entry_fault s earlier e ≡ None → EntryPasses s earlier e
passes s earlier e h =
    let shape = if_none _ _ _ h in
    let tests = or_parts _ _ shape.0 in
    let unit = if_none _ _ _ shape.1 in
    let once = if_none _ _ _ unit.1 in
    record {
      fits = record {
        row = not_le _ _ tests.0;
        column = not_le _ _ tests.1;
        unit_lower =
            keeps e.block e.i e.j e.coef unit.0;
      };
      once = once.0;
    }

-- ---- all entries

entries_fit : (s : Sizes) (earlier es : List Entry) → entries_fault s earlier es ≡ None → All (EntryFits s) es
entries_fit s earlier [] h = All-nil (EntryFits s)
entries_fit s earlier (e ∷ es) h =
    let p = or_none _ _ h in
    All-cons (EntryFits s) e es (passes s earlier e p.0).fits (entries_fit s (earlier ++ e ∷ []) es p.1)

-- a test that no element of a list passes, fails at each
fails_at : (test : Entry → Bool) (before after : List Entry) (e : Entry) →
    list_any test (before ++ e ∷ after) ≡ false → test e ≡ false
fails_at test [] after e h = (or_parts (test e) (list_any test after) h).0
fails_at test (b ∷ before) after e h =
    fails_at test before after e (or_parts (test b) (list_any test (before ++ e ∷ after)) h).1

-- an earlier entry stands in another place than all behind it
apart : (s : Sizes) (before after : List Entry) (e : Entry) (es : List Entry) →
    entries_fault s (before ++ e ∷ after) es ≡ None → AllByRecursion (λ (g : Entry). same_place g e ≡ false) es
apart s before after e [] h = tt
apart s before after e (g ∷ es) h =
    let p = or_none _ _ h in
    let rest = apart s before (after ++ g ∷ []) e es
    (ap (λ x. entries_fault s x es) (sym (append_assoc before (e ∷ after) (g ∷ []))) ∙ p.1) in
    (fails_at (same_place g) before after e (passes s (before ++ e ∷ after) g p.0).once, rest)

once_each : (s : Sizes) (earlier es : List Entry) → entries_fault s earlier es ≡ None →
    IsDistinct (λ (e g : Entry). same_place g e) es
unfolding IsDistinct
once_each s earlier [] h = tt
once_each s earlier (e ∷ es) h =
    let p = or_none _ _ h in
    (apart s earlier [] e es p.1, once_each s (earlier ++ e ∷ []) es p.1)

-- ---- the form

pub form_fits : (s : Sizes) (entries : List Entry) → sif_fault s entries ≡ None →
    ImplicitFits (record { sizes = s; entries = entries })
form_fits s entries h =
    let row = if_none _ _ _ h in
    let input = if_none _ _ _ row.1 in
    let output = if_none _ _ _ input.1 in
    let r = inside FORM_ROWS (rows s) row.0 in
    let u = inside PORTS s.u input.0 in
    let y = inside PORTS s.y output.0 in
    record {
      rows_low = r.0;
      rows_high = r.1;
      inputs_low = u.0;
      inputs_high = u.1;
      outputs_low = y.0;
      outputs_high = y.1;
      entries = entries_fit s [] entries output.1;
      once = once_each s [] entries output.1;
    }
