-- The rows of a design are within the limits of a program.
use Rattle.std.proofs.Common.{◌≡◌, ℕ, zero, suc, ◌+◌, ◌^◌, ◌<◌, ◌≤◌, ◌≢◌, true, false, eqb}
use Rattle.std.proofs.Common.{List, [], ◌∷◌, ◌++◌, map, All, None, refl, arith, sym, ap, ◌∙◌, unsigned_abs, nat_lt}
use Rattle.std.proofs.Math.IntN.{ℤ}
use Rattle.std.specs.List.{IsDistinct, list_any, AllByRecursion}
use Rattle.std.proofs.lemmas.Bool.{or_parts, ltb-false, cond_both, false_from_ne_true, eqb-true, eq-eqb, true≢false}
use Rattle.std.proofs.lemmas.List.Elements.{All-nil, All-cons, All-head, All-tail, All-append, All-map}
use Rattle.fx_math.proofs.Faults.{if_none}
use Rattle.fx_math.proofs.Orders.{not_le}
use Rattle.fx_net.specs.Links.{coefficients}
use Rattle.fx_net.specs.Net.{Net}
use Rattle.fx_net.specs.declared.net.Which.{Which}
use Rattle.fx_net.specs.declared.net.Which.TheVariants.{Now as NowTable, Old as OldTable, In as InTable}
use Rattle.fx_eqs.specs.declared.mode.Mode.{Mode}
use Rattle.fx_code.specs.Code.{OldIsThere}
use Rattle.fx_code.specs.Fits.{TermFits, SourceFits, ReadsFit}
use Rattle.fx_code.specs.Limits.{same_source}
use Rattle.fx_code.specs.declared.limits.TheConstants.{CODE_ROWS, COEFFICIENT_BITS, PRODUCT_BITS, LONGEST_SHIFT}
use Rattle.fx_code.specs.declared.term.CodeTerm.{CodeTerm}
use Rattle.fx_code.specs.declared.term.Read.{Read}
use Rattle.fx_code.specs.declared.term.Read.TheVariants.{Now, Old, In}
use Rattle.fx_quant.specs.Design.{BareFits, sized}
use Rattle.fx_quant.specs.Positions.{Grid}
use Rattle.fx_quant.specs.Rounding.{rounded}
use Rattle.fx_quant.specs.Rows.{scaled, kept, kept_of, kept_terms, read, shift_of, left_of, code_term, bare_row}
use Rattle.fx_quant.specs.Rows.{product_of, shifts_far, IsNarrow, row_fault}
use Rattle.fx_quant.specs.declared.scaled.Scaled.{Scaled}
use Rattle.fx_quant.proofs.Faults.{all_narrow}
use Rattle.fx_quant.proofs.Rounding.{narrow_small}

-- ---- shifts and coefficients

term_fits : (shift : ℕ) (k : Scaled) → nat_lt LONGEST_SHIFT (left_of shift k) ≡ false → IsNarrow shift k →
    TermFits shift (code_term shift k)
term_fits shift k near narrow =
    let bounds = or_parts _ _ narrow in
    record {
      left = ltb-false LONGEST_SHIFT (left_of shift k) near;
      coefficient = narrow_small shift k narrow;
      product = not_le (2 ^ COEFFICIENT_BITS) (unsigned_abs (product_of shift k)) bounds.0;
      scaled = not_le (2 ^ (PRODUCT_BITS + shift)) (unsigned_abs (product_of shift k)) bounds.1;
    }

terms_fit : (shift : ℕ) (ks : List Scaled) →
    list_any (λ (k : Scaled). nat_lt LONGEST_SHIFT (left_of shift k)) ks ≡ false → All (IsNarrow shift) ks →
    All (λ k. TermFits shift (code_term shift k)) ks
terms_fit shift [] near narrow = All-nil (λ k. TermFits shift (code_term shift k))
terms_fit shift (k ∷ ks) near narrow =
    let p = or_parts (nat_lt LONGEST_SHIFT (left_of shift k)) (list_any (λ (x : Scaled).
    nat_lt LONGEST_SHIFT (left_of shift x)) ks) near in
    All-cons (λ x. TermFits shift (code_term shift x)) k ks
    (term_fits shift k p.0 (All-head (IsNarrow shift) k ks narrow))
    (terms_fit shift ks p.1 (All-tail (IsNarrow shift) k ks narrow))

pub bare_fits : (accumulator : ℕ) (mode : Mode) (i : ℕ) (ks : List Scaled) → row_fault accumulator i ks ≡ None →
    BareFits accumulator (bare_row mode ks)
bare_fits accumulator mode i ks e =
    let shift = shift_of ks in
    let p = if_none (shifts_far accumulator shift ks) _ _ e in
    let far = or_parts _ _ p.0 in
    let long = or_parts (nat_lt LONGEST_SHIFT shift) _ far.0 in
    record {
      shift_high = ltb-false LONGEST_SHIFT shift long.0;
      shift_kept = not_le accumulator shift long.1;
      terms = All-map (TermFits shift) (code_term shift) ks
          (terms_fit shift ks far.1 (all_narrow i shift 0 ks p.1));
    }

-- ---- what is read

-- how many sources of each kind a row may read
abbrev pub count_of : ℕ → ℕ → ℕ → Which → ℕ
count_of rows inputs i NowTable = i
count_of rows inputs i OldTable = rows
count_of rows inputs i InTable = inputs

-- what holds of each term, with a rounded coefficient that is not 0, from the first sources of one kind
pub each_kept : (P : Scaled → Type 0) (g : Grid) (net : Net) (i : ℕ) (which : Which) (n : ℕ) →
    ((j : ℕ) → j < n → unsigned_abs (rounded g.fraction (coefficients net which i j)) ≢ 0 →
    P (scaled g i (read which j) (rounded g.fraction (coefficients net which i j)))) →
    All P (kept_of g net i which n)
each_kept P g net i which zero h = All-nil P
each_kept P g net i which (suc n) h =
    let c : ℤ = rounded g.fraction (coefficients net which i n) in
    All-append P (kept_of g net i which n) (kept g i (read which n) (coefficients net which i n))
    (each_kept P g net i which n (λ j l. h j (omega (arith, l))))
    (cond_both (eqb (unsigned_abs c) 0) [] (scaled g i (read which n) c ∷ []) (All P) (λ e. All-nil P)
    (λ e. All-cons P (scaled g i (read which n) c) []
    (h n (omega arith) (λ z. let same = eq-eqb (unsigned_abs c) 0 z in true≢false (sym same ∙ e))) (All-nil P)))

-- what holds of each term of a row
pub each_term : (P : Scaled → Type 0) (g : Grid) (net : Net) (rows inputs i : ℕ) →
    ((which : Which) (j : ℕ) → j < count_of rows inputs i which →
    unsigned_abs (rounded g.fraction (coefficients net which i j)) ≢ 0 →
    P (scaled g i (read which j) (rounded g.fraction (coefficients net which i j)))) →
    All P (kept_terms g net rows inputs i)
each_term P g net rows inputs i h =
    All-append P (kept_of g net i NowTable i ++ kept_of g net i OldTable rows) (kept_of g net i InTable inputs)
    (All-append P (kept_of g net i NowTable i) (kept_of g net i OldTable rows)
    (each_kept P g net i NowTable i (h NowTable)) (each_kept P g net i OldTable rows (h OldTable)))
    (each_kept P g net i InTable inputs (h InTable))

-- ---- in a rising order

-- sources in their order: rows of this moment, then of the moment before, then inputs
abbrev rank : Read → ℕ
rank (Now j) = j
rank (Old j) = 1000 + j
rank (In j) = 2000 + j

abbrev base : Which → ℕ
base NowTable = 0
base OldTable = 1000
base InTable = 2000

rank_is : (which : Which) (j : ℕ) → rank (read which j) ≡ base which + j
rank_is NowTable j = omega arith
rank_is OldTable j = refl
rank_is InTable j = refl

-- each rank is at least what comes behind the one before; all are below the end
abbrev Rises : ℕ → ℕ → List Scaled → Type 0
Rises low high [] = low ≤ high
Rises low high (k ∷ ks) = (low ≤ rank k.from) × Rises (rank k.from + 1) high ks

rises_lower : (low mid high : ℕ) (ks : List Scaled) → low ≤ mid → Rises mid high ks → Rises low high ks
rises_lower low mid high [] h r = omega (arith, h, r)
rises_lower low mid high (k ∷ ks) h r = ((let below : mid ≤ rank k.from = r.0 in omega (arith, h, below)), r.1)

rises_append : (low mid high : ℕ) (ks ls : List Scaled) → Rises low mid ks → Rises mid high ls →
    Rises low high (ks ++ ls)
rises_append low mid high [] ls h r = rises_lower low mid high ls h r
rises_append low mid high (k ∷ ks) ls h r = (h.0, rises_append (rank k.from + 1) mid high ks ls h.1 r)

kept_rises : (g : Grid) (net : Net) (i : ℕ) (which : Which) (n : ℕ) →
    Rises (base which) (base which + n) (kept_of g net i which n)
kept_rises g net i which zero = omega arith
kept_rises g net i which (suc n) =
    let c : ℤ = rounded g.fraction (coefficients net which i n) in
    let at = rank_is which n in
    rises_append (base which) (base which + n) (base which + suc n) (kept_of g net i which n)
    (kept g i (read which n) (coefficients net which i n)) (kept_rises g net i which n)
    (cond_both (eqb (unsigned_abs c) 0) [] (scaled g i (read which n) c ∷ [])
    (Rises (base which + n) (base which + suc n)) (λ e. omega arith) (λ e. (omega (arith, at), omega (arith, at))))

row_rises : (g : Grid) (net : Net) (rows inputs i : ℕ) → i ≤ 1000 → rows ≤ 1000 →
    Rises 0 (2000 + inputs) (kept_terms g net rows inputs i)
row_rises g net rows inputs i few some =
    rises_append 0 (1000 + rows) (2000 + inputs) (kept_of g net i NowTable i ++ kept_of g net i OldTable rows)
    (kept_of g net i InTable inputs)
    (rises_append 0 (0 + i) (1000 + rows) (kept_of g net i NowTable i) (kept_of g net i OldTable rows)
    (kept_rises g net i NowTable i)
    (rises_lower (0 + i) 1000 (1000 + rows) (kept_of g net i OldTable rows) (omega (arith, few))
    (kept_rises g net i OldTable rows)))
    (rises_lower (1000 + rows) 2000 (2000 + inputs) (kept_of g net i InTable inputs) (omega (arith, some))
    (kept_rises g net i InTable inputs))

-- ---- so each source is read once

same_rank : (a b : Read) → same_source a b ≡ true → rank a ≡ rank b
same_rank (Now i) (Now j) e = eqb-true i j e
same_rank (Now i) (Old j) e = cc
same_rank (Now i) (In j) e = cc
same_rank (Old i) (Now j) e = cc
same_rank (Old i) (Old j) e = ap (λ x. 1000 + x) (eqb-true i j e)
same_rank (Old i) (In j) e = cc
same_rank (In i) (Now j) e = cc
same_rank (In i) (Old j) e = cc
same_rank (In i) (In j) e = ap (λ x. 2000 + x) (eqb-true i j e)

apart : (shift : ℕ) (a : Read) (low high : ℕ) (ks : List Scaled) → rank a < low → Rises low high ks →
    AllByRecursion (λ (t : CodeTerm). same_source a t.from ≡ false) (map (code_term shift) ks)
apart shift a low high [] h r = tt
apart shift a low high (k ∷ ks) h r =
    let below : low ≤ rank k.from = r.0 in (
      false_from_ne_true (same_source a k.from)
          (λ e. let same = same_rank a k.from e in omega (arith, h, below, same)),
      apart shift a (rank k.from + 1) high ks (omega (arith, h, below)) r.1,
    )

read_once : (shift low high : ℕ) (ks : List Scaled) → Rises low high ks →
    IsDistinct (λ (e t : CodeTerm). same_source e.from t.from) (map (code_term shift) ks)
unfolding IsDistinct
read_once shift low high [] r = tt
read_once shift low high (k ∷ ks) r =
    (apart shift k.from (rank k.from + 1) high ks (omega arith) r.1, read_once shift (rank k.from + 1) high ks r.1)

source_fits : (rows inputs i : ℕ) (which : Which) (j : ℕ) → rows ≤ CODE_ROWS → j < count_of rows inputs i which →
    SourceFits i inputs (read which j)
source_fits rows inputs i NowTable j few h = h
source_fits rows inputs i OldTable j few h = omega (arith, few, h)
source_fits rows inputs i InTable j few h = h

old_there : (rows inputs i : ℕ) (which : Which) (j : ℕ) → j < count_of rows inputs i which →
    OldIsThere rows (read which j)
old_there rows inputs i NowTable j h = tt
old_there rows inputs i OldTable j h = h
old_there rows inputs i InTable j h = tt

pub reads_fit : (mode : Mode) (g : Grid) (net : Net) (rows inputs i : ℕ) → i < rows → rows ≤ CODE_ROWS →
    ReadsFit i inputs (sized 0 (bare_row mode (kept_terms g net rows inputs i)))
reads_fit mode g net rows inputs i h few =
    let ks = kept_terms g net rows inputs i in
    let shift = shift_of ks in
    record {
      sources = All-map (λ (t : CodeTerm). SourceFits i inputs t.from) (code_term shift) ks
          (each_term (λ k. SourceFits i inputs k.from) g net rows inputs i
          (λ which j l some. source_fits rows inputs i which j few l));
      once = read_once shift 0 (2000 + inputs) ks
          (row_rises g net rows inputs i (omega (arith, h, few)) (omega (arith, few)));
    }

-- the rows of the moment before that are read are there
pub reads_there : (mode : Mode) (g : Grid) (net : Net) (rows inputs i : ℕ) →
    All (λ (t : CodeTerm). OldIsThere rows t.from) (bare_row mode (kept_terms g net rows inputs i)).terms
reads_there mode g net rows inputs i =
    let ks = kept_terms g net rows inputs i in
    All-map (λ (t : CodeTerm). OldIsThere rows t.from) (code_term (shift_of ks)) ks
    (each_term (λ k. OldIsThere rows k.from) g net rows inputs i
    (λ which j l some. old_there rows inputs i which j l))
