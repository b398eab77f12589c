-- The rows of a program that keeps its limits can be computed, and leave the words within their bits.
use Rattle.fx_machine.specs.declared.places.TheConstants.{FIRST_INPUT, FIRST_OLD, WORD_COUNT}
use Rattle.fx_code.specs.declared.limits.TheConstants.{CODE_ROWS, LONGEST_SHIFT}
use Rattle.std.proofs.Common.{◌≡◌, ◌≢◌, ℕ, zero, suc, ◌+◌, ◌*◌, ◌-◌, ◌^◌, ◌<◌, ◌≤◌, ℤ, pos, negsuc, unsigned_abs}
use Rattle.std.proofs.Common.{nat_lt, Bool, true, false, ◌&&◌, refl, subst, ◌*ℤ◌, cond, List, [], ◌∷◌, length, map}
use Rattle.std.proofs.Common.{All, slice_index_or}
use Rattle.std.proofs.Common.{slice_set, inl, inr, sym, ap, ◌∙◌, arith, lit<, lit≤, add-one, get_or-set_same}
use Rattle.std.proofs.Common.{get_or-set_other}
use Rattle.std.specs.Int.{bit_at}
use Rattle.std.proofs.Math.Nat.{pow-le-pow_right, mul-le-mul_left}
use Rattle.std.proofs.lemmas.Nat.{mul-le}
use Rattle.std.proofs.lemmas.Bool.{cases_lt, cases_eq, false≢true, eqb-true}
use Rattle.std.proofs.lemmas.Int.{ints}
use Rattle.std.proofs.lemmas.Bool.Decides.{nat_tests}
use Rattle.std.proofs.lemmas.List.{get_or-map, get_or_past, length-map, length-set}
use Rattle.std.proofs.lemmas.List.Elements.{All-map, All-weaker, All-tail}
use Rattle.std.proofs.lemmas.List.Sums.{get_or-le-sum_by}
use Rattle.fx_math.specs.Residue.{wrap, FitsBits}
use Rattle.fx_machine.proofs.Bits.{IsWithin, wrap_is_bits, within_bits, within_small, zero_fits, half_small}
use Rattle.fx_machine.proofs.Ends.{AreWithin, sure_kept}
use Rattle.fx_math.specs.Division.{floor_div}
use Rattle.fx_eqs.specs.declared.limits.TheConstants.{PORTS}
use Rattle.fx_eqs.specs.declared.mode.Mode.{Mode}
use Rattle.fx_eqs.specs.declared.mode.Mode.TheVariants.{Nearest, Floor}
use Rattle.fx_code.specs.Code.{Row, Code, row_at, no_row, constant_in, constant_of, weight}
use Rattle.fx_code.specs.Fits.{RowFits, SourceFits, CodeFits}
use Rattle.fx_code.specs.Limits.{term_count}
use Rattle.fx_machine.specs.Prepared.{place_of, word_in, half_of, limit_of, code_term_at, is_one}
use Rattle.fx_machine.specs.Prepared.{is_copy, is_sure, kept_kind, sum_kind, greatest, scaled, Plan, plan_of}
use Rattle.fx_machine.specs.Prepared.{plan_for, magnitudes}
use Rattle.fx_machine.specs.Prepared.{sum_of, is_outside, word_of, first_place, IsCopy, Suits, CanRun}
use Rattle.fx_machine.specs.declared.prepared.Kind.{Kind}
use Rattle.fx_machine.specs.declared.prepared.Kind.TheVariants.{Copy, Sure, Word}
use Rattle.fx_machine.specs.Standing.{rows_done, WordsFit, ArePrepared, HasBits}
use Rattle.fx_machine.specs.declared.prepared.PreparedRow.{PreparedRow}
use Rattle.fx_machine.specs.declared.prepared.ScaledTerm.{ScaledTerm}
use Rattle.fx_code.specs.declared.term.CodeTerm.{CodeTerm}
use Rattle.fx_code.specs.declared.term.Read.{Read}
use Rattle.fx_code.specs.declared.term.Read.TheVariants.{Now, Old, In}

-- ---- sources

place_below : (n inputs : ℕ) (from : Read) → n ≤ CODE_ROWS → inputs ≤ PORTS → SourceFits n inputs from →
    place_of from < WORD_COUNT
place_below n inputs (Now i) a b h = omega arith
place_below n inputs (Old i) a b h = omega arith
place_below n inputs (In j) a b h = omega arith

-- a word that is read lies within its limit
source_within : (p : Code) (words : List ℤ) (n : ℕ) (from : Read) → WordsFit p words → n < length p.rows →
    SourceFits n (length p.inputs) from → IsWithin (limit_of p from) (word_in words (place_of from))
source_within p words n (Now i) f h s = within_bits _ _ (f.now i (omega arith))
source_within p words n (Old i) f h s =
    elim (cases_lt i (length p.rows)) [
      | inl here ↦ within_bits _ _ (f.old i here)
      | inr past ↦ let e : word_in words (FIRST_OLD + i) ≡ pos 0 = f.missing i past s in rw e
          (within_bits _ _ (zero_fits _))
    ]
source_within p words n (In j) f h s = within_bits _ _ (f.input j s)

source_small : (p : Code) (words : List ℤ) (n : ℕ) (from : Read) → WordsFit p words → n < length p.rows →
    SourceFits n (length p.inputs) from → unsigned_abs (word_in words (place_of from)) ≤ limit_of p from
source_small p words n from f h s = within_small _ _ (source_within p words n from f h s)

limit_small : (p : Code) (n : ℕ) (from : Read) → CodeFits p → n < length p.rows →
    SourceFits n (length p.inputs) from → limit_of p from ≤ 2 ^ 31
limit_small p n (Now i) f h s = half_small _ 31 (f.rows i _ (omega arith)).width.high
limit_small p n (Old i) f h s =
    elim (cases_lt i (length p.rows)) [
      | inl here ↦ half_small _ 31 (f.rows i _ here).width.high
      | inr past ↦ let e : row_at p i ≡ no_row =
          get_or_past p.rows i _ past in rw e (lit≤ tt)
    ]
limit_small p n (In j) f h s = half_small _ 31 (f.input_widths j 0 s).high

-- ---- magnitudes

magnitudes_le : (p : Code) (words : List ℤ) (ts : List CodeTerm) →
    All (λ (t : CodeTerm). unsigned_abs (word_in words (place_of t.from)) ≤ limit_of p t.from) ts →
    magnitudes words (map scaled ts) ≤ greatest p ts
magnitudes_le p words [] h = omega arith
magnitudes_le p words (t ∷ ts) h =
    let small : unsigned_abs (word_in words (place_of t.from)) ≤ limit_of p t.from = h 0 t (omega arith) in
    let here : unsigned_abs (weight t) * unsigned_abs (word_in words (place_of t.from)) ≤ unsigned_abs
    (weight t) * limit_of p t.from = mul-le-mul_left (unsigned_abs (weight t)) small in
    omega (
      arith,
      here,
      magnitudes_le p words ts (All-tail (λ (x : CodeTerm).
          unsigned_abs (word_in words (place_of x.from)) ≤ limit_of p x.from) t ts h),
    )

greatest_small : (p : Code) (ts : List CodeTerm) →
    All (λ (t : CodeTerm). (unsigned_abs (weight t) < 2 ^ 62) × (limit_of p t.from ≤ 2 ^ 31)) ts →
    greatest p ts ≤ length ts * 2 ^ 93
greatest_small p [] h = omega arith
greatest_small p (t ∷ ts) h =
    let e : (unsigned_abs (weight t) < 2 ^ 62) × (limit_of p t.from ≤ 2 ^ 31) = h 0 t (omega arith) in
    let low : unsigned_abs (weight t) ≤ 2 ^ 62 = omega (arith, e.0) in
    let here : unsigned_abs (weight t) * limit_of p t.from ≤ 2 ^ 62 * 2 ^ 31 =
    mul-le (unsigned_abs (weight t)) (limit_of p t.from) (2 ^ 62) (2 ^ 31) low e.1 in
    omega (
      arith,
      here,
      greatest_small p ts (All-tail (λ (x : CodeTerm).
          (unsigned_abs (weight x) < 2 ^ 62) × (limit_of p x.from ≤ 2 ^ 31)) t ts h),
    )

-- ---- kinds

both_true : (a b : Bool) → (a && b) ≡ true → (a ≡ true) × (b ≡ true)
both_true true b h = (refl, h)
both_true false b h = absurd (false≢true h)

is_one_from : (z : ℤ) → is_one z ≡ true → z ≡ pos 1
is_one_from (pos n) h = let e : n ≡ 1 = grind (arith, nat_tests) in ap pos e
is_one_from (negsuc n) h = absurd (false≢true h)

one_term : (ts : List CodeTerm) → length ts ≡ 1 → ts ≡ code_term_at ts 0 ∷ []
one_term [] h = absurd (omega (arith, h))
one_term (t ∷ []) h = refl
one_term (t ∷ u ∷ us) h = absurd (omega (arith, h))

one_weight : (coef : ℤ) (left : ℕ) → coef ≡ pos 1 → left ≡ 0 → coef *ℤ pos (2 ^ left) ≡ pos 1
one_weight coef left c l = rw (c, l) refl

one_scaled : (ts : List CodeTerm) (t : CodeTerm) → ts ≡ t ∷ [] → weight t ≡ pos 1 →
    map scaled ts ≡ record { multiplier = pos 1; place = first_place (map scaled ts) } ∷ []
one_scaled ts t one w =
    subst (λ (xs : List CodeTerm). map scaled xs
    ≡ record { multiplier = pos 1; place = first_place (map scaled xs) } ∷ []) (sym one)
    (ap (λ (z : ℤ). record { multiplier = z; place = place_of t.from } ∷ []) w)

wider : (limit width : ℕ) (z : ℤ) → limit ≤ half_of width → IsWithin limit z → FitsBits width z
wider limit width z h f = record { low = omega (arith, ints, f.low); high = omega (arith, ints, f.high) }

no_constant : (mode : Mode) → constant_in mode 0 ≡ 0
no_constant Nearest = refl
no_constant Floor = refl

-- a row that is a word of one source
copies : (p : Code) (words : List ℤ) (i : ℕ) → CodeFits p → WordsFit p words → i < length p.rows →
    is_copy p (row_at p i) ≡ true → IsCopy (plan_for p (row_at p i)) words
copies p words i f w h copy =
    let row = row_at p i in
    let t = code_term_at row.own.terms 0 in
    let all = both_true _ _ copy in
    let more = both_true _ _ all.1 in
    let word = both_true _ _ more.1 in
    let rest = both_true _ _ word.1 in
    let shift : row.own.shift ≡ 0 = eqb-true row.own.shift 0 all.0 in
    let none : constant_of row.own ≡ 0 = rw shift (no_constant row.own.mode) in
    let one : length row.own.terms ≡ 1 = eqb-true (length row.own.terms) 1 more.0 in
    let left : t.left ≡ 0 = eqb-true t.left 0 rest.0 in
    let narrow : limit_of p t.from ≤ half_of row.width = grind (arith, nat_tests) in
    let alone : row.own.terms ≡ t ∷ [] = one_term row.own.terms one in
    let source = source_within p words i t.from w h ((f.reads i h).sources 0 _ (omega (arith, one))) in
    let place : first_place (map scaled row.own.terms) ≡ place_of t.from =
    ap (λ (ts : List CodeTerm). first_place (map scaled ts)) alone in
    record {
      shift = shift;
      constant = ap pos none;
      terms = one_scaled row.own.terms t alone (one_weight t.coef t.left (is_one_from t.coef word.0) left);
      kept = (f.rows i _ h).width_kept;
      word = rw place (wider _ _ _ narrow source);
    }

-- what the kind by magnitude says of it
suits_sum : (plan : Plan) (words : List ℤ) (kept : Kind) (bits big : ℕ) → plan.accumulator ≡ bits → bits ≤ 64 →
    unsigned_abs plan.constant + magnitudes words plan.terms ≤ big → big < 2 ^ 126 →
    (unsigned_abs plan.constant + magnitudes words plan.terms < half_of plan.accumulator → Suits kept plan words) →
    Suits (sum_kind bits big kept) plan words
unfolding sum_kind
suits_sum plan words kept bits big same b h k stays =
    elim (cases_lt big (half_of bits)) [
      | inl near ↦ let e : nat_lt big (half_of bits) ≡ true = grind (arith, nat_tests) in
          rw e (stays (rw same (omega (arith, h, near))))
      | inr far ↦ let e : nat_lt big (half_of bits) ≡ false = grind (arith, nat_tests) in
          rw e (elim (cases_lt big (2 ^ 61)) [
            | inl near ↦ let f : nat_lt big (2 ^ 61) ≡ true =
                grind (arith, nat_tests) in rw f (omega (arith, h, near), rw same (narrow bits big b far near))
            | inr past ↦ let f : nat_lt big (2 ^ 61) ≡ false = grind (arith, nat_tests) in rw f (omega (arith, h, k))
          ])
    ]
  where
    narrow : (bits big : ℕ) → bits ≤ 64 → half_of bits ≤ big → big < 2 ^ 61 → bits < 62
    narrow bits big b far near =
        elim (cases_lt bits 62) [
          | inl less ↦ less
          | inr more ↦ let e : 61 ≤ bits - 1 = omega (arith, more) in
              let wide : 2 ^ 61 ≤ half_of bits = pow-le-pow_right (lit< tt) e in
              absurd (omega (arith, wide, far, near))
        ]

kept_suits : (sure : Bool) (plan : Plan) (words : List ℤ) →
    (sure ≡ true → is_outside plan.width (floor_div (sum_of plan words) (2 ^ plan.shift)) ≡ false) →
    unsigned_abs plan.constant + magnitudes words plan.terms < half_of plan.accumulator →
    Suits (cond sure Sure Word) plan words
kept_suits true plan words kept h = (h, kept refl)
kept_suits false plan words kept h = h

suits : (copy : Bool) (kind : Kind) (plan : Plan) (words : List ℤ) → (copy ≡ true → IsCopy plan words) →
    Suits kind plan words → Suits (cond copy Copy kind) plan words
suits true kind plan words one other = one refl
suits false kind plan words one other = other

-- ---- plans

pub can_run : (p : Code) (words : List ℤ) (i : ℕ) → CodeFits p → WordsFit p words → i < length p.rows →
    CanRun (plan_for p (row_at p i)) words
can_run p words i f w h =
    let row : RowFits p.accumulator (row_at p i) = f.rows i _ h in
    let ts = (row_at p i).own.terms in
    let sources = (f.reads i h).sources in
    let few : length ts ≤ term_count p.rows = get_or-le-sum_by (λ (x : Row). length x.own.terms) p.rows i _ h in
    let places : All (λ (t : CodeTerm). place_of t.from < WORD_COUNT) ts =
    All-weaker _ _ (λ (t : CodeTerm) s.
    place_below i (length p.inputs) t.from (omega (arith, f.rows_high, h)) f.inputs_high s) ts sources in
    let small = All-weaker _ (λ (t : CodeTerm).
    unsigned_abs (word_in words (place_of t.from)) ≤ limit_of p t.from) (λ (t : CodeTerm) s.
    source_small p words i t.from w h s) ts sources in
    let within : AreWithin p words ts = All-weaker _ (λ (t : CodeTerm).
    IsWithin (limit_of p t.from) (word_in words (place_of t.from))) (λ (t : CodeTerm) s.
    source_within p words i t.from w h s) ts sources in
    let each : All (λ (t : CodeTerm). (unsigned_abs (weight t) < 2 ^ 62) × (limit_of p t.from ≤ 2 ^ 31)) ts =
    λ k d l. ((row.terms k d l).product, limit_small p i _ f h (sources k d l)) in
    let constant : constant_of (row_at p i).own ≤ 2 ^ 62 =
    constant_small (row_at p i).own.mode (row_at p i).own.shift row.shift_high in
    let bound = greatest_small p ts each in
    record {
      accumulator_low = f.accumulator_low;
      accumulator_high = f.accumulator_high;
      width = row.width;
      half = refl;
      shift = row.shift_high;
      count = w.count;
      places = All-map (λ (t : ScaledTerm). t.place < WORD_COUNT) scaled ts places;
      kind = suits (is_copy p (row_at p i)) _ (plan_for p (row_at p i)) words (copies p words i f w h)
          (suits_sum (plan_for p (row_at p i)) words (kept_kind p (row_at p i)) p.accumulator
          (constant_of (row_at p i).own + greatest p ts) refl f.accumulator_high
          (omega (arith, magnitudes_le p words ts small)) (omega (arith, constant, bound, few, f.terms))
          (kept_suits (is_sure p (row_at p i)) (plan_for p (row_at p i)) words
          (sure_kept p words (row_at p i) within)));
    }
  where
    constant_small : (mode : Mode) (shift : ℕ) → shift ≤ LONGEST_SHIFT → constant_in mode shift ≤ 2 ^ 62
    constant_small Floor shift s = omega arith
    constant_small Nearest zero s = omega arith
    constant_small Nearest (suc r) s = let e : r ≤ 62 = omega arith in pow-le-pow_right (lit< tt) e

pub count_of : (p : Code) (rows : List PreparedRow) → ArePrepared p rows → length rows ≡ length p.rows
count_of p rows same = let e = ap length same in rw (length-map, length-map) at e

-- a prepared row is the plan of its row
pub prepared_at : (p : Code) (rows : List PreparedRow) (i : ℕ) (r : PreparedRow) → ArePrepared p rows →
    i < length p.rows → r ≡ slice_index_or rows i r → plan_of r ≡ plan_for p (row_at p i)
prepared_at p rows i r same h e =
    let count : length rows ≡ length p.rows = count_of p rows same in
    let below : i < length rows = omega (arith, count, h) in
    ap plan_of e ∙ sym (get_or-map plan_of rows i r (plan_of r) below)
    ∙ ap (λ xs. slice_index_or xs i (plan_of r)) same ∙ get_or-map (plan_for p) p.rows i _ (plan_of r) h

-- ---- words

pub fit_kept : (p : Code) (words : List ℤ) (i : ℕ) (z : ℤ) → CodeFits p → WordsFit p words →
    i < length p.rows → WordsFit p (slice_set words i (wrap (row_at p i).width z))
fit_kept p words i z f w h =
    let row : RowFits p.accumulator (row_at p i) = f.rows i _ h in
    let below : i < length words = omega (arith, w.count, f.rows_high, h) in
    record {
      count = length-set words i _ ∙ w.count;
      now = λ j l.
          elim (cases_eq j i) [
            | inl same ↦ rw (same, get_or-set_same words i _ (pos 0) below)
                (wrap_is_bits _ z (omega (arith, row.width.low)))
            | inr other ↦ rw (get_or-set_other words i j _ (pos 0) other) (w.now j l)
          ];
      old = λ j l. rw (get_or-set_other words i (FIRST_OLD + j) _ (pos 0) (omega (arith, f.rows_high, h))) (w.old j l);
      missing = λ j m l. get_or-set_other words i (FIRST_OLD + j) _ (pos 0) (omega (arith, f.rows_high, h))
          ∙ w.missing j m l;
      input = λ j l. rw (get_or-set_other words i (FIRST_INPUT + j) _ (pos 0) (omega (arith, f.rows_high, h)))
          (w.input j l);
    }

pub done_next : (p : Code) (words : List ℤ) (i : ℕ) → rows_done p words (i + 1)
    ≡ slice_set (rows_done p words i) i (word_of (plan_for p (row_at p i)) (rows_done p words i))
done_next p words i = ap (rows_done p words) (add-one i)

pub bits_more : (test : ℕ → Bool) (n marks more : ℕ) → HasBits test n marks →
    bit_at more n ≡ cond (test n) 1 0 → ((j : ℕ) → j ≢ n → bit_at more j ≡ bit_at marks j) →
    HasBits test (n + 1) more
bits_more test n marks more has here others =
    record {
      bits = λ j l.
          elim (cases_eq j n) [
            | inl same ↦ rw same here
            | inr other ↦ others j other ∙ has.bits j (omega (arith, l, other))
          ];
      rest = λ j l. others j (omega (arith, l)) ∙ has.rest j (omega (arith, l));
    }
