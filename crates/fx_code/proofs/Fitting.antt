-- What a program's tests refuse not, fits; and what fits, they refuse not.
use Rattle.std.proofs.Common.{◌≡◌, ℕ, ◌+◌, ◌-◌, ◌^◌, ◌<◌, ◌≤◌, ◌∙◌, min, Bool, true, false, IsTrue, not, ◌||◌}
use Rattle.std.proofs.Common.{eqb, List, [], ◌∷◌, ◌++◌, length, All, Option, None, refl, arith, unsigned_abs}
use Rattle.std.proofs.Common.{nat_lt, slice_index_or, inl, inr, append_assoc, length-append}
use Rattle.std.specs.List.{IsDistinct, AllByRecursion, list_any}
use Rattle.std.proofs.lemmas.Bool.{cases_lt, or_parts, or_from, ltb-false, le-ltb, lt-leb}
use Rattle.std.proofs.lemmas.Bool.Decides.{nat_tests}
use Rattle.std.proofs.lemmas.List.{get_or_append_left}
use Rattle.std.proofs.lemmas.List.Elements.{All-push, All-nil, All-cons, All-head, All-tail, All-weaker}
use Rattle.std.proofs.lemmas.List.Folds.{list_any-append}
use Rattle.std.proofs.lemmas.List.Sums.{sum_by-append}
use Rattle.std.proofs.Math.Seq.{get_or-append_seam}
use Rattle.fx_math.specs.Words.{WidthFits, is_accumulator}
use Rattle.fx_math.specs.declared.words.TheConstants.{LEAST_WIDTH, GREATEST_WIDTH}
use Rattle.fx_math.proofs.Faults.{if_none, none_if, or_none}
use Rattle.fx_math.proofs.Orders.{not_le}
use Rattle.fx_eqs.specs.declared.limits.TheConstants.{PORTS}
use Rattle.fx_code.specs.Code.{Row, Code, weight}
use Rattle.fx_code.specs.Fits.{TermFits, RowFits, SourceFits, ReadsFit, CodeFits}
use Rattle.fx_code.specs.Limits.{is_outside, width_fault, start_fault, same_source, source_fault, term_fault}
use Rattle.fx_code.specs.Limits.{terms_fault, term_count, row_fault, output_fault}
use Rattle.fx_code.specs.declared.limits.TheConstants.{CODE_ROWS, CODE_TERMS, LONGEST_SHIFT, COEFFICIENT_BITS}
use Rattle.fx_code.specs.declared.limits.TheConstants.{PRODUCT_BITS}
use Rattle.fx_code.specs.declared.term.CodeTerm.{CodeTerm}
use Rattle.fx_code.specs.declared.term.Read.{Read}
use Rattle.fx_code.specs.declared.term.Read.TheVariants.{Now, Old, In}
use Rattle.fx_code.specs.declared.fault.ProgramFault.{ProgramFault}

-- ---- what no fault means

inside_from : (low high n : ℕ) → is_outside low high n ≡ false → (low ≤ n) × (n ≤ high)
inside_from low high n e =
    let p = or_parts (nat_lt n low) (nat_lt high n) e in
    (ltb-false n low p.0, ltb-false high n p.1)

width_none : (widths : List ℕ) → width_fault widths ≡ None → All WidthFits widths
width_none [] e = All-nil WidthFits
width_none (w ∷ ws) e =
    let p = if_none _ _ _ e in
    let q = inside_from LEAST_WIDTH GREATEST_WIDTH w p.0 in
    All-cons WidthFits w ws (record { low = q.0; high = q.1 }) (width_none ws p.1)

source_none : (n inputs : ℕ) (from : Read) (rest : Option ProgramFault) →
    source_fault n inputs from rest ≡ None → SourceFits n inputs from × (rest ≡ None)
source_none n inputs (Now i) rest e =
    let p = if_none _ _ _ e in
    let q = if_none _ _ _ p.1 in
    (not_le n i q.0, q.1)
source_none n inputs (Old i) rest e =
    let p = if_none _ _ _ e in
    (not_le CODE_ROWS i p.0, p.1)
source_none n inputs (In j) rest e =
    let p = if_none _ _ _ e in
    (not_le inputs j p.0, p.1)

record TermStands (n inputs shift : ℕ) (earlier : List CodeTerm) (t : CodeTerm) : Type 0 where
  fits : TermFits shift t
  source : SourceFits n inputs t.from
  once : list_any (λ e. same_source e.from t.from) earlier ≡ false

term_none : (n inputs shift : ℕ) (earlier : List CodeTerm) (t : CodeTerm) →
    term_fault n inputs shift earlier t ≡ None → TermStands n inputs shift earlier t
term_none n inputs shift earlier t e =
    let left = if_none _ _ _ e in
    let coefficient = if_none _ _ _ left.1 in
    let source = source_none n inputs t.from _ coefficient.1 in
    let once = if_none _ _ _ source.1 in
    let product = if_none _ _ _ once.1 in
    let bounds = or_parts _ _ product.0 in
    record {
      fits = record {
        left = ltb-false LONGEST_SHIFT t.left left.0;
        coefficient = not_le (2 ^ COEFFICIENT_BITS) (unsigned_abs t.coef) coefficient.0;
        product = not_le (2 ^ COEFFICIENT_BITS) (unsigned_abs (weight t)) bounds.0;
        scaled = not_le (2 ^ (PRODUCT_BITS + shift)) (unsigned_abs (weight t)) bounds.1;
      };
      source = source.0;
      once = once.0;
    }

terms_fit : (n inputs shift : ℕ) (earlier ts : List CodeTerm) → terms_fault n inputs shift earlier ts ≡ None →
    All (TermFits shift) ts × All (λ (t : CodeTerm). SourceFits n inputs t.from) ts
terms_fit n inputs shift earlier [] e =
    (All-nil (TermFits shift), All-nil (λ (t : CodeTerm). SourceFits n inputs t.from))
terms_fit n inputs shift earlier (t ∷ ts) e =
    let p = or_none _ _ e in
    let here = term_none n inputs shift earlier t p.0 in
    let rest = terms_fit n inputs shift (earlier ++ t ∷ []) ts p.1 in (
      All-cons (TermFits shift) t ts here.fits rest.0,
      All-cons (λ (x : CodeTerm). SourceFits n inputs x.from) t ts here.source rest.1,
    )

-- a test that no element of a list passes, fails at each
fails_at : (test : CodeTerm → Bool) (before after : List CodeTerm) (e : CodeTerm) →
    list_any test (before ++ e ∷ after) ≡ false → test e ≡ false
fails_at test [] after e h = (or_parts (test e) (list_any test after) h).0
fails_at test (b ∷ before) after e h =
    fails_at test before after e (or_parts (test b) (list_any test (before ++ e ∷ after)) h).1

apart : (n inputs shift : ℕ) (before after : List CodeTerm) (e : CodeTerm) (ts : List CodeTerm) →
    terms_fault n inputs shift (before ++ e ∷ after) ts ≡ None →
    AllByRecursion (λ (t : CodeTerm). same_source e.from t.from ≡ false) ts
apart n inputs shift before after e [] h = tt
apart n inputs shift before after e (t ∷ ts) h =
    let p = or_none _ _ h in
    let here = term_none n inputs shift (before ++ e ∷ after) t p.0 in
    let rest : terms_fault n inputs shift (before ++ e ∷ (after ++ t ∷ [])) ts ≡ None = rw append_assoc at p.1 in (
      fails_at (λ x. same_source x.from t.from) before after e here.once,
      apart n inputs shift before (after ++ t ∷ []) e ts rest,
    )

once_each : (n inputs shift : ℕ) (earlier ts : List CodeTerm) → terms_fault n inputs shift earlier ts ≡ None →
    IsDistinct (λ (e t : CodeTerm). same_source e.from t.from) ts
unfolding IsDistinct
once_each n inputs shift earlier [] e = tt
once_each n inputs shift earlier (t ∷ ts) e =
    let p = or_none _ _ e in
    (apart n inputs shift earlier [] t ts p.1, once_each n inputs shift (earlier ++ t ∷ []) ts p.1)

-- ---- what a program keeps

pub start_fits : (accumulator : ℕ) (inputs : List ℕ) → start_fault accumulator inputs ≡ None →
    CodeFits (record { accumulator = accumulator; inputs = inputs; rows = []; outputs = [] })
start_fits accumulator inputs e =
    let first = if_none _ _ _ e in
    let count = if_none _ _ _ first.1 in
    let within = inside_from 1 PORTS (length inputs) count.0 in
    let h : not (eqb 16 accumulator || (eqb 32 accumulator || (eqb 64 accumulator || false))) ≡ false = first.0 in
    record {
      accumulator = grind (arith, nat_tests, h);
      accumulator_low = grind (arith, nat_tests, h);
      accumulator_high = grind (arith, nat_tests, h);
      inputs_low = within.0;
      inputs_high = within.1;
      input_widths = width_none inputs count.1;
      rows_high = omega arith;
      rows = All-nil _;
      reads = λ n h. absurd (omega arith);
      terms = omega arith;
      outputs_high = omega arith;
      outputs = All-nil _;
    }

-- each entry of a list with one more is one of the list, or that one
pub push_cases : {X : Type 0} (xs : List X) (x d : X) (P : ℕ → X → Type 0) →
    ((n : ℕ) → n < length xs → P n (slice_index_or xs n d)) → P (length xs) x → (n : ℕ) →
    n < length (xs ++ x ∷ []) → P n (slice_index_or (xs ++ x ∷ []) n d)
push_cases xs x d P each last n h =
    elim (cases_lt n (length xs)) [
      | inl below ↦ rw (get_or_append_left xs (x ∷ []) d n below) (each n below)
      | inr at ↦ let same : n ≡ length xs = omega (arith, length-append xs (x ∷ [])) in
          rw (same, get_or-append_seam xs x [] d) last
    ]

pub row_added : (p : Code) (row : Row) → CodeFits p → row_fault p row ≡ None →
    CodeFits (record p { rows = p.rows ++ row ∷ [] })
row_added p row fits e =
    let n = length p.rows in
    let count = if_none _ _ _ e in
    let width = if_none _ _ _ count.1 in
    let shift = if_none _ _ _ width.1 in
    let terms = or_none _ _ shift.1 in
    let total = if_none _ _ _ terms.1 in
    let below : n + 1 ≤ CODE_ROWS = ltb-false CODE_ROWS (n + 1) count.0 in
    let within = inside_from LEAST_WIDTH (min GREATEST_WIDTH p.accumulator) row.width width.0 in
    let shifted : row.own.shift ≤ min LONGEST_SHIFT (p.accumulator - 1) =
    ltb-false (min LONGEST_SHIFT (p.accumulator - 1)) row.own.shift shift.0 in
    let few : term_count p.rows + length row.own.terms ≤ CODE_TERMS = ltb-false CODE_TERMS _ total.0 in
    let each = terms_fit n (length p.inputs) row.own.shift [] row.own.terms terms.0 in
    let longer = length-append p.rows (row ∷ []) in
    let here : RowFits p.accumulator row = record {
      width = record { low = within.0; high = omega (arith, within.1) };
      width_kept = omega (arith, within.1);
      shift_high = omega arith;
      shift_kept = omega (arith, fits.accumulator_low);
      terms = each.0;
    } in
    record {
      accumulator = fits.accumulator;
      accumulator_low = fits.accumulator_low;
      accumulator_high = fits.accumulator_high;
      inputs_low = fits.inputs_low;
      inputs_high = fits.inputs_high;
      input_widths = fits.input_widths;
      rows_high = omega arith;
      rows = All-push (RowFits p.accumulator) p.rows row fits.rows here;
      reads = push_cases p.rows row _ (λ m r. ReadsFit m (length p.inputs) r) fits.reads
          (record { sources = each.1; once = once_each n (length p.inputs) row.own.shift [] row.own.terms terms.0 });
      terms = omega (arith, few, sum_by-append (λ (r : Row). length r.own.terms) p.rows (row ∷ []));
      outputs_high = fits.outputs_high;
      outputs = All-weaker (λ o. o < n) (λ o. o < length (p.rows ++ row ∷ [])) (λ o h.
          omega (arith, longer)) p.outputs fits.outputs;
    }

pub output_added : (p : Code) (i : ℕ) → CodeFits p → output_fault p i ≡ None →
    CodeFits (record p { outputs = p.outputs ++ i ∷ [] })
output_added p i fits e =
    let count = if_none _ _ _ e in
    let row = if_none _ _ _ count.1 in
    let few : length p.outputs + 1 ≤ PORTS = ltb-false PORTS (length p.outputs + 1) count.0 in
    let longer = length-append p.outputs (i ∷ []) in
    record {
      accumulator = fits.accumulator;
      accumulator_low = fits.accumulator_low;
      accumulator_high = fits.accumulator_high;
      inputs_low = fits.inputs_low;
      inputs_high = fits.inputs_high;
      input_widths = fits.input_widths;
      rows_high = fits.rows_high;
      rows = fits.rows;
      reads = fits.reads;
      terms = fits.terms;
      outputs_high = omega arith;
      outputs = All-push (λ o. o < length p.rows) p.outputs i fits.outputs (not_le (length p.rows) i row.0);
    }

-- ---- what fits has no fault

not_outside : (low high n : ℕ) → low ≤ n → n ≤ high → is_outside low high n ≡ false
not_outside low high n above below = or_from _ _ (le-ltb n low above) (le-ltb high n below)

widths_pass : (widths : List ℕ) → All WidthFits widths → width_fault widths ≡ None
widths_pass [] h = refl
widths_pass (w ∷ ws) h =
    let here = All-head WidthFits w ws h in
    none_if _ _ _ (not_outside LEAST_WIDTH GREATEST_WIDTH w here.low here.high)
    (widths_pass ws (All-tail WidthFits w ws h))

not_false : (b : Bool) → IsTrue b → not b ≡ false
not_false true h = refl
not_false false h = cc

pub start_passes : (p : Code) → CodeFits p → start_fault p.accumulator p.inputs ≡ None
start_passes p fits =
    let bits = fits.accumulator in
    let known : not (is_accumulator p.accumulator) ≡ false = not_false _ bits in
    none_if _ _ _ known (none_if _ _ _ (not_outside 1 PORTS (length p.inputs) fits.inputs_low fits.inputs_high)
    (widths_pass p.inputs fits.input_widths))

source_passes : (n inputs : ℕ) (from : Read) (rest : Option ProgramFault) → n ≤ CODE_ROWS →
    SourceFits n inputs from → rest ≡ None → source_fault n inputs from rest ≡ None
source_passes n inputs (Now i) rest few h r =
    none_if _ _ _ (lt-leb CODE_ROWS i (omega arith)) (none_if _ _ _ (lt-leb n i h) r)
source_passes n inputs (Old i) rest few h r = none_if _ _ _ (lt-leb CODE_ROWS i h) r
source_passes n inputs (In j) rest few h r = none_if _ _ _ (lt-leb inputs j h) r

-- none of the terms reads a source of an earlier one, nor of one before it
abbrev pub ReadOnce : List CodeTerm → List CodeTerm → Type 0
ReadOnce earlier [] = Unit {0}
ReadOnce earlier (t ∷ ts) = (list_any (λ (e : CodeTerm). same_source e.from t.from) earlier ≡ false)
    × ReadOnce (earlier ++ t ∷ []) ts

-- the terms read no source of an earlier one
abbrev New : List CodeTerm → List CodeTerm → Type 0
New earlier ts = AllByRecursion (λ (t : CodeTerm).
    list_any (λ (e : CodeTerm). same_source e.from t.from) earlier ≡ false) ts

still_new : (earlier : List CodeTerm) (t : CodeTerm) (ts : List CodeTerm) → New earlier ts →
    AllByRecursion (λ (x : CodeTerm). same_source t.from x.from ≡ false) ts → New (earlier ++ t ∷ []) ts
still_new earlier t [] n a = tt
still_new earlier t (x ∷ xs) n a =
    let last : (same_source t.from x.from || false) ≡ false = or_from _ _ a.0 refl in (
      list_any-append (λ (e : CodeTerm). same_source e.from x.from) earlier (t ∷ []) ∙ or_from _ _ n.0 last,
      still_new earlier t xs n.1 a.1,
    )

all_new : (ts : List CodeTerm) → New [] ts
all_new [] = tt
all_new (t ∷ ts) = (refl, all_new ts)

read_once : (earlier ts : List CodeTerm) → New earlier ts →
    IsDistinct (λ (e t : CodeTerm). same_source e.from t.from) ts → ReadOnce earlier ts
unfolding IsDistinct
read_once earlier [] n d = tt
read_once earlier (t ∷ ts) n d = (n.0, read_once (earlier ++ t ∷ []) ts (still_new earlier t ts n.1 d.0) d.1)

pub distinct_once : (ts : List CodeTerm) → IsDistinct (λ (e t : CodeTerm). same_source e.from t.from) ts →
    ReadOnce [] ts
distinct_once ts d = read_once [] ts (all_new ts) d

terms_pass : (n inputs shift : ℕ) (earlier ts : List CodeTerm) → n ≤ CODE_ROWS → All (TermFits shift) ts →
    All (λ (t : CodeTerm). SourceFits n inputs t.from) ts → ReadOnce earlier ts →
    terms_fault n inputs shift earlier ts ≡ None
terms_pass n inputs shift earlier [] few fits sources once = refl
terms_pass n inputs shift earlier (t ∷ ts) few fits sources once =
    let here = All-head (TermFits shift) t ts fits in
    let source = All-head (λ (x : CodeTerm). SourceFits n inputs x.from) t ts sources in
    let product = or_from _ _ (lt-leb (2 ^ COEFFICIENT_BITS) (unsigned_abs (weight t)) here.product)
    (lt-leb (2 ^ (PRODUCT_BITS + shift)) (unsigned_abs (weight t)) here.scaled) in
    let first : term_fault n inputs shift earlier t ≡ None =
    none_if _ _ _ (le-ltb LONGEST_SHIFT t.left here.left) (
    none_if _ _ _ (lt-leb (2 ^ COEFFICIENT_BITS) (unsigned_abs t.coef) here.coefficient) (
    source_passes n inputs t.from _ few source (
    none_if _ _ _ once.0 (
    none_if _ _ _ product refl)))) in
    rw first (terms_pass n inputs shift (earlier ++ t ∷ []) ts few (All-tail (TermFits shift) t ts fits)
    (All-tail (λ (x : CodeTerm). SourceFits n inputs x.from) t ts sources) once.1)

pub row_passes : (p : Code) (row : Row) → length p.rows < CODE_ROWS → 16 ≤ p.accumulator →
    RowFits p.accumulator row → ReadsFit (length p.rows) (length p.inputs) row →
    term_count p.rows + length row.own.terms ≤ CODE_TERMS → row_fault p row ≡ None
row_passes p row few wide fits reads terms =
    let n = length p.rows in
    none_if _ _ _ (le-ltb CODE_ROWS (n + 1) (omega arith)) (
    none_if _ _ _ (not_outside LEAST_WIDTH (min GREATEST_WIDTH p.accumulator) row.width fits.width.low
    (omega (arith, fits.width.high, fits.width_kept))) (
    none_if _ _ _ (le-ltb (min LONGEST_SHIFT (p.accumulator - 1)) row.own.shift
    (omega (arith, fits.shift_high, fits.shift_kept))) (
    rw (terms_pass n (length p.inputs) row.own.shift [] row.own.terms (omega arith) fits.terms reads.sources
    (distinct_once row.own.terms reads.once)) (
    none_if _ _ _ (le-ltb CODE_TERMS _ terms) refl))))

pub output_passes : (p : Code) (i : ℕ) → length p.outputs < PORTS → i < length p.rows → output_fault p i ≡ None
output_passes p i few below =
    none_if _ _ _ (le-ltb PORTS (length p.outputs + 1) (omega arith))
    (none_if _ _ _ (lt-leb (length p.rows) i below) refl)
