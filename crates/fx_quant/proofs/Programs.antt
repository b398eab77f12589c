-- A design as a program: its parts are never refused.
use Rattle.std.proofs.Common.{◌≡◌, ℕ, zero, suc, ◌+◌, ◌-◌, ◌<◌, ◌≤◌, Bool, true, false, List, [], ◌∷◌, ◌++◌, map}
use Rattle.std.proofs.Common.{take, length, All, IsTrue, Option, None, refl, arith, sym, ap, subst, ◌∙◌, length-append}
use Rattle.std.proofs.Common.{inl, inr}
use Rattle.std.specs.Prelude.{slice_index, slice_index_or}
use Rattle.std.proofs.lemmas.Bool.{cases_lt}
use Rattle.std.proofs.lemmas.Bool.Decides.{nat_tests}
use Rattle.std.proofs.lemmas.List.{map_push, take_more, take_all, get_or_append_left, get_or_push}
use Rattle.std.proofs.lemmas.List.Elements.{All-nil, All-push, All-get_or}
use Rattle.std.proofs.lemmas.List.Sums.{sum_by_push, sum_by_more, sum_by-take-le}
use Rattle.fx_math.specs.Answers.{told}
use Rattle.fx_math.specs.Words.{WidthFits, is_accumulator}
use Rattle.fx_code.specs.Code.{BareRow, Row, Code, IsWhole, OldIsThere, bare, no_bare_row}
use Rattle.fx_code.specs.Fits.{RowFits, ReadsFit}
use Rattle.fx_code.specs.Limits.{start_fault, row_fault, is_memory, term_count as code_count}
use Rattle.fx_code.specs.NetRows.{bare_at, bare_rows}
use Rattle.fx_code.specs.declared.fault.ProgramFault.{ProgramFault}
use Rattle.fx_code.specs.declared.term.CodeTerm.{CodeTerm}
use Rattle.fx_code.proofs.Fitting.{start_passes, row_passes}
use Rattle.fx_quant.specs.Design.{Quantised, sized, sized_rows, last_places, as_program, WidthsFit, DesignFits}
use Rattle.fx_quant.specs.Design.{HasShape}
use Rattle.fx_quant.specs.Design.{term_count}

-- ---- what is left of a fault

left_by : (memory : Bool) (fault : ProgramFault) → told (λ f. memory) fault ≡ None → memory ≡ true
left_by true fault e = refl
left_by false fault e = cc

-- where no fault is due, only want of memory is told
pub memory_left : (due : Option ProgramFault) (fault : ProgramFault) → due ≡ None → due ≡ told is_memory fault →
    is_memory fault ≡ true
memory_left due fault none e = left_by (is_memory fault) fault (sym e ∙ none)

-- ---- rows with their widths

pub sized_count : (widths : List ℕ) (rows : List BareRow) (n : ℕ) → length (sized_rows widths rows n) ≡ n
sized_count widths rows zero = refl
sized_count widths rows (suc n) =
    let row = sized (slice_index widths n) (bare_at rows n) in
    omega (arith, sized_count widths rows n, length-append (sized_rows widths rows n) (row ∷ []))

sized_terms : (widths : List ℕ) (rows : List BareRow) (n : ℕ) → n ≤ length rows →
    code_count (sized_rows widths rows n) ≡ term_count (take n rows)
sized_terms widths rows zero h = refl
sized_terms widths rows (suc n) h =
    let next : n + 1 ≡ suc n = omega arith in
    let row = sized (slice_index widths n) (bare_at rows n) in
    let more = sum_by_more (λ (r : BareRow). length r.terms) rows n no_bare_row h in
    sum_by_push (λ (r : Row). length r.own.terms) (sized_rows widths rows n) row
    ∙ ap (λ k. k + length row.own.terms) (sized_terms widths rows n (omega arith))
    ∙ sym more ∙ ap (λ k. term_count (take k rows)) next

pub sized_bare : (widths : List ℕ) (rows : List BareRow) (n : ℕ) → n ≤ length rows →
    map bare (sized_rows widths rows n) ≡ take n rows
sized_bare widths rows zero h = refl
sized_bare widths rows (suc n) h =
    let next : n + 1 ≡ suc n = omega arith in
    map_push bare (sized_rows widths rows n) (sized (slice_index widths n) (bare_at rows n))
    ∙ ap (λ xs. xs ++ bare_at rows n ∷ []) (sized_bare widths rows n (omega arith))
    ∙ sym (take_more rows n no_bare_row h) ∙ ap (λ k. take k rows) next

each_sized : (P : Row → Type 0) (widths : List ℕ) (rows : List BareRow) (n : ℕ) →
    ((i : ℕ) → i < n → P (sized (slice_index widths i) (bare_at rows i))) → All P (sized_rows widths rows n)
each_sized P widths rows zero h = All-nil P
each_sized P widths rows (suc n) h =
    All-push P (sized_rows widths rows n) (sized (slice_index widths n) (bare_at rows n))
    (each_sized P widths rows n (λ i l. h i (omega (arith, l)))) (h n (omega arith))

pub places_count : (rows outputs n : ℕ) → length (last_places rows outputs n) ≡ n
places_count rows outputs zero = refl
places_count rows outputs (suc n) =
    omega (
      arith,
      places_count rows outputs n,
      length-append (last_places rows outputs n) ((rows - outputs + n) ∷ []),
    )

-- ---- never refused

sixteen : (bits : ℕ) → IsTrue (is_accumulator bits) → (16 ≤ bits) × (bits ≤ 64)
sixteen bits h = (grind (arith, nat_tests, h), grind (arith, nat_tests, h))

pub start_unrefused : (d : Quantised) (accumulator : ℕ) (inputs widths : List ℕ) → DesignFits d →
    WidthsFit d accumulator inputs widths → start_fault accumulator inputs ≡ None
start_unrefused d accumulator inputs widths fits sizes =
    let bits = sixteen accumulator sizes.accumulator_listed in
    start_passes (record { accumulator = accumulator; inputs = inputs; rows = []; outputs = [] }) (record {
      accumulator = sizes.accumulator_listed;
      accumulator_low = bits.0;
      accumulator_high = bits.1;
      inputs_low = omega (arith, sizes.inputs_count, fits.inputs_low);
      inputs_high = omega (arith, sizes.inputs_count, fits.inputs_high);
      input_widths = sizes.input_widths;
      rows_high = omega arith;
      rows = All-nil (RowFits accumulator);
      reads = λ n h. absurd (omega (arith, h));
      terms = omega arith;
      outputs_high = omega arith;
      outputs = All-nil (λ (o : ℕ). o < 0);
    })

sized_fits : (d : Quantised) (accumulator : ℕ) (inputs widths : List ℕ) (i : ℕ) → i < length d.rows → DesignFits d →
    WidthsFit d accumulator inputs widths →
    RowFits accumulator (sized (slice_index_or widths i 0) (bare_at d.rows i))
sized_fits d accumulator inputs widths i h fits sizes =
    let within : i < length widths = omega (arith, h, sizes.widths_count) in
    let row = fits.rows i h in
    record {
      width = All-get_or WidthFits widths i 0 within sizes.row_widths;
      width_kept = All-get_or (λ w. w ≤ accumulator) widths i 0 within sizes.widths_kept;
      shift_high = row.shift_high;
      shift_kept = omega (arith, row.shift_kept, sizes.accumulator_kept);
      terms = row.terms;
    }

pub row_unrefused : (d : Quantised) (p : Code) (widths : List ℕ) (i : ℕ) → i < length d.rows → DesignFits d →
    WidthsFit d p.accumulator p.inputs widths → p.rows ≡ sized_rows widths d.rows i →
    row_fault p (sized (slice_index_or widths i 0) (bare_at d.rows i)) ≡ None
row_unrefused d p widths i h fits sizes before =
    let count : length p.rows ≡ i = ap length before ∙ sized_count widths d.rows i in
    let row = sized (slice_index_or widths i 0) (bare_at d.rows i) in
    let more = sum_by_more (λ (r : BareRow). length r.terms) d.rows i no_bare_row h in
    let part = sum_by-take-le (λ (r : BareRow). length r.terms) d.rows (i + 1) in
    let sum : code_count p.rows ≡ term_count (take i d.rows) =
    ap code_count before ∙ sized_terms widths d.rows i (omega (arith, h)) in
    let reads : ReadsFit i (length p.inputs) row =
    subst (λ n. ReadsFit i n row) (sym sizes.inputs_count)
    (record { sources = (fits.reads i h).sources; once = (fits.reads i h).once }) in
    row_passes p row (omega (arith, count, h, fits.rows_high)) (sixteen p.accumulator sizes.accumulator_listed).0
    (sized_fits d p.accumulator p.inputs widths i h fits sizes)
    (subst (λ n. ReadsFit n (length p.inputs) row) (sym count) reads)
    (omega (arith, sum, more, part, fits.few))

-- ---- the whole program

rows_are : (d : Quantised) (accumulator : ℕ) (inputs widths : List ℕ) (outputs : ℕ) →
    bare_rows (as_program d accumulator inputs widths outputs) ≡ d.rows
rows_are d accumulator inputs widths outputs =
    sized_bare widths d.rows (length d.rows) (omega arith) ∙ take_all (length d.rows) d.rows (omega arith)

row_at_sized : (widths : List ℕ) (rows : List BareRow) (n i : ℕ) (r : Row) → i < n →
    slice_index_or (sized_rows widths rows n) i r ≡ sized (slice_index widths i) (bare_at rows i)
row_at_sized widths rows zero i r h = absurd (omega (arith, h))
row_at_sized widths rows (suc n) i r h =
    let row = sized (slice_index widths n) (bare_at rows n) in
    let count = sized_count widths rows n in
    elim (cases_lt i n) [
      | inl below ↦ get_or_append_left (sized_rows widths rows n) (row ∷ []) r i (omega (arith, below, count))
          ∙ row_at_sized widths rows n i r below
      | inr at ↦ (let same : n ≡ i = omega (arith, h, at) in
          get_or_push (sized_rows widths rows n) row r i (count ∙ same)
          ∙ ap (λ k. sized (slice_index widths k) (bare_at rows k)) same)
    ]

place_at : (rows outputs n o : ℕ) → o < n → slice_index_or (last_places rows outputs n) o 0 ≡ rows - outputs + o
place_at rows outputs zero o h = absurd (omega (arith, h))
place_at rows outputs (suc n) o h =
    let count = places_count rows outputs n in
    elim (cases_lt o n) [
      | inl below ↦ get_or_append_left (last_places rows outputs n) ((rows - outputs + n) ∷ []) 0 o
          (omega (arith, below, count)) ∙ place_at rows outputs n o below
      | inr at ↦ (let same : n ≡ o = omega (arith, h, at) in
          get_or_push (last_places rows outputs n) (rows - outputs + n) 0 o (count ∙ same)
          ∙ ap (λ k. rows - outputs + k) same)
    ]

pub has_shape : (d : Quantised) (accumulator : ℕ) (inputs widths : List ℕ) (outputs : ℕ) →
    HasShape d widths outputs (as_program d accumulator inputs widths outputs)
has_shape d accumulator inputs widths outputs = record {
  rows_are = rows_are d accumulator inputs widths outputs;
  row_widths = λ i h. ap (λ (r : Row). r.width) (row_at_sized widths d.rows (length d.rows) i _ h);
  output_count = places_count (length d.rows) outputs outputs;
  places = λ o h. place_at (length d.rows) outputs outputs o h;
}

pub is_whole : (d : Quantised) (accumulator : ℕ) (inputs widths : List ℕ) (outputs : ℕ) → DesignFits d → 1 ≤ outputs →
    IsWhole (as_program d accumulator inputs widths outputs)
is_whole d accumulator inputs widths outputs fits some =
    let n = length d.rows in
    record {
      reads = each_sized (λ (row : Row).
          All (λ (t : CodeTerm). OldIsThere (length (sized_rows widths d.rows n)) t.from) row.own.terms) widths d.rows n
          (λ i h. subst (λ k. All (λ (t : CodeTerm). OldIsThere k t.from) (bare_at d.rows i).terms)
          (sym (sized_count widths d.rows n)) (fits.there i h));
      output = omega (arith, some, places_count n outputs outputs);
    }

-- started, with each row, and with the outputs
pub program_is : (d : Quantised) (accumulator : ℕ) (inputs widths : List ℕ) (outputs : ℕ) (a b z : Code) →
    a ≡ record { accumulator = accumulator; inputs = inputs; rows = []; outputs = [] } →
    b ≡ record a { rows = sized_rows widths d.rows (length d.rows) } →
    z ≡ record b { outputs = last_places (length b.rows) outputs outputs } →
    z ≡ as_program d accumulator inputs widths outputs
program_is d accumulator inputs widths outputs a b z e f g =
    let rows = sized_rows widths d.rows (length d.rows) in
    let with_rows : b ≡ record { accumulator = accumulator; inputs = inputs; rows = rows; outputs = [] } =
    f ∙ ap (λ (x : Code). record x { rows = rows }) e in
    g ∙ ap (λ (y : Code). record y { outputs = last_places (length y.rows) outputs outputs }) with_rows
    ∙ ap (λ n. record {
      accumulator = accumulator;
      inputs = inputs;
      rows = rows;
      outputs = last_places n outputs outputs;
    }) (sized_count widths d.rows (length d.rows))
