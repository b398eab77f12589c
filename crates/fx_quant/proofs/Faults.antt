-- First faults of rows.
use Rattle.std.proofs.Common.{◌≡◌, ℕ, zero, suc, ◌+◌, ◌<◌, inl, inr, Bool, true, false, List, [], ◌∷◌}
use Rattle.std.proofs.Common.{◌++◌, map, All, None, Result, Ok, Err, refl, arith, subst, sym, ap}
use Rattle.std.proofs.Common.{◌∙◌}
use Rattle.std.proofs.lemmas.List.Elements.{All-cons, All-nil}
use Rattle.std.proofs.lemmas.Bool.{cases_lt}
use Rattle.std.proofs.lemmas.List.{map-append}
use Rattle.fx_math.specs.Answers.{IsFault, Fails}
use Rattle.fx_math.specs.Faults.{◌>>=◌}
use Rattle.fx_math.proofs.Answers.{fails_through}
use Rattle.fx_math.proofs.Faults.{if_none}
use Rattle.fx_code.specs.Code.{BareRow}
use Rattle.fx_net.specs.Net.{Net}
use Rattle.fx_sif.specs.Implicit.{Implicit, rows}
use Rattle.fx_quant.specs.Design.{Quantised}
use Rattle.fx_quant.specs.Positions.{Grid, grid}
use Rattle.fx_quant.specs.Quantised.{is_memory, net_rows, form_net, quantised}
use Rattle.fx_quant.specs.Rows.{IsNarrow, wide_fault, first_rows, quantised_row, kept_terms}
use Rattle.fx_quant.specs.Inside.{row_of}
use Rattle.fx_quant.specs.declared.design.DesignRow.{DesignRow}
use Rattle.fx_quant.specs.declared.fault.QuantFault.{QuantFault}
use Rattle.fx_quant.specs.declared.formats.Formats.{Formats}
use Rattle.fx_quant.specs.declared.scaled.Scaled.{Scaled}

-- without a fault no term is too large
pub all_narrow : (i shift place : ℕ) (ks : List Scaled) → wide_fault i shift place ks ≡ None → All (IsNarrow shift) ks
all_narrow i shift place [] e = All-nil (IsNarrow shift)
all_narrow i shift place (k ∷ ks) e =
    let p = if_none _ _ _ e in
    All-cons (IsNarrow shift) k ks p.0 (all_narrow i shift (place + 1) ks p.1)

told_by : {A : Type 0} (memory : Bool) (fault : QuantFault) (due : Result A QuantFault) → due ≡ Err fault →
    IsFault memory fault due
told_by true fault due e = tt
told_by false fault due e = e

-- the fault that is due may be told
pub fault_told : {A : Type 0} (fault : QuantFault) (due : Result A QuantFault) → due ≡ Err fault →
    Fails is_memory fault due
fault_told fault due e = told_by (is_memory fault) fault due e

-- ---- row by row

pub row_more : (row : ℕ → Result BareRow QuantFault) (i : ℕ) (before : List BareRow) (r : BareRow) →
    first_rows row i ≡ Ok before → row i ≡ Ok r → first_rows row (i + 1) ≡ Ok (before ++ r ∷ [])
row_more row i before r e h = let next : i + 1 ≡ suc i = omega arith in rw (next, e, h) refl

fault_next : (row : ℕ → Result BareRow QuantFault) (i : ℕ) (before : List BareRow) (fault : QuantFault) →
    first_rows row i ≡ Ok before → Fails is_memory fault (row i) →
    Fails is_memory fault (first_rows row (suc i))
fault_next row i before fault e h = rw e (fails_through is_memory fault (row i) (λ r. Ok (before ++ r ∷ [])) h)

-- the fault of a row behind rows without one is the first
pub fault_later : (row : ℕ → Result BareRow QuantFault) (i n : ℕ) (before : List BareRow)
    (fault : QuantFault) → i < n → first_rows row i ≡ Ok before → Fails is_memory fault (row i) →
    Fails is_memory fault (first_rows row n)
fault_later row i zero before fault l e h = absurd (omega (arith, l))
fault_later row i (suc n) before fault l e h =
    elim (cases_lt i n) [
      | inl k ↦ fails_through is_memory fault (first_rows row n) _
          (fault_later row i n before fault k e h)
      | inr k ↦ (let same : n ≡ i =
          omega (arith, l, k) in rw same (fault_next row i before fault e h))
    ]

-- the same of the rows of a net
pub rows_later : (formats : Formats) (g : Grid) (net : Net) (count inputs i : ℕ) (before : List BareRow)
    (fault : QuantFault) → i < count →
    first_rows (λ i. quantised_row formats i (kept_terms g net count inputs i)) i ≡ Ok before →
    Fails is_memory fault (quantised_row formats i (kept_terms g net count inputs i)) →
    Fails is_memory fault (net_rows formats g net count inputs)
rows_later formats g net count inputs i before fault l e h =
    fault_later (λ i. quantised_row formats i (kept_terms g net count inputs i)) i count before fault l e h

pub rows_next : (formats : Formats) (g : Grid) (net : Net) (count inputs i : ℕ) (list pushed : List DesignRow)
    (r : DesignRow) →
    first_rows (λ i. quantised_row formats i (kept_terms g net count inputs i)) i ≡ Ok (map row_of list) →
    quantised_row formats i (kept_terms g net count inputs i) ≡ Ok (row_of r) → pushed ≡ list ++ r ∷ [] →
    first_rows (λ i. quantised_row formats i (kept_terms g net count inputs i)) (i + 1) ≡ Ok (map row_of pushed)
rows_next formats g net count inputs i list pushed r e h p =
    let next : first_rows (λ i. quantised_row formats i (kept_terms g net count inputs i)) (i + 1)
    ≡ Ok (map row_of list ++ row_of r ∷ []) =
    row_more (λ i. quantised_row formats i (kept_terms g net count inputs i)) i (map row_of list)
    (row_of r) e h in
    let all : map row_of pushed ≡ map row_of list ++ row_of r ∷ [] = rw (p, map-append) refl in
    rw all next

-- ---- the form

abbrev finished : Implicit → Formats → List BareRow → Result Quantised QuantFault
finished f formats bare = Ok (record { accumulator = formats.accumulator; inputs = f.sizes.u; rows = bare })

same_rows : (f : Implicit) (formats : Formats) (guards : List ℕ) (fraction : ℕ) (net : Net) (g : Grid) →
    net ≡ form_net f → g ≡ grid formats guards f.sizes.y fraction →
    net_rows formats g net (rows f.sizes) f.sizes.u
    ≡ net_rows formats (grid formats guards f.sizes.y fraction) (form_net f) (rows f.sizes)
    f.sizes.u
same_rows f formats guards fraction net g n p =
    ap (λ x. net_rows formats x net (rows f.sizes) f.sizes.u) p
    ∙ ap (λ y. net_rows formats (grid formats guards f.sizes.y fraction) y (rows f.sizes)
    f.sizes.u) n

pub quantised_is : (f : Implicit) (formats : Formats) (guards : List ℕ) (fraction : ℕ) (net : Net) (g : Grid)
    (bare : List BareRow) → net ≡ form_net f → g ≡ grid formats guards f.sizes.y fraction →
    net_rows formats g net (rows f.sizes) f.sizes.u ≡ Ok bare →
    quantised f formats guards fraction
    ≡ Ok (record { accumulator = formats.accumulator; inputs = f.sizes.u; rows = bare })
quantised_is f formats guards fraction net g bare n p e =
    ap (λ r. r >>= finished f formats) (sym (same_rows f formats guards fraction net g n p) ∙ e)

pub quantised_fails : (f : Implicit) (formats : Formats) (guards : List ℕ) (fraction : ℕ) (net : Net)
    (g : Grid) (fault : QuantFault) → net ≡ form_net f → g ≡ grid formats guards f.sizes.y fraction →
    Fails is_memory fault (net_rows formats g net (rows f.sizes) f.sizes.u) →
    Fails is_memory fault (quantised f formats guards fraction)
quantised_fails f formats guards fraction net g fault n p e =
    subst (λ r. Fails is_memory fault (r >>= finished f formats))
    (same_rows f formats guards fraction net g n p)
    (fails_through is_memory fault (net_rows formats g net (rows f.sizes) f.sizes.u)
    (finished f formats) e)
