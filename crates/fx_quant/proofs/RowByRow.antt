-- What the rows of a design are, one by one.
use Rattle.std.proofs.Common.{◌≡◌, ℕ, zero, suc, ◌<◌, inl, inr, List, [], ◌∷◌, ◌++◌, length}
use Rattle.std.proofs.Common.{Option, Some, None, Result, Ok, Err, refl, arith, sym, ap, ◌∙◌, length-append}
use Rattle.std.proofs.lemmas.Bool.{cases_lt}
use Rattle.std.proofs.lemmas.List.{get_or_append_left, get_or_push}
use Rattle.fx_math.specs.Faults.{◌>>=◌}
use Rattle.fx_code.specs.Code.{BareRow}
use Rattle.fx_code.specs.NetRows.{bare_at}
use Rattle.fx_net.specs.Net.{Net}
use Rattle.fx_quant.specs.Positions.{Grid}
use Rattle.fx_quant.specs.Quantised.{net_rows}
use Rattle.fx_quant.specs.Rows.{unless_fault, first_rows, bare_row, row_fault, kept_terms, quantised_row}
use Rattle.fx_quant.specs.declared.fault.QuantFault.{QuantFault}
use Rattle.fx_quant.specs.declared.formats.Formats.{Formats}
use Rattle.fx_quant.specs.declared.scaled.Scaled.{Scaled}

-- a chain of two steps that gives a value: the first gave one, and the second gave this from it
pub both : {A B : Type 0} (first : Result A QuantFault) (next : A → Result B QuantFault) (z : B) →
    (first >>= next) ≡ Ok z → (y : A) × (first ≡ Ok y) × (next y ≡ Ok z)
both (Ok y) next z e = (y, refl, e)
both (Err fault) next z e = cc

-- a value is given where there is no fault
pub no_fault : {A : Type 0} (fault : Option QuantFault) (x y : A) → unless_fault fault x ≡ Ok y →
    (fault ≡ None) × (y ≡ x)
no_fault None x y e = (refl, cc)
no_fault (Some f) x y e = cc

-- so many rows, each of them the one that is due
pub record RowsAre (row : ℕ → Result BareRow QuantFault) (n : ℕ) (rows : List BareRow) : Type 0 where
  pub count : length rows ≡ n
  pub each : (i : ℕ) → i < n → row i ≡ Ok (bare_at rows i)

with_last : (row : ℕ → Result BareRow QuantFault) (n : ℕ) (before : List BareRow) (r : BareRow) →
    RowsAre row n before → row n ≡ Ok r → RowsAre row (suc n) (before ++ r ∷ [])
with_last row n before r h e = record {
  count = omega (arith, h.count, length-append before (r ∷ []));
  each = λ i l. elim (cases_lt i n) [
    | inl below ↦ (let within : i < length before = omega (arith, below, h.count) in
        h.each i below ∙ ap Ok (sym (get_or_append_left before (r ∷ []) _ i within)))
    | inr at ↦ (let same : i ≡ n = omega (arith, l, at) in
        ap row same ∙ e ∙ ap Ok (sym (get_or_push before r _ i (omega (arith, h.count, same)))))
  ];
}

pub rows_each : (row : ℕ → Result BareRow QuantFault) (n : ℕ) (rows : List BareRow) → first_rows row n ≡ Ok rows →
    RowsAre row n rows
rows_each row zero rows e =
    let none : rows ≡ [] = cc in
    record { count = ap length none; each = λ i l. absurd (omega (arith, l)) }
rows_each row (suc n) rows e =
    let p = both (first_rows row n) _ rows e in
    let q = both (row n) _ rows p.2 in
    let all : rows ≡ p.0 ++ q.0 ∷ [] = cc in
    rw all (with_last row n p.0 q.0 (rows_each row n p.0 p.1) q.1)

-- a row of terms has no fault, and is the row of these terms
pub row_is_bare : (formats : Formats) (i : ℕ) (ks : List Scaled) (r : BareRow) → quantised_row formats i ks ≡ Ok r →
    (row_fault formats.accumulator i ks ≡ None) × (r ≡ bare_row formats.mode ks)
row_is_bare formats i ks r e = no_fault (row_fault formats.accumulator i ks) (bare_row formats.mode ks) r e

pub rows_count : (formats : Formats) (g : Grid) (net : Net) (n inputs : ℕ) (rows : List BareRow) →
    net_rows formats g net n inputs ≡ Ok rows → length rows ≡ n
rows_count formats g net n inputs rows e =
    (rows_each (λ i. quantised_row formats i (kept_terms g net n inputs i)) n rows e).count
