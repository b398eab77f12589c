-- What the fields of a program keep.
use Rattle.std.proofs.Common.{◌≡◌, ℕ, ◌+◌, ◌<◌, ◌≤◌, List, [], ◌∷◌, ◌++◌, length, map, Vec, Global, None, arith}
use Rattle.std.proofs.Common.{slice_index_or, subst, sym, ap, ◌∙◌}
use Rattle.std.proofs.lemmas.List.{get_or-map, length-map, map-append}
use Rattle.std.proofs.lemmas.List.Sums.{sum_by-append, get_or-le-sum_by}
use Rattle.fx_eqs.specs.declared.mode.Mode.{Mode}
use Rattle.fx_code.specs.Code.{Row, Code, row_at}
use Rattle.fx_code.specs.Fits.{RowFits}
use Rattle.fx_code.specs.Inside.{row_of, code_of, IsKept}
use Rattle.fx_code.specs.Limits.{term_count, row_fault}
use Rattle.fx_code.specs.declared.limits.TheConstants.{CODE_TERMS}
use Rattle.fx_code.specs.declared.program.Program.TheInside.{Inside}
use Rattle.fx_code.specs.declared.program.ProgramRow.{ProgramRow}
use Rattle.fx_code.specs.declared.term.CodeTerm.{CodeTerm}
use Rattle.fx_code.proofs.Fitting.{row_added}

-- the row that is read
pub record IsRow (p : Code) (i : ℕ) (r : ProgramRow) : Type 0 where
  pub value : row_of r ≡ row_at p i
  pub fits : RowFits p.accumulator (row_of r)
  pub few : length r.terms.items ≤ CODE_TERMS

pub row_read : (a : Inside) (p : Code) → code_of a ≡ p → IsKept a → (i : ℕ) → i < length p.rows →
    (r : ProgramRow) → r ≡ slice_index_or a.rows.items i r → IsRow p i r
row_read a p same kept i h r e =
    let below = subst (λ (x : Code). i < length x.rows) (sym same) h in
    let here : row_of r ≡ row_at (code_of a) i = ap row_of e
    ∙ sym (get_or-map row_of a.rows.items i r _ (rw length-map at below)) in
    let few : length (row_at (code_of a) i).own.terms ≤ term_count (code_of a).rows =
    get_or-le-sum_by (λ (x : Row). length x.own.terms) (code_of a).rows i _ below in
    let same_length : length r.terms.items ≡ length (row_at (code_of a) i).own.terms =
    ap (λ (x : Row). length x.own.terms) here in
    subst (λ (x : Code). IsRow x i r) same (record {
      value = here;
      fits = subst (RowFits a.accumulator) (sym here) (kept.fits.rows i _ below);
      few = omega (arith, same_length, kept.fits.terms);
    })

-- the fields after a row was pushed
pub row_pushed : (a : Inside) (p : Code) (width shift : ℕ) (mode : Mode) (terms : List CodeTerm)
    (copied : Vec CodeTerm Global) (rows : Vec ProgramRow Global) → code_of a ≡ p → IsKept a →
    row_fault p (record { width = width; own = record { shift = shift; mode = mode; terms = terms } }) ≡ None →
    copied.items ≡ terms →
    rows.items ≡ a.rows.items ++ record { width = width; shift = shift; mode = mode; terms = copied } ∷ [] →
    IsKept (record a { rows = rows; terms = a.terms + length terms })
row_pushed a p width shift mode terms copied rows same kept e copy pushed =
    let row : Row = record { width = width; own = record { shift = shift; mode = mode; terms = terms } } in
    let before = map row_of a.rows.items in
    let none = subst (λ (x : Code). row_fault x row ≡ None) (sym same) e in
    let fits = row_added (code_of a) row kept.fits none in
    let all : map row_of rows.items ≡ before ++ row ∷ [] = rw (pushed, map-append, copy) in
    let count : term_count (before ++ row ∷ []) ≡ term_count before + length terms =
    omega (arith, sum_by-append (λ (r : Row). length r.own.terms) before (row ∷ [])) in
    record { fits = rw all fits; count = rw (all, count, kept.count) }
