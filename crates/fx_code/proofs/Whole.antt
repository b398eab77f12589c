-- A program is whole where its fields say so.
use Rattle.std.proofs.Common.{◌≡◌, ℕ, ◌<◌, List, length, map, All, subst, sym}
use Rattle.std.proofs.lemmas.List.{get_or-map, length-map}
use Rattle.std.proofs.lemmas.List.Elements.{All-map}
use Rattle.fx_code.specs.Code.{Row, Code, OldIsThere, IsWhole}
use Rattle.fx_code.specs.Inside.{row_of, code_of, RowReadsFit}
use Rattle.fx_code.specs.declared.program.Program.TheInside.{Inside}
use Rattle.fx_code.specs.declared.program.ProgramRow.{ProgramRow}
use Rattle.fx_code.specs.declared.term.CodeTerm.{CodeTerm}

RowReads : ℕ → Row → Type 0
RowReads count row = All (λ (t : CodeTerm). OldIsThere count t.from) row.own.terms

-- of rows and of what contracts see of them
map_back : (count : ℕ) (rows : List ProgramRow) → All (RowReads count) (map row_of rows) → All (RowReadsFit count) rows
unfolding RowReads
map_back count rows h k r below =
    subst (RowReads count) (get_or-map row_of rows k r (row_of r) below) (h k (row_of r) (rw length-map below))

pub whole_from : (a : Inside) (p : Code) (n : ℕ) (rows : List ProgramRow) → code_of a ≡ p →
    0 < length a.outputs.items → n ≡ length a.rows.items → rows ≡ a.rows.items → All (RowReadsFit n) rows →
    IsWhole p
unfolding RowReads
whole_from a p n rows same output count is reads =
    let e : n ≡ length (map row_of a.rows.items) = rw length-map count in
    let here : All (RowReadsFit (length (map row_of a.rows.items))) a.rows.items = rw (← e, ← is) reads in
    subst IsWhole same (record {
      reads =
          All-map (RowReads (length (map row_of a.rows.items))) row_of a.rows.items here;
      output = output;
    })

pub reads_from : (a : Inside) (p : Code) (n : ℕ) (rows : List ProgramRow) → code_of a ≡ p →
    n ≡ length a.rows.items → rows ≡ a.rows.items → IsWhole p → All (RowReadsFit n) rows
unfolding RowReads
reads_from a p n rows same count is whole =
    let w : IsWhole (code_of a) = subst IsWhole (sym same) whole in
    let e : length (map row_of a.rows.items) ≡ n = rw length-map (sym count) in
    rw is (map_back n a.rows.items (subst (λ m. All (RowReads m) (map row_of a.rows.items)) e w.reads))
