-- The rows of a program in a net: what they read is there, and their terms and classes make the whole.
use Rattle.std.proofs.Common.{◌≡◌, ℕ, zero, suc, ◌+◌, ◌-◌, ◌*◌, ◌^◌, ◌<◌, ◌≤◌, cond, Bool, true, false, ℤ}
use Rattle.std.proofs.Common.{unsigned_abs, List, [], ◌∷◌, length, map, get_or, slice_index_or, arith, refl, ap}
use Rattle.std.proofs.Common.{sym, ◌∙◌}
use mathlib.Core.Path.{fun_ext}
use Rattle.std.proofs.lemmas.Bool.{cond-true, cond-false, and_from, le-leb, lt-ltb}
use Rattle.std.proofs.lemmas.List.{length-map}
use Rattle.std.proofs.lemmas.Nat.{pow-add}
use Rattle.fx_nums.specs.Fraction.{FractionFits}
use Rattle.fx_nums.specs.declared.fraction.Den.TheVariants.{Two}
use Rattle.fx_net.specs.Laws.{RowsStand}
use Rattle.fx_net.specs.Net.{Net}
use Rattle.fx_net.specs.Rows.{ReadFits, is_within, put_each, put_rows, AreEmpty, HoldsRows}
use Rattle.fx_net.proofs.Filling.{filled}
use Rattle.fx_eqs.specs.declared.limits.TheConstants.{PORTS}
use Rattle.fx_code.specs.Code.{BareRow, Row, Code, row_at, bare, no_row, weight, OldIsThere, IsWhole}
use Rattle.fx_code.specs.Fits.{TermFits, SourceFits, CodeFits}
use Rattle.fx_code.specs.Laws.{BareRowsStand, CodeStands}
use Rattle.fx_code.specs.NetRows.{net_read, net_row, class_of, bare_at, classes_of, put_classes, put_bare_rows}
use Rattle.fx_code.specs.NetRows.{bare_rows, put_code}
use Rattle.fx_code.specs.declared.limits.TheConstants.{LONGEST_SHIFT}
use Rattle.fx_code.specs.declared.term.CodeTerm.{CodeTerm}
use Rattle.fx_code.specs.declared.term.Read.{Read}
use Rattle.fx_code.specs.declared.term.Read.TheVariants.{Now, Old, In}

-- ---- a term

pub fraction_fits : (t : CodeTerm) (shift : ℕ) (w : ℤ) → w ≡ weight t → shift ≤ LONGEST_SHIFT →
    TermFits shift t → FractionFits w (Two shift)
fraction_fits t shift w e h f =
    let scaled : unsigned_abs (weight t) < 2 ^ 24 * 2 ^ shift = omega (arith, f.scaled, pow-add 2 24 shift) in
    rw e (record { den_fits = h; num_fits = f.product; value_fits = scaled })

pub source_fits : (n at i inputs rows : ℕ) (from : Read) → SourceFits i inputs from → OldIsThere rows from →
    inputs ≤ PORTS → at + rows ≤ n → ReadFits n at i (net_read from)
source_fits n at i inputs rows (Now j) source there few room = source
source_fits n at i inputs rows (Old j) source there few room = omega arith
source_fits n at i inputs rows (In j) source there few room = omega arith

-- what term k of row i reads
pub read_fits : (p : Code) (n at i k : ℕ) (ts : List CodeTerm) (d : CodeTerm) → CodeFits p → IsWhole p →
    at + length p.rows ≤ n → i < length p.rows → ts ≡ (row_at p i).own.terms → k < length ts →
    ReadFits n at i (net_read (get_or ts k d).from)
read_fits p n at i k ts d fits whole room row same h =
    let below : k < length (row_at p i).own.terms = rw (← same) h in
    let source = (fits.reads i row).sources k d below in
    let there = whole.reads i _ row k d below in
    rw same (source_fits n at i (length p.inputs) (length p.rows) (get_or (row_at p i).own.terms k d).from source
    there fits.inputs_high room)

-- ---- the whole net

-- each row without its width, those past the rows too
pub bare_is : (rows : List Row) (i : ℕ) → bare_at (map bare rows) i
    ≡ (slice_index_or rows i no_row).own
bare_is [] i = refl
bare_is (row ∷ rows) zero = refl
bare_is (row ∷ rows) (suc i) = bare_is rows i

-- rows that are put leave the classes of a net whose rows were empty, and its other rows
pub rows_put : (rows : List BareRow) (at count : ℕ) (net put : Net) → count ≡ length rows →
    put ≡ put_each at 0 (map net_row rows) net → AreEmpty at count net →
    record put { class = put_classes (classes_of rows) at count put.class } ≡ put_bare_rows rows at net
unfolding put_rows
rows_put rows at count net put same e empty =
    let long : length (map net_row rows) ≡ count = length-map rows net_row ∙ sym same in
    let here : put ≡ put_rows (map net_row rows) at net = e ∙ filled at (map net_row rows) net (rw long empty) in
    ap (λ (n : Net). record n { class = put_classes (classes_of rows) at count n.class }) here
    ∙ ap (λ h. record (put_rows (map net_row rows) at net) { class = h })
    (fun_ext (λ i. by_test i (is_within at count i) (ap (λ n. is_within at n i) long))
    ∙ ap (λ n. put_classes (classes_of rows) at n net.class) same)
  where
    by_test : (i : ℕ) (b : Bool) → is_within at (length (map net_row rows)) i ≡ b →
        cond b (class_of (bare_at rows (i - at)))
        (cond (is_within at (length (map net_row rows)) i) 0 (net.class i))
        ≡ cond b (class_of (bare_at rows (i - at))) (net.class i)
    by_test i true e = refl
    by_test i false e = cond-false _ _ _ e

pub code_put : (p : Code) (at : ℕ) (net put : Net) → put ≡ put_each at 0 (map net_row (bare_rows p)) net →
    AreEmpty at (length p.rows) net →
    record put { class = put_classes (λ r. class_of (row_at p r).own) at (length p.rows) put.class }
    ≡ put_code p at net
code_put p at net put e empty =
    ap (λ (classes : ℕ → ℕ). record put { class = put_classes classes at (length p.rows) put.class })
    (fun_ext (λ r. ap class_of (sym (bare_is p.rows r))))
    ∙ rows_put (bare_rows p) at (length p.rows) net put (sym (length-map p.rows bare)) e empty

pub bare_rows_stand : RowsStand → BareRowsStand
unfolding put_rows
bare_rows_stand stand bare at net room =
    let count : length (map net_row bare) ≡ length bare = length-map bare net_row in
    let rows : HoldsRows (put_rows (map net_row bare) at net) at (map net_row bare) =
    stand (map net_row bare) at net (rw count room) in
    record {
      rows = record { inside = rows.inside; now = rows.now; old = rows.old; input = rows.input };
      classes = λ i h.
          cond-true _ _ _ (and_from _ _ (le-leb at (at + i) (omega arith))
          (lt-ltb (at + i) (at + length bare) (omega arith)))
          ∙ ap (λ n. class_of (bare_at bare n)) (let e : at + i - at ≡ i = omega arith in e);
    }

pub code_stands : RowsStand → CodeStands
code_stands stand p at net room = bare_rows_stand stand (bare_rows p) at net (rw (length-map p.rows bare) room)
