-- The net of a program and equations with empty rows behind.
use Rattle.std.proofs.Common.{◌≡◌, ℕ, ◌+◌, ◌≤◌, length, map, All, arith}
use Rattle.std.proofs.lemmas.List.{length-map}
use Rattle.std.proofs.lemmas.List.Elements.{All-map, All-weaker}
use Rattle.fx_eqs.specs.Equations.{Equations}
use Rattle.fx_eqs.specs.Expanded.{expanded}
use Rattle.fx_eqs.specs.Fits.{EquationsFit}
use Rattle.fx_net.specs.Net.{empty_net}
use Rattle.fx_net.specs.Rows.{AreEmpty}
use Rattle.fx_code.specs.Code.{Code, IsWhole, OldIsThere, bare}
use Rattle.fx_code.specs.Code as code
use Rattle.fx_code.specs.Joint.{joint_net}
use Rattle.fx_code.specs.NetRows.{bare_rows, net_row, put_code}
use Rattle.fx_code.specs.declared.term.CodeTerm.{CodeTerm}
use Rattle.fx_totals.specs.Padding.{IsPadded}
use Rattle.fx_block.proofs.Padding as block
use Rattle.fx_block.proofs.Padding.{AreBelow, RowsBelow, bare_row_below, rows_leave_empty}

code_below : (p : Code) → IsWhole p → RowsBelow (length p.rows) (map net_row (bare_rows p))
code_below p whole =
    All-map (AreBelow (length p.rows)) net_row (bare_rows p)
    (All-map (λ row. AreBelow (length p.rows) (net_row row)) bare p.rows
    (All-weaker (λ (row : code.Row). All (λ (t : CodeTerm). OldIsThere (length p.rows) t.from) row.own.terms)
    (λ (row : code.Row). AreBelow (length p.rows) (net_row row.own))
    (λ row. bare_row_below (length p.rows) row.own) p.rows whole.reads))

-- behind the rows of a program a new net is still empty
pub code_leaves_empty : (p : Code) (n place count : ℕ) → length p.rows ≤ place →
    AreEmpty place count (put_code p 0 (empty_net n))
code_leaves_empty p n place count behind =
    let long : length (bare_rows p) ≡ length p.rows = length-map p.rows bare in
    rows_leave_empty (bare_rows p) n place count (omega (arith, long, behind))

pub is_padded : (p : Code) (s : Equations) (m n : ℕ) → IsWhole p → EquationsFit s →
    m ≡ length p.rows + length (expanded s) → m ≤ n → IsPadded (joint_net m p s) (joint_net n p s)
is_padded p s m n whole fits count room =
    block.is_padded (bare_rows p) s (length p.rows) m n (length-map p.rows bare) (code_below p whole) fits count room
