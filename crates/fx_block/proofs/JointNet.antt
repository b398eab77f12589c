-- The net of a program and equations holds both, and its run has the exact values.
use Rattle.std.proofs.Common.{◌≡◌, ℕ, ◌+◌, ◌≤◌, length, map, arith, refl, sym, ◌∙◌, inl}
use Rattle.std.proofs.lemmas.List.{length-map}
use Rattle.fx_eqs.specs.Expanded.{expanded}
use Rattle.fx_net.specs.Laws.{ExactInNet, OtherRowsStay, OtherRowsStillStand, RowsStand}
use Rattle.fx_net.specs.Net.{Net, empty_net}
use Rattle.fx_net.specs.Rows.{put_rows}
use Rattle.fx_code.specs.Code.{Code, bare}
use Rattle.fx_code.specs.Laws.{CodeStands}
use Rattle.fx_code.specs.NetRows.{bare_rows, net_row, put_code, HoldsCode}
use Rattle.fx_block.specs.Joint.{count_of, joint_values, net_of}
use Rattle.fx_block.specs.Laws.{HoldsBoth, JointNetsHoldBoth, JointValuesAreExact, JointValuesRun}

bare_count : (p : Code) → length (bare_rows p) ≡ length p.rows
bare_count p = length-map p.rows bare

row_count : (p : Code) → length (map net_row (bare_rows p)) ≡ length p.rows
row_count p = length-map (bare_rows p) net_row ∙ bare_count p

-- a net keeps its count of rows
rows_kept : (n : ℕ) (p : Code) → (put_code p 0 (empty_net n)).rows ≡ n
unfolding put_rows
rows_kept n p = refl

pub joint_nets_hold_both : CodeStands → RowsStand → OtherRowsStay → OtherRowsStillStand → JointNetsHoldBoth
joint_nets_hold_both code_stands rows_stand others still n p eqs fits = record {
  code = record {
    rows = still (expanded eqs) (map net_row (bare_rows p)) (length p.rows) 0 first (inl before) code.rows;
    classes = λ i l.
        (let at_row : (0 + i) + 1 ≤ length p.rows = omega (arith, l, bare_count p) in
        sym (others (expanded eqs) (length p.rows) (0 + i) first (inl at_row)).class ∙ code.classes i l);
  };
  equations = rows_stand (expanded eqs) (length p.rows) first (let e : first.rows ≡ n =
      rows_kept n p in omega (arith, fits, e));
}
  where
    first : Net
    first = put_code p 0 (empty_net n)

    code : HoldsCode (put_code p 0 (empty_net n)) 0 p
    code = code_stands p 0 (empty_net n) (omega (arith, fits))

    before : 0 + length (map net_row (bare_rows p)) ≤ length p.rows
    before = omega (arith, row_count p)

pub joint_values_are_exact : (p : Code) → JointNetsHoldBoth → JointValuesRun p → ExactInNet → JointValuesAreExact p
joint_values_are_exact p hold runs exact eqs q g u whole fits den divides =
    let both : HoldsBoth (net_of p eqs) p eqs = hold (count_of p eqs) p eqs (omega arith) in
    let run = runs (net_of p eqs) q u whole both.code den in
    exact eqs (net_of p eqs) (length p.rows) q g u (joint_values (net_of p eqs) p q u) fits both.equations den divides
    (λ k r l. (let inside = both.equations.inside in
    run.others k (length p.rows + r) (omega arith) (omega (arith, inside, l))))
