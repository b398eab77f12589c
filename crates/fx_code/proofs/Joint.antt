-- A common denominator of a program's rows and of the expanded rows of an equation system.
use Rattle.std.proofs.Common.{◌≡◌, ℕ, zero, suc, ◌-◌, ◌+◌, ◌*◌, ◌/◌, ◌^◌, ◌<◌, ◌≤◌, List, [], ◌∷◌, map, length}
use Rattle.std.proofs.Common.{get_or, All, arith, ap, ◌∙◌, sym, subst}
use Rattle.std.proofs.Math.Nat.{mul-div_left}
use Rattle.std.proofs.lemmas.Nat.{pow-add, pow_pos}
use Rattle.std.proofs.lemmas.List.Elements.{All-nil, All-cons, All-head, All-tail}
use Rattle.fx_nums.specs.Fraction.{Fraction, den_value, IsWholeOver}
use Rattle.fx_nums.proofs.Denominators.{den_positive}
use Rattle.fx_eqs.specs.Denominator.{DividesEach, common}
use Rattle.fx_eqs.specs.Expanded.{NetTerm, expanded}
use Rattle.fx_eqs.specs.Laws.{CommonDividesEach}
use Rattle.fx_net.specs.Laws.{DividesRows, NewNetsAreDivided, PutRowsAreDivided, ExpandedRowsAreDivided}
use Rattle.fx_net.specs.Net.{empty_net}
use Rattle.fx_net.specs.Rows.{put_rows}
use Rattle.fx_net.specs.Run.{IsDenominator}
use Rattle.fx_code.specs.Code.{Row, bare}
use Rattle.fx_code.specs.Fits.{RowFits}
use Rattle.fx_code.specs.Joint.{JointDenominator, JointCommon}
use Rattle.fx_code.specs.NetRows.{net_term, net_row, bare_rows, put_code}
use Rattle.fx_code.specs.declared.limits.TheConstants.{LONGEST_SHIFT}
use Rattle.fx_code.specs.declared.term.CodeTerm.{CodeTerm}

-- ---- one fraction

multiple : (d m n : ℕ) → 0 < d → n ≡ d * m → d * (n / d) ≡ n
multiple d m n h e = let whole : m * d / d ≡ m = mul-div_left m h in let same : n ≡ m * d =
    omega (arith, e) in rw same (rw whole (omega arith))

whole_further : (g m : ℕ) (c : Fraction) → IsWholeOver g c → IsWholeOver (g * m) c
whole_further g m c h =
    let d : ℕ = den_value c.den in
    multiple d (g / d * m) (g * m) (den_positive c.den) (let e = ap (λ x. x * m) h in omega (arith, e))

shift_whole : (g shift most : ℕ) → shift ≤ most → 2 ^ shift * (g * 2 ^ most / 2 ^ shift) ≡ g * 2 ^ most
shift_whole g shift most h =
    let same : shift + (most - shift) ≡ most = omega arith in
    let power : 2 ^ most ≡ 2 ^ shift * 2 ^ (most - shift) =
    ap (λ e. 2 ^ e) (sym same) ∙ pow-add 2 shift (most - shift) in
    multiple (2 ^ shift) (g * 2 ^ (most - shift)) (g * 2 ^ most) (pow_pos shift) (let e =
    ap (λ x. g * x) power in omega (arith, e))

-- ---- the rows of a program

abbrev IsWhole : ℕ → NetTerm → Type 0
IsWhole q t = IsWholeOver q t.coef

terms_whole : (g shift : ℕ) (ts : List CodeTerm) → shift ≤ LONGEST_SHIFT →
    All (IsWhole (g * 2 ^ LONGEST_SHIFT)) (map (net_term shift) ts)
terms_whole g shift [] h = All-nil (IsWhole (g * 2 ^ LONGEST_SHIFT))
terms_whole g shift (t ∷ ts) h =
    All-cons (IsWhole (g * 2 ^ LONGEST_SHIFT)) (net_term shift t) (map (net_term shift) ts)
    (shift_whole g shift LONGEST_SHIFT h) (terms_whole g shift ts h)

code_whole : (g accumulator : ℕ) (rows : List Row) → All (RowFits accumulator) rows →
    DividesRows (g * 2 ^ LONGEST_SHIFT) (map net_row (map bare rows))
code_whole g accumulator [] all = All-nil (λ (ts : List NetTerm). All (IsWhole (g * 2 ^ LONGEST_SHIFT)) ts)
code_whole g accumulator (row ∷ rows) all =
    All-cons (λ (ts : List NetTerm). All (IsWhole (g * 2 ^ LONGEST_SHIFT)) ts) (net_row row.own)
    (map net_row (map bare rows))
    (terms_whole g row.own.shift row.own.terms (All-head (RowFits accumulator) row rows all).shift_high)
    (code_whole g accumulator rows (All-tail (RowFits accumulator) row rows all))

-- ---- the net

product_positive : (a b : ℕ) → 0 < a → 0 < b → 0 < a * b
product_positive zero b h l = absurd (omega arith)
product_positive (suc a) zero h l = absurd (omega arith)
product_positive (suc a) (suc b) h l = omega arith

pub joint_denominator : NewNetsAreDivided → PutRowsAreDivided → ExpandedRowsAreDivided → JointDenominator
joint_denominator new put expand n g p s fits some divides =
    let q : ℕ = g * 2 ^ LONGEST_SHIFT in
    let positive : 0 < q = product_positive g (2 ^ LONGEST_SHIFT) some (pow_pos LONGEST_SHIFT) in
    let coded : IsDenominator (put_rows (map net_row (bare_rows p)) 0 (empty_net n)) q =
    put (map net_row (bare_rows p)) 0 q (empty_net n) (new n q positive)
    (code_whole g p.accumulator p.rows fits.rows) in
    let code : IsDenominator (put_code p 0 (empty_net n)) q =
    record { positive = positive; now = coded.now; old = coded.old; input = coded.input } in
    put (expanded s) (length p.rows) q (put_code p 0 (empty_net n)) code
    (expand s q (λ k d h. whole_further g (2 ^ LONGEST_SHIFT) (get_or s.terms k d).coef (divides k d h)))

pub joint_common : JointDenominator → CommonDividesEach → JointCommon
joint_common each law n p s fits =
    let once : common s * 1 ≡ common s = omega arith in
    each n (common s) p s fits (law s).0 (subst (λ g. DividesEach g s.terms) once ((law s).1 1))
