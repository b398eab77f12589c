-- One moment of a sweep, down through its rows and over to the moment before, and the sum over the moments of a block.
use Rattle.std.proofs.Common.{◌≡◌, ℕ, zero, suc, ◌<◌, ◌≤◌, arith, refl, ap, ◌∙◌}
use Rattle.std.proofs.Math.IntN.{ℤ, pos, ◌+ℤ◌, ◌-ℤ◌, ◌*ℤ◌}
use Rattle.std.specs.Int.Signed.{◌≤ℤ◌}
use Rattle.std.proofs.lemmas.Int.{ints}
use Rattle.std.proofs.lemmas.Bool.{lt-ltb, le-ltb}
use borrow.Author.Differences.{up}
use Rattle.fx_math.specs.Sums.{total}
use Rattle.fx_math.proofs.Sums.{total_add, total_ext}
use Rattle.fx_eqs.specs.declared.limits.TheConstants.{PORTS}
use Rattle.fx_nums.specs.Arithmetic.{multiple, width}
use Rattle.fx_nums.specs.Interval.{Interval, plus}
use Rattle.fx_net.specs.Blocks.{IsBlock, reads}
use Rattle.fx_net.specs.Net.{Net}
use Rattle.fx_net.specs.Run.{IsDenominator}
use Rattle.fx_sweep.specs.Weights.{hand_on, settle, carry, to_input, carried, settled, inputs}
use Rattle.fx_sweep.proofs.RowLaw.{handed_on, row_law}
use Rattle.fx_sweep.proofs.Sides.{upper, upper_plus, upper_split, uppers_gather}

-- ---- rows in turn

pub hand_on_before : (net : Net) (n : ℕ) (at : ℕ → Interval) (j : ℕ) → j < n →
    hand_on net n at j ≡ plus (at j) (multiple (at n).lo (net.now n j))
unfolding hand_on
hand_on_before net n at j h = rw (lt-ltb j n h)

pub hand_on_past : (net : Net) (n : ℕ) (at : ℕ → Interval) (j : ℕ) → n ≤ j → hand_on net n at j ≡ at j
unfolding hand_on
hand_on_past net n at j h = rw (le-ltb j n h)

pub settle_past : (net : Net) (n : ℕ) (at : ℕ → Interval) (r : ℕ) → n ≤ r → settle net n at r ≡ at r
settle_past net zero at r h = refl
settle_past net (suc n) at r h = settle_past net n (hand_on net n at) r (omega arith)
    ∙ hand_on_past net n at r (omega arith)

handed : (net : Net) (n : ℕ) (at : ℕ → Interval) (v : ℕ → ℤ) →
    total n (λ j. upper (hand_on net n at j) (v j))
    ≡ total n (λ j. upper (at j) (v j)) +ℤ total n (λ j. upper (multiple (at n).lo (net.now n j)) (v j))
handed net n at v =
    total_ext n (λ j. upper (hand_on net n at j) (v j)) (λ j.
    upper (at j) (v j) +ℤ upper (multiple (at n).lo (net.now n j)) (v j))
    (λ j l. ap (λ a. upper a (v j)) (hand_on_before net n at j l)
    ∙ upper_plus (at j) (multiple (at n).lo (net.now n j)) (v j))
    ∙ total_add n (λ j. upper (at j) (v j)) (λ j. upper (multiple (at n).lo (net.now n j)) (v j))

-- what row j leaves: its width at v j, and what its weight hands on
abbrev leaves : Net → ℕ → Interval → (ℕ → ℤ) → (ℕ → ℤ) → (ℕ → ℤ) → (ℕ → ℤ) → ℤ
leaves net j a v o u p = (a.hi -ℤ a.lo) *ℤ pos (up (v j)) +ℤ handed_on net j a.lo o u p

settle_law : (net : Net) (q : ℕ) → IsDenominator net q → (v o u p : ℕ → ℤ) →
    ((i : ℕ) → i < net.rows → pos q *ℤ v i ≡ reads net q i v o u +ℤ pos q *ℤ p i) →
    (n : ℕ) → n ≤ net.rows → (at : ℕ → Interval) →
    total n (λ j. upper (at j) (v j)) ≤ℤ total n (λ j. leaves net j (settle net n at j) v o u p)
settle_law net q d v o u p holds zero h at = omega (arith, ints)
settle_law net q d v o u p holds (suc n) h at =
    let below : total n (λ j. upper (hand_on net n at j) (v j)) ≤ℤ total n (λ j.
    leaves net j (settle net n (hand_on net n at) j) v o u p) =
    settle_law net q d v o u p holds n (omega arith) (hand_on net n at) in
    let split : upper (at n) (v n) ≡ (at n).lo *ℤ v n +ℤ ((at n).hi -ℤ (at n).lo) *ℤ pos (up (v n)) =
    upper_split (at n) (v n) in
    let row : ((at n).lo *ℤ v n) ≤ℤ
    (total n (λ j. upper (multiple (at n).lo (net.now n j)) (v j)) +ℤ handed_on net n (at n).lo o u p) =
    row_law net q d n (omega arith) (at n).lo v o u p (holds n (omega arith)) in
    let here : leaves net n (settle net n (hand_on net n at) n) v o u p ≡ leaves net n (at n) v o u p =
    ap (λ a. leaves net n a v o u p) (settle_past net n (hand_on net n at) n (omega arith)
    ∙ hand_on_past net n at n (omega arith)) in
    omega (arith, ints, below, split, row, here, handed net n at v)

-- ---- over to the moment before

gathered : (net : Net) (at : ℕ → Interval) (v o u p : ℕ → ℤ) →
    total net.rows (λ j. leaves net j (at j) v o u p)
    ≡ total net.rows (λ j. width (at j) *ℤ pos (up (v j)))
    +ℤ (total net.rows (λ j. upper (carry net at j) (o j))
    +ℤ total PORTS (λ j. upper (to_input net at j) (u j))
    +ℤ total net.rows (λ j. (at j).lo *ℤ p j))
unfolding carry to_input
gathered net at v o u p =
    let a : total net.rows (λ j. leaves net j (at j) v o u p)
    ≡ total net.rows (λ j. width (at j) *ℤ pos (up (v j))) +ℤ total net.rows (λ j.
    handed_on net j (at j).lo o u p) =
    total_add net.rows (λ j. width (at j) *ℤ pos (up (v j))) (λ j. handed_on net j (at j).lo o u p) in
    let b : total net.rows (λ j. handed_on net j (at j).lo o u p)
    ≡ total net.rows (λ j. total net.rows (λ k. upper (multiple (at j).lo (net.old j k)) (o k)) +ℤ total
    PORTS (λ k. upper (multiple (at j).lo (net.input j k)) (u k))) +ℤ total net.rows (λ j. (at j).lo *ℤ p j) =
    total_add net.rows (λ j.
    total net.rows (λ k. upper (multiple (at j).lo (net.old j k)) (o k)) +ℤ total PORTS (λ k.
    upper (multiple (at j).lo (net.input j k)) (u k))) (λ j. (at j).lo *ℤ p j) in
    let c = total_add net.rows (λ j. total net.rows (λ k. upper (multiple (at j).lo (net.old j k)) (o k)))
    (λ j. total PORTS (λ k. upper (multiple (at j).lo (net.input j k)) (u k))) in
    let d = uppers_gather net.rows net.rows (λ i j. multiple (at i).lo (net.old i j)) o in
    let e = uppers_gather net.rows PORTS (λ i j. multiple (at i).lo (net.input i j)) u in
    omega (arith, ints, a, b, c, d, e)

-- ---- the moments of a block

-- what moment n of the sweep adds
abbrev pub moment_part : Net → (ℕ → Interval) → ℕ → (ℕ → ℕ → ℤ) → (ℕ → ℕ → ℤ) → (ℕ → ℕ → ℤ) → ℕ → ℤ
moment_part net start d v u p n =
    total net.rows (λ j. width (settled net start n j) *ℤ pos (up (v n j)))
    +ℤ (total PORTS (λ j. upper (inputs net start n j) (u n j *ℤ pos d))
    +ℤ total net.rows (λ j. (settled net start n j).lo *ℤ p n j))

-- what is carried to the rows n moments before the last, at their values
abbrev pub carried_sum : Net → (ℕ → Interval) → (ℕ → ℕ → ℤ) → ℕ → ℤ
carried_sum net start v n = total net.rows (λ j. upper (carried net start n j) (v n j))

moment_law : (net : Net) (q d : ℕ) (v u p : ℕ → ℕ → ℤ) → IsDenominator net q → IsBlock net q d v u p →
    (start : ℕ → Interval) (n : ℕ) →
    carried_sum net start v n ≤ℤ (moment_part net start d v u p n +ℤ carried_sum net start v (suc n))
moment_law net q d v u p den block start n =
    let one : carried_sum net start v n ≤ℤ total net.rows (λ j.
    leaves net j (settled net start n j) (v n) (v (suc n)) (λ j. u n j *ℤ pos d) (p n)) =
    settle_law net q den (v n) (v (suc n)) (λ j. u n j *ℤ pos d) (p n) (block.row n) net.rows (omega arith)
    (carried net start n) in
    omega (arith, ints, one, gathered net (settled net start n) (v n) (v (suc n)) (λ j. u n j *ℤ pos d) (p n))

pub block_sum : (net : Net) (q d : ℕ) (v u p : ℕ → ℕ → ℤ) → IsDenominator net q → IsBlock net q d v u p →
    (start : ℕ → Interval) (m : ℕ) →
    carried_sum net start v 0 ≤ℤ (total m (moment_part net start d v u p) +ℤ carried_sum net start v m)
block_sum net q d v u p den block start zero = omega (arith, ints)
block_sum net q d v u p den block start (suc m) =
    omega (arith, ints, block_sum net q d v u p den block start m, moment_law net q d v u p den block start m)
