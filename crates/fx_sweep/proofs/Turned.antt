-- A whole moment, from its parts.
use Rattle.std.proofs.Common.{◌≡◌, ℕ, ◌+◌, ◌*◌, ◌≤◌, refl, arith, List}
use Rattle.std.specs.Prelude.{Result, Ok, Err, OnOk}
use Rattle.std.proofs.lemmas.Int.{ints}
use Rattle.fx_net.specs.Net.{Net}
use Rattle.fx_nums.specs.Fraction.{Fraction}
use Rattle.fx_nums.specs.Interval.{Interval, magnitude}
use Rattle.fx_sweep.specs.Steps.{AreNarrow, carried_width, greatest}
use Rattle.fx_sweep.specs.Steps.{product_apart, product_bound, range_in}
use Rattle.fx_sweep.specs.Swept.{interval_in}
use Rattle.fx_sweep.specs.Weights.{carry, settle, taken, to_input}

pub carry_is : (net : Net) (n m : ℕ) (table : ℕ → ℕ → Fraction) (at : ℕ → Interval) → net.rows ≡ n → m ≡ n →
    table ≡ net.old → (λ (j : ℕ). taken m at (λ i. table i j)) ≡ carry net at
unfolding carry
carry_is net n m table at e f h = rw (f, ← e, h) refl

pub input_is : (net : Net) (n m : ℕ) (table : ℕ → ℕ → Fraction) (at : ℕ → Interval) → net.rows ≡ n → m ≡ n →
    table ≡ net.input → (λ (j : ℕ). taken m at (λ i. table i j)) ≡ to_input net at
unfolding to_input
input_is net n m table at e f h = rw (f, ← e, h) refl

pub narrow_again : (xs : List Interval) (m : ℕ) → m ≤ 64 →
    ((i : ℕ) → magnitude (interval_in xs i) ≤ greatest) →
    AreNarrow (m * product_bound) (m * product_apart) xs → AreNarrow greatest carried_width xs
narrow_again xs m few small near j =
    let s = small j in
    let n = (near j).near in
    record { low = omega (arith, s); high = omega (arith, s); near = omega (arith, ints, few, n) }

-- ---- answers

pub always_ok : {A E : Type 0} (r : Result A E) (P : Type 0) → P → OnOk r P
always_ok (Ok x) P p = p
always_ok (Err e) P p = tt

pub where_ok : {A E : Type 0} (r : Result A E) (P Q : Type 0) → OnOk r P → (P → Q) → OnOk r Q
where_ok (Ok x) P Q p f = f p
where_ok (Err e) P Q p f = tt

-- ---- the same, of equal numbers

pub same_ranges : (net : Net) (n : ℕ) (s t : ℕ → Interval) (g h k l : ℕ → ℕ) → s ≡ t → g ≡ h → k ≡ l →
    range_in net n (settle net n s) g k ≡ range_in net n (settle net n t) h l
same_ranges net n s t g h k l a b c = rw (a, b, c) refl

-- gains, raised by what the inputs get
abbrev pub raised : Net → ℕ → (ℕ → Interval) → (ℕ → ℕ) → ℕ → ℕ
raised net n at gains j = gains j + magnitude (to_input net (settle net n at) j)

pub same_gains : (net : Net) (n : ℕ) (s t : ℕ → Interval) (g h : ℕ → ℕ) → s ≡ t → g ≡ h →
    raised net n s g ≡ raised net n t h
same_gains net n s t g h a b = rw (a, b) refl
