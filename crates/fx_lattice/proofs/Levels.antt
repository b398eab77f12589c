-- One order after the other encloses the exact values of that order.
use Rattle.std.proofs.Common.{◌≡◌, ℕ, zero, suc, ◌+◌, ◌-◌, ◌*◌, ◌^◌, ◌<◌, ◌≤◌, Bool, true, false, List, [], ◌∷◌}
use Rattle.std.proofs.Common.{◌++◌, length, Option, Some, None, option_and_then, Result, Ok, Err, refl, sym}
use Rattle.std.proofs.Common.{◌∙◌, arith, subst, lit<, ◌⊎◌, inl, inr, pos, ◌*ℤ◌, ◌≤ℤ◌}
use Rattle.std.proofs.Math.Nat.{one-le-mul, one-le-pow}
use Rattle.std.proofs.lemmas.Bool.{cases_eq}
use Rattle.std.proofs.lemmas.Int.{ints}
use Rattle.std.proofs.lemmas.List.{get_or_append_left, get_or_at, length-append}
use Rattle.std.proofs.lemmas.Option.{option_and_then_some}
use Rattle.fx_math.specs.Faults.{◌>>=◌, or_fault, unless}
use Rattle.fx_math.specs.Ratio.{difference_of, product_of, Ratio, SameValue, whole}
use Rattle.fx_math.proofs.Division.{ceil_above, floor_below}
use Rattle.fx_nums.specs.Enclosing.{Encloses}
use Rattle.fx_nums.specs.Fraction.{den_value, Fraction, value_of}
use Rattle.fx_nums.specs.Interval.{Interval, point}
use Rattle.fx_nums.specs.declared.fraction.Den.{Den}
use Rattle.fx_nums.specs.declared.fraction.Den.TheVariants.{Two, Ten}
use Rattle.fx_eqs.specs.declared.limits.TheConstants.{REFLECTIONS}
use Rattle.fx_sif.specs.Entries.{coefficient}
use Rattle.fx_lattice.specs.Exact.{Enclosures, EnclosesExact, EnclosesLattice, EnclosesOrder, MeetsStepDown}
use Rattle.fx_lattice.specs.Exact.{OrdersEnclose, below, one_less_square, orders_down}
use Rattle.fx_lattice.specs.Lattice.{Lattice, LatticeFits, at, reflection, tap}
use Rattle.fx_lattice.specs.Operations.{is_below_one, less_product, one_point, quotient}
use Rattle.fx_lattice.specs.StepDown.{behind, down, enclosed, enclosures, gathered, greater_order}
use Rattle.fx_lattice.specs.StepDown.{listed, lower_a, lower_b, lower_denominator, lower_numerator, step_down}
use Rattle.fx_lattice.specs.StepDown.{with_rung}
use Rattle.fx_lattice.specs.declared.refusal.Step.{Step}
use Rattle.fx_lattice.specs.declared.refusal.Step.TheVariants.{NotBelowOne, Range}
use Rattle.fx_lattice.proofs.Enclosing.{less_product_encloses, less_product_ordered, one_encloses}
use Rattle.fx_lattice.proofs.Enclosing.{quotient_encloses, same_encloses}

-- ---- lists by their places

length-listed : (n : ℕ) (f : ℕ → Interval) → length (listed n f) ≡ n
length-listed zero f = refl
length-listed (suc n) f = length-append (listed n f) (f n ∷ []) ∙ (let e = length-listed n f in omega (arith))

listed_at : (n : ℕ) (f : ℕ → Interval) (j : ℕ) → j < n → at (listed n f) j ≡ f j
listed_at zero f j l = absurd (omega arith)
listed_at (suc n) f j l = by_place (cases_eq j n) (listed_at n f j)
  where
    by_place : (j ≡ n) ⊎ (j ≡ n → ⊥) → (j < n → at (listed n f) j ≡ f j) → at (listed (suc n) f) j ≡ f j
    by_place (inl same) before = rw same (get_or_at (listed n f) (f n) [] (point (pos 0)) n (length-listed n f))
    by_place (inr other) before =
        let inside : j < n = omega (arith, l, other) in
        let long = length-listed n f in
        get_or_append_left (listed n f) (f n ∷ []) (point (pos 0)) j (omega arith) ∙ before inside

-- what was gathered
record IsGathered (n : ℕ) (f : ℕ → Option Interval) (xs : List Interval) : Type 0 where
  pub long : length xs ≡ n
  pub each : (j : ℕ) → j < n → f j ≡ Some (at xs j)

one_more : (n : ℕ) (f : ℕ → Option Interval) (xs : List Interval) (x : Interval) → IsGathered n f xs →
    f n ≡ Some x → IsGathered (suc n) f (xs ++ x ∷ [])
one_more n f xs x h e = record {
  long = length-append xs (x ∷ []) ∙ (let l = h.long in omega arith);
  each = λ j l. by_place j l (cases_eq j n);
}
  where
    by_place : (j : ℕ) → j < suc n → (j ≡ n) ⊎ (j ≡ n → ⊥) → f j ≡ Some (at (xs ++ x ∷ []) j)
    by_place j l (inl same) = rw (same, get_or_at xs x [] (point (pos 0)) n h.long) e
    by_place j l (inr other) =
        let inside : j < n = omega (arith, l, other) in
        let long = h.long in
        rw (get_or_append_left xs (x ∷ []) (point (pos 0)) j (omega arith)) (h.each j inside)

gathered_is : (n : ℕ) (f : ℕ → Option Interval) (xs : List Interval) → gathered n f ≡ Some xs → IsGathered n f xs
gathered_is zero f xs h =
    let none : [] ≡ xs = grind arith in
    subst (IsGathered zero f) none (record { long = refl; each = λ j l. absurd (omega arith) })
gathered_is (suc n) f ys h =
    option_and_then_some (λ xs. option_and_then (λ x. Some (xs ++ x ∷ [])) (f n)) (gathered n f) ys h
    (λ xs is also. option_and_then_some (λ x. Some (xs ++ x ∷ [])) (f n) ys also
    (λ x one made.
    let same : xs ++ x ∷ [] ≡ ys = grind arith in
    subst (IsGathered (suc n) f) same (one_more n f xs x (gathered_is n f xs is) one)))

-- ---- one step

both_over : (m n : ℕ) → 0 < m → 0 < n → 0 < m * n
both_over m n h k = one-le-mul h k

difference_over : (x y : Ratio) → 0 < x.den → 0 < y.den → 0 < (difference_of x y).den
difference_over x y h k = both_over x.den y.den h k

-- a coefficient of the denominator below encloses what meets its equation
lower_a_encloses : (i j : ℕ) (a : List Interval) (d x : Interval) (u w q k : Ratio) → lower_a i a d j ≡ Some x
    → d.lo ≤ℤ d.hi → Encloses d (one_less_square k) → 0 < k.den → 0 < u.den → 0 < w.den
    → Encloses (behind a j) u → Encloses (behind a i) k → Encloses (behind a (i - j)) w
    → SameValue (product_of q (one_less_square k)) (difference_of u (product_of k w)) → Encloses x q
unfolding lower_a
lower_a_encloses i j a d x u w q k made ordered d_held k_over u_over w_over u_held k_held w_held same =
    option_and_then_some (λ n. quotient n d) (less_product (behind a j) (behind a i) (behind a (i - j))) x made
    (λ n is also.
    let held = less_product_encloses (behind a j) (behind a i) (behind a (i - j)) n u k w is u_held k_held w_held in
    let over = difference_over u (product_of k w) u_over (both_over k.den w.den k_over w_over) in
    let scaled = same_encloses n (difference_of u (product_of k w)) (product_of q (one_less_square k)) over
    held (sym same) in
    let divisor_over = difference_over (whole (pos 1)) (product_of k k) (lit< tt)
    (both_over k.den k.den k_over k_over) in
    quotient_encloses n d x q (one_less_square k) also ordered divisor_over d_held scaled)

-- so does the denominator
denominator_below : (i : ℕ) (a lower : List Interval) (p r : ℕ → Ratio) (k : Ratio)
    → ((j : ℕ) → 0 < (p j).den) → 0 < k.den
    → ((j : ℕ) → 1 ≤ j → j ≤ i → Encloses (behind a j) (p j)) → Encloses (behind a i) k
    → ((j : ℕ) → 1 ≤ j → j < i →
    SameValue (product_of (r j) (one_less_square k)) (difference_of (p j) (product_of k (p (i - j)))))
    → lower_denominator i a ≡ Some lower → (j : ℕ) → 1 ≤ j → j ≤ i - 1 → Encloses (behind lower j) (r j)
unfolding lower_denominator
denominator_below i a lower p r k p_over k_over held k_held meets made j low high =
    option_and_then_some (λ d. gathered (i - 1) (λ s. lower_a i a d (s + 1)))
    (less_product one_point (behind a i) (behind a i)) lower made
    (λ d is also.
    let each = (gathered_is (i - 1) (λ s. lower_a i a d (s + 1)) lower also).each (j - 1) (omega arith) in
    let here : j - 1 + 1 ≡ j = omega arith in
    let entry = subst (λ n. lower_a i a d n ≡ Some (behind lower j)) here each in
    let d_held = less_product_encloses one_point (behind a i) (behind a i) d (whole (pos 1)) k k is
    one_encloses k_held k_held in
    let ordered = less_product_ordered one_point (behind a i) (behind a i) d is (omega (arith, ints)) in
    lower_a_encloses i j a d (behind lower j) (p j) (p (i - j)) (r j) k entry ordered d_held k_over (p_over j)
    (p_over (i - j))
    (held j low (omega arith)) k_held (held (i - j) (omega arith) (omega arith)) (meets j low (omega arith)))

-- and the numerator
numerator_below : (i : ℕ) (a b upper : List Interval) (p q s : ℕ → Ratio) (v : Ratio)
    → ((j : ℕ) → 0 < (p j).den) → ((j : ℕ) → 0 < (q j).den) → 0 < v.den
    → EnclosesOrder i a b p q → Encloses (at b i) v
    → ((j : ℕ) → j < i → SameValue (s j) (difference_of (q j) (product_of v (p (i - j)))))
    → lower_numerator i a b ≡ Some upper → (j : ℕ) → j < i → Encloses (at upper j) (s j)
unfolding lower_numerator lower_b
numerator_below i a b upper p q s v p_over q_over v_over held v_held meets made j low =
    let each = (gathered_is i (lower_b i a b) upper made).each j low in
    let inside = less_product_encloses (at b j) (at b i) (behind a (i - j)) (at upper j) (q j) v (p (i - j))
    each (held.numerator j (omega arith)) v_held (held.denominator (i - j) (omega arith) (omega arith)) in
    let over = difference_over (q j) (product_of v (p (i - j))) (q_over j)
    (both_over v.den (p (i - j)).den v_over (p_over (i - j))) in
    same_encloses (at upper j) (difference_of (q j) (product_of v (p (i - j)))) (s j) over inside (sym (meets j low))

-- ---- all steps

-- the parts of an answer
record Descends (m : ℕ) (a b : List Interval) (l : Lattice) : Type 0 where
  pub lower : List Interval
  pub upper : List Interval
  pub rest : Lattice
  pub lower_is : lower_denominator (suc m) a ≡ Some lower
  pub upper_is : lower_numerator (suc m) a b ≡ Some upper
  pub rest_is : down m lower upper ≡ Ok rest
  pub is : with_rung (behind a (suc m)) (at b (suc m)) rest ≡ l

descends : (m : ℕ) (a b : List Interval) (l : Lattice) → down (suc m) a b ≡ Ok l → Descends m a b l
descends m a b l h = by_parts (is_below_one (behind a (suc m))) (lower_denominator (suc m) a)
    (lower_numerator (suc m) a b) refl refl h
  where
    i : ℕ
    i = suc m

    by_rest : (lower upper : List Interval) (r : Result Lattice Step) →
        lower_denominator (suc m) a ≡ Some lower → lower_numerator (suc m) a b ≡ Some upper →
        down m lower upper ≡ r
        → (r >>= λ l. Ok (with_rung (behind a (suc m)) (at b (suc m)) l)) ≡ Ok l → Descends m a b l
    by_rest lower upper (Err fault) e f g h = cc
    by_rest lower upper (Ok rest) e f g h =
        record { lower = lower; upper = upper; rest = rest; lower_is = e; upper_is = f; rest_is = g; is = cc }

    by_parts : (t : Bool) (o p : Option (List Interval)) → lower_denominator (suc m) a ≡ o →
        lower_numerator (suc m) a b ≡ p
        → (unless (NotBelowOne (suc m) (behind a (suc m))) t >>= λ below_one.
        or_fault (Range (suc m)) o >>= λ lower. or_fault (Range (suc m)) p >>= λ upper.
        down m lower upper >>= λ l. Ok (with_rung (behind a (suc m)) (at b (suc m)) l)) ≡ Ok l
        → Descends m a b l
    by_parts false o p e f h = cc
    by_parts true None p e f h = cc
    by_parts true (Some lower) None e f h = cc
    by_parts true (Some lower) (Some upper) e f h = by_rest lower upper (down m lower upper) e f refl h

-- as many reflection coefficients as the order, and one tap more
pub record HasSizes (i : ℕ) (l : Lattice) : Type 0 where
  pub reflections : length l.k ≡ i
  pub taps : length l.v ≡ i + 1

same_ok : (x y : Lattice) → ◌≡◌ {A = Result Lattice Step} (Ok x) (Ok y) → x ≡ y
same_ok x y h = cc

pub sizes_of : (i : ℕ) (a b : List Interval) (l : Lattice) → down i a b ≡ Ok l → HasSizes i l
sizes_of zero a b l h = subst (HasSizes zero) (same_ok (record { k = []; v = at b 0 ∷ [] }) l h)
    (record { reflections = refl; taps = refl })
sizes_of (suc m) a b l h =
    let d = descends m a b l h in
    let below = sizes_of m d.lower d.upper d.rest d.rest_is in
    subst (HasSizes (suc m)) d.is (record {
      reflections = length-append d.rest.k (behind a (suc m) ∷ []) ∙ (let e = below.reflections in omega arith);
      taps = length-append d.rest.v (at b (suc m) ∷ []) ∙ (let e = below.taps in omega arith);
    })

-- one rung more
rung_encloses : (m : ℕ) (x y : Interval) (l : Lattice) (k v : ℕ → Ratio) → HasSizes m l →
    EnclosesLattice m l k v → Encloses x (k (suc m)) → Encloses y (v (suc m)) →
    EnclosesLattice (suc m) (with_rung x y l) k v
rung_encloses m x y l k v sizes held h g = record {
  reflections = λ i low high. reflections i low high (cases_eq i (suc m));
  taps = λ i high. taps i high (cases_eq i (suc m));
}
  where
    reflections : (i : ℕ) → 1 ≤ i → i ≤ suc m → (i ≡ suc m) ⊎ (i ≡ suc m → ⊥) →
        Encloses (reflection (with_rung x y l) i) (k i)
    reflections i low high (inl same) =
        let here : i - 1 ≡ m = omega arith in
        let at_end = get_or_at l.k x [] (point (pos 0)) m sizes.reflections in
        rw (here, at_end, same) h
    reflections i low high (inr other) =
        let inside : i ≤ m = omega (arith, high, other) in
        let long = sizes.reflections in
        rw (get_or_append_left l.k (x ∷ []) (point (pos 0)) (i - 1) (omega arith)) (held.reflections i low inside)

    taps : (i : ℕ) → i ≤ suc m → (i ≡ suc m) ⊎ (i ≡ suc m → ⊥) → Encloses (tap (with_rung x y l) i) (v i)
    taps i high (inl same) =
        let long : length l.v ≡ suc m = sizes.taps ∙ omega arith in
        rw (same, get_or_at l.v y [] (point (pos 0)) (suc m) long) g
    taps i high (inr other) =
        let inside : i ≤ m = omega (arith, high, other) in
        let long = sizes.taps in
        rw (get_or_append_left l.v (y ∷ []) (point (pos 0)) i (omega arith)) (held.taps i inside)

-- the order below an order that encloses its values
one_below : (c e : List Fraction) (n i : ℕ) (a b lower upper : List Interval) (p q : ℕ → ℕ → Ratio) (k v : ℕ → Ratio)
    → 1 ≤ i → i ≤ n → MeetsStepDown c e n p q k v → EnclosesOrder i a b (p i) (q i) →
    lower_denominator i a ≡ Some lower → lower_numerator i a b ≡ Some upper
    → EnclosesOrder (i - 1) lower upper (p (i - 1)) (q (i - 1))
one_below c e n i a b lower upper p q k v some few meets held of_lower of_upper =
    let k_held = same_encloses (behind a i) (p i i) (k i) (meets.p_over i i)
    (held.denominator i some (omega arith)) (sym (meets.k_last i some few)) in
    let v_held = same_encloses (at b i) (q i i) (v i) (meets.q_over i i) (held.numerator i (omega arith))
    (sym (meets.v_last i few)) in
    record {
      denominator = λ j low high.
          denominator_below i a lower (p i) (p (i - 1)) (k i) (meets.p_over i) (meets.k_over i) held.denominator k_held
          (λ j low high. meets.p_lower i j low high few) of_lower j low high;
      numerator = λ j high.
          numerator_below i a b upper (p i) (q i) (q (i - 1)) (v i) (meets.p_over i) (meets.q_over i)
          (meets.v_over i) held v_held
          (λ j high. meets.q_lower i j high few) of_upper j (omega arith);
    }

all_enclosed : (c e : List Fraction) (n i : ℕ) (a b : List Interval) (l : Lattice) (p q : ℕ → ℕ →
    Ratio) (k v : ℕ → Ratio)
    → i ≤ n → MeetsStepDown c e n p q k v → EnclosesOrder i a b (p i) (q i) → down i a b ≡ Ok l →
    EnclosesLattice i l k v
all_enclosed c e n zero a b l p q k v few meets held h =
    subst (λ l. EnclosesLattice zero l k v) (same_ok (record { k = []; v = at b 0 ∷ [] }) l h) (record {
      reflections = λ i low high. absurd (omega arith);
      taps = λ i high.
          let none : i ≡ 0 = omega arith in
          rw none (same_encloses (at b 0) (q 0 0) (v 0) (meets.q_over 0 0) (held.numerator 0 (omega arith))
          (sym (meets.v_last 0 few)));
    })
all_enclosed c e n (suc m) a b l p q k v few meets held h =
    let i = suc m in
    let d = descends m a b l h in
    let less : i - 1 ≡ m = omega arith in
    let k_held = same_encloses (behind a i) (p i i) (k i) (meets.p_over i i)
    (held.denominator i (omega arith) (omega arith)) (sym (meets.k_last i (omega arith) few)) in
    let v_held = same_encloses (at b i) (q i i) (v i) (meets.q_over i i) (held.numerator i (omega arith))
    (sym (meets.v_last i few)) in
    let next = subst (λ m. EnclosesOrder m d.lower d.upper (p m) (q m)) less
    (one_below c e n i a b d.lower d.upper p q k v (omega arith) few meets held d.lower_is d.upper_is) in
    subst (λ l. EnclosesLattice i l k v) d.is
    (rung_encloses m (behind a i) (at b i) d.rest k v (sizes_of m d.lower d.upper d.rest d.rest_is)
    (all_enclosed c e n m d.lower d.upper d.rest p q k v (omega arith) meets next d.rest_is) k_held v_held)

-- ---- a transfer function

den_over : (d : Den) → 0 < den_value d
den_over (Two e) = one-le-pow e 2 (lit< tt)
den_over (Ten d) = one-le-pow d 10 (lit< tt)

enclosed_encloses : (c : Fraction) → Encloses (enclosed c) (value_of c)
enclosed_encloses c = record {
  low = floor_below (c.num *ℤ pos (2 ^ 64)) (den_value c.den) (den_over c.den);
  high = ceil_above (c.num *ℤ pos (2 ^ 64)) (den_value c.den) (den_over c.den);
}

given_encloses : (cs : List Fraction) (first count j : ℕ) (x : Ratio) → j < count →
    SameValue x (value_of (coefficient cs (j + first))) → Encloses (at (enclosures cs first count) j) x
given_encloses cs first count j x l same =
    let c = coefficient cs (j + first) in
    rw (listed_at count (λ j. enclosed (coefficient cs (j + first))) j l)
    (same_encloses (enclosed c) (value_of c) x (den_over c.den) (enclosed_encloses c) (sym same))

start_encloses : (b a : List Fraction) (p q : ℕ → ℕ → Ratio) (k v : ℕ → Ratio) → let n = greater_order b a in
    MeetsStepDown b a n p q k v → EnclosesOrder n (enclosures a 1 n) (enclosures b 0 (n + 1)) (p n) (q n)
start_encloses b a p q k v meets =
    let n = greater_order b a in
    record {
      denominator = λ j low high.
          let here : j - 1 + 1 ≡ j = omega arith in
          given_encloses a 1 n (j - 1) (p n j) (omega arith)
          (subst (λ i. SameValue (p n j) (value_of (coefficient a i))) (sym here)
          (meets.p_highest j low high));
      numerator = λ j high.
          let here : j + 0 ≡ j = omega arith in
          given_encloses b 0 (n + 1) j (q n j) (omega arith)
          (subst (λ i. SameValue (q n j) (value_of (coefficient b i))) (sym here) (meets.q_highest j high));
    }

pub step_down_encloses : (b a : List Fraction) (l : Lattice) → step_down b a ≡ Ok l → EnclosesExact b a l
step_down_encloses b a l h p q k v meets =
    let n = greater_order b a in
    all_enclosed b a n n (enclosures a 1 n) (enclosures b 0 (n + 1)) l p q k v (omega arith) meets
    (start_encloses b a p q k v meets) h

-- order by order
same_some : (x y : Enclosures) → ◌≡◌ {A = Option Enclosures} (Some x) (Some y) → x ≡ y
same_some x y h = cc

pub orders_enclose : OrdersEnclose
orders_enclose b a p q k v zero e meets few h =
    let n = greater_order b a in
    let all : n ≡ n - 0 = omega arith in
    subst (λ i. EnclosesOrder i e.a e.b (p i) (q i)) all
    (subst (λ e. EnclosesOrder n e.a e.b (p n) (q n))
    (same_some (record { a = enclosures a 1 n; b = enclosures b 0 (n + 1) }) e h)
    (start_encloses b a p q k v meets))
orders_enclose b a p q k v (suc m) e meets few h =
    let n = greater_order b a in
    let i = n - m in
    let less : i - 1 ≡ n - suc m = omega arith in
    option_and_then_some (below i) (orders_down b a m) e h
    (λ x is made.
    option_and_then_some (λ lower.
    option_and_then (λ upper. Some (record { a = lower; b = upper })) (lower_numerator i x.a x.b))
    (lower_denominator i x.a) e made
    (λ lower of_lower rest.
    option_and_then_some (λ upper. Some (record { a = lower; b = upper })) (lower_numerator i x.a x.b) e rest
    (λ upper of_upper last.
    let held = orders_enclose b a p q k v m x meets (omega arith) is in
    subst (λ i. EnclosesOrder i e.a e.b (p i) (q i)) less
    (subst (λ e. EnclosesOrder (i - 1) e.a e.b (p (i - 1)) (q (i - 1)))
    (same_some (record { a = lower; b = upper }) e last)
    (one_below b a n i x.a x.b lower upper p q k v (omega arith) (omega arith) meets held of_lower of_upper)))))

pub step_down_sizes : (b a : List Fraction) (l : Lattice) → step_down b a ≡ Ok l → HasSizes (greater_order b a) l
step_down_sizes b a l h = let n = greater_order b a in sizes_of n (enclosures a 1 n) (enclosures b 0 (n + 1)) l h

pub step_down_fits : (b a : List Fraction) (l : Lattice) → greater_order b a ≤ REFLECTIONS →
    step_down b a ≡ Ok l → LatticeFits l
step_down_fits b a l few h =
    let sizes = step_down_sizes b a l h in
    record { taps = let e = sizes.reflections in let f = sizes.taps in omega arith; few = rw sizes.reflections few }
