-- Sums of terms as values.
use Rattle.std.proofs.Common.{◌≡◌, ℕ, zero, suc, ◌+◌, ◌-◌, ◌*◌, ◌/◌, ◌^◌, ◌<◌, Bool, true, false, cond}
use Rattle.std.proofs.Common.{not, eqb, if◌then◌else◌, List, [], ◌∷◌, ◌++◌, map, drop, All, refl, arith}
use Rattle.std.proofs.Common.{ap, ap₂, sym, subst, ◌∙◌}
use Rattle.std.proofs.Math.IntN.{ℤ, pos, neg_ℤ, ◌+ℤ◌, ◌-ℤ◌, ◌*ℤ◌}
use Rattle.std.proofs.Math.Nat.{pow-suc}
use Rattle.std.specs.Prelude.{unsigned_abs}
use Rattle.std.proofs.lemmas.Bool.{eq-eqb, ne_eqb, eqb-true}
use Rattle.std.proofs.lemmas.Int.{ints}
use Rattle.std.proofs.lemmas.Nat.{pow-add}
use Rattle.std.proofs.lemmas.List.Elements.{All-nil, All-cons, All-head, All-tail, All-filter, filter-append}
use Rattle.fx_math.specs.Ratio.{difference_of, product_of, Ratio, SameValue, sum_of, whole}
use Rattle.fx_math.specs.Unroll.{lagged}
use Rattle.fx_math.proofs.Lines.{swapped}
use Rattle.fx_math.proofs.Polynomials.{int, nat, mul, same_value}
use Rattle.fx_math.proofs.Ring.{add-mul, neg-mul, mul_assoc}
use Rattle.fx_nums.specs.Fraction.{den_value, Fraction, IsWholeOver, minus, over, value_of}
use Rattle.fx_eqs.specs.Equations.{Equations, is_kept, kept}
use Rattle.fx_eqs.specs.ExactRun.{exact_value, row_value, terms_sum, value_read}
use Rattle.fx_eqs.specs.Fits.{EquationsFit, IsThereByThen, SourceFits, TermFits}
use Rattle.fx_eqs.specs.Textbook.{over_lags, over_sources, recursion, summand}
use Rattle.fx_eqs.specs.TextbookRuns.{source_values}
use Rattle.fx_eqs.specs.Values.{earlier, over_numbers, over_time}
use Rattle.fx_eqs.specs.declared.term.Source.{Source}
use Rattle.fx_eqs.specs.declared.term.Source.TheVariants.{Row, In}
use Rattle.fx_eqs.specs.declared.term.Term.{Term}
use Rattle.fx_eqs.proofs.ExactRows.{exact_rows}

-- ---- numbers over one denominator

-- r is n over d
abbrev pub Is : Ratio → ℤ → ℕ → Type 0
Is r n d = SameValue r (record { num = n; den = d })

pub gather : (m n k : ℕ) (y : ℤ) → m * n ≡ k → (y *ℤ pos m) *ℤ pos n ≡ y *ℤ pos k
gather m n k y e = mul_assoc y (pos m) (pos n) ∙ ap (λ x. y *ℤ pos x) e

-- x is n over d, so x c is n times c over the product
scaled : (x n : ℤ) (p c d e : ℕ) → x *ℤ pos d ≡ n *ℤ pos p → p * c ≡ e → (x *ℤ pos c) *ℤ pos d ≡ n *ℤ pos e
scaled x n p c d e h f = swapped x (pos c) (pos d) ∙ ap (λ v. v *ℤ pos c) h ∙ gather p c e n f

pub sum_is : (a b : Ratio) (m n : ℤ) (d : ℕ) → Is a m d → Is b n d → Is (sum_of a b) (m +ℤ n) d
sum_is a b m n d e f =
    add-mul (a.num *ℤ pos b.den) (b.num *ℤ pos a.den) (pos d)
    ∙ ap₂ (λ x y. x +ℤ y) (scaled a.num m a.den b.den d (a.den * b.den) e refl)
    (scaled b.num n b.den a.den d (a.den * b.den) f (omega arith))
    ∙ sym (add-mul m n (pos (a.den * b.den)))

pub difference_is : (a b : Ratio) (m n : ℤ) (d : ℕ) → Is a m d → Is b (neg_ℤ n) d → Is (difference_of a b) (m +ℤ n) d
difference_is a b m n d e f =
    let x = a.num *ℤ pos b.den in
    let y = b.num *ℤ pos a.den in
    let first : x *ℤ pos d ≡ m *ℤ pos (a.den * b.den) = scaled a.num m a.den b.den d (a.den * b.den) e refl in
    let second : y *ℤ pos d ≡ neg_ℤ n *ℤ pos (a.den * b.den) =
    scaled b.num (neg_ℤ n) b.den a.den d (a.den * b.den) f (omega arith) in
    ap (λ v. v *ℤ pos d) (let o : x -ℤ y ≡ x +ℤ neg_ℤ y = omega (arith, ints) in o)
    ∙ add-mul x (neg_ℤ y) (pos d)
    ∙ omega (
      arith,
      ints,
      first,
      second,
      neg-mul y (pos d),
      neg-mul n (pos (a.den * b.den)),
      add-mul m n (pos (a.den * b.den)),
    )

-- factors over two denominators
pub product_is : (a b : Ratio) (m n : ℤ) (d e : ℕ) → Is a m d → Is b n e → Is (product_of a b) (m *ℤ n) (e * d)
product_is a b m n d e f h = apart a.num b.num e d ∙ ap₂ (λ x y. x *ℤ y) f h ∙ sym (together m n a.den b.den)
  where
    apart : (x y : ℤ) (e d : ℕ) → (x *ℤ y) *ℤ pos (e * d) ≡ (x *ℤ pos d) *ℤ (y *ℤ pos e)
    apart x y e d = same_value (mul (mul (int x) (int y)) (nat (e * d)))
        (mul (mul (int x) (nat d)) (mul (int y) (nat e))) (omega arith)

    together : (x y : ℤ) (a b : ℕ) → (x *ℤ y) *ℤ pos (a * b) ≡ (x *ℤ pos a) *ℤ (y *ℤ pos b)
    together x y a b = same_value (mul (mul (int x) (int y)) (nat (a * b)))
        (mul (mul (int x) (nat a)) (mul (int y) (nat b))) (omega arith)

-- a coefficient over what its denominator divides
coefficient_is : (g : ℕ) (c : Fraction) → IsWholeOver g c → Is (value_of c) (over g c) g
coefficient_is g c w = sym (gather (g / den_value c.den) (den_value c.den) g c.num (omega (arith, w)))

-- ---- lists in two parts

pub all_of_both : {A : Type 0} (P : A → Type 0) (xs ys : List A) → All P (xs ++ ys) → All P xs × All P ys
all_of_both P [] ys h = (All-nil P, h)
all_of_both P (x ∷ xs) ys h =
    let rest = all_of_both P xs ys (All-tail P x (xs ++ ys) h) in
    (All-cons P x xs (All-head P x (xs ++ ys) h) rest.0, rest.1)

-- ---- one row at one moment

module _ (s : Equations) (g : ℕ) (u : ℕ → ℕ → ℤ) (k i : ℕ) where
  -- the exact numbers before, and the denominators of what the row reads and of the row
  abbrev past : ℕ → ℕ → ℤ
  past l j = lagged (exact_value s g u) k l j

  abbrev read_den : ℕ
  read_den = g ^ (k * s.rows + i)

  abbrev pub row_den : ℕ
  row_den = read_den * g

  -- the value of a source some moments before
  abbrev pub read : Source → ℕ → Ratio
  read from lag = earlier (source_values s g u from) k lag

  row_before : (h l j n m : ℕ) → m + l * s.rows ≡ h * s.rows + (n + j + 1) →
      Is (earlier (source_values s g u (Row j)) h l) (lagged (exact_value s g u) h l j *ℤ pos (g ^ n)) (g ^ m)
  row_before h zero j n m e =
      let power : g ^ n * g ^ (h * s.rows + j + 1) ≡ g ^ m =
      sym (pow-add g n (h * s.rows + j + 1)) ∙ ap (λ x. g ^ x) (let f : n + (h * s.rows + j + 1) ≡ m =
      omega (arith, e) in f) in
      sym (gather (g ^ n) (g ^ (h * s.rows + j + 1)) (g ^ m) (exact_value s g u h j) power)
  row_before zero (suc l) j n m e = omega (arith, ints)
  row_before (suc h) (suc l) j n m e = row_before h l j n m (omega (arith, e))

  input_before : (h l j d : ℕ) → Is (earlier (source_values s g u (In j)) h l) (lagged u h l j *ℤ pos d) d
  input_before h zero j d = omega (arith, ints)
  input_before zero (suc l) j d = omega (arith, ints)
  input_before (suc h) (suc l) j d = input_before h l j d

  source_is : (from : Source) (lag : ℕ) → SourceFits s.rows s.inputs from → IsThereByThen i from lag →
      Is (read from lag) (value_read s g u k i past from lag) read_den
  source_is (In j) lag fits there = input_before k lag j read_den
  source_is (Row j) zero fits there =
      row_before k zero j (zero * s.rows + i - j - 1) (k * s.rows + i) (let h = there refl in omega arith)
  source_is (Row j) (suc l) fits there =
      row_before k (suc l) j (suc l * s.rows + i - j - 1) (k * s.rows + i) (omega (arith, fits))

  -- the sum of those of the terms that are kept
  abbrev pub sum_kept : List Term → ℤ
  sum_kept ts = terms_sum s g u k i past (kept ts)

  -- a term that the system may have, over a denominator of its coefficient
  abbrev pub Stands : Term → Type 0
  Stands t = TermFits s.rows s.inputs t × IsWholeOver g t.coef

  abbrev pub KeptStand : List Term → Type 0
  KeptStand ts = All Stands (kept ts)

  sum_of_terms-append : (a b : List Term) → terms_sum s g u k i past (a ++ b)
      ≡ terms_sum s g u k i past a +ℤ terms_sum s g u k i past b
  sum_of_terms-append [] b = omega (arith, ints)
  sum_of_terms-append (t ∷ a) b = omega (arith, ints, sum_of_terms-append a b)

  pub sum_kept-append : (a b : List Term) → sum_kept (a ++ b) ≡ sum_kept a +ℤ sum_kept b
  sum_kept-append a b = ap (terms_sum s g u k i past) (filter-append is_kept a b)
      ∙ sum_of_terms-append (kept a) (kept b)

  pub both_stand : (a b : List Term) → KeptStand (a ++ b) → KeptStand a × KeptStand b
  both_stand a b h = all_of_both Stands (kept a) (kept b) (subst (All Stands) (filter-append is_kept a b) h)

  sum_of_others : (ts : List Term) → All (λ (t : Term). t.row ≡ i → ⊥) ts → terms_sum s g u k i past ts ≡ pos 0
  sum_of_others [] h = refl
  sum_of_others (t ∷ ts) h =
      let here : (if eqb t.row i then over g t.coef *ℤ value_read s g u k i past t.from t.lag else pos 0)
      ≡ pos 0 = rw (ne_eqb t.row i (All-head (λ (t : Term). t.row ≡ i → ⊥) t ts h)) refl in
      omega (arith, ints, here, sum_of_others ts (All-tail (λ (t : Term). t.row ≡ i → ⊥) t ts h))

  -- terms of other rows add nothing
  pub others_add_nothing : (ts : List Term) → All (λ (t : Term). t.row ≡ i → ⊥) ts → sum_kept ts ≡ pos 0
  others_add_nothing ts h = sum_of_others (kept ts) (All-filter is_kept (λ (t : Term). t.row ≡ i → ⊥) ts h)

  not_kept : (c : Fraction) → not (eqb (unsigned_abs c.num) 0) ≡ false → c.num ≡ pos 0
  not_kept c e = let zero_num : unsigned_abs c.num ≡ 0 =
      eqb-true _ _ (is_true (eqb (unsigned_abs c.num) 0) e) in omega (arith, ints, zero_num)
    where
      is_true : (b : Bool) → not b ≡ false → b ≡ true
      is_true true h = refl
      is_true false h = cc

  -- one term
  pub term_is : (c : Fraction) (from : Source) (lag : ℕ) → KeptStand (summand i c from lag ∷ []) →
      Is (product_of (value_of c) (read from lag)) (sum_kept (summand i c from lag ∷ [])) row_den
  term_is c from lag stands = by_test (is_kept (summand i c from lag)) refl stands
    where
      by_test : (b : Bool) → is_kept (summand i c from lag) ≡ b → All Stands (cond b (summand i c from lag ∷ []) []) →
          Is (product_of (value_of c) (read from lag))
          (terms_sum s g u k i past (cond b (summand i c from lag ∷ []) [])) row_den
      by_test true keeps all =
          let here = All-head Stands (summand i c from lag) [] all in
          let x = over g c *ℤ value_read s g u k i past from lag in
          let sum : (if eqb i i then x else pos 0) +ℤ pos 0 ≡ x = rw (eq-eqb i i refl) (omega (arith, ints)) in
          subst (λ n. Is (product_of (value_of c) (read from lag)) n row_den) (sym sum)
          (product_is (value_of c) (read from lag) (over g c) (value_read s g u k i past from lag) g read_den
          (coefficient_is g c here.1) (source_is from lag here.0.source here.0.causal))
      by_test false drops all =
          let none : c.num ≡ pos 0 = not_kept c drops in
          let r = read from lag in
          let gone : c.num *ℤ r.num ≡ pos 0 = ap (λ n. n *ℤ r.num) none ∙ omega (arith, ints) in
          ap (λ n. n *ℤ pos row_den) gone ∙ omega (arith, ints)

  -- of a coefficient with the other sign
  pub minus_term_is : (c : Fraction) (from : Source) (lag : ℕ) →
      KeptStand (summand i (minus c) from lag ∷ []) →
      Is (product_of (value_of c) (read from lag)) (neg_ℤ (sum_kept (summand i (minus c) from lag ∷ []))) row_den
  minus_term_is c from lag stands =
      let r = read from lag in
      let n = sum_kept (summand i (minus c) from lag ∷ []) in
      let den = den_value c.den * r.den in
      let is : (neg_ℤ c.num *ℤ r.num) *ℤ pos row_den ≡ n *ℤ pos den = term_is (minus c) from lag stands in
      let out : (neg_ℤ c.num *ℤ r.num) *ℤ pos row_den ≡ neg_ℤ ((c.num *ℤ r.num) *ℤ pos row_den) =
      ap (λ x. x *ℤ pos row_den) (neg-mul c.num r.num) ∙ neg-mul (c.num *ℤ r.num) (pos row_den) in
      omega (arith, ints, is, out, neg-mul n (pos den))

  none_is : Is (whole (pos 0)) (pos 0) row_den
  none_is = omega (arith, ints)

  -- coefficients over the lags of a source
  pub over_lags_is : (cs : List Fraction) (from : Source) (l : ℕ) → KeptStand (over_lags i from l cs) →
      Is (over_time cs (source_values s g u from) k l) (sum_kept (over_lags i from l cs)) row_den
  over_lags_is [] from l stands = none_is
  over_lags_is (c ∷ cs) from l stands =
      let t = summand i c from l in
      let rest = over_lags i from (l + 1) cs in
      let parts = both_stand (t ∷ []) rest stands in
      subst (λ n. Is (over_time (c ∷ cs) (source_values s g u from) k l) n row_den)
      (sym (sum_kept-append (t ∷ []) rest))
      (sum_is (product_of (value_of c) (read from l)) (over_time cs (source_values s g u from) k (l + 1))
      (sum_kept (t ∷ [])) (sum_kept rest) row_den
      (term_is c from l parts.0) (over_lags_is cs from (l + 1) parts.1))

  pub minus_lags_is : (cs : List Fraction) (from : Source) (l : ℕ) → KeptStand (over_lags i from l (map minus cs)) →
      Is (over_time cs (source_values s g u from) k l) (neg_ℤ (sum_kept (over_lags i from l (map minus cs)))) row_den
  minus_lags_is [] from l stands = none_is
  minus_lags_is (c ∷ cs) from l stands =
      let t = summand i (minus c) from l in
      let rest = over_lags i from (l + 1) (map minus cs) in
      let parts = both_stand (t ∷ []) rest stands in
      let both : neg_ℤ (sum_kept (t ∷ [])) +ℤ neg_ℤ (sum_kept rest) ≡ neg_ℤ (sum_kept (t ∷ rest)) =
      omega (arith, ints, sum_kept-append (t ∷ []) rest) in
      subst (λ n. Is (over_time (c ∷ cs) (source_values s g u from) k l) n row_den) both
      (sum_is (product_of (value_of c) (read from l)) (over_time cs (source_values s g u from) k (l + 1))
      (neg_ℤ (sum_kept (t ∷ []))) (neg_ℤ (sum_kept rest)) row_den
      (minus_term_is c from l parts.0) (minus_lags_is cs from (l + 1) parts.1))

  -- coefficients over sources of consecutive numbers
  pub over_sources_is : (cs : List Fraction) (from : ℕ → Source) (lag j : ℕ) →
      KeptStand (over_sources i from lag j cs) →
      Is (over_numbers cs (λ j. read (from j) lag) j) (sum_kept (over_sources i from lag j cs)) row_den
  over_sources_is [] from lag j stands = none_is
  over_sources_is (c ∷ cs) from lag j stands =
      let t = summand i c (from j) lag in
      let rest = over_sources i from lag (j + 1) cs in
      let parts = both_stand (t ∷ []) rest stands in
      subst (λ n. Is (over_numbers (c ∷ cs) (λ j. read (from j) lag) j) n row_den) (sym (sum_kept-append (t ∷ []) rest))
      (sum_is (product_of (value_of c) (read (from j) lag)) (over_numbers cs (λ j. read (from j) lag) (j + 1))
      (sum_kept (t ∷ [])) (sum_kept rest) row_den
      (term_is c (from j) lag parts.0) (over_sources_is cs from lag (j + 1) parts.1))

  -- a numerator over a source and a denominator over the row itself
  pub recursion_is : (b a : List Fraction) (from : Source) → KeptStand (recursion i from b a) →
      Is (difference_of (over_time b (source_values s g u from) k 0)
      (over_time (drop 1 a) (source_values s g u (Row i)) k 1)) (sum_kept (recursion i from b a)) row_den
  recursion_is b a from stands =
      let front = over_lags i from 0 b in
      let fed = over_lags i (Row i) 1 (map minus (drop 1 a)) in
      let parts = both_stand front fed stands in
      subst (λ n. Is (difference_of (over_time b (source_values s g u from) k 0)
      (over_time (drop 1 a) (source_values s g u (Row i)) k 1)) n row_den) (sym (sum_kept-append front fed))
      (difference_is (over_time b (source_values s g u from) k 0)
      (over_time (drop 1 a) (source_values s g u (Row i)) k 1) (sum_kept front) (sum_kept fed) row_den
      (over_lags_is b from 0 parts.0) (minus_lags_is (drop 1 a) (Row i) 1 parts.1))

  -- the row's value is one whose number is the sum of its terms
  pub row_meets : (all : List Term) → s.terms ≡ kept all → EquationsFit s → i < s.rows → (r : Ratio) →
      Is r (sum_kept all) row_den → SameValue (row_value s g u k i) r
  row_meets all same fits low r is =
      let power : g ^ (k * s.rows + i + 1) ≡ row_den =
      ap (λ n. g ^ n) (let e : k * s.rows + i + 1 ≡ suc (k * s.rows + i) = omega arith in e)
      ∙ pow-suc g (k * s.rows + i) in
      ap (λ x. x *ℤ pos r.den) (exact_rows s fits g u k i low ∙ ap (terms_sum s g u k i past) same)
      ∙ sym is ∙ ap (λ n. r.num *ℤ pos n) (sym power)
