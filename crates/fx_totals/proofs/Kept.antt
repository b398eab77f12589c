-- Numbers within limits, and lines of numbers.
use Rattle.std.proofs.Common.{◌≡◌, ℕ, zero, suc, ◌+◌, ◌*◌, ◌<◌, ◌≤◌, ◌⊎◌, inl, inr, List, length, subst, arith}
use Rattle.std.proofs.Common.{refl, ap, ap₂, sym, ◌∙◌, None, Some, option_map}
use Rattle.std.proofs.Math.IntN.{ℤ, pos, ◌+ℤ◌, ◌*ℤ◌}
use Rattle.std.proofs.lemmas.Int.{ints}
use Rattle.std.proofs.lemmas.Bool.{cases_eq}
use Rattle.fx_math.specs.Sums.{total}
use Rattle.fx_nums.specs.Interval.{Interval}
use Rattle.fx_net.specs.Net.{Net}
use Rattle.fx_sweep.specs.Range.{range_at, first_range_in}
use Rattle.fx_totals.specs.Filled.{AreLeading, CanBeFilled, Filled, HoldsTarget, first_target_range, length_in}
use Rattle.fx_totals.specs.Filled.{moments_of, range_of_target, target_in}
use Rattle.fx_totals.specs.Kept.{AreEarlierSame, IsUpTo, Kept, kept_gain, kept_rest, kept_total, kept_width}
use Rattle.fx_eqs.specs.declared.limits.TheConstants.{PORTS}
use Rattle.fx_math.proofs.Sums.{total_ext}
use Rattle.fx_sweep.specs.Gains.{input_gain, rest, widths}
use Rattle.fx_sweep.specs.Swept.{whole_in}
use Rattle.fx_sweep.specs.Target.{start_of}
use Rattle.fx_sweep.specs.declared.target.RangeAt.{RangeAt}
use Rattle.fx_sweep.specs.declared.target.Target.{Target}
use Rattle.fx_totals.specs.Totals.{input_part, rest_part, target_total, width_part}
use Rattle.fx_totals.specs.declared.target_range.TargetRange.{TargetRange}

-- a sum of one number more
pub one_more_fits : (i most : ℕ) (a p r : ℤ) → r ≡ a +ℤ p → IsUpTo (i * most) a → IsUpTo most p →
    IsUpTo ((i + 1) * most) r
one_more_fits i most a p r e h k =
    let n : (i + 1) * most ≡ i * most + most = grind arith in
    (omega (arith, ints, e, h.0, k.0), omega (arith, ints, e, h.1, k.1, n))

pub one_more_total : (n : ℕ) (f : ℕ → ℤ) (a p r : ℤ) → r ≡ a +ℤ p → a ≡ total n f → p ≡ f n → r ≡ total (n + 1) f
one_more_total n f a p r e g h = (let s : n + 1 ≡ suc n = omega arith in rw s (e ∙ ap₂ (λ x y. x +ℤ y) g h))

-- a range that is met stays the first
pub range_stays : (net : Net) (start : ℕ → Interval) (m n : ℕ) (at : RangeAt) → m < n →
    first_range_in net start m ≡ None → range_at net start m ≡ Some at → first_range_in net start n ≡ Some at
range_stays net start m zero at l none here = elim l [ ]
range_stays net start m (suc n) at l none here = by_end (cases_eq m n) (range_stays net start m n at)
  where
    by_end : (m ≡ n) ⊎ (m ≡ n → ⊥) →
        (m < n → first_range_in net start m ≡ None → range_at net start m ≡ Some at →
        first_range_in net start n ≡ Some at) →
        first_range_in net start (suc n) ≡ Some at
    by_end (inl e) _ = rw (← e, none) here
    by_end (inr ne) before = rw (before (omega (arith, l, ne)) none here) refl

pub target_range_stays : (net : Net) (targets : List Target) (lengths : List ℕ) (m n : ℕ) (r : TargetRange) → m < n →
    first_target_range net targets lengths m ≡ None → range_of_target net targets lengths m ≡ Some r →
    first_target_range net targets lengths n ≡ Some r
target_range_stays net targets lengths m zero r l none here = elim l [ ]
target_range_stays net targets lengths m (suc n) r l none here =
    by_end (cases_eq m n) (target_range_stays net targets lengths m n r)
  where
    by_end : (m ≡ n) ⊎ (m ≡ n → ⊥) →
        (m < n → first_target_range net targets lengths m ≡ None →
        range_of_target net targets lengths m ≡ Some r → first_target_range net targets lengths n ≡ Some r) →
        first_target_range net targets lengths (suc n) ≡ Some r
    by_end (inl e) _ = rw (← e, none) here
    by_end (inr ne) before = rw (before (omega (arith, l, ne)) none here) refl

-- what is held of a target stays as long as its numbers do
pub held_stays : (n : ℕ) (a b : Kept) (net : Net) (start : ℕ → Interval) (m t : ℕ) → AreEarlierSame n a b →
    net.rows ≡ a.size → t < n →
    HoldsTarget a t net start m → HoldsTarget b t net start m
held_stays n a b net start m t same rows l h = record {
  rounding_is = same.roundings_same t l ∙ h.rounding_is;
  gains_are = λ j k. same.gains_same t j l k ∙ h.gains_are j k;
  widths_are = λ i k. same.widths_same t i l (omega (arith, rows, k)) ∙ h.widths_are i k;
  rests_are = λ i k. same.rests_same t i l (omega (arith, rows, k)) ∙ h.rests_are i k;
}

-- such numbers are filled ones
pub filled_from : (a b : Kept) (net : Net) (targets : List Target) (lengths : List ℕ) (n l : ℕ) → a ≡ b →
    net.rows ≡ n → b.size ≡ n →
    CanBeFilled n targets lengths → AreLeading l targets →
    ((t : ℕ) → t < length targets → HoldsTarget b t net (start_of (target_in targets t)) (length_in lengths t)) →
    Filled (record a { filled = length targets; leading = l }) net targets lengths
filled_from a b net targets lengths n l e rows size can leading held =
    subst (λ (k : Kept). Filled (record k { filled = length targets; leading = l }) net targets lengths)
    (sym e) (record {
      size = rows ∙ sym size;
      count = refl;
      a_length_each = can.a_length_each;
      some = can.some;
      leading = leading;
      numbers = λ t h. (let k =
          held t h in record {
            rounding_is = k.rounding_is;
            gains_are = k.gains_are;
            widths_are =
                k.widths_are;
            rests_are = k.rests_are;
          });
    })

-- ---- totals

-- a part of a total, from the numbers of a list
pub part_is : (n w place t : ℕ) (seen xs : List ℤ) (b : ℕ → ℕ) → n ≡ w → place ≡ t * w → seen ≡ xs →
    total n (λ i. whole_in seen (place + i) *ℤ pos (b i)) ≡ total w (λ i. whole_in xs (t * w + i) *ℤ pos (b i))
part_is n w place t seen xs b p q s = rw (p, q, s) refl

-- the numbers that are held give the total
pub held_total : (k : Kept) (t : ℕ) (net : Net) (start : ℕ → Interval) (m : ℕ) (bounds rows : ℕ → ℕ) →
    net.rows ≡ k.size → HoldsTarget k t net start m →
    kept_total k t bounds rows ≡ target_total net start m bounds rows
held_total k t net start m bounds rows size h =
    let inputs : total PORTS (λ j. kept_gain k t j *ℤ pos (bounds j)) ≡ input_part net start m bounds =
    total_ext PORTS (λ j. kept_gain k t j *ℤ pos (bounds j)) (λ j.
    pos (input_gain net start m j * bounds j)) (λ j l. ap (λ x. x *ℤ pos (bounds j)) (h.gains_are j l)) in
    let wide : total net.rows (λ i. kept_width k t i *ℤ pos (rows i)) ≡ width_part net start m rows =
    total_ext net.rows (λ i. kept_width k t i *ℤ pos (rows i)) (λ i.
    widths net start m i *ℤ pos (rows i)) (λ i l. ap (λ x. x *ℤ pos (rows i)) (h.widths_are i l)) in
    let rests : total net.rows (λ i. kept_rest k t i *ℤ pos (rows i)) ≡ rest_part net start m rows =
    total_ext net.rows (λ i. kept_rest k t i *ℤ pos (rows i)) (λ i. pos (rest net start m i * rows i)) (λ i l.
    ap (λ x. x *ℤ pos (rows i)) (h.rests_are i l)) in
    ap₂ (λ x y. x +ℤ y)
    (ap₂ (λ x y. x +ℤ y) (ap₂ (λ x y. x +ℤ y) inputs h.rounding_is)
    (ap (λ n. total n (λ i. kept_width k t i *ℤ pos (rows i))) (sym size) ∙ wide))
    (ap (λ n. total n (λ i. kept_rest k t i *ℤ pos (rows i))) (sym size) ∙ rests)

-- ---- from one target to the next

pub range_read : (net : Net) (targets : List Target) (lengths : List ℕ) (t : ℕ) (target : Target) (m : ℕ) →
    target ≡ target_in targets t → m ≡ length_in lengths t →
    option_map (λ (at : RangeAt). (let r : TargetRange = record { target = t; at = at } in r))
    (first_range_in net (start_of target) m) ≡ range_of_target net targets lengths t
range_read net targets lengths t target m p q = rw (p, q) refl

pub no_range_more : (net : Net) (targets : List Target) (lengths : List ℕ) (t : ℕ) →
    first_target_range net targets lengths t ≡ None →
    range_of_target net targets lengths t ≡ None → first_target_range net targets lengths (t + 1) ≡ None
no_range_more net targets lengths t p q = (let s : t + 1 ≡ suc t = omega arith in rw (s, p) q)

pub held_next : (net : Net) (targets : List Target) (lengths : List ℕ) (t : ℕ) (a b : Kept) (target : Target)
    (m : ℕ) → target ≡ target_in targets t → m ≡ length_in lengths t →
    net.rows ≡ a.size → AreEarlierSame t a b →
    ((s : ℕ) → s < t → HoldsTarget a s net (start_of (target_in targets s)) (length_in lengths s)) →
    HoldsTarget b t net (start_of target) m →
    (s : ℕ) → s < t + 1 → HoldsTarget b s net (start_of (target_in targets s)) (length_in lengths s)
held_next net targets lengths t a b target m p q rows same held here s l = by_place (cases_eq s t)
  where
    by_place : (s ≡ t) ⊎ (s ≡ t → ⊥) → HoldsTarget b s net (start_of (target_in targets s)) (length_in lengths s)
    by_place (inl e) = rw (e, ← p, ← q) here
    by_place (inr ne) = (let before : s < t = omega (arith, l, ne) in
        held_stays t a b net _ _ s same rows before (held s before))

pub moments_more : (lengths : List ℕ) (t : ℕ) → moments_of lengths (t + 1) ≡ moments_of lengths t + length_in lengths t
moments_more lengths t = (let s : t + 1 ≡ suc t = omega arith in rw s refl)

pub moments_grow : (lengths : List ℕ) (t n : ℕ) → t < n →
    moments_of lengths t + length_in lengths t ≤ moments_of lengths n
moments_grow lengths t zero l = elim l [ ]
moments_grow lengths t (suc n) l = by_end (cases_eq t n) (moments_grow lengths t n)
  where
    by_end : (t ≡ n) ⊎ (t ≡ n → ⊥) →
        (t < n → moments_of lengths t + length_in lengths t ≤ moments_of lengths n) →
        moments_of lengths t + length_in lengths t ≤ moments_of lengths (suc n)
    by_end (inl e) _ = rw e (omega arith)
    by_end (inr ne) before = omega (arith, before (omega (arith, l, ne)))

pub four_parts : {a b c d k l m n : ℤ} → a ≡ k → b ≡ l → c ≡ m → d ≡ n → a +ℤ b +ℤ c +ℤ d ≡ k +ℤ l +ℤ m +ℤ n
four_parts p q r s = ap₂ (λ x y. x +ℤ y) (ap₂ (λ x y. x +ℤ y) (ap₂ (λ x y. x +ℤ y) p q) r) s
