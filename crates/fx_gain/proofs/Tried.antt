-- What is known of a length that was tried.
use Rattle.std.proofs.Common.{◌≡◌, ℕ, zero, suc, ◌<◌, arith, refl, ap, sym, ◌∙◌, subst, inl, inr}
use Rattle.std.proofs.Common.{Option, Some, None, replicate}
use Rattle.std.proofs.Math.IntN.{pos}
use Rattle.std.specs.Option.{option_map, option_or}
use Rattle.std.proofs.lemmas.Bool.{cases_lt}
use Rattle.fx_files.specs.Filter.{Filter}
use Rattle.fx_net.specs.Net.{Net}
use Rattle.fx_nums.specs.Interval.{Interval}
use Rattle.fx_sweep.specs.Range.{first_range_in, range_at}
use Rattle.fx_sweep.specs.declared.target.RangeAt.{RangeAt}
use Rattle.fx_totals.specs.Filled.{Filled, length_in}
use Rattle.fx_totals.specs.Kept.{Kept}
use Rattle.fx_totals.specs.declared.target_range.TargetRange.{TargetRange}
use Rattle.fx_block.specs.Raising.{Raises}
use Rattle.fx_block.specs.Raising.Raises.{Rest, Over, Slow}
use Rattle.fx_block.specs.Told.{Tells}
use Rattle.fx_block.specs.declared.least.Least.{Least}
use Rattle.fx_block.specs.declared.least.Least.TheVariants.{Rest as ToldRest, Over as ToldOver, Slow as ToldSlow}
use Rattle.fx_block.specs.declared.least.LengthWhy.TheVariants.{Bounds, Range}
use Rattle.fx_gain.specs.Enclosing.{rest_of}
use Rattle.fx_gain.specs.Lengths.{bound_alone, bounds_failure, first_of, length_failure}
use Rattle.fx_gain.specs.Lengths.{original_count, raises_alone, raises_up, range_failure, row_range}
use Rattle.fx_gain.specs.Lengths.{unrest}
use Rattle.fx_gain.specs.Rows.{row_targets}
use Rattle.fx_sweep.specs.Target.{start_of}
use Rattle.fx_sweep.specs.declared.target.Target.TheVariants.{Row}
use Rattle.fx_gain.proofs.Bounding.{raises_same}
use Rattle.fx_gain.proofs.Firsts.{none_left, none_mapped, none_of}
use Rattle.fx_gain.proofs.Listed.{all_lead, length_at}

-- ---- ranges

-- where no moment meets a range, this one does not
pub none_at : (net : Net) (start : ℕ → Interval) (n m : ℕ) → n < m → first_range_in net start m ≡ None →
    range_at net start n ≡ None
none_at net start n zero l none = absurd (omega (arith, l))
none_at net start n (suc m) l none =
    elim (cases_lt n m) [
      | inl below ↦ none_at net start n m below (left (first_range_in net start m) (range_at net start m) none)
      | inr from ↦ subst (λ k. range_at net start k ≡ None) (let e : m ≡ n = omega (arith, l, from) in e)
          (right (first_range_in net start m) (range_at net start m) none)
    ]
  where
    left : (x y : Option RangeAt) → option_or x y ≡ None → x ≡ None
    left None y e = refl
    left (Some a) y e = cc

    right : (x y : Option RangeAt) → option_or x y ≡ None → y ≡ None
    right None y e = e
    right (Some a) y e = cc

-- ---- raises for one input

-- what raises by filled totals tell
pub told_alone : (net : Net) (filter : Filter) (k : Kept) (m j : ℕ) (least : Least) (x : ℕ → ℕ) →
    Filled k net (row_targets (original_count filter)) (replicate (original_count filter) m) →
    Tells (raises_up net k.leading (length_in (replicate (original_count filter) m)) (bound_alone filter j)) least x →
    Tells (raises_alone net filter m j) least x
told_alone net filter k m j least x filled told =
    let n : ℕ = original_count filter in
    let all : k.leading ≡ n = all_lead k.leading (original_count filter) filled.leading in
    subst (λ r. Tells r least x)
    (ap (λ i. raises_up net i (length_in (replicate n m)) (bound_alone filter j)) all
    ∙ raises_same net n (length_in (replicate n m)) (λ i. m) (bound_alone filter j) (λ i l. length_at n m i l))
    told

pub no_failure : (m j : ℕ) (r : Raises) (least : Least) (x : ℕ → ℕ) → Tells r least x → least ≡ ToldRest →
    unrest m j r ≡ None
no_failure m j (Rest y) least x told is = refl
no_failure m j (Over row value cap) least x told is =
    (let never : ToldOver row (pos value) (pos cap) ≡ ToldRest = sym told ∙ is in cc)
no_failure m j (Slow row before after) least x told is =
    (let never : ToldSlow row (pos before) (pos after) ≡ ToldRest = sym told ∙ is in cc)

pub one_failure : (m j : ℕ) (r : Raises) (least : Least) (x : ℕ → ℕ) → Tells r least x → (least ≡ ToldRest → ⊥) →
    unrest m j r ≡ Some (record { length = m; input = j; why = Bounds least })
one_failure m j (Rest y) least x told not = absurd (not told.0)
one_failure m j (Over row value cap) least x told not =
    ap (λ (l : Least). Some (record { length = m; input = j; why = Bounds l })) (sym told)
one_failure m j (Slow row before after) least x told not =
    ap (λ (l : Least). Some (record { length = m; input = j; why = Bounds l })) (sym told)

-- the bounds with which they rest
pub rest_is : (r : Raises) (least : Least) (x : ℕ → ℕ) → Tells r least x → r ≡ Rest (rest_of r) → x ≡ rest_of r
rest_is (Rest y) least x told e = told.1
rest_is (Over row value cap) least x told e = cc
rest_is (Slow row before after) least x told e = cc

-- ---- a whole length

pub failed_range : (net : Net) (filter : Filter) (m : ℕ) (range : TargetRange) →
    first_of (original_count filter) (row_range net m) ≡ Some range →
    Some (record { length = m; input = 0; why = Range range }) ≡ length_failure net filter m
failed_range net filter m range e =
    sym (ap (λ (o : Option TargetRange). option_or (option_map (λ (range : TargetRange).
    record { length = m; input = 0; why = Range range }) o) (bounds_failure net filter m)) e)

pub passed_range : (net : Net) (filter : Filter) (m : ℕ) →
    first_of (original_count filter) (row_range net m) ≡ None →
    bounds_failure net filter m ≡ length_failure net filter m
passed_range net filter m e =
    sym (ap (λ (o : Option TargetRange). option_or (option_map (λ (range : TargetRange).
    record { length = m; input = 0; why = Range range }) o) (bounds_failure net filter m)) e)

-- no row meets a range within a length that does not fail
pub row_within : (net : Net) (filter : Filter) (m i : ℕ) → length_failure net filter m ≡ None →
    i < original_count filter → first_range_in net (start_of (Row i)) m ≡ None
row_within net filter m i serves inside =
    none_mapped (λ (at : RangeAt). record { target = i; at = at }) (first_range_in net (start_of (Row i)) m)
    (none_of (original_count filter) (row_range net m)
    (none_mapped (λ (range : TargetRange). record { length = m; input = 0; why = Range range })
    (first_of (original_count filter) (row_range net m))
    (none_left (range_failure net filter m) (bounds_failure net filter m) serves)) i inside)
