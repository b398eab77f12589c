-- The rows of a net as targets, each over the same length.
use Rattle.std.proofs.Common.{◌≡◌, ℕ, zero, suc, ◌<◌, ◌≤◌, List, length, arith, refl, ap, ap₂, sym, ◌∙◌}
use Rattle.std.proofs.Common.{subst, inl, inr, replicate}
use Rattle.std.specs.Option.{option_map, option_or}
use Rattle.std.proofs.lemmas.Bool.{cases_lt}
use Rattle.std.proofs.lemmas.List.{get_or-replicate, length-replicate}
use Rattle.fx_net.specs.Net.{Net}
use Rattle.fx_sweep.specs.Range.{first_range_in}
use Rattle.fx_sweep.specs.Target.{TargetFits, start_of}
use Rattle.fx_sweep.specs.declared.limits.TheConstants.{GREATEST_LENGTH}
use Rattle.fx_sweep.specs.declared.target.RangeAt.{RangeAt}
use Rattle.fx_sweep.specs.declared.target.Target.{Target}
use Rattle.fx_sweep.specs.declared.target.Target.TheVariants.{Row}
use Rattle.fx_totals.specs.Filled.{AreLeading, CanBeFilled, first_target_range, length_in}
use Rattle.fx_totals.specs.Filled.{target_in}
use Rattle.fx_gain.specs.Lengths.{first_of, row_range}
use Rattle.fx_gain.specs.Rows.{row_targets}
use Rattle.fx_gain.proofs.Alone.{length_singles, single_at}

pub length-rows : (n : ℕ) → length (row_targets n) ≡ n
length-rows n = length_singles n (λ i. Row i)

pub row_at : (n i : ℕ) → i < n → target_in (row_targets n) i ≡ Row i
row_at n i l = single_at n i (λ i. Row i) (Row 0) l

pub length_at : (n m i : ℕ) → i < n → length_in (replicate n m) i ≡ m
length_at n m i l = get_or-replicate n i m 0 l

-- all of them lead
pub all_lead : (k n : ℕ) → AreLeading k (row_targets n) → k ≡ n
all_lead k n leading = elim (cases_lt k n) [
  | inl l ↦ absurd (leading.no_more (let long = length-rows n in omega (arith, long, l)) (row_at n k l))
  | inr from ↦ (let long = length-rows n in let inside = leading.inside in omega (arith, from, long, inside))
]

pub rows_can_be_filled : (size n m : ℕ) → n ≤ size → 1 ≤ m → m ≤ GREATEST_LENGTH →
    CanBeFilled size (row_targets n) (replicate n m)
rows_can_be_filled size n m inside some short = record {
  few = omega (arith, inside, long);
  a_length_each = length-replicate n m ∙ sym long;
  targets_fit = λ t l. subst (TargetFits size) (sym (row_at n t (omega (arith, l, long))))
      (omega (arith, l, long, inside));
  some = λ t l. (let e = length_at n m t (omega (arith, l, long)) in omega (arith, e, some));
  short = λ t l. (let e = length_at n m t (omega (arith, l, long)) in omega (arith, e, short));
}
  where
    long : length (row_targets n) ≡ n
    long = length-rows n

-- the first that meets a range
pub ranges_meet : (net : Net) (n m k : ℕ) → k ≤ n →
    first_target_range net (row_targets n) (replicate n m) k ≡ first_of k (row_range net m)
ranges_meet net n m zero inside = refl
ranges_meet net n m (suc k) inside =
    ap₂ option_or (ranges_meet net n m k (omega (arith, inside)))
    (ap₂ (λ (t : Target) (l : ℕ). option_map (λ (at : RangeAt). record { target = k; at = at })
    (first_range_in net (start_of t) l))
    (row_at n k (omega (arith, inside))) (length_at n m k (omega (arith, inside))))

pub range_met : (net : Net) (n m : ℕ) (targets : List Target) (lengths : List ℕ) → targets ≡ row_targets n →
    lengths ≡ replicate n m →
    first_target_range net targets lengths (length targets) ≡ first_of n (row_range net m)
range_met net n m targets lengths rows same =
    ap₂ (λ (ts : List Target) (ls : List ℕ). first_target_range net ts ls (length ts)) rows same
    ∙ ap (first_target_range net (row_targets n) (replicate n m)) (length-rows n)
    ∙ ranges_meet net n m n (omega arith)
