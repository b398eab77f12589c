-- No inequality is told as failing exactly where all hold.
use Rattle.std.proofs.Common.{◌≡◌, ℕ, zero, suc, ◌+◌, ◌<◌, arith, refl, subst, inl, inr, Bool, true, false, eqb, length}
use Rattle.std.proofs.Math.IntN.{ℤ}
use Rattle.std.specs.Int.Signed.{◌≤ℤ◌}
use Rattle.std.specs.Prelude.{Option, Some, None, int_le}
use Rattle.std.specs.Option.{option_or}
use Rattle.std.proofs.lemmas.Bool.{cases_lt, eq-eqb, eqb-true}
use Rattle.std.proofs.lemmas.Int.{ints}
use Rattle.fx_files.specs.Filter.{Filter}
use Rattle.fx_code.specs.Code.{Code}
use Rattle.fx_cert.specs.Certificate.{Certificate}
use Rattle.fx_sweep.specs.declared.target.RangeAt.{RangeAt}
use Rattle.fx_block.specs.Certified.{NoneFails}
use Rattle.fx_block.specs.Failure.{Failure, unless, unequal, above, out_of_range, first_of, form_failure}
use Rattle.fx_block.specs.Failure.{range_failure, bound_failure, word_failure, sum_failure, error_failure}
use Rattle.fx_block.specs.Failure.{wanted_failure, first_failure}
use Rattle.fx_block.specs.Passes.{IsOfForm, Passes, pair_range, row_count, row_range}
use Rattle.fx_block.specs.declared.inequality.Inequality.{Inequality}

-- ---- one test

unless_none : (holds : Bool) (which : Inequality) (l r : ℤ) → unless holds which l r ≡ None → holds ≡ true
unless_none true which l r e = refl
unless_none false which l r e = cc

unless_met : (holds : Bool) (which : Inequality) (l r : ℤ) → holds ≡ true → unless holds which l r ≡ None
unless_met true which l r e = refl
unless_met false which l r e = cc

equal_from : (which : Inequality) (a b : ℕ) → unequal which a b ≡ None → a ≡ b
equal_from which a b e = eqb-true a b (unless_none (eqb a b) which _ _ e)

equal_met : (which : Inequality) (a b : ℕ) → a ≡ b → unequal which a b ≡ None
equal_met which a b e = unless_met (eqb a b) which _ _ (eq-eqb a b e)

below_from : (which : Inequality) (a b : ℤ) → above which a b ≡ None → a ≤ℤ b
below_from which a b e = let test : int_le a b ≡ true =
    unless_none (int_le a b) which a b e in omega (arith, ints, test)

below_met : (which : Inequality) (a b : ℤ) → a ≤ℤ b → above which a b ≡ None
below_met which a b h = by (int_le a b) refl
  where
    by : (t : Bool) → int_le a b ≡ t → above which a b ≡ None
    by true e = unless_met (int_le a b) which a b e
    by false e = absurd (omega (arith, ints, e, h))

range_from : (t : ℕ) (range : Option RangeAt) → out_of_range t range ≡ None → range ≡ None
range_from t None e = refl
range_from t (Some at) e = cc

range_met : (t : ℕ) (range : Option RangeAt) → range ≡ None → out_of_range t range ≡ None
range_met t None e = refl
range_met t (Some at) e = cc

-- ---- one after the other

or_from : (a b : Option Failure) → option_or a b ≡ None → (a ≡ None) × (b ≡ None)
or_from None b e = (refl, e)
or_from (Some x) b e = cc

or_met : (a b : Option Failure) → a ≡ None → b ≡ None → option_or a b ≡ None
or_met None b e f = f
or_met (Some x) b e f = cc

first_from : (n : ℕ) (f : ℕ → Option Failure) → first_of n f ≡ None → (i : ℕ) → i < n → f i ≡ None
first_from zero f e i l = absurd (omega arith)
first_from (suc n) f e i l =
    let parts = or_from (first_of n f) (f n) e in
    elim (cases_lt i n) [
      | inl below ↦ first_from n f parts.0 i below
      | inr at ↦ subst (λ j. f j ≡ None) (let same : n ≡ i = omega arith in same) parts.1
    ]

first_met : (n : ℕ) (f : ℕ → Option Failure) → ((i : ℕ) → i < n → f i ≡ None) → first_of n f ≡ None
first_met zero f h = refl
first_met (suc n) f h = or_met (first_of n f) (f n) (first_met n f (λ i l. h i (omega arith))) (h n (omega arith))

-- ---- all of them

module _ (filter : Filter) (p : Code) (c : Certificate) where
  form_from : form_failure filter p c ≡ None → IsOfForm filter p c
  form_from e =
      let a = or_from _ _ e in
      let b = or_from _ _ a.1 in
      let d = or_from _ _ b.1 in
      let f = or_from _ _ d.1 in
      let g = or_from _ _ f.1 in
      let h = or_from _ _ g.1 in
      record {
        inputs = equal_from _ _ _ a.0;
        outputs = equal_from _ _ _ b.0;
        accumulator = equal_from _ _ _ d.0;
        input_widths = λ j l. equal_from _ _ _ (first_from _ _ f.0 j l);
        output_widths = λ o l. equal_from _ _ _ (first_from _ _ g.0 o l);
        rows = equal_from _ _ _ h.0;
        errors = equal_from _ _ _ h.1;
      }

  form_met : IsOfForm filter p c → form_failure filter p c ≡ None
  form_met form =
      or_met _ _ (equal_met _ _ _ form.inputs) (
      or_met _ _ (equal_met _ _ _ form.outputs) (
      or_met _ _ (equal_met _ _ _ form.accumulator) (
      or_met _ _ (first_met _ _ (λ j l. equal_met _ _ _ (form.input_widths j l))) (
      or_met _ _ (first_met _ _ (λ o l. equal_met _ _ _ (form.output_widths o l))) (
      or_met _ _ (equal_met _ _ _ form.rows) (
      equal_met _ _ _ form.errors))))))

  passes_from : first_failure filter p c ≡ None → Passes filter p c
  passes_from e =
      let a = or_from (form_failure filter p c) _ e in
      let b = or_from (range_failure filter p c) _ a.1 in
      let ranges = or_from (first_of (row_count filter p) (λ j. out_of_range j (row_range filter p c j)))
      (first_of (length filter.outputs) (λ o.
      out_of_range (row_count filter p + o) (pair_range filter p c o))) b.0 in
      let d = or_from (bound_failure filter p c) _ b.1 in
      let f = or_from (word_failure p c) _ d.1 in
      let g = or_from (sum_failure p c) _ f.1 in
      let h = or_from (error_failure filter p c) (wanted_failure filter c) g.1 in
      record {
        form = form_from a.0;
        row_ranges = λ j l. range_from j (row_range filter p c j)
            (first_from (row_count filter p) (λ j. out_of_range j (row_range filter p c j)) ranges.0 j l);
        pair_ranges = λ o l. range_from (row_count filter p + o) (pair_range filter p c o)
            (first_from (length filter.outputs) (λ o.
            out_of_range (row_count filter p + o) (pair_range filter p c o)) ranges.1 o l);
        bounds = λ j l. below_from _ _ _ (first_from _ _ d.0 j l);
        widths = λ i l. record {
          word = below_from _ _ _ (first_from _ _ f.0 i l);
          sum =
              below_from _ _ _ (first_from _ _ g.0 i l);
        };
        errors = λ o l. below_from _ _ _ (first_from _ _ h.0 o l);
        wanted = λ o l. below_from _ _ _ (first_from _ _ h.1 o l);
      }

  passes_met : Passes filter p c → first_failure filter p c ≡ None
  passes_met passes =
      or_met (form_failure filter p c) _ (form_met passes.form) (
      or_met (range_failure filter p c) _
      (or_met _ _ (first_met _ _ (λ j l. range_met _ _ (passes.row_ranges j l)))
      (first_met _ _ (λ o l. range_met _ _ (passes.pair_ranges o l)))) (
      or_met (bound_failure filter p c) _ (first_met _ _ (λ j l. below_met _ _ _ (passes.bounds j l))) (
      or_met (word_failure p c) _ (first_met _ _ (λ i l. below_met _ _ _ (passes.widths i l).word)) (
      or_met (sum_failure p c) _ (first_met _ _ (λ i l. below_met _ _ _ (passes.widths i l).sum)) (
      or_met (error_failure filter p c) (wanted_failure filter c)
      (first_met _ _ (λ o l. below_met _ _ _ (passes.errors o l)))
      (first_met _ _ (λ o l. below_met _ _ _ (passes.wanted o l))))))))

pub none_fails : NoneFails
none_fails filter p c = (passes_from filter p c, passes_met filter p c)
