-- What is made of weights, totals and bounds are the ends and the words.
use Rattle.std.proofs.Common.{◌≡◌, ℕ, zero, suc, ◌+◌, ◌-◌, ◌*◌, ◌^◌, ◌<◌, ◌≤◌, List, [], ◌∷◌, ◌++◌, length, arith, refl}
use Rattle.std.proofs.Common.{ap, ap₂, sym, ◌∙◌, subst, replicate, None}
use Rattle.std.proofs.Math.IntN.{ℤ, pos, negsuc, ◌-ℤ◌, ◌*ℤ◌}
use Rattle.std.proofs.Math.Nat.{one-le-pow}
use Rattle.std.specs.Int.Signed.{◌≤ℤ◌}
use Rattle.std.specs.Prelude.{unsigned_abs}
use Rattle.std.proofs.lemmas.Int.{ints}
use Rattle.std.proofs.lemmas.List.{length-map}
use Rattle.fx_math.specs.Sums.{joined, sum_below, total}
use Rattle.fx_math.proofs.Ring.{mul_comm, mul-le-back}
use Rattle.fx_math.proofs.Sums.{total_ext}
use Rattle.fx_eqs.specs.Denominator.{common}
use Rattle.fx_eqs.specs.Fits.{EquationsFit}
use Rattle.fx_eqs.specs.Laws.{CommonDividesEach}
use Rattle.fx_eqs.specs.declared.limits.TheConstants.{PORTS}
use Rattle.fx_files.specs.Filter.{Filter}
use Rattle.fx_files.specs.Fits.{FilterFits}
use Rattle.fx_net.specs.Net.{Net}
use Rattle.fx_nums.specs.Interval.{Interval, magnitude}
use Rattle.fx_nums.specs.declared.limits.TheConstants.{OPERAND_BITS, SCALE_BITS}
use Rattle.fx_sweep.specs.Gains.{widths}
use Rattle.fx_sweep.specs.Swept.{interval_in, whole_in}
use Rattle.fx_sweep.specs.Target.{start_of}
use Rattle.fx_sweep.specs.Weights.{inputs}
use Rattle.fx_totals.specs.Filled.{HoldsTarget, length_in, target_in}
use Rattle.fx_totals.specs.Kept.{AreBounds, Kept, bound_in, greatest_bound, kept_width}
use Rattle.fx_totals.specs.Totals.{target_total, width_part}
use Rattle.fx_block.specs.Formats.{bound_of, output_at}
use Rattle.fx_block.specs.Raising.{RestIsLeast}
use Rattle.fx_gain.specs.Enclosing.{EndsFit, high_end, least_magnitude, low_end, output_row, output_start}
use Rattle.fx_gain.specs.Enclosing.{rows_alone, weight, worst_word, worst_words}
use Rattle.fx_gain.specs.Laws.{EnclosuresHold}
use Rattle.fx_gain.specs.Lengths.{bound_alone, length_failure, original_count, original_net}
use Rattle.fx_gain.specs.Peak.{EnclosesPeak, alone, exact_output, moment_of}
use Rattle.fx_gain.specs.Rows.{IsBlock, row_targets}
use Rattle.fx_gain.specs.Weights.{AreWeights}
use Rattle.fx_gain.proofs.Holding.{least_alone, row_inside}
use Rattle.fx_gain.proofs.Listed.{length-rows, length_at, row_at}

-- ---- words

joined_same : {A : Type 0} (n : ℕ) (f g : ℕ → List A) → ((k : ℕ) → k < n → f k ≡ g k) → joined n f ≡ joined n g
joined_same zero f g same = refl
joined_same (suc n) f g same =
    ap₂ (λ a b. a ++ b) (joined_same n f g (λ k l. same k (omega (arith, l)))) (same n (omega arith))

module _ (net : Net) (filter : Filter) (m o j : ℕ) (ws : List Interval)
    (are : AreWeights net (output_start filter o) m ws) (port : j < PORTS) where
  pub words_are : (bound : ℤ) → bound ≡ pos (bound_of filter j) →
      joined m (λ k. worst_word bound (interval_in ws ((m - (k + 1)) * PORTS + j)) ∷ [])
      ≡ worst_words net filter m o j
  words_are bound same =
      joined_same m (λ k. worst_word bound (interval_in ws ((m - (k + 1)) * PORTS + j)) ∷ []) (λ k.
      worst_word (pos (bound_of filter j)) (weight net filter o j (m - (k + 1))) ∷ [])
      (λ k l. ap₂ (λ b v. worst_word b v ∷ []) same (are.each (m - (k + 1)) j (omega (arith, l)) port))

  -- ---- sums

  below_same : (n : ℕ) (f g : ℕ → ℕ) → ((k : ℕ) → k < n → f k ≡ g k) → sum_below n f ≡ sum_below n g
  below_same zero f g same = refl
  below_same (suc n) f g same =
      ap₂ (λ a b. a + b) (below_same n f g (λ k l. same k (omega (arith, l)))) (same n (omega arith))

  pub gain_small : sum_below m (λ n. magnitude (interval_in ws (n * PORTS + j))) < 2 ^ OPERAND_BITS
  gain_small =
      subst (λ s. s < 2 ^ OPERAND_BITS)
      (sym (below_same m (λ n. magnitude (interval_in ws (n * PORTS + j))) (λ n.
      magnitude (inputs net (output_start filter o) n j)) (λ n l. ap magnitude (are.each n j l port))))
      (are.small j port)

  least_is : total m (λ n. least_magnitude (interval_in ws (n * PORTS + j)))
      ≡ total m (λ n. least_magnitude (weight net filter o j n))
  least_is = total_ext m (λ n. least_magnitude (interval_in ws (n * PORTS + j))) (λ n.
      least_magnitude (weight net filter o j n)) (λ n l. ap least_magnitude (are.each n j l port))

  -- ---- the low end

  pub low_is : (k : Kept) (x : List ℤ) (least bound cut : ℤ) → IsBlock filter net k m →
      output_row filter o < original_count filter → bound_in x ≡ rows_alone net filter m j →
      least ≡ total m (λ n. least_magnitude (interval_in ws (n * PORTS + j))) → bound ≡ pos (bound_of filter j) →
      cut ≡ total k.size (λ i. kept_width k (output_row filter o) i *ℤ pos (bound_in x i)) →
      (least *ℤ bound) -ℤ cut ≡ low_end net filter m o j
  low_is k x least bound cut block inside rows least_same bound_same cut_same =
      let r : ℕ = output_row filter o in
      let n : ℕ = original_count filter in
      let long = length-rows n in
      let held : HoldsTarget k r net (start_of (target_in (row_targets n) r)) (length_in (replicate n m) r) =
      block.filled.numbers r (omega (arith, inside, long)) in
      let cut_is : cut ≡ width_part net (output_start filter o) m (rows_alone net filter m j) =
      cut_same
      ∙ ap (λ s. total s (λ i. kept_width k r i *ℤ pos (bound_in x i))) (sym block.filled.size)
      ∙ total_ext net.rows (λ i. kept_width k r i *ℤ pos (bound_in x i)) (λ i.
      widths net (output_start filter o) m i *ℤ pos (rows_alone net filter m j i))
      (λ i l. ap₂ (λ w b. w *ℤ pos b)
      (held.widths_are i l
      ∙ ap₂ (λ t h. widths net (start_of t) h i) (row_at n r inside) (length_at n m r inside))
      (ap (λ (f : ℕ → ℕ). f i) rows)) in
      ap₂ (λ a c. a -ℤ c)
      (ap₂ (λ a b. a *ℤ b) (least_same ∙ least_is) bound_same
      ∙ mul_comm (total m (λ n. least_magnitude (weight net filter o j n))) (pos (bound_of filter j)))
      cut_is

-- ---- the high end

pub high_is : (net : Net) (filter : Filter) (k : Kept) (m o j : ℕ) (bounds x : List ℤ) (t : ℤ) →
    output_row filter o < original_count filter → bound_in bounds ≡ bound_alone filter j →
    bound_in x ≡ rows_alone net filter m j →
    t ≡ target_total net (start_of (target_in (row_targets (original_count filter)) (output_row filter o)))
    (length_in (replicate (original_count filter) m) (output_row filter o)) (bound_in bounds) (bound_in x) →
    t ≡ high_end net filter m o j
high_is net filter k m o j bounds x t inside words rows same =
    same
    ∙ ap₂ (λ r h. target_total net (start_of r) h (bound_in bounds) (bound_in x))
    (row_at (original_count filter) (output_row filter o) inside)
    (length_at (original_count filter) m (output_row filter o) inside)
    ∙ ap₂ (λ (b y : ℕ → ℕ). target_total net (output_start filter o) m b y) words rows

-- ---- in order

magnitude_below : (z : ℤ) (n : ℕ) → pos 0 ≤ℤ z → z ≤ℤ pos n → unsigned_abs z ≤ n
magnitude_below (pos a) n low high = omega (arith, ints, high)
magnitude_below (negsuc a) n low high = absurd (omega (arith, ints, low))

bound_small : (x : List ℤ) (i : ℕ) → AreBounds x → bound_in x i ≤ greatest_bound
bound_small x i fits = magnitude_below (whole_in x i) greatest_bound (fits i).0 (fits i).1

ordered : (filter : Filter) (o j : ℕ) (v : Interval) (words : List ℤ) → CommonDividesEach →
    EnclosesPeak filter o j v words → (v.lo ≤ℤ v.hi) × (pos 0 ≤ℤ v.hi)
ordered filter o j v words divides holds =
    let k : ℕ = length words - 1 in
    let r = exact_output filter (alone filter j words) (length words - 1) o in
    let some : 0 < length words = holds.some in
    let long = length-map words (moment_of (length filter.inputs) j) in
    let above = holds.never_above (alone filter j words) holds.lies_on k (omega (arith, some, long)) in
    let below = holds.reached in
    let den : 0 < r.den =
    one-le-pow (k * filter.equations.rows + (output_at filter o).row + 1) (common filter.equations)
    (divides filter.equations).0 in
    sides r.num r.den v.lo v.hi den above below
  where
    sides : (z : ℤ) (d : ℕ) (lo hi : ℤ) → 0 < d → pos (2 ^ SCALE_BITS * unsigned_abs z) ≤ℤ (hi *ℤ pos d) →
        (lo *ℤ pos d) ≤ℤ (pos (2 ^ SCALE_BITS) *ℤ z) → (lo ≤ℤ hi) × (pos 0 ≤ℤ hi)
    sides (pos n) d lo hi some above below = (
      mul-le-back d lo hi some (omega (arith, ints, above, below, mul_comm lo (pos d), mul_comm hi (pos d))),
      mul-le-back d (pos 0) hi some (omega (arith, ints, above, mul_comm hi (pos d))),
    )
    sides (negsuc n) d lo hi some above below = (
      mul-le-back d lo hi some (omega (arith, ints, above, below, mul_comm lo (pos d), mul_comm hi (pos d))),
      mul-le-back d (pos 0) hi some (omega (arith, ints, above, mul_comm hi (pos d))),
    )

pub ends_fit : (filter : Filter) (net : Net) (k : Kept) (m o j : ℕ) (x : List ℤ) → FilterFits filter →
    EquationsFit filter.equations → RestIsLeast → CommonDividesEach → EnclosuresHold filter →
    net ≡ original_net filter → IsBlock filter net k m → o < length filter.outputs → j < length filter.inputs →
    AreBounds x → bound_in x ≡ rows_alone net filter m j → EndsFit net filter m o j
ends_fit filter net k m o j x kept system rest divides law same block output input fits rows =
    let own : Net = original_net filter in
    let serves : length_failure (original_net filter) filter m ≡ None =
    subst (λ n. length_failure n filter m ≡ None) same block.serves in
    let r : ℕ = output_row filter o in
    let least = least_alone filter system rest m j block.some input serves in
    let next = (least.serve r (row_inside filter kept system o output)).total in
    let here : rows_alone own filter m j r ≡ bound_in x r =
    sym (ap (λ (f : ℕ → ℕ). f r) (subst (λ n. bound_in x ≡ rows_alone n filter m j) same rows)) in
    let small = bound_small x r fits in
    let sides = ordered filter o j _ (worst_words own filter m o j) divides
    (law m o j block.some output input serves) in
    let high : unsigned_abs (high_end own filter m o j) ≤ greatest_bound * 2 ^ 64 =
    magnitude_below (high_end own filter m o j) (greatest_bound * 2 ^ 64) sides.1
    (omega (arith, ints, next, here, small)) in
    subst (λ n. EndsFit n filter m o j) (sym same)
    (record { order = sides.0; high_fits = omega (arith, high) })
