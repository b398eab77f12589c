-- What a row gives, from its accumulator as it is read.
use Rattle.std.proofs.Common.{◌≡◌, ℕ, ◌+◌, ◌^◌, ◌<◌, ◌≤◌, ◌-◌, ℤ, pos, negsuc, ◌+ℤ◌, ◌*ℤ◌, unsigned_abs, Bool, true}
use Rattle.std.proofs.Common.{false, ◌||◌, List}
use Rattle.std.proofs.Common.{[], ◌∷◌, sym, ap, ap₂, ◌∙◌, refl, arith, lit<}
use Rattle.std.specs.List.{list_any}
use Rattle.std.proofs.Math.Nat.{pow-le-pow_right}
use Rattle.std.proofs.lemmas.Int.{ints}
use Rattle.std.proofs.lemmas.Bool.{false≢true}
use Rattle.fx_math.specs.Division.{floor_div}
use Rattle.fx_math.specs.Residue.{wrap, FitsBits}
use Rattle.fx_machine.specs.Prepared.{Plan, word_in, half_of, is_outside, scaled_sum, later_sums, magnitudes}
use Rattle.fx_machine.specs.Prepared.{first_place, sum_of}
use Rattle.fx_machine.specs.Prepared.{read_of, is_partial, IsCopy, Gives}
use Rattle.fx_machine.specs.declared.prepared.ScaledTerm.{ScaledTerm}
use Rattle.fx_machine.proofs.Bits.{wrap_inside, inside_from, zero_fits}
use Rattle.fx_machine.proofs.Reaching.{sum_small, small_inside, sums_inside}

pub gives : (plan : Plan) (words : List ℤ) (total word : ℤ) (partial outside lost : Bool) →
    total ≡ read_of plan words → partial ≡ is_partial plan words →
    outside ≡ is_outside plan.accumulator (sum_of plan words) →
    word ≡ wrap plan.width (floor_div total (2 ^ plan.shift)) →
    lost ≡ is_outside plan.width (floor_div total (2 ^ plan.shift)) →
    Gives plan words (record { word = word; partial = partial; lost = outside || lost; marked = true })
gives plan words total word partial outside lost read way out stored loses =
    record {
      word = stored ∙ ap (λ (z : ℤ). wrap plan.width (floor_div z (2 ^ plan.shift))) read;
      partial = way;
      lost = ap₂ (λ (a b : Bool). a || b) out
          (loses ∙ ap (λ (z : ℤ). is_outside plan.width (floor_div z (2 ^ plan.shift))) read);
      marked = λ e. absurd (false≢true (sym e));
    }

-- of sums that stay within the accumulator
pub kept_gives : (plan : Plan) (words : List ℤ) (sum word : ℤ) (lost : Bool) → 1 ≤ plan.accumulator →
    unsigned_abs plan.constant + magnitudes words plan.terms < half_of plan.accumulator →
    sum ≡ sum_of plan words → word ≡ wrap plan.width (floor_div sum (2 ^ plan.shift)) →
    lost ≡ is_outside plan.width (floor_div sum (2 ^ plan.shift)) →
    Gives plan words (record { word = word; partial = false; lost = lost; marked = lost })
kept_gives plan words sum word lost h reach e stored loses =
    let inside : is_outside plan.accumulator (sum_of plan words) ≡ false =
    small_inside plan.accumulator _ (omega (arith, reach, sum_small plan.constant words plan.terms)) in
    let parts = gives plan words sum word false false lost (e ∙ sym (wrap_inside plan.accumulator _ h inside))
    (sym (sums_inside plan.accumulator plan.constant words plan.terms reach)) (sym inside) stored loses in
    record { word = parts.word; partial = parts.partial; lost = parts.lost; marked = λ none. (refl, none) }

-- of sums that stay within the accumulator and are kept as words
pub sure_gives : (plan : Plan) (words : List ℤ) (sum word : ℤ) → 1 ≤ plan.accumulator → 1 ≤ plan.width →
    unsigned_abs plan.constant + magnitudes words plan.terms < half_of plan.accumulator →
    is_outside plan.width (floor_div (sum_of plan words) (2 ^ plan.shift)) ≡ false →
    sum ≡ sum_of plan words → word ≡ floor_div sum (2 ^ plan.shift) →
    Gives plan words (record { word = word; partial = false; lost = false; marked = false })
sure_gives plan words sum word h low reach kept e floored =
    let inside : is_outside plan.width (floor_div sum (2 ^ plan.shift)) ≡ false =
    ap (λ (z : ℤ). is_outside plan.width (floor_div z (2 ^ plan.shift))) e ∙ kept in
    kept_gives plan words sum word false h reach e
    (floored ∙ sym (wrap_inside plan.width (floor_div sum (2 ^ plan.shift)) low inside)) (sym inside)

-- ---- copies

sum_of_one : (words : List ℤ) (place : ℕ) →
    scaled_sum words (record { multiplier = pos 1; place = place } ∷ []) ≡ word_in words place
sum_of_one words place = omega (arith, ints)

floor_of_whole : (z : ℤ) (shift : ℕ) → shift ≡ 0 → floor_div z (2 ^ shift) ≡ z
floor_of_whole (pos n) shift e = rw e (omega (arith, ints))
floor_of_whole (negsuc n) shift e = rw e (omega (arith, ints))

wider : (width bits : ℕ) (z : ℤ) → width ≤ bits → FitsBits width z → FitsBits bits z
wider width bits z h f =
    let e : width - 1 ≤ bits - 1 = omega (arith, h) in
    let power : half_of width ≤ half_of bits = pow-le-pow_right (lit< tt) e in
    record { low = omega (arith, ints, power, f.low); high = omega (arith, ints, power, f.high) }

one_inside : (bits : ℕ) (words : List ℤ) (place : ℕ) → is_outside bits (word_in words place) ≡ false →
    list_any (is_outside bits) (pos 0 ∷ later_sums (pos 0) words (record { multiplier = pos 1; place = place } ∷ []))
    ≡ false
one_inside bits words place h =
    let zero : is_outside bits (pos 0) ≡ false = inside_from bits (pos 0) (zero_fits bits) in
    let same : pos 0 +ℤ pos 1 *ℤ word_in words place ≡ word_in words place = omega (arith, ints) in
    rw (zero, same, h) refl

pub copy_gives : (plan : Plan) (words : List ℤ) (word : ℤ) → 1 ≤ plan.width → IsCopy plan words →
    word ≡ word_in words (first_place plan.terms) →
    Gives plan words (record { word = word; partial = false; lost = false; marked = false })
copy_gives plan words word low copy e =
    let place = first_place plan.terms in
    let z = word_in words place in
    let in_word : is_outside plan.width z ≡ false = inside_from plan.width z copy.word in
    let fits : FitsBits plan.accumulator z = wider plan.width plan.accumulator z copy.kept copy.word in
    let inside : is_outside plan.accumulator z ≡ false = inside_from plan.accumulator z fits in
    let total : sum_of plan words ≡ z =
    ap₂ (λ (x : ℤ) (ts : List ScaledTerm). x +ℤ scaled_sum words ts) copy.constant copy.terms
    ∙ ap (λ (x : ℤ). pos 0 +ℤ x) (sum_of_one words place) ∙ zero_add z in
    let read : read_of plan words ≡ z =
    ap (wrap plan.accumulator) total
    ∙ wrap_inside plan.accumulator z (omega (arith, low, copy.kept)) inside in
    let floor : floor_div (read_of plan words) (2 ^ plan.shift) ≡ z =
    ap (λ (x : ℤ). floor_div x (2 ^ plan.shift)) read ∙ floor_of_whole z plan.shift copy.shift in
    record {
      word = e ∙ sym (ap (wrap plan.width) floor ∙ wrap_inside plan.width z low in_word);
      partial = sym (ap₂ (λ (x : ℤ) (ts : List ScaledTerm).
          list_any (is_outside plan.accumulator) (x ∷ later_sums x words ts)) copy.constant copy.terms
          ∙ one_inside plan.accumulator words place inside);
      lost = sym (ap₂ (λ (a b : Bool). a || b)
          (ap (is_outside plan.accumulator) total ∙ inside) (ap (is_outside plan.width) floor ∙ in_word));
      marked = λ none. (refl, refl);
    }
  where
    zero_add : (x : ℤ) → pos 0 +ℤ x ≡ x
    zero_add x = omega (arith, ints)
