-- What the marks of a moment say of the run.
use Rattle.std.proofs.Common.{◌≡◌, ℕ, ◌^◌, ◌<◌, ◌≤◌, ℤ, Bool, true, false, ◌||◌, cond, List, [], ◌∷◌, length}
use Rattle.std.proofs.Common.{All, subst, sym, ap, ◌∙◌, refl, arith}
use Rattle.std.specs.List.{list_any}
use Rattle.std.proofs.lemmas.Bool.{or_parts}
use Rattle.std.proofs.lemmas.List.Elements.{All-nil, All-cons, All-tail}
use Rattle.fx_math.specs.Division.{floor_div}
use Rattle.fx_math.specs.Residue.{wrap, FitsBits}
use Rattle.fx_code.specs.Code.{Code, row_at}
use Rattle.fx_code.specs.Fits.{CodeFits}
use Rattle.fx_machine.specs.Marks.{sums_at, StaysInside, IsClearWhere}
use Rattle.fx_machine.specs.Prepared.{is_outside}
use Rattle.fx_code.specs.Run.{sum_at, IsExact}
use Rattle.fx_machine.specs.Standing.{HasBits, partial_at, lost_at}
use Rattle.fx_machine.proofs.Bits.{fits_from, inside_from, wrap_inside, wrap_is_bits}
use Rattle.fx_machine.proofs.Following.{Starts, sums_are, later_are}

abbrev as_bit : Bool → ℕ
as_bit b = cond b 1 0

unset : (b : Bool) → as_bit b ≡ 0 → b ≡ false
unset true e = absurd (omega (arith, e))
unset false e = refl

-- a bit that is 1 where a test says so is 0 where it does not
clear_where : (test : ℕ → Bool) (claim : ℕ → Type 0) (n marks : ℕ) → HasBits test n marks →
    ((i : ℕ) → i < n → test i ≡ false → claim i) → ((i : ℕ) → i < n → claim i → test i ≡ false) →
    IsClearWhere claim n marks
clear_where test claim n marks has says back =
    record {
      bits = λ i h. (
        λ e. says i h (unset (test i) (sym (has.bits i h) ∙ e)),
        λ holds.
            has.bits i h ∙ ap as_bit (back i h holds),
      );
      rest = has.rest;
    }

-- ---- sums on the way

none_outside : (bits : ℕ) (sums : List ℤ) → list_any (is_outside bits) sums ≡ false → All (FitsBits bits) sums
none_outside bits [] e = All-nil (FitsBits bits)
none_outside bits (z ∷ zs) e =
    let parts = or_parts (is_outside bits z) (list_any (is_outside bits) zs) e in
    All-cons (FitsBits bits) z zs (fits_from bits z parts.0) (none_outside bits zs parts.1)

all_inside : (bits : ℕ) (sums : List ℤ) → All (FitsBits bits) sums → list_any (is_outside bits) sums ≡ false
all_inside bits [] h = refl
all_inside bits (z ∷ zs) h =
    let here : is_outside bits z ≡ false = inside_from bits z (h 0 z (omega arith)) in
    let rest = all_inside bits zs (All-tail (FitsBits bits) z zs h) in
    rw (here, rest) refl

pub partial_marks : (p : Code) (u : ℕ → ℕ → ℤ) (k : ℕ) (begun : List ℤ) (marks : ℕ) → CodeFits p →
    Starts p u k begun → HasBits (partial_at p begun) (length p.rows) marks →
    IsClearWhere (StaysInside p u k) (length p.rows) marks
partial_marks p u k begun marks f s has =
    clear_where (partial_at p begun) (StaysInside p u k) (length p.rows) marks has
    (λ i h e. none_outside p.accumulator (sums_at p u k i) (sym (same i h) ∙ e))
    (λ i h holds. same i h ∙ all_inside p.accumulator (sums_at p u k i) holds)
  where
    same : (i : ℕ) → i < length p.rows → partial_at p begun i ≡ list_any (is_outside p.accumulator) (sums_at p u k i)
    same i h = ap (list_any (is_outside p.accumulator)) (later_are p u k begun i f s h)

-- ---- exact rows

-- what the marks of a row are of its sum
lost_of : (accumulator width shift : ℕ) → ℤ → Bool
lost_of accumulator width shift sum = is_outside accumulator sum
    || is_outside width (floor_div (wrap accumulator sum) (2 ^ shift))

lost_is : (p : Code) (u : ℕ → ℕ → ℤ) (k : ℕ) (begun : List ℤ) (i : ℕ) → CodeFits p → Starts p u k begun →
    i < length p.rows → lost_at p begun i
    ≡ lost_of p.accumulator (row_at p i).width (row_at p i).own.shift (sum_at p u k i)
unfolding lost_of
lost_is p u k begun i f s h =
    ap (lost_of p.accumulator (row_at p i).width (row_at p i).own.shift) (sums_are p u k begun i f s h)

exact_from : (p : Code) (u : ℕ → ℕ → ℤ) (k i : ℕ) → 1 ≤ p.accumulator →
    lost_of p.accumulator (row_at p i).width (row_at p i).own.shift (sum_at p u k i) ≡ false → IsExact p u k i
unfolding lost_of
exact_from p u k i h e =
    let sum = sum_at p u k i in
    let parts = or_parts (is_outside p.accumulator sum)
    (is_outside (row_at p i).width (floor_div (wrap p.accumulator sum) (2 ^ (row_at p i).own.shift))) e in
    let same : wrap p.accumulator sum ≡ sum = wrap_inside p.accumulator sum h parts.0 in
    record {
      sum = same;
      store = subst (λ (z : ℤ). FitsBits (row_at p i).width (floor_div z (2 ^ (row_at p i).own.shift))) same
          (fits_from (row_at p i).width _ parts.1);
    }

not_lost : (p : Code) (u : ℕ → ℕ → ℤ) (k i : ℕ) → 1 ≤ p.accumulator → IsExact p u k i →
    lost_of p.accumulator (row_at p i).width (row_at p i).own.shift (sum_at p u k i) ≡ false
unfolding lost_of
not_lost p u k i h exact =
    let sum = sum_at p u k i in
    let fits : FitsBits p.accumulator sum =
    subst (FitsBits p.accumulator) exact.sum (wrap_is_bits p.accumulator sum h) in
    let first : is_outside p.accumulator sum ≡ false = inside_from p.accumulator sum fits in
    let second : is_outside (row_at p i).width (floor_div (wrap p.accumulator sum) (2 ^ (row_at p i).own.shift))
    ≡ false = rw exact.sum (inside_from (row_at p i).width _ exact.store) in
    rw (first, second) refl

pub lost_marks : (p : Code) (u : ℕ → ℕ → ℤ) (k : ℕ) (begun : List ℤ) (marks : ℕ) → CodeFits p →
    Starts p u k begun → HasBits (lost_at p begun) (length p.rows) marks →
    IsClearWhere (IsExact p u k) (length p.rows) marks
lost_marks p u k begun marks f s has =
    let some : 1 ≤ p.accumulator = omega (arith, f.accumulator_low) in
    clear_where (lost_at p begun) (IsExact p u k) (length p.rows) marks has
    (λ i h e. exact_from p u k i some (sym (lost_is p u k begun i f s h) ∙ e))
    (λ i h exact. lost_is p u k begun i f s h ∙ not_lost p u k i some exact)
