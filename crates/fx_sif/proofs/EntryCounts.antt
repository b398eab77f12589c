-- How many entries there are.
use Rattle.std.proofs.Common.{◌≡◌, ℕ, zero, suc, ◌+◌, ◌*◌, ◌<◌, ◌≤◌, List, [], ◌∷◌, length, refl, arith, ap}
use Rattle.std.proofs.lemmas.List.{length-append}
use Rattle.fx_math.specs.Sums.{joined}
use Rattle.fx_nums.specs.Fraction.{Fraction}
use Rattle.fx_sif.specs.Entries.{across, delay_row, delays}
use Rattle.fx_sif.specs.declared.parts.Block.{Block}
use Rattle.fx_sif.specs.declared.parts.Entry.{Entry}

pub across_count : (b : Block) (i j : ℕ) (cs : List Fraction) → length (across b i j cs) ≡ length cs
across_count b i j [] = refl
across_count b i j (c ∷ cs) = ap suc (across_count b i (j + 1) cs)

-- rows of at most so many entries each
pub joined_count : (n m : ℕ) (f : ℕ → List Entry) → ((i : ℕ) → i < n → length (f i) ≤ m) → length (joined n f) ≤ n * m
joined_count zero m f each = omega arith
joined_count (suc n) m f each =
    let before = joined_count n m f (λ i h. each i (omega arith)) in
    let last = each n (omega arith) in
    omega (arith, before, last, length-append (joined n f) (f n))

delay_count : (b : Block) (column at i : ℕ) → length (delay_row b column at i) ≡ 1
delay_count b column at zero = refl
delay_count b column at (suc i) = refl

pub delays_count : (b : Block) (column at n : ℕ) → length (delays b column at n) ≤ n
delays_count b column at n =
    let one = joined_count n 1 (delay_row b column at) (λ i h. omega (arith, delay_count b column at i)) in
    omega (arith, one)
