-- Lines, one behind the other.
use Rattle.std.proofs.Common.{◌≡◌, ◌+◌, ℕ, zero, suc, List, [], ◌∷◌, ◌++◌, length, append_assoc, arith, refl, sym}
use Rattle.std.proofs.lemmas.List.{append-nil}
use Rattle.std.proofs.lemmas.List.Concat.{flat_map-cons}
use Rattle.std.specs.List.{flat_map}
use Rattle.fx_math.specs.Sums.{joined}
use Rattle.fx_lines.specs.Laws.{AreLines, IsLine}

-- lines behind lines
pub lines_then : (m n : ℕ) (a b : List ℕ) → AreLines m a → AreLines n b → AreLines (m + n) (a ++ b)
lines_then zero n a b none more =
    let e : zero + n ≡ n = omega arith in
    rw (e, none) more
lines_then (suc m) n a b some more =
    let e : suc m + n ≡ suc (m + n) = omega arith in
    rw (e, some.1.1.0) (
      some.0,
      (
        some.1.0 ++ b,
        (
          append_assoc some.0 some.1.0 b,
          (some.1.1.1.0, lines_then m n some.1.0 b some.1.1.1.1 more),
        ),
      ),
    )

-- a line alone
pub alone : (text : List ℕ) → IsLine text → AreLines (suc zero) text
alone text line = (text, ([], (sym (append-nil text), (line, refl))))

-- one of each number
pub joined_lines : (n : ℕ) (f : ℕ → List ℕ) → ((i : ℕ) → IsLine (f i)) → AreLines n (joined n f)
joined_lines zero f each = refl
joined_lines (suc n) f each =
    let e : n + suc zero ≡ suc n = omega arith in
    rw e at (lines_then n (suc zero) (joined n f) (f n) (joined_lines n f each) (alone (f n) (each n)))

-- one of each entry
pub entry_lines : {A : Type 0} (f : A → List ℕ) → ((x : A) → IsLine (f x)) → (xs : List A) →
    AreLines (length xs) (flat_map f xs)
entry_lines f each [] = refl
entry_lines f each (x ∷ xs) = (f x, (flat_map f xs, (flat_map-cons f x xs, (each x, entry_lines f each xs))))
