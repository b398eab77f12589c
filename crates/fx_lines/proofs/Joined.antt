-- Texts, one behind the other.
use Rattle.std.proofs.Common.{◌≡◌, ℕ, List, ◌++◌, append_assoc}

-- a text behind two is the same, whichever two are put together first
pub regrouped : (a b c : List ℕ) → (a ++ b) ++ c ≡ a ++ (b ++ c)
regrouped a b c = append_assoc a b c

-- two pieces, one after the other
pub two_pushed : (old first new second newer : List ℕ) → new ≡ old ++ first → newer ≡ new ++ second →
    newer ≡ old ++ (first ++ second)
two_pushed old first new second newer one two = rw (two, one) (append_assoc old first second)
