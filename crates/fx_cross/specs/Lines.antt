-- Lines of places that are linked: the head of a line, and each of its places, leads to the next place.
use Rattle.std.specs.Prelude.{◌≡◌, ℕ, zero, suc, ◌+◌, ◌<◌, ◌≤◌}

-- p is the first place of a line at `from` or after it, and the end where there is none.
-- Each place stands at its key.
pub record IsFirst (end : ℕ) (key : ℕ → ℕ) (line : ℕ → ℕ) (from p : ℕ) : Type 0 where
  pub reached : from ≤ key p
  pub stands : line (key p) ≡ p
  pub between : (m : ℕ) → from ≤ m → m < key p → line m ≡ end

-- what leads to the first place of line l at b or after it: its head, or the place just before b
abbrev pub source : (ℕ → ℕ) → (ℕ → ℕ → ℕ) → ℕ → ℕ → ℕ
source head place l zero = head l
source head place l (suc k) = place l k

-- each line is a rising list that ends: its head and its places lead to the first place after each
abbrev pub AreLinked : ℕ → ℕ → (ℕ → ℕ) → (ℕ → ℕ) → (ℕ → ℕ) → (ℕ → ℕ → ℕ) → Type 0
AreLinked end lines head key next place =
    (l b : ℕ) → l < lines → (source head place l b ≡ end → ⊥) →
    IsFirst end key (place l) b (next (source head place l b))

-- q leads to what stands at k or after it in a line: it is the line's last place before k, at b - 1,
-- or else the head
pub record IsLead (end head : ℕ) (line : ℕ → ℕ) (k q b : ℕ) : Type 0 where
  pub order : b ≤ k
  pub none : (m : ℕ) → b ≤ m → m < k → line m ≡ end
  pub from_head : b ≡ 0 → q ≡ head
  pub from_place : (m : ℕ) → b ≡ m + 1 → line m ≡ q
  pub some : q ≡ end → ⊥
