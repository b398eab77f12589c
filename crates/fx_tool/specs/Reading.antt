-- What a read of a whole file says.
use Rattle.std.specs.Prelude.{◌≡◌, ◌≤◌, ◌<◌, ◌+◌, ◌⊎◌, ℕ, min, List, [], take, length, Option, Some, None, IsSomeAnd, ⊤}
use Rattle.std.specs.FinMap.{get}
use Rattle.fx_io.specs.Shelf.{Files}

-- where files are told, the file is among them, and P holds of its content
abbrev pub Has : Option Files → List ℕ → (List ℕ → Type 0) → Type 0
Has None name P = ⊤
Has (Some files) name P = IsSomeAnd (get files name) P

-- nothing was read, or the beginning of the file
abbrev pub SoFar : Option Files → List ℕ → List ℕ → Type 0
SoFar None name bytes = ⊤
SoFar (Some files) name bytes =
    (bytes ≡ []) ⊎ IsSomeAnd (get files name) (λ content. bytes ≡ take (length bytes) content)

-- the content, where it is no longer than the limit
abbrev pub HoldsContent : ℕ → Option (List ℕ) → List ℕ → Type 0
HoldsContent limit None content = limit < length content
HoldsContent limit (Some bytes) content = (content ≡ bytes) × (length content ≤ limit)

-- The most calls that a read of a whole file takes: one more than its bytes, one more than the limit where it is
-- longer, and one for an absent file.
abbrev pub content_calls : ℕ → Option (List ℕ) → ℕ
content_calls limit None = 1
content_calls limit (Some content) = min (length content) limit + 1

abbrev pub read_calls : ℕ → Option Files → List ℕ → ℕ
read_calls limit None name = limit + 1
read_calls limit (Some files) name = content_calls limit (get files name)
