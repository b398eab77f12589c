-- Values that come moment by moment and, in a moment, row by row.
use Rattle.std.specs.Prelude.{◌≡◌, ◌<◌, ℕ, zero, suc, ℤ, pos, cond, nat_eq}

-- row i of moment k, from the rows of this moment before it and all rows of the moment before
abbrev pub Step : Type 0
Step = ℕ → ℕ → (ℕ → ℤ) → (ℕ → ℤ) → ℤ

-- the first n rows of a moment, the others 0
abbrev pub fill : (ℕ → (ℕ → ℤ) → ℤ) → ℕ → ℕ → ℤ
fill f zero j = pos 0
fill f (suc i) j = cond (nat_eq j i) (f i (fill f i)) (fill f i j)

-- the n rows of the moment before moment k, before which all is 0
abbrev pub last : ℕ → Step → ℕ → ℕ → ℤ
last n step zero j = pos 0
last n step (suc k) j = fill (λ i now. step k i now (last n step k)) n j

-- the rows of moment k before row i
abbrev pub so_far : ℕ → Step → ℕ → ℕ → ℕ → ℤ
so_far n step k i j = fill (λ i now. step k i now (last n step k)) i j

-- row i of moment k, of n rows
abbrev pub unroll : ℕ → Step → ℕ → ℕ → ℤ
unroll n step k i = last n step (suc k) i

-- the moment before moment k, before which all is 0
abbrev pub before : (ℕ → ℕ → ℤ) → ℕ → ℕ → ℤ
before f zero j = pos 0
before f (suc k) j = f k j

-- a step of the first n rows reads, of its own moment, earlier rows alone
abbrev pub ReadsEarlierRows : ℕ → Step → Type 0
ReadsEarlierRows n step = (k i : ℕ) (now later old : ℕ → ℤ) → i < n → ((j : ℕ) → j < i → now j ≡ later j) →
    step k i now old ≡ step k i later old

-- f, l moments before moment k; what lies before moment 0 is 0
abbrev pub lagged : (ℕ → ℕ → ℤ) → ℕ → ℕ → ℕ → ℤ
lagged f k zero j = f k j
lagged f zero (suc l) j = pos 0
lagged f (suc k) (suc l) j = lagged f k l j
