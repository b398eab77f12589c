-- What a machine is fed, and what is kept of what it puts out.
use Rattle.std.specs.Prelude.{ℕ, zero, suc, ◌+◌, ◌*◌, ◌/◌, ◌%◌, ◌^◌, ℤ, pos, ◌-ℤ◌, List, [], ◌∷◌, ◌++◌, slice_index_or}
use Rattle.std.specs.Int.{cast_unsigned, w64}
use Rattle.fx_code.specs.Code.{Code}
use Rattle.fx_code.specs.Inputs.{word_at}
use Rattle.fx_code.specs.Run.{outputs_at}
use Rattle.fx_bench.specs.Checksum.{mixed}

-- the generator's number behind a number
abbrev pub next_seed : ℕ → ℕ
next_seed seed = (seed * 1664525 + 1013904223) % 2 ^ 32

-- the generator's number before moment k
unfoldable pub seed_before : ℕ → ℕ
seed_before zero = 1
seed_before (suc k) = next_seed (seed_before k)

-- a word from -1000 to 1000
abbrev pub drawn : ℕ → ℤ
drawn seed = pos (seed / 65536 % 2001) -ℤ pos 1000

-- the first n moments, of one input
unfoldable pub moments : ℕ → List (List ℤ)
moments zero = []
moments (suc n) = moments n ++ (drawn (seed_before (suc n)) ∷ []) ∷ []

-- the low 32 bits of a word
abbrev pub low_bits : ℤ → ℕ
low_bits word = cast_unsigned w64 word % 2 ^ 32

-- the word of the first output at moment k, once the first n moments are known
abbrev pub put_word : Code → List (List ℤ) → ℕ → ℤ
put_word p list k = slice_index_or (outputs_at p (word_at list) k) 0 (pos 0)

-- the checksum of the words that a program puts out at the first n moments
unfoldable pub words_sum : Code → ℕ → ℕ
words_sum p zero = 0
words_sum p (suc n) = mixed (words_sum p n) (low_bits (put_word p (moments (suc n)) n))
