-- Runs of a program of one input and one output on samples.
use Rattle.std.specs.Prelude.{◌≡◌, ℕ, ◌-◌, ℤ, List, [], ◌∷◌, length}
use Rattle.fx_math.specs.Sums.{joined}
use Rattle.fx_code.specs.Code.{Code}
use Rattle.fx_code.specs.Inputs.{word_at}
use Rattle.fx_code.specs.Run.{output_word}
use Rattle.fx_large.specs.Sections.{sample_at}
use Rattle.fx_large.specs.Summaries.{summary_to}
use Rattle.fx_large.specs.declared.summary.Summary.{Summary}

-- an input of so many bits, and an output
pub record HasPorts (width : ℕ) (p : Code) : Type 0 where
  pub input : p.inputs ≡ width ∷ []
  pub output : length p.outputs ≡ 1

-- the first n samples of f, as an input list
unfoldable pub moments : ℕ → (ℕ → ℤ) → List (List ℤ)
moments n f = joined n (λ k. (f k ∷ []) ∷ [])

-- the word that the program puts out at moment k of its run on these samples
abbrev pub word_on : Code → ℕ → (ℕ → ℤ) → ℕ → ℤ
word_on p n f k = output_word p (word_at (moments n f)) k 0

-- the summary of its words, of n samples that follow a state
unfoldable pub run_summary : Code → ℕ → ℕ → Summary
run_summary p n s = summary_to (n - 1) (word_on p n (sample_at s))
