-- What the law of soundness says.
use Rattle.std.specs.Prelude.{◌≡◌, ◌↔◌, ℕ, ◌+◌, ◌<◌, None, ℤ, List, length}
use Rattle.fx_eqs.specs.Expanded.{expanded}
use Rattle.fx_files.specs.Filter.{Filter}
use Rattle.fx_net.specs.Laws.{RunsEquations}
use Rattle.fx_net.specs.Net.{Net}
use Rattle.fx_code.specs.Code.{Code, IsWhole}
use Rattle.fx_code.specs.Inputs.{word_at}
use Rattle.fx_cert.specs.Certificate.{Certificate}
use Rattle.fx_totals.specs.Bounds.{IsWithin}
use Rattle.fx_block.specs.Admissible.{IsAdmissible}
use Rattle.fx_block.specs.Failure.{first_failure}
use Rattle.fx_block.specs.Passes.{bound_at, Passes}
use Rattle.fx_block.specs.Sound.{IsSound}

-- a whole program that passes does what the filter asks for, within the certificate's errors
abbrev pub PassingIsSound : Filter → Code → Certificate → Type 0
PassingIsSound filter p c = IsWhole p → Passes filter p c → IsSound filter p c.errors

-- a program and a certificate pass for a filter, and the program is sound for it with the certificate's errors
pub record PassesSound (filter : Filter) (p : Code) (c : Certificate) : Type 0 where
  pub passes : Passes filter p c
  pub sound : IsSound filter p c.errors

-- and on each admissible input list each expanded row of the filter, where it has just what it reads, is within its
-- bound at all moments, in each net that has these rows
abbrev pub OriginalStaysWithin : Filter → Code → Certificate → Type 0
OriginalStaysWithin filter p c =
    IsWhole p → Passes filter p c → (list : List (List ℤ)) → IsAdmissible filter list →
    (net : Net) (at q : ℕ) (z : ℕ → ℕ → ℤ) → RunsEquations filter.equations net at q (word_at list) z →
    (k r : ℕ) → r < length (expanded filter.equations) → IsWithin net q z k (at + r) (bound_at c (length p.rows + r))

-- no inequality is told as the first that fails exactly where all of them hold
abbrev pub NoneFails : Type 0
NoneFails = (filter : Filter) (p : Code) (c : Certificate) → (first_failure filter p c ≡ None) ↔ Passes filter p c
