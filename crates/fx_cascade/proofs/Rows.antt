-- Parts one behind the other.
use Rattle.std.proofs.Common.{◌≡◌, ℕ, ◌+◌, List, ◌++◌, append_assoc, sym, ap, ◌∙◌}
use Rattle.fx_math.specs.Sums.{joined}
use Rattle.fx_sif.specs.declared.parts.Entry.{Entry}
use Rattle.fx_sif.proofs.Following.{joined_next}

-- one part more behind those that are held
pub follows : (start held later : List Entry) (n : ℕ) (f : ℕ → List Entry) → held ≡ start ++ joined n f →
    later ≡ held ++ f n → later ≡ start ++ joined (n + 1) f
follows start held later n f h e =
    e ∙ ap (λ es. es ++ f n) h ∙ append_assoc start (joined n f) (f n) ∙ ap (λ es. start ++ es) (sym (joined_next n f))
