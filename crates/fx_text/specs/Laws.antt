-- What the laws of this crate say.
use Rattle.std.specs.Prelude.{◌≡◌, ◌↔◌, ℕ, List, [], ◌∷◌, ◌++◌, Ok, if◌then◌else◌}
use Rattle.fx_math.specs.Faults.{◌>>=◌}
use Rattle.fx_code.specs.Code.{Code}
use Rattle.fx_code.specs.declared.term.CodeTerm.{CodeTerm}
use Rattle.fx_text.specs.declared.term.Place.{Place}
use Rattle.fx_text.specs.Grammar.{Spells}
use Rattle.fx_text.specs.Reading.{code_in, statement_at, term_at, terms_at}

-- a program is read exactly from the texts that spell it
abbrev pub CodeLaw : Type 0
CodeLaw = (bytes : List ℕ) (p : Code) → (code_in bytes ≡ Ok p) ↔ Spells bytes p

-- a text spells at most one program
abbrev pub OneProgram : Type 0
OneProgram = (bytes : List ℕ) (p q : Code) → Spells bytes p → Spells bytes q → p ≡ q

-- the terms of a row are read one behind the other up to its store, however many there are
abbrev pub TermsLaw : Type 0
TermsLaw = (place : Place) (terms : List CodeTerm) (text : List ℕ) (at : ℕ)
    → terms_at place terms text at ≡ (do
      statement ← statement_at place.row text at
      if statement.0
          then (term_at place terms text statement.1 >>= λ t. terms_at place (terms ++ t.0 ∷ []) text t.1)
          else Ok (terms, statement.1))
