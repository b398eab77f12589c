-- The first fault is never want of memory, so the answer that carries it tells it.
use Rattle.std.proofs.Common.{◌≡◌, ℕ, Bool, true, false, cond, List, [], ◌∷◌, ◌++◌, Option, Some, None, refl, rules}
use Rattle.fx_math.specs.Answers.{told}
use Rattle.fx_math.proofs.Faults.{IsTold, none_told, if_told, or_told}
use Rattle.fx_eqs.specs.Equations.{is_kept}
use Rattle.fx_eqs.specs.Faults.{source_fault, kept_term_fault, term_fault, terms_fault, eqs_fault, is_memory}
use Rattle.fx_eqs.specs.declared.term.Source.{Source}
use Rattle.fx_eqs.specs.declared.term.Source.TheVariants.{Row, In}
use Rattle.fx_eqs.specs.declared.term.Term.{Term}
use Rattle.fx_eqs.specs.declared.fault.EqsFault.{EqsFault}
use Rattle.fx_eqs.specs.declared.fault.EqsFault.TheVariants.{RowRange, InputRange}

source-told : (rows inputs place : ℕ) (from : Source) (rest : Option EqsFault) → IsTold (told is_memory) rest →
    IsTold (told is_memory) (source_fault rows inputs place from rest)
source-told rows inputs place (Row j) rest r = if_told (told is_memory) _ (RowRange place) rest refl r
source-told rows inputs place (In j) rest r = if_told (told is_memory) _ (InputRange place) rest refl r

kept_term-told : (rows inputs : ℕ) (earlier : List Term) (t : Term) →
    IsTold (told is_memory) (kept_term_fault rows inputs earlier t)
kept_term-told rows inputs earlier t = search (rules, if_told, source-told, none_told) depth 9

term-told : (rows inputs : ℕ) (earlier : List Term) (t : Term) →
    IsTold (told is_memory) (term_fault rows inputs earlier t)
term-told rows inputs earlier t = cond_told (is_kept t)
  where
    cond_told : (b : Bool) → IsTold (told is_memory) (cond b (kept_term_fault rows inputs earlier t) None)
    cond_told true = kept_term-told rows inputs earlier t
    cond_told false = none_told (told is_memory)

terms-told : (rows inputs : ℕ) (earlier ts : List Term) → IsTold (told is_memory) (terms_fault rows inputs earlier ts)
terms-told rows inputs earlier [] = none_told (told is_memory)
terms-told rows inputs earlier (t ∷ ts) =
    or_told (told is_memory) _ _ (term-told rows inputs earlier t)
    (terms-told rows inputs (earlier ++ t ∷ []) ts)

all-told : (rows inputs : ℕ) (terms : List Term) → IsTold (told is_memory) (eqs_fault rows inputs terms)
all-told rows inputs terms = search (rules, or_told, terms-told, if_told, none_told) depth 9

pub fault-told : (rows inputs : ℕ) (terms : List Term) (fault : EqsFault) →
    eqs_fault rows inputs terms ≡ Some fault → eqs_fault rows inputs terms ≡ told is_memory fault
fault-told rows inputs terms = (all-told rows inputs terms).says
