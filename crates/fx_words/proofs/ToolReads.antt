-- What clap reads of words, as the tool sees it.
use Rattle.std.proofs.Common.{◌≡◌, ◌∙◌, sym, ap, refl, true, subst, List, [], ◌∷◌, Option, None}
use Rattle.std.proofs.Common.{Result, Ok, Err, inl, inr}
use Rattle.std.specs.Prelude.{IfOk, ◌⊎◌}
use Rattle.std.specs.Option.{option_and_then}
use Rattle.clap.specs.Words.{App, Text, HasMatchesOf, Kinds, IsAmong, is_simple, subcommand_of, subcommand_rows_of}
use Rattle.clap.specs.Words.{fault_of, is_simple_and_free}
use Rattle.clap.specs.declared.parser.matches.ArgMatches.{ArgMatches}
use Rattle.clap.specs.declared.error.kind.ErrorKind.{ErrorKind}
use Rattle.clap.specs.declared.error.kind.ErrorKind.TheVariants.{OutOfMemory}
use Rattle.clap.proofs.OnLiterals.{clap_on_literals}
use Rattle.fx_words.specs.Command.{Command}
use Rattle.fx_words.specs.Words.{found_command, read_of, tool_app, verb_app, where_faultless, with_operands, with_verbs}

pub tool_simple : is_simple tool_app ≡ true
unfolding tool_app with_verbs verb_app with_operands clap_on_literals
tool_simple = refl

pub tool_free : is_simple_and_free tool_app ≡ true
unfolding tool_app with_verbs verb_app with_operands clap_on_literals
tool_free = refl

faultless : (kinds : Kinds) (found : Option Command) → kinds ≡ [] → where_faultless kinds found ≡ found
faultless [] found e = refl
faultless (k ∷ ks) found e = absurd cc

faulty : (kinds : Kinds) (k : ErrorKind) (found : Option Command) → IsAmong k kinds → where_faultless kinds found ≡ None
faulty [] k found among = absurd among
faulty (x ∷ xs) k found among = refl

-- what was made of the matches is what the words ask for
pub taken : (a : App) (words : List Text) (m : ArgMatches) (c : Option Command) → a ≡ tool_app →
    HasMatchesOf a words m →
    (is_simple_and_free a ≡ true → fault_of a words ≡ []) → c ≡ option_and_then found_command (subcommand_rows_of m) →
    c ≡ read_of words
unfolding read_of
taken a words m c e matches free from =
    let none = ap (λ x. fault_of x words) (sym e) ∙ free (ap is_simple_and_free e ∙ tool_free) in
    let found = ap (option_and_then found_command) ((matches (ap is_simple e ∙ tool_simple)).1
    ∙ ap (λ x. subcommand_of x words) e) in
    from ∙ found ∙ sym (faultless (fault_of tool_app words)
    (option_and_then found_command (subcommand_of tool_app words)) none)

pub found_taken : {C E : Type 0} (view : C → Option Command) (r : Result C E) (a : App) (words : List Text)
    (m : ArgMatches) →
    a ≡ tool_app → HasMatchesOf a words m → (is_simple_and_free a ≡ true → fault_of a words ≡ []) →
    IfOk r (λ c. view c ≡ option_and_then found_command (subcommand_rows_of m)) → IfOk r (λ c. view c ≡ read_of words)
found_taken view (Ok c) a words m e matches free h = taken a words m (view c) e matches free h
found_taken view (Err x) a words m e matches free h = tt

-- an error for another cause than memory
pub refused : (a : App) (words : List Text) (k : ErrorKind) → a ≡ tool_app →
    (is_simple_and_free a ≡ true → (k ≡ OutOfMemory) ⊎ IsAmong k (fault_of a words)) → (k ≡ OutOfMemory → ⊥) →
    None ≡ read_of words
unfolding read_of
refused a words k e fails other = elim (fails (ap is_simple_and_free e ∙ tool_free)) [
  | inl memory ↦ absurd (other memory)
  | inr among ↦ sym (faulty (fault_of tool_app words) k (option_and_then found_command (subcommand_of tool_app words))
      (subst (λ x. IsAmong k (fault_of x words)) e among))
]
