-- What the words of a command line ask for: in the plain form by themselves, else as clap reads them.
use Rattle.std.specs.Prelude.{◌≡◌, ◌≢◌, ◌⊎◌, ℕ, true, false, List, [], ◌∷◌, map, codes, IsTrue}
use Rattle.std.specs.Prelude.{Option, Some, None, IsSome, IfSome, option_and_then, unwrap_or}
use Rattle.std.specs.List.{list_all}
use Rattle.std.specs.Option.{option_or}
use Rattle.clap.specs.Words.{App, Kinds, Row, Rule, fault_of, first_of, new_app, new_rule, subcommand_of}
use Rattle.clap.specs.Words.{with_rule, with_subcommand}
use Rattle.clap.specs.Simple.{on_top}
use Rattle.fx_words.specs.Command.{Command, allows, is_plain, named, names_fit, operand_words, plain_of, texts}
use Rattle.fx_words.specs.Command.{verb_of, with_names, word_of}
use Rattle.fx_words.specs.declared.command.TheConstants.{VERBS}
use Rattle.fx_words.specs.declared.command.Verb.{Verb}
use Rattle.fx_words.specs.declared.reading.Asked.{Asked}
use Rattle.fx_words.specs.declared.reading.Asked.TheVariants.{Plain, Read, Nothing}
use Rattle.fx_words.specs.declared.reading.ReadCommand.{ReadCommand}

-- ---- the tool as clap knows it: one level of required commands, each with required operands

abbrev pub operand : List ℕ → Rule
operand id = record (new_rule id) { required = true }

-- with these operands behind its own
unfoldable pub with_operands : List (List ℕ) → App → App
with_operands [] app = app
with_operands (id ∷ ids) app = with_operands ids (with_rule app (operand id))

unfoldable pub verb_app : Verb → App
verb_app v = with_operands (operand_words v) (new_app (word_of v))

-- with these commands behind its own
unfoldable pub with_verbs : List Verb → App → App
with_verbs [] app = app
with_verbs (v ∷ vs) app = with_verbs vs (with_subcommand app (verb_app v).top)

-- a tool with no command yet; it has no command `help`
abbrev pub bare_tool : App
bare_tool = on_top (λ s. record s { subcommand_required = true; disable_help_subcommand = true })
    (new_app (codes "fixif"))

unfoldable pub tool_app : App
tool_app = with_verbs VERBS bare_tool

-- ---- what clap's functions make of words

-- the first value of an operand, or the empty word
abbrev pub value_of : List Row → List ℕ → List ℕ
value_of rows id = unwrap_or (first_of id rows) []

abbrev pub values_of : List Row → Verb → List (List ℕ)
values_of rows v = map (λ id. value_of rows id) (operand_words v)

-- the command of this word with the values of its operands
abbrev pub found_command : List ℕ × List Row → Option Command
found_command found = option_and_then (λ v. with_names (values_of found.1 v) v) (verb_of found.0)

-- where clap has no fault to state
abbrev pub where_faultless : {X : Type 0} → Kinds → Option X → Option X
where_faultless [] found = found
where_faultless (_ ∷ _) found = None

unfoldable pub read_of : List (List ℕ) → Option Command
read_of words =
    where_faultless (fault_of tool_app words) (option_and_then found_command (subcommand_of tool_app words))

-- ---- what the words ask for

unfoldable pub command_of : List (List ℕ) → Option Command
command_of words = option_or (plain_of words) (read_of words)

-- the same, as the code has it with names of its own
abbrev pub read_named : ReadCommand → Command
read_named c = record { verb = c.verb; names = texts c.names.items }

abbrev pub asked_of : Asked → Option Command
asked_of (Plain c) = Some (named c)
asked_of (Read c) = Some (read_named c)
asked_of Nothing = None

-- a name for each operand, such as the command allows
abbrev pub IsWhole : Option Command → Type 0
IsWhole asked = IfSome asked (λ c. IsTrue (names_fit c.verb c.names))

-- ---- when words are a command

-- Each command's word with plain operands, as many as it has and such as it allows, is that command.
abbrev pub PlainIsCommand : Type 0
PlainIsCommand = (program : List ℕ) (v : Verb) (names : List (List ℕ)) → IsTrue (list_all is_plain names) →
    IsTrue (names_fit v names) →
    command_of (program ∷ word_of v ∷ names) ≡ Some (record { verb = v; names = names })

-- a command and values of its operands that clap finds in the words, and that the command does not allow
pub record IsDisallowed (words : List (List ℕ)) : Type 0 where
  pub verb : Verb
  pub rows : List Row
  pub found : subcommand_of tool_app words ≡ Some (word_of verb, rows)
  pub disallowed : allows verb (values_of rows verb) ≡ false

-- Words of which clap states no fault are a command, or their command does not allow its operands.
abbrev pub FaultlessIsCommand : Type 0
FaultlessIsCommand = (words : List (List ℕ)) → fault_of tool_app words ≡ [] →
    IsSome (command_of words) ⊎ IsDisallowed words

-- Words of which clap states a fault are no command.
abbrev pub FaultyIsNone : Type 0
FaultyIsNone = (words : List (List ℕ)) → fault_of tool_app words ≢ [] → command_of words ≡ None

-- A command has what was given for each of its operands, and allows it.
abbrev pub CommandsAreWhole : Type 0
CommandsAreWhole = (words : List (List ℕ)) → IsWhole (command_of words)

-- What words ask for is what clap reads of them, also in the plain form.
abbrev pub ClapAgrees : Type 0
ClapAgrees = (words : List (List ℕ)) → command_of words ≡ read_of words
