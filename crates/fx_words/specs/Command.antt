-- The commands: their words and operands, and the command of words in the plain form.
use Rattle.std.specs.Prelude.{ℕ, nat_eq, ◌==◌, ◌&&◌, Bool, true, not, if◌then◌else◌, List, [], ◌∷◌, length, map}
use Rattle.std.specs.Prelude.{codes, String, Option, Some, None, option_and_then}
use Rattle.std.specs.List.{list_all, list_any, starts_with}
use Rattle.std.specs.String.{string_bytes}
use Rattle.std.specs.Str.{bytes_eq}
use Rattle.fx_words.specs.Number.{is_one_number}
use Rattle.fx_words.specs.declared.command.Command as declared
use Rattle.fx_words.specs.declared.command.TheConstants.{VERBS}
use Rattle.fx_words.specs.declared.command.Verb.{Verb}
use Rattle.fx_words.specs.declared.command.Verb.TheVariants.{Check, Gain, Large, Make, Report, Show, Simulate}
use Rattle.fx_words.specs.declared.operand.Operand.{Operand}
use Rattle.fx_words.specs.declared.operand.Operand.TheVariants.{Filter, Code, Certificate, Samples}

-- ---- texts

-- the words as bytes
abbrev pub texts : {Z : Type 0} → List (String Z) → List (List ℕ)
texts words = map (λ w. string_bytes w) words

-- one of these names is this one
abbrev pub is_among : List (List ℕ) → List ℕ → Bool
is_among names name = list_any (λ other. bytes_eq other name) names

-- no two names are equal
abbrev pub are_different : List (List ℕ) → Bool
are_different [] = true
are_different (name ∷ names) = not (is_among names name) && are_different names

-- ---- one arm for each command

-- its word
abbrev pub word_of : Verb → List ℕ
word_of Check = codes "check"
word_of Gain = codes "gain"
word_of Large = codes "large"
word_of Make = codes "make"
word_of Report = codes "report"
word_of Show = codes "show"
word_of Simulate = codes "simulate"

-- its operands, by the words of the usage line
abbrev pub operand_words : Verb → List (List ℕ)
operand_words Check = codes "FILTER" ∷ codes "CODE" ∷ codes "CERT" ∷ []
operand_words Gain = codes "FILTER" ∷ []
operand_words Large = codes "NUMBER" ∷ []
operand_words Make = codes "FILTER" ∷ codes "CODE" ∷ codes "CERT" ∷ []
operand_words Report = codes "FILTER" ∷ codes "CODE" ∷ codes "CERT" ∷ []
operand_words Show = codes "FILTER" ∷ []
operand_words Simulate = codes "CODE" ∷ codes "SAMPLES" ∷ []

-- the first of them are files that it reads
abbrev pub operands_of : Verb → List Operand
operands_of Check = Filter ∷ Code ∷ Certificate ∷ []
operands_of Gain = Filter ∷ []
operands_of Large = []
operands_of Make = Filter ∷ []
operands_of Report = Filter ∷ Code ∷ Certificate ∷ []
operands_of Show = Filter ∷ []
operands_of Simulate = Code ∷ Samples ∷ []

-- of what was given for its operands, the names of the files that it places
abbrev pub targets_of : Verb → List (List ℕ) → List (List ℕ)
targets_of Make (filter ∷ targets) = targets
targets_of _ names = []

-- what it wants of its operands beside their count
abbrev pub allows : Verb → List (List ℕ) → Bool
allows Large names = is_one_number names
allows Make names = are_different names
allows _ names = true

-- ---- a command with what was given for its operands

pub record Command : Type 0 where
  pub verb : Verb
  pub names : List (List ℕ)

-- as many as it has operands, and such as it allows
abbrev pub names_fit : Verb → List (List ℕ) → Bool
names_fit v names = length names == length (operand_words v) && allows v names

abbrev pub with_names : List (List ℕ) → Verb → Option Command
with_names names v = if names_fit v names then Some (record { verb = v; names = names }) else None

-- the same as the code has it
abbrev pub named : declared.Command → Command
named c = record { verb = c.verb; names = texts c.names.now }

-- the first of these commands with this word
unfoldable pub verb_in : List Verb → List ℕ → Option Verb
verb_in [] word = None
verb_in (v ∷ vs) word = if bytes_eq (word_of v) word then Some v else verb_in vs word

-- the command with this word
abbrev pub verb_of : List ℕ → Option Verb
verb_of word = verb_in VERBS word

-- ---- the plain form

-- a word that is not empty and does not begin with `-`
abbrev pub is_plain : List ℕ → Bool
is_plain word = not (length word == 0) && not (starts_with nat_eq word (codes "-"))

-- the program's name, the command's and exactly its operands, which are plain words
unfoldable pub plain_of : List (List ℕ) → Option Command
plain_of (program ∷ word ∷ names) =
    if list_all is_plain names then option_and_then (with_names names) (verb_of word) else None
plain_of _ = None
