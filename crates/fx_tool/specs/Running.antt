-- What a run of a command line promises.
use Rattle.std.specs.Prelude.{◌≡◌, ◌⊎◌, ℕ, ◌+◌, ◌≤◌, List, [], ◌∷◌, ◌++◌, codes, take, length, Option, Some, None}
use Rattle.std.specs.Prelude.{Result, IsSomeAnd, ⊤}
use Rattle.fx_io.specs.Causes.{Rose}
use Rattle.fx_io.specs.Outside.{Outside, Output}
use Rattle.fx_io.specs.Shelf.{Files, KeepsNames}
use Rattle.fx_io.specs.declared.shelf.IoFault.{IoFault}
use Rattle.fx_tool.specs.Answer.{Answer, says, Delivers}
use Rattle.fx_tool.specs.Check.{check_plan, FilesAreSound, Headline}
use Rattle.fx_words.specs.Command.{Command, operands_of, targets_of}
use Rattle.fx_words.specs.Words.{command_of}
use Rattle.fx_tool.specs.Gain.{gain_plan, FileEncloses, Gains}
use Rattle.fx_tool.specs.Large.{large_plan, operand_number, Larges, NumberIsServed}
use Rattle.fx_tool.specs.Make.{make_plan, FilterIsServed, Makes}
use Rattle.fx_tool.specs.Placing.{ArePlaced, PlacesNothing, placings, with_placed}
use Rattle.fx_tool.specs.Plan.{Plan, Ends, answer_by, plan_calls, Follows, MayRead, OfAnswer, WhereTold}
use Rattle.fx_tool.specs.Reading.{Has}
use Rattle.fx_tool.specs.Show.{show_plan, Shows}
use Rattle.fx_tool.specs.Simulate.{simulate_plan, Simulates}
use Rattle.fx_tool.specs.Writing.{Grows}
use Rattle.fx_words.specs.declared.command.Verb.{Verb}
use Rattle.fx_words.specs.declared.command.Verb.TheVariants.{Check, Gain, Large, Make, Report, Show, Simulate}
use Rattle.fx_tool.specs.declared.judgement.Detail.TheVariants.{Brief, Full}
use Rattle.fx_words.specs.declared.operand.Operand.{Operand}
use Rattle.fx_tool.specs.declared.status.Status.{Status}
use Rattle.fx_tool.specs.declared.status.Status.TheVariants.{Done, Usage, ReadFault, WriteFault}

-- ---- one arm for each command

-- what it does with its files, of all that was given for its operands
abbrev pub plan_of : Verb → List (List ℕ) → Plan
plan_of Check names = check_plan Brief
plan_of Gain names = gain_plan
plan_of Large names = large_plan names
plan_of Make names = make_plan
plan_of Report names = check_plan Full
plan_of Show names = show_plan
plan_of Simulate names = simulate_plan

-- what its code shows of the files of these names beside the answer, where that is status 0
abbrev pub Establishes : Verb → List (List ℕ) → Option Files → Type 0
Establishes Check (filter ∷ code ∷ cert ∷ _) told = FilesAreSound told filter code cert
Establishes Gain (filter ∷ _) told = FileEncloses told filter
Establishes Large names told = NumberIsServed (operand_number names)
Establishes Make (filter ∷ _) told = Has told filter FilterIsServed
Establishes Report (filter ∷ code ∷ cert ∷ _) told = FilesAreSound told filter code cert
Establishes _ _ told = ⊤

-- what status 0 claims, of the files of these names, as the run leaves them, and of the bytes before and after
abbrev pub Claims : Verb → List (List ℕ) → Files → Option (List ℕ) → Option (List ℕ) → Type 0
Claims Check (filter ∷ code ∷ cert ∷ _) files before after = Headline Brief files filter code cert before after
Claims Gain (filter ∷ _) files before after = Gains files filter before after
Claims Large names files before after = Larges (operand_number names) before after
Claims Make (filter ∷ code ∷ cert ∷ _) files before after = Makes files filter code cert before after
Claims Report (filter ∷ code ∷ cert ∷ _) files before after = Headline Full files filter code cert before after
Claims Show (filter ∷ _) files before after = Shows files filter before after
Claims Simulate (code ∷ samples ∷ _) files before after = Simulates files code samples before after
Claims _ _ files before after = ⊥

-- ---- what the words ask for, with words that are no command

-- all commands
abbrev pub usage_line : List ℕ
usage_line = codes "usage: fixif check FILTER CODE CERT, make FILTER CODE CERT, simulate CODE SAMPLES, gain FILTER, "
    ++ codes "show FILTER, report FILTER CODE CERT, large NUMBER\n"

abbrev pub operands_to : Option Command → List Operand
operands_to None = []
operands_to (Some c) = operands_of c.verb

abbrev pub names_to : Option Command → List (List ℕ)
names_to None = []
names_to (Some c) = c.names

-- those that are read, and those that are placed
abbrev pub reads_to : Option Command → List (List ℕ)
reads_to c = take (length (operands_to c)) (names_to c)

abbrev pub targets_to : Option Command → List (List ℕ)
targets_to None = []
targets_to (Some c) = targets_of c.verb c.names

abbrev pub plan_to : Option Command → Plan
plan_to None = Ends (says Usage usage_line)
plan_to (Some c) = plan_of c.verb c.names

-- the run follows the plan of what is asked
abbrev pub FollowsAsked : Option Command → Outside → Outside → Result Answer IoFault → Type 0
FollowsAsked c before now result = Follows (operands_to c) (names_to c) (plan_to c) before now result

-- the files that are read may be read
abbrev pub CanRead : Outside → List (List ℕ) → Type 0
CanRead outside words = MayRead outside (reads_to (command_of words))

-- the answer of the words on these files
abbrev pub answer_of : List (List ℕ) → Files → Answer
answer_of words files = let c = command_of words in answer_by (operands_to c) (names_to c) (plan_to c) files

-- P holds of the answer: on the files, where the shelf tells them, and else on some contents
abbrev pub OfWords : List (List ℕ) → Option Files → (Answer → Type 0) → Type 0
OfWords words told P = let c = command_of words in OfAnswer (operands_to c) (names_to c) (plan_to c) told P

-- the most calls on the shelf
abbrev pub calls_of : List (List ℕ) → Option Files → ℕ
calls_of words told = let c = command_of words in plan_calls (operands_to c) (names_to c) (plan_to c) told

-- the run follows the plan of the words
abbrev pub FollowsWords : List (List ℕ) → Outside → Outside → Result Answer IoFault → Type 0
FollowsWords words before now result = FollowsAsked (command_of words) before now result

-- what the code shows of the files that the words name, where the answer is status 0
abbrev pub EstablishesTo : Option Command → Option Files → Type 0
EstablishesTo None told = ⊤
EstablishesTo (Some c) told = Establishes c.verb c.names told

abbrev pub EstablishesWords : List (List ℕ) → Option Files → Type 0
EstablishesWords words told = EstablishesTo (command_of words) told

-- ---- a run

-- what an answer places of the words
abbrev pub placings_of : List (List ℕ) → Answer → List (List ℕ × List ℕ)
placings_of words a = placings (targets_to (command_of words)) a.placed

-- with the answer's status the files are the old ones with those that it places
abbrev pub PlacesAnswer : List (List ℕ) → Option Files → Option Files → Status → Type 0
PlacesAnswer words before after status =
    WhereTold before (λ files. status ≡ (answer_of words files).status →
    after ≡ Some (with_placed (placings_of words (answer_of words files)) files))

-- A command without names to place places nothing. Else the first few of the answer's files were placed, one after
-- another, and where a placing failed, that file may hold anything.
abbrev pub LeavesFiles : List (List ℕ) → List (List ℕ) → Outside → Outside → Type 0
LeavesFiles words [] before after = PlacesNothing before after
LeavesFiles words targets before after =
    WhereTold before.files (λ files.
    ArePlaced (placings_of words (answer_of words files)) (Rose before.place_faults after.place_faults)
    before.files after.files)

-- all files of the answer are placed, where the shelf tells its files, and no placing failed
abbrev pub PlacesAllOf : List (List ℕ) → Outside → Outside → Type 0
PlacesAllOf words before after =
    WhereTold before.files (λ files.
    after.files ≡ Some (with_placed (placings_of words (answer_of words files)) files))
    × (after.place_faults ≡ before.place_faults)

-- what status 0 claims, where the shelf tells its files before the run: it tells them after it too, and of those the
-- command's claim holds
abbrev pub DoneClaims : List (List ℕ) → Option Files → Option Files → Option (List ℕ) → Option (List ℕ) → Type 0
DoneClaims words told told' before after =
    WhereTold told (λ files. IsSomeAnd told' (λ files'.
    IsSomeAnd (command_of words) (λ c. Claims c.verb c.names files' before after)))

-- What a run gives, and leaves of shelf and output. The status and the text are those of the answer, or a read, a write
-- or memory failed; a fault was counted just where it is the status. Files are read in no more calls than the plan
-- takes, and each is placed in one. The text is put behind all of them, and nothing where one is not placed.
pub record Leaves (words : List (List ℕ)) (shelf shelf' : Outside) (out out' : Output) (status : Status) : Type 0 where
  pub answer : OfWords words shelf.files (λ a. Delivers a status out.told out'.told)
  pub quiet : status ≡ ReadFault → out'.told ≡ out.told
  pub grows : Grows out.told out'.told
  pub text_last : PlacesAllOf words shelf shelf' ⊎ (out' ≡ out)
  pub read_fault : status ≡ ReadFault → Rose shelf.read_faults shelf'.read_faults
  pub write_fault : status ≡ WriteFault → Rose shelf.place_faults shelf'.place_faults ⊎ Rose out.faults out'.faults
  pub kept_reads : (shelf'.read_faults ≡ shelf.read_faults) ⊎ (status ≡ ReadFault)
  pub kept_places : (shelf'.place_faults ≡ shelf.place_faults) ⊎ (status ≡ WriteFault)
  pub kept_writes : (out'.faults ≡ out.faults) ⊎ (status ≡ WriteFault)
  pub later_reads : shelf.read_faults ≤ shelf'.read_faults
  pub later_places : shelf.place_faults ≤ shelf'.place_faults
  pub later_writes : out.faults ≤ out'.faults
  pub unread : status ≡ ReadFault → shelf'.files ≡ shelf.files
  pub files : LeavesFiles words (targets_to (command_of words)) shelf shelf'
  pub later : shelf.calls ≤ shelf'.calls
  pub calls : shelf'.calls ≤ shelf.calls + calls_of words shelf.files + length (targets_to (command_of words))
  pub names : KeepsNames shelf.readable shelf'.readable

-- the same, with the files that the answer places
pub record Answers (words : List (List ℕ)) (shelf shelf' : Outside) (out out' : Output) (status : Status) : Type 0 where
  pub placed : PlacesAnswer words shelf.files shelf'.files status
  pub leaves : Leaves words shelf shelf' out out' status

-- the same, and status 0 keeps what its command claims
pub record Runs (words : List (List ℕ)) (shelf shelf' : Outside) (out out' : Output) (status : Status) : Type 0 where
  pub done : status ≡ Done → DoneClaims words shelf.files shelf'.files out.told out'.told
  pub placed : PlacesAnswer words shelf.files shelf'.files status
  pub leaves : Leaves words shelf shelf' out out' status
