-- The records that a reader of a text has left.
use Rattle.std.specs.Prelude.{◌≡◌, ◌+◌, ℕ, List, [], length, true, false, Option, Some, IsSome}
use Rattle.std.specs.Option.{unwrap_or}
use Rattle.std.proofs.Common.{Bor}
use Rattle.csv.specs.Machine.{ends_at_end}
use Rattle.csv.specs.Reading.{Ready, default_config, is_flexible, records_from, source_of}
use Rattle.csv.specs.declared.parser.State.{State}
use Rattle.csv.specs.declared.reader.Reader.{Reader}
use Rattle.csv.specs.declared.reader.Trim.TheVariants as trims

-- a reader of bytes in memory
abbrev pub TextReader : Type 0
TextReader = Reader (Bor (List ℕ))

-- bytes in memory are known
abbrev pub known : Bor (List ℕ) → Option (List ℕ)
known s = Some s.now

-- the bytes that a reader has left
abbrev pub bytes_left : TextReader → List ℕ
bytes_left reader = unwrap_or (source_of known reader) []

-- the records of bytes, from a state of csv's machine
abbrev pub records_in : State → List ℕ → List (List (List ℕ))
records_in s xs = records_from default_config (length xs + 1) s xs

-- the records that a reader has left
abbrev pub records_left : TextReader → List (List (List ℕ))
records_left reader = records_in reader.state (bytes_left reader)

-- a reader set up as samples are read, with records of any length, which stands between two records
pub record Stands (reader : TextReader) : Type 0 where
  pub flexible : is_flexible reader ≡ true
  pub config : reader.config ≡ default_config
  pub trim : reader.trim ≡ trims.None
  pub ready : Ready reader
  pub between : ends_at_end reader.state ≡ false
  pub source : IsSome (source_of known reader)
