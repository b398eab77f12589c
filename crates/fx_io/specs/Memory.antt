-- What the forms in memory stand for.
use Rattle.std.specs.Prelude.{ℕ, ◌+◌, ◌-◌, ◌^◌, suc, zero, Bool, ◌==◌, ◌&&◌, ◌||◌, not, nat_lt, List, [], ◌∷◌}
use Rattle.std.specs.Prelude.{◌++◌, Option, None, Some, IfSome, ◌<◌, min, take, true, if◌then◌else◌, refl}
use Rattle.std.specs.List.{list_any}
use Rattle.std.specs.FinMap as map
use Rattle.std.specs.Coded.{Coded, code_by, coded×, coded_ℕ, coded_list, coded_option}
use Rattle.fx_io.specs.Causes.{saturated}
use Rattle.fx_io.specs.Outside.{Outside, Output}
use Rattle.fx_io.specs.Shelf.{Files}

-- the calls of one kind: the numbers that are to fail, and how many were made
pub record Calls : Type 0 where
  pub failing : List ℕ
  pub made : ℕ

-- none is to fail, and none was made
abbrev pub no_calls : Calls
no_calls = record { failing = []; made = 0 }

-- one number more is to fail
abbrev pub with_failing : Calls → ℕ → Calls
with_failing c call = record c { failing = c.failing ++ call ∷ [] }

-- the call of this number is to fail
abbrev pub is_listed : List ℕ → ℕ → Bool
is_listed failing call = list_any (λ k. k == call) failing

-- the next call has a number, and is to fail
abbrev pub next_fails : Calls → Bool
next_fails c = nat_lt c.made (2 ^ 64 - 1) && is_listed c.failing (c.made + 1)

-- one call more was made; the count stops at the greatest u64
abbrev pub counted : Calls → Calls
counted c = record c { made = (if nat_lt c.made (2 ^ 64 - 1) then c.made + 1 else c.made) }

-- how many of the calls from 1 to a last one are to fail
abbrev pub failing_up_to : List ℕ → ℕ → ℕ
failing_up_to failing zero = 0
failing_up_to failing (suc n) = (if is_listed failing (suc n) then 1 else 0) + failing_up_to failing n

-- how many of the calls made were to fail
abbrev pub fault_count : Calls → ℕ
fault_count c = failing_up_to c.failing c.made

abbrev pub calls_code : Coded Calls
calls_code =
    code_by (List ℕ × ℕ) (coded× (coded_list coded_ℕ) coded_ℕ) (λ c. (c.failing, c.made)) (λ p.
    record { failing = p.0; made = p.1 }) (λ _. refl)

abbrev pub files_code : Coded Files
files_code = map.code (coded_list coded_ℕ) (coded_list coded_ℕ)

-- so many bytes, or as many as a call moves at most, where it moves no more than a piece
abbrev pub at_most : Option ℕ → ℕ → ℕ
at_most None count = count
at_most (Some most) count = min count most

-- a piece of at least one byte, where reads give pieces
abbrev pub HoldsBytes : Option ℕ → Type 0
HoldsBytes piece = IfSome piece (λ most. 0 < most)

-- files, the reads and placings, how many reads found no file of their name, and the most bytes of a read, where there
-- is such a limit
pub record ShelfState : Type 0 where
  pub files : Files
  pub reads : Calls
  pub places : Calls
  pub absences : ℕ
  pub piece : Option ℕ

-- bytes, the writes, how many of them took no byte, and the most bytes of a write, where there is such a limit
pub record SinkState : Type 0 where
  pub bytes : List ℕ
  pub puts : Calls
  pub empty_puts : ℕ
  pub piece : Option ℕ

abbrev pub shelf_code : Coded ShelfState
shelf_code =
    code_by (Files × (Calls × (Calls × (ℕ × Option ℕ))))
    (coded× files_code (coded× calls_code (coded× calls_code (coded× coded_ℕ (coded_option coded_ℕ)))))
    (λ s. (s.files, (s.reads, (s.places, (s.absences, s.piece))))) (λ p.
    record { files = p.0; reads = p.1.0; places = p.1.1.0; absences = p.1.1.1.0; piece = p.1.1.1.1 }) (λ _. refl)

abbrev pub sink_code : Coded SinkState
sink_code =
    code_by (List ℕ × (Calls × (ℕ × Option ℕ)))
    (coded× (coded_list coded_ℕ) (coded× calls_code (coded× coded_ℕ (coded_option coded_ℕ))))
    (λ s. (s.bytes, (s.puts, (s.empty_puts, s.piece)))) (λ p.
    record { bytes = p.0; puts = p.1.0; empty_puts = p.1.1.0; piece = p.1.1.1 }) (λ _. refl)

-- a read of this name fails next
abbrev pub read_fails : ShelfState → List ℕ → Bool
read_fails s name = next_fails s.reads || not (map.contains_key s.files name)

-- a read of this name was made
abbrev pub after_read : ShelfState → List ℕ → ShelfState
after_read s name =
    record s {
      reads = counted s.reads;
      absences = (if next_fails s.reads
          || map.contains_key s.files name then s.absences else saturated (s.absences + 1));
    }

abbrev pub read_fault_count : ShelfState → ℕ
read_fault_count s = saturated (fault_count s.reads + s.absences)

-- reads and placings together
abbrev pub calls_made : ShelfState → ℕ
calls_made s = saturated (s.reads.made + s.places.made)

-- each name may be read
abbrev pub seen_of_shelf : ShelfState → Outside
seen_of_shelf s = record {
  files = Some s.files;
  read_faults = read_fault_count s;
  place_faults = fault_count s.places;
  calls = calls_made s;
  readable = λ _. true;
}

-- a write took the first so many of these bytes
abbrev pub after_put : SinkState → List ℕ → ℕ → SinkState
after_put s bytes n =
    record s {
      bytes = s.bytes ++ take n bytes;
      puts = counted s.puts;
      empty_puts = (if n == 0 then saturated (s.empty_puts + 1) else s.empty_puts);
    }

abbrev pub write_fault_count : SinkState → ℕ
write_fault_count s = saturated (fault_count s.puts + s.empty_puts)

abbrev pub seen_of_sink : SinkState → Output
seen_of_sink s = record { told = Some s.bytes; faults = write_fault_count s }

-- ---- without faults

-- a name may be read where it is there
abbrev pub seen_of_files : Files → Outside
seen_of_files files = record {
  files = Some files;
  read_faults = 0;
  place_faults = 0;
  calls = 0;
  readable = map.contains_key files;
}

abbrev pub seen_of_bytes : List ℕ → Output
seen_of_bytes bytes = record { told = Some bytes; faults = 0 }
