-- What is seen of the outside, and what the calls leave of it.
use Rattle.std.specs.Prelude.{◌≡◌, ℕ, ◌+◌, ◌≤◌, ◌++◌, List, Bool, true, length, take, Option, None, Result, Err}
use Rattle.std.specs.Prelude.{IfOk, OnOk, OnErr}
use Rattle.std.specs.Option.{option_map}
use Rattle.std.specs.FinMap.{insert}
use Rattle.fx_io.specs.Causes.{HasCause, CountsWrite, FaultCounts}
use Rattle.fx_io.specs.Shelf.{Files, KeepsNames, SameBut}
use Rattle.fx_io.specs.declared.shelf.IoFault.{IoFault}
use Rattle.fx_io.specs.declared.shelf.IoFault.TheVariants.{NoMemory}

-- Of a shelf: the files, where it tells them, how often a read and a placing failed, how many calls were made, and the
-- names that may be read.
pub record Outside : Type 0 where
  pub files : Option Files
  pub read_faults : ℕ
  pub place_faults : ℕ
  pub calls : ℕ
  pub readable : List ℕ → Bool

-- Of a sink: its bytes, where it tells them, and how often a write failed or took no byte.
pub record Output : Type 0 where
  pub told : Option (List ℕ)
  pub faults : ℕ

-- at most so many reads were made: a fault has a cause, and all else is as before
pub record OnlyReads {T : Type 0} (most : ℕ) (before now : Outside) (result : Result T IoFault) : Type 0 where
  pub files : now.files ≡ before.files
  pub cause : HasCause before.read_faults now.read_faults result
  pub place_faults : now.place_faults ≡ before.place_faults
  pub later : before.calls ≤ now.calls
  pub few : now.calls ≤ before.calls + most
  pub names : KeepsNames before.readable now.readable

-- at most one placing was made, of these bytes under this name
pub record Places (name bytes : List ℕ) (before now : Outside) (result : Result (Unit {0}) IoFault) : Type 0 where
  pub placed : OnOk result (now.files ≡ option_map (λ m. insert m name bytes) before.files)
  pub failed : OnErr result (SameBut name before.files now.files)
  pub no_memory : result ≡ Err NoMemory → now.files ≡ before.files
  pub cause : HasCause before.place_faults now.place_faults result
  pub read_faults : now.read_faults ≡ before.read_faults
  pub later : before.calls ≤ now.calls
  pub few : now.calls ≤ before.calls + 1
  pub names : KeepsNames before.readable now.readable

-- one write took the first bytes of these, or failed and took none
pub record Puts (bytes : List ℕ) (before now : Output) (result : Result ℕ IoFault) : Type 0 where
  pub within : IfOk result (λ n. n ≤ length bytes)
  pub told : IfOk result (λ n. now.told ≡ option_map (λ t. t ++ take n bytes) before.told)
  pub same : OnErr result (now.told ≡ before.told)
  pub cause : CountsWrite before.faults now.faults result

-- ---- the real outside tells no bytes, and each name may be tried

abbrev pub files_untold : FaultCounts → Outside
files_untold c = record {
  files = None;
  read_faults = c.read_faults;
  place_faults = c.place_faults;
  calls = 0;
  readable = λ _. true;
}

abbrev pub output_untold : ℕ → Output
output_untold faults = record { told = None; faults = faults }
