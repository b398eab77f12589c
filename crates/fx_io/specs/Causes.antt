-- When a count of faults rises.
use Rattle.std.specs.Prelude.{◌≡◌, ◌↔◌, ◌⊎◌, ℕ, ◌+◌, ◌-◌, ◌^◌, ◌≤◌, min, Result, Ok, Err, IsErrOf, IsErrAnd}
use Rattle.std.specs.declared.io.ErrorKind.{ErrorKind}
use Rattle.std.specs.declared.io.ErrorKind.TheVariants.{OutOfMemory}
use Rattle.fx_io.specs.declared.shelf.IoFault.{IoFault}
use Rattle.fx_io.specs.declared.shelf.IoFault.TheVariants.{Failed, NoMemory}

-- a count that stops at the last value of a u64
abbrev pub saturated : ℕ → ℕ
saturated n = min n (2 ^ 64 - 1)

-- the count rose, or stands at the last value of a u64
abbrev pub Rose : ℕ → ℕ → Type 0
Rose before now = saturated (before + 1) ≤ now

-- the count did not fall: with `Failed` it rose, and with no other result
pub record HasCause {T : Type 0} (before now : ℕ) (result : Result T IoFault) : Type 0 where
  pub later : before ≤ now
  pub failed : IsErrOf result Failed → Rose before now
  pub kept : (now ≡ before) ⊎ IsErrOf result Failed

-- the same of a write, where also one that took no byte counts
pub record CountsWrite (before now : ℕ) (result : Result ℕ IoFault) : Type 0 where
  pub later : before ≤ now
  pub failed : IsErrOf result Failed → Rose before now
  pub none : result ≡ Ok 0 → Rose before now
  pub kept : (now ≡ before) ⊎ (IsErrOf result Failed ⊎ (result ≡ Ok 0))

-- a count of faults after this fault: want of memory is none
abbrev pub count_after : IoFault → ℕ → ℕ
count_after Failed count = saturated (count + 1)
count_after NoMemory count = count

-- an error of this kind as a fault
abbrev pub TellsError : {T : Type 0} → ErrorKind → ℕ → ℕ → Result T IoFault → Type 0
TellsError kind before now result =
    IsErrAnd result (λ fault. ((fault ≡ NoMemory) ↔ (kind ≡ OutOfMemory)) × (now ≡ count_after fault before))

-- the answer is `Failed`, and was counted
abbrev pub IsCounted : {T : Type 0} → ℕ → ℕ → Result T IoFault → Type 0
IsCounted before now result = (result ≡ Err Failed) × (now ≡ saturated (before + 1))

-- how often reads and placings of real files failed
pub record FaultCounts : Type 0 where
  pub read_faults : ℕ
  pub place_faults : ℕ
