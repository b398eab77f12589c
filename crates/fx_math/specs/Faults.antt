-- First faults, for any type of faults, and steps up to the first fault.
use Rattle.std.specs.Prelude.{Bool, true, false, Option, Some, None, Result, Ok, Err}

-- this fault where a test holds, else the first of the rest
abbrev pub fault_if : {F : Type 0} → Bool → F → Option F → Option F
fault_if true fault rest = Some fault
fault_if false fault rest = rest

-- the value, or else the fault
abbrev pub or_fault : {F A : Type 0} → F → Option A → Result A F
or_fault fault (Some x) = Ok x
or_fault fault None = Err fault

-- a step and what follows it; the first fault stands
infixl 10 ◌>>=◌
abbrev pub ◌>>=◌ : {F A B : Type 0} → Result A F → (A → Result B F) → Result B F
(Ok x) >>= next = next x
(Err fault) >>= next = Err fault

-- the fault where a test fails
abbrev pub unless : {F : Type 0} → F → Bool → Result (Unit {0}) F
unless fault true = Ok tt
unless fault false = Err fault
