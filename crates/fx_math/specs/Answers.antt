-- What a function answers, against what a definition says. Want of memory is one of its faults, and may come at any
-- time.
use Rattle.std.specs.Prelude.{◌≡◌, Bool, true, false, Option, Some, None, Result, Ok, Err}

-- want of memory, or else the fault that is due
abbrev pub IsFault : {F Y : Type 0} → Bool → F → Result Y F → Type 0
IsFault true fault due = Unit {0}
IsFault false fault due = due ≡ Err fault

-- an answer that names this fault is right
abbrev pub Fails : {F Y : Type 0} → (F → Bool) → F → Result Y F → Type 0
Fails is_memory fault due = IsFault (is_memory fault) fault due

-- an answer gives what is due, seen through a view, or its fault
abbrev pub Gives : {F X Y : Type 0} → (F → Bool) → (X → Y) → Result X F → Result Y F → Type 0
Gives is_memory view (Ok x) due = due ≡ Ok (view x)
Gives is_memory view (Err fault) due = Fails is_memory fault due

-- ---- first faults

-- the fault, unless it is want of memory
abbrev pub unless_memory : {F : Type 0} → Bool → F → Option F
unless_memory true fault = None
unless_memory false fault = Some fault

-- the fault that an error tells: none where memory was refused
abbrev pub told : {F : Type 0} → (F → Bool) → F → Option F
told is_memory fault = unless_memory (is_memory fault) fault

-- the fault that an answer tells: none where there is a value
abbrev pub fault_told : {F T : Type 0} → (F → Bool) → Result T F → Option F
fault_told is_memory (Ok x) = None
fault_told is_memory (Err fault) = told is_memory fault
