-- Where a count of faults stays as it was.
use Rattle.std.proofs.Common.{◌≡◌, inl, inr, ◌∙◌, ℕ, Result, Ok, Err, sym}
use Rattle.fx_io.specs.Causes.{HasCause}
use Rattle.fx_io.specs.declared.shelf.IoFault.{IoFault}
use Rattle.fx_io.specs.declared.shelf.IoFault.TheVariants.{Failed, NoMemory}

-- with a good answer
pub none_where_ok : {X : Type 0} (before now : ℕ) (result : Result X IoFault) (value : X) → result ≡ Ok value →
    HasCause before now result → now ≡ before
none_where_ok before now result value e h = elim h.kept [
  | inl same ↦ same
  | inr failed ↦ cc
]

-- and with want of memory
pub none_where_no_memory : {X : Type 0} (before now : ℕ) (result : Result X IoFault) → result ≡ Err NoMemory →
    HasCause before now result → now ≡ before
none_where_no_memory before now result e h = elim h.kept [
  | inl same ↦ same
  | inr failed ↦ (let no : Err NoMemory ≡ Err Failed = sym e ∙ failed in cc)
]
