-- A first fault that an answer can carry is the one that it tells. What an answer tells is a function, told, of what it
-- carries: none for want of memory, and else the fault itself.
use Rattle.std.proofs.Common.{◌≡◌, Bool, true, false, Option, Some, None, refl, subst}
use Rattle.std.specs.Option.{option_or}
use Rattle.fx_math.specs.Faults.{fault_if}

pub record IsTold {F : Type 0} (told : F → Option F) (first : Option F) : Type 0 where
  pub says : (fault : F) → first ≡ Some fault → first ≡ told fault

pub none_told : {F : Type 0} (told : F → Option F) → IsTold told None
none_told told = record { says = λ fault e. cc }

pub if_told : {F : Type 0} (told : F → Option F) (test : Bool) (fault : F) (rest : Option F) →
    Some fault ≡ told fault → IsTold told rest → IsTold told (fault_if test fault rest)
if_told told true fault rest t r =
    record { says = λ other same. let e : fault ≡ other = cc in subst (λ x. Some fault ≡ told x) e t }
if_told told false fault rest t r = r

pub or_told : {F : Type 0} (told : F → Option F) (first rest : Option F) → IsTold told first →
    IsTold told rest → IsTold told (option_or first rest)
or_told told None rest f r = r
or_told told (Some fault) rest f r = f

-- ---- no fault: each test lets pass

pub if_none : {F : Type 0} (test : Bool) (fault : F) (rest : Option F) → fault_if test fault rest ≡ None →
    (test ≡ false) × (rest ≡ None)
if_none true fault rest e = cc
if_none false fault rest e = (refl, e)

pub or_none : {F : Type 0} (first rest : Option F) → option_or first rest ≡ None → (first ≡ None) × (rest ≡ None)
or_none None rest e = (refl, e)
or_none (Some fault) rest e = cc

pub none_if : {F : Type 0} (test : Bool) (fault : F) (rest : Option F) → test ≡ false → rest ≡ None →
    fault_if test fault rest ≡ None
none_if true fault rest e r = cc
none_if false fault rest e r = r

pub none_or : {F : Type 0} (first rest : Option F) → first ≡ None → rest ≡ None → option_or first rest ≡ None
none_or first rest e r = rw (e, r) refl
