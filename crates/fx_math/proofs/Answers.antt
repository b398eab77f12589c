-- A fault goes through what is read later.
use Rattle.std.proofs.Common.{Bool, true, false, Result, refl}
use Rattle.fx_math.specs.Answers.{IsFault, Fails}
use Rattle.fx_math.specs.Faults.{◌>>=◌}

pub fault_through : {F A B : Type 0} (memory : Bool) (e : F) (due : Result A F) (f : A → Result B F) →
    IsFault memory e due → IsFault memory e (due >>= f)
fault_through true e due f h = tt
fault_through false e due f h = rw h refl

pub fails_through : {F A B : Type 0} (is_memory : F → Bool) (e : F) (due : Result A F) (f : A → Result B F) →
    Fails is_memory e due → Fails is_memory e (due >>= f)
fails_through is_memory e due f h = fault_through (is_memory e) e due f h
