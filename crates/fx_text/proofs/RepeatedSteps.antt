-- A step that is taken so many times, as a loop takes it.
use Rattle.std.proofs.Common.{◌≡◌, ℕ, suc, ◌-◌, ◌+◌, ◌≤◌, ◌<◌, Result, Ok, refl, sym, ◌∙◌, arith}
use Rattle.fx_text.specs.declared.fault.CodeFault.{CodeFault}
use Rattle.fx_math.specs.Faults.{◌>>=◌}
use Rattle.fx_math.specs.Answers.{Fails}
use Rattle.fx_math.proofs.Answers.{fails_through}
use Rattle.fx_text.specs.TokenReading.{repeated, is_memory}

-- a fault of a step is one of all that follows
pub fails_on : {A B : Type 0} (e : CodeFault) (read : Result A CodeFault) (next : A → Result B CodeFault) →
    Fails is_memory e read → Fails is_memory e (read >>= next)
fails_on e read next h = fails_through is_memory e read next h

pub fails_along : {A : Type 0} (e : CodeFault) (read total : Result A CodeFault) → read ≡ total →
    Fails is_memory e read → Fails is_memory e total
fails_along e read total same h = rw (← same) h

pub goes_on : {S : Type 0} (step : S → Result S CodeFault) (count i : ℕ) (s t : S)
    (total : Result S CodeFault) → i < count → step s ≡ Ok t → repeated (count - i) step s ≡ total →
    repeated (count - (i + 1)) step t ≡ total
goes_on step count i s t total lt h so_far =
    let k : count - i ≡ suc (count - (i + 1)) = omega arith in
    let one : repeated (count - i) step s ≡ repeated (count - (i + 1)) step t = rw (k, h) refl in
    sym one ∙ so_far

pub ends : {S : Type 0} (e : CodeFault) (step : S → Result S CodeFault) (count i : ℕ) (s : S)
    (total : Result S CodeFault) → i < count → Fails is_memory e (step s) →
    repeated (count - i) step s ≡ total → Fails is_memory e total
ends e step count i s total lt h so_far =
    let k : count - i ≡ suc (count - (i + 1)) = omega arith in
    let one : repeated (count - i) step s ≡ (step s >>= repeated (count - (i + 1)) step) = rw k refl in
    fails_along e (step s >>= repeated (count - (i + 1)) step) total (sym one ∙ so_far)
    (fails_on e (step s) (repeated (count - (i + 1)) step) h)

pub is_done : {S : Type 0} (step : S → Result S CodeFault) (count i : ℕ) (s : S) (total : Result S CodeFault) →
    count ≤ i → repeated (count - i) step s ≡ total → total ≡ Ok s
is_done step count i s total le so_far =
    let k : count - i ≡ 0 = omega arith in
    let one : repeated (count - i) step s ≡ Ok s = rw k refl in
    sym so_far ∙ one
