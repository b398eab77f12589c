-- A run between two records of its samples.
use Rattle.std.specs.Prelude.{◌≡◌, ◌+◌, ◌≤◌, ◌++◌, ℕ, ℤ, List, length, Result, Ok, Err}
use Rattle.fx_code.specs.Code.{Code}
use Rattle.fx_machine.specs.Moments.{State, StandsAfter}
use Rattle.fx_sim.specs.declared.fault.SampleFault.{SampleFault}
use Rattle.fx_sim.specs.Output.{run_text}
use Rattle.fx_sim.specs.Samples.{moments_in, samples_in}

-- what was read before, with what is still read
abbrev pub with_front : {A : Type 0} → List A → Result (List A) SampleFault → Result (List A) SampleFault
with_front front (Ok xs) = Ok (front ++ xs)
with_front front (Err fault) = Err fault

-- the machine stands after the moments of so many records, their lines were put, and these records are left
pub record StandsBetween (p : Code) (bytes : List ℕ) (machine : State) (left : List (List (List ℕ))) (number : ℕ)
    (text : List ℕ) : Type 0 where
  pub list : List (List ℤ)
  pub ran : StandsAfter machine p list
  pub put : text ≡ run_text p list
  pub reads : with_front list (moments_in (number + 1) p.inputs left) ≡ samples_in p.inputs bytes
  pub count : number + length left ≤ length bytes
