-- What a simulation gives.
use Rattle.std.specs.Prelude.{ℕ, List, Result, Ok}
use Rattle.fx_code.specs.Code.{Code}
use Rattle.fx_sim.specs.declared.fault.SampleFault.{SampleFault}
use Rattle.fx_sim.specs.Output.{run_text}
use Rattle.fx_math.specs.Faults.{◌>>=◌}
use Rattle.fx_sim.specs.Samples.{samples_in}

-- the text of a program's run on the words of samples, or the first fault of the samples
abbrev pub simulation : Code → List ℕ → Result (List ℕ) SampleFault
simulation p bytes = samples_in p.inputs bytes >>= λ list. Ok (run_text p list)
