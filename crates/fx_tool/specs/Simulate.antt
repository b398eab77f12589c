-- Of `simulate`: its plan, and what status 0 claims.
use Rattle.std.specs.Prelude.{◌≡◌, ℕ, List, Option, Result, Ok, Err, IsSomeAnd}
use Rattle.std.specs.FinMap.{get}
use Rattle.fx_io.specs.Shelf.{Files}
use Rattle.fx_code.specs.Code.{Code}
use Rattle.fx_text.specs.Grammar.{Spells}
use Rattle.fx_text.specs.Reading.{code_in}
use Rattle.fx_text.specs.declared.fault.CodeFault.{CodeFault}
use Rattle.fx_sim.specs.Simulation.{simulation}
use Rattle.fx_sim.specs.declared.fault.SampleFault.{SampleFault}
use Rattle.fx_lines.specs.SampleFault.{sample_fault_line}
use Rattle.fx_tool.specs.Answer.{Answer, says}
use Rattle.fx_tool.specs.Plan.{Plan, Ends, Reads}
use Rattle.fx_tool.specs.Refused.{refused_code}
use Rattle.fx_tool.specs.Writing.{GrowsBy}
use Rattle.fx_tool.specs.declared.status.Status.TheVariants.{Done, BadSamples}

-- the outputs are put, or the first fault of the samples is told
abbrev pub outputs : Result (List ℕ) SampleFault → Answer
outputs (Ok text) = says Done text
outputs (Err fault) = says BadSamples (sample_fault_line fault)

-- the program goes on to the samples, or its first fault is told
abbrev pub samples_plan : Result Code CodeFault → Plan
samples_plan (Ok p) = Reads (λ samples. Ends (outputs (simulation p samples)))
samples_plan (Err fault) = Ends (refused_code fault)

abbrev pub simulate_plan : Plan
simulate_plan = Reads (λ code. samples_plan (code_in code))

-- one file spells a program, the other has samples of its inputs, and its outputs on them were put
pub record Simulates (files : Files) (code samples : List ℕ) (before after : Option (List ℕ)) : Type 0 where
  pub program : Code
  pub text : List ℕ
  pub spells : IsSomeAnd (get files code) (λ bytes. Spells bytes program)
  pub runs : IsSomeAnd (get files samples) (λ bytes. simulation program bytes ≡ Ok text)
  pub printed : GrowsBy text before after
