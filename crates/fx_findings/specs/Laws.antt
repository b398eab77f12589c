-- What the laws of this crate say.
use Rattle.std.specs.Prelude.{◌≢◌, ℕ, zero, suc, ◌+◌, ℤ, List, length}
use Rattle.fx_gain.specs.declared.fails.LengthFail.{LengthFail}
use Rattle.fx_make.specs.declared.fail.Failed.{Failed}
use Rattle.fx_make.specs.declared.refusal.StructureFault.{StructureFault}
use Rattle.fx_make.specs.declared.refusal.StructureFault.TheVariants.{NoMemory}
use Rattle.fx_nums.specs.Interval.{Interval}
use Rattle.fx_lines.specs.Laws.{AreLines, IsLine}
use Rattle.fx_findings.specs.Designs.{design_lines, no_design_lines}
use Rattle.fx_findings.specs.Large.{large_lines}
use Rattle.fx_large.specs.declared.summary.Summary.{Summary}
use Rattle.fx_findings.specs.Peaks.{no_length_lines, peak_lines}
use Rattle.fx_findings.specs.Structures.{structure_fault_line}

-- a design is told in one line, and one more for each output
abbrev pub DesignLines : Type 0
DesignLines = (guard fraction moments : ℕ) (errors : List ℤ) →
    AreLines (suc (length errors)) (design_lines guard fraction moments errors)

-- that there is none in one line, and one more for each candidate
abbrev pub NoDesignLines : Type 0
NoDesignLines = (fails : List Failed) → AreLines (suc (length fails)) (no_design_lines fails)

-- a job in three lines, and one more for each output
abbrev pub LargeLines : Type 0
LargeLines = (number guard fraction moments : ℕ) (errors : List ℤ) (summary : Summary) →
    AreLines (suc (suc (length errors) + 1)) (large_lines number guard fraction moments errors summary)

-- whatever is wrong with a structure, one line tells it
abbrev pub StructureFaultLine : Type 0
StructureFaultLine = (fault : StructureFault) → fault ≢ NoMemory → IsLine (structure_fault_line fault)

-- a gain and its words are two lines
abbrev pub PeakLines : Type 0
PeakLines = (o i : ℕ) (gain : Interval) (words : List ℤ) → AreLines (suc (suc zero)) (peak_lines o i gain words)

-- that there is none is told in one line, and one more for each length
abbrev pub NoLengthLines : Type 0
NoLengthLines = (fails : List LengthFail) → AreLines (suc (length fails)) (no_length_lines fails)
