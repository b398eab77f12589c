-- How the program ends.
use Rattle.std.specs.Prelude.{◌≡◌, ℕ, List}
use Rattle.std.specs.Process.{exit_status}
use Rattle.std.specs.declared.process.ExitCode.{ExitCode}
use Rattle.fx_io.specs.Outside.{Outside, Output}
use Rattle.fx_tool.specs.Running.{Runs}
use Rattle.fx_tool.specs.Status.{number_of}
use Rattle.fx_tool.specs.declared.status.Status.{Status}

-- with the number of a run's status
pub record EndsRun (words : List (List ℕ)) (shelf shelf' : Outside) (out out' : Output) (code : ExitCode) : Type 0 where
  pub status : Status
  pub number : exit_status code ≡ number_of status
  pub run : Runs words shelf shelf' out out' status
