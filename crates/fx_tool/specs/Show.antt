-- Of `show`: its plan, and what status 0 claims.
use Rattle.std.specs.Prelude.{ℕ, List, Option, Result, Ok, Err, IsSomeAnd}
use Rattle.std.specs.FinMap.{get}
use Rattle.fx_io.specs.Shelf.{Files}
use Rattle.fx_files.specs.Describes.{IsFileOf}
use Rattle.fx_files.specs.Reading.{filter_of_bytes}
use Rattle.fx_files.specs.Filter.{Filter}
use Rattle.fx_keys.specs.declared.fault.FilterFault.{FilterFault}
use Rattle.fx_lines.specs.Filter.{filter_lines}
use Rattle.fx_tool.specs.Answer.{Answer, says}
use Rattle.fx_tool.specs.Plan.{Plan, Ends, Reads}
use Rattle.fx_tool.specs.Refused.{refused_filter}
use Rattle.fx_tool.specs.Writing.{GrowsBy}
use Rattle.fx_tool.specs.declared.status.Status.TheVariants.{Done}

-- the filter is shown, or its first fault is told
abbrev pub shown : Result Filter FilterFault → Answer
shown (Ok filter) = says Done (filter_lines filter)
shown (Err fault) = refused_filter fault

abbrev pub show_plan : Plan
show_plan = Reads (λ filter. Ends (shown (filter_of_bytes filter)))

-- the file is that of a filter, and the lines of this filter were put
pub record Shows (files : Files) (name : List ℕ) (before after : Option (List ℕ)) : Type 0 where
  pub filter : Filter
  pub described : IsSomeAnd (get files name) (λ bytes. IsFileOf bytes filter)
  pub printed : GrowsBy (filter_lines filter) before after
