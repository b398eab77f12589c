-- The filter of sections and a plan.
use Rattle.std.specs.Prelude.{◌≡◌, ◌<◌, ℕ, List, [], ◌∷◌, length, get_or, map, All}
use Rattle.toml.specs.Data.{Members}
use Rattle.fx_math.specs.Ratio.{SameValue}
use Rattle.fx_eqs.specs.declared.mode.Mode.TheVariants.{Nearest}
use Rattle.fx_nums.specs.Fraction.{Fraction, OverTen, value_of, zero_fraction}
use Rattle.fx_files.specs.Building.{assembled, equations_of}
use Rattle.fx_files.specs.Coefficients.{Sos}
use Rattle.fx_files.specs.Describes.{Describes}
use Rattle.fx_files.specs.Filter.{Filter}
use Rattle.fx_files.specs.Fits.{CascadeFits, EntryAgrees, PortsFit, SettingsFit}
use Rattle.fx_files.specs.Ports.{Ports}
use Rattle.fx_files.specs.Settings.{Settings}
use Rattle.fx_files.specs.declared.formats.OutputEntry.{OutputEntry}
use Rattle.fx_files.specs.declared.formats.OutputFormat.{OutputFormat}
use Rattle.fx_files.specs.declared.plan.Plan.{Plan}

-- ---- the parts of a plan

-- its one output, as a file gives it
abbrev pub entry_of : Plan → OutputEntry
entry_of p = record { width = p.width; low = p.low; error = p.error }

-- one input and one output
abbrev pub ports_of : Plan → Ports
ports_of p =
    record { inputs = record { low = p.input_low; formats = p.input ∷ [] }; outputs = entry_of p ∷ [] }

-- rounding to the nearest, and of each list that is tried one entry
abbrev pub settings_of : Plan → Settings
settings_of p = record {
  structure = p.structure;
  rounding = Nearest;
  accumulator = p.accumulator;
  word = p.word;
  guards = p.guard ∷ [];
  fractions = p.fraction ∷ [];
  lengths = p.length ∷ [];
}

-- ---- what the parts keep

-- one to eight sections of six coefficients over powers of ten, of which the fourth is 1
pub record SectionsFit (sections : List Fraction) : Type 0 where
  pub cascade : CascadeFits sections
  pub over_ten : All OverTen sections

-- a plan within the limits and rules of a file
pub record PlanFits (p : Plan) : Type 0 where
  pub ports : PortsFit (ports_of p)
  pub agrees : EntryAgrees p.input_low p.accumulator (entry_of p)
  pub settings : SettingsFit (settings_of p)

-- ---- the filter

-- that of form `sos` on these sections, in the formats and settings of the plan
abbrev pub filter_of_sections : List Fraction → Plan → Filter
filter_of_sections sections p = assembled (ports_of p) (Sos sections) (settings_of p)

-- an output as a file gives it
abbrev pub given_output : OutputFormat → OutputEntry
given_output o = record { width = o.width; low = o.low; error = o.error }

-- a filter has the plan's values, and sections of the same values, however their fractions are written
pub record HasValues (sections : List Fraction) (p : Plan) (f : Filter) : Type 0 where
  pub input_low : f.input_low ≡ p.input_low
  pub inputs : f.inputs ≡ p.input ∷ []
  pub outputs : map given_output f.outputs ≡ entry_of p ∷ []
  pub settings : f.settings ≡ settings_of p
  pub given : List Fraction
  pub sos : f.coefficients ≡ Sos given
  pub count : length given ≡ length sections
  pub same : (i : ℕ) → i < length sections →
      SameValue (value_of (get_or given i zero_fraction)) (value_of (get_or sections i zero_fraction))

-- the filter that every file with these values gives, with the coefficients as they are handed in
abbrev pub IsOfFiles : List Fraction → Plan → Filter → Type 0
IsOfFiles sections p f =
    (t : Members) (g : Filter) → Describes t g → HasValues sections p g →
    f ≡ record g { coefficients = Sos sections; equations = equations_of 1 1 (Sos sections) }
