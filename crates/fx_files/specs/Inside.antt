-- The fields of a filter, as contracts see them.
use Rattle.std.specs.Prelude.{◌-◌, ◌≤◌, List, length, take, drop}
use Rattle.fx_nums.specs.Fraction.{Fraction}
use Rattle.fx_files.specs.Coefficients as coefficients
use Rattle.fx_files.specs.Coefficients.{Coefficients}
use Rattle.fx_files.specs.Filter.{Filter}
use Rattle.fx_files.specs.Fits.{FilterFits}
use Rattle.fx_files.specs.Ports.{Inputs as InputsValue, Ports as PortsValue}
use Rattle.fx_files.specs.Settings.{Settings as SettingsValue}
use Rattle.fx_files.specs.declared.coefficients.Ends.{Ends}
use Rattle.fx_files.specs.declared.coefficients.Ends.TheVariants as ends
use Rattle.fx_files.specs.declared.coefficients.Lists.{Lists}
use Rattle.fx_files.specs.declared.coefficients.Lists.TheVariants as lists
use Rattle.fx_files.specs.declared.filter.Filter.TheInside.{Inside}
use Rattle.fx_files.specs.declared.ports.Inputs.{Inputs}
use Rattle.fx_files.specs.declared.ports.Ports.{Ports}
use Rattle.fx_files.specs.declared.settings.Settings.{Settings}

-- ---- coefficients

-- a list of all, cut at these ends
abbrev pub cut : List Fraction → Ends → Coefficients
cut all (ends.Tf i) = coefficients.Tf (take i all) (drop i all)
cut all ends.Sos = coefficients.Sos all
cut all (ends.Ss n i j k) =
    coefficients.Ss n (take i all) (take (j - i) (drop i all)) (take (k - j) (drop j all)) (drop k all)
cut all (ends.Lattice i) = coefficients.Lattice (take i all) (drop i all)

-- the ends ascend, and stand in the list
abbrev pub AreOrdered : List Fraction → Ends → Type 0
AreOrdered all (ends.Tf i) = i ≤ length all
AreOrdered all ends.Sos = Unit {0}
AreOrdered all (ends.Ss n i j k) = (i ≤ j) × (j ≤ k) × (k ≤ length all)
AreOrdered all (ends.Lattice i) = i ≤ length all

abbrev pub lists_view : Lists → Coefficients
lists_view (lists.Tf b a) = coefficients.Tf b.now a.now
lists_view (lists.Sos sections) = coefficients.Sos sections.now
lists_view (lists.Ss n a b c d) = coefficients.Ss n a.now b.now c.now d.now
lists_view (lists.Lattice k v) = coefficients.Lattice k.now v.now

-- ---- parts of a file

abbrev pub inputs_view : Inputs → InputsValue
inputs_view i = record { low = i.low; formats = i.formats.items }

abbrev pub ports_view : Ports → PortsValue
ports_view p = record { inputs = inputs_view p.inputs; outputs = p.outputs.items }

abbrev pub settings_view : Settings → SettingsValue
settings_view s = record {
  structure = s.structure;
  rounding = s.rounding;
  accumulator = s.accumulator;
  word = s.word;
  guards = s.guards.items;
  fractions = s.fractions.items;
  lengths = s.lengths.items;
}

-- ---- a filter

abbrev pub filter_view : Inside → Filter
filter_view f = record {
  input_low = f.inputs.low;
  inputs = f.inputs.formats.items;
  outputs = f.outputs.items;
  coefficients = f.coefficients;
  settings = settings_view f.settings;
  equations = f.eqs;
}

abbrev pub IsKept : Inside → Type 0
IsKept f = FilterFits (filter_view f)
