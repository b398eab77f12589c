-- The fields of what is found, as the values that contracts see.
use Rattle.std.specs.Prelude.{map}
use Rattle.fx_gain.specs.Peaks.{PeakValues}
use Rattle.fx_gain.specs.declared.peaks.Peaks.TheInside.{Inside}

abbrev pub values_of : Inside → PeakValues
values_of p =
    record {
      moments = p.moments;
      outputs = p.outputs;
      inputs = p.inputs;
      intervals = p.intervals;
      words = map (λ w. w.items) p.words.items;
    }
