-- What sweeps of a recipe's net leave.
use Rattle.std.specs.Prelude.{◌≡◌, ℕ, ◌-◌, ◌/◌, ◌%◌, ◌^◌, List, codes, ◌++◌, nat_le, if◌then◌else◌}
use Rattle.std.specs.Prelude.{Option, Some, None, Result, Ok, Err}
use Rattle.std.specs.Fmt.{decimal}
use Rattle.fx_net.specs.Net.{Net}
use Rattle.fx_sweep.specs.Gains.{input_gain}
use Rattle.fx_sweep.specs.Range.{first_range_in}
use Rattle.fx_sweep.specs.Target.{start_of}
use Rattle.fx_sweep.specs.declared.target.RangeAt.{RangeAt}
use Rattle.fx_sweep.specs.declared.target.Target.{Target}
use Rattle.fx_sweep.specs.declared.target.Target.TheVariants.{Row}
use Rattle.fx_bench.specs.PerCall.{tenths_text}
use Rattle.fx_bench.specs.Recipe.{recipe_net, terms}
use Rattle.fx_bench.specs.declared.recipe.Recipe.{Recipe}
use Rattle.fx_bench.specs.declared.sweep.SweepTime.{SweepTime}

-- a number, where there is no range
abbrev pub or_range : Option RangeAt → ℕ → Result ℕ RangeAt
or_range None gain = Ok gain
or_range (Some at) gain = Err at

-- the gain of input 0 for a target after so many moments, or the first range in these
abbrev pub gain_or_range : Net → Target → ℕ → Result ℕ RangeAt
gain_or_range net target m = or_range (first_range_in net (start_of target) m) (input_gain net (start_of target) m 0)

-- that of the last row of a recipe's net, with room for so many rows
abbrev pub recipe_gain : Recipe → ℕ → Result ℕ RangeAt
recipe_gain r size = gain_or_range (recipe_net r size) (Row (r.rows - 1)) r.moments

-- a number at the scale 2 ^ -64: its whole part and the rest
abbrev pub parts_text : ℕ → List ℕ
parts_text n = decimal (n / 2 ^ 64) ++ (codes " " ++ decimal (n % 2 ^ 64))

abbrev pub recipe_text : Recipe → List ℕ
recipe_text r = decimal r.rows ++
    (codes " " ++ (decimal r.now ++
    (codes " " ++ (decimal r.old ++ (codes " " ++ (decimal r.places ++ (codes " " ++ decimal r.moments)))))))

-- the line that is printed
abbrev pub time_text : SweepTime → List ℕ
time_text t = codes "sweep " ++
    (recipe_text t.recipe ++
    (codes " " ++ (tenths_text t.per_term.tenths ++
    (codes " terms " ++ (decimal t.terms ++ (codes " gain " ++ parts_text t.gain))))))

-- the terms and the gain are those of the recipe
pub record IsOfRecipe (r : Recipe) (size : ℕ) (t : SweepTime) : Type 0 where
  pub recipe : t.recipe ≡ r
  pub terms : t.terms ≡ terms r
  pub gain : recipe_gain r size ≡ Ok t.gain

-- what was timed is the sweep of the recipe's net, with room for so many rows
abbrev pub IsTimeOf : Recipe → ℕ → Result SweepTime RangeAt → Type 0
IsTimeOf r size (Ok t) = IsOfRecipe r size t
IsTimeOf r size (Err at) = recipe_gain r size ≡ Err at

-- the least of four sizes that holds so many rows
abbrev pub size_for : ℕ → ℕ
size_for rows = if nat_le rows 8 then 8 else if nat_le rows 16 then 16 else if nat_le rows 32 then 32 else 64
