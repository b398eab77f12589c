-- What the words of the command line ask for.
use Rattle.std.specs.Prelude.{ℕ, ◌+◌, ◌^◌, ◌<◌, ◌==◌, nat_lt, if◌then◌else◌, List, [], ◌∷◌, map, codes}
use Rattle.std.specs.Prelude.{String, Option, Some, None}
use Rattle.std.specs.String.{string_bytes}
use Rattle.std.specs.Str.{bytes_eq}
use Rattle.fx_nums.specs.Whole.{whole_in}
use Rattle.fx_bench.specs.Recipe.{RecipeFits}
use Rattle.fx_bench.specs.declared.recipe.Recipe.{Recipe}
use Rattle.fx_bench.specs.declared.words.Bench.{Bench}
use Rattle.fx_bench.specs.declared.words.Bench.TheVariants.{Decimal, Machine}
use Rattle.fx_bench.specs.declared.words.Asked.{Asked}
use Rattle.fx_bench.specs.declared.words.Asked.TheVariants.{Nothing, Rounds, Sweep, Unknown}

-- the words as bytes
abbrev pub texts : {Z : Type 0} → List (String Z) → List (List ℕ)
texts words = map (λ w. string_bytes w) words

-- the bench of this name
abbrev pub bench_named : List ℕ → Option Bench
bench_named word =
    if bytes_eq word (codes "decimal") then Some Decimal
    else if bytes_eq word (codes "machine") then Some Machine
    else None

-- a number with nothing behind it, where it is not 0
abbrev pub whole_rounds : Option (ℕ × List ℕ) → Option ℕ
whole_rounds (Some (n, [])) = if n == 0 then None else Some n
whole_rounds _ = None

-- a count of rounds: a whole number from 1, below 2 ^ 32
abbrev pub rounds_in : List ℕ → Option ℕ
rounds_in word = whole_rounds (whole_in (2 ^ 32) word)

abbrev pub rounds_asked : Option Bench → Option ℕ → Asked
rounds_asked (Some bench) (Some rounds) = Rounds bench rounds
rounds_asked _ _ = Unknown

-- a number with nothing behind it, from a least one on
abbrev pub whole_from : ℕ → Option (ℕ × List ℕ) → Option ℕ
whole_from least (Some (n, [])) = if nat_lt n least then None else Some n
whole_from least _ = None

-- a whole number from a least one to a greatest
abbrev pub number_in : List ℕ → ℕ → ℕ → Option ℕ
number_in word least greatest = whole_from least (whole_in (greatest + 1) word)

-- no more rows of the moment before are read than there are, and some row is read
abbrev pub possible : Recipe → Option Recipe
possible r = if nat_lt r.rows r.old then None else if r.now + r.old == 0 then None else Some r

-- the recipe of these numbers
abbrev pub recipe_of : Option ℕ → Option ℕ → Option ℕ → Option ℕ → Option ℕ → Option Recipe
recipe_of (Some rows) (Some now) (Some old) (Some places) (Some moments) =
    possible (record { rows = rows; now = now; old = old; places = places; moments = moments })
recipe_of _ _ _ _ _ = None

-- a recipe: rows, those that are read in the same moment and in the moment before, places and moments
abbrev pub recipe_in : List (List ℕ) → Option Recipe
recipe_in (rows ∷ now ∷ old ∷ places ∷ moments ∷ []) =
    recipe_of (number_in rows 1 64) (number_in now 0 63) (number_in old 0 64) (number_in places 7 18)
    (number_in moments 1 4096)
recipe_in _ = None

abbrev pub sweep_of : Option Recipe → Asked
sweep_of (Some recipe) = Sweep recipe
sweep_of None = Unknown

-- the name of a bench, and a recipe
abbrev pub sweep_asked : List ℕ → Option Recipe → Asked
sweep_asked bench recipe = if bytes_eq bench (codes "sweep") then sweep_of recipe else Unknown

-- the program's name alone asks for nothing; behind it a bench and a count of rounds, or a sweep and its recipe
abbrev pub asked_by : List (List ℕ) → Asked
asked_by [] = Nothing
asked_by (name ∷ []) = Nothing
asked_by (name ∷ bench ∷ rounds ∷ []) = rounds_asked (bench_named bench) (rounds_in rounds)
asked_by (name ∷ bench ∷ numbers) = sweep_asked bench (recipe_in numbers)

-- a bench that is asked for has rounds, and a recipe its limits
abbrev pub HasRounds : Asked → Type 0
HasRounds (Rounds bench rounds) = 0 < rounds
HasRounds (Sweep recipe) = RecipeFits recipe
HasRounds _ = Unit {0}
