-- A sweep keeps its limits, and a moment of it is that of the definitions.
use Rattle.std.proofs.Common.{◌≡◌, ℕ, suc, ◌+◌, ◌*◌, ◌<◌, Option, Some, None, List, refl, sym, ◌∙◌}
use Rattle.std.proofs.Common.{ap, arith, add-one, ◌≤◌, unsigned_abs, ◌++◌}
use Rattle.std.proofs.Math.IntN.{ℤ, pos, ◌+ℤ◌}
use Rattle.std.proofs.lemmas.Int.{ints}
use Rattle.std.specs.Option.{option_or}
use Rattle.fx_eqs.specs.declared.limits.TheConstants.{PORTS}
use Rattle.fx_math.specs.Sums.{joined}
use Rattle.fx_net.specs.Net.{Net}
use Rattle.fx_nums.specs.Arithmetic.{width}
use Rattle.fx_nums.specs.Interval.{Interval, magnitude}
use Rattle.fx_sweep.specs.Gains.{widths, row_gain, input_gain}
use Rattle.fx_sweep.specs.Range.{first_range, range_at, value_at}
use Rattle.fx_sweep.specs.Steps.{AreLong, AreNarrow, GainsFit, SweepFits, WidthsFit}
use Rattle.fx_sweep.specs.Steps.{carried_width, greatest, greatest_width, input_places, input_value, range_in}
use Rattle.fx_sweep.specs.Steps.{rest_places, rest_value, row_places, row_value, settled_rows, state_of}
use Rattle.fx_sweep.specs.Swept.{Swept, gain_in, interval_in, whole_in, no_intervals}
use Rattle.fx_sweep.specs.Target.{TargetFits, start_of}
use Rattle.fx_sweep.specs.Weights.{carried, carry, settle, settled, to_input}
use Rattle.fx_sweep.specs.declared.limits.TheConstants.{GREATEST_LENGTH}
use Rattle.fx_sweep.specs.declared.numbers.Numbers.{Numbers}
use Rattle.fx_sweep.specs.declared.target.RangeAt.{RangeAt}
use Rattle.fx_sweep.specs.declared.target.Target.{Target}
use Rattle.fx_sweep.proofs.Ranges.{range_append, same_range}
use Rattle.fx_sweep.proofs.Started.{start_narrow}

-- ---- limits

nothing_narrow : (xs : List Interval) → interval_in xs ≡ no_intervals → AreNarrow greatest carried_width xs
nothing_narrow xs e j = rw (ap (λ (f : ℕ → Interval). f j) e) record {
  low = omega arith;
  high =
      omega arith;
  near = omega (arith, ints);
}

no_widths : (b : ℕ) (xs : List ℤ) → whole_in xs ≡ (λ (i : ℕ). pos 0) → WidthsFit b xs
no_widths b xs e i = rw (ap (λ (f : ℕ → ℤ). f i) e) (omega (arith, ints), omega (arith, ints))

no_gains : (xs : List ℕ) → gain_in xs ≡ (λ (i : ℕ). 0) → GainsFit xs
no_gains xs e i = rw (ap (λ (f : ℕ → ℕ). f i) e) (omega arith)

pub fresh_fits : (n : ℕ) (s : Numbers) → AreLong n s → interval_in s.carried.items ≡ no_intervals →
    whole_in s.widths.items ≡ (λ i. pos 0) →
    gain_in s.row_gains.items ≡ (λ i. 0) → gain_in s.input_gains.items ≡ (λ j. 0) → SweepFits n 0 None s
fresh_fits n s long a b c d = record {
  numbers = record {
    long = long;
    narrow = nothing_narrow s.carried.items a;
    widths_fit =
        no_widths _ s.widths.items b;
    row_gains_fit = no_gains s.row_gains.items c;
    input_gains_fit =
        no_gains s.input_gains.items d;
  };
  few = omega arith;
}

pub started_fits : (n : ℕ) (target : Target) (s : Numbers) → AreLong n s → TargetFits n target →
    interval_in s.carried.items ≡ start_of target → whole_in s.widths.items ≡ (λ i. pos 0) →
    gain_in s.row_gains.items ≡ (λ i. 0) → gain_in s.input_gains.items ≡ (λ j. 0) → SweepFits n 0 None s
started_fits n target s long fits a b c d = record {
  numbers = record {
    long = long;
    narrow =
        λ j. rw (ap (λ (f : ℕ → Interval). f j) a) (start_narrow n target fits j);
    widths_fit =
        no_widths _ s.widths.items b;
    row_gains_fit = no_gains s.row_gains.items c;
    input_gains_fit =
        no_gains s.input_gains.items d;
  };
  few = omega arith;
}

more_widths : (count k : ℕ) (xs : List ℤ) → WidthsFit (count * greatest_width + k * greatest_width) xs →
    WidthsFit ((count + k) * greatest_width) xs
more_widths count k xs h i = (let w = h i in (w.0, omega (arith, ints, w.1)))

pub moved_fits : (n count k : ℕ) (s t : Numbers) → count + k ≤ GREATEST_LENGTH → SweepFits n count None s →
    AreLong n t → AreNarrow greatest carried_width t.carried.items →
    ((b : ℕ) → WidthsFit b s.widths.items → WidthsFit (b + k * greatest_width) t.widths.items) →
    GainsFit t.row_gains.items → GainsFit t.input_gains.items → SweepFits n (count + k) None t
moved_fits n count k s t few fits long narrow grown a b = record {
  numbers = record {
    long = long;
    narrow = narrow;
    widths_fit =
        more_widths count k t.widths.items (grown (count * greatest_width) fits.numbers.widths_fit);
    row_gains_fit =
        a;
    input_gains_fit = b;
  };
  few = few;
}

pub failed_fits : (n count : ℕ) (at : RangeAt) (s t u : Numbers) → count < GREATEST_LENGTH →
    SweepFits n count None s → AreLong n u → interval_in u.carried.items ≡ no_intervals →
    u.widths ≡ t.widths → u.row_gains ≡ t.row_gains → u.input_gains ≡ t.input_gains →
    ((b : ℕ) → WidthsFit b s.widths.items → WidthsFit (b + 1 * greatest_width) t.widths.items) →
    GainsFit t.row_gains.items → GainsFit t.input_gains.items → SweepFits n count (Some at) u
failed_fits n count at s t u few fits long zero w r i grown a b = record {
  numbers = record {
    long = long;
    narrow = nothing_narrow u.carried.items zero;
    widths_fit = rw w (more_widths count 1 t.widths.items (grown (count * greatest_width) fits.numbers.widths_fit));
    row_gains_fit = rw r a;
    input_gains_fit = rw i b;
  };
  few = omega (arith, few);
}

-- ---- ranges

or_assoc : (a b c : Option RangeAt) → option_or (option_or a b) c ≡ option_or a (option_or b c)
or_assoc None b c = refl
or_assoc (Some x) b c = refl

-- the range of a moment is the first of the three
range_is : (net : Net) (start : ℕ → Interval) (m : ℕ) →
    range_at net start m ≡ range_in net net.rows (settled net start m) (row_gain net start m)
    (input_gain net start m)
range_is net start m =
    range_append (value_at net start m) (joined net.rows (row_places net.rows) ++ joined PORTS input_places)
    (joined net.rows rest_places)
    ∙ rw (
      range_append (value_at net start m) (joined net.rows (row_places net.rows)) (joined PORTS input_places),
      same_range (value_at net start m) (row_value (settled net start m) (row_gain net start m))
          (row_places net.rows) net.rows (λ k. refl),
      same_range (value_at net start m)
          (input_value (to_input net (settled net start m)) (input_gain net start m)) input_places PORTS (λ k.
          refl),
      same_range (value_at net start m) (rest_value (carry net (settled net start m))) rest_places net.rows (λ k. refl),
    ) refl
    ∙ or_assoc (first_range (row_value (settled net start m) (row_gain net start m))
    (joined net.rows (row_places net.rows)))
    (first_range (input_value (to_input net (settled net start m)) (input_gain net start m))
    (joined PORTS input_places))
    (first_range (rest_value (carry net (settled net start m))) (joined net.rows rest_places))

same_in : (net : Net) (n : ℕ) (s t : ℕ → Interval) (g h k l : ℕ → ℕ) → net.rows ≡ n → s ≡ t → g ≡ h → k ≡ l →
    range_in net n (settle net n s) g k ≡ range_in net net.rows (settle net net.rows t) h l
same_in net n s t g h k l e a b c = rw (e, a, b, c) refl

pub moment_range : (net : Net) (n : ℕ) (target : Target) (m count made : ℕ) (s : Numbers) → net.rows ≡ n →
    Swept (state_of count made None s) net target m →
    range_in net n (settled_rows net n s) (gain_in s.row_gains.items) (gain_in s.input_gains.items)
    ≡ range_at net (start_of target) m
moment_range net n target m count made s e swept =
    same_in net n (interval_in s.carried.items) (carried net (start_of target) m) (gain_in s.row_gains.items)
    (row_gain net (start_of target) m) (gain_in s.input_gains.items) (input_gain net (start_of target) m)
    e swept.is_carried swept.has_row_gains swept.has_input_gains
    ∙ sym (range_is net (start_of target) m)

-- ---- one moment more

pub moment_more : (net : Net) (n : ℕ) (target : Target) (m count made more : ℕ) (s t : Numbers) →
    net.rows ≡ n → Swept (state_of count made None s) net target m →
    range_at net (start_of target) m ≡ None →
    interval_in t.carried.items ≡ carry net (settled_rows net n s) →
    interval_in t.inputs.items ≡ to_input net (settled_rows net n s) →
    whole_in t.widths.items ≡ (λ i. whole_in s.widths.items i +ℤ width (settled_rows net n s i)) →
    gain_in t.row_gains.items ≡ (λ i. gain_in s.row_gains.items i + unsigned_abs (settled_rows net n s i).lo) →
    gain_in t.input_gains.items
    ≡ (λ j. gain_in s.input_gains.items j + magnitude (to_input net (settled_rows net n s) j)) →
    Swept (state_of (count + 1) more None t) net target (m + 1)
moment_more net n target m count made more s t e swept none a b c d f =
    let start : ℕ → Interval = start_of target in
    let same : settled_rows net n s ≡ settled net start m =
    ap (settle net n) swept.is_carried ∙ ap (λ (k : ℕ). settle net k (carried net start m)) (sym e) in
    let widened : (ℕ → ℤ) → (ℕ → Interval) → ℕ → ℤ = λ w x i. w i +ℤ width (x i) in
    let row_raised : (ℕ → ℕ) → (ℕ → Interval) → ℕ → ℕ = λ g x i. g i + unsigned_abs (x i).lo in
    let input_raised : (ℕ → ℕ) → (ℕ → Interval) → ℕ → ℕ = λ g x j. g j + magnitude (to_input net x j) in
    let one : m + 1 ≡ suc m = add-one m in
    rw one (record {
      counted = ap (λ k. k + 1) swept.counted ∙ one;
      no_range = refl;
      within = rw swept.within none;
      is_carried = a ∙ ap (carry net) same;
      has_inputs = b ∙ ap (to_input net) same;
      has_widths = c ∙ ap (λ w. widened w (settled_rows net n s)) swept.has_widths
          ∙ ap (widened (widths net start m)) same;
      has_row_gains = d ∙ ap (λ g. row_raised g (settled_rows net n s)) swept.has_row_gains
          ∙ ap (row_raised (row_gain net start m)) same;
      has_input_gains = f ∙ ap (λ g. input_raised g (settled_rows net n s)) swept.has_input_gains
          ∙ ap (input_raised (input_gain net start m)) same;
    })
