-- Bounds of rows, raised from 0 until they serve.
use Rattle.std.specs.Prelude.{◌≡◌, ℕ, zero, suc, ◌-◌, ◌^◌, ◌<◌, ◌≤◌, ◌==◌, nat_lt, cond, not, Bool}
use Rattle.std.specs.Prelude.{unsigned_abs, Option, Some, None}
use Rattle.std.specs.Option.{option_or}
use Rattle.fx_math.specs.Division.{ceil_div}
use Rattle.fx_nums.specs.declared.limits.TheConstants.{SCALE_BITS}
use Rattle.fx_net.specs.Net.{Net}
use Rattle.fx_sweep.specs.Target.{start_of}
use Rattle.fx_sweep.specs.declared.target.Target.TheVariants.{Row}
use Rattle.fx_totals.specs.Totals.{target_total}
use Rattle.fx_block.specs.declared.least.TheConstants.{MOST_RAISES}
use Rattle.fx_block.specs.Least.{AllServe, AreLeastBounds}

-- what a raise makes of the bound of row j: its total over 2 ^ 64, rounded up
abbrev pub raised_bound : Net → (ℕ → ℕ) → (ℕ → ℕ) → (ℕ → ℕ) → ℕ → ℕ
raised_bound net lengths bounds rows j =
    unsigned_abs (ceil_div (target_total net (start_of (Row j)) (lengths j) bounds rows) (2 ^ SCALE_BITS))

-- one raise of the bounds of the first n rows, each from all bounds before; past them the bounds are 0
abbrev pub raise : Net → ℕ → (ℕ → ℕ) → (ℕ → ℕ) → (ℕ → ℕ) → ℕ → ℕ
raise net n lengths bounds rows j = cond (nat_lt j n) (raised_bound net lengths bounds rows j) 0

-- the first of n rows that passes a test
abbrev pub first_row : ℕ → (ℕ → Bool) → Option ℕ
first_row zero test = None
first_row (suc n) test = option_or (first_row n test) (cond (test n) (Some n) None)

-- how raises end: with bounds that the next raise leaves, with a raised bound of a row that passes its cap, or with the
-- first row that the last raise changed
pub data Raises : Type 0 where
  Rest : (ℕ → ℕ) → Raises
  Over : ℕ → ℕ → ℕ → Raises
  Slow : ℕ → ℕ → ℕ → Raises

-- after a raise from these bounds to the next: the first row that passes its cap, then the first that changed
abbrev pub ended : (ℕ → ℕ) → (ℕ → ℕ) → (ℕ → ℕ) → Option ℕ → Option ℕ → (ℕ → Raises) → Raises
ended caps rows next (Some j) changed go_on = Over j (next j) (caps j)
ended caps rows next None None go_on = Rest rows
ended caps rows next None (Some j) go_on = go_on j

abbrev pub ended_by : ℕ → (ℕ → ℕ) → (ℕ → ℕ) → (ℕ → ℕ) → (ℕ → Raises) → Raises
ended_by n caps rows next go_on =
    ended caps rows next (first_row n (λ j. nat_lt (caps j) (next j)))
    (first_row n (λ j. not (next j == rows j))) go_on

-- one raise from these bounds and, as long as they change, so many more
abbrev pub raises_by : ((ℕ → ℕ) → ℕ → ℕ) → ℕ → (ℕ → ℕ) → ℕ → (ℕ → ℕ) → Raises
raises_by raise n caps zero rows = ended_by n caps rows (raise rows) (λ j. Slow j (rows j) (raise rows j))
raises_by raise n caps (suc more) rows =
    ended_by n caps rows (raise rows) (λ j. raises_by raise n caps more (raise rows))

abbrev pub raises : Net → ℕ → (ℕ → ℕ) → (ℕ → ℕ) → (ℕ → ℕ) → ℕ → (ℕ → ℕ) → Raises
raises net n lengths bounds caps more rows = raises_by (raise net n lengths bounds) n caps more rows

-- raises from 0, as many as are tried
abbrev pub least_by_raises : Net → ℕ → (ℕ → ℕ) → (ℕ → ℕ) → (ℕ → ℕ) → Raises
least_by_raises net n lengths bounds caps = raises net n lengths bounds caps (MOST_RAISES - 1) (λ j. 0)

-- ---- what that finds

-- where raises come to rest, the bounds are the least
abbrev pub RestIsLeast : Type 0
RestIsLeast =
    (net : Net) (n : ℕ) (lengths bounds caps rows : ℕ → ℕ) → n ≤ net.rows → ((j : ℕ) → j < n → 0 < lengths j) →
    least_by_raises net n lengths bounds caps ≡ Rest rows → AreLeastBounds net n lengths bounds rows

-- where one passes its cap, no bounds within the caps serve
abbrev pub OverHasNone : Type 0
OverHasNone =
    (net : Net) (n : ℕ) (lengths bounds caps others : ℕ → ℕ) (row value cap : ℕ) → n ≤ net.rows →
    least_by_raises net n lengths bounds caps ≡ Over row value cap → AllServe net n lengths bounds others →
    ((j : ℕ) → j < n → others j ≤ caps j) → ⊥
