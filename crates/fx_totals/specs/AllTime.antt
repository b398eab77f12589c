-- Bounds of the rows of a net that hold at all times.
use Rattle.std.specs.Prelude.{◌⊎◌, ℕ, ◌<◌, ◌≤◌, ℤ, pos, ◌*ℤ◌, ◌≤ℤ◌, unsigned_abs}
use Rattle.fx_eqs.specs.declared.limits.TheConstants.{PORTS}
use Rattle.fx_net.specs.Net.{Net}
use Rattle.fx_net.specs.Rows.{AreEmpty}
use Rattle.fx_net.specs.Run.{IsDenominator, IsRun}
use Rattle.fx_sweep.specs.Target.{one, start_of}
use Rattle.fx_sweep.specs.declared.target.Target.{Target}
use Rattle.fx_sweep.specs.declared.target.Target.TheVariants.{Row}
use Rattle.fx_totals.specs.Bounds.{IsWithin, IsBounded}
use Rattle.fx_totals.specs.Totals.{target_total}

-- each word of each input is within the input's bound
abbrev pub WordsWithin : (ℕ → ℕ) → (ℕ → ℕ → ℤ) → Type 0
WordsWithin bounds u = (k j : ℕ) → j < PORTS → unsigned_abs (u k j) ≤ bounds j

-- each row is within its bound at all times
abbrev pub ValuesWithin : Net → ℕ → (ℕ → ℕ) → (ℕ → ℕ → ℤ) → Type 0
ValuesWithin net q rows z = (k i : ℕ) → i < net.rows → IsWithin net q z k i (rows i)

-- the bound of row j is at least the row's total after so many moments, of which there are some
pub record ServesNext (net : Net) (j length : ℕ) (bounds rows : ℕ → ℕ) : Type 0 where
  pub some : 0 < length
  pub total : target_total net (start_of (Row j)) length bounds rows ≤ℤ (pos (rows j) *ℤ one)

-- so it is with each row that is not empty, each after as many moments as it likes: bounds that served so far serve the
-- next value too
abbrev pub BoundsServe : Net → (ℕ → ℕ) → (ℕ → ℕ) → (ℕ → ℕ) → Type 0
BoundsServe net lengths bounds rows = (j : ℕ) → j < net.rows →
    AreEmpty j 1 net ⊎ ServesNext net j (lengths j) bounds rows

-- such bounds hold at all times, in each run with perturbations on words within their bounds
abbrev pub BoundsHoldForAllTime : Type 0
BoundsHoldForAllTime =
    (net : Net) (q : ℕ) (u z perturbations : ℕ → ℕ → ℤ) (lengths bounds rows : ℕ → ℕ) →
    IsDenominator net q → IsRun net q u z perturbations → WordsWithin bounds u → BoundsServe net lengths bounds rows →
    ValuesWithin net q rows z

-- and bounds that hold at all times are what the totals of any target ask for
abbrev pub BoundsSuffice : Type 0
BoundsSuffice =
    (net : Net) (target : Target) (q m k : ℕ) (u z : ℕ → ℕ → ℤ) (bounds rows : ℕ → ℕ) →
    WordsWithin bounds u → ValuesWithin net q rows z → IsBounded net target q m k u z bounds rows
