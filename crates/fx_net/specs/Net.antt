-- Nets: rows that read rows of the same moment, rows of the moment before, and inputs.
use Rattle.std.specs.Prelude.{◌≡◌, ℕ, ◌≤◌, ◌==◌, cond}
use Rattle.fx_nums.specs.Fraction.{Fraction, zero_fraction}
use Rattle.fx_eqs.specs.declared.limits.TheConstants.{PORTS}
use Rattle.fx_mat.specs.Entries.{no_entries, put, IsZeroOutside}
pub use Rattle.fx_cross.specs.Table.{plain}
use Rattle.fx_net.specs.declared.limits.TheConstants.{LARGEST_NET, GREATEST_CLASS}

-- coefficients by row and source, zero outside; and the class of each row: how many half steps its perturbation may
-- have
pub record Net : Type 0 where
  pub rows : ℕ
  pub now : ℕ → ℕ → Fraction
  pub old : ℕ → ℕ → Fraction
  pub input : ℕ → ℕ → Fraction
  pub class : ℕ → ℕ

-- rows without half steps
abbrev pub no_class : ℕ → ℕ
no_class i = 0

-- rows that read nothing
abbrev pub empty_net : ℕ → Net
empty_net n = record { rows = n; now = no_entries; old = no_entries; input = no_entries; class = no_class }

-- ---- one change

-- what row i takes of row j of the same moment
abbrev pub put_now : ℕ → ℕ → Fraction → Net → Net
put_now i j c net = record net { now = put i j (plain c) net.now }

-- of row j of the moment before
abbrev pub put_old : ℕ → ℕ → Fraction → Net → Net
put_old i j c net = record net { old = put i j (plain c) net.old }

-- of input j
abbrev pub put_input : ℕ → ℕ → Fraction → Net → Net
put_input i j c net = record net { input = put i j (plain c) net.input }

-- the half steps of row i
abbrev pub put_class : ℕ → ℕ → Net → Net
put_class i e net = record net { class = λ p. cond (p == i) e (net.class p) }

-- ---- what each net keeps

-- so many rows, each of which reads only earlier rows of its own moment, nothing outside, and classes in their range
pub record NetFits (n : ℕ) (net : Net) : Type 0 where
  pub rows : net.rows ≡ n
  pub rows_low : 1 ≤ n
  pub rows_high : n ≤ LARGEST_NET
  pub now_earlier : (i j : ℕ) → i ≤ j → net.now i j ≡ zero_fraction
  pub now_outside : IsZeroOutside n n net.now
  pub old_outside : IsZeroOutside n n net.old
  pub input_outside : IsZeroOutside n PORTS net.input
  pub class_high : (i : ℕ) → net.class i ≤ GREATEST_CLASS
  pub class_outside : (i : ℕ) → n ≤ i → net.class i ≡ 0
