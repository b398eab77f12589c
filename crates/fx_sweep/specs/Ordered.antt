-- Intervals in order, and what the sweep makes of them.
use Rattle.std.specs.Prelude.{ℕ, ◌≤ℤ◌}
use Rattle.fx_nums.specs.Interval.{Interval}
use Rattle.fx_net.specs.Net.{Net}
use Rattle.fx_sweep.specs.Weights.{carried, settled, inputs}

-- no interval has its high end below its low end
abbrev pub AreOrdered : (ℕ → Interval) → Type 0
AreOrdered at = (j : ℕ) → (at j).lo ≤ℤ (at j).hi

-- those of moment n of a sweep are so
pub record HasOrder (net : Net) (start : ℕ → Interval) (n : ℕ) : Type 0 where
  pub carried_are : AreOrdered (carried net start n)
  pub settled_are : AreOrdered (settled net start n)
  pub inputs_are : AreOrdered (inputs net start n)

-- where those are that it begins with
abbrev pub IntervalsStayOrdered : Type 0
IntervalsStayOrdered = (net : Net) (start : ℕ → Interval) (n : ℕ) → AreOrdered start → HasOrder net start n
