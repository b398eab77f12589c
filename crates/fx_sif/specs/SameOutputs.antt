-- When an implicit form puts out the same as an equation system.
use Rattle.std.specs.Prelude.{◌≡◌, ℕ, ◌+◌, ◌<◌, ℤ, pos, length, slice_index_or}
use Rattle.fx_eqs.specs.Denominator.{DividesEach}
use Rattle.fx_math.specs.Ratio.{SameValue}
use Rattle.fx_eqs.specs.Equations.{Equations}
use Rattle.fx_eqs.specs.ExactRun.{row_value}
use Rattle.fx_net.specs.Net.{Net, empty_net}
use Rattle.fx_net.specs.Rows.{put_rows}
use Rattle.fx_net.specs.Run.{IsDenominator, IsRun, net_value}
use Rattle.fx_sif.specs.Implicit.{Implicit, rows}
use Rattle.fx_sif.specs.Rows.{rows_of}

-- the net of a form alone
abbrev pub net_alone : Implicit → Net
net_alone f = put_rows (rows_of f) 0 (empty_net (rows f.sizes))

-- the row of output o in that net, and in the equations
abbrev pub form_output : Implicit → ℕ → ℕ
form_output f o = f.sizes.t + f.sizes.x + o

abbrev pub equations_output : Equations → ℕ → ℕ
equations_output eqs o = slice_index_or eqs.outputs o 0

-- output o is the same at moment k: z over powers of q in the net, the exact value over powers of g in the equations
abbrev pub IsSameOutput : Implicit → Equations → ℕ → ℕ → (ℕ → ℕ → ℤ) → (ℕ → ℕ → ℤ) → ℕ → ℕ → Type 0
IsSameOutput f eqs q g u z k o =
    SameValue (net_value (net_alone f) q z k (form_output f o)) (row_value eqs g u k (equations_output eqs o))

-- as many inputs and outputs, and the same outputs in each run without perturbation, whatever the inputs
pub record HasOutputs (f : Implicit) (eqs : Equations) : Type 0 where
  pub inputs : f.sizes.u ≡ eqs.inputs
  pub outputs : f.sizes.y ≡ length eqs.outputs
  pub same : (q g : ℕ) (u z : ℕ → ℕ → ℤ) → IsDenominator (net_alone f) q → DividesEach g eqs.terms →
      IsRun (net_alone f) q u z (λ k i. pos 0) → (k o : ℕ) → o < f.sizes.y → IsSameOutput f eqs q g u z k o
