-- Rows one behind the other.
use Rattle.std.proofs.Common.{◌≡◌, ℕ, suc, ◌+◌, List, ◌++◌, Result, Ok, Err, IfOk, ap, arith}
use Rattle.fx_math.specs.Sums.{joined}
use Rattle.fx_eqs.specs.Equations.{Equations}
use Rattle.fx_sif.specs.Implicit.{Implicit}
use Rattle.fx_sif.specs.SameOutputs.{HasOutputs}
use Rattle.fx_sif.specs.declared.parts.Entry.{Entry}
use Rattle.fx_sif.specs.declared.parts.Block.{Block}
use Rattle.fx_sif.specs.Entries.{delay_row, delays}

-- one row more at the end
pub joined_next : (n : ℕ) (f : ℕ → List Entry) → joined (n + 1) f ≡ joined n f ++ f n
joined_next n f = let e : n + 1 ≡ suc n = omega arith in ap (λ m. joined m f) e

-- one delayed state more
pub delays_next : (block : Block) (column at n : ℕ) →
    delays block column at (n + 1) ≡ delays block column at n ++ delay_row block column at n
delays_next block column at n = joined_next n (delay_row block column at)

-- the form that was made has the outputs of its equations
pub outputs_of : {E : Type 0} (r : Result Implicit E) (f : Implicit) (eqs : Equations) → IfOk r (λ s. s ≡ f) →
    HasOutputs f eqs → IfOk r (λ s. HasOutputs s eqs)
outputs_of (Ok s) f eqs same h = rw same h
outputs_of (Err e) f eqs same h = tt
