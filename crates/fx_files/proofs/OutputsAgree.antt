-- Outputs that agree, one after the other.
use Rattle.std.proofs.Common.{◌≡◌, ℕ, ◌+◌, ◌<◌, List, length, get_or, drop, Ok, refl}
use Rattle.std.proofs.Math.IntN.{ℤ}
use Rattle.std.proofs.lemmas.List.{drop_more}
use Rattle.fx_files.specs.Ports.{output_fits, outputs_fit}
use Rattle.fx_files.specs.declared.formats.OutputEntry.{OutputEntry}

pub output_passed : (low : ℤ) (bits i : ℕ) (os : List OutputEntry) (o : OutputEntry) → i < length os →
    o ≡ get_or os i o → output_fits low bits o ≡ Ok tt →
    outputs_fit low bits (drop i os) ≡ outputs_fit low bits (drop (i + 1) os)
unfolding outputs_fit
output_passed low bits i os o lt e h = rw (drop_more os i o lt, ← e, h) refl
