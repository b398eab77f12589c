-- Sections one after the other.
use Rattle.std.proofs.Common.{◌≡◌, ℕ, ◌+◌, ◌≤◌, true, List, [], ◌∷◌, length, get_or, drop, arith}
use Rattle.fx_nums.specs.Fraction.{Fraction, is_one}
use Rattle.fx_files.specs.Lists.{each_monic}
use Rattle.fx_keys.specs.declared.key.Key.{Key}

-- a section whose fourth coefficient is 1 is passed over
pub monic_section : (k : Key) (place : ℕ) (cs : List Fraction) (first : Fraction) → 6 ≤ length cs →
    first ≡ get_or cs 3 first → is_one first ≡ true → each_monic k (place + 6) (drop 6 cs)
    ≡ each_monic k place cs
unfolding each_monic
monic_section k place [] first h e o = absurd (omega arith)
monic_section k place (a ∷ []) first h e o = absurd (omega arith)
monic_section k place (a ∷ b ∷ []) first h e o = absurd (omega arith)
monic_section k place (a ∷ b ∷ c ∷ []) first h e o = absurd (omega arith)
monic_section k place (a ∷ b ∷ c ∷ d ∷ []) first h e o = absurd (omega arith)
monic_section k place (a ∷ b ∷ c ∷ d ∷ f ∷ []) first h e o = absurd (omega arith)
monic_section k place (a ∷ b ∷ c ∷ d ∷ f ∷ g ∷ cs) first h e o = let one : is_one d ≡ true = rw e at o in rw one
