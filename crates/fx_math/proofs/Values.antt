-- Values that are the same as one are the same.
use Rattle.std.proofs.Common.{◌≡◌, ℕ, ◌<◌, arith, ap, sym, ◌∙◌}
use Rattle.std.proofs.Math.IntN.{ℤ, pos, ◌*ℤ◌}
use Rattle.std.specs.Int.Signed.{◌≤ℤ◌}
use Rattle.std.proofs.lemmas.Int.{ints}
use Rattle.fx_math.specs.Laws.{SameValueChains}
use Rattle.fx_math.proofs.Ring.{mul-le-back, mul_assoc, mul_comm}

-- a factor above 0 is taken out of an equation
pub cancel_factor : (n : ℕ) (a b : ℤ) → 0 < n → pos n *ℤ a ≡ pos n *ℤ b → a ≡ b
cancel_factor n a b h e =
    let low : a ≤ℤ b = mul-le-back n a b h (omega (arith, ints, e)) in
    let high : b ≤ℤ a = mul-le-back n b a h (omega (arith, ints, e)) in
    omega (arith, ints, low, high)

crossed : (x y z a b c : ℤ) → x *ℤ b ≡ y *ℤ a → y *ℤ c ≡ z *ℤ b → b *ℤ (x *ℤ c) ≡ b *ℤ (z *ℤ a)
crossed x y z a b c e f =
    sym (mul_assoc b x c) ∙ ap (λ n. n *ℤ c) (mul_comm b x ∙ e)
    ∙ mul_assoc y a c ∙ ap (λ n. y *ℤ n) (mul_comm a c) ∙ sym (mul_assoc y c a)
    ∙ ap (λ n. n *ℤ a) (f ∙ mul_comm z b) ∙ mul_assoc b z a

pub same_chains : SameValueChains
same_chains a b c h e f =
    cancel_factor b.den (a.num *ℤ pos c.den) (c.num *ℤ pos a.den) h
    (crossed a.num b.num c.num (pos a.den) (pos b.den) (pos c.den) e f)
