-- Inequalities at one denominator, brought to another.
use Rattle.std.proofs.Common.{◌≡◌, ℕ, ◌*◌, ◌<◌, ap, sym, ◌∙◌, subst}
use Rattle.std.proofs.Math.IntN.{ℤ, pos, ◌*ℤ◌, pos-*ℤ-pos}
use Rattle.std.specs.Int.Signed.{◌≤ℤ◌}
use Rattle.std.specs.Prelude.{unsigned_abs}
use Rattle.std.proofs.lemmas.Int.{unsigned_abs-mul}
use Rattle.fx_math.proofs.Ring.{left_comm, mul_comm, mul-le, mul-le-back}

-- v at the denominator d is x over g
module _ (w d g : ℕ) (v x : ℤ) (some : 0 < d) (meet : v *ℤ pos g ≡ x *ℤ pos d) where
  brought : pos g *ℤ (pos w *ℤ v) ≡ pos d *ℤ (pos w *ℤ x)
  brought = left_comm (pos g) (pos w) v
      ∙ ap (λ y. pos w *ℤ y) (mul_comm (pos g) v ∙ meet ∙ mul_comm x (pos d))
      ∙ left_comm (pos w) (pos d) x

  turned : (l : ℤ) → pos g *ℤ (pos d *ℤ l) ≡ pos d *ℤ (l *ℤ pos g)
  turned l = left_comm (pos g) (pos d) l ∙ ap (λ y. pos d *ℤ y) (mul_comm (pos g) l)

  pub at_least : (l : ℤ) → (pos d *ℤ l) ≤ℤ (pos w *ℤ v) → (l *ℤ pos g) ≤ℤ (pos w *ℤ x)
  at_least l h =
      mul-le-back d (l *ℤ pos g) (pos w *ℤ x) some
      (subst (λ y. y ≤ℤ (pos d *ℤ (pos w *ℤ x))) (turned l)
      (subst (λ y. (pos g *ℤ (pos d *ℤ l)) ≤ℤ y) brought (mul-le g (pos d *ℤ l) (pos w *ℤ v) h)))

  sizes : g * unsigned_abs (pos w *ℤ v) ≡ d * (w * unsigned_abs x)
  sizes = sym (unsigned_abs-mul (pos g) (pos w *ℤ v)) ∙ ap unsigned_abs brought
      ∙ unsigned_abs-mul (pos d) (pos w *ℤ x) ∙ ap (λ n. d * n) (unsigned_abs-mul (pos w) x)

  pub at_most : (t : ℤ) → pos (unsigned_abs (pos w *ℤ v)) ≤ℤ (pos d *ℤ t) →
      pos (w * unsigned_abs x) ≤ℤ (t *ℤ pos g)
  at_most t h =
      let left : pos g *ℤ pos (unsigned_abs (pos w *ℤ v)) ≡ pos d *ℤ pos (w * unsigned_abs x) =
      pos-*ℤ-pos g (unsigned_abs (pos w *ℤ v)) ∙ ap pos sizes ∙ sym (pos-*ℤ-pos d (w * unsigned_abs x)) in
      mul-le-back d (pos (w * unsigned_abs x)) (t *ℤ pos g) some
      (subst (λ y. y ≤ℤ (pos d *ℤ (t *ℤ pos g))) left
      (subst (λ y. (pos g *ℤ pos (unsigned_abs (pos w *ℤ v))) ≤ℤ y) (turned t)
      (mul-le g (pos (unsigned_abs (pos w *ℤ v))) (pos d *ℤ t) h)))
