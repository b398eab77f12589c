-- The test for a product below 2 ^ 126.
use Rattle.std.proofs.Common.{◌≡◌, ℕ, ◌+◌, ◌*◌, ◌/◌, ◌%◌, ◌^◌, ◌<◌, arith, sym, ◌∙◌, ap, nat_lt, ℤ, ◌*ℤ◌}
use Rattle.std.proofs.Common.{unsigned_abs, true}
use Rattle.std.proofs.lemmas.Nat.{div-add-mod', mul-lt}
use Rattle.std.proofs.lemmas.Int.{unsigned_abs-mul}
use Rattle.std.proofs.lemmas.Bool.{lt-ltb}
use Rattle.std.proofs.lemmas.Bool.Decides.{nat_tests}
use Rattle.fx_nums.specs.Products.{is_exact}

-- p is q * 2 ^ 64 + r
narrow_parts : (q r n : ℕ) → nat_lt (q * n + r * n / 2 ^ 64) (2 ^ 62) ≡ nat_lt ((q * 2 ^ 64 + r) * n) (2 ^ 126)
narrow_parts q r n = grind (arith, nat_tests)

narrow_is : (p n : ℕ) → nat_lt (p / 2 ^ 64 * n + p % 2 ^ 64 * n / 2 ^ 64) (2 ^ 62) ≡ nat_lt (p * n) (2 ^ 126)
narrow_is p n =
    narrow_parts (p / 2 ^ 64) (p % 2 ^ 64) n ∙ ap (λ x. nat_lt (x * n) (2 ^ 126)) (div-add-mod' p (2 ^ 64))

pub narrow_product : (p n : ℤ) (size factor : ℕ) → size ≡ unsigned_abs p → factor ≡ unsigned_abs n →
    nat_lt (size / 2 ^ 64 * factor + size % 2 ^ 64 * factor / 2 ^ 64) (2 ^ 62) ≡ is_exact p n
narrow_product p n size factor e f =
    rw (e, f) (narrow_is (unsigned_abs p) (unsigned_abs n) ∙ ap (λ x. nat_lt x (2 ^ 126)) (sym (unsigned_abs-mul p n)))

pub narrow_small : (p n : ℤ) (size : ℕ) → size ≡ unsigned_abs p → size < 2 ^ 64 → unsigned_abs n < 2 ^ 62 →
    true ≡ is_exact p n
narrow_small p n size e h k =
    sym (lt-ltb (unsigned_abs (p *ℤ n)) (2 ^ 126) (omega (
      arith,
      unsigned_abs-mul p n,
      mul-lt (unsigned_abs p) (unsigned_abs n) (2 ^ 64) (2 ^ 62) (omega (arith, e)) k,
    )))
