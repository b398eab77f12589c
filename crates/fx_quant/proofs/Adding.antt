-- Terms that are added to a row.
use Rattle.std.proofs.Common.{◌≡◌, ℕ, suc, ◌+◌, ◌^◌, ◌<◌, ◌≤◌, List, [], ◌∷◌, ◌++◌, length, All, arith}
use Rattle.std.proofs.Common.{subst, sym, ap, ◌∙◌, append_assoc, append-nil, length-append}
use Rattle.std.proofs.lemmas.List.Elements.{All-push, All-nil}
use Rattle.fx_nums.specs.Fraction.{Fraction}
use Rattle.fx_net.specs.Links.{coefficients}
use Rattle.fx_net.specs.Net.{Net}
use Rattle.fx_net.specs.declared.net.Which.{Which}
use Rattle.fx_code.specs.declared.term.Read.{Read}
use Rattle.fx_quant.specs.Positions.{Grid}
use Rattle.fx_quant.specs.Rows.{IsSmall, Adds, kept, kept_of, read}
use Rattle.fx_quant.specs.declared.scaled.Scaled.{Scaled}

pub nothing_added : (a : List Scaled) → Adds a a [] 0
nothing_added a = record { value = sym (append-nil a); small = λ h. h; few = omega arith }

pub adds_none : (a : List Scaled) → Adds a a [] 1
adds_none a = record { value = sym (append-nil a); small = λ h. h; few = omega arith }

pub adds_one : (a b : List Scaled) (k : Scaled) → b ≡ a ++ k ∷ [] → IsSmall k → Adds a b (k ∷ []) 1
adds_one a b k e s = record {
  value = e;
  small = λ h. rw e (All-push IsSmall a k h s);
  few =
      omega (arith, ap length e, length-append a (k ∷ []));
}

pub adds_more : (a b c x y : List Scaled) (n : ℕ) → Adds a b x n → Adds b c y 1 → Adds a c (x ++ y) (suc n)
adds_more a b c x y n h k = record {
  value = k.value ∙ ap (λ z. z ++ y) h.value ∙ append_assoc a x y;
  small = λ s. k.small (h.small s);
  few = omega (arith, h.few, k.few);
}

pub adds_next : (g : Grid) (net : Net) (i : ℕ) (which : Which) (j : ℕ) (a b c : List Scaled) (from : Read)
    (coef : Fraction) →
    Adds a b (kept_of g net i which j) j → from ≡ read which j → coef ≡ coefficients net which i j →
    Adds b c (kept g i from coef) 1 → Adds a c (kept_of g net i which (j + 1)) (j + 1)
adds_next g net i which j a b c from coef h p q k =
    let e : j + 1 ≡ suc j = omega arith in
    let same : Adds b c (kept g i (read which j) (coefficients net which i j)) 1 =
    subst (λ x. Adds b c (kept g i (read which j) x) 1) q (subst (λ x. Adds b c (kept g i x coef) 1) p k) in
    rw e (adds_more a b c (kept_of g net i which j) (kept g i (read which j) (coefficients net which i j)) j h same)

pub three_parts : (u v w x y z : List Scaled) (l m n : ℕ) → Adds [] u x l → Adds u v y m → Adds v w z n →
    w ≡ x ++ y ++ z
three_parts u v w x y z l m n h k j = j.value ∙ ap (λ s. s ++ z) (k.value ∙ ap (λ s. s ++ y) h.value)

pub three_small : (a u v w x y z : List Scaled) (l m n : ℕ) → a ≡ [] → Adds a u x l → Adds u v y m →
    Adds v w z n → All IsSmall w
three_small a u v w x y z l m n e h k j = j.small (k.small (h.small (rw e (All-nil IsSmall))))

pub three_few : (u v w x y z : List Scaled) (l m n : ℕ) → Adds [] u x l → Adds u v y m → Adds v w z n →
    l ≤ 40 → m ≤ 40 → n ≤ 4 → length w < 2 ^ 8
three_few u v w x y z l m n h k j p q r = omega (arith, h.few, k.few, j.few, p, q, r)
