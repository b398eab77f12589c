-- The sum over the links of a line is the sum over all its entries.
use Rattle.std.proofs.Common.{◌≡◌, ℕ, zero, suc, ◌+◌, ◌-◌, refl, ◌∙◌, ap, ◌⊎◌, inl, inr, arith, unsigned_abs}
use Rattle.std.specs.Prelude.{ℤ, pos, ◌+ℤ◌}
use Rattle.std.proofs.lemmas.Int.{ints}
use Rattle.std.proofs.lemmas.Bool.{cases_eq, eq-eqb, ne_eqb, cond-true, cond-false}
use Rattle.fx_math.specs.Sums.{total}
use Rattle.fx_math.proofs.Sums.{total_ext}
use Rattle.fx_nums.specs.Fraction.{Fraction}
use Rattle.fx_cross.specs.Walks.{Line, links_of, links_from}
use Rattle.fx_cross.specs.Laws.{links_total, NeedsNonzero}

-- a sum begins with its first part
total_front : (n : ℕ) (f : ℕ → ℤ) → total (suc n) f ≡ f 0 +ℤ total n (λ k. f (suc k))
total_front zero f = omega (arith, ints)
total_front (suc n) f = let rest : total (suc n) f ≡ f 0 +ℤ total n (λ k. f (suc k)) =
    total_front n f in omega (arith, ints, rest)

rest_total : (f : ℕ → Fraction → ℤ) → NeedsNonzero f → (line : Line) (from n : ℕ) →
    links_total f (links_of line from n) ≡ total n (λ k. f (from + k) (line.entry (from + k)))
rest_total f none line from zero = refl
rest_total f none line from (suc n) =
    by_place (cases_eq (unsigned_abs (line.entry from).num) 0) (rest_total f none line (suc from) n)
  where
    here : f (from + 0) (line.entry (from + 0)) ≡ f from (line.entry from)
    here = let e : from + 0 ≡ from = omega arith in ap (λ (m : ℕ). f m (line.entry m)) e

    onward : total n (λ k. f (suc from + k) (line.entry (suc from + k)))
        ≡ total n (λ k. f (from + suc k) (line.entry (from + suc k)))
    onward = total_ext n (λ k. f (suc from + k) (line.entry (suc from + k))) (λ k.
        f (from + suc k) (line.entry (from + suc k))) (λ k _. let e : suc from + k ≡ from + suc k =
        omega arith in ap (λ (m : ℕ). f m (line.entry m)) e)

    front : total (suc n) (λ k. f (from + k) (line.entry (from + k)))
        ≡ f (from + 0) (line.entry (from + 0)) +ℤ total n (λ k. f (from + suc k) (line.entry (from + suc k)))
    front = total_front n (λ k. f (from + k) (line.entry (from + k)))

    by_place : (unsigned_abs (line.entry from).num ≡ 0) ⊎ (unsigned_abs (line.entry from).num ≡ 0 → ⊥) →
        links_total f (links_of line (suc from) n) ≡ total n (λ k. f (suc from + k) (line.entry (suc from + k))) →
        links_total f (links_of line from (suc n)) ≡ total (suc n) (λ k. f (from + k) (line.entry (from + k)))
    by_place (inl z) rest =
        ap (links_total f) (cond-true _ _ _ (eq-eqb (unsigned_abs (line.entry from).num) 0 z))
        ∙ (let gone : f from (line.entry from) ≡ pos 0 =
        none from (line.entry from) z in omega (arith, ints, rest, onward, front, here, gone))
    by_place (inr ne) rest =
        ap (links_total f) (cond-false _ _ _ (ne_eqb (unsigned_abs (line.entry from).num) 0 ne))
        ∙ omega (arith, ints, rest, onward, front, here)

pub line_total : (f : ℕ → Fraction → ℤ) → NeedsNonzero f → (line : Line) →
    links_total f (links_from line 0) ≡ total line.width (λ k. f k (line.entry k))
unfolding links_from
line_total f none line =
    rest_total f none line 0 (line.width - 0)
    ∙ (let e : line.width - 0 ≡ line.width = omega arith in
    ap (λ (n : ℕ). total n (λ k. f (0 + k) (line.entry (0 + k)))) e)
    ∙ total_ext line.width (λ k. f (0 + k) (line.entry (0 + k))) (λ k. f k (line.entry k)) (λ k _.
    let e : 0 + k ≡ k = omega arith in ap (λ (m : ℕ). f m (line.entry m)) e)
