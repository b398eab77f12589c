-- The entries that are left of a line.
use Rattle.std.proofs.Common.{◌≡◌, ℕ, zero, suc, ◌+◌, ◌-◌, ◌≤◌, ◌⊎◌, List, [], ◌∷◌, refl, sym, ◌∙◌, ap, inl}
use Rattle.std.proofs.Common.{inr, arith, unsigned_abs, ◌==◌, cond, Bool, true, false, length}
use Rattle.std.proofs.lemmas.Bool.{cases_eq, eq-eqb, ne_eqb, cond-true, cond-false}
use Rattle.fx_nums.specs.Fraction.{Fraction, zero_fraction}
use Rattle.fx_cross.specs.declared.cross.Link.{Link}
use Rattle.fx_cross.specs.Walks.{Line, link_at, IsFirstFrom, AreZeroFrom, links_of, links_from}

no_links_of : (line : Line) (from n : ℕ) → AreZeroFrom line from → links_of line from n ≡ []
no_links_of line from zero zeros = refl
no_links_of line from (suc n) zeros =
    cond-true _ _ _ (eq-eqb (unsigned_abs (line.entry from).num) 0
    (ap (λ (c : Fraction). unsigned_abs c.num) (zeros from (omega arith))))
    ∙ no_links_of line (suc from) n (λ k h. zeros k (omega arith))

first_link_of : (line : Line) (from n : ℕ) (link : Link) → IsFirstFrom line from link → from + n ≡ line.width →
    links_of line from n ≡ link ∷ links_of line (link.index + 1) (line.width - (link.index + 1))
first_link_of line from zero link first e = absurd (omega (arith, e, first.reached, first.inside))
first_link_of line from (suc n) link first e =
    by_place (cases_eq from link.index) (λ (ne : from ≡ link.index → ⊥). first_link_of line (suc from) n link
    (record {
      inside = first.inside;
      reached = omega (arith, first.reached);
      value = first.value;
      nonzero =
          first.nonzero;
      placed = first.placed;
      least = λ m h l. first.least m (omega arith) l;
    }) (omega arith))
  where
    by_place : (from ≡ link.index) ⊎ (from ≡ link.index → ⊥) →
        ((from ≡ link.index → ⊥) → links_of line (suc from) n
        ≡ link ∷ links_of line (link.index + 1) (line.width - (link.index + 1))) →
        links_of line from (suc n) ≡ link ∷ links_of line (link.index + 1) (line.width - (link.index + 1))
    by_place (inl h) _ =
        let full : unsigned_abs (line.entry from).num ≡ 0 → ⊥ =
        λ z. first.nonzero (ap (λ (m : ℕ). unsigned_abs (line.entry m).num) (sym h) ∙ z) in
        let rest : links_of line (suc from) n
        ≡ links_of line (link.index + 1) (line.width - (link.index + 1)) =
        same_rest (suc from) (link.index + 1) n (line.width - (link.index + 1)) (omega arith) (omega arith) in
        cond-false _ _ _ (ne_eqb (unsigned_abs (line.entry from).num) 0 full)
        ∙ ap (λ (l : Link). l ∷ links_of line (suc from) n) (same_link from h)
        ∙ ap (λ (ls : List Link). link ∷ ls) rest
      where
        same_rest : (a b m l : ℕ) → a ≡ b → m ≡ l → links_of line a m ≡ links_of line b l
        same_rest a b m l x y = rw (x, y) refl

        same_link : (a : ℕ) → a ≡ link.index → link_at (line.place a) a (line.entry a)
            ≡ link_at link.place link.index link.coef
        same_link a x = rw (x, first.placed, first.value) refl
    by_place (inr ne) later =
        let zero_here : line.entry from ≡ zero_fraction =
        first.least from (omega arith) (omega (arith, first.reached)) in
        cond-true _ _ _ (eq-eqb (unsigned_abs (line.entry from).num) 0
        (ap (λ (c : Fraction). unsigned_abs c.num) zero_here))
        ∙ later ne

pub no_links : (line : Line) (from : ℕ) → AreZeroFrom line from → links_from line from ≡ []
unfolding links_from
no_links line from zeros = no_links_of line from (line.width - from) zeros

pub first_link : (line : Line) (from : ℕ) (link : Link) → IsFirstFrom line from link →
    links_from line from ≡ link ∷ links_from line (link.index + 1)
unfolding links_from
first_link line from link first =
    first_link_of line from (line.width - from) link first (omega (arith, first.reached, first.inside))

links_of_low : (line : Line) (from n : ℕ) → length (links_of line from n) ≤ n
links_of_low line from zero = omega arith
links_of_low line from (suc n) = by_test (unsigned_abs (line.entry from).num == 0) (links_of_low line (suc from) n)
  where
    by_test : (b : Bool) → length (links_of line (suc from) n) ≤ n →
        length (cond b (links_of line (suc from) n)
        (link_at (line.place from) from (line.entry from) ∷ links_of line (suc from) n)) ≤ suc n
    by_test true h = omega arith
    by_test false h = omega arith

-- a line has no more links than entries
pub links_low : (line : Line) (from : ℕ) → length (links_from line from) ≤ line.width
unfolding links_from
links_low line from = let h : length (links_of line from (line.width - from)) ≤ line.width - from =
    links_of_low line from (line.width - from) in omega arith
