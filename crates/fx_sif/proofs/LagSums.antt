-- What terms of equations come to in one row at one moment, and what the terms of textbook equations come to.
use Rattle.std.proofs.Common.{◌≡◌, ℕ, ◌+◌, ◌<◌, ◌≤◌, Bool, true, false, not, cond, if◌then◌else◌, eqb}
use Rattle.std.proofs.Common.{unsigned_abs, List, [], ◌∷◌, ◌++◌, length, All, refl, arith, sym, ap, ap₂, ◌∙◌}
use Rattle.std.proofs.Math.IntN.{ℤ, pos, ◌+ℤ◌, ◌*ℤ◌}
use Rattle.std.proofs.lemmas.Bool.{eq-eqb, ne_eqb}
use Rattle.std.proofs.lemmas.Int.{ints}
use Rattle.std.proofs.lemmas.List.Elements.{All-head, All-tail, All-nil, All-cons, All-append}
use Rattle.fx_nums.specs.Fraction.{Fraction, IsWholeOver}
use Rattle.fx_eqs.specs.Equations.{kept}
use Rattle.fx_eqs.specs.Textbook.{over_lags, over_sources, recursion, summand}
use Rattle.fx_eqs.specs.declared.term.Source.{Source}
use Rattle.fx_eqs.specs.declared.term.Source.TheVariants.{Row, In}
use Rattle.fx_eqs.specs.declared.term.Term.{Term}
use Rattle.fx_net.specs.Net.{plain}
use Rattle.fx_sif.proofs.Denominators.{Suits}
use Rattle.fx_sif.proofs.Earlier.{ago, weigh}
use Rattle.fx_sif.proofs.Recursion.{fed_back}

-- the values of a source, moment by moment
abbrev pub sequence : (ℕ → ℕ → ℤ) → (ℕ → ℕ → ℤ) → Source → ℕ → ℤ
sequence y u (Row j) k = y k j
sequence y u (In j) k = u k j

-- what the terms of row i come to at moment k
abbrev pub lag_sum : (Fraction → ℤ) → (ℕ → ℕ → ℤ) → (ℕ → ℕ → ℤ) → ℕ → ℕ → List Term → ℤ
lag_sum w y u k i [] = pos 0
lag_sum w y u k i (t ∷ ts) =
    (if eqb t.row i then w t.coef *ℤ ago (sequence y u t.from) k t.lag else pos 0) +ℤ lag_sum w y u k i ts

-- coefficients over the values of one moment, from this number on
abbrev pub column_sum : (Fraction → ℤ) → (ℕ → ℤ) → ℕ → List Fraction → ℤ
column_sum w f j [] = pos 0
column_sum w f j (c ∷ cs) = w c *ℤ f j +ℤ column_sum w f (j + 1) cs

pub column_sum-same : (w : Fraction → ℤ) (f g : ℕ → ℤ) (high j : ℕ) (cs : List Fraction) → j + length cs ≤ high →
    ((i : ℕ) → i < high → f i ≡ g i) → column_sum w f j cs ≡ column_sum w g j cs
column_sum-same w f g high j [] h same = refl
column_sum-same w f g high j (c ∷ cs) h same =
    ap₂ (λ x y. w c *ℤ x +ℤ y) (same j (omega arith)) (column_sum-same w f g high (j + 1) cs (omega arith) same)

first_none : (a : ℤ) → pos 0 +ℤ a ≡ a
first_none a = omega (arith, ints)

last_none : (a b : ℤ) → b ≡ pos 0 → a +ℤ b ≡ a
last_none a b e = rw e (omega (arith, ints))

grouped : (a b c : ℤ) → a +ℤ (b +ℤ c) ≡ (a +ℤ b) +ℤ c
grouped a b c = omega (arith, ints)

module _ (w : Fraction → ℤ) (y u : ℕ → ℕ → ℤ) (k i : ℕ) where
  -- ---- parts

  pub lag_sum-append : (xs ys : List Term) → lag_sum w y u k i (xs ++ ys) ≡ lag_sum w y u k i xs +ℤ lag_sum w y u k i ys
  lag_sum-append [] ys = sym (first_none (lag_sum w y u k i ys))
  lag_sum-append (t ∷ xs) ys =
      let here : ℤ = if eqb t.row i then w t.coef *ℤ ago (sequence y u t.from) k t.lag else pos 0 in
      ap (λ x. here +ℤ x) (lag_sum-append xs ys) ∙ grouped here (lag_sum w y u k i xs) (lag_sum w y u k i ys)

  -- two parts, of which one adds nothing
  pub lag_sum-front : (xs ys : List Term) → lag_sum w y u k i ys ≡ pos 0 →
      lag_sum w y u k i (xs ++ ys) ≡ lag_sum w y u k i xs
  lag_sum-front xs ys none = lag_sum-append xs ys ∙ last_none (lag_sum w y u k i xs) (lag_sum w y u k i ys) none

  pub lag_sum-back : (xs ys : List Term) → lag_sum w y u k i xs ≡ pos 0 →
      lag_sum w y u k i (xs ++ ys) ≡ lag_sum w y u k i ys
  lag_sum-back xs ys none =
      lag_sum-append xs ys ∙ ap (λ a. a +ℤ lag_sum w y u k i ys) none ∙ first_none (lag_sum w y u k i ys)

  -- terms of coefficient 0 add nothing
  pub lag_sum-kept : ((c : Fraction) → eqb (unsigned_abs c.num) 0 ≡ true → w c ≡ pos 0) → (ts : List Term) →
      lag_sum w y u k i (kept ts) ≡ lag_sum w y u k i ts
  lag_sum-kept none [] = refl
  lag_sum-kept none (t ∷ ts) = by_test (eqb (unsigned_abs t.coef.num) 0) refl (lag_sum-kept none ts)
    where
      nothing : (b : Bool) (o x s : ℤ) → o ≡ pos 0 → s ≡ (if b then o *ℤ x else pos 0) +ℤ s
      nothing true o x s e = rw e (omega (arith, ints))
      nothing false o x s e = omega (arith, ints)

      by_test : (b : Bool) → eqb (unsigned_abs t.coef.num) 0 ≡ b → lag_sum w y u k i (kept ts) ≡ lag_sum w y u k i ts →
          lag_sum w y u k i (cond (not b) (t ∷ kept ts) (kept ts))
          ≡ (if eqb t.row i then w t.coef *ℤ ago (sequence y u t.from) k t.lag else pos 0) +ℤ lag_sum w y u k i ts
      by_test true e rest =
          rest
          ∙ nothing (eqb t.row i) (w t.coef) (ago (sequence y u t.from) k t.lag) (lag_sum w y u k i ts) (none t.coef e)
      by_test false e rest =
          ap (λ x. (if eqb t.row i then w t.coef *ℤ ago (sequence y u t.from) k t.lag else pos 0) +ℤ x) rest

  -- ---- one term

  -- of this row
  pub lag_sum-first : (c : Fraction) (from : Source) (lag : ℕ) (ts : List Term) →
      lag_sum w y u k i (summand i c from lag ∷ ts) ≡ w c *ℤ ago (sequence y u from) k lag +ℤ lag_sum w y u k i ts
  lag_sum-first c from lag ts =
      let here : eqb i i ≡ true = eq-eqb i i refl in
      ap (λ b. (if b then w c *ℤ ago (sequence y u from) k lag else pos 0) +ℤ lag_sum w y u k i ts) here

  -- of another row
  pub lag_sum-other : (row : ℕ) (c : Fraction) (from : Source) (lag : ℕ) (ts : List Term) → (row ≡ i → ⊥) →
      lag_sum w y u k i (summand row c from lag ∷ ts) ≡ lag_sum w y u k i ts
  lag_sum-other row c from lag ts other =
      let away : eqb row i ≡ false = ne_eqb row i other in
      ap (λ b. (if b then w c *ℤ ago (sequence y u from) k lag else pos 0) +ℤ lag_sum w y u k i ts) away
      ∙ first_none (lag_sum w y u k i ts)

  -- ---- coefficients over the lags of a source

  pub lag_sum-over_lags : (from : Source) (lag : ℕ) (cs : List Fraction) →
      lag_sum w y u k i (over_lags i from lag cs) ≡ weigh w (sequence y u from) k lag cs
  lag_sum-over_lags from lag [] = refl
  lag_sum-over_lags from lag (c ∷ cs) =
      lag_sum-first c from lag (over_lags i from (lag + 1) cs)
      ∙ ap (λ x. w c *ℤ ago (sequence y u from) k lag +ℤ x) (lag_sum-over_lags from (lag + 1) cs)

  pub lag_sum-other_lags : (row : ℕ) (from : Source) (lag : ℕ) (cs : List Fraction) → (row ≡ i → ⊥) →
      lag_sum w y u k i (over_lags row from lag cs) ≡ pos 0
  lag_sum-other_lags row from lag [] other = refl
  lag_sum-other_lags row from lag (c ∷ cs) other =
      lag_sum-other row c from lag (over_lags row from (lag + 1) cs) other
      ∙ lag_sum-other_lags row from (lag + 1) cs other

  -- ---- coefficients over sources

  pub lag_sum-over_sources : (from : ℕ → Source) (lag j : ℕ) (cs : List Fraction) →
      lag_sum w y u k i (over_sources i from lag j cs) ≡ column_sum w (λ j. ago (sequence y u (from j)) k lag) j cs
  lag_sum-over_sources from lag j [] = refl
  lag_sum-over_sources from lag j (c ∷ cs) =
      lag_sum-first c (from j) lag (over_sources i from lag (j + 1) cs)
      ∙ ap (λ x. w c *ℤ ago (sequence y u (from j)) k lag +ℤ x) (lag_sum-over_sources from lag (j + 1) cs)

  pub lag_sum-other_sources : (row : ℕ) (from : ℕ → Source) (lag j : ℕ) (cs : List Fraction) → (row ≡ i → ⊥) →
      lag_sum w y u k i (over_sources row from lag j cs) ≡ pos 0
  lag_sum-other_sources row from lag j [] other = refl
  lag_sum-other_sources row from lag j (c ∷ cs) other =
      lag_sum-other row c (from j) lag (over_sources row from lag (j + 1) cs) other
      ∙ lag_sum-other_sources row from lag (j + 1) cs other

  -- ---- a recursion

  pub lag_sum-recursion : (from : Source) (b a : List Fraction) →
      lag_sum w y u k i (recursion i from b a)
      ≡ weigh w (sequence y u from) k 0 b +ℤ weigh w (sequence y u (Row i)) k 1 (fed_back a)
  lag_sum-recursion from b a =
      lag_sum-append (over_lags i from 0 b) (over_lags i (Row i) 1 (fed_back a))
      ∙ ap₂ (λ x z. x +ℤ z) (lag_sum-over_lags from 0 b) (lag_sum-over_lags (Row i) 1 (fed_back a))

  pub lag_sum-other_recursion : (row : ℕ) (from : Source) (b a : List Fraction) → (row ≡ i → ⊥) →
      lag_sum w y u k i (recursion row from b a) ≡ pos 0
  lag_sum-other_recursion row from b a other =
      lag_sum-front (over_lags row from 0 b) (over_lags row (Row row) 1 (fed_back a))
      (lag_sum-other_lags row (Row row) 1 (fed_back a) other)
      ∙ lag_sum-other_lags row from 0 b other

-- ---- terms whose coefficients suit a denominator

abbrev pub TermsSuit : ℕ → List Term → Type 0
TermsSuit q ts = All (λ (t : Term). IsWholeOver q (plain t.coef)) ts

-- those that are kept are whole over it
pub kept_whole : (q : ℕ) (ts : List Term) → TermsSuit q ts → All (λ (t : Term). IsWholeOver q t.coef) (kept ts)
kept_whole q [] h = All-nil (λ (t : Term). IsWholeOver q t.coef)
kept_whole q (t ∷ ts) h =
    by_test (eqb (unsigned_abs t.coef.num) 0) refl
    (kept_whole q ts (All-tail (λ (t : Term). IsWholeOver q (plain t.coef)) t ts h))
  where
    here : IsWholeOver q (plain t.coef)
    here = All-head (λ (t : Term). IsWholeOver q (plain t.coef)) t ts h

    by_test : (b : Bool) → eqb (unsigned_abs t.coef.num) 0 ≡ b → All (λ (t : Term). IsWholeOver q t.coef) (kept ts) →
        All (λ (t : Term). IsWholeOver q t.coef) (cond (not b) (t ∷ kept ts) (kept ts))
    by_test true e rest = rest
    by_test false e rest =
        let whole : IsWholeOver q t.coef = rw e at here in
        All-cons (λ (t : Term). IsWholeOver q t.coef) t (kept ts) whole rest

pub lags_suit : (q row : ℕ) (from : Source) (lag : ℕ) (cs : List Fraction) → Suits q cs →
    TermsSuit q (over_lags row from lag cs)
lags_suit q row from lag [] h = All-nil (λ (t : Term). IsWholeOver q (plain t.coef))
lags_suit q row from lag (c ∷ cs) h =
    All-cons (λ (t : Term). IsWholeOver q (plain t.coef)) (summand row c from lag) (over_lags row from (lag + 1) cs)
    (All-head (λ (c : Fraction). IsWholeOver q (plain c)) c cs h)
    (lags_suit q row from (lag + 1) cs (All-tail (λ (c : Fraction). IsWholeOver q (plain c)) c cs h))

pub sources_suit : (q row : ℕ) (from : ℕ → Source) (lag j : ℕ) (cs : List Fraction) → Suits q cs →
    TermsSuit q (over_sources row from lag j cs)
sources_suit q row from lag j [] h = All-nil (λ (t : Term). IsWholeOver q (plain t.coef))
sources_suit q row from lag j (c ∷ cs) h =
    All-cons (λ (t : Term). IsWholeOver q (plain t.coef)) (summand row c (from j) lag)
    (over_sources row from lag (j + 1) cs)
    (All-head (λ (c : Fraction). IsWholeOver q (plain c)) c cs h)
    (sources_suit q row from lag (j + 1) cs (All-tail (λ (c : Fraction). IsWholeOver q (plain c)) c cs h))

pub recursion_suits : (q row : ℕ) (from : Source) (b a : List Fraction) → Suits q b → Suits q (fed_back a) →
    TermsSuit q (recursion row from b a)
recursion_suits q row from b a of_b of_a =
    All-append (λ (t : Term). IsWholeOver q (plain t.coef)) (over_lags row from 0 b)
    (over_lags row (Row row) 1 (fed_back a))
    (lags_suit q row from 0 b of_b) (lags_suit q row (Row row) 1 (fed_back a) of_a)
