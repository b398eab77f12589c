-- Which change `set` is.
use Rattle.std.proofs.Common.{◌≡◌, ℕ, ◌+◌, ◌*◌, ◌<◌, List, get_or, refl, sym, ◌∙◌, ap, subst, unsigned_abs}
use Rattle.std.proofs.Common.{Bool, true, false}
use Rattle.std.proofs.lemmas.Bool.{eq-eqb, eqb-true, cond-true, false≢true}
use Rattle.fx_nums.specs.Fraction.{Fraction, zero_fraction, is_zero}
use Rattle.fx_cross.specs.declared.cell.Cell.{Cell}
use Rattle.fx_cross.specs.Table.{Table, IsZero, IsNonzero, plain, entry_at, place_at, put}
use Rattle.fx_cross.specs.Cells.{coef_of, table_of}
use Rattle.fx_cross.specs.WellLinked.{IsWellLinked}
use Rattle.fx_cross.proofs.Facts.{place_read, entry_is}
use Rattle.fx_cross.proofs.Entries.{is_put}

pub plain_zero : (c : Fraction) → unsigned_abs c.num ≡ 0 → plain c ≡ zero_fraction
plain_zero c z = cond-true _ _ _ (eq-eqb (unsigned_abs c.num) 0 z)

pub place_is : (rows columns room terms free : ℕ) (places : List ℕ) (cells : List Cell) (t : Table) →
    IsWellLinked rows columns room terms free places cells → table_of rows columns room places cells ≡ t →
    (i j x y : ℕ) → i < t.rows → j < t.columns → x ≡ get_or places (i * columns + j) x → y ≡ x → y ≡ place_at t i j
place_is rows columns room terms free places cells t kept is i j x y hi hj read e =
    place_read rows columns room terms free places cells t kept is i j x y hi hj read e
    ∙ ap (λ (u : Table). place_at u i j) is

pub empty_at : (rows columns room terms free : ℕ) (places : List ℕ) (cells : List Cell) (t : Table) →
    IsWellLinked rows columns room terms free places cells → table_of rows columns room places cells ≡ t →
    (i j x y : ℕ) → i < t.rows → j < t.columns → x ≡ get_or places (i * columns + j) x → y ≡ x → y ≡ room →
    place_at t i j ≡ t.room
empty_at rows columns room terms free places cells t kept is i j x y hi hj read e z =
    sym (place_is rows columns room terms free places cells t kept is i j x y hi hj read e) ∙ z
    ∙ ap (λ (u : Table). u.room) is

pub full_at : (rows columns room terms free : ℕ) (places : List ℕ) (cells : List Cell) (t : Table) →
    IsWellLinked rows columns room terms free places cells → table_of rows columns room places cells ≡ t →
    (i j x y : ℕ) → i < t.rows → j < t.columns → x ≡ get_or places (i * columns + j) x → y ≡ x →
    (y ≡ room → ⊥) → place_at t i j ≡ t.room → ⊥
full_at rows columns room terms free places cells t kept is i j x y hi hj read e full z =
    full (place_is rows columns room terms free places cells t kept is i j x y hi hj read e ∙ z
    ∙ sym (ap (λ (u : Table). u.room) is))

-- where there is no place the entry is 0
pub zero_at : (rows columns room terms free : ℕ) (places : List ℕ) (cells : List Cell) (t : Table) →
    IsWellLinked rows columns room terms free places cells → table_of rows columns room places cells ≡ t →
    (i j : ℕ) → place_at t i j ≡ t.room → entry_at t i j ≡ zero_fraction
zero_at rows columns room terms free places cells t kept is i j =
    subst (λ (u : Table). place_at u i j ≡ u.room → entry_at u i j ≡ zero_fraction) is
    (λ e. entry_is rows columns room places cells i j kept.end.coef ∙ ap (coef_of cells) e ∙ kept.end.coef)

-- a 0 in the place of a 0 changes nothing
pub same_at : (t : Table) (i j : ℕ) (c : Fraction) → entry_at t i j ≡ zero_fraction → unsigned_abs c.num ≡ 0 →
    entry_at t ≡ put i j (plain c) (entry_at t)
same_at t i j c e z = is_put i j (plain c) (entry_at t) (entry_at t) (e ∙ sym (plain_zero c z)) (λ _ _ _. refl)

-- what the test of a fraction has told
pub told_zero : (b : Bool) (c : Fraction) → b ≡ is_zero c → b ≡ true → IsZero c
told_zero b c e h = eqb-true (unsigned_abs c.num) 0 (sym e ∙ h)

pub told_nonzero : (b : Bool) (c : Fraction) → b ≡ is_zero c → b ≡ false → IsNonzero c
told_nonzero b c e h z = false≢true (sym h ∙ e ∙ eq-eqb (unsigned_abs c.num) 0 z)
