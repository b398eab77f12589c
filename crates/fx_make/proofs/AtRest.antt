-- Bounds at which raises come to rest are within their caps, and 0 past the rows.
use Rattle.std.proofs.Common.{◌≡◌, ◌⊎◌, ℕ, zero, suc, ◌<◌, ◌≤◌, refl, ap, subst, inl, inr}
use Rattle.std.proofs.Common.{Bool, true, false, not, eqb, ltb}
use Rattle.std.specs.Prelude.{Option, Some, None}
use Rattle.std.proofs.lemmas.Bool.{cond-false, le-ltb, ltb-false, eqb-true}
use Rattle.fx_net.specs.Net.{Net}
use Rattle.fx_block.specs.Raising.{raise, first_row, Raises, ended, ended_by, raises, least_by_raises}
use Rattle.fx_block.specs.Raising.Raises.{Rest, Over, Slow}
use Rattle.fx_block.proofs.Raising.{none_passes}

unchanged : (a b : ℕ) → not (eqb a b) ≡ false → a ≡ b
unchanged a b e = by (eqb a b) refl e
  where
    by : (t : Bool) → eqb a b ≡ t → not t ≡ false → a ≡ b
    by true f g = eqb-true a b f
    by false f g = cc

-- ---- the last raise

-- it passed no cap and changed nothing
record IsLast (n : ℕ) (caps rows next : ℕ → ℕ) : Type 0 where
  within : (j : ℕ) → j < n → next j ≤ caps j
  same : (j : ℕ) → j < n → next j ≡ rows j

rest_of : Raises → ℕ → ℕ
rest_of (Rest rows) = rows
rest_of (Over j value cap) = λ i. 0
rest_of (Slow j before after) = λ i. 0

-- raises that rest did so with this one, or went on
Rests : ℕ → (ℕ → ℕ) → (ℕ → ℕ) → (ℕ → ℕ) → (ℕ → Raises) → (ℕ → ℕ) → Type 0
Rests n caps rows next go_on x = ((rows ≡ x) × IsLast n caps rows next) ⊎ ((j : ℕ) × (go_on j ≡ Rest x))

rests : (n : ℕ) (caps rows next x : ℕ → ℕ) (go_on : ℕ → Raises) → ended_by n caps rows next go_on ≡ Rest x →
    Rests n caps rows next go_on x
unfolding Rests rest_of
rests n caps rows next x go_on e =
    by (first_row n (λ j. ltb (caps j) (next j))) refl (first_row n (λ j. not (eqb (next j) (rows j)))) refl e
  where
    by : (over : Option ℕ) → first_row n (λ j. ltb (caps j) (next j)) ≡ over → (changed : Option ℕ) →
        first_row n (λ j. not (eqb (next j) (rows j))) ≡ changed → ended caps rows next over changed go_on ≡ Rest x →
        Rests n caps rows next go_on x
    by (Some j) f changed h g = cc
    by None f None h g = inl (
      ap rest_of g,
      record {
        within = λ j l. ltb-false (caps j) (next j) (none_passes n (λ j. ltb (caps j) (next j)) f j l);
        same =
            λ j l. unchanged (next j) (rows j) (none_passes n (λ j. not (eqb (next j) (rows j))) h j l);
      },
    )
    by None f (Some j) h g = inr (j, g)

-- ---- all raises

-- within the caps of the first n rows, and 0 past them
pub record IsSettled (n : ℕ) (caps x : ℕ → ℕ) : Type 0 where
  pub within : (j : ℕ) → j < n → x j ≤ caps j
  pub past : (j : ℕ) → n ≤ j → x j ≡ 0

settled : (n : ℕ) (caps rows next x : ℕ → ℕ) → ((j : ℕ) → n ≤ j → rows j ≡ 0) → rows ≡ x →
    IsLast n caps rows next → IsSettled n caps x
settled n caps rows next x past same last =
    subst (λ y. IsSettled n caps y) same (record {
      within = λ j l. subst (λ k. k ≤ caps j) (last.same j l) (last.within j l);
      past = past;
    })

module _ (net : Net) (n : ℕ) (lengths bounds caps : ℕ → ℕ) where
  raise_past : (rows : ℕ → ℕ) (j : ℕ) → n ≤ j → raise net n lengths bounds rows j ≡ 0
  raise_past rows j l = cond-false _ _ _ (le-ltb j n l)

  rest_settled : (more : ℕ) (rows x : ℕ → ℕ) → ((j : ℕ) → n ≤ j → rows j ≡ 0) →
      raises net n lengths bounds caps more rows ≡ Rest x → IsSettled n caps x
  unfolding Rests
  rest_settled zero rows x past e =
      elim (rests n caps rows (raise net n lengths bounds rows) x (λ j.
      Slow j (rows j) (raise net n lengths bounds rows j)) e) [
        | inl at ↦ settled n caps rows (raise net n lengths bounds rows) x past at.0 at.1
        | inr on ↦ (let never : Slow on.0 (rows on.0) (raise net n lengths bounds rows on.0) ≡ Rest x = on.1 in cc)
      ]
  rest_settled (suc more) rows x past e =
      elim (rests n caps rows (raise net n lengths bounds rows) x (λ j.
      raises net n lengths bounds caps more (raise net n lengths bounds rows)) e) [
        | inl at ↦ settled n caps rows (raise net n lengths bounds rows) x past at.0 at.1
        | inr on ↦ rest_settled more (raise net n lengths bounds rows) x (raise_past rows) on.1
      ]

pub least_settled : (net : Net) (n : ℕ) (lengths bounds caps x : ℕ → ℕ) →
    least_by_raises net n lengths bounds caps ≡ Rest x → IsSettled n caps x
least_settled net n lengths bounds caps x e =
    rest_settled net n lengths bounds caps 63 (λ j. 0) x (λ j l. refl) e
