-- A sum of scaled terms, one term further.
use Rattle.std.proofs.Common.{◌≡◌, ℕ, ◌+◌, ◌<◌, ℤ, pos, ◌+ℤ◌, ◌*ℤ◌, unsigned_abs, Bool, true, false, ◌||◌}
use Rattle.std.proofs.Common.{refl, List, length, drop, slice_index_or, arith}
use Rattle.std.specs.List.{list_any}
use Rattle.std.proofs.lemmas.Int.{unsigned_abs-mul}
use Rattle.std.proofs.lemmas.List.{at_drop_more}
use Rattle.fx_machine.specs.Prepared.{word_in, scaled_sum, later_sums, magnitudes, is_outside}
use Rattle.fx_machine.specs.declared.prepared.ScaledTerm.{ScaledTerm}

abbrev pub term_at : List ScaledTerm → ℕ → ScaledTerm
term_at terms i = slice_index_or terms i (record { multiplier = pos 0; place = 0 })

abbrev pub product_at : List ℤ → List ScaledTerm → ℕ → ℤ
product_at words terms i = (term_at terms i).multiplier *ℤ word_in words (term_at terms i).place

pub sum_further : (words : List ℤ) (terms : List ScaledTerm) (i : ℕ) → i < length terms →
    scaled_sum words (drop i terms) ≡ product_at words terms i +ℤ scaled_sum words (drop (i + 1) terms)
sum_further words terms i h = at_drop_more (scaled_sum words) terms i (record { multiplier = pos 0; place = 0 }) h

pub reach_further : (words : List ℤ) (terms : List ScaledTerm) (i : ℕ) → i < length terms →
    magnitudes words (drop i terms) ≡ unsigned_abs (product_at words terms i)
    + magnitudes words (drop (i + 1) terms)
reach_further words terms i h =
    let t = term_at terms i in
    let e = at_drop_more (magnitudes words) terms i (record { multiplier = pos 0; place = 0 }) h in
    omega (arith, e, unsigned_abs-mul t.multiplier (word_in words t.place))

pub watched_further : (bits : ℕ) (sum : ℤ) (words : List ℤ) (terms : List ScaledTerm) (i : ℕ) →
    i < length terms → list_any (is_outside bits) (later_sums sum words (drop i terms))
    ≡ (is_outside bits (sum +ℤ product_at words terms i)
    || list_any (is_outside bits) (later_sums (sum +ℤ product_at words terms i) words (drop (i + 1) terms)))
watched_further bits sum words terms i h =
    at_drop_more (λ ts. list_any (is_outside bits) (later_sums sum words ts)) terms i
    (record { multiplier = pos 0; place = 0 }) h

or_assoc : (a b c : Bool) → ((a || b) || c) ≡ (a || (b || c))
or_assoc true b c = refl
or_assoc false b c = refl

pub watched_step : (bits : ℕ) (words : List ℤ) (terms : List ScaledTerm) (i : ℕ) (sum next : ℤ)
    (left outside whole : Bool) → i < length terms → next ≡ sum +ℤ product_at words terms i →
    outside ≡ is_outside bits next → (left || list_any (is_outside bits) (later_sums sum words (drop i terms)))
    ≡ whole → ((left || outside) || list_any (is_outside bits) (later_sums next words (drop (i + 1) terms)))
    ≡ whole
watched_step bits words terms i sum next left outside whole h n o e =
    rw (or_assoc, o, n) (rw (watched_further bits sum words terms i h) at e)
