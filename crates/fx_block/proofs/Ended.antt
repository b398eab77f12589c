-- What an answer says of the bounds that raises find.
use Rattle.std.proofs.Common.{◌≡◌, ℕ, ◌<◌, ◌≤◌, sym, ◌∙◌, ap, true, false, List, arith, refl}
use Rattle.fx_net.specs.Net.{Net}
use Rattle.fx_sweep.specs.declared.target.Target.{Target}
use Rattle.fx_totals.specs.Filled.{Filled, length_in}
use Rattle.fx_totals.specs.Kept.{Kept}
use Rattle.fx_block.specs.Least.{AllServe, AreLeastBounds}
use Rattle.fx_block.specs.Raising.{OverHasNone, Raises, RestIsLeast, least_by_raises}
use Rattle.fx_block.specs.Raising.Raises.{Rest, Over, Slow}
use Rattle.fx_block.specs.Told.{Tells, is_over}
use Rattle.fx_block.specs.declared.least.Least.{Least}
use Rattle.fx_block.specs.declared.least.Least.TheVariants.{Rest as ToldRest, Over as ToldOver, Slow as ToldSlow}

-- an answer of rest tells rest with these bounds
rest_told : (end : Raises) (least : Least) (x : ℕ → ℕ) → Tells end least x → least ≡ ToldRest → end ≡ Rest x
rest_told (Rest rows) least x told is = ap Rest (sym told.1)
rest_told (Over row value cap) least x told is = (let never : ToldRest ≡ ToldOver row _ _ = sym is ∙ told in cc)
rest_told (Slow row before after) least x told is = (let never : ToldRest ≡ ToldSlow row _ _ = sym is ∙ told in cc)

-- an answer of a passed cap tells one
over_told : (end : Raises) (least : Least) (x : ℕ → ℕ) → Tells end least x → is_over least ≡ true →
    (ended : (row value cap : ℕ) → end ≡ Over row value cap → ⊥) → ⊥
over_told (Rest rows) least x told is ended = (let never : true ≡ false = sym is ∙ ap is_over told.0 in cc)
over_told (Over row value cap) least x told is ended = ended row value cap refl
over_told (Slow row before after) least x told is ended = (let never : true ≡ false = sym is ∙ ap is_over told in cc)

-- the rows of filled totals are rows of their net, each swept for some moments
some_each : (k : Kept) (net : Net) (targets : List Target) (lengths : List ℕ) → Filled k net targets lengths →
    (j : ℕ) → j < k.leading → 0 < length_in lengths j
some_each k net targets lengths filled j l = filled.some j (omega (arith, l, filled.leading.inside))

pub found_least : RestIsLeast → (k : Kept) (net : Net) (targets : List Target) (lengths : List ℕ)
    (bounds caps x : ℕ → ℕ) (least : Least) → Filled k net targets lengths → k.leading ≤ k.size →
    Tells (least_by_raises net k.leading (length_in lengths) bounds caps) least x → least ≡ ToldRest →
    AreLeastBounds net k.leading (length_in lengths) bounds x
found_least law k net targets lengths bounds caps x least filled inside told is =
    law net k.leading (length_in lengths) bounds caps x (omega (arith, filled.size, inside))
    (some_each k net targets lengths filled) (rest_told _ least x told is)

pub found_none : OverHasNone → (k : Kept) (net : Net) (targets : List Target) (lengths : List ℕ)
    (bounds caps x others : ℕ → ℕ) (least : Least) → Filled k net targets lengths → k.leading ≤ k.size →
    Tells (least_by_raises net k.leading (length_in lengths) bounds caps) least x → is_over least ≡ true →
    AllServe net k.leading (length_in lengths) bounds others →
    ((j : ℕ) → j < k.leading → others j ≤ caps j) → ⊥
found_none law k net targets lengths bounds caps x others least filled inside told is serve within =
    over_told _ least x told is (λ row value cap e.
    law net k.leading (length_in lengths) bounds caps others row value cap (omega (arith, filled.size, inside)) e serve
    within)
