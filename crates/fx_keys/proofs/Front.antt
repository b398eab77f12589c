-- Reading one entry after the other, as a loop does.
use Rattle.std.proofs.Common.{◌≡◌, ◌++◌, List, Result, Ok, Err, refl, ap, ℕ, suc, [], ◌∷◌, length}
use Rattle.toml.specs.declared.value.Value.{Value}
use Rattle.toml.specs.View.{items_view}
use Rattle.fx_keys.specs.Entries.{item_count}
use Rattle.fx_keys.specs.declared.fault.FilterFault.{FilterFault}

-- what was read before, and what is still read
abbrev pub with_front : {A : Type 0} → List A → Result (List A) FilterFault → Result (List A) FilterFault
with_front front (Ok xs) = Ok (front ++ xs)
with_front front (Err f) = Err f

pub item_count-view : (vs : List Value) → length vs ≡ item_count (items_view vs)
unfolding item_count
item_count-view [] = refl
item_count-view (v ∷ vs) = ap (λ (n : ℕ). suc n) (item_count-view vs)
