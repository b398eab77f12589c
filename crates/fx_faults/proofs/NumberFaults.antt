-- What is told of whole numbers, alone and in lists, is true.
use Rattle.std.proofs.Common.{◌≡◌, ◌≢◌, ◌≤◌, ◌∙◌, ℕ, suc, ℤ}
use Rattle.std.proofs.Common.{Option, Some, None}
use Rattle.std.proofs.Common.{Result, Ok, Err, refl, sym, ap, subst, arith, inl, inr, ◌⊎◌}
use Rattle.std.specs.Prelude.{IsSome, MatchOption, flat_map, slice_get}
use Rattle.std.specs.Int.Signed.{lt_z, lt_z_yes}
use Rattle.std.specs.Option.{option_map_or}
use Rattle.std.proofs.lemmas.Bool.{cases_Bool}
use Rattle.std.proofs.lemmas.Int.{ints}
use Rattle.toml.specs.Data.{Data, Members, Items, no_items, item, integer, get_item, as_integer, as_array}
use Rattle.fx_math.specs.Faults.{or_fault}
use Rattle.fx_keys.specs.Entries.{list_at, some, at_most}
use Rattle.fx_keys.specs.Keys.{IsWithin, parent_of, range_of, most_of, default_of, default_list_of}
use Rattle.fx_keys.specs.Wholes.{integer_at, integer_or, ranged, whole_or, whole_in, natural_in, all_whole, natural_at}
use Rattle.fx_keys.specs.Wholes.{each_natural, naturals, naturals_in}
use Rattle.fx_keys.specs.declared.fault.FilterFault.{FilterFault}
use Rattle.fx_keys.specs.declared.fault.FilterFault.TheVariants.{Missing, WrongKind, Limit}
use Rattle.fx_keys.specs.declared.key.Key.{Key}
use Rattle.fx_keys.specs.declared.key.Key.TheVariants as key
use Rattle.fx_keys.specs.declared.limits.Range.{Range}
use Rattle.fx_files.specs.Holds.{value_at, HoldsInteger}
use Rattle.fx_files.proofs.Steps.{fault_ok, fault_err, in_step}
use Rattle.fx_files.proofs.HeldNumbers.{sure_yes, integer_read}
use Rattle.fx_files.proofs.HeldNumerals.{IsListed}
use Rattle.fx_faults.specs.Kinds as kind
use Rattle.fx_faults.specs.Kinds.{Kind, ListOf, kind_of, HasKind, IsOfWholes, entries_of, listed}
use Rattle.fx_faults.specs.Places.{IsTableAt}
use Rattle.fx_faults.specs.Faults.{IsRequired, IsPast, IsRangeOf, IsOutOfRange, IsPastLimit}
use Rattle.fx_faults.specs.Faults.{IsTrueOf}
use Rattle.fx_faults.proofs.Listed.{is_array, is_integer, is_nothing, other_whole}
use Rattle.fx_faults.proofs.Listed.{whole_stands}
use Rattle.fx_faults.proofs.KeyFaults.{kind_true, some_true, IsListKey, count_at}
use Rattle.fx_faults.proofs.KeyFaults.{most_true, list_true, entry_true}

-- ---- alone

integer_fault : {W : Type 0} (k : Key) (default : Option ℤ) (o : Option Data) (f : FilterFault) →
    option_map_or (integer_at k) o (or_fault (Missing k) default) ≡ Err f →
    (o ≡ None → default ≡ None → Missing k ≡ f → W) →
    ((v : Data) → o ≡ Some v → as_integer v ≡ None → WrongKind k ≡ f → W) → W
integer_fault k default None f h absent other =
    let (none, e) = fault_err (Missing k) f default h in absent refl none e
integer_fault k default (Some v) f h absent other =
    let (none, e) = fault_err (WrongKind k) f (as_integer v) h in other v refl none e

ranged_fault : {W : Type 0} (k : Key) (range : Range) (z : ℤ) (f : FilterFault) → ranged k range z ≡ Err f →
    ((limit : ℤ) → IsPast range z limit → Limit k z limit ≡ f → W) → W
ranged_fault k range z f h past = elim (cases_Bool (lt_z z range.low)) [
  | inl below ↦
      let e : ◌≡◌ {A = Result ℤ FilterFault} (Err (Limit k z range.low)) (Err f) = rw below at h in
      past range.low (inl (lt_z_yes {a = z} {b = range.low} (sure_yes (lt_z z range.low) below), refl)) cc
  | inr not_below ↦ elim (cases_Bool (lt_z range.high z)) [
    | inl above ↦
        let e : ◌≡◌ {A = Result ℤ FilterFault} (Err (Limit k z range.high)) (Err f) = rw (not_below, above) at h in
        past range.high (inr (lt_z_yes {a = range.high} {b = z} (sure_yes (lt_z range.high z) above), refl)) cc
    | inr within ↦ absurd (let e : ◌≡◌ {A = Result ℤ FilterFault} (Ok z) (Err f) = rw (not_below, within) at h in cc)
  ]
]

pub not_past : (range : Range) (z limit : ℤ) → IsWithin range z → ¬ IsPast range z limit
not_past range z limit within (inl below) =
    let low = within.0 in let b = below.0 in absurd (omega (arith, ints))
not_past range z limit within (inr above) =
    let high = within.1 in let b = above.0 in absurd (omega (arith, ints))

-- what is said of a key at which a whole number stands in this table
pub record IsNumberKey (file : Members) (k : Key) (place : ℕ) (owner : Members) (default : Option ℤ)
    (range : Range) : Type 0 where
  pub stands : IsTableAt (parent_of k) place file owner
  pub is : kind_of k ≡ kind.Whole
  pub required : default ≡ None → IsRequired file k
  pub fits : (z : ℤ) → default ≡ Some z → IsWithin range z
  pub ranged : IsRangeOf k owner range
  pub past : (got limit : ℤ) → IsOutOfRange file k got limit → IsPastLimit file k got limit

pub integer_true : (file : Members) (k : Key) (place : ℕ) (owner : Members) (default : Option ℤ) (f : FilterFault) →
    IsTableAt (parent_of k) place file owner → kind_of k ≡ kind.Whole → (default ≡ None → IsRequired file k) →
    integer_or k default owner ≡ Err f → IsTrueOf file f
integer_true file k place owner default f stands is required h =
    integer_fault k default (value_at k owner) f h
    (λ absent none e. subst (IsTrueOf file) e
    (record { required = required none; place = place; owner = owner; stands = stands; absent = absent }))
    (λ v there none e. kind_true file k kind.Whole place v f
    (record { owner = owner; stands = stands; held = there }) is (is_nothing (as_integer v) none) e)

pub there_or_default : (o : Option Data) (default : Option ℤ) (z : ℤ) →
    MatchOption o (default ≡ Some z) (λ v. as_integer v ≡ Some z) →
    (default ≡ Some z) ⊎ ((v : Data) × (o ≡ Some v) × (as_integer v ≡ Some z))
there_or_default None default z h = inl h
there_or_default (Some v) default z h = inr (v, refl, h)

out_of_range : (file : Members) (k : Key) (place : ℕ) (owner : Members) (default : Option ℤ) (range : Range)
    (z limit : ℤ) → IsNumberKey file k place owner default range → HoldsInteger k default owner z →
    IsPast range z limit → IsPastLimit file k z limit
out_of_range file k place owner default range z limit of held past =
    elim (there_or_default (value_at k owner) default z held) [
      | inl none ↦ absurd (not_past range z limit (of.fits z none) past)
      | inr (v, there, is) ↦ of.past z limit (record {
        whole = subst IsOfWholes (sym of.is) tt;
        place = place;
        value = v;
        held = record { owner = owner; stands = of.stands; held = there };
        entry = 0;
        among = subst (λ (kd : Kind). slice_get (entries_of kd v) 0 ≡ Some (integer z)) (sym of.is)
            (ap (λ (x : Data). Some x) (is_integer v z is));
        range = range;
        ranged = of.ranged;
        past = past;
      })
    ]

pub whole_true : (file : Members) (k : Key) (place : ℕ) (owner : Members) (default : Option ℤ) (range : Range)
    (f : FilterFault) → IsNumberKey file k place owner default range → whole_or k range default owner ≡ Err f →
    IsTrueOf file f
whole_true file k place owner default range f of h =
    in_step (integer_or k default owner) _ f h (integer_true file k place owner default f of.stands of.is of.required)
    (λ z number past_number. ranged_fault k range z f past_number (λ limit past e.
    subst (IsTrueOf file) e
    (out_of_range file k place owner default range z limit of (integer_read k default owner z number) past)))

pub natural_true : (file : Members) (k : Key) (place : ℕ) (owner : Members) (f : FilterFault) →
    IsNumberKey file k place owner (default_of k) (range_of k) → natural_in k owner ≡ Err f → IsTrueOf file f
natural_true file k place owner f of h =
    in_step (whole_in k owner) _ f h (whole_true file k place owner (default_of k) (range_of k) f of)
    (λ z number past_number. absurd cc)

-- ---- in lists

natural_fault : {W : Type 0} (k : Key) (v : Data) (f : FilterFault) → natural_at k v ≡ Err f →
    (as_integer v ≡ None → WrongKind k ≡ f → W) →
    ((z limit : ℤ) → as_integer v ≡ Some z → IsPast (range_of k) z limit → Limit k z limit ≡ f → W) → W
natural_fault k v f h other past =
    in_step (integer_at k v) _ f h
    (λ wrong. let (none, e) = fault_err (WrongKind k) f (as_integer v) wrong in other none e)
    (λ z number past_number. in_step (ranged k (range_of k) z) _ f past_number
    (λ wrong. ranged_fault k (range_of k) z f wrong (λ limit out e.
    past z limit (fault_ok (WrongKind k) (as_integer v) z number) out e))
    (λ x within past_within. absurd cc))

naturals_fault : {W : Type 0} (k : Key) (vs : Items) (f : FilterFault) → each_natural k vs ≡ Err f →
    ((n : ℕ) (x : Data) → get_item n vs ≡ Some x → ¬ HasKind kind.Whole x → WrongKind k ≡ f → W) →
    ((n : ℕ) (z limit : ℤ) → get_item n vs ≡ Some (integer z) → IsPast (range_of k) z limit →
    Limit k z limit ≡ f → W) → W
unfolding each_natural
naturals_fault k no_items f h other past = absurd cc
naturals_fault k (item v vs) f h other past =
    in_step (natural_at k v) _ f h
    (λ wrong. natural_fault k v f wrong (λ none e. other 0 v refl (is_nothing (as_integer v) none) e)
    (λ z limit is out e. past 0 z limit (ap (λ (x : Data). Some x) (is_integer v z is)) out e))
    (λ n first past_first. in_step (each_natural k vs) _ f past_first
    (λ wrong. naturals_fault k vs f wrong (λ n x there. other (suc n) x there)
    (λ n z limit there. past (suc n) z limit there))
    (λ ns others past_others. absurd cc))

-- what is said of a key at which a list of whole numbers stands, or its default
pub record IsNumbersKey (file : Members) (k : Key) : Type 0 where
  pub list : IsListKey file k kind.Whole
  pub other : k ≢ key.K
  pub limited : 1 ≤ most_of k
  pub defaulted : IsSome (default_list_of k)
  pub ranged : IsRangeOf k file (range_of k)

list_of_numbers : (file : Members) (k : Key) (v : Data) (f : FilterFault) → IsNumbersKey file k →
    value_at k file ≡ Some v → naturals k v ≡ Err f → IsTrueOf file f
unfolding naturals
list_of_numbers file k v f of there h =
    in_step (list_at k v) _ f h (list_true file k kind.Whole v f of.list there)
    (λ vs got past_got.
    let list : IsListed k file vs =
    record { value = v; there = there; list = fault_ok (WrongKind k) (as_array v) vs got } in
    in_step (all_whole k vs) _ f past_got
    (λ wrong. other_whole k vs f wrong (λ n x at other e.
    entry_true file k kind.Whole vs n x f of.list list at other e))
    (λ u all past_all. in_step (some k vs) _ f past_all (some_true file k vs f of.other (count_at file k vs list))
    (λ u any past_any. in_step (at_most k vs) _ f past_any (most_true file k kind.Whole vs f of.list list of.limited)
    (λ u few past_few. naturals_fault k vs f past_few
    (λ n x at other e. entry_true file k kind.Whole vs n x f of.list list at other e)
    (λ n z limit at past e.
    let value : entries_of (kind_of k) v ≡ flat_map (entries_of kind.Whole) (listed vs) =
    ap (λ (kd : Kind). entries_of kd v) of.list.is
    ∙ ap (λ (x : Data). entries_of (ListOf kind.Whole) x) (is_array v vs list.list) in
    subst (IsTrueOf file) e (of.list.past z limit (inl (record {
      whole = subst IsOfWholes (sym of.list.is) tt;
      place = 0;
      value = v;
      held = record {
        owner = file;
        stands = subst (λ (p : Option Key). IsTableAt p 0 file file) (sym of.list.own) refl;
        held = there;
      };
      entry = n;
      among = rw value (whole_stands n vs (integer z) at);
      range = range_of k;
      ranged = of.ranged;
      past = past;
    }))))))))

numbers_here : (file : Members) (k : Key) (o : Option Data) (f : FilterFault) → IsNumbersKey file k →
    value_at k file ≡ o → option_map_or (naturals k) o (or_fault (Missing k) (default_list_of k)) ≡ Err f →
    IsTrueOf file f
numbers_here file k None f of there h =
    let (none, e) = fault_err (Missing k) f (default_list_of k) h in
    absurd (is_nothing (default_list_of k) none of.defaulted)
numbers_here file k (Some v) f of there h = list_of_numbers file k v f of there h

pub numbers_true : (file : Members) (k : Key) (f : FilterFault) → IsNumbersKey file k → naturals_in k file ≡ Err f →
    IsTrueOf file f
numbers_true file k f of h = numbers_here file k (value_at k file) f of refl h
