-- Whole numbers, alone and in lists, are read exactly where a table holds them.
use Rattle.std.proofs.Common.{◌≡◌, ◌≤◌, ◌∙◌, ℕ, suc, ℤ, pos, negsuc, ◌≤ℤ◌}
use Rattle.std.proofs.Common.{unsigned_abs, Bool, true, false, List, [], ◌∷◌, length, Option, Some, None}
use Rattle.std.proofs.Common.{Result, Ok, Err, refl, ap, subst, arith, inl, inr}
use Rattle.std.specs.Prelude.{MatchOption, nat_lt, nat_le, T, not}
use Rattle.std.specs.Int.Signed.{lt_z, lt_z_yes, lt_z_no}
use Rattle.std.specs.Option.{option_map_or}
use Rattle.std.proofs.lemmas.Bool.{cases_Bool}
use Rattle.std.proofs.lemmas.Bool.Decides.{nat_tests}
use Rattle.std.proofs.lemmas.Int.{ints}
use Rattle.toml.specs.Data.{Data, Members, Items, no_items, item, as_integer, as_array}
use Rattle.fx_math.specs.Faults.{or_fault}
use Rattle.fx_keys.specs.Entries.{list_at, item_count, some, at_most}
use Rattle.fx_files.specs.Holds.{value_at, Each, CountFits, HoldsInteger, HoldsWhole, HoldsNatural}
use Rattle.fx_files.specs.Holds.{IsNaturalOf, AreNaturals, HoldsNaturals}
use Rattle.fx_keys.specs.Keys.{IsWithin, range_of, most_of, default_of, default_list_of}
use Rattle.fx_keys.specs.Wholes.{integer_at, integer_or, ranged, whole_or, whole_in, natural_in, all_whole}
use Rattle.fx_keys.specs.Wholes.{natural_at, each_natural, naturals, naturals_in}
use Rattle.fx_keys.specs.declared.fault.FilterFault.{FilterFault}
use Rattle.fx_keys.specs.declared.fault.FilterFault.TheVariants.{Missing, WrongKind, Limit}
use Rattle.fx_keys.specs.declared.key.Key.{Key}
use Rattle.fx_keys.specs.declared.limits.Range.{Range}
use Rattle.fx_files.proofs.Steps.{and_some, bind_ok, bind_stands, fault_ok, ok_stands, same_ok, some_and, unless_ok}

-- ---- whole numbers

integer_here : (k : Key) (default : Option ℤ) (o : Option Data) (z : ℤ) →
    option_map_or (integer_at k) o (or_fault (Missing k) default) ≡ Ok z →
    MatchOption o (default ≡ Some z) (λ v. as_integer v ≡ Some z)
integer_here k default None z h = fault_ok (Missing k) default z h
integer_here k default (Some v) z h = fault_ok (WrongKind k) (as_integer v) z h

here_integer : (k : Key) (default : Option ℤ) (o : Option Data) (z : ℤ) →
    MatchOption o (default ≡ Some z) (λ v. as_integer v ≡ Some z) →
    option_map_or (integer_at k) o (or_fault (Missing k) default) ≡ Ok z
here_integer k default None z h = ok_stands (Missing k) default z h
here_integer k default (Some v) z h = ok_stands (WrongKind k) (as_integer v) z h

pub integer_read : (k : Key) (default : Option ℤ) (t : Members) (z : ℤ) → integer_or k default t ≡ Ok z →
    HoldsInteger k default t z
integer_read k default t z h = integer_here k default (value_at k t) z h

pub integer_stands : (k : Key) (default : Option ℤ) (t : Members) (z : ℤ) → HoldsInteger k default t z →
    integer_or k default t ≡ Ok z
integer_stands k default t z h = here_integer k default (value_at k t) z h

pub sure_no : (b : Bool) → b ≡ false → T (not b)
sure_no true h = absurd cc
sure_no false h = tt

pub sure_yes : (b : Bool) → b ≡ true → T b
sure_yes true h = tt
sure_yes false h = absurd cc

pub ranged_read : (k : Key) (range : Range) (z x : ℤ) → ranged k range z ≡ Ok x → (z ≡ x) × IsWithin range z
ranged_read k range z x h = elim (cases_Bool (lt_z z range.low)) [
  | inl below ↦ absurd (let e : ◌≡◌ {A = Result ℤ FilterFault} (Err (Limit k z range.low)) (Ok x) = rw below at h in cc)
  | inr low ↦ elim (cases_Bool (lt_z range.high z)) [
    | inl above ↦ absurd (let e : ◌≡◌ {A = Result ℤ FilterFault} (Err (Limit k z range.high)) (Ok x) =
        rw (low, above) at h in cc)
    | inr high ↦
        let e : ◌≡◌ {A = Result ℤ FilterFault} (Ok z) (Ok x) = rw (low, high) at h in
        (same_ok z x e, (lt_z_no (sure_no (lt_z z range.low) low), lt_z_no (sure_no (lt_z range.high z) high)))
  ]
]

pub not_below : (a b : ℤ) → a ≤ℤ b → lt_z b a ≡ false
not_below a b h = elim (cases_Bool (lt_z b a)) [
  | inl below ↦ absurd (let less = lt_z_yes {a = b} {b = a} (sure_yes (lt_z b a) below) in omega (arith, ints))
  | inr other ↦ other
]

pub ranged_stands : (k : Key) (range : Range) (z : ℤ) → IsWithin range z → ranged k range z ≡ Ok z
ranged_stands k range z h = rw (not_below range.low z h.0, not_below z range.high h.1) refl

pub whole_read : (k : Key) (range : Range) (default : Option ℤ) (t : Members) (z : ℤ) →
    whole_or k range default t ≡ Ok z → HoldsWhole k range default t z
whole_read k range default t z h =
    let (x, number, in_range) = bind_ok (integer_or k default t) (ranged k range) z h in
    let (same, within) = ranged_read k range x z in_range in
    subst (HoldsWhole k range default t) same (record { number = integer_read k default t x number; within = within })

pub whole_stands : (k : Key) (range : Range) (default : Option ℤ) (t : Members) (z : ℤ) →
    HoldsWhole k range default t z → whole_or k range default t ≡ Ok z
whole_stands k range default t z h =
    bind_stands (integer_or k default t) (ranged k range) z z (integer_stands k default t z h.number)
    (ranged_stands k range z h.within)

-- a number that is not below 0 is its magnitude
magnitude : (z : ℤ) (n : ℕ) → pos 0 ≤ℤ z → unsigned_abs z ≡ n → z ≡ pos n
magnitude (pos m) n h e = ap pos e
magnitude (negsuc m) n h e = absurd (omega (arith, ints))

pub natural_read : (k : Key) (t : Members) (n : ℕ) → pos 0 ≤ℤ (range_of k).low → natural_in k t ≡ Ok n →
    HoldsNatural k t n
natural_read k t n low h =
    let (z, whole, same) = bind_ok (whole_in k t) (λ z. Ok (unsigned_abs z)) n h in
    let held = whole_read k (range_of k) (default_of k) t z whole in
    let within = held.within in
    let above : pos 0 ≤ℤ z = omega (arith, ints, within.0) in
    subst (HoldsWhole k (range_of k) (default_of k) t) (magnitude z n above (same_ok (unsigned_abs z) n same)) held

pub natural_stands : (k : Key) (t : Members) (n : ℕ) → HoldsNatural k t n → natural_in k t ≡ Ok n
natural_stands k t n h = rw (whole_stands k (range_of k) (default_of k) t (pos n) h) refl

-- ---- lists of whole numbers

pub count_of : {A : Type 0} (says : A → Data → Type 0) (xs : List A) (vs : Items) → Each says xs vs →
    item_count vs ≡ length xs
unfolding item_count
count_of says [] no_items h = refl
count_of says [] (item v vs) h = absurd h
count_of says (x ∷ xs) no_items h = absurd h
count_of says (x ∷ xs) (item v vs) h = ap suc (count_of says xs vs h.1)

pub count_read : (k : Key) (n : ℕ) → nat_lt 0 n ≡ true → nat_le n (most_of k) ≡ true → CountFits k n
count_read k n a b = record { some = grind (arith, nat_tests); few = grind (arith, nat_tests) }

pub some_test : (n : ℕ) → 1 ≤ n → nat_lt 0 n ≡ true
some_test n h = grind (arith, nat_tests)

pub few_test : (n m : ℕ) → n ≤ m → nat_le n m ≡ true
few_test n m h = grind (arith, nat_tests)

number_read : (k : Key) (v : Data) (n : ℕ) → pos 0 ≤ℤ (range_of k).low → natural_at k v ≡ Ok n → IsNaturalOf k n v
number_read k v n low h =
    let (z, number, rest) = bind_ok (integer_at k v) _ n h in
    let (x, in_range, same) = bind_ok (ranged k (range_of k) z) (λ x. Ok (unsigned_abs x)) n rest in
    let (e, within) = ranged_read k (range_of k) z x in_range in
    let above : pos 0 ≤ℤ z = omega (arith, ints, within.0) in
    let is : z ≡ pos n = magnitude z n above (rw e (same_ok (unsigned_abs x) n same)) in
    record {
      number = fault_ok (WrongKind k) (as_integer v) z number ∙ ap (λ (y : ℤ). Some y) is;
      within =
          subst (λ (y : ℤ). IsWithin (range_of k) y) is within;
    }

number_stands : (k : Key) (v : Data) (n : ℕ) → IsNaturalOf k n v → natural_at k v ≡ Ok n
number_stands k v n h = rw (
  ok_stands (WrongKind k) (as_integer v) (pos n) h.number,
  ranged_stands k (range_of k) (pos n) h.within,
) refl

naturals_entries : (k : Key) (vs : Items) (ns : List ℕ) → pos 0 ≤ℤ (range_of k).low →
    each_natural k vs ≡ Ok ns → Each (IsNaturalOf k) ns vs
unfolding each_natural
naturals_entries k no_items ns low h = subst (λ (xs : List ℕ). Each (IsNaturalOf k) xs no_items) (same_ok [] ns h) tt
naturals_entries k (item v vs) ns low h =
    let (n, first, rest) = bind_ok (natural_at k v) _ ns h in
    let (ms, others, same) = bind_ok (each_natural k vs) _ ns rest in
    subst (λ (xs : List ℕ). Each (IsNaturalOf k) xs (item v vs)) (same_ok (n ∷ ms) ns same)
    (number_read k v n low first, naturals_entries k vs ms low others)

entries_naturals : (k : Key) (vs : Items) (ns : List ℕ) → Each (IsNaturalOf k) ns vs → each_natural k vs ≡ Ok ns
unfolding each_natural
entries_naturals k no_items [] h = refl
entries_naturals k (item v vs) [] h = absurd h
entries_naturals k no_items (n ∷ ns) h = absurd h
entries_naturals k (item v vs) (n ∷ ns) h = rw (number_stands k v n h.0, entries_naturals k vs ns h.1) refl

entries_whole : (k : Key) (vs : Items) (ns : List ℕ) → Each (IsNaturalOf k) ns vs → all_whole k vs ≡ Ok tt
unfolding all_whole
entries_whole k no_items [] h = refl
entries_whole k (item v vs) [] h = absurd h
entries_whole k no_items (n ∷ ns) h = absurd h
entries_whole k (item v vs) (n ∷ ns) h = let number = h.0.number in rw number (entries_whole k vs ns h.1)

list_read : (k : Key) (v : Data) (ns : List ℕ) → pos 0 ≤ℤ (range_of k).low → naturals k v ≡ Ok ns → AreNaturals k ns v
unfolding naturals
list_read k v ns low h =
    let (vs, list, past_list) = bind_ok (list_at k v) _ ns h in
    let (u1, whole, past_whole) = bind_ok (all_whole k vs) _ ns past_list in
    let (u2, any, past_any) = bind_ok (some k vs) _ ns past_whole in
    let (u3, few, past_few) = bind_ok (at_most k vs) _ ns past_any in
    let each = naturals_entries k vs ns low past_few in
    record {
      entries = and_some (as_array v) (Each (IsNaturalOf k) ns) vs (fault_ok (WrongKind k) (as_array v) vs list) each;
      count = subst (CountFits k) (count_of (IsNaturalOf k) ns vs each)
          (count_read k (item_count vs) (unless_ok _ _ u2 any) (unless_ok _ _ u3 few));
    }

list_stands : (k : Key) (v : Data) (ns : List ℕ) → AreNaturals k ns v → naturals k v ≡ Ok ns
unfolding naturals
list_stands k v ns h =
    let (vs, list, each) = some_and (as_array v) (Each (IsNaturalOf k) ns) h.entries in
    rw (
      ok_stands (WrongKind k) (as_array v) vs list,
      entries_whole k vs ns each,
      count_of (IsNaturalOf k) ns vs each,
      some_test (length ns) h.count.some,
      few_test (length ns) (most_of k) h.count.few,
    ) (entries_naturals k vs ns each)

naturals_here : (k : Key) (o : Option Data) (ns : List ℕ) → pos 0 ≤ℤ (range_of k).low →
    option_map_or (naturals k) o (or_fault (Missing k) (default_list_of k)) ≡ Ok ns →
    MatchOption o (default_list_of k ≡ Some ns) (AreNaturals k ns)
naturals_here k None ns low h = fault_ok (Missing k) (default_list_of k) ns h
naturals_here k (Some v) ns low h = list_read k v ns low h

here_naturals : (k : Key) (o : Option Data) (ns : List ℕ) →
    MatchOption o (default_list_of k ≡ Some ns) (AreNaturals k ns) →
    option_map_or (naturals k) o (or_fault (Missing k) (default_list_of k)) ≡ Ok ns
here_naturals k None ns h = ok_stands (Missing k) (default_list_of k) ns h
here_naturals k (Some v) ns h = list_stands k v ns h

pub naturals_read : (k : Key) (t : Members) (ns : List ℕ) → pos 0 ≤ℤ (range_of k).low →
    naturals_in k t ≡ Ok ns → HoldsNaturals k t ns
naturals_read k t ns low h = naturals_here k (value_at k t) ns low h

pub naturals_stand : (k : Key) (t : Members) (ns : List ℕ) → HoldsNaturals k t ns → naturals_in k t ≡ Ok ns
naturals_stand k t ns h = here_naturals k (value_at k t) ns h
