-- In a table whose keys ascend, no key before an entry stands behind it.
use Rattle.std.proofs.Common.{◌≡◌, ℕ, nat_cmp, Ordering, Less, Equal, Greater, Bool, true, ◌&&◌, List, [], ◌∷◌}
use Rattle.std.proofs.Common.{Option, Some, None, IsSome, Result, Err, refl, sym, ap, ◌∙◌, subst, inl, inr, ◌⊎◌}
use Rattle.std.proofs.Common.{is_some}
use Rattle.std.proofs.lemmas.Bool.{cases_Bool, and_parts, false≢true}
use Rattle.std.proofs.lemmas.Cmp.{nat_list_cmp_total}
use Rattle.std.proofs.lemmas.Map.Text.{is_eq-slice_cmp}
use Rattle.std.proofs.lemmas.Slice.Eq.{bytes_eq-Decides}
use Rattle.std.specs.Cmp.{Equal-is}
use Rattle.std.specs.Cmp.Lexicographic.{slice_cmp}
use Rattle.std.specs.List.Sorted.{IsStrictlySortedBy}
use Rattle.std.specs.Map.{keys_of}
use Rattle.std.specs.Ordering.{match_ordering}
use Rattle.std.specs.String.{string_cmp}
use Rattle.toml.specs.Data.{Data, Members, no_members, member, get_member, is_before}
use Rattle.toml.specs.View.{members_view}
use Rattle.toml.proofs.Blanks.{below_from}
use Rattle.toml.proofs.Views.{Entry, is_before-sorted}
use Rattle.fx_keys.specs.Laws.{FirstUnknown, IsFirstUnknown}
use Rattle.fx_keys.specs.Table.{is_known, only_keys}
use Rattle.fx_keys.specs.declared.fault.FilterFault.{FilterFault}
use Rattle.fx_keys.specs.declared.fault.FilterFault.TheVariants.{UnknownKey}

-- the keys ascend by their bytes
abbrev pub ascends : Members → Bool
ascends no_members = true
ascends (member k d ms) = is_before k ms && ascends ms

none_before : (l k : List ℕ) (ms : Members) → slice_cmp nat_cmp l k ≡ Less → is_before k ms ≡ true →
    ascends ms ≡ true → get_member l ms ≡ None
none_before l k no_members a b c = refl
none_before l k (member j d ms) a b c =
    let order = nat_list_cmp_total.trans l k j a (below_from k j b) in
    let (next, more) = and_parts (is_before j ms) (ascends ms) c in
    rw order (none_before l j ms order next more)

-- a key is the same as itself
pub same_itself : (k : List ℕ) → slice_cmp nat_cmp k k ≡ Equal
same_itself k = (Equal-is (slice_cmp nat_cmp k k)).0 (is_eq-slice_cmp k k ∙ (bytes_eq-Decides k k).1 refl)

pub same_bytes : (l j : List ℕ) → slice_cmp nat_cmp l j ≡ Equal → l ≡ j
same_bytes l j e = (bytes_eq-Decides l j).0 (sym (is_eq-slice_cmp l j) ∙ (Equal-is (slice_cmp nat_cmp l j)).1 e)

pub found_later : (o : Ordering) (d : Data) (rest : Option Data) → IsSome rest →
    IsSome (match_ordering o rest (Some d) rest)
found_later Less d rest h = h
found_later Equal d rest h = refl
found_later Greater d rest h = h

pub found_where : (o : Ordering) (d : Data) (rest : Option Data) → IsSome (match_ordering o rest (Some d) rest) →
    (o ≡ Equal) ⊎ IsSome rest
found_where Less d rest h = inr h
found_where Equal d rest h = inl refl
found_where Greater d rest h = inr h

first_unknown : (ms : Members) → ascends ms ≡ true → FirstUnknown ms
unfolding only_keys
first_unknown no_members a known k e = absurd (cc)
first_unknown (member j d ms) a known k e =
    let (next, more) = and_parts (is_before j ms) (ascends ms) a in
    elim (cases_Bool (is_known known j)) [
      | inl yes_known ↦
          let later = first_unknown ms more known k (rw yes_known at e) in
          record {
            there = found_later (slice_cmp nat_cmp k j) d (get_member k ms) later.there;
            unknown = later.unknown;
            first = λ l h b. elim (found_where (slice_cmp nat_cmp l j) d (get_member l ms) h) [
              | inl same ↦ subst (λ i. is_known known i ≡ true) (sym (same_bytes l j same)) yes_known
              | inr rest ↦ later.first l rest b
            ];
          }
      | inr other ↦
          let told : ◌≡◌ {A = Result (Unit {0}) FilterFault} (Err (UnknownKey j)) (Err (UnknownKey k)) =
          rw other at e in
          let same : j ≡ k = cc in
          subst (λ i. IsFirstUnknown known (member j d ms) i) same (record {
            there = rw (same_itself j) refl;
            unknown = other;
            first = λ l h b. absurd (false≢true (ap (λ (o : Option Data).
                is_some o) (sym (none_before l j ms (below_from l j b) next more))
                ∙ (rw (below_from l j b) at h)));
          })
    ]

-- the entries of a map ascend
entries_ascend : (es : List Entry) → IsStrictlySortedBy string_cmp (keys_of es) → ascends (members_view es) ≡ true
unfolding IsStrictlySortedBy
entries_ascend [] h = refl
entries_ascend (e ∷ es) h = rw (is_before-sorted e.0 es h.0, entries_ascend es h.1) refl

pub tables_told : (es : List Entry) → IsStrictlySortedBy string_cmp (keys_of es) → FirstUnknown (members_view es)
tables_told es h = first_unknown (members_view es) (entries_ascend es h)
