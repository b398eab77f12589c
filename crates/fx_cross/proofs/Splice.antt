-- A place put into its line, and one taken out of it.
use Rattle.std.proofs.Common.{◌≡◌, ℕ, zero, suc, ◌+◌, ◌<◌, ◌≤◌, ◌⊎◌, refl, sym, ◌∙◌, ap, subst, inl, inr, arith}
use Rattle.std.proofs.lemmas.Bool.{cases_lt, cases_eq}
use Rattle.fx_cross.specs.Lines.{IsFirst, source, AreLinked, IsLead}

-- no place stands at b or after it and before k
pub record IsGap (end : ℕ) (line : ℕ → ℕ) (b k : ℕ) : Type 0 where
  pub order : b ≤ k
  pub none : (m : ℕ) → b ≤ m → m < k → line m ≡ end

-- q leads to what stands at b or after it in line l, and nothing else is q
pub record IsSource (end lines : ℕ) (head : ℕ → ℕ) (place : ℕ → ℕ → ℕ) (l b q : ℕ) : Type 0 where
  pub line : l < lines
  pub is : source head place l b ≡ q
  pub some : q ≡ end → ⊥
  pub only : (l' b' : ℕ) → l' < lines → source head place l' b' ≡ q → (l' ≡ l) × (b' ≡ b)

-- one place changes
pub record IsPut (l k p : ℕ) (place place' : ℕ → ℕ → ℕ) : Type 0 where
  pub here : place' l k ≡ p
  pub line : (m : ℕ) → (m ≡ k → ⊥) → place' l m ≡ place l m
  pub others : (l' m : ℕ) → (l' ≡ l → ⊥) → place' l' m ≡ place l' m

-- where the line is the same up to the key, and the key too, the first place is the same
same_first : (end : ℕ) (key key' line line' : ℕ → ℕ) (from r : ℕ) → IsFirst end key line from r →
    key' r ≡ key r → ((m : ℕ) → from ≤ m → m ≤ key r → line' m ≡ line m) → IsFirst end key' line' from r
same_first end key key' line line' from r f e same = record {
  reached = omega (arith, f.reached, e);
  stands = ap line' e ∙ same (key r) f.reached (omega arith) ∙ f.stands;
  between = λ m h k. let below : m < key r = omega (arith, k, e) in same m h (omega arith) ∙ f.between m h below;
}

-- what leads past k in a line whose place at k changes: another source of the line than that at b does not
clear_of : (end l b k b2 r2 : ℕ) (head key : ℕ → ℕ) (place : ℕ → ℕ → ℕ) → (source head place l b ≡ end → ⊥) →
    (source head place l b2 ≡ end → ⊥) →
    IsGap end (place l) b k → (b2 ≡ b → ⊥) → (b2 ≡ suc k → ⊥) → IsFirst end key (place l) b2 r2 →
    (k < b2) ⊎ (key r2 < k)
clear_of end l b k b2 r2 head key place some some2 gap ne ne2 f = by_order (cases_lt k b2)
  where
    before : (b b2 : ℕ) → (source head place l b ≡ end → ⊥) → (source head place l b2 ≡ end → ⊥) →
        IsGap end (place l) b k → (b2 ≡ b → ⊥) → (b2 ≡ suc k → ⊥) → b2 ≤ k → b2 < b
    before b zero some some2 gap ne ne2 h = omega arith
    before b (suc m) some some2 gap ne ne2 h = by_gap (cases_lt m b)
      where
        by_gap : (m < b) ⊎ (b ≤ m) → suc m < b
        by_gap (inl l) = omega arith
        by_gap (inr l) = absurd (some2 (gap.none m l (omega arith)))

    ends : (b : ℕ) → (source head place l b ≡ end → ⊥) → b ≤ k → b2 < b → key r2 < k
    ends zero some h lt = omega arith
    ends (suc m) some h lt = by_key (cases_lt m (key r2))
      where
        by_key : (m < key r2) ⊎ (key r2 ≤ m) → key r2 < k
        by_key (inl l) = absurd (some (f.between m (omega arith) l))
        by_key (inr l) = omega arith

    by_order : (k < b2) ⊎ (b2 ≤ k) → (k < b2) ⊎ (key r2 < k)
    by_order (inl h) = inl h
    by_order (inr h) = inr (ends b some gap.order (before b b2 some some2 gap ne ne2 h))

-- the sources of the other lines stay, and those of the line but that at suc k
source_others : (head : ℕ → ℕ) (l k p : ℕ) (place place' : ℕ → ℕ → ℕ) → IsPut l k p place place' →
    (l' b' : ℕ) → (l' ≡ l → ⊥) → source head place' l' b' ≡ source head place l' b'
source_others head l k p place place' put l' zero ne = refl
source_others head l k p place place' put l' (suc m) ne = put.others l' m ne

source_line : (head : ℕ → ℕ) (l k p : ℕ) (place place' : ℕ → ℕ → ℕ) → IsPut l k p place place' → (b' : ℕ) →
    (b' ≡ suc k → ⊥) → source head place' l b' ≡ source head place l b'
source_line head l k p place place' put zero ne = refl
source_line head l k p place place' put (suc m) ne = put.line m (λ e. ne (ap suc e))

-- ---- in

-- p is no source
pub record IsNew (end lines : ℕ) (head : ℕ → ℕ) (place : ℕ → ℕ → ℕ) (p : ℕ) : Type 0 where
  pub some : p ≡ end → ⊥
  pub unused : (l b : ℕ) → l < lines → source head place l b ≡ p → ⊥

-- p gets the key k, and leads to what its source q led to
pub record IsInserted (key next key' next' : ℕ → ℕ) (k p q : ℕ) : Type 0 where
  pub key_here : key' p ≡ k
  pub key_others : (x : ℕ) → (x ≡ p → ⊥) → key' x ≡ key x
  pub next_here : next' p ≡ next q
  pub next_source : next' q ≡ p
  pub next_others : (x : ℕ) → (x ≡ p → ⊥) → (x ≡ q → ⊥) → next' x ≡ next x

pub put_in : (end lines width : ℕ) (head key next key' next' : ℕ → ℕ) (place place' : ℕ → ℕ → ℕ) (l b k p q : ℕ) →
    AreLinked end lines head key next place → k < width → key end ≡ width → place l k ≡ end →
    IsSource end lines head place l b q → IsGap end (place l) b k → IsPut l k p place place' →
    IsNew end lines head place p → IsInserted key next key' next' k p q →
    AreLinked end lines head key' next' place'
put_in end lines width head key next key' next' place place' l b k p q linked inside ends empty at gap put new
    now l' b' lt some' = by_line (cases_eq l' l)
  where
    -- what any source leads to is not p
    not_new : (l' b' r : ℕ) → l' < lines → IsFirst end key (place l') b' r → r ≡ p → ⊥
    not_new l' b' r lt f e = new.unused l' (suc (key r)) lt (f.stands ∙ e)

    -- where the source and what it leads to stay
    stays : (l' b' : ℕ) → l' < lines → (source head place' l' b' ≡ end → ⊥) →
        source head place' l' b' ≡ source head place l' b' → (source head place l' b' ≡ q → ⊥) →
        ((m : ℕ) → b' ≤ m → m ≤ key (next (source head place l' b')) → place' l' m ≡ place l' m) →
        IsFirst end key' (place' l') b' (next' (source head place' l' b'))
    stays l' b' lt some' e ne same =
        let some : source head place l' b' ≡ end → ⊥ = λ h. some' (e ∙ h) in
        let first : IsFirst end key (place l') b' (next (source head place l' b')) = linked l' b' lt some in
        let to : next' (source head place' l' b') ≡ next (source head place l' b') =
        ap next' e ∙ now.next_others (source head place l' b') (new.unused l' b' lt) ne in
        subst (λ (r : ℕ). IsFirst end key' (place' l') b' r) (sym to)
        (same_first end key key' (place l') (place' l') b' (next (source head place l' b')) first
        (now.key_others (next (source head place l' b'))
        (not_new l' b' (next (source head place l' b')) lt first)) same)

    -- from its source to the new place
    from_source : IsFirst end key' (place' l) b p
    from_source = record {
      reached = omega (arith, gap.order, now.key_here);
      stands = ap (place' l) now.key_here ∙ put.here;
      between = λ m h j. let below : m < k = omega (arith, j, now.key_here) in
          put.line m (omega arith) ∙ gap.none m h below;
    }

    -- from the new place on
    old_first : IsFirst end key (place l) b (next q)
    old_first = subst (λ (x : ℕ). IsFirst end key (place l) b (next x)) at.is
        (linked l b at.line (λ h. at.some (sym at.is ∙ h)))

    past : k < key (next q)
    past = by_key (cases_lt k (key (next q)))
      where
        is_end : next q ≡ end → k < key (next q)
        is_end e = omega (arith, ap key e, ends, inside)

        by_key : (k < key (next q)) ⊎ (key (next q) ≤ k) → k < key (next q)
        by_key (inl h) = h
        by_key (inr h) = by_place (cases_eq (key (next q)) k)
          where
            by_place : (key (next q) ≡ k) ⊎ (key (next q) ≡ k → ⊥) → k < key (next q)
            by_place (inl e) = is_end (sym old_first.stands ∙ ap (place l) e ∙ empty)
            by_place (inr ne) = is_end (sym old_first.stands ∙ gap.none (key (next q)) old_first.reached (omega arith))

    from_new : IsFirst end key' (place' l) (suc k) (next q)
    from_new = same_first end key key' (place l) (place' l) (suc k) (next q)
        (record {
          reached = omega (arith, past);
          stands = old_first.stands;
          between =
              λ m h j. old_first.between m (omega (arith, gap.order)) j;
        })
        (now.key_others (next q) (not_new l b (next q) at.line old_first))
        (λ m h j. put.line m (omega arith))

    on_line : (b' : ℕ) → (source head place' l b' ≡ end → ⊥) → (b' ≡ suc k) ⊎ (b' ≡ suc k → ⊥) →
        (b' ≡ b) ⊎ (b' ≡ b → ⊥) → IsFirst end key' (place' l) b' (next' (source head place' l b'))
    on_line b' some' (inl e) _ =
        rw e (subst (λ (r : ℕ). IsFirst end key' (place' l) (suc k) r)
        (sym (ap next' put.here ∙ now.next_here)) from_new)
    on_line b' some' (inr ne) (inl e) =
        let same : source head place' l b ≡ q = source_line head l k p place place' put b (λ h. ne (e ∙ h)) ∙ at.is in
        rw e (subst (λ (r : ℕ). IsFirst end key' (place' l) b r) (sym (ap next' same ∙ now.next_source)) from_source)
    on_line b' some' (inr ne) (inr ne2) =
        let same : source head place' l b' ≡ source head place l b' = source_line head l k p place place' put b' ne in
        let some : source head place l b' ≡ end → ⊥ = λ h. some' (same ∙ h) in
        stays l b' at.line some' same (λ h. ne2 (at.only l b' at.line h).1)
        (λ m h j. put.line m (λ (e : m ≡ k).
        not_both b' m h j e (clear_of end l b k b' (next (source head place l b')) head key place (λ h.
        at.some (sym at.is ∙ h)) some gap ne2 ne (linked l b' at.line some))))
      where
        not_both : (b' m : ℕ) → b' ≤ m → m ≤ key (next (source head place l b')) → m ≡ k →
            (k < b') ⊎ (key (next (source head place l b')) < k) → ⊥
        not_both b' m h j e (inl lt) = omega arith
        not_both b' m h j e (inr lt) = omega arith

    by_line : (l' ≡ l) ⊎ (l' ≡ l → ⊥) → IsFirst end key' (place' l') b' (next' (source head place' l' b'))
    by_line (inl e) =
        let some : source head place' l b' ≡ end → ⊥ = subst (λ (x : ℕ). source head place' x b' ≡ end → ⊥) e some' in
        subst (λ (x : ℕ). IsFirst end key' (place' x) b' (next' (source head place' x b'))) (sym e)
        (on_line b' some (cases_eq b' (suc k)) (cases_eq b' b))
    by_line (inr ne) = stays l' b' lt some' (source_others head l k p place place' put l' b' ne) (λ h.
        ne (at.only l' b' lt h).0) (λ m h j. put.others l' m ne)

-- ---- out

-- its source leads to what it led to
pub record IsGone (next next' : ℕ → ℕ) (p q : ℕ) : Type 0 where
  pub next_source : next' q ≡ next p
  pub next_others : (x : ℕ) → (x ≡ p → ⊥) → (x ≡ q → ⊥) → next' x ≡ next x

pub put_out : (end lines : ℕ) (head key next next' : ℕ → ℕ) (place place' : ℕ → ℕ → ℕ) (l b k p q : ℕ) →
    AreLinked end lines head key next place → place l k ≡ p → (p ≡ end → ⊥) →
    IsSource end lines head place l b q → IsSource end lines head place l (suc k) p → IsGap end (place l) b k →
    IsPut l k end place place' → IsGone next next' p q →
    AreLinked end lines head key next' place'
put_out end lines head key next next' place place' l b k p q linked here full at at_p gap put gone l' b' lt
    some' = by_line (cases_eq l' l)
  where
    stays : (l' b' : ℕ) → l' < lines → (source head place' l' b' ≡ end → ⊥) →
        source head place' l' b' ≡ source head place l' b' → (source head place l' b' ≡ p → ⊥) →
        (source head place l' b' ≡ q → ⊥) →
        ((m : ℕ) → b' ≤ m → m ≤ key (next (source head place l' b')) → place' l' m ≡ place l' m) →
        IsFirst end key (place' l') b' (next' (source head place' l' b'))
    stays l' b' lt some' e np ne same =
        let some : source head place l' b' ≡ end → ⊥ = λ h. some' (e ∙ h) in
        let first : IsFirst end key (place l') b' (next (source head place l' b')) = linked l' b' lt some in
        let to : next' (source head place' l' b') ≡ next (source head place l' b') =
        ap next' e ∙ gone.next_others (source head place l' b') np ne in
        subst (λ (r : ℕ). IsFirst end key (place' l') b' r) (sym to)
        (same_first end key key (place l') (place' l') b' (next (source head place l' b')) first refl same)

    old_first : IsFirst end key (place l) (suc k) (next p)
    old_first = subst (λ (x : ℕ). IsFirst end key (place l) (suc k) (next x)) here
        (linked l (suc k) at.line (λ h. full (sym here ∙ h)))

    from_source : IsFirst end key (place' l) b (next p)
    from_source = record {
      reached = omega (arith, gap.order, old_first.reached);
      stands = put.line (key (next p)) (omega (arith, old_first.reached)) ∙ old_first.stands;
      between = λ m h j. by_place m h j (cases_lt m k) (cases_eq m k);
    }
      where
        by_place : (m : ℕ) → b ≤ m → m < key (next p) → (m < k) ⊎ (k ≤ m) → (m ≡ k) ⊎ (m ≡ k → ⊥) → place' l m ≡ end
        by_place m h j _ (inl e) = ap (place' l) e ∙ put.here
        by_place m h j (inl lt) (inr ne) = put.line m ne ∙ gap.none m h lt
        by_place m h j (inr le) (inr ne) = put.line m ne ∙ old_first.between m (omega arith) j

    on_line : (b' : ℕ) → (source head place' l b' ≡ end → ⊥) → (b' ≡ suc k) ⊎ (b' ≡ suc k → ⊥) →
        (b' ≡ b) ⊎ (b' ≡ b → ⊥) → IsFirst end key (place' l) b' (next' (source head place' l b'))
    on_line b' some' (inl e) _ = absurd (some' (ap (source head place' l) e ∙ put.here))
    on_line b' some' (inr ne) (inl e) =
        let same : source head place' l b ≡ q = source_line head l k end place place' put b (λ h. ne (e ∙ h)) ∙ at.is in
        rw e (subst (λ (r : ℕ). IsFirst end key (place' l) b r) (sym (ap next' same ∙ gone.next_source)) from_source)
    on_line b' some' (inr ne) (inr ne2) =
        let same : source head place' l b' ≡ source head place l b' = source_line head l k end place place' put b' ne in
        let some : source head place l b' ≡ end → ⊥ = λ h. some' (same ∙ h) in
        stays l b' at.line some' same (λ h. ne (at_p.only l b' at.line h).1) (λ h. ne2 (at.only l b' at.line h).1)
        (λ m h j. put.line m (λ (e : m ≡ k).
        not_both b' m h j e (clear_of end l b k b' (next (source head place l b')) head key place (λ h.
        at.some (sym at.is ∙ h)) some gap ne2 ne (linked l b' at.line some))))
      where
        not_both : (b' m : ℕ) → b' ≤ m → m ≤ key (next (source head place l b')) → m ≡ k →
            (k < b') ⊎ (key (next (source head place l b')) < k) → ⊥
        not_both b' m h j e (inl lt) = omega arith
        not_both b' m h j e (inr lt) = omega arith

    by_line : (l' ≡ l) ⊎ (l' ≡ l → ⊥) → IsFirst end key (place' l') b' (next' (source head place' l' b'))
    by_line (inl e) =
        let some : source head place' l b' ≡ end → ⊥ = subst (λ (x : ℕ). source head place' x b' ≡ end → ⊥) e some' in
        subst (λ (x : ℕ). IsFirst end key (place' x) b' (next' (source head place' x b'))) (sym e)
        (on_line b' some (cases_eq b' (suc k)) (cases_eq b' b))
    by_line (inr ne) = stays l' b' lt some' (source_others head l k end place place' put l' b' ne) (λ h.
        ne (at_p.only l' b' lt h).0) (λ h. ne (at.only l' b' lt h).0) (λ m h j. put.others l' m ne)

-- ---- what the places of cells show

-- each place is below the end, and its cell knows its line and its position
pub record IsKeyed (end l k p : ℕ) (lineof key : ℕ → ℕ) : Type 0 where
  pub below : p < end
  pub line : lineof p ≡ l
  pub position : key p ≡ k

pub sources_apart : (end lines : ℕ) (lineof key : ℕ → ℕ) (place : ℕ → ℕ → ℕ) →
    ((l k : ℕ) → (place l k ≡ end → ⊥) → IsKeyed end l k (place l k) lineof key) →
    (l b l' b' q : ℕ) → (q ≡ end → ⊥) → source (λ x. end + 1 + x) place l b ≡ q →
    source (λ x. end + 1 + x) place l' b' ≡ q → (l' ≡ l) × (b' ≡ b)
sources_apart end lines lineof key place keyed l zero l' zero q some e e' = (omega arith, refl)
sources_apart end lines lineof key place keyed l zero l' (suc k') q some e e' =
    let below : place l' k' < end = (keyed l' k' (λ h. some (sym e' ∙ h))).below in
    absurd (omega arith)
sources_apart end lines lineof key place keyed l (suc k) l' zero q some e e' =
    let below : place l k < end = (keyed l k (λ h. some (sym e ∙ h))).below in
    absurd (omega arith)
sources_apart end lines lineof key place keyed l (suc k) l' (suc k') q some e e' =
    let here : IsKeyed end l k (place l k) lineof key = keyed l k (λ h. some (sym e ∙ h)) in
    let there : IsKeyed end l' k' (place l' k') lineof key = keyed l' k' (λ h. some (sym e' ∙ h)) in (
      sym there.line ∙ ap lineof (e' ∙ sym e) ∙ here.line,
      ap suc (sym there.position ∙ ap key (e' ∙ sym e) ∙ here.position),
    )

-- the lead of a line is the source there
pub lead_source : (end l k q b : ℕ) (place : ℕ → ℕ → ℕ) → IsLead end (end + 1 + l) (place l) k q b →
    source (λ x. end + 1 + x) place l b ≡ q
lead_source end l k q zero place lead = sym (lead.from_head refl)
lead_source end l k q (suc m) place lead = lead.from_place m (omega arith)

lead_gap : (end head k q b : ℕ) (line : ℕ → ℕ) → IsLead end head line k q b → IsGap end line b k
lead_gap end head k q b line lead = record { order = lead.order; none = lead.none }

is_source : (end lines l k q b : ℕ) (lineof key : ℕ → ℕ) (place : ℕ → ℕ → ℕ) → l < lines →
    ((l k : ℕ) → (place l k ≡ end → ⊥) → IsKeyed end l k (place l k) lineof key) →
    IsLead end (end + 1 + l) (place l) k q b → IsSource end lines (λ x. end + 1 + x) place l b q
is_source end lines l k q b lineof key place h keyed lead = record {
  line = h;
  is = lead_source end l k q b place lead;
  some = lead.some;
  only = λ l' b' _ e. sources_apart end lines lineof key place keyed l b l' b' q lead.some
      (lead_source end l k q b place lead) e;
}

-- a place that is none of the places is new
is_new : (end lines p : ℕ) (place : ℕ → ℕ → ℕ) → p < end → ((l k : ℕ) → place l k ≡ p → ⊥) →
    IsNew end lines (λ x. end + 1 + x) place p
is_new end lines p place below unused = record { some = λ (e : p ≡ end). omega arith; unused = no_source }
  where
    no_source : (l b : ℕ) → l < lines → source (λ x. end + 1 + x) place l b ≡ p → ⊥
    no_source l zero h e = omega arith
    no_source l (suc k) h e = unused l k e

-- the lead is not a place that is none of the places
pub lead_not_new : (end lines l k p q b : ℕ) (place : ℕ → ℕ → ℕ) → p < end → ((l k : ℕ) → place l k ≡ p → ⊥) →
    IsLead end (end + 1 + l) (place l) k q b → q ≡ p → ⊥
lead_not_new end lines l k p q zero place below unused lead e = let h : q ≡ end + 1 + l =
    lead.from_head refl in omega arith
lead_not_new end lines l k p q (suc m) place below unused lead e = unused l m (lead.from_place m (omega arith) ∙ e)

-- no source is more than the lines past the end
pub lead_low : (end l k q b : ℕ) (place : ℕ → ℕ → ℕ) → ((m : ℕ) → place l m ≤ end) →
    IsLead end (end + 1 + l) (place l) k q b → q ≤ end + 1 + l
lead_low end l k q zero place low lead = let h : q ≡ end + 1 + l = lead.from_head refl in omega arith
lead_low end l k q (suc m) place low lead = let h : place l m ≡ q =
    lead.from_place m (omega arith) in let i : place l m ≤ end = low m in omega arith

-- ---- both, for heads past the end

pub line_put_in : (end lines width l k p q b : ℕ) (lineof key next key' next' : ℕ → ℕ) (place place' : ℕ → ℕ → ℕ) →
    AreLinked end lines (λ x. end + 1 + x) key next place →
    ((l k : ℕ) → (place l k ≡ end → ⊥) → IsKeyed end l k (place l k) lineof key) →
    l < lines → k < width → key end ≡ width → place l k ≡ end → p < end → ((l k : ℕ) → place l k ≡ p → ⊥) →
    IsLead end (end + 1 + l) (place l) k q b → IsPut l k p place place' → IsInserted key next key' next' k p q →
    AreLinked end lines (λ x. end + 1 + x) key' next' place'
line_put_in end lines width l k p q b lineof key next key' next' place place' linked keyed hl hk ends empty
    below unused lead put now =
    put_in end lines width (λ x. end + 1 + x) key next key' next' place place' l b k p q linked hk ends empty
    (is_source end lines l k q b lineof key place hl keyed lead)
    (lead_gap end (end + 1 + l) k q b (place l) lead) put (is_new end lines p place below unused) now

pub line_put_out : (end lines l k p q b : ℕ) (lineof key next next' : ℕ → ℕ) (place place' : ℕ → ℕ → ℕ) →
    AreLinked end lines (λ x. end + 1 + x) key next place →
    ((l k : ℕ) → (place l k ≡ end → ⊥) → IsKeyed end l k (place l k) lineof key) →
    l < lines → place l k ≡ p → (p ≡ end → ⊥) →
    IsLead end (end + 1 + l) (place l) k q b → IsPut l k end place place' → IsGone next next' p q →
    AreLinked end lines (λ x. end + 1 + x) key next' place'
line_put_out end lines l k p q b lineof key next next' place place' linked keyed hl here full lead put gone =
    put_out end lines (λ x. end + 1 + x) key next next' place place' l b k p q linked here full
    (is_source end lines l k q b lineof key place hl keyed lead)
    (record {
      line = hl;
      is = here;
      some = full;
      only =
          λ l' b' _ e. sources_apart end lines lineof key place keyed l (suc k) l' b' p full here e;
    })
    (lead_gap end (end + 1 + l) k q b (place l) lead) put gone

-- where neither places nor what they lead to change, all stays linked
pub line_same : (end lines : ℕ) (head key next key' next' : ℕ → ℕ) (place : ℕ → ℕ → ℕ) →
    AreLinked end lines head key next place →
    ((x : ℕ) → key' x ≡ key x) → ((x : ℕ) → next' x ≡ next x) → AreLinked end lines head key' next' place
line_same end lines head key next key' next' place linked keys nexts l b h some =
    subst (λ (r : ℕ). IsFirst end key' (place l) b r) (sym (nexts (source head place l b)))
    (same_first end key key' (place l) (place l) b (next (source head place l b)) (linked l b h some)
    (keys (next (source head place l b))) (λ m _ _. refl))

-- the lead of a place is another
pub lead_apart : (end lines l k p q b : ℕ) (lineof key : ℕ → ℕ) (place : ℕ → ℕ → ℕ) →
    ((l k : ℕ) → (place l k ≡ end → ⊥) → IsKeyed end l k (place l k) lineof key) →
    place l k ≡ p → (p ≡ end → ⊥) → IsLead end (end + 1 + l) (place l) k q b → q ≡ p → ⊥
lead_apart end lines l k p q b lineof key place keyed here full lead e =
    let both : (l ≡ l) × (b ≡ suc k) =
    sources_apart end lines lineof key place keyed l (suc k) l b p full here
    (lead_source end l k q b place lead ∙ e) in
    let low : b ≤ k = lead.order in omega (arith, both.1)
