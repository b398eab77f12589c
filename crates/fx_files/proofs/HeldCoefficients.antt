-- The coefficients of each form are read exactly where a table describes them.
use Rattle.std.proofs.Common.{◌≡◌, ◌≤◌, ◌∙◌, ℕ, ◌+◌}
use Rattle.std.proofs.Common.{true, List, [], ◌∷◌, ◌++◌, length, get_or}
use Rattle.std.proofs.Common.{Ok}
use Rattle.std.proofs.Common.{refl, sym, ap, subst, arith}
use Rattle.std.specs.Prelude.{All}
use Rattle.std.proofs.lemmas.Bool.Decides.{nat_tests}
use Rattle.std.proofs.lemmas.List.Elements.{All-nil, All-cons, All-head, All-tail}
use Rattle.toml.specs.Data.{Members, Items}
use Rattle.fx_nums.specs.Fraction.{Fraction, is_one, zero_fraction}
use Rattle.fx_math.specs.Faults.{unless}
use Rattle.fx_files.specs.Lists.{monic, each_monic, polynomial_in, transfer_in, cascade_in, state_rows}
use Rattle.fx_files.specs.Lists.{matrix_in, space_in, reflections_in, taps_in, ladder_in, coefficients_in}
use Rattle.fx_files.specs.Describes.{HoldsPolynomial}
use Rattle.fx_files.specs.Describes.{DescribesTransfer, DescribesCascade, DescribesSpace, DescribesLattice}
use Rattle.fx_files.specs.Describes.{DescribesCoefficients}
use Rattle.fx_keys.specs.Entries.{item_count, some, at_most, exactly}
use Rattle.fx_files.specs.Holds.{IsListOf, CountFits}
use Rattle.fx_files.specs.Holds.{IsNumeralOf}
use Rattle.fx_files.specs.Holds.{row_after_row, AreWide, HoldsMatrix}
use Rattle.fx_keys.specs.Keys.{most_of}
use Rattle.fx_keys.specs.Numerals.{entries_in, rows_in, matrix}
use Rattle.fx_files.specs.Coefficients as coefficients
use Rattle.fx_files.specs.Coefficients.{Coefficients, form_of}
use Rattle.fx_keys.specs.declared.fault.FilterFault.TheVariants.{NotMonic}
use Rattle.fx_keys.specs.declared.key.Key.{Key}
use Rattle.fx_keys.specs.declared.key.Key.TheVariants as key
use Rattle.fx_keys.specs.declared.limits.TheConstants.{SECTION_COEFFICIENTS}
use Rattle.fx_files.specs.declared.forms.Form.{Form}
use Rattle.fx_files.specs.declared.forms.Form.TheVariants as form
use Rattle.fx_files.proofs.Steps.{bind_ok, same_ok, unless_ok}
use Rattle.fx_files.proofs.HeldNumbers.{count_of, few_test}
use Rattle.fx_files.proofs.HeldNumbers.{some_test}
use Rattle.fx_files.proofs.HeldNumerals.{entries_listed, entries_numerals, exact_count}
use Rattle.fx_files.proofs.HeldNumerals.{exact_test, list_of, listed, listed_entries, listed_rows, matrix_read}
use Rattle.fx_files.proofs.HeldNumerals.{matrix_stands, numerals_entries}
use Rattle.fx_files.proofs.HeldNumerals.{rows_listed}

some_ok : (k : Key) (vs : Items) → 1 ≤ item_count vs → some k vs ≡ Ok tt
some_ok k vs h = rw (some_test (item_count vs) h) refl

few_ok : (k : Key) (vs : Items) → item_count vs ≤ most_of k → at_most k vs ≡ Ok tt
few_ok k vs h = rw (few_test (item_count vs) (most_of k) h) refl

exact_ok : (k : Key) (n : ℕ) (vs : Items) → item_count vs ≡ n → exactly k n vs ≡ Ok tt
exact_ok k n vs h = rw (exact_test (item_count vs) n h) refl

any_read : (k : Key) (vs : Items) (u : Unit {0}) → some k vs ≡ Ok u → 1 ≤ item_count vs
any_read k vs u h = let test = unless_ok _ _ u h in grind (arith, nat_tests)

few_read : (k : Key) (vs : Items) (u : Unit {0}) → at_most k vs ≡ Ok u → item_count vs ≤ most_of k
few_read k vs u h = let test = unless_ok _ _ u h in grind (arith, nat_tests)

-- ---- polynomials

polynomial_read : (k : Key) (t : Members) (cs : List Fraction) → polynomial_in k t ≡ Ok cs → HoldsPolynomial k t cs
unfolding polynomial_in
polynomial_read k t cs h =
    let (vs, got, past_got) = bind_ok (entries_in k t) _ cs h in
    let (u1, any, past_any) = bind_ok (some k vs) _ cs past_got in
    let (u2, few, past_few) = bind_ok (at_most k vs) _ cs past_any in
    let each = numerals_entries k 0 vs cs past_few in
    let count = count_of IsNumeralOf cs vs each in
    record {
      entries = listed IsNumeralOf cs k t vs (entries_listed k t vs got) each;
      count = record {
        some = subst (λ (n : ℕ). 1 ≤ n) count (any_read k vs u1 any);
        few =
            subst (λ (n : ℕ). n ≤ most_of k) count (few_read k vs u2 few);
      };
    }

polynomial_stands : (k : Key) (t : Members) (cs : List Fraction) → HoldsPolynomial k t cs → polynomial_in k t ≡ Ok cs
unfolding polynomial_in
polynomial_stands k t cs h =
    let (vs, list, each) = list_of IsNumeralOf cs k t h.entries in
    let count = count_of IsNumeralOf cs vs each in
    let any : 1 ≤ item_count vs = rw count h.count.some in
    let few : item_count vs ≤ most_of k = rw count h.count.few in
    rw (listed_entries k t vs cs list each, some_ok k vs any, few_ok k vs few) (entries_numerals k 0 vs cs each)

leads_read : (place : ℕ) (cs : List Fraction) (u : Unit {0}) → 1 ≤ length cs → monic key.A place cs ≡ Ok u →
    is_one (get_or cs 0 zero_fraction) ≡ true
leads_read place [] u some h = absurd (omega arith)
leads_read place (c ∷ cs) u some h = unless_ok _ _ u h

leads_stand : (place : ℕ) (cs : List Fraction) → is_one (get_or cs 0 zero_fraction) ≡ true →
    monic key.A place cs ≡ Ok tt
leads_stand place [] h = refl
leads_stand place (c ∷ cs) h = rw h refl

transfer_read : (m p : ℕ) (t : Members) (l : Coefficients) → transfer_in t ≡ Ok l → DescribesCoefficients m p t l
unfolding transfer_in
transfer_read m p t l h =
    let (b, above, past_above) = bind_ok (polynomial_in key.B t) _ l h in
    let (a, below, past_below) = bind_ok (polynomial_in key.A t) _ l past_above in
    let (u, one, same) = bind_ok (monic key.A 0 a) _ l past_below in
    let denominator = polynomial_read key.A t a below in
    subst (DescribesCoefficients m p t) (same_ok (coefficients.Tf b a) l same)
    (record {
      numerator = polynomial_read key.B t b above;
      denominator = denominator;
      leads =
          leads_read 0 a u denominator.count.some one;
    })

transfer_stands : (t : Members) (b a : List Fraction) → DescribesTransfer t b a →
    transfer_in t ≡ Ok (coefficients.Tf b a)
unfolding transfer_in
transfer_stands t b a h =
    rw (
      polynomial_stands key.B t b h.numerator,
      polynomial_stands key.A t a h.denominator,
      leads_stand 0 a h.leads,
    ) refl

-- ---- sections

record IsSix (r : List Fraction) : Type 0 where
  b0 : Fraction
  b1 : Fraction
  b2 : Fraction
  a0 : Fraction
  a1 : Fraction
  a2 : Fraction
  is : r ≡ b0 ∷ b1 ∷ b2 ∷ a0 ∷ a1 ∷ a2 ∷ []

six : (r : List Fraction) → length r ≡ SECTION_COEFFICIENTS → IsSix r
six (x0 ∷ x1 ∷ x2 ∷ x3 ∷ x4 ∷ x5 ∷ []) h = record { b0 = x0; b1 = x1; b2 = x2; a0 = x3; a1 = x4; a2 = x5; is = refl }
six (x0 ∷ x1 ∷ x2 ∷ x3 ∷ x4 ∷ x5 ∷ x6 ∷ xs) h = absurd (omega arith)
six (x0 ∷ x1 ∷ x2 ∷ x3 ∷ x4 ∷ []) h = absurd (omega arith)
six (x0 ∷ x1 ∷ x2 ∷ x3 ∷ []) h = absurd (omega arith)
six (x0 ∷ x1 ∷ x2 ∷ []) h = absurd (omega arith)
six (x0 ∷ x1 ∷ []) h = absurd (omega arith)
six (x0 ∷ []) h = absurd (omega arith)
six [] h = absurd (omega arith)

abbrev Leads : List Fraction → Type 0
Leads row = is_one (get_or row 3 zero_fraction) ≡ true

abbrev IsWide : List Fraction → Type 0
IsWide row = length row ≡ SECTION_COEFFICIENTS

sections_lead : (place : ℕ) (rows : List (List Fraction)) (u : Unit {0}) → AreWide SECTION_COEFFICIENTS rows →
    each_monic key.Sections place (row_after_row rows) ≡ Ok u → All Leads rows
unfolding each_monic
sections_lead place [] u wide h = All-nil Leads
sections_lead place (r ∷ rs) u wide h =
    let s = six r (All-head IsWide r rs wide) in
    let cs = row_after_row rs in
    let row = s.b0 ∷ s.b1 ∷ s.b2 ∷ s.a0 ∷ s.a1 ∷ s.a2 ∷ [] in
    let e : each_monic key.Sections place (row ++ cs) ≡ Ok u =
    subst (λ (x : List Fraction). each_monic key.Sections place (x ++ cs) ≡ Ok u) s.is h in
    let (w, one, rest) = bind_ok (unless (NotMonic key.Sections (place + 3)) (is_one s.a0)) (λ v.
    each_monic key.Sections (place + 6) cs) u e in
    let lead : Leads row = unless_ok _ _ w one in
    All-cons Leads r rs (subst Leads (sym s.is) lead) (sections_lead (place + 6) rs u (All-tail IsWide r rs wide) rest)

lead_sections : (place : ℕ) (rows : List (List Fraction)) → AreWide SECTION_COEFFICIENTS rows →
    All Leads rows → each_monic key.Sections place (row_after_row rows) ≡ Ok tt
unfolding each_monic
lead_sections place [] wide h = refl
lead_sections place (r ∷ rs) wide h =
    let s = six r (All-head IsWide r rs wide) in
    let cs = row_after_row rs in
    let row = s.b0 ∷ s.b1 ∷ s.b2 ∷ s.a0 ∷ s.a1 ∷ s.a2 ∷ [] in
    let lead : is_one s.a0 ≡ true = subst Leads s.is (All-head Leads r rs h) in
    let rest = lead_sections (place + 6) rs (All-tail IsWide r rs wide) (All-tail Leads r rs h) in
    let whole : each_monic key.Sections place (row ++ cs) ≡ Ok tt = rw lead rest in
    subst (λ (x : List Fraction). each_monic key.Sections place (x ++ cs) ≡ Ok tt) (sym s.is) whole

cascade_read : (m p : ℕ) (t : Members) (l : Coefficients) → cascade_in t ≡ Ok l → DescribesCoefficients m p t l
unfolding cascade_in
cascade_read m p t l h =
    let (vs, got, past_got) = bind_ok (rows_in key.Sections t) _ l h in
    let (u1, any, past_any) = bind_ok (some key.Sections vs) _ l past_got in
    let (u2, few, past_few) = bind_ok (at_most key.Sections vs) _ l past_any in
    let (cs, read, past_read) = bind_ok (matrix key.Sections SECTION_COEFFICIENTS vs) _ l past_few in
    let (u3, one, same) = bind_ok (each_monic key.Sections 0 cs) _ l past_read in
    let r = matrix_read key.Sections SECTION_COEFFICIENTS vs cs read in
    let count = count_of (IsListOf IsNumeralOf) r.rows vs r.stand in
    subst (DescribesCoefficients m p t) (same_ok (coefficients.Sos cs) l same)
    (record {
      rows = r.rows;
      held = listed (IsListOf IsNumeralOf) r.rows key.Sections t vs (rows_listed key.Sections t vs got) r.stand;
      count = record {
        some = subst (λ (n : ℕ). 1 ≤ n) count (any_read key.Sections vs u1 any);
        few =
            subst (λ (n : ℕ). n ≤ most_of key.Sections) count (few_read key.Sections vs u2 few);
      };
      wide = r.wide;
      lead = sections_lead 0 r.rows u3 r.wide (subst (λ (x : List Fraction).
          each_monic key.Sections 0 x ≡ Ok u3) r.joined one);
      joined = r.joined;
    })

cascade_stands : (t : Members) (cs : List Fraction) → DescribesCascade t cs → cascade_in t ≡ Ok (coefficients.Sos cs)
unfolding cascade_in
cascade_stands t cs h =
    let (vs, list, each) = list_of (IsListOf IsNumeralOf) h.rows key.Sections t h.held in
    let count = count_of (IsListOf IsNumeralOf) h.rows vs each in
    let any : 1 ≤ item_count vs = rw count h.count.some in
    let few : item_count vs ≤ most_of key.Sections = rw count h.count.few in
    let read : matrix key.Sections SECTION_COEFFICIENTS vs ≡ Ok cs =
    rw h.joined (matrix_stands key.Sections SECTION_COEFFICIENTS vs h.rows each h.wide) in
    let lead : each_monic key.Sections 0 cs ≡ Ok tt = rw h.joined (lead_sections 0 h.rows h.wide h.lead) in
    rw (
      listed_rows key.Sections t vs h.rows list each,
      some_ok key.Sections vs any,
      few_ok key.Sections vs few,
      read,
      lead,
    ) refl

-- ---- state space

matrix_held : (k : Key) (width : ℕ) (t : Members) (vs : Items) (cs : List Fraction) → rows_in k t ≡ Ok vs →
    matrix k width vs ≡ Ok cs → HoldsMatrix k (item_count vs) width t cs
matrix_held k width t vs cs got read =
    let r = matrix_read k width vs cs read in
    record {
      rows = r.rows;
      held = listed (IsListOf IsNumeralOf) r.rows k t vs (rows_listed k t vs got) r.stand;
      high = sym (count_of (IsListOf IsNumeralOf) r.rows vs r.stand);
      wide = r.wide;
      joined = r.joined;
    }

block_read : (k : Key) (height width : ℕ) (t : Members) (cs : List Fraction) →
    matrix_in k height width t ≡ Ok cs → HoldsMatrix k height width t cs
unfolding matrix_in
block_read k height width t cs h =
    let (vs, got, past_got) = bind_ok (rows_in k t) _ cs h in
    let (u1, any, past_any) = bind_ok (some k vs) _ cs past_got in
    let (u2, exact, past_exact) = bind_ok (exactly k height vs) _ cs past_any in
    subst (λ (n : ℕ). HoldsMatrix k n width t cs) (exact_count k height vs u2 exact)
    (matrix_held k width t vs cs got past_exact)

block_stands : (k : Key) (height width : ℕ) (t : Members) (cs : List Fraction) → 1 ≤ height →
    HoldsMatrix k height width t cs → matrix_in k height width t ≡ Ok cs
unfolding matrix_in
block_stands k height width t cs some h =
    let (vs, list, each) = list_of (IsListOf IsNumeralOf) h.rows k t h.held in
    let count : item_count vs ≡ height = count_of (IsListOf IsNumeralOf) h.rows vs each ∙ h.high in
    let any : 1 ≤ item_count vs = rw count some in
    let read : matrix k width vs ≡ Ok cs = rw h.joined (matrix_stands k width vs h.rows each h.wide) in
    rw (listed_rows k t vs h.rows list each, some_ok k vs any, exact_ok k height vs count) read

space_read : (m p : ℕ) (t : Members) (l : Coefficients) → space_in m p t ≡ Ok l → DescribesCoefficients m p t l
unfolding space_in state_rows
space_read m p t l h =
    let (vs, first, past_first) = bind_ok (state_rows t) _ l h in
    let (ws, got, g1) = bind_ok (rows_in key.MatA t) _ vs first in
    let (u1, any, g2) = bind_ok (some key.MatA ws) _ vs g1 in
    let (u2, few, g3) = bind_ok (at_most key.MatA ws) _ vs g2 in
    let is : ws ≡ vs = same_ok ws vs g3 in
    let (a, read, past_read) = bind_ok (matrix key.MatA (item_count vs) vs) _ l past_first in
    let (b, second, past_second) = bind_ok (matrix_in key.MatB (item_count vs) m t) _ l past_read in
    let (c, third, past_third) = bind_ok (matrix_in key.MatC p (item_count vs) t) _ l past_second in
    let (d, fourth, same) = bind_ok (matrix_in key.MatD p m t) _ l past_third in
    let rows : rows_in key.MatA t ≡ Ok vs = got ∙ ap (λ (x : Items). Ok x) is in
    subst (DescribesCoefficients m p t) (same_ok (coefficients.Ss (item_count vs) a b c d) l same)
    (record {
      states = subst (λ (x : Items). CountFits key.MatA (item_count x)) is
          (record { some = any_read key.MatA ws u1 any; few = few_read key.MatA ws u2 few });
      state = matrix_held key.MatA (item_count vs) t vs a rows read;
      input = block_read key.MatB (item_count vs) m t b second;
      output = block_read key.MatC p (item_count vs) t c third;
      through = block_read key.MatD p m t d fourth;
    })

space_stands : (m p : ℕ) (t : Members) (n : ℕ) (A B C D : List Fraction) → 1 ≤ p →
    DescribesSpace m p t n A B C D → space_in m p t ≡ Ok (coefficients.Ss n A B C D)
unfolding space_in state_rows
space_stands m p t n A B C D some h =
    let s = h.state in
    let (vs, list, each) = list_of (IsListOf IsNumeralOf) s.rows key.MatA t s.held in
    let count : item_count vs ≡ n = count_of (IsListOf IsNumeralOf) s.rows vs each ∙ s.high in
    let any : 1 ≤ item_count vs = rw count h.states.some in
    let few : item_count vs ≤ most_of key.MatA = rw count h.states.few in
    let read : matrix key.MatA n vs ≡ Ok A = rw s.joined (matrix_stands key.MatA n vs s.rows each s.wide) in
    rw (
      listed_rows key.MatA t vs s.rows list each,
      some_ok key.MatA vs any,
      few_ok key.MatA vs few,
      count,
      read,
      block_stands key.MatB n m t B h.states.some h.input,
      block_stands key.MatC p n t C some h.output,
      block_stands key.MatD p m t D some h.through,
    ) refl

-- ---- lattice

ladder_read : (m p : ℕ) (t : Members) (l : Coefficients) → ladder_in t ≡ Ok l → DescribesCoefficients m p t l
unfolding ladder_in reflections_in taps_in
ladder_read m p t l h =
    let (k, first, past_first) = bind_ok (reflections_in t) _ l h in
    let (v, second, same) = bind_ok (taps_in (length k) t) _ l past_first in
    let (vs, got, g1) = bind_ok (entries_in key.K t) _ k first in
    let (u1, few, g2) = bind_ok (at_most key.K vs) _ k g1 in
    let (ws, taps, f1) = bind_ok (entries_in key.V t) _ v second in
    let (u2, any, f2) = bind_ok (some key.V ws) _ v f1 in
    let (u3, exact, f3) = bind_ok (exactly key.V (length k + 1) ws) _ v f2 in
    let each = numerals_entries key.K 0 vs k g2 in
    let tapped = numerals_entries key.V 0 ws v f3 in
    subst (DescribesCoefficients m p t) (same_ok (coefficients.Lattice k v) l same)
    (record {
      reflections = listed IsNumeralOf k key.K t vs (entries_listed key.K t vs got) each;
      taps = listed IsNumeralOf v key.V t ws (entries_listed key.V t ws taps) tapped;
      few = subst (λ (n : ℕ). n ≤ most_of key.K) (count_of IsNumeralOf k vs each) (few_read key.K vs u1 few);
      one_more = sym (count_of IsNumeralOf v ws tapped) ∙ exact_count key.V (length k + 1) ws u3 exact;
    })

ladder_stands : (t : Members) (k v : List Fraction) → DescribesLattice t k v →
    ladder_in t ≡ Ok (coefficients.Lattice k v)
unfolding ladder_in reflections_in taps_in
ladder_stands t k v h =
    let (vs, list, each) = list_of IsNumeralOf k key.K t h.reflections in
    let (ws, taps, tapped) = list_of IsNumeralOf v key.V t h.taps in
    let few : item_count vs ≤ most_of key.K = rw (count_of IsNumeralOf k vs each) h.few in
    let count : item_count ws ≡ length k + 1 = count_of IsNumeralOf v ws tapped ∙ h.one_more in
    let any : 1 ≤ item_count ws = rw count (omega arith) in
    rw (
      listed_entries key.K t vs k list each,
      few_ok key.K vs few,
      entries_numerals key.K 0 vs k each,
      listed_entries key.V t ws v taps tapped,
      some_ok key.V ws any,
      exact_ok key.V (length k + 1) ws count,
      entries_numerals key.V 0 ws v tapped,
    ) refl

-- ---- each form

pub read_as : (form : Form) (m p : ℕ) (t : Members) (c : Coefficients) → coefficients_in form m p t ≡ Ok c →
    form ≡ form_of c
unfolding transfer_in cascade_in space_in ladder_in
read_as form.Tf m p t c h =
    let (b, above, past_above) = bind_ok (polynomial_in key.B t) _ c h in
    let (a, below, past_below) = bind_ok (polynomial_in key.A t) _ c past_above in
    let (u, one, same) = bind_ok (monic key.A 0 a) (λ u. Ok (coefficients.Tf b a)) c past_below in
    ap form_of (same_ok (coefficients.Tf b a) c same)
read_as form.Sos m p t c h =
    let (vs, got, past_got) = bind_ok (rows_in key.Sections t) _ c h in
    let (u1, any, past_any) = bind_ok (some key.Sections vs) _ c past_got in
    let (u2, few, past_few) = bind_ok (at_most key.Sections vs) _ c past_any in
    let (cs, read, past_read) = bind_ok (matrix key.Sections SECTION_COEFFICIENTS vs) _ c past_few in
    let (u3, one, same) = bind_ok (each_monic key.Sections 0 cs) (λ u. Ok (coefficients.Sos cs)) c past_read in
    ap form_of (same_ok (coefficients.Sos cs) c same)
read_as form.Ss m p t c h =
    let (vs, first, past_first) = bind_ok (state_rows t) _ c h in
    let (x, read, past_read) = bind_ok (matrix key.MatA (item_count vs) vs) _ c past_first in
    let (y, second, past_second) = bind_ok (matrix_in key.MatB (item_count vs) m t) _ c past_read in
    let (z, third, past_third) = bind_ok (matrix_in key.MatC p (item_count vs) t) _ c past_second in
    let (w, fourth, same) = bind_ok (matrix_in key.MatD p m t) (λ w.
    Ok (coefficients.Ss (item_count vs) x y z w)) c past_third in
    ap form_of (same_ok (coefficients.Ss (item_count vs) x y z w) c same)
read_as form.Lattice m p t c h =
    let (k, first, past_first) = bind_ok (reflections_in t) _ c h in
    let (v, second, same) = bind_ok (taps_in (length k) t) (λ v. Ok (coefficients.Lattice k v)) c past_first in
    ap form_of (same_ok (coefficients.Lattice k v) c same)

pub coefficients_read : (form : Form) (m p : ℕ) (t : Members) (c : Coefficients) →
    coefficients_in form m p t ≡ Ok c → DescribesCoefficients m p t c
coefficients_read form.Tf m p t c h = transfer_read m p t c h
coefficients_read form.Sos m p t c h = cascade_read m p t c h
coefficients_read form.Ss m p t c h = space_read m p t c h
coefficients_read form.Lattice m p t c h = ladder_read m p t c h

pub coefficients_stand : (m p : ℕ) (t : Members) (c : Coefficients) → 1 ≤ p → DescribesCoefficients m p t c →
    coefficients_in (form_of c) m p t ≡ Ok c
coefficients_stand m p t (coefficients.Tf b a) some h = transfer_stands t b a h
coefficients_stand m p t (coefficients.Sos sections) some h = cascade_stands t sections h
coefficients_stand m p t (coefficients.Ss n A B C D) some h = space_stands m p t n A B C D some h
coefficients_stand m p t (coefficients.Lattice k v) some h = ladder_stands t k v h
