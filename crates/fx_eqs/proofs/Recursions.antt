-- The terms of recursions fit: of one, and of sections that read each other.
use Rattle.std.proofs.Common.{◌≡◌, ℕ, zero, suc, ◌+◌, ◌*◌, ◌-◌, ◌/◌, ◌≤◌, ◌<◌, false, None, List, [], length}
use Rattle.std.proofs.Common.{length-append, length-drop, length-take, take, drop, map, refl, arith, subst}
use Rattle.std.proofs.Common.{lit<, lit≤}
use Rattle.std.proofs.lemmas.Bool.{ne_eqb}
use Rattle.std.proofs.lemmas.List.{length-map}
use Rattle.std.proofs.lemmas.List.Elements.{All-append, All-weaker}
use Rattle.fx_nums.specs.Fraction.{Fraction, minus}
use Rattle.fx_eqs.specs.Faults.{is_same_read, eqs_fault}
use Rattle.fx_eqs.specs.Lags.{same_source}
use Rattle.fx_eqs.specs.Textbook.{over_lags, recursion, tf_terms, sections, sos_terms}
use Rattle.fx_eqs.specs.declared.term.Source.{Source}
use Rattle.fx_eqs.specs.declared.term.Source.TheVariants.{Row, In}
use Rattle.fx_eqs.specs.declared.term.Term.{Term}
use Rattle.fx_eqs.proofs.Distinct.{distinct_append}
use Rattle.fx_eqs.proofs.Parts.{LagTerm, lag_terms, lag_terms_once, length-over_lags, IsRead, lag_term_in}
use Rattle.fx_eqs.proofs.Parts.{TermIn, Block, block_nil, block_append, block_has_no_fault, apart_by}
use Rattle.fx_eqs.proofs.Parts.{other_source}

-- a source that a row may read at every lag, and that is not the row itself
record IsBefore (rows inputs row : ℕ) (from : Source) : Type 0 where
  read : (lag : ℕ) → IsRead rows inputs row from lag
  other : same_source from (Row row) ≡ false

input_before : (rows inputs row j : ℕ) → j < inputs → IsBefore rows inputs row (In j)
input_before rows inputs row j h = record { read = λ lag. record { fits = h; causal = tt }; other = refl }

row_before : (rows inputs row j : ℕ) → j < row → j < rows → IsBefore rows inputs row (Row j)
row_before rows inputs row j h l =
    record {
      read = λ lag. record { fits = l; causal = λ zero_lag. h };
      other =
          ne_eqb j row (λ same. omega arith);
    }

-- a recursion is a block of one row
recursion_in : (rows inputs most width row : ℕ) (from : Source) (b a : List Fraction) → row < rows →
    IsBefore rows inputs row from → length b ≤ most + 2 → length a ≤ most + 2 →
    length b + (length a - 1) ≤ width →
    Block rows inputs most width row (row + 1) (recursion row from b a)
recursion_in rows inputs most width row from b a h before short_b short_a few =
    let front = over_lags row from 0 b in
    let fed = map minus (drop 1 a) in
    let back = over_lags row (Row row) 1 fed in
    let long : length fed ≡ length a - 1 = rw (length-map (drop 1 a) minus) (length-drop 1 a) in
    let fronts = lag_terms row from 0 b (most + 2) (omega arith) in
    let backs = lag_terms row (Row row) 1 fed (most + 2) (omega arith) in
    record {
      each = All-append (TermIn rows inputs most row (row + 1)) front back
          (All-weaker (LagTerm row from 0 (most + 2)) (TermIn rows inputs most row (row + 1))
          (lag_term_in rows inputs most row from 0 (most + 2) h (omega arith) (λ lag late. before.read lag))
          front fronts)
          (All-weaker (LagTerm row (Row row) 1 (most + 2)) (TermIn rows inputs most row (row + 1))
          (lag_term_in rows inputs most row (Row row) 1 (most + 2) h (omega arith) (λ lag late.
          record { fits = h; causal = λ zero_lag. omega arith })) back backs);
      once = distinct_append (λ (e t : Term). is_same_read t e) front back (lag_terms_once row from 0 b)
          (lag_terms_once row (Row row) 1 fed)
          (apart_by (LagTerm row from 0 (most + 2)) (LagTerm row (Row row) 1 (most + 2)) (λ e t l m.
          other_source e t (rw (l.from_is, m.from_is) before.other)) front back fronts backs);
      count = let x = length-append front back in let y = length-over_lags row from 0 b in let z =
          length-over_lags row (Row row) 1 fed in omega arith;
    }

-- ---- transfer functions

pub tf_has_no_fault : (b a : List Fraction) → length b ≤ 13 → length a ≤ 13 → eqs_fault 1 1 (tf_terms b a) ≡ None
tf_has_no_fault b a short_b short_a =
    block_has_no_fault 1 1 11 25 (lit≤ tt) (lit≤ tt) (lit≤ tt) (lit≤ tt) (tf_terms b a)
    (recursion_in 1 1 11 25 0 (In 0) b a (lit< tt) (input_before 1 1 0 0 (lit< tt)) short_b short_a (omega arith))

-- ---- second-order sections

-- each section reads the row before it, and its own
sections_in : (rows count row : ℕ) (from : Source) (cs : List Fraction) → row + count ≡ rows →
    IsBefore rows 1 row from → Block rows 1 1 5 row rows (sections count row from cs)
sections_in rows zero row from cs all before = let same : row ≡ rows =
    omega arith in subst (λ high. Block rows 1 1 5 row high []) same (block_nil rows 1 1 5 row)
sections_in rows (suc count) row from cs all before =
    let b = take 3 cs in
    let a = take 3 (drop 3 cs) in
    let long_b = length-take 3 cs in
    let long_a = length-take 3 (drop 3 cs) in
    block_append rows 1 1 5 row (row + 1) rows (omega arith) (omega arith) (recursion row from b a)
    (sections count (row + 1) (Row row) (drop 6 cs))
    (recursion_in rows 1 1 5 row from b a (omega arith) before (omega arith) (omega arith) (omega arith))
    (sections_in rows count (row + 1) (Row row) (drop 6 cs) (omega arith)
    (row_before rows 1 (row + 1) row (omega arith) (omega arith)))

pub sos_has_no_fault : (count : ℕ) (cs : List Fraction) → 1 ≤ count → count ≤ 8 → length cs ≡ 6 * count →
    eqs_fault count 1 (sos_terms cs) ≡ None
sos_has_no_fault count cs some few long =
    let whole : length cs / 6 ≡ count = omega arith in
    block_has_no_fault count 1 1 5 some (omega arith) (lit≤ tt) (omega arith) (sos_terms cs)
    (sections_in count (length cs / 6) 0 (In 0) cs (omega arith) (input_before count 1 0 0 (lit< tt)))
