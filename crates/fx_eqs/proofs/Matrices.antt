-- The terms of state spaces fit.
use Rattle.std.proofs.Common.{◌≡◌, ℕ, zero, suc, ◌+◌, ◌≤◌, ◌<◌, None, List, [], ◌++◌, length-append}
use Rattle.std.proofs.Common.{length-take, take, drop, refl, arith, subst, lit≤}
use Rattle.std.proofs.lemmas.Bool.{ne_eqb}
use Rattle.std.proofs.lemmas.List.Elements.{All-append, All-weaker}
use Rattle.fx_nums.specs.Fraction.{Fraction}
use Rattle.fx_eqs.specs.Faults.{is_same_read, eqs_fault}
use Rattle.fx_eqs.specs.Textbook.{over_sources, matrix_rows, ss_terms}
use Rattle.fx_eqs.specs.declared.term.Source.{Source}
use Rattle.fx_eqs.specs.declared.term.Source.TheVariants.{Row, In}
use Rattle.fx_eqs.specs.declared.term.Term.{Term}
use Rattle.fx_eqs.proofs.Distinct.{distinct_append}
use Rattle.fx_eqs.proofs.Parts.{SourceTerm, source_terms, source_terms_once, length-over_sources}
use Rattle.fx_eqs.proofs.Parts.{source_term_in, TermIn, Block, block_nil, block_append, block_has_no_fault}
use Rattle.fx_eqs.proofs.Parts.{apart_by, other_lag}

-- one row of two matrices
matrix_row_in : (rows n m row : ℕ) (x u : List Fraction) → row < rows → n ≤ rows → n + m ≤ 20 →
    Block rows m 0 20 row (row + 1) (over_sources row (λ j. Row j) 1 0 (take n x) ++ over_sources row (λ j.
    In j) 0 0 (take m u))
matrix_row_in rows n m row x u h l few =
    let state : ℕ → Source = λ j. Row j in
    let input : ℕ → Source = λ j. In j in
    let long_x = length-take n x in
    let long_u = length-take m u in
    let states = source_terms row state 1 0 (take n x) n (omega arith) in
    let inputs = source_terms row input 0 0 (take m u) m (omega arith) in
    let front = over_sources row state 1 0 (take n x) in
    let back = over_sources row input 0 0 (take m u) in
    record {
      each = All-append (TermIn rows m 0 row (row + 1)) front back
          (All-weaker (SourceTerm row state 1 0 n) (TermIn rows m 0 row (row + 1))
          (source_term_in rows m 0 row state 1 0 n h (lit≤ tt) (λ i b.
          record { fits = omega arith; causal = λ zero_lag. omega arith })) front states)
          (All-weaker (SourceTerm row input 0 0 m) (TermIn rows m 0 row (row + 1))
          (source_term_in rows m 0 row input 0 0 m h (lit≤ tt) (λ i b. record { fits = b; causal = tt }))
          back inputs);
      once = distinct_append (λ (e t : Term). is_same_read t e) front back
          (source_terms_once row state 1 0 (take n x) n (λ i k b c. ne_eqb i k (λ same. omega arith)) (omega arith))
          (source_terms_once row input 0 0 (take m u) m (λ i k b c. ne_eqb i k (λ same. omega arith)) (omega arith))
          (apart_by (SourceTerm row state 1 0 n) (SourceTerm row input 0 0 m) (λ e t l m.
          other_lag e t (λ same. let a = l.lag_is in let b = m.lag_is in omega arith)) front back states
          inputs);
      count = let a = length-append front back in let b =
          length-over_sources row state 1 0 (take n x) in let c =
          length-over_sources row input 0 0 (take m u) in omega arith;
    }

-- so many rows
matrix_rows_in : (rows n m : ℕ) → n ≤ rows → n + m ≤ 20 → (count row high : ℕ) (x u : List Fraction) →
    row + count ≡ high → high ≤ rows → Block rows m 0 20 row high (matrix_rows count row n m x u)
matrix_rows_in rows n m l few zero row high x u all h = let same : row ≡ high =
    omega arith in subst (λ high. Block rows m 0 20 row high []) same (block_nil rows m 0 20 row)
matrix_rows_in rows n m l few (suc count) row high x u all h =
    let states = over_sources row (λ j. Row j) 1 0 (take n x) in
    let inputs = over_sources row (λ j. In j) 0 0 (take m u) in
    let rest = matrix_rows count (row + 1) n m (drop n x) (drop m u) in
    block_append rows m 0 20 row (row + 1) high (omega arith) (omega arith) (states ++ inputs) rest
    (matrix_row_in rows n m row x u (omega arith) l few)
    (matrix_rows_in rows n m l few count (row + 1) high (drop n x) (drop m u) (omega arith) h)

pub ss_has_no_fault : (n m p : ℕ) (A B C D : List Fraction) → n ≤ 16 → m ≤ 4 → 1 ≤ p → p ≤ 4 →
    eqs_fault (n + p) m (ss_terms n m p A B C D) ≡ None
ss_has_no_fault n m p A B C D few_states few_inputs some few_outputs =
    block_has_no_fault (n + p) m 0 20 (omega arith) (omega arith) (lit≤ tt) (omega arith) (ss_terms n m p A B C D)
    (block_append (n + p) m 0 20 0 n (n + p) (omega arith) (omega arith) (matrix_rows n 0 n m A B)
    (matrix_rows p n n m C D)
    (matrix_rows_in (n + p) n m (omega arith) (omega arith) n 0 n A B (omega arith) (omega arith))
    (matrix_rows_in (n + p) n m (omega arith) (omega arith) p n (n + p) C D refl (omega arith)))
