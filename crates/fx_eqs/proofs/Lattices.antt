-- The terms of lattices fit.
use Rattle.std.proofs.Common.{◌≡◌, ℕ, ◌+◌, ◌*◌, ◌-◌, ◌≤◌, ◌<◌, false, None, List, [], ◌∷◌, ◌++◌, length, sym}
use Rattle.std.proofs.Common.{refl, arith, subst, lit≤, lit<, eqb}
use Rattle.std.proofs.lemmas.Bool.{ne_eqb, cond_both, cond-false, eqb-false}
use Rattle.std.proofs.lemmas.List.Elements.{All-nil, All-cons, All-weaker}
use Rattle.fx_nums.specs.Fraction.{Fraction, one_fraction, minus}
use Rattle.fx_eqs.specs.Faults.{is_same_read, eqs_fault}
use Rattle.fx_eqs.specs.Fits.{SourceFits, IsThereByThen}
use Rattle.fx_eqs.specs.Textbook.{summand, over_sources, forward, backward, forward_rows, backward_rows, lattice_terms}
use Rattle.fx_eqs.specs.declared.term.Source.{Source}
use Rattle.fx_eqs.specs.declared.term.Source.TheVariants.{Row, In}
use Rattle.fx_eqs.specs.declared.term.Term.{Term}
use Rattle.fx_eqs.proofs.Distinct.{distinct_nil, distinct_cons}
use Rattle.fx_eqs.proofs.Parts.{IsRead, AllDiffer, SourceTerm, source_terms, source_terms_once}
use Rattle.fx_eqs.proofs.Parts.{length-over_sources, source_term_in, TermIn, Block, block_nil, block_append}
use Rattle.fx_eqs.proofs.Parts.{block_has_no_fault, other_lag}

-- what was read a moment before is there
there_before : (row : ℕ) (from : Source) → IsThereByThen row from 1
there_before row (Row j) = λ zero_lag. absurd (omega arith)
there_before row (In j) = tt

-- a row of two terms, one that reads this moment and one that reads the moment before
pair_in : (rows row : ℕ) (c d : Fraction) (now old : Source) → row < rows → IsRead rows 1 row now 0 →
    SourceFits rows 1 old → (high : ℕ) → high ≡ row + 1 →
    Block rows 1 0 12 row high (summand row c now 0 ∷ summand row d old 1 ∷ [])
pair_in rows row c d now old h read fits high next =
    let first = summand row c now 0 in
    let last = summand row d old 1 in
    let In_row = TermIn rows 1 0 row high in
    record {
      each = All-cons In_row first (last ∷ []) (record {
        above = omega arith;
        below = omega arith;
        source =
            read.fits;
        lag = lit≤ tt;
        causal = read.causal;
      })
          (All-cons In_row last [] (record {
            above = omega arith;
            below = omega arith;
            source = fits;
            lag =
                lit≤ tt;
            causal = there_before row old;
          }) (All-nil In_row));
      once = distinct_cons (λ (e t : Term). is_same_read t e) first (last ∷ [])
          (All-cons (λ t. is_same_read t first ≡ false) last [] (other_lag first last (λ same. omega arith))
          (All-nil (λ t. is_same_read t first ≡ false)))
          (distinct_cons (λ (e t : Term). is_same_read t e) last []
          (All-nil (λ t. is_same_read t last ≡ false)) (distinct_nil (λ (e t : Term). is_same_read t e)));
      count = omega arith;
    }

-- what f_i and g_i are read from
forward_read : (n i row : ℕ) → i ≤ n → n - i ≤ row → IsRead (2 * n + 1) 1 row (forward n i) 0
forward_read n i row h l =
    cond_both (eqb i n) (In 0) (Row (n - 1 - i)) (λ from. IsRead (2 * n + 1) 1 row from 0)
    (λ at. record { fits = lit< tt; causal = tt })
    (λ below. let apart = eqb-false i n below in record { fits = omega arith; causal = λ zero_lag. omega arith })

-- past N = 0 each g_i is a row
backward_is : (n i : ℕ) → 1 ≤ n → backward n i ≡ Row (n - 1 + i)
backward_is n i h = cond-false (eqb n 0) (In 0) (Row (n - 1 + i)) (ne_eqb n 0 (λ same. omega arith))

backward_fits : (n i : ℕ) → 1 ≤ n → i ≤ n → SourceFits (2 * n + 1) 1 (backward n i)
backward_fits n i some h = rw (backward_is n i some) (omega arith)

-- f_i reads f_(i+1) of its moment and g_i of the one before
forward_rows_in : (n i : ℕ) (cs : List Fraction) (high : ℕ) → i + length cs ≡ n → high ≡ n - i →
    Block (2 * n + 1) 1 0 12 0 high (forward_rows n i cs)
forward_rows_in n i [] high all top = let same : 0 ≡ high =
    omega arith in subst (λ high. Block (2 * n + 1) 1 0 12 0 high []) same (block_nil (2 * n + 1) 1 0 12 0)
forward_rows_in n i (c ∷ cs) high all top =
    let row = n - 1 - i in
    block_append (2 * n + 1) 1 0 12 0 row high (omega arith) (omega arith) (forward_rows n (i + 1) cs)
    (summand row one_fraction (forward n (i + 1)) 0 ∷ summand row (minus c) (backward n i) 1 ∷ [])
    (forward_rows_in n (i + 1) cs row (omega arith) (omega arith))
    (pair_in (2 * n + 1) row one_fraction (minus c) (forward n (i + 1)) (backward n i) (omega arith)
    (forward_read n (i + 1) row (omega arith) (omega arith)) (backward_fits n i (omega arith) (omega arith))
    high (omega arith))

-- g_(i+1) reads f_i of its moment and g_i of the one before
backward_rows_in : (n i : ℕ) (cs : List Fraction) (low : ℕ) → i + length cs ≡ n → low ≡ n + i →
    Block (2 * n + 1) 1 0 12 low (2 * n) (backward_rows n i cs)
backward_rows_in n i [] low all at = let same : low ≡ 2 * n =
    omega arith in subst (λ high. Block (2 * n + 1) 1 0 12 low high []) same (block_nil (2 * n + 1) 1 0 12 low)
backward_rows_in n i (c ∷ cs) low all at =
    let row = n + i in
    subst (λ low. Block (2 * n + 1) 1 0 12 low (2 * n) (backward_rows n i (c ∷ cs))) (sym at)
    (block_append (2 * n + 1) 1 0 12 row (row + 1) (2 * n) (omega arith) (omega arith)
    (summand row c (forward n i) 0 ∷ summand row one_fraction (backward n i) 1 ∷ [])
    (backward_rows n (i + 1) cs)
    (pair_in (2 * n + 1) row c one_fraction (forward n i) (backward n i) (omega arith)
    (forward_read n i row (omega arith) (omega arith)) (backward_fits n i (omega arith) (omega arith)) (row
    + 1) refl)
    (backward_rows_in n (i + 1) cs (row + 1) (omega arith) (omega arith)))

-- what the last row reads
backward_read : (n i : ℕ) → i ≤ n → IsRead (2 * n + 1) 1 (2 * n) (backward n i) 0
backward_read n i h =
    cond_both (eqb n 0) (In 0) (Row (n - 1 + i)) (λ from. IsRead (2 * n + 1) 1 (2 * n) from 0)
    (λ none. record { fits = lit< tt; causal = tt })
    (λ some. let apart = eqb-false n 0 some in record { fits = omega arith; causal = λ zero_lag. omega arith })

-- and they are different rows
backwards_differ : (n : ℕ) → AllDiffer (backward n) (n + 1)
backwards_differ n i k h l =
    rw (backward_is n i (omega arith), backward_is n k (omega arith))
    (ne_eqb (n - 1 + i) (n - 1 + k) (λ same. omega arith))

-- the last row
taps_in : (n : ℕ) (v : List Fraction) → n ≤ 11 → length v ≤ n + 1 →
    Block (2 * n + 1) 1 0 12 (2 * n) (2 * n + 1) (over_sources (2 * n) (backward n) 0 0 v)
taps_in n v few h =
    let row = 2 * n in
    record {
      each = All-weaker (SourceTerm row (backward n) 0 0 (n + 1)) (TermIn (2 * n + 1) 1 0 row (row + 1))
          (source_term_in (2 * n + 1) 1 0 row (backward n) 0 0 (n + 1) (omega arith) (lit≤ tt) (λ i b.
          backward_read n i (omega arith))) (over_sources row (backward n) 0 0 v)
          (source_terms row (backward n) 0 0 v (n + 1) (omega arith));
      once = source_terms_once row (backward n) 0 0 v (n + 1) (backwards_differ n) (omega arith);
      count = let long = length-over_sources row (backward n) 0 0 v in omega arith;
    }

pub lattice_has_no_fault : (k v : List Fraction) → length k ≤ 11 → length v ≤ length k + 1 →
    eqs_fault (2 * length k + 1) 1 (lattice_terms k v) ≡ None
lattice_has_no_fault k v few taps =
    let n = length k in
    let rows = 2 * n + 1 in
    let fs = forward_rows n 0 k in
    let gs = backward_rows n 0 k in
    let ys = over_sources (2 * n) (backward n) 0 0 v in
    block_has_no_fault rows 1 0 12 (omega arith) (omega arith) (lit≤ tt) (omega arith) (lattice_terms k v)
    (block_append rows 1 0 12 0 (2 * n) rows (omega arith) (omega arith) (fs ++ gs) ys
    (block_append rows 1 0 12 0 n (2 * n) (omega arith) (omega arith) fs gs
    (forward_rows_in n 0 k n (omega arith) (omega arith))
    (backward_rows_in n 0 k n (omega arith) (omega arith)))
    (taps_in n v few taps))
