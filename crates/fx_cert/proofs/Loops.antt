-- What the loops of the readers keep.
use Rattle.std.proofs.Common.{◌≡◌, ◌++◌, ◌∷◌, [], ◌+◌, ◌-◌, ◌<◌, ◌≤◌, ◌∙◌, ℕ, ℤ, suc, false, sym, ap, subst}
use Rattle.std.proofs.Common.{refl, append_assoc, arith, List, Result, Ok, Err}
use Rattle.std.proofs.lemmas.List.{append-nil}
use Rattle.fx_math.specs.Answers.{Fails}
use Rattle.fx_math.specs.Faults.{◌>>=◌}
use Rattle.fx_math.proofs.Answers.{fails_through}
use Rattle.fx_cert.specs.declared.fault.CertFault.{CertFault}
use Rattle.fx_cert.specs.Lines.{TextLine, in_line}
use Rattle.fx_cert.specs.Reading.{each_at, is_memory}

-- ---- lines

-- a line that is not ended, where there is one
abbrev pub open_line : List ℕ → List TextLine
open_line [] = []
open_line (c ∷ cs) = record { text = c ∷ cs; ended = false } ∷ []

-- the lines with bytes in front of the first
abbrev pub with_line : List ℕ → List TextLine → List TextLine
with_line front [] = open_line front
with_line front (l ∷ ls) = record { text = front ++ l.text; ended = l.ended } ∷ ls

pub with_byte : (front : List ℕ) (c : ℕ) (ls : List TextLine) →
    with_line (front ++ c ∷ []) ls ≡ with_line front (in_line c ls)
with_byte [] c [] = refl
with_byte (b ∷ front) c [] = refl
with_byte front c (l ∷ ls) =
    ap (λ (t : List ℕ). record { text = t; ended = l.ended } ∷ ls) (append_assoc front (c ∷ []) l.text)

-- ---- numbers

-- what was read before, and what is still read
abbrev pub with_front : List ℤ → Result (List ℤ × List TextLine) CertFault → Result (List ℤ × List TextLine) CertFault
with_front front read = read >>= λ x. Ok (front ++ x.0, x.1)

regroup : (front : List ℤ) (n : ℤ) (read : Result (List ℤ × List TextLine) CertFault) →
    with_front front (read >>= λ x. Ok (n ∷ x.0, x.1)) ≡ with_front (front ++ n ∷ []) read
regroup front n (Ok x) = ap (λ (ns : List ℤ). Ok (ns, x.1)) (simp append_assoc)
regroup front n (Err f) = refl

module _ (one : ℕ → List TextLine → Result (ℤ × List TextLine) CertFault) where
  pub goes_on : (front : List ℤ) (count i : ℕ) (lines : List TextLine) (n : ℤ) (after : List TextLine)
      (total : Result (List ℤ × List TextLine) CertFault) → i < count → one i lines ≡ Ok (n, after)
      → with_front front (each_at one (count - i) i lines) ≡ total →
      with_front (front ++ n ∷ []) (each_at one (count - (i + 1)) (i + 1) after) ≡ total
  unfolding each_at
  goes_on front count i lines n after total lt h so_far =
      let k : count - i ≡ suc (count - (i + 1)) = omega arith in
      let step : with_front front (each_at one (count - i) i lines)
      ≡ with_front (front ++ n ∷ []) (each_at one (count - (i + 1)) (i + 1) after)
      = rw (k, h) (regroup front n (each_at one (count - (i + 1)) (i + 1) after)) in
      sym step ∙ so_far

  pub ends : (e : CertFault) (front : List ℤ) (count i : ℕ) (lines : List TextLine)
      (total : Result (List ℤ × List TextLine) CertFault) → i < count → Fails is_memory e (one i lines)
      → with_front front (each_at one (count - i) i lines) ≡ total → Fails is_memory e total
  unfolding each_at
  ends e front count i lines total lt h so_far =
      let k : count - i ≡ suc (count - (i + 1)) = omega arith in
      let rest = λ (first : ℤ × List TextLine). each_at one (count - (i + 1)) (i + 1) first.1 >>= λ others.
      Ok (first.0 ∷ others.0, others.1) in
      let here : Fails is_memory e (with_front front (each_at one (count - i) i lines))
      = rw k (fails_through is_memory e (one i lines >>= rest) (λ x.
      Ok (front ++ x.0, x.1)) (fails_through is_memory e (one i lines) rest h)) in
      subst (Fails is_memory e) so_far here

  pub is_done : (front : List ℤ) (count i : ℕ) (lines : List TextLine)
      (total : Result (List ℤ × List TextLine) CertFault) → count ≤ i →
      with_front front (each_at one (count - i) i lines) ≡ total → total ≡ Ok (front, lines)
  unfolding each_at
  is_done front count i lines total le so_far =
      let k : count - i ≡ 0 = omega arith in
      sym so_far ∙ rw k (ap (λ (ns : List ℤ). Ok (ns, lines)) (append-nil front))
