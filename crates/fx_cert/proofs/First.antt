-- The fault that is read is the first.
use Rattle.std.proofs.Common.{◌≡◌, ◌+◌, ◌∙◌, ℕ, zero, suc, Bool, true, false, not, cond, ℤ, pos, List, [], ◌∷◌}
use Rattle.std.proofs.Common.{◌++◌, length, codes, Option, Some, None, Result, Ok, Err, refl, sym, ap, subst}
use Rattle.std.proofs.Common.{arith}
use Rattle.std.specs.Option.{option_or}
use Rattle.std.specs.Str.{bytes_eq}
use Rattle.fx_math.specs.Faults.{◌>>=◌, fault_if, or_fault, unless}
use Rattle.fx_cert.specs.declared.fault.CertFault.{CertFault}
use Rattle.fx_cert.specs.declared.fault.CertFault.TheVariants.{Version, Line, Number, Count, AfterEnd}
use Rattle.fx_cert.specs.Certificate.{Certificate, first_line}
use Rattle.fx_cert.specs.FirstFault.{bound_fault, each_wanted, end_fault, error_fault, fault_from, fault_in}
use Rattle.fx_cert.specs.FirstFault.{first_fault, named, outputs_fault, outputs_of, passes, rows_fault, rows_of}
use Rattle.fx_cert.specs.FirstFault.{text_behind, wanted}
use Rattle.fx_cert.specs.Laws.{FirstFaultLaw}
use Rattle.fx_cert.specs.Lines.{TextLine, are_none}
use Rattle.fx_math.specs.Answers.{Gives, IsFault}
use Rattle.fx_cert.specs.Reading.{begins, behind, behind_head, bound_at, bounds_in, certificate_in, each_at}
use Rattle.fx_cert.specs.Reading.{end_at, ended_line, error_at, errors_in, is_memory, length_in, number_behind}
use Rattle.fx_cert.specs.Reading.{number_within, numbered_at, outputs_at}
use Rattle.fx_cert.proofs.Sound.{bind_ok, cond_ok, done, fault_ok, ok_is}

-- ---- the fault from a line on, where what follows it is read

abbrev Wants : Type 0
Wants = List (ℕ → List ℕ → Option CertFault)

abbrev fault_behind : {A : Type 0} → ℕ → Wants → Result (A × List TextLine) CertFault → Option CertFault
fault_behind n ws (Ok p) = fault_from n ws p.1
fault_behind n ws (Err e) = Some e

-- a step of line n with what is wanted of it
abbrev IsStep : {A : Type 0} → ℕ → (ℕ → List ℕ → Option CertFault) →
    (List TextLine → Result (A × List TextLine) CertFault) → Type 0
IsStep n want step = (ws : Wants) (ls : List TextLine) → fault_from n (want ∷ ws) ls ≡ fault_behind (n + 1) ws (step ls)

number_text : {A : Type 0} (make : ℕ → A) (n : ℕ) (ws : Wants) (ls : List TextLine) (r : Result ℕ CertFault)
    → option_or (fault_in r) (fault_from n ws ls) ≡ fault_behind n ws (r >>= λ v. Ok (make v, ls))
number_text make n ws ls (Ok v) = refl
number_text make n ws ls (Err e) = refl

counted_text : {A : Type 0} (make : ℕ → A) (n : ℕ) (ws : Wants) (ls : List TextLine) (fault : CertFault)
    (b : Bool) (r : Result ℕ CertFault)
    → option_or (fault_if b fault (fault_in r)) (fault_from n ws ls)
    ≡ fault_behind n ws (unless fault (not b) >>= λ u. r >>= λ v. Ok (make v, ls))
counted_text make n ws ls fault true r = refl
counted_text make n ws ls fault false r = number_text make n ws ls r

ended_cases : {A : Type 0} (n : ℕ) (ws : Wants) (l : TextLine) (ls : List TextLine) (b : Bool)
    (here : Option CertFault) (next : List ℕ × List TextLine → Result (A × List TextLine) CertFault)
    → option_or here (fault_from (n + 1) ws ls) ≡ fault_behind (n + 1) ws (next (l.text, ls))
    → cond b (option_or here (fault_from (n + 1) ws ls)) (Some (Line n))
    ≡ fault_behind (n + 1) ws (cond b (Ok (l.text, ls)) (Err (Line n)) >>= next)
ended_cases n ws l ls true here next h = h
ended_cases n ws l ls false here next h = refl

numbered_step : (n : ℕ) (word : List ℕ) (low high : ℕ) →
    IsStep n (λ m text. fault_in (number_behind m word low high text)) (numbered_at n word low high)
unfolding numbered_at ended_line fault_from
numbered_step n word low high ws [] = refl
numbered_step n word low high ws (l ∷ ls) =
    ended_cases n ws l ls l.ended (fault_in (number_behind n word low high l.text)) (λ line.
    number_behind n word low high line.0 >>= λ v. Ok (v, line.1))
    (number_text (λ v. v) (n + 1) ws ls (number_behind n word low high l.text))

bound_step : (rows i : ℕ) → IsStep (i + 4) (bound_fault rows i) (bound_at rows i)
unfolding bound_at ended_line fault_from
bound_step rows i ws [] = refl
bound_step rows i ws (l ∷ ls) =
    ended_cases (i + 4) ws l ls l.ended (bound_fault rows i (i + 4) l.text)
    (λ line. unless (Count (i + 4) i rows) (not (begins (codes "outputs ") line.0)) >>= λ u.
    number_behind (i + 4) (codes "X ") 0 2147483647 line.0 >>= λ v. Ok (pos v, line.1))
    (counted_text pos (i + 4 + 1) ws ls (Count (i + 4) i rows) (begins (codes "outputs ") l.text)
    (number_behind (i + 4) (codes "X ") 0 2147483647 l.text))

outputs_step : (rows : ℕ) → IsStep (rows + 4) (outputs_fault rows) (outputs_at rows)
unfolding outputs_at ended_line fault_from
outputs_step rows ws [] = refl
outputs_step rows ws (l ∷ ls) =
    ended_cases (rows + 4) ws l ls l.ended (outputs_fault rows (rows + 4) l.text)
    (λ line. unless (Count (rows + 4) (rows + 1) rows) (not (begins (codes "X ") line.0)) >>= λ u.
    number_behind (rows + 4) (codes "outputs ") 1 4 line.0 >>= λ v. Ok (v, line.1))
    (counted_text (λ v. v) (rows + 4 + 1) ws ls (Count (rows + 4) (rows + 1) rows) (begins (codes "X ") l.text)
    (number_behind (rows + 4) (codes "outputs ") 1 4 l.text))

error_step : (rows outputs o : ℕ) → IsStep (rows + o + 5) (error_fault outputs o) (error_at rows outputs o)
unfolding error_at ended_line fault_from
error_step rows outputs o ws [] = refl
error_step rows outputs o ws (l ∷ ls) =
    ended_cases (rows + o + 5) ws l ls l.ended (error_fault outputs o (rows + o + 5) l.text)
    (λ line. unless (Count (rows + o + 5) o outputs) (not (bytes_eq line.0 (codes "end"))) >>= λ u.
    number_behind (rows + o + 5) (codes "E ") 0 79228162514264337593543950335 line.0 >>= λ v.
    Ok (pos v, line.1))
    (counted_text pos (rows + o + 5 + 1) ws ls (Count (rows + o + 5) o outputs) (bytes_eq l.text (codes "end"))
    (number_behind (rows + o + 5) (codes "E ") 0 79228162514264337593543950335 l.text))

-- ---- the last line

end_text : (n m : ℕ) (many : CertFault) (ls : List TextLine) (b d : Bool)
    → option_or (fault_if b many (fault_if (not d) (Line n) None)) (fault_from m [] ls)
    ≡ fault_in (unless many (not b) >>= λ u. unless (Line n) d >>= λ v. unless AfterEnd (are_none ls))
unfolding fault_from
end_text n m many ls true d = refl
end_text n m many ls false false = refl
end_text n m many [] false true = refl
end_text n m many (l ∷ ls) false true = refl

end_cases : (n : ℕ) (l : TextLine) (ls : List TextLine) (b : Bool) (here : Option CertFault) (next : List ℕ
    × List TextLine → Result (Unit {0}) CertFault)
    → option_or here (fault_from (n + 1) [] ls) ≡ fault_in (next (l.text, ls))
    → cond b (option_or here (fault_from (n + 1) [] ls)) (Some (Line n))
    ≡ fault_in (cond b (Ok (l.text, ls)) (Err (Line n)) >>= next)
end_cases n l ls true here next h = h
end_cases n l ls false here next h = refl

end_step : (rows outputs : ℕ) (ls : List TextLine) →
    fault_from (rows + outputs + 5) (end_fault outputs ∷ []) ls ≡ fault_in (end_at rows outputs ls)
unfolding end_at ended_line fault_from
end_step rows outputs [] = refl
end_step rows outputs (l ∷ ls) =
    end_cases (rows + outputs + 5) l ls l.ended (end_fault outputs (rows + outputs + 5) l.text)
    (λ line. unless (Count (rows + outputs + 5) (outputs + 1) outputs) (not (begins (codes "E ") line.0)) >>=
    λ u. unless (Line (rows + outputs + 5)) (bytes_eq line.0 (codes "end")) >>= λ v.
    unless AfterEnd (are_none line.1))
    (end_text (rows + outputs + 5) (rows + outputs + 5 + 1) (Count (rows + outputs + 5) (outputs + 1) outputs)
    ls (begins (codes "E ") l.text) (bytes_eq l.text (codes "end")))

-- ---- lines of numbers

front_kept : (n : ℕ) (ws : Wants) (z : ℤ) (r : Result (List ℤ × List TextLine) CertFault) →
    fault_behind n ws r ≡ fault_behind n ws (r >>= λ others. Ok (z ∷ others.0, others.1))
front_kept n ws z (Ok p) = refl
front_kept n ws z (Err e) = refl

module _ (one : ℕ → List TextLine → Result (ℤ × List TextLine) CertFault) (want : ℕ → ℕ → List ℕ →
    Option CertFault) (line : ℕ → ℕ) (next : (i : ℕ) → line (i + 1) ≡ line i + 1) (step : (i : ℕ) →
    IsStep (line i) (want i) (one i)) where
  each_steps : (k i : ℕ) (ws : Wants) (ls : List TextLine) →
      fault_from (line i) (each_wanted want k i ++ ws) ls ≡ fault_behind (line (i + k)) ws (each_at one k i ls)
  unfolding each_at
  each_steps zero i ws ls = let e : i + 0 ≡ i = omega arith in rw e refl
  each_steps (suc k) i ws ls = step i (each_wanted want k (i + 1) ++ ws) ls
      ∙ go (one i ls) (λ rest. each_steps k (i + 1) ws rest)
    where
      go : (r : Result (ℤ × List TextLine) CertFault) →
          ((rest : List TextLine) → fault_from (line (i + 1)) (each_wanted want k (i + 1) ++ ws) rest
          ≡ fault_behind (line (i + 1 + k)) ws (each_at one k (i + 1) rest))
          → fault_behind (line i + 1) (each_wanted want k (i + 1) ++ ws) r
          ≡ fault_behind (line (i + suc k)) ws (r >>= λ first. each_at one k (i + 1) first.1 >>= λ others.
          Ok (first.0 ∷ others.0, others.1))
      go (Err e) later = refl
      go (Ok first) later =
          let e : i + suc k ≡ i + 1 + k = omega arith in
          rw e (ap (λ (m : ℕ). fault_from m (each_wanted want k (i + 1) ++ ws) first.1) (sym (next i))
          ∙ later first.1 ∙ front_kept (line (i + 1 + k)) ws first.0 (each_at one k (i + 1) first.1))

-- ---- lines that were read

line_opens : (n : ℕ) (ls : List TextLine) (p : List ℕ × List TextLine) → ended_line n ls ≡ Ok p → (k : ℕ) →
    (text_behind 0 ls ≡ p.0) × (text_behind (suc k) ls ≡ text_behind k p.1)
unfolding ended_line
line_opens n [] p e k = absurd cc
line_opens n (l ∷ ls) p e k =
    let (ended, same) = cond_ok l.ended (Line n) (l.text, ls) p e in
    subst (λ (q : List ℕ × List TextLine). (l.text ≡ q.0) × (text_behind k ls ≡ text_behind k q.1)) same (refl, refl)

named_is : (n : ℕ) (word : List ℕ) (high : ℕ) (text : List ℕ) (v : ℕ) →
    number_behind n word 1 high text ≡ Ok v → named word high text ≡ v
unfolding number_behind
named_is n word high text v e =
    let (digits, first, second) =
    bind_ok (or_fault (Line n) (behind word text)) (λ digits.
    or_fault (Number n) (number_within 1 high digits)) v e in
    let number : number_within 1 high digits ≡ Some v = fault_ok (Number n) (number_within 1 high digits) v second in
    let front : behind word text ≡ Some digits = fault_ok (Line n) (behind word text) digits first in
    rw (front, number) refl

-- the lines go on behind the first
abbrev Opens : {A : Type 0} → List TextLine → A × List TextLine → Type 0
Opens ls p = (k : ℕ) → text_behind (suc k) ls ≡ text_behind k p.1

numbered_opens : (n : ℕ) (word : List ℕ) (low high : ℕ) (ls : List TextLine) (p : ℕ × List TextLine) →
    numbered_at n word low high ls ≡ Ok p →
    Opens ls p × (number_behind n word low high (text_behind 0 ls) ≡ Ok p.0)
unfolding numbered_at
numbered_opens n word low high ls p e =
    let (l, first, second) =
    bind_ok (ended_line n ls) (λ l. number_behind n word low high l.0 >>= λ v. Ok (v, l.1)) p e in
    let (v, third, last) = bind_ok (number_behind n word low high l.0) (λ v. Ok (v, l.1)) p second in
    let text : text_behind 0 ls ≡ l.0 = (line_opens n ls l first 0).0 in
    subst (λ (q : ℕ × List TextLine). Opens ls q × (number_behind n word low high (text_behind 0 ls) ≡ Ok q.0))
    (ok_is (v, l.1) p last)
    (λ k. (line_opens n ls l first k).1, ap (number_behind n word low high) text ∙ third)

counted_opens : {A : Type 0} (make : ℕ → A) (n : ℕ) (fault : CertFault) (test : List ℕ →
    Bool) (word : List ℕ) (low high : ℕ) (ls : List TextLine) (p : A × List TextLine)
    → (ended_line n ls >>= λ l. unless fault (test l.0) >>= λ u. number_behind n word low high l.0 >>= λ v.
    Ok (make v, l.1)) ≡ Ok p
    → Opens ls p × ((v : ℕ) × (number_behind n word low high (text_behind 0 ls) ≡ Ok v) × (make v ≡ p.0))
counted_opens {A} make n fault test word low high ls p e =
    let (l, first, second) =
    bind_ok (ended_line n ls) (λ l. unless fault (test l.0) >>= λ u.
    number_behind n word low high l.0 >>= λ v. Ok (make v, l.1)) p e in
    let (u, third, fourth) =
    bind_ok (unless fault (test l.0)) (λ u. number_behind n word low high l.0 >>= λ v.
    Ok (make v, l.1)) p second in
    let (v, fifth, last) = bind_ok (number_behind n word low high l.0) (λ v. Ok (make v, l.1)) p fourth in
    let text : text_behind 0 ls ≡ l.0 = (line_opens n ls l first 0).0 in
    let number : number_behind n word low high (text_behind 0 ls) ≡ Ok v =
    ap (number_behind n word low high) text ∙ fifth in
    subst (λ (q : A × List TextLine).
    Opens ls q × ((v : ℕ) × (number_behind n word low high (text_behind 0 ls) ≡ Ok v) × (make v ≡ q.0)))
    (ok_is (make v, l.1) p last)
    (λ k. (line_opens n ls l first k).1, (v, number, refl))

bound_opens : (rows i : ℕ) (ls : List TextLine) (p : ℤ × List TextLine) → bound_at rows i ls ≡ Ok p → Opens ls p
unfolding bound_at
bound_opens rows i ls p e =
    (counted_opens pos (i + 4) (Count (i + 4) i rows) (λ t.
    not (begins (codes "outputs ") t)) (codes "X ") 0 2147483647 ls p e).0

-- so many lines behind
record Passed (count : ℕ) (ls : List TextLine) (p : List ℤ × List TextLine) : Type 0 where
  count_is : length p.0 ≡ count
  later : (j : ℕ) → text_behind (count + j) ls ≡ text_behind j p.1

passed_one : (k : ℕ) (z : ℤ) (ls rest : List TextLine) (p : List ℤ × List TextLine) →
    ((j : ℕ) → text_behind (suc j) ls ≡ text_behind j rest) → Passed k rest p → Passed (suc k) ls (z ∷ p.0, p.1)
passed_one k z ls rest p first h = record {
  count_is = ap (λ (m : ℕ). suc m) h.count_is;
  later = λ j. let e : suc k + j ≡ suc (k + j) = omega arith in rw e (first (k + j) ∙ h.later j);
}

module _ (one : ℕ → List TextLine → Result (ℤ × List TextLine) CertFault)
    (opens : (i : ℕ) (ls : List TextLine) (p : ℤ × List TextLine) → one i ls ≡ Ok p → Opens ls p) where
  each_passed : (k i : ℕ) (ls : List TextLine) (p : List ℤ × List TextLine) → each_at one k i ls ≡ Ok p → Passed k ls p
  unfolding each_at
  each_passed zero i ls p e =
      subst (Passed 0 ls) (ok_is ([], ls) p e) (record {
        count_is = refl;
        later = λ j. let e : 0 + j ≡ j =
            omega arith in rw e refl;
      })
  each_passed (suc k) i ls p e =
      let (first, read, more) =
      bind_ok (one i ls) (λ first. each_at one k (i + 1) first.1 >>= λ others.
      Ok (first.0 ∷ others.0, others.1)) p e in
      let (others, reads, last) =
      bind_ok (each_at one k (i + 1) first.1) (λ others. Ok (first.0 ∷ others.0, others.1)) p more in
      subst (Passed (suc k) ls) (ok_is (first.0 ∷ others.0, others.1) p last)
      (passed_one k first.0 ls first.1 others (opens i ls first read)
      (each_passed k (i + 1) first.1 others reads))

-- ---- the parts

kept : {A B : Type 0} (f : A → B) (r : Result A CertFault) → fault_in r ≡ fault_in (r >>= λ x. done (f x))
kept f (Ok x) = refl
kept f (Err e) = refl

-- what is wanted behind the errors' count
abbrev errors_wanted : ℕ → Wants
errors_wanted outputs = each_wanted (error_fault outputs) outputs 0 ++ end_fault outputs ∷ []

after_errors : (rows outputs : ℕ) (r : Result (List ℤ × List TextLine) CertFault) →
    fault_behind (rows + (0 + outputs) + 5) (end_fault outputs ∷ []) r
    ≡ fault_in (r >>= λ errors. end_at rows outputs errors.1 >>= λ u. done errors.0)
after_errors rows outputs (Err e) = refl
after_errors rows outputs (Ok errors) = let e : 0 + outputs ≡ outputs =
    omega arith in rw e (end_step rows outputs errors.1 ∙ kept (λ u. errors.0) (end_at rows outputs errors.1))

errors_steps : (rows outputs : ℕ) (ls : List TextLine) → fault_from (rows + 4 + 1) (errors_wanted outputs) ls
    ≡ fault_in (each_at (error_at rows outputs) outputs 0 ls >>= λ errors.
    end_at rows outputs errors.1 >>= λ u. done errors.0)
errors_steps rows outputs ls =
    let e : rows + 4 + 1 ≡ rows + 0 + 5 = omega arith in
    rw e (each_steps (error_at rows outputs) (error_fault outputs) (λ o. rows + o + 5) (λ o.
    omega arith) (error_step rows outputs) outputs 0 (end_fault outputs ∷ []) ls
    ∙ after_errors rows outputs (each_at (error_at rows outputs) outputs 0 ls))

outputs_named : (rows : ℕ) (ls : List TextLine) (p : ℕ × List TextLine) → outputs_at rows ls ≡ Ok p →
    named (codes "outputs ") 4 (text_behind 0 ls) ≡ p.0
unfolding outputs_at
outputs_named rows ls p e =
    let (opens, (v, number, same)) =
    counted_opens (λ n. n) (rows + 4) (Count (rows + 4) (rows + 1) rows) (λ t.
    not (begins (codes "X ") t)) (codes "outputs ") 1 4 ls p e in
    named_is (rows + 4) (codes "outputs ") 4 (text_behind 0 ls) v number ∙ same

after_outputs : (rows outputs : ℕ) (r : Result (ℕ × List TextLine) CertFault) →
    ((p : ℕ × List TextLine) → r ≡ Ok p → outputs ≡ p.0)
    → fault_behind (rows + 4 + 1) (errors_wanted outputs) r
    ≡ fault_in (r >>= λ o. each_at (error_at rows o.0) o.0 0 o.1 >>= λ errors.
    end_at rows o.0 errors.1 >>= λ u. done errors.0)
after_outputs rows outputs (Err e) are = refl
after_outputs rows outputs (Ok p) are = rw (are p refl) (errors_steps rows p.0 p.1)

outputs_steps : (rows outputs : ℕ) (ls : List TextLine) →
    outputs ≡ named (codes "outputs ") 4 (text_behind 0 ls) →
    fault_from (rows + 4) (outputs_fault rows ∷ errors_wanted outputs) ls ≡ fault_in (errors_in rows ls)
unfolding errors_in
outputs_steps rows outputs ls are = outputs_step rows (errors_wanted outputs) ls
    ∙ after_outputs rows outputs (outputs_at rows ls) (λ p e. are ∙ outputs_named rows ls p e)

-- what is wanted behind the rows' count
abbrev bounds_wanted : ℕ → ℕ → Wants
bounds_wanted rows outputs = each_wanted (bound_fault rows) rows 0 ++ outputs_fault rows ∷ errors_wanted outputs

abbrev errors_behind : List ℤ × List TextLine → Result (List ℤ) CertFault
errors_behind bounds = errors_in (length bounds.0) bounds.1

after_bounds : (rows outputs : ℕ) (ls : List TextLine) (r : Result (List ℤ × List TextLine) CertFault) →
    ((p : List ℤ × List TextLine) → r ≡ Ok p → Passed rows ls p)
    → outputs ≡ named (codes "outputs ") 4 (text_behind rows ls) →
    fault_behind (0 + rows + 4) (outputs_fault rows ∷ errors_wanted outputs) r
    ≡ fault_in (r >>= errors_behind)
after_bounds rows outputs ls (Err e) passed are = refl
after_bounds rows outputs ls (Ok p) passed are =
    let h = passed p refl in
    let e : 0 + rows ≡ rows = omega arith in
    let all : rows + 0 ≡ rows = omega arith in
    let text : text_behind rows ls ≡ text_behind 0 p.1 = rw all at (h.later 0) in
    rw (e, h.count_is) (outputs_steps rows outputs p.1 (are ∙ ap (named (codes "outputs ") 4) text))

bounds_steps : (rows outputs : ℕ) (ls : List TextLine) → outputs ≡ named (codes "outputs ") 4 (text_behind rows ls)
    → fault_from 4 (bounds_wanted rows outputs) ls ≡ fault_in (each_at (bound_at rows) rows 0 ls >>= errors_behind)
bounds_steps rows outputs ls are =
    each_steps (bound_at rows) (bound_fault rows) (λ i. i + 4) (λ i.
    omega arith) (bound_step rows) rows 0 (outputs_fault rows ∷ errors_wanted outputs) ls
    ∙ after_bounds rows outputs ls (each_at (bound_at rows) rows 0 ls)
    (each_passed (bound_at rows) (bound_opens rows) rows 0 ls) are

after_rows : (rows outputs : ℕ) (ls : List TextLine) (r : Result (ℕ × List TextLine) CertFault) →
    ((p : ℕ × List TextLine) → r ≡ Ok p → Opens ls p × (rows ≡ p.0))
    → outputs ≡ named (codes "outputs ") 4 (text_behind (suc rows) ls)
    → fault_behind 4 (bounds_wanted rows outputs) r
    ≡ fault_in ((r >>= λ p. each_at (bound_at p.0) p.0 0 p.1) >>= errors_behind)
after_rows rows outputs ls (Err e) opens are = refl
after_rows rows outputs ls (Ok p) opens are =
    let h = opens p refl in
    subst (λ (m : ℕ). fault_from 4 (bounds_wanted rows outputs) p.1
    ≡ fault_in (each_at (bound_at m) m 0 p.1 >>= errors_behind)) h.1
    (bounds_steps rows outputs p.1 (are ∙ ap (named (codes "outputs ") 4) (h.0 rows)))

rows_opens : (rows : ℕ) (ls : List TextLine) → rows ≡ named (codes "rows ") 64 (text_behind 0 ls) →
    (p : ℕ × List TextLine) → numbered_at 3 (codes "rows ") 1 64 ls ≡ Ok p → Opens ls p × (rows ≡ p.0)
rows_opens rows ls is p e =
    let (opens, number) = numbered_opens 3 (codes "rows ") 1 64 ls p e in
    (opens, is ∙ named_is 3 (codes "rows ") 64 (text_behind 0 ls) p.0 number)

rows_steps : (rows outputs : ℕ) (ls : List TextLine) → rows ≡ named (codes "rows ") 64 (text_behind 0 ls) →
    outputs ≡ named (codes "outputs ") 4 (text_behind (suc rows) ls)
    → fault_from 3 (rows_fault ∷ bounds_wanted rows outputs) ls ≡ fault_in (bounds_in ls >>= errors_behind)
unfolding bounds_in
rows_steps rows outputs ls is are =
    numbered_step 3 (codes "rows ") 1 64 (bounds_wanted rows outputs) ls
    ∙ after_rows rows outputs ls (numbered_at 3 (codes "rows ") 1 64 ls) (rows_opens rows ls is) are

abbrev with_length : ℕ → List ℤ × List TextLine → Result Certificate CertFault
with_length len bounds = errors_in (length bounds.0) bounds.1 >>= λ errors.
    done (record { length = len; bounds = bounds.0; errors = errors })

kept_bounds : (len : ℕ) (r : Result (List ℤ × List TextLine) CertFault) →
    fault_in (r >>= errors_behind) ≡ fault_in (r >>= with_length len)
kept_bounds len (Err e) = refl
kept_bounds len (Ok bounds) =
    kept (λ errors. record { length = len; bounds = bounds.0; errors = errors })
    (errors_in (length bounds.0) bounds.1)

abbrev with_head : ℕ × List TextLine → Result Certificate CertFault
with_head len = bounds_in len.1 >>= with_length len.0

after_length : (rows outputs : ℕ) (ls : List TextLine) (r : Result (ℕ × List TextLine) CertFault) →
    ((p : ℕ × List TextLine) → r ≡ Ok p → Opens ls p)
    → rows ≡ named (codes "rows ") 64 (text_behind 1 ls) →
    outputs ≡ named (codes "outputs ") 4 (text_behind (suc (suc rows)) ls)
    → fault_behind 3 (rows_fault ∷ bounds_wanted rows outputs) r ≡ fault_in (r >>= with_head)
after_length rows outputs ls (Err e) opens is are = refl
after_length rows outputs ls (Ok p) opens is are =
    let h = opens p refl in
    rows_steps rows outputs p.1 (is ∙ ap (named (codes "rows ") 64) (h 0)) (are
    ∙ ap (named (codes "outputs ") 4) (h (suc rows))) ∙ kept_bounds p.0 (bounds_in p.1)

length_steps : (rows outputs : ℕ) (ls : List TextLine) → rows ≡ named (codes "rows ") 64 (text_behind 1 ls) →
    outputs ≡ named (codes "outputs ") 4 (text_behind (suc (suc rows)) ls)
    → fault_from 2 (wanted rows outputs) ls ≡ fault_in (numbered_at 2 (codes "length ") 1 4096 ls >>= with_head)
length_steps rows outputs ls is are =
    numbered_step 2 (codes "length ") 1 4096 (rows_fault ∷ bounds_wanted rows outputs) ls
    ∙ after_length rows outputs ls (numbered_at 2 (codes "length ") 1 4096 ls) (λ p e.
    (numbered_opens 2 (codes "length ") 1 4096 ls p e).0) is are

-- ---- the whole

head_cases : (b d : Bool) (ls : List TextLine) (next : List TextLine →
    Result (ℕ × List TextLine) CertFault) (rest : Option CertFault) → fault_in (next ls >>= with_head) ≡ rest
    → fault_in ((cond b (cond d (done ls) (Err (Line 1))) (Err Version) >>= next) >>= with_head)
    ≡ fault_if (not b) Version (fault_if (not d) (Line 1) rest)
head_cases true true ls next rest h = h
head_cases true false ls next rest h = refl
head_cases false d ls next rest h = refl

outputs_line : (l : TextLine) (ls : List TextLine) (rows : ℕ) →
    named (codes "outputs ") 4 (text_behind (rows + 3) (l ∷ ls))
    ≡ named (codes "outputs ") 4 (text_behind (suc (suc rows)) ls)
outputs_line l ls rows = let e : rows + 3 ≡ suc (suc (suc rows)) = omega arith in rw e refl

pub first_law : FirstFaultLaw
unfolding certificate_in length_in behind_head first_fault
first_law [] = refl
first_law (l ∷ ls) =
    head_cases (bytes_eq l.text first_line) l.ended ls (numbered_at 2 (codes "length ") 1 4096)
    (fault_from 2 (wanted (rows_of (l ∷ ls)) (outputs_of (l ∷ ls))) ls)
    (sym (length_steps (rows_of (l ∷ ls)) (outputs_of (l ∷ ls)) ls refl (outputs_line l ls (rows_of (l ∷ ls)))))

fault_passes : (memory : Bool) (e : CertFault) (due : Result Certificate CertFault) → IsFault memory e due →
    IsFault memory e (passes (fault_in due))
fault_passes true e due h = tt
fault_passes false e due h = rw h refl

gives_first : (r due : Result Certificate CertFault) → Gives is_memory (λ c. c) r due →
    Gives is_memory (λ c. tt) r (passes (fault_in due))
gives_first (Ok c) due h = rw h refl
gives_first (Err e) due h = fault_passes (is_memory e) e due h

-- what a reader answers tells the first fault
pub tells_first : (ls : List TextLine) (r : Result Certificate CertFault) →
    Gives is_memory (λ c. c) r (certificate_in ls) → Gives is_memory (λ c. tt) r (passes (first_fault ls))
tells_first ls r h = subst (λ o. Gives is_memory (λ c. tt) r (passes o)) (first_law ls)
    (gives_first r (certificate_in ls) h)
