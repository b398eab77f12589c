-- The lines that are read as a certificate make its text.
use Rattle.std.proofs.Common.{◌≡◌, ◌≤◌, ◌<◌, ◌+◌, ◌^◌, ◌∙◌, ℕ, zero, suc, Bool, true, false, not, cond, ℤ, pos}
use Rattle.std.proofs.Common.{List, [], ◌∷◌, ◌++◌, length, drop, codes, decimal, All, Option, Some, None}
use Rattle.std.proofs.Common.{Result, Ok, Err, refl, sym, ap, subst, append_assoc, arith, lit<}
use Rattle.std.specs.Fmt.{signed_decimal}
use Rattle.std.specs.List.{starts_with}
use Rattle.std.specs.Str.{bytes_eq}
use Rattle.std.specs.Prelude.{nat_eq}
use Rattle.std.proofs.lemmas.Bool.Decides.{Decides-eqb}
use Rattle.std.proofs.lemmas.List.Elements.{All-nil, All-cons}
use Rattle.std.proofs.lemmas.Slice.Eq.{bytes_eq-Decides, starts_is}
use Rattle.std.proofs.lemmas.Int.{ints}
use Rattle.fx_math.specs.Faults.{◌>>=◌, or_fault, unless}
use Rattle.fx_msb.specs.Widths.{IsBound}
use Rattle.fx_cert.specs.declared.fault.CertFault.{CertFault}
use Rattle.fx_cert.specs.declared.fault.CertFault.TheVariants.{Version, Line, Number, Count, AfterEnd}
use Rattle.fx_cert.specs.Certificate.{Certificate, CertificateFits, IsError, IsTextOf, first_line, numbered}
use Rattle.fx_cert.specs.Certificate.{numbered_each}
use Rattle.fx_cert.specs.Lines.{TextLine, are_none, joined, lines_of}
use Rattle.fx_cert.specs.Reading.{begins, behind, behind_head, bound_at, bounds_in, certificate_in, each_at}
use Rattle.fx_cert.specs.Reading.{end_at, ended_line, error_at, errors_in, length_in, number_behind}
use Rattle.fx_cert.specs.Reading.{number_within, numbered_at, outputs_at}
use Rattle.fx_cert.proofs.NumberLaws.{number_takes}
use Rattle.fx_cert.proofs.LineLaws.{lines_join}

-- ---- steps

pub bind_ok : {A B : Type 0} (r : Result A CertFault) (f : A → Result B CertFault) (y : B) → (r >>= f) ≡ Ok y →
    (x : A) × (r ≡ Ok x) × (f x ≡ Ok y)
bind_ok (Ok x) f y e = (x, refl, e)
bind_ok (Err d) f y e = absurd cc

pub fault_ok : {A : Type 0} (f : CertFault) (o : Option A) (x : A) → or_fault f o ≡ Ok x → o ≡ Some x
fault_ok f None x e = absurd cc
fault_ok f (Some y) x e = cc

unless_ok : (f : CertFault) (b : Bool) (u : Unit {0}) → unless f b ≡ Ok u → b ≡ true
unless_ok f true u e = refl
unless_ok f false u e = absurd cc

abbrev pub done : {A : Type 0} → A → Result A CertFault
done x = Ok x

pub ok_is : {A : Type 0} (x y : A) → done x ≡ done y → x ≡ y
ok_is x y e = cc

-- ---- one line

pub cond_ok : {A : Type 0} (b : Bool) (f : CertFault) (x y : A) → cond b (done x) (Err f) ≡ Ok y → (b ≡ true) × (x ≡ y)
cond_ok true f x y e = (refl, cc)
cond_ok false f x y e = absurd cc

ended_joined : (l : TextLine) (ls : List TextLine) → l.ended ≡ true → joined (l ∷ ls) ≡ l.text ++ 10 ∷ joined ls
ended_joined l ls h = rw h refl

line_stands : (n : ℕ) (ls : List TextLine) (p : List ℕ × List TextLine) → ended_line n ls ≡ Ok p →
    joined ls ≡ p.0 ++ 10 ∷ joined p.1
unfolding ended_line
line_stands n [] p e = absurd cc
line_stands n (l ∷ ls) p e =
    let (ended, same) = cond_ok l.ended (Line n) (l.text, ls) p e in
    subst (λ (q : List ℕ × List TextLine). joined (l ∷ ls) ≡ q.0 ++ 10 ∷ joined q.1) same (ended_joined l ls ended)

word_takes : (b : Bool) (word text digits : List ℕ) → starts_with nat_eq text word ≡ b →
    cond b (Some (drop (length word) text)) None ≡ Some digits → text ≡ word ++ digits
word_takes true word text digits t e =
    let rest : drop (length word) text ≡ digits = cc in
    rw rest at ((starts_is Decides-eqb text word true (sym t)).0 refl)
word_takes false word text digits t e = absurd cc

-- a word and a number in its range
record IsNumbered (word : List ℕ) (low high : ℕ) (text : List ℕ) (n : ℕ) : Type 0 where
  stands : text ≡ word ++ decimal n
  above : low ≤ n
  below : n ≤ high

number_stands : (line : ℕ) (word : List ℕ) (low high : ℕ) (text : List ℕ) (n : ℕ) → high < 10 ^ 64 →
    number_behind line word low high text ≡ Ok n → IsNumbered word low high text n
unfolding number_behind
number_stands line word low high text n wide e =
    let (digits, first, second) =
    bind_ok (or_fault (Line line) (behind word text)) (λ digits.
    or_fault (Number line) (number_within low high digits)) n e in
    let front = word_takes (starts_with nat_eq text word) word text digits refl
    (fault_ok (Line line) (behind word text) digits first) in
    let number = number_takes low high digits n wide
    (fault_ok (Number line) (number_within low high digits) n second) in
    record { stands = front ∙ ap (λ (t : List ℕ). word ++ t) number.digits; above = number.above; below = number.below }

regrouped : (word digits rest : List ℕ) → (word ++ digits) ++ 10 ∷ rest ≡ numbered word digits ++ rest
regrouped word digits rest = simp append_assoc

line_is : (word : List ℕ) (low high n : ℕ) (ls rest : List TextLine) (text : List ℕ) →
    joined ls ≡ text ++ 10 ∷ joined rest → IsNumbered word low high text n →
    joined ls ≡ numbered word (decimal n) ++ joined rest
line_is word low high n ls rest text h number = h ∙ ap (λ (t : List ℕ). t ++ 10 ∷ joined rest) number.stands
    ∙ regrouped word (decimal n) (joined rest)

-- the lines begin with one of a word and a number in its range
record Stands (word : List ℕ) (low high : ℕ) (ls : List TextLine) (p : ℕ × List TextLine) : Type 0 where
  stands : joined ls ≡ numbered word (decimal p.0) ++ joined p.1
  above : low ≤ p.0
  below : p.0 ≤ high

numbered_stands : (line : ℕ) (word : List ℕ) (low high : ℕ) (ls : List TextLine) (p : ℕ × List TextLine) →
    high < 10 ^ 64 → numbered_at line word low high ls ≡ Ok p → Stands word low high ls p
unfolding numbered_at
numbered_stands line word low high ls p wide e =
    let (l, first, second) =
    bind_ok (ended_line line ls) (λ l. number_behind line word low high l.0 >>= λ n. Ok (n, l.1)) p e in
    let (n, third, last) = bind_ok (number_behind line word low high l.0) (λ n. Ok (n, l.1)) p second in
    let number = number_stands line word low high l.0 n wide third in
    subst (Stands word low high ls) (ok_is (n, l.1) p last)
    (record {
      stands = line_is word low high n ls l.1 l.0 (line_stands line ls l first) number;
      above =
          number.above;
      below = number.below;
    })

number_line : (word : List ℕ) (low high n : ℕ) (ls rest : List TextLine) (text : List ℕ) →
    joined ls ≡ text ++ 10 ∷ joined rest → IsNumbered word low high text n → Stands word low high ls (n, rest)
number_line word low high n ls rest text h number =
    record {
      stands = line_is word low high n ls rest text h number;
      above = number.above;
      below =
          number.below;
    }

wanted_stands : (line low high : ℕ) (fault : CertFault) (test : List ℕ →
    Bool) (word : List ℕ) (ls : List TextLine) (p : ℕ × List TextLine) → high < 10 ^ 64
    → (ended_line line ls >>= λ l. unless fault (test l.0) >>= λ u.
    number_behind line word low high l.0 >>= λ n. Ok (n, l.1)) ≡ Ok p → Stands word low high ls p
wanted_stands line low high fault test word ls p wide e =
    let (l, first, second) =
    bind_ok (ended_line line ls) (λ l. unless fault (test l.0) >>= λ u.
    number_behind line word low high l.0 >>= λ n. Ok (n, l.1)) p e in
    let (u, third, fourth) =
    bind_ok (unless fault (test l.0)) (λ u. number_behind line word low high l.0 >>= λ n.
    Ok (n, l.1)) p second in
    let (n, fifth, last) = bind_ok (number_behind line word low high l.0) (λ n. Ok (n, l.1)) p fourth in
    let number = number_stands line word low high l.0 n wide fifth in
    subst (Stands word low high ls) (ok_is (n, l.1) p last)
    (number_line word low high n ls l.1 l.0 (line_stands line ls l first) number)

-- ---- lines of numbers

-- the lines begin with one of a word and this number, which is as it may be
record NumberStands (word : List ℕ) (P : ℤ → Type 0) (ls : List TextLine) (p : ℤ × List TextLine) : Type 0 where
  stands : joined ls ≡ numbered word (signed_decimal p.0) ++ joined p.1
  fits : P p.0

counted_stands : (line high : ℕ) (fault : CertFault) (test : List ℕ → Bool) (word : List ℕ) (P : ℤ →
    Type 0) (ls : List TextLine) (p : ℤ × List TextLine) → high < 10 ^ 64 → ((n : ℕ) → n ≤ high → P (pos n))
    → (ended_line line ls >>= λ l. unless fault (test l.0) >>= λ u. number_behind line word 0 high l.0 >>= λ n.
    Ok (pos n, l.1)) ≡ Ok p → NumberStands word P ls p
counted_stands line high fault test word P ls p wide fits e =
    let (l, first, second) =
    bind_ok (ended_line line ls) (λ l. unless fault (test l.0) >>= λ u.
    number_behind line word 0 high l.0 >>= λ n. Ok (pos n, l.1)) p e in
    let (u, third, fourth) =
    bind_ok (unless fault (test l.0)) (λ u. number_behind line word 0 high l.0 >>= λ n.
    Ok (pos n, l.1)) p second in
    let (n, fifth, last) = bind_ok (number_behind line word 0 high l.0) (λ n. Ok (pos n, l.1)) p fourth in
    let number = number_stands line word 0 high l.0 n wide fifth in
    subst (NumberStands word P ls) (ok_is (pos n, l.1) p last)
    (record {
      stands = line_is word 0 high n ls l.1 l.0 (line_stands line ls l first) number;
      fits =
          fits n number.below;
    })

bound_fits : (n : ℕ) → n ≤ 2147483647 → IsBound (pos n)
bound_fits n h = record { low = omega (arith, ints); high = omega (arith, ints) }

error_fits : (n : ℕ) → n ≤ 79228162514264337593543950335 → IsError (pos n)
error_fits n h = record { low = omega (arith, ints); high = omega (arith, ints) }

bound_stands : (rows i : ℕ) (ls : List TextLine) (p : ℤ × List TextLine) → bound_at rows i ls ≡ Ok p →
    NumberStands (codes "X ") IsBound ls p
unfolding bound_at
bound_stands rows i ls p e =
    counted_stands (i + 4) 2147483647 (Count (i + 4) i rows) (λ t.
    not (begins (codes "outputs ") t)) (codes "X ") IsBound ls p (lit< tt) bound_fits e

error_stands : (rows outputs o : ℕ) (ls : List TextLine) (p : ℤ × List TextLine) →
    error_at rows outputs o ls ≡ Ok p → NumberStands (codes "E ") IsError ls p
unfolding error_at
error_stands rows outputs o ls p e =
    counted_stands (rows + o + 5) 79228162514264337593543950335 (Count (rows + o + 5) o outputs) (λ t.
    not (bytes_eq t (codes "end"))) (codes "E ") IsError ls p (lit< tt) error_fits e

-- the lines begin with so many of a word and a number
record EachStands (word : List ℕ) (P : ℤ → Type 0) (count : ℕ) (ls : List TextLine) (p : List ℤ
    × List TextLine) : Type 0 where
  stands : joined ls ≡ numbered_each word p.0 ++ joined p.1
  fits : All P p.0
  count_is : length p.0 ≡ count

module _ (one : ℕ → List TextLine → Result (ℤ × List TextLine) CertFault) (word : List ℕ) (P : ℤ →
    Type 0) (stands : (i : ℕ) (ls : List TextLine) (p : ℤ × List TextLine) → one i ls ≡ Ok p →
    NumberStands word P ls p) where
  each_stands : (count i : ℕ) (ls : List TextLine) (p : List ℤ × List TextLine) →
      each_at one count i ls ≡ Ok p → EachStands word P count ls p
  unfolding each_at
  each_stands zero i ls p e =
      subst (EachStands word P 0 ls) (ok_is ([], ls) p e)
      (record { stands = refl; fits = All-nil P; count_is = refl })
  each_stands (suc k) i ls p e =
      let (first, read, more) =
      bind_ok (one i ls) (λ first. each_at one k (i + 1) first.1 >>= λ others.
      Ok (first.0 ∷ others.0, others.1)) p e in
      let (others, reads, last) =
      bind_ok (each_at one k (i + 1) first.1) (λ others. Ok (first.0 ∷ others.0, others.1)) p more in
      let h = stands i ls first read in
      let rest = each_stands k (i + 1) first.1 others reads in
      let text : joined ls ≡ numbered_each word (first.0 ∷ others.0) ++ joined others.1
      = h.stands ∙ ap (λ (t : List ℕ). numbered word (signed_decimal first.0) ++ t) rest.stands
      ∙ sym (append_assoc (numbered word (signed_decimal first.0)) (numbered_each word others.0)
      (joined others.1)) in
      subst (EachStands word P (suc k) ls) (ok_is (first.0 ∷ others.0, others.1) p last)
      (record {
        stands = text;
        fits = All-cons P first.0 others.0 h.fits rest.fits;
        count_is =
            ap (λ (m : ℕ). suc m) rest.count_is;
      })

-- a count and so many numbers
counted_lines : (head word text behind last rest : List ℕ) (n : ℕ) (zs : List ℤ) →
    text ≡ numbered head (decimal n) ++ behind → behind ≡ numbered_each word zs ++ last → last ≡ rest →
    length zs ≡ n
    → text ≡ numbered head (decimal (length zs)) ++ (numbered_each word zs ++ rest)
counted_lines head word text behind last rest n zs first more same count = first ∙ rw (more, same, count) refl

-- ---- the parts

same_text : (xs ys : List ℕ) → bytes_eq xs ys ≡ true → xs ≡ ys
same_text xs ys e = (bytes_eq-Decides xs ys).0 e

head_stands : (ls rest : List TextLine) → behind_head ls ≡ Ok rest →
    joined ls ≡ (first_line ++ codes "\n") ++ joined rest
unfolding behind_head
head_stands [] rest e = absurd cc
head_stands (l ∷ ls) rest e = go (bytes_eq l.text first_line) refl e
  where
    go : (b : Bool) → bytes_eq l.text first_line ≡ b →
        cond b (cond l.ended (done ls) (Err (Line 1))) (Err Version) ≡ Ok rest →
        joined (l ∷ ls) ≡ (first_line ++ codes "\n") ++ joined rest
    go true t h =
        let (ended, same) = cond_ok l.ended (Line 1) ls rest h in
        ended_joined l ls ended ∙ rw (same_text l.text first_line t, same) refl
    go false t h = absurd cc

-- the lines begin with those up to the length
record LengthStands (ls : List TextLine) (p : ℕ × List TextLine) : Type 0 where
  stands : joined ls ≡ (first_line ++ codes "\n") ++ (numbered (codes "length ") (decimal p.0) ++ joined p.1)
  above : 1 ≤ p.0
  below : p.0 ≤ 4096

length_stands : (ls : List TextLine) (p : ℕ × List TextLine) → length_in ls ≡ Ok p → LengthStands ls p
unfolding length_in
length_stands ls p e =
    let (rest, first, second) = bind_ok (behind_head ls) (λ rest. numbered_at 2 (codes "length ") 1 4096 rest) p e in
    let len = numbered_stands 2 (codes "length ") 1 4096 rest p (lit< tt) second in
    record {
      stands = head_stands ls rest first ∙ ap (λ (t : List ℕ).
          (first_line ++ codes "\n") ++ t) len.stands;
      above = len.above;
      below = len.below;
    }

-- the lines begin with those of the rows
record BoundsStand (ls : List TextLine) (p : List ℤ × List TextLine) : Type 0 where
  stands : joined ls ≡ numbered (codes "rows ") (decimal (length p.0)) ++ (numbered_each (codes "X ") p.0 ++ joined p.1)
  above : 1 ≤ length p.0
  below : length p.0 ≤ 64
  fits : All IsBound p.0

bounds_stand : (ls : List TextLine) (p : List ℤ × List TextLine) → bounds_in ls ≡ Ok p → BoundsStand ls p
unfolding bounds_in
bounds_stand ls p e =
    let (rows, first, second) =
    bind_ok (numbered_at 3 (codes "rows ") 1 64 ls) (λ rows. each_at (bound_at rows.0) rows.0 0 rows.1) p e in
    let count = numbered_stands 3 (codes "rows ") 1 64 ls rows (lit< tt) first in
    let each = each_stands (bound_at rows.0) (codes "X ") IsBound (bound_stands rows.0) rows.0 0 rows.1 p second in
    record {
      stands = counted_lines (codes "rows ") (codes "X ") (joined ls) (joined rows.1) (joined p.1) (joined p.1)
          rows.0 p.0 count.stands each.stands refl each.count_is;
      above = rw each.count_is count.above;
      below = rw each.count_is count.below;
      fits = each.fits;
    }

-- the count of outputs
outputs_stand : (rows : ℕ) (ls : List TextLine) (p : ℕ × List TextLine) → outputs_at rows ls ≡ Ok p →
    Stands (codes "outputs ") 1 4 ls p
unfolding outputs_at
outputs_stand rows ls p e =
    wanted_stands (rows + 4) 1 4 (Count (rows + 4) (rows + 1) rows) (λ t.
    not (begins (codes "X ") t)) (codes "outputs ") ls p (lit< tt) e

no_more : (ls : List TextLine) → are_none ls ≡ true → joined ls ≡ []
no_more [] h = refl
no_more (l ∷ ls) h = absurd cc

end_stands : (rows outputs : ℕ) (ls : List TextLine) (u : Unit {0}) → end_at rows outputs ls ≡ Ok u →
    joined ls ≡ codes "end\n"
unfolding end_at
end_stands rows outputs ls u e =
    let (l, first, second) =
    bind_ok (ended_line (rows + outputs + 5) ls) (λ l.
    unless (Count (rows + outputs + 5) (outputs + 1) outputs) (not (begins (codes "E ") l.0)) >>= λ v.
    unless (Line (rows + outputs + 5)) (bytes_eq l.0 (codes "end")) >>= λ w.
    unless AfterEnd (are_none l.1)) u e in
    let (v, third, fourth) =
    bind_ok (unless (Count (rows + outputs + 5) (outputs + 1) outputs) (not (begins (codes "E ") l.0))) (λ v.
    unless (Line (rows + outputs + 5)) (bytes_eq l.0 (codes "end")) >>= λ w.
    unless AfterEnd (are_none l.1)) u second in
    let (w, fifth, last) = bind_ok (unless (Line (rows + outputs + 5)) (bytes_eq l.0 (codes "end"))) (λ w.
    unless AfterEnd (are_none l.1)) u fourth in
    let word = same_text l.0 (codes "end")
    (unless_ok (Line (rows + outputs + 5)) (bytes_eq l.0 (codes "end")) w fifth) in
    let none = no_more l.1 (unless_ok AfterEnd (are_none l.1) u last) in
    line_stands (rows + outputs + 5) ls l first ∙ rw (word, none) refl

-- the lines are those of the outputs and the last
record ErrorsStand (ls : List TextLine) (es : List ℤ) : Type 0 where
  stands : joined ls ≡ numbered (codes "outputs ") (decimal (length es)) ++
      (numbered_each (codes "E ") es ++ codes "end\n")
  above : 1 ≤ length es
  below : length es ≤ 4
  fits : All IsError es

errors_stand : (rows : ℕ) (ls : List TextLine) (es : List ℤ) → errors_in rows ls ≡ Ok es → ErrorsStand ls es
unfolding errors_in
errors_stand rows ls es e =
    let (outputs, first, second) =
    bind_ok (outputs_at rows ls) (λ outputs.
    each_at (error_at rows outputs.0) outputs.0 0 outputs.1 >>= λ errors.
    end_at rows outputs.0 errors.1 >>= λ u. Ok errors.0) es e in
    let (errors, third, fourth) =
    bind_ok (each_at (error_at rows outputs.0) outputs.0 0 outputs.1) (λ errors.
    end_at rows outputs.0 errors.1 >>= λ u. Ok errors.0) es second in
    let (u, fifth, last) = bind_ok (end_at rows outputs.0 errors.1) (λ u. Ok errors.0) es fourth in
    let count = outputs_stand rows ls outputs first in
    let each = each_stands (error_at rows outputs.0) (codes "E ") IsError (error_stands rows outputs.0)
    outputs.0 0 outputs.1 errors third in
    let end = end_stands rows outputs.0 errors.1 u fifth in
    subst (ErrorsStand ls) (ok_is errors.0 es last) (record {
      stands = counted_lines (codes "outputs ") (codes "E ") (joined ls) (joined outputs.1) (joined errors.1)
          (codes "end\n") outputs.0 errors.0 count.stands each.stands end each.count_is;
      above = rw each.count_is count.above;
      below = rw each.count_is count.below;
      fits = each.fits;
    })

-- ---- the certificate

whole : (ls r1 r2 : List TextLine) (len : ℕ) (xs es : List ℤ) → LengthStands ls (len, r1) →
    BoundsStand r1 (xs, r2) → ErrorsStand r2 es →
    IsTextOf (joined ls) (record { length = len; bounds = xs; errors = es })
whole ls r1 r2 len xs es l b e = record {
  text = l.stands ∙ rw (b.stands, e.stands) refl;
  fits = record {
    length_low = l.above;
    length_high = l.below;
    rows_low = b.above;
    rows_high =
        b.below;
    bounds = b.fits;
    outputs_low = e.above;
    outputs_high = e.below;
    errors = e.fits;
  };
}

pub certificate_stands : (ls : List TextLine) (c : Certificate) → certificate_in ls ≡ Ok c → IsTextOf (joined ls) c
unfolding certificate_in
certificate_stands ls c e =
    let (len, first, second) =
    bind_ok (length_in ls) (λ len. bounds_in len.1 >>= λ bounds.
    errors_in (length bounds.0) bounds.1 >>= λ errors.
    done (record { length = len.0; bounds = bounds.0; errors = errors })) c e in
    let (bounds, third, fourth) =
    bind_ok (bounds_in len.1) (λ bounds. errors_in (length bounds.0) bounds.1 >>= λ errors.
    done (record { length = len.0; bounds = bounds.0; errors = errors })) c second in
    let (errors, fifth, last) =
    bind_ok (errors_in (length bounds.0) bounds.1) (λ errors.
    done (record { length = len.0; bounds = bounds.0; errors = errors })) c fourth in
    subst (IsTextOf (joined ls)) (ok_is (record { length = len.0; bounds = bounds.0; errors = errors }) c last)
    (whole ls len.1 bounds.1 len.0 bounds.0 errors (length_stands ls len first)
    (bounds_stand len.1 bounds third) (errors_stand (length bounds.0) bounds.1 errors fifth))

pub text_stands : (bytes : List ℕ) (c : Certificate) → certificate_in (lines_of bytes) ≡ Ok c → IsTextOf bytes c
text_stands bytes c e = subst (λ (t : List ℕ). IsTextOf t c) (lines_join bytes)
    (certificate_stands (lines_of bytes) c e)

pub reads_fit : (ls r1 r2 : List TextLine) (len : ℕ) (xs es : List ℤ) → length_in ls ≡ Ok (len, r1) →
    bounds_in r1 ≡ Ok (xs, r2) → errors_in (length xs) r2 ≡ Ok es →
    CertificateFits (record { length = len; bounds = xs; errors = es })
reads_fit ls r1 r2 len xs es l b e =
    (whole ls r1 r2 len xs es (length_stands ls (len, r1) l) (bounds_stand r1 (xs, r2) b)
    (errors_stand (length xs) r2 es e)).fits
