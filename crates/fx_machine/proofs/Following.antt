-- The words of a machine's moment are those of the run.
use Rattle.fx_machine.specs.declared.places.TheConstants.{FIRST_INPUT, FIRST_OLD, WORD_COUNT}
use Rattle.fx_code.specs.declared.limits.TheConstants.{CODE_ROWS}
use Rattle.std.proofs.Common.{◌≡◌, ℕ, zero, suc, ◌+◌, ◌^◌, ◌<◌, ◌≤◌, ℤ, pos, ◌+ℤ◌, ◌*ℤ◌, List, [], ◌∷◌, length}
use Rattle.std.proofs.Common.{map, All, slice_index_or, inl, inr, sym, ap, ap₂, ◌∙◌, refl, arith}
use Rattle.std.proofs.Common.{get_or-set_same, get_or-set_other}
use Rattle.std.proofs.lemmas.Bool.{cases_eq}
use Rattle.std.proofs.lemmas.Bool.Decides.{nat_tests}
use Rattle.std.proofs.lemmas.List.{length-set}
use Rattle.std.proofs.lemmas.List.Elements.{All-tail}
use Rattle.fx_math.specs.Division.{floor_div}
use Rattle.fx_math.specs.Residue.{wrap}
use Rattle.fx_math.specs.Unroll.{Step, fill, last}
use Rattle.fx_code.specs.Code.{Code, row_at, weight}
use Rattle.fx_code.specs.Fits.{SourceFits, CodeFits}
use Rattle.fx_machine.specs.Marks.{sums_from, sums_at}
use Rattle.fx_machine.specs.Prepared.{place_of, word_in, scaled, plan_for, scaled_sum, later_sums, sum_of, word_of}
use Rattle.fx_code.specs.Run.{word_read, terms_sum, word_step, words, sum_at}
use Rattle.fx_machine.specs.Standing.{rows_done}
use Rattle.fx_code.specs.declared.term.CodeTerm.{CodeTerm}
use Rattle.fx_code.specs.declared.term.Read.{Read}
use Rattle.fx_code.specs.declared.term.Read.TheVariants.{Now, Old, In}

-- ---- sums over words that agree

abbrev pub Agrees : List ℤ → (ℕ → ℤ) → (ℕ → ℤ) → (ℕ → ℤ) → CodeTerm → Type 0
Agrees kept now old input t = word_in kept (place_of t.from) ≡ word_read now old input t.from

same_sum : (kept : List ℤ) (now old input : ℕ → ℤ) (ts : List CodeTerm) → All (Agrees kept now old input) ts →
    scaled_sum kept (map scaled ts) ≡ terms_sum now old input ts
same_sum kept now old input [] h = refl
same_sum kept now old input (t ∷ ts) h =
    let here : Agrees kept now old input t = h 0 t (omega arith) in
    ap₂ (λ x y. weight t *ℤ x +ℤ y) here (same_sum kept now old input ts (All-tail (Agrees kept now old input) t ts h))

same_sums : (kept : List ℤ) (now old input : ℕ → ℤ) (sum : ℤ) (ts : List CodeTerm) →
    All (Agrees kept now old input) ts → sum ∷ later_sums sum kept (map scaled ts)
    ≡ sums_from sum now old input ts
same_sums kept now old input sum [] h = refl
same_sums kept now old input sum (t ∷ ts) h =
    let here : Agrees kept now old input t = h 0 t (omega arith) in
    let next : ℤ = sum +ℤ weight t *ℤ word_in kept (place_of t.from) in
    let rest : next ∷ later_sums next kept (map scaled ts) ≡ sums_from next now old input ts =
    same_sums kept now old input next ts (All-tail (Agrees kept now old input) t ts h) in
    ap (λ (xs : List ℤ). sum ∷ xs) (rest ∙ ap (λ (x : ℤ). sums_from (sum +ℤ weight t *ℤ x) now old input ts) here)

-- ---- a moment row by row

-- words that begin a moment of a run
pub record Starts (p : Code) (u : ℕ → ℕ → ℤ) (k : ℕ) (begun : List ℤ) : Type 0 where
  pub count : length begun ≡ WORD_COUNT
  pub old : (j : ℕ) → j < CODE_ROWS → word_in begun (FIRST_OLD + j) ≡ last (length p.rows) (word_step p u) k j
  pub taken : (j : ℕ) → j < length p.inputs → word_in begun (FIRST_INPUT + j) ≡ u k j

-- a moment's rows, from the rows before them
abbrev pub filling : Code → (ℕ → ℕ → ℤ) → ℕ → ℕ → (ℕ → ℤ) → ℤ
filling p u k i now = word_step p u k i now (last (length p.rows) (word_step p u) k)

done_count : (p : Code) (begun : List ℤ) (i : ℕ) → length (rows_done p begun i) ≡ length begun
done_count p begun zero = refl
done_count p begun (suc i) = length-set (rows_done p begun i) i _ ∙ done_count p begun i

done_later : (p : Code) (begun : List ℤ) (i place : ℕ) → i ≤ place →
    word_in (rows_done p begun i) place ≡ word_in begun place
done_later p begun zero place h = refl
done_later p begun (suc i) place h =
    get_or-set_other (rows_done p begun i) i place _ (pos 0) (omega (arith, h))
    ∙ done_later p begun i place (omega (arith, h))

fill_last : (f : ℕ → (ℕ → ℤ) → ℤ) (i : ℕ) → fill f (suc i) i ≡ f i (fill f i)
fill_last f i = grind (arith, nat_tests)

fill_before : (f : ℕ → (ℕ → ℤ) → ℤ) (i j : ℕ) → j < i → fill f (suc i) j ≡ fill f i j
fill_before f i j h = grind (arith, nat_tests)

pub fill_past : (f : ℕ → (ℕ → ℤ) → ℤ) (n j : ℕ) → n ≤ j → fill f n j ≡ pos 0
fill_past f zero j h = refl
fill_past f (suc n) j h = let e = fill_past f n j (omega (arith, h)) in grind (arith, nat_tests)

pub last_past : (n : ℕ) (s : Step) (k j : ℕ) → n ≤ j → last n s k j ≡ pos 0
last_past n s zero j h = refl
last_past n s (suc k) j h = fill_past (λ i now. s k i now (last n s k)) n j h

-- what a row reads, where the rows before it are those of the run
reads_agree : (p : Code) (u : ℕ → ℕ → ℤ) (k : ℕ) (begun : List ℤ) (i : ℕ) → CodeFits p → Starts p u k begun →
    i < length p.rows → ((j : ℕ) → j < i → word_in (rows_done p begun i) j ≡ fill (filling p u k) i j) →
    All (Agrees (rows_done p begun i) (fill (filling p u k) i) (last (length p.rows) (word_step p u) k) (u k))
    (row_at p i).own.terms
reads_agree p u k begun i f s h before m t l =
    of_source (slice_index_or (row_at p i).own.terms m t).from ((f.reads i h).sources m t l)
  where
    of_source : (from : Read) → SourceFits i (length p.inputs) from →
        word_in (rows_done p begun i) (place_of from)
        ≡ word_read (fill (filling p u k) i) (last (length p.rows) (word_step p u) k) (u k) from
    of_source (Now j) w = before j w
    of_source (Old j) w = done_later p begun i (FIRST_OLD + j) (omega (arith, f.rows_high, h)) ∙ s.old j w
    of_source (In j) w = done_later p begun i (FIRST_INPUT + j) (omega (arith, f.rows_high, h)) ∙ s.taken j w

row_is : (p : Code) (u : ℕ → ℕ → ℤ) (k : ℕ) (begun : List ℤ) (i : ℕ) → CodeFits p → Starts p u k begun →
    i < length p.rows → ((j : ℕ) → j < i → word_in (rows_done p begun i) j ≡ fill (filling p u k) i j) →
    sum_of (plan_for p (row_at p i)) (rows_done p begun i) ≡ sum_at p u k i
row_is p u k begun i f s h before =
    ap (λ x. (plan_for p (row_at p i)).constant +ℤ x)
    (same_sum _ _ _ _ (row_at p i).own.terms (reads_agree p u k begun i f s h before))

rows_follow : (p : Code) (u : ℕ → ℕ → ℤ) (k : ℕ) (begun : List ℤ) (i : ℕ) → CodeFits p → Starts p u k begun →
    i ≤ length p.rows → (j : ℕ) → j < i → word_in (rows_done p begun i) j ≡ fill (filling p u k) i j
rows_follow p u k begun zero f s h j l = absurd (omega arith)
rows_follow p u k begun (suc i) f s h j l =
    let before = rows_follow p u k begun i f s (omega (arith, h)) in
    let below : i < length (rows_done p begun i) = omega (arith, h, done_count p begun i, s.count, f.rows_high) in
    elim (cases_eq j i) [
      | inl same ↦
          let here : word_of (plan_for p (row_at p i)) (rows_done p begun i)
          ≡ filling p u k i (fill (filling p u k) i) =
          ap (λ z. wrap (row_at p i).width (floor_div (wrap p.accumulator z) (2 ^ (row_at p i).own.shift)))
          (row_is p u k begun i f s h before) in
          rw same (get_or-set_same (rows_done p begun i) i _ (pos 0) below ∙ here ∙ sym (fill_last (filling p u k) i))
      | inr other ↦
          get_or-set_other (rows_done p begun i) i j _ (pos 0) other ∙ before j (omega (arith, l, other))
          ∙ sym (fill_before (filling p u k) i j (omega (arith, l, other)))
    ]

-- ---- what a moment gives

pub sums_are : (p : Code) (u : ℕ → ℕ → ℤ) (k : ℕ) (begun : List ℤ) (i : ℕ) → CodeFits p → Starts p u k begun →
    i < length p.rows → sum_of (plan_for p (row_at p i)) (rows_done p begun i) ≡ sum_at p u k i
sums_are p u k begun i f s h = row_is p u k begun i f s h (rows_follow p u k begun i f s (omega (arith, h)))

pub later_are : (p : Code) (u : ℕ → ℕ → ℤ) (k : ℕ) (begun : List ℤ) (i : ℕ) → CodeFits p → Starts p u k begun →
    i < length p.rows → (plan_for p (row_at p i)).constant ∷ later_sums (plan_for p (row_at p i)).constant
    (rows_done p begun i) (plan_for p (row_at p i)).terms ≡ sums_at p u k i
later_are p u k begun i f s h =
    same_sums _ _ _ _ (plan_for p (row_at p i)).constant (row_at p i).own.terms
    (reads_agree p u k begun i f s h (rows_follow p u k begun i f s (omega (arith, h))))

pub words_are : (p : Code) (u : ℕ → ℕ → ℤ) (k : ℕ) (begun : List ℤ) → CodeFits p → Starts p u k begun →
    (j : ℕ) → j < length p.rows → word_in (rows_done p begun (length p.rows)) j ≡ words p u k j
words_are p u k begun f s = rows_follow p u k begun (length p.rows) f s (omega arith)
