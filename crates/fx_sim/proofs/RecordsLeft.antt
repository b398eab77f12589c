-- Reading the records of a text one after the other.
use Rattle.std.proofs.Common.{◌≡◌, ◌≤◌, ◌<◌, ◌+◌, ◌==◌, ◌&&◌, ◌∙◌, ℕ, zero, suc, ap, refl, Bool, true, false}
use Rattle.std.proofs.Common.{cond, List, [], ◌∷◌, length, Option, Some, None, IsSome, inl, inr, arith, subst}
use Rattle.std.proofs.Common.{add-one}
use Rattle.std.specs.Option.{unwrap_or}
use Rattle.std.proofs.lemmas.Option.{same_Some}
use Rattle.std.proofs.lemmas.Bool.{cases_Bool}
use Rattle.csv.specs.Machine.{Read, after_end, ends_at_end, ends_with, start_field, start_record, in_field}
use Rattle.csv.specs.Machine.{is_end, next_record, is_byte, step, carriage_return, line_feed}
use Rattle.csv.specs.Reading.{is_flexible, Reached, ReadRecord, is_bom, records, records_from, records_next}
use Rattle.csv.specs.Reading.{default_config, source_of, strip_bom}
use Rattle.csv.proofs.ReadFacts.{rows-end, rows-more}
use Rattle.csv.specs.declared.parser.Config.{Config}
use Rattle.csv.specs.declared.parser.State.{State}
use Rattle.csv.specs.declared.parser.State.TheVariants as st
use Rattle.csv.specs.declared.parser.Action.{Action}
use Rattle.csv.specs.declared.parser.Action.TheVariants as act
use Rattle.csv.specs.declared.parser.Terminator.{Terminator}
use Rattle.csv.specs.declared.parser.Terminator.TheVariants as term
use Rattle.fx_sim.specs.Remaining.{TextReader, Stands, bytes_left, known, records_in, records_left}

after_cr : (b : Bool) → ends_at_end (cond b st.AfterCr st.StartRecord) ≡ false
after_cr true = refl
after_cr false = refl

after_starts : (t : Terminator) (c : ℕ) → ends_at_end (after_end t c) ≡ false
after_starts term.CRLF c = after_cr (c == carriage_return)
after_starts (term.Any t) c = refl

-- what ends a record leaves a state that ends none
abbrev Starts : State × Action → Type 0
Starts p = is_end p.1 ≡ true → ends_at_end p.0 ≡ false

pick : (b d : Bool) (s : State) → ends_at_end s ≡ false →
    Starts (cond b (st.StartField, act.EndField) (cond d (s, act.EndRecord) (st.InField, act.Copy)))
pick true d s e = λ h. absurd cc
pick false true s e = λ h. e
pick false false s e = λ h. absurd cc

either : (b : Bool) (p q : State × Action) → Starts p → Starts q → Starts (cond b p q)
either true p q hp hq = hp
either false p q hp hq = hq

skips : (s : State) → Starts (s, act.Skip)
skips s h = absurd cc

copies : (s : State) → Starts (s, act.Copy)
copies s h = absurd cc

in_field_starts : (cfg : Config) (c : ℕ) → Starts (in_field cfg c)
in_field_starts cfg c = pick (c == cfg.delimiter) (ends_with cfg.terminator c) (after_end cfg.terminator c)
    (after_starts cfg.terminator c)

start_field_starts : (cfg : Config) (c : ℕ) → Starts (start_field cfg c)
start_field_starts cfg c =
    either (cfg.quoting && (c == cfg.quote)) (
      st.InQuoted,
      act.Skip,
    ) (in_field cfg c) (skips st.InQuoted) (in_field_starts cfg c)

start_record_starts : (cfg : Config) (c : ℕ) → Starts (start_record cfg c)
start_record_starts cfg c =
    let inner : State × Action = cond (is_byte cfg.comment c) (st.InComment, act.Skip) (start_field cfg c) in
    either (ends_with cfg.terminator c) (
      st.StartRecord,
      act.Skip,
    ) inner (skips st.StartRecord) (either (is_byte cfg.comment c) (
      st.InComment,
      act.Skip,
    ) (start_field cfg c) (skips st.InComment) (start_field_starts cfg c))

step_starts : (cfg : Config) (s : State) (c : ℕ) → Starts (step cfg s c)
step_starts cfg st.StartRecord c = start_record_starts cfg c
step_starts cfg st.StartField c = start_field_starts cfg c
step_starts cfg st.InField c = in_field_starts cfg c
step_starts cfg st.InQuoted c =
    let inner : State × Action =
    cond (cfg.quoting && is_byte cfg.escape c) (st.InEscape, act.Skip) (st.InQuoted, act.Copy) in
    either (cfg.quoting && (c == cfg.quote)) (st.AfterQuote, act.Skip) inner (skips st.AfterQuote)
    (either (cfg.quoting && is_byte cfg.escape c) (st.InEscape, act.Skip) (
      st.InQuoted,
      act.Copy,
    ) (skips st.InEscape) (copies st.InQuoted))
step_starts cfg st.InEscape c = copies st.InQuoted
step_starts cfg st.AfterQuote c =
    either (cfg.quoting && cfg.double_quote && (c == cfg.quote)) (
      st.InQuoted,
      act.Copy,
    ) (in_field cfg c) (copies st.InQuoted) (in_field_starts cfg c)
step_starts cfg st.InComment c =
    either (c == line_feed) (st.StartRecord, act.Skip) (
      st.InComment,
      act.Skip,
    ) (skips st.StartRecord) (skips st.InComment)
step_starts cfg st.AfterCr c =
    either (c == line_feed) (st.StartRecord, act.Skip) (start_record cfg c) (skips st.StartRecord)
    (start_record_starts cfg c)

-- a record leaves a state that ends none, and no more bytes
pub record Leaves (xs : List ℕ) (r : Read) : Type 0 where
  pub starts : ends_at_end r.1 ≡ false
  pub fewer : length r.2 ≤ length xs

at_end : (b : Bool) (fields : List (List ℕ)) (r : Read) →
    cond b (Some (fields, st.StartRecord, [])) None ≡ Some r → Leaves [] r
at_end true fields r e = subst (Leaves []) (same_Some _ _ e) (record { starts = refl; fewer = omega arith })
at_end false fields r e = absurd cc

leaves : (cfg : Config) (s : State) (fields : List (List ℕ)) (field xs : List ℕ) (r : Read) →
    next_record cfg s fields field xs ≡ Some r → Leaves xs r
unfolding next_record
leaves cfg s fields field [] r e = at_end (ends_at_end s) _ r e
leaves cfg s fields field (c ∷ rest) r e = elim (cases_Bool (is_end (step cfg s c).1)) [
  | inl ends ↦ subst (Leaves (c ∷ rest)) (same_Some _ _ (rw ends at e))
      (record { starts = step_starts cfg s c ends; fewer = omega arith })
  | inr goes ↦ let more = leaves cfg (step cfg s c).0 _ _ rest r (rw goes at e) in
      record { starts = more.starts; fewer = omega arith }
]

-- from a state that ends none, a record takes bytes
pub fewer_left : (cfg : Config) (s : State) (xs : List ℕ) (r : Read) → ends_at_end s ≡ false →
    next_record cfg s [] [] xs ≡ Some r → length r.2 < length xs
unfolding next_record
fewer_left cfg s [] r none e = absurd (let bad : None ≡ Some r = rw none at e in cc)
fewer_left cfg s (c ∷ rest) r none e = elim (cases_Bool (is_end (step cfg s c).1)) [
  | inl ends ↦ subst (λ (q : Read). length q.2 < length (c ∷ rest)) (same_Some _ _ (rw ends at e)) (omega arith)
  | inr goes ↦ let more = leaves cfg (step cfg s c).0 _ _ rest r (rw goes at e) in omega arith
]

-- two counts that are large enough give the same records
pub same_records : (n m : ℕ) (cfg : Config) (s : State) (xs : List ℕ) → ends_at_end s ≡ false → length xs < n →
    length xs < m → records_from cfg n s xs ≡ records_from cfg m s xs
unfolding records_from
same_records zero m cfg s xs none a b = absurd (omega arith)
same_records (suc n) zero cfg s xs none a b = absurd (omega arith)
same_records (suc n) (suc m) cfg s xs none a b =
    go (next_record cfg s [] [] xs) refl (λ p. same_records n m cfg p.1 p.2)
  where
    go : (o : Option Read) → next_record cfg s [] [] xs ≡ o
        → ((p : Read) → ends_at_end p.1 ≡ false → length p.2 < n → length p.2 < m →
        records_from cfg n p.1 p.2 ≡ records_from cfg m p.1 p.2)
        → records_next (records_from cfg n) o ≡ records_next (records_from cfg m) o
    go None e later = refl
    go (Some p) e later =
        let starts = (leaves cfg s [] [] xs p e).starts in
        let fewer = fewer_left cfg s xs p none e in
        ap (λ rs. p.0 ∷ rs) (later p starts (omega arith) (omega arith))

-- a record, and those after it
pub records-more : (s : State) (xs : List ℕ) (p : Read) → ends_at_end s ≡ false →
    next_record default_config s [] [] xs ≡ Some p
    → (records_in s xs ≡ p.0 ∷ records_in p.1 p.2) × (ends_at_end p.1 ≡ false)
unfolding records_from
records-more s xs p none e =
    let starts = (leaves default_config s [] [] xs p e).starts in
    let fewer = fewer_left default_config s xs p none e in
    let one : records_in s xs ≡ p.0 ∷ records_from default_config (length xs) p.1 p.2 = rw (add-one, e) in (
      one ∙ ap (λ rs. p.0 ∷ rs)
          (same_records (length xs) (length p.2 + 1) default_config p.1 p.2 starts fewer (omega arith)),
      starts,
    )

-- no record
pub records-end : (s : State) (xs : List ℕ) → next_record default_config s [] [] xs ≡ None → records_in s xs ≡ []
unfolding records_from
records-end s xs e = rw (add-one, e)

-- what a source has, where it is known
source_bytes : (a : TextReader) → Stands a → source_of known a ≡ Some (bytes_left a)
source_bytes a s = go (source_of known a) s.source
  where
    go : (o : Option (List ℕ)) → IsSome o → o ≡ Some (unwrap_or o [])
    go (Some xs) h = refl
    go None h = absurd cc

-- what reading a record leaves
pub record GoesOn (a b : TextReader) (fields : List (List ℕ)) : Type 0 where
  pub stands : Stands b
  pub records : records_left a ≡ fields ∷ records_left b

pub goes_on : (a b : TextReader) (fields : List (List ℕ)) → Stands a → ReadRecord known a b true fields →
    b.first ≡ true → is_flexible b ≡ is_flexible a → GoesOn a b fields
unfolding Reached
goes_on a b fields s r first same =
    let more = rows-more known a b fields default_config a.state (bytes_left a) (bytes_left a) [] s.config
    (source_bytes a s) (refl, refl) r in
    let (after, at_after, (p, found, fields_are, (state_is, rest_is))) = more in
    let next = records-more a.state (bytes_left a) p s.between found in
    let now : bytes_left b ≡ after = ap (λ (o : Option (List ℕ)). unwrap_or o []) at_after in
    record {
      stands = record {
        flexible = same ∙ s.flexible;
        config = r.2 ∙ s.config;
        trim = r.3 ∙ s.trim;
        ready = inl first;
        between = rw (← state_is) next.1;
        source = rw at_after refl;
      };
      records = next.0 ∙ rw (← fields_are, now, state_is, rest_is) refl;
    }

-- the end of the text
pub stops : (a b : TextReader) (fields : List (List ℕ)) → Stands a → ReadRecord known a b false fields →
    records_left a ≡ []
stops a b fields s r = records-end a.state (bytes_left a)
    (rows-end known a b fields default_config (bytes_left a) s.config (source_bytes a s) r)

-- a text has no more records than bytes
few_from : (n : ℕ) (s : State) (xs : List ℕ) → ends_at_end s ≡ false →
    length (records_from default_config n s xs) ≤ length xs
unfolding records_from
few_from zero s xs none = omega arith
few_from (suc n) s xs none = go (next_record default_config s [] [] xs) refl (λ p. few_from n p.1 p.2)
  where
    go : (o : Option Read) → next_record default_config s [] [] xs ≡ o
        → ((p : Read) → ends_at_end p.1 ≡ false → length (records_from default_config n p.1 p.2) ≤ length p.2)
        → length (records_next (records_from default_config n) o) ≤ length xs
    go None e later = omega arith
    go (Some p) e later =
        let starts = (leaves default_config s [] [] xs p e).starts in
        let fewer = fewer_left default_config s xs p none e in
        let rest = later p starts in
        omega arith

strip-fewer : (xs : List ℕ) → length (strip_bom xs) ≤ length xs
unfolding strip_bom
strip-fewer [] = omega arith
strip-fewer (a ∷ []) = omega arith
strip-fewer (a ∷ b ∷ []) = omega arith
strip-fewer (a ∷ b ∷ c ∷ rest) = go (is_bom a b c)
  where
    go : (t : Bool) → length (cond t rest (a ∷ b ∷ c ∷ rest)) ≤ length (a ∷ b ∷ c ∷ rest)
    go true = omega arith
    go false = omega arith

pub few_records : (text : List ℕ) → length (records default_config (strip_bom text)) ≤ length text
few_records text =
    let few = few_from (length (strip_bom text) + 1) st.StartRecord (strip_bom text) refl in
    let fewer = strip-fewer text in
    omega arith
