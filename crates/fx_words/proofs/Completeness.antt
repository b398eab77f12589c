-- Words of which clap states no fault name one of the commands.
use Rattle.std.proofs.Common.{◌≡◌, ◌∙◌, sym, ap, refl, subst, ℕ, Bool, true, false, not, ◌&&◌, cond, List, []}
use Rattle.std.proofs.Common.{◌∷◌}
use Rattle.std.proofs.Common.{Option, Some, None, inl, inr}
use Rattle.std.specs.Prelude.{IsSome, find}
use Rattle.std.specs.List.{list_all, list_any}
use Rattle.std.specs.Option.{is_some, option_and_then, option_map, option_map_or, option_or}
use Rattle.std.specs.Str.{bytes_eq}
use Rattle.std.proofs.lemmas.Bool.{cases_Bool, eq-eqb}
use Rattle.std.proofs.lemmas.List.{length-map}
use Rattle.std.proofs.lemmas.Slice.Eq.{bytes_eq-Decides}
use Rattle.clap.specs.Words.{App, Row, Shape, Text, subcommand_of}
use Rattle.clap.specs.Kinds.{Kinds, or_else, check_kinds}
use Rattle.clap.specs.Walk.{answers_to, nothing_held, walk, walk_from, settled, finished}
use Rattle.clap.specs.Facts.{explicit_source}
use Rattle.clap.specs.Takes.{is_given}
use Rattle.clap.specs.Simple.{argument_words, built, entered, label_of, names_of, rows_at}
use Rattle.clap.specs.Faults.{check_fault, defaults_fault, entered_fault, fault_of, settle_fault, walk_fault}
use Rattle.clap.proofs.OnLiterals.{clap_on_literals}
use Rattle.fx_words.specs.Command.{Command, allows, is_plain, names_fit, operand_words, plain_of, verb_in, verb_of}
use Rattle.fx_words.specs.Command.{with_names, word_of}
use Rattle.fx_words.specs.Words.{FaultlessIsCommand, FaultyIsNone, PlainIsCommand, command_of}
use Rattle.fx_words.specs.Words.{CommandsAreWhole, IsWhole}
use Rattle.fx_words.specs.Words.{found_command, read_of, tool_app, value_of, values_of, verb_app, where_faultless}
use Rattle.fx_words.specs.Words.{with_operands, with_verbs}
use Rattle.fx_words.proofs.PlainForm.{clap_agrees}
use Rattle.fx_words.specs.declared.command.Verb.{Verb}
use Rattle.fx_words.specs.declared.command.Verb.TheVariants.{Check, Gain, Large, Make, Report, Show, Simulate}

-- ---- a walk without faults ends at a command

or_else-nil : (a b : Kinds) → or_else a b ≡ [] → (a ≡ []) × (b ≡ [])
or_else-nil [] b e = (refl, e)
or_else-nil (k ∷ ks) b e = absurd cc

has_subcommand : (b c r d : Bool) → r ≡ true → check_kinds (not b && c) (not b && r) d ≡ [] → b ≡ true
has_subcommand true c r d e f = refl
has_subcommand false true true d e f = absurd cc
has_subcommand false false true d e f = absurd cc
has_subcommand false c false d e f = absurd cc

met : (s : Shape) (rows : List Row) (b : Bool) → s.subcommand_required ≡ true → check_fault s rows b ≡ [] → b ≡ true
met s rows b e f = has_subcommand b
    (s.arg_required_else_help && not (list_any (λ r. explicit_source r.source) rows)) s.subcommand_required
    (not (s.subcommand_negates_reqs && b) && list_any (λ a. a.required && not (is_given a.id rows)) s.rules) e f

-- ---- its name is the word of a command

-- this word is that of the command that has it
abbrev is_word : List ℕ → Bool
is_word word = option_map_or (λ v. bytes_eq (word_of v) word) (verb_of word) false

abbrev are_words : List Shape → Bool
are_words subs = list_all (λ s. is_word s.name) subs

tool_words : are_words (built tool_app).subs ≡ true
unfolding tool_app with_verbs verb_app with_operands verb_in clap_on_literals
tool_words = refl

record IsVerbOf (word : List ℕ) : Type 0 where
  verb : Verb
  word_is : word ≡ word_of verb
  verb_is : verb_of word ≡ Some verb

verb_by : (word : List ℕ) (found : Option Verb) → verb_of word ≡ found →
    option_map_or (λ v. bytes_eq (word_of v) word) found false ≡ true → IsVerbOf word
verb_by word None e h = absurd cc
verb_by word (Some v) e h = record {
  verb = v;
  word_is = sym ((bytes_eq-Decides (word_of v) word).0 h);
  verb_is = e;
}

verb_there : (word : List ℕ) → is_word word ≡ true → IsVerbOf word
verb_there word h = verb_by word (verb_of word) refl h

both : (a b : Bool) → (a && b) ≡ true → (a ≡ true) × (b ≡ true)
both true b e = (refl, e)
both false b e = absurd cc

-- the first of these that is found has such a name
record IsFound (p : Shape → Bool) (subs : List Shape) : Type 0 where
  shape : Shape
  is : find p subs ≡ Some shape
  word : is_word shape.name ≡ true

find_step : (p : Shape → Bool) (s : Shape) (ss : List Shape) (b : Bool) → p s ≡ b → are_words (s ∷ ss) ≡ true →
    is_some (find p (s ∷ ss)) ≡ true → (are_words ss ≡ true → is_some (find p ss) ≡ true → IsFound p ss) →
    IsFound p (s ∷ ss)
find_step p s ss true f h e later = record {
  shape = s;
  is = ap (λ b. cond b (Some s) (find p ss)) f;
  word = (both (is_word s.name) (are_words ss) h).0;
}
find_step p s ss false f h e later =
    let found = later (both (is_word s.name) (are_words ss) h).1
    (ap (λ b. is_some (cond b (Some s) (find p ss))) (sym f) ∙ e) in
    record {
      shape = found.shape;
      is = ap (λ b. cond b (Some s) (find p ss)) f ∙ found.is;
      word = found.word;
    }

find_word : (p : Shape → Bool) (subs : List Shape) → are_words subs ≡ true → is_some (find p subs) ≡ true →
    IsFound p subs
find_word p [] h e = absurd cc
find_word p (s ∷ ss) h e = find_step p s ss (p s) refl h e (find_word p ss)

is_some-map : {A B : Type 0} (f : A → B) (o : Option A) → is_some (option_map f o) ≡ true → is_some o ≡ true
is_some-map f None e = cc
is_some-map f (Some x) e = refl

-- the command that words name, with what clap found for its operands
record Named (found : Option (Text × List Row)) : Type 0 where
  verb : Verb
  rows : List Row
  is : found ≡ Some (word_of verb, rows)
  verb_is : verb_of (word_of verb) ≡ Some verb

named_by : (a : App) (stop : Option (Text × List Text)) → are_words a.subs ≡ true →
    is_some (entered a stop) ≡ true → Named (entered a stop)
named_by a None h e = absurd cc
named_by a (Some p) h e =
    let found = find_word (λ s. answers_to p.0 (label_of s)) a.subs h
    (is_some-map (λ s. rows_at s p.1) (find (λ s. answers_to p.0 (label_of s)) a.subs) e) in
    let s = found.shape in
    let v = verb_there s.name found.word in
    record {
      verb = v.verb;
      rows = (rows_at s p.1).1;
      is = ap (option_map (λ s. rows_at s p.1)) found.is ∙ ap (λ w. Some (w, (rows_at s p.1).1)) v.word_is;
      verb_is = subst (λ w. verb_of w ≡ Some v.verb) v.word_is v.verb_is;
    }

tool_requires : (built tool_app).top.subcommand_required ≡ true
unfolding tool_app with_verbs verb_app with_operands clap_on_literals
tool_requires = refl

named_there : (words : List Text) → fault_of tool_app words ≡ [] → Named (subcommand_of tool_app words)
named_there words e =
    let a = built tool_app in
    let ws = argument_words tool_app words in
    let end = walk a.top.rules (names_of a) nothing_held ws in
    let has = is_some (entered a end.stopped) in
    let one = or_else-nil (walk_fault a.top (names_of a) (walk_from nothing_held) ws) _ e in
    let two = or_else-nil (entered_fault a end.stopped) _ one.1 in
    let three = or_else-nil (settle_fault a.top.rules a.top.args_override_self end.held) _ two.1 in
    let four = or_else-nil (defaults_fault (settled a.top.rules end.held).rows a.top.rules) _ three.1 in
    named_by a end.stopped tool_words (met a.top (finished a.top.rules end.held) has tool_requires four.1)

-- ---- words without a fault

fits_where_allowed : (rows : List Row) (v : Verb) →
    with_names (values_of rows v) v ≡
    cond (allows v (values_of rows v)) (Some (record { verb = v; names = values_of rows v })) None
fits_where_allowed rows v =
    ap (λ b. cond (b && allows v (values_of rows v)) (Some (record { verb = v; names = values_of rows v })) None)
    (eq-eqb _ _ (length-map (operand_words v) (λ id. value_of rows id)))

read_without : (words : List Text) (n : Named (subcommand_of tool_app words)) → fault_of tool_app words ≡ [] →
    read_of words ≡ with_names (values_of n.rows n.verb) n.verb
unfolding read_of
read_without words n e =
    ap (λ ks. where_faultless ks (option_and_then found_command (subcommand_of tool_app words))) e
    ∙ ap (option_and_then found_command) n.is
    ∙ ap (option_and_then (λ v. with_names (values_of n.rows v) v)) n.verb_is

some_or : {X : Type 0} (p q : Option X) (x : X) → q ≡ Some x → IsSome (option_or p q)
some_or None q x e = rw e refl
some_or (Some y) q x e = refl

pub faultless_is_command : FaultlessIsCommand
unfolding command_of
faultless_is_command words e =
    let n = named_there words e in
    let read = read_without words n e ∙ fits_where_allowed n.rows n.verb in
    elim (cases_Bool (allows n.verb (values_of n.rows n.verb))) [
      | inl allowed ↦ inl (some_or (plain_of words) (read_of words) _ (read
          ∙ ap (λ b. cond b (Some (record { verb = n.verb; names = values_of n.rows n.verb })) None) allowed))
      | inr not_allowed ↦ inr (record {
        verb = n.verb;
        rows = n.rows;
        found = n.is;
        disallowed = not_allowed;
      })
    ]

-- ---- words with a fault

none_where_faulty : {X : Type 0} (kinds : Kinds) (found : Option X) → (kinds ≡ [] → ⊥) →
    where_faultless kinds found ≡ None
none_where_faulty [] found h = absurd (h refl)
none_where_faulty (k ∷ ks) found h = refl

pub faulty_is_none : FaultyIsNone
unfolding read_of
faulty_is_none words h =
    clap_agrees words
    ∙ none_where_faulty (fault_of tool_app words) (option_and_then found_command (subcommand_of tool_app words)) h

-- ---- the plain form

verb_of_word : (v : Verb) → verb_of (word_of v) ≡ Some v
unfolding verb_in
verb_of_word Check = refl
verb_of_word Gain = refl
verb_of_word Large = refl
verb_of_word Make = refl
verb_of_word Report = refl
verb_of_word Show = refl
verb_of_word Simulate = refl

pub plain_is_command : PlainIsCommand
unfolding command_of plain_of
plain_is_command program v names plain fit =
    ap (λ p. option_or p (read_of (program ∷ word_of v ∷ names)))
    (ap (λ b. cond b (option_and_then (with_names names) (verb_of (word_of v))) None) plain
    ∙ ap (option_and_then (with_names names)) (verb_of_word v)
    ∙ ap (λ b. cond b (Some (record { verb = v; names = names })) None) fit)

-- ---- names

fitting : (b : Bool) (v : Verb) (names : List (List ℕ)) → names_fit v names ≡ b →
    IsWhole (cond b (Some (record { verb = v; names = names })) None)
fitting true v names e = e
fitting false v names e = tt

with_names_whole : (names : List (List ℕ)) (v : Verb) → IsWhole (with_names names v)
with_names_whole names v = fitting (names_fit v names) v names refl

and_then_whole : {X : Type 0} (f : X → Option Command) (o : Option X) → ((x : X) → IsWhole (f x)) →
    IsWhole (option_and_then f o)
and_then_whole f None h = tt
and_then_whole f (Some x) h = h x

cond_whole : (b : Bool) (o : Option Command) → IsWhole o → IsWhole (cond b o None)
cond_whole true o h = h
cond_whole false o h = tt

where_whole : (kinds : Kinds) (o : Option Command) → IsWhole o → IsWhole (where_faultless kinds o)
where_whole [] o h = h
where_whole (k ∷ ks) o h = tt

or_whole : (p q : Option Command) → IsWhole p → IsWhole q → IsWhole (option_or p q)
or_whole None q h i = i
or_whole (Some c) q h i = h

plain_whole : (words : List (List ℕ)) → IsWhole (plain_of words)
unfolding plain_of
plain_whole [] = tt
plain_whole (program ∷ []) = tt
plain_whole (program ∷ word ∷ names) =
    cond_whole (list_all is_plain names) (option_and_then (with_names names) (verb_of word))
    (and_then_whole (with_names names) (verb_of word) (with_names_whole names))

read_whole : (words : List (List ℕ)) → IsWhole (read_of words)
unfolding read_of
read_whole words =
    where_whole (fault_of tool_app words) (option_and_then found_command (subcommand_of tool_app words))
    (and_then_whole found_command (subcommand_of tool_app words)
    (λ found. and_then_whole (λ v. with_names (values_of found.1 v) v) (verb_of found.0)
    (λ v. with_names_whole (values_of found.1 v) v)))

pub commands_are_whole : CommandsAreWhole
unfolding command_of
commands_are_whole words = or_whole (plain_of words) (read_of words) (plain_whole words) (read_whole words)
