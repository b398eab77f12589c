-- Of words in the plain form clap states no fault, and it finds in them the same command.
use Rattle.std.proofs.Common.{◌≡◌, ◌∙◌, sym, ap, refl, subst, ℕ, Bool, true, false, ◌&&◌, cond, List, []}
use Rattle.std.proofs.Common.{◌∷◌, length, Option, Some, None, bytes_eq, inl, inr, arith}
use Rattle.std.specs.Prelude.{◌==◌}
use Rattle.std.specs.List.{list_all}
use Rattle.std.specs.Option.{option_and_then, option_or}
use Rattle.std.proofs.lemmas.Bool.{eqb-true}
use Rattle.std.proofs.lemmas.Bool.Decides.{eqb_tells}
use Rattle.std.proofs.lemmas.Slice.Eq.{bytes_eq-Decides}
use Rattle.clap.specs.Lexer.{long_of, long_of_rest, short_of, short_of_rest, strip_byte}
use Rattle.clap.specs.Words.{Text}
use Rattle.clap.proofs.OnLiterals.{clap_on_literals}
use Rattle.fx_words.specs.Command.{Command, is_plain, names_fit, operand_words, plain_of, verb_in, verb_of}
use Rattle.fx_words.specs.Command.{with_names, word_of}
use Rattle.fx_words.specs.Words.{command_of, read_of, tool_app, verb_app, with_operands, with_verbs, ClapAgrees}
use Rattle.fx_words.specs.declared.command.Verb.{Verb}
use Rattle.fx_words.specs.declared.command.Verb.TheVariants.{Check, Gain, Large, Make, Report, Show, Simulate}

-- ---- a plain word is a value

-- clap takes the word for a value
record IsValue (word : Text) : Type 0 where
  no_dashes : bytes_eq word (45 ∷ 45 ∷ []) ≡ false
  no_long : long_of word ≡ None
  no_short : short_of word ≡ None

both : (a b : Bool) → (a && b) ≡ true → (a ≡ true) × (b ≡ true)
both true b e = (refl, e)
both false b e = absurd cc

never : (a : Bool) → (a && false) ≡ true → ⊥
never true e = cc
never false e = cc

-- a first byte that is no hyphen
begins_otherwise : (x : ℕ) (xs : Text) → (x == 45) ≡ false → IsValue (x ∷ xs)
begins_otherwise x xs e = record {
  no_dashes = rw e refl;
  no_long = ap (λ b. option_and_then long_of_rest (option_and_then (strip_byte 45) (cond b (Some xs) None))) e;
  no_short = ap (λ b. option_and_then short_of_rest (cond b (Some xs) None)) e;
}

is_value : (word : Text) → is_plain word ≡ true → IsValue word
is_value [] h = absurd cc
is_value (x ∷ xs) h = elim (eqb_tells x 45) [
  | inl same ↦ absurd (never _ (subst (λ y. is_plain (y ∷ xs) ≡ true) same.1 h))
  | inr other ↦ begins_otherwise x xs other.0
]

-- ---- as many names as operands

by_one : (P : List Text → Type 0) → ((f : Text) → IsValue f → P (f ∷ [])) → (names : List Text) →
    (length names == 1) ≡ true → list_all is_plain names ≡ true → P names
by_one P h [] n p = absurd cc
by_one P h (f ∷ []) n p = h f (is_value f (both (is_plain f) true p).0)
by_one P h (f ∷ g ∷ rest) n p =
    absurd (let e = eqb-true (length (f ∷ g ∷ rest)) 1 n in omega (arith, e))

by_two : (P : List Text → Type 0) → ((f g : Text) → IsValue f → IsValue g → P (f ∷ g ∷ [])) → (names : List Text) →
    (length names == 2) ≡ true → list_all is_plain names ≡ true → P names
by_two P h [] n p = absurd cc
by_two P h (f ∷ []) n p = absurd cc
by_two P h (f ∷ g ∷ []) n p =
    let rest = both (is_plain f) (is_plain g && true) p in
    h f g (is_value f rest.0) (is_value g (both (is_plain g) true rest.1).0)
by_two P h (f ∷ g ∷ k ∷ rest) n p =
    absurd (let e = eqb-true (length (f ∷ g ∷ k ∷ rest)) 2 n in omega (arith, e))

by_three : (P : List Text → Type 0) → ((f g k : Text) → IsValue f → IsValue g → IsValue k → P (f ∷ g ∷ k ∷ [])) →
    (names : List Text) → (length names == 3) ≡ true → list_all is_plain names ≡ true → P names
by_three P h [] n p = absurd cc
by_three P h (f ∷ []) n p = absurd cc
by_three P h (f ∷ g ∷ []) n p = absurd cc
by_three P h (f ∷ g ∷ k ∷ []) n p =
    let rest = both (is_plain f) (is_plain g && (is_plain k && true)) p in
    let last = both (is_plain g) (is_plain k && true) rest.1 in
    h f g k (is_value f rest.0) (is_value g last.0) (is_value k (both (is_plain k) true last.1).0)
by_three P h (f ∷ g ∷ k ∷ m ∷ rest) n p =
    absurd (let e = eqb-true (length (f ∷ g ∷ k ∷ m ∷ rest)) 3 n in omega (arith, e))

-- ---- what clap reads of each command's word and such names

-- it reads this command with these names
abbrev Reads : Text → Verb → List Text → Type 0
Reads program v names = read_of (program ∷ word_of v ∷ names) ≡ with_names names v

reads_gain : (program f : Text) → IsValue f → Reads program Gain (f ∷ [])
unfolding read_of tool_app with_verbs verb_app with_operands verb_in clap_on_literals
reads_gain program f a = rw (a.no_dashes, a.no_long, a.no_short) refl

reads_large : (program f : Text) → IsValue f → Reads program Large (f ∷ [])
unfolding read_of tool_app with_verbs verb_app with_operands verb_in clap_on_literals
reads_large program f a = rw (a.no_dashes, a.no_long, a.no_short) refl

reads_simulate : (program f g : Text) → IsValue f → IsValue g → Reads program Simulate (f ∷ g ∷ [])
unfolding read_of tool_app with_verbs verb_app with_operands verb_in clap_on_literals
reads_simulate program f g a b =
    rw (a.no_dashes, a.no_long, a.no_short, b.no_dashes, b.no_long, b.no_short) refl

reads_check : (program f g k : Text) → IsValue f → IsValue g → IsValue k → Reads program Check (f ∷ g ∷ k ∷ [])
unfolding read_of tool_app with_verbs verb_app with_operands verb_in clap_on_literals
reads_check program f g k a b c =
    rw (a.no_dashes, a.no_long, a.no_short, b.no_dashes, b.no_long, b.no_short, c.no_dashes, c.no_long, c.no_short) refl

reads_make : (program f g k : Text) → IsValue f → IsValue g → IsValue k → Reads program Make (f ∷ g ∷ k ∷ [])
unfolding read_of tool_app with_verbs verb_app with_operands verb_in clap_on_literals
reads_make program f g k a b c =
    rw (a.no_dashes, a.no_long, a.no_short, b.no_dashes, b.no_long, b.no_short, c.no_dashes, c.no_long, c.no_short) refl

reads_report : (program f g k : Text) → IsValue f → IsValue g → IsValue k → Reads program Report (f ∷ g ∷ k ∷ [])
unfolding read_of tool_app with_verbs verb_app with_operands verb_in clap_on_literals
reads_report program f g k a b c =
    rw (a.no_dashes, a.no_long, a.no_short, b.no_dashes, b.no_long, b.no_short, c.no_dashes, c.no_long, c.no_short) refl

reads_show : (program f : Text) → IsValue f → Reads program Show (f ∷ [])
unfolding read_of tool_app with_verbs verb_app with_operands verb_in clap_on_literals
reads_show program f a = rw (a.no_dashes, a.no_long, a.no_short) refl

reads : (program : Text) (v : Verb) (names : List Text) → (length names == length (operand_words v)) ≡ true →
    list_all is_plain names ≡ true → Reads program v names
reads program Check = by_three (Reads program Check) (reads_check program)
reads program Gain = by_one (Reads program Gain) (reads_gain program)
reads program Large = by_one (Reads program Large) (reads_large program)
reads program Make = by_three (Reads program Make) (reads_make program)
reads program Report = by_three (Reads program Report) (reads_report program)
reads program Show = by_one (Reads program Show) (reads_show program)
reads program Simulate = by_two (Reads program Simulate) (reads_simulate program)

-- ---- so in the plain form

-- a command's word is its own
word_in : (vs : List Verb) (word : Text) (v : Verb) → verb_in vs word ≡ Some v → word_of v ≡ word
unfolding verb_in
word_in [] word v e = cc
word_in (u ∷ us) word v e = step (bytes_eq (word_of u) word) refl e (word_in us word v)
  where
    step : (b : Bool) → bytes_eq (word_of u) word ≡ b → cond b (Some u) (verb_in us word) ≡ Some v →
        (verb_in us word ≡ Some v → word_of v ≡ word) → word_of v ≡ word
    step true f e later =
        let same : u ≡ v = cc in subst (λ w. word_of w ≡ word) same ((bytes_eq-Decides (word_of u) word).0 f)
    step false f e later = later e

fitting : (program : Text) (v : Verb) (names : List Text) (c : Command) (b : Bool) → names_fit v names ≡ b →
    list_all is_plain names ≡ true → cond b (Some (record { verb = v; names = names })) None ≡ Some c →
    read_of (program ∷ word_of v ∷ names) ≡ Some c
fitting program v names c false fit plain e = cc
fitting program v names c true fit plain e =
    reads program v names (both (length names == length (operand_words v)) _ fit).0 plain
    ∙ ap (λ b. cond b (Some (record { verb = v; names = names })) None) fit ∙ e

with_verb : (program word : Text) (names : List Text) (c : Command) (found : Option Verb) → verb_of word ≡ found →
    list_all is_plain names ≡ true → option_and_then (with_names names) found ≡ Some c →
    read_of (program ∷ word ∷ names) ≡ Some c
with_verb program word names c None f plain e = cc
with_verb program word names c (Some v) f plain e =
    subst (λ (w : Text). read_of (program ∷ w ∷ names) ≡ Some c) (word_in _ word v f)
    (fitting program v names c (names_fit v names) refl plain e)

where_plain : (program word : Text) (names : List Text) (c : Command) (b : Bool) → list_all is_plain names ≡ b →
    cond b (option_and_then (with_names names) (verb_of word)) None ≡ Some c → read_of (program ∷ word ∷ names) ≡ Some c
where_plain program word names c false plain e = cc
where_plain program word names c true plain e = with_verb program word names c (verb_of word) refl plain e

plain_is_read : (words : List Text) (c : Command) → plain_of words ≡ Some c → read_of words ≡ Some c
unfolding plain_of
plain_is_read [] c e = cc
plain_is_read (program ∷ []) c e = cc
plain_is_read (program ∷ word ∷ names) c e = where_plain program word names c (list_all is_plain names) refl e

either : (p q : Option Command) → ((c : Command) → p ≡ Some c → q ≡ Some c) → option_or p q ≡ q
either None q h = refl
either (Some c) q h = sym (h c refl)

pub clap_agrees : ClapAgrees
unfolding command_of
clap_agrees words = either (plain_of words) (read_of words) (plain_is_read words)
