-- The form, the structure and what else is chosen are read exactly where a table holds them.
use Rattle.std.proofs.Common.{◌≡◌, ◌∙◌, ℕ, ℤ, pos, negsuc}
use Rattle.std.proofs.Common.{unsigned_abs, true, List, Option}
use Rattle.std.proofs.Common.{Some, None, Ok}
use Rattle.std.proofs.Common.{refl, sym, ap, subst, inl, inr}
use Rattle.std.specs.Prelude.{MatchOption, codes}
use Rattle.std.specs.Option.{option_map_or}
use Rattle.std.specs.Str.{bytes_eq}
use Rattle.std.proofs.lemmas.Bool.{cases_Bool}
use Rattle.std.proofs.lemmas.Slice.Eq.{bytes_eq-Decides}
use Rattle.toml.specs.Data.{Data, Members, as_str}
use Rattle.fx_math.specs.Faults.{unless}
use Rattle.fx_math.specs.Words.{is_accumulator}
use Rattle.fx_eqs.specs.declared.mode.Mode.{Mode}
use Rattle.fx_eqs.specs.declared.mode.Mode.TheVariants as mode
use Rattle.fx_files.specs.Settings.{Settings, structure_in, mode_in, is_listed, accumulator_in, settings_in}
use Rattle.fx_files.specs.Describes.{DescribesSettings, HoldsForm}
use Rattle.fx_files.specs.Head.{form_in, head_in}
use Rattle.fx_files.specs.Holds.{value_at, HasOnly, IsWordOf}
use Rattle.fx_files.specs.Holds.{HoldsInteger}
use Rattle.fx_keys.specs.Keys.{range_of, default_of}
use Rattle.fx_files.specs.Forms.{form_text, form_word, structure_text, structure_word, mode_text, mode_word}
use Rattle.fx_files.specs.Forms.{default_structure, known_keys}
use Rattle.fx_keys.specs.Table.{needed, only_keys}
use Rattle.fx_keys.specs.Wholes.{integer_or, natural_in, naturals_in}
use Rattle.fx_keys.specs.Words.{text_at, word_at}
use Rattle.fx_keys.specs.declared.key.Key.{Key}
use Rattle.fx_keys.specs.declared.fault.FilterFault.TheVariants.{Missing, WrongKind}
use Rattle.fx_keys.specs.declared.fault.FilterFault.TheVariants.{UnknownWord, Limit}
use Rattle.fx_keys.specs.declared.key.Key.TheVariants as key
use Rattle.fx_files.specs.declared.forms.Form.{Form}
use Rattle.fx_files.specs.declared.forms.Form.TheVariants as form
use Rattle.fx_files.specs.declared.forms.Structure.{Structure}
use Rattle.fx_files.specs.declared.forms.Structure.TheVariants as structure
use Rattle.fx_files.proofs.Steps.{and_some, bind_ok, fault_ok, ok_stands, same_ok, some_and, unless_ok}
use Rattle.fx_files.proofs.HeldNumbers.{integer_read, integer_stands}
use Rattle.fx_files.proofs.HeldNumbers.{natural_read, natural_stands, naturals_read, naturals_stand}
use Rattle.fx_files.proofs.HeldTables.{only_read, only_stands}

-- ---- words

named : (text word : List ℕ) → bytes_eq text word ≡ true → text ≡ word
named text word h = (bytes_eq-Decides text word).0 h

-- a text that spells what a value is, spells the value
pub spelled_so : {A : Type 0} (spelled : A → List ℕ) (text : List ℕ) (x y : A) →
    ◌≡◌ {A = Option A} (Some x) (Some y) → text ≡ spelled x → text ≡ spelled y
spelled_so {A} spelled text x y same h = let e : x ≡ y = cc in subst (λ (z : A). text ≡ spelled z) e h

pub form_read : (text : List ℕ) (f : Form) → form_word text ≡ Some f → text ≡ form_text f
form_read text f h = elim (cases_Bool (bytes_eq text (codes "tf"))) [
  | inl is ↦ spelled_so form_text text form.Tf f (rw is at h) (named text (codes "tf") is)
  | inr n1 ↦ elim (cases_Bool (bytes_eq text (codes "sos"))) [
    | inl is ↦ spelled_so form_text text form.Sos f (rw (n1, is) at h) (named text (codes "sos") is)
    | inr n2 ↦ elim (cases_Bool (bytes_eq text (codes "ss"))) [
      | inl is ↦ spelled_so form_text text form.Ss f (rw (n1, n2, is) at h) (named text (codes "ss") is)
      | inr n3 ↦ elim (cases_Bool (bytes_eq text (codes "lattice"))) [
        | inl is ↦ spelled_so form_text text form.Lattice f (rw (n1, n2, n3, is) at h) (named text (codes "lattice") is)
        | inr n4 ↦ absurd (let e : ◌≡◌ {A = Option Form} None (Some f) = rw (n1, n2, n3, n4) at h in cc)
      ]
    ]
  ]
]

form_says : (f : Form) → form_word (form_text f) ≡ Some f
form_says form.Tf = refl
form_says form.Sos = refl
form_says form.Ss = refl
form_says form.Lattice = refl

structure_read : (text : List ℕ) (f : Structure) → structure_word text ≡ Some f → text ≡ structure_text f
structure_read text f h = elim (cases_Bool (bytes_eq text (codes "df1"))) [
  | inl is ↦ spelled_so structure_text text structure.Df1 f (rw is at h) (named text (codes "df1") is)
  | inr n1 ↦ elim (cases_Bool (bytes_eq text (codes "df2"))) [
    | inl is ↦ spelled_so structure_text text structure.Df2 f (rw (n1, is) at h) (named text (codes "df2") is)
    | inr n2 ↦ elim (cases_Bool (bytes_eq text (codes "df2t"))) [
      | inl is ↦ spelled_so structure_text text structure.Df2t f (rw (n1, n2, is) at h) (named text (codes "df2t") is)
      | inr n3 ↦ elim (cases_Bool (bytes_eq text (codes "fir"))) [
        | inl is ↦ spelled_so structure_text text structure.Fir f (rw (n1, n2, n3, is) at h)
            (named text (codes "fir") is)
        | inr n4 ↦ elim (cases_Bool (bytes_eq text (codes "lattice"))) [
          | inl is ↦ spelled_so structure_text text structure.Lattice f (rw (n1, n2, n3, n4, is) at h)
              (named text (codes "lattice") is)
          | inr n5 ↦ elim (cases_Bool (bytes_eq text (codes "ss"))) [
            | inl is ↦ spelled_so structure_text text structure.Ss f (rw (n1, n2, n3, n4, n5, is) at h)
                (named text (codes "ss") is)
            | inr n6 ↦ absurd (let e : ◌≡◌ {A = Option Structure} None (Some f) =
                rw (n1, n2, n3, n4, n5, n6) at h in cc)
          ]
        ]
      ]
    ]
  ]
]

structure_says : (s : Structure) → structure_word (structure_text s) ≡ Some s
structure_says structure.Df1 = refl
structure_says structure.Df2 = refl
structure_says structure.Df2t = refl
structure_says structure.Fir = refl
structure_says structure.Lattice = refl
structure_says structure.Ss = refl

mode_read : (text : List ℕ) (m : Mode) → mode_word text ≡ Some m → text ≡ mode_text m
mode_read text m h = elim (cases_Bool (bytes_eq text (codes "nearest"))) [
  | inl is ↦ spelled_so mode_text text mode.Nearest m (rw is at h) (named text (codes "nearest") is)
  | inr n1 ↦ elim (cases_Bool (bytes_eq text (codes "floor"))) [
    | inl is ↦ spelled_so mode_text text mode.Floor m (rw (n1, is) at h) (named text (codes "floor") is)
    | inr n2 ↦ absurd (let e : ◌≡◌ {A = Option Mode} None (Some m) = rw (n1, n2) at h in cc)
  ]
]

mode_says : (m : Mode) → mode_word (mode_text m) ≡ Some m
mode_says mode.Nearest = refl
mode_says mode.Floor = refl

-- ---- a word at a key

pub word_read : {A : Type 0} (k : Key) (spelled : A → List ℕ) (meaning : List ℕ → Option A) (v : Data) (x : A) →
    ((text : List ℕ) (y : A) → meaning text ≡ Some y → text ≡ spelled y) →
    word_at k meaning v ≡ Ok x → IsWordOf spelled x v
word_read k spelled meaning v x means h =
    let (text, there, past_there) = bind_ok (text_at k v) _ x h in
    let so : text ≡ spelled x = means text x (fault_ok (UnknownWord k) (meaning text) x past_there) in
    fault_ok (WrongKind k) (as_str v) text there ∙ ap (λ (w : List ℕ). Some w) so

word_stands : {A : Type 0} (k : Key) (spelled : A → List ℕ) (meaning : List ℕ → Option A) (v : Data) (x : A) →
    ((y : A) → meaning (spelled y) ≡ Some y) → IsWordOf spelled x v → word_at k meaning v ≡ Ok x
word_stands k spelled meaning v x says h =
    rw (ok_stands (WrongKind k) (as_str v) (spelled x) h, says x) refl

-- with a default where there is no value
choice_read : {A : Type 0} (k : Key) (spelled : A → List ℕ) (meaning : List ℕ → Option A) (default : A)
    (o : Option Data) (x : A) → ((text : List ℕ) (y : A) → meaning text ≡ Some y → text ≡ spelled y) →
    option_map_or (word_at k meaning) o (Ok default) ≡ Ok x → MatchOption o (x ≡ default) (IsWordOf spelled x)
choice_read k spelled meaning default None x means h = sym (same_ok default x h)
choice_read k spelled meaning default (Some v) x means h = word_read k spelled meaning v x means h

choice_stands : {A : Type 0} (k : Key) (spelled : A → List ℕ) (meaning : List ℕ → Option A) (default : A)
    (o : Option Data) (x : A) → ((y : A) → meaning (spelled y) ≡ Some y) →
    MatchOption o (x ≡ default) (IsWordOf spelled x) → option_map_or (word_at k meaning) o (Ok default) ≡ Ok x
choice_stands {A} k spelled meaning default None x says h = ap (λ (y : A). Ok y) (sym h)
choice_stands k spelled meaning default (Some v) x says h = word_stands k spelled meaning v x says h

-- ---- the form and the known keys

pub head_read : (t : Members) (form : Form) → head_in t ≡ Ok form → HoldsForm t form × HasOnly (known_keys form) t
unfolding head_in
head_read t form h =
    let (f, got, past_got) = bind_ok (form_in t) _ form h in
    let (u, keys, same) = bind_ok (only_keys (known_keys f) t) _ form past_got in
    let (v, there, g1) = bind_ok (needed key.Form t) _ f got in
    subst (λ (x : Form). HoldsForm t x × HasOnly (known_keys x) t) (same_ok f form same) (
      and_some (value_at key.Form t) (IsWordOf form_text f) v
          (fault_ok (Missing key.Form) (value_at key.Form t) v there)
          (word_read key.Form form_text form_word v f form_read g1),
      only_read (known_keys f) t u keys,
    )

pub head_stands : (t : Members) (form : Form) → HoldsForm t form → HasOnly (known_keys form) t → head_in t ≡ Ok form
unfolding head_in
head_stands t form h keys =
    let (v, there, text) = some_and (value_at key.Form t) (IsWordOf form_text form) h in
    rw (
      ok_stands (Missing key.Form) (value_at key.Form t) v there,
      word_stands key.Form form_text form_word v form form_says text,
      only_stands (known_keys form) t keys,
    ) refl

-- ---- settings

listed_is : (z : ℤ) → is_listed z ≡ true → (n : ℕ) × (z ≡ pos n) × (is_accumulator n ≡ true)
listed_is (pos n) h = (n, refl, h)
listed_is (negsuc n) h = absurd cc

accumulator_read : (t : Members) (n : ℕ) → accumulator_in t ≡ Ok n →
    HoldsInteger key.Accumulator (default_of key.Accumulator) t (pos n) × (is_accumulator n ≡ true)
accumulator_read t n h =
    let (z, number, past_number) = bind_ok (integer_or key.Accumulator (default_of key.Accumulator) t) _ n h in
    let (u, is, same) = bind_ok
    (unless (Limit key.Accumulator z (range_of key.Accumulator).high) (is_listed z)) (λ u.
    Ok (unsigned_abs z)) n past_number in
    let (m, positive, fits) = listed_is z (unless_ok _ _ u is) in
    let size : unsigned_abs z ≡ n = same_ok (unsigned_abs z) n same in
    let equal : m ≡ n = rw positive at size in (
      subst (HoldsInteger key.Accumulator (default_of key.Accumulator) t) (positive ∙ ap pos equal)
          (integer_read key.Accumulator (default_of key.Accumulator) t z number),
      subst (λ (x : ℕ). is_accumulator x ≡ true) equal fits,
    )

accumulator_stands : (t : Members) (n : ℕ) →
    HoldsInteger key.Accumulator (default_of key.Accumulator) t (pos n) → is_accumulator n ≡ true →
    accumulator_in t ≡ Ok n
accumulator_stands t n h is =
    rw (integer_stands key.Accumulator (default_of key.Accumulator) t (pos n) h, is) refl

pub settings_read : (form : Form) (t : Members) (s : Settings) → settings_in form t ≡ Ok s → DescribesSettings form t s
unfolding settings_in
settings_read form t s h =
    let (structure, named_so, past_named_so) = bind_ok (structure_in form t) _ s h in
    let (rounding, rounded, past_rounded) = bind_ok (mode_in t) _ s past_named_so in
    let (accumulator, bits, past_bits) = bind_ok (accumulator_in t) _ s past_rounded in
    let (word, wide, past_wide) = bind_ok (natural_in key.Word t) _ s past_bits in
    let (guards, guard, past_guard) = bind_ok (naturals_in key.Guards t) _ s past_wide in
    let (fractions, fraction, past_fraction) = bind_ok (naturals_in key.Fractions t) _ s past_guard in
    let (lengths, moments, same) = bind_ok (naturals_in key.Lengths t) _ s past_fraction in
    let a = accumulator_read t accumulator bits in
    subst (DescribesSettings form t) (same_ok _ s same)
    (record {
      structure =
          choice_read key.Structure structure_text structure_word (default_structure form)
          (value_at key.Structure t) structure structure_read named_so;
      rounding =
          choice_read key.Rounding mode_text mode_word mode.Nearest
          (value_at key.Rounding t) rounding mode_read rounded;
      accumulator = a.0;
      is_listed = a.1;
      word = natural_read key.Word t word (record { le = tt }) wide;
      guards = naturals_read key.Guards t guards (record { le = tt }) guard;
      fractions = naturals_read key.Fractions t fractions (record { le = tt }) fraction;
      lengths = naturals_read key.Lengths t lengths (record { le = tt }) moments;
    })

pub settings_stand : (form : Form) (t : Members) (s : Settings) → DescribesSettings form t s → settings_in form t ≡ Ok s
unfolding settings_in
settings_stand form t s h =
    rw (
      choice_stands key.Structure structure_text structure_word (default_structure form)
          (value_at key.Structure t) s.structure structure_says h.structure,
      choice_stands key.Rounding mode_text mode_word mode.Nearest
          (value_at key.Rounding t) s.rounding mode_says h.rounding,
      accumulator_stands t s.accumulator h.accumulator h.is_listed,
      natural_stands key.Word t s.word h.word,
      naturals_stand key.Guards t s.guards h.guards,
      naturals_stand key.Fractions t s.fractions h.fractions,
      naturals_stand key.Lengths t s.lengths h.lengths,
    ) refl
