-- What is told of unknown keys and of words is true.
use Rattle.std.proofs.Common.{◌≡◌, ◌≢◌, ◌∙◌, ℕ}
use Rattle.std.proofs.Common.{true, false, List, [], ◌∷◌, Option, Some, None}
use Rattle.std.proofs.Common.{Result, Ok, Err, refl, ap, subst, inl, inr}
use Rattle.std.specs.Prelude.{IsSome}
use Rattle.std.specs.Option.{option_map_or}
use Rattle.std.proofs.lemmas.Bool.{cases_Bool}
use Rattle.toml.specs.Data.{Data, Members}
use Rattle.fx_math.specs.Faults.{or_fault}
use Rattle.fx_keys.specs.Keys.{parent_of}
use Rattle.fx_keys.specs.Table.{needed}
use Rattle.fx_keys.specs.declared.fault.FilterFault.{FilterFault}
use Rattle.fx_eqs.specs.declared.mode.Mode.{Mode}
use Rattle.fx_eqs.specs.declared.mode.Mode.TheVariants.{Nearest}
use Rattle.fx_keys.specs.Words.{text_at, word_at}
use Rattle.fx_keys.specs.declared.fault.FilterFault.TheVariants.{Missing, WrongKind}
use Rattle.fx_keys.specs.declared.key.Key.{Key}
use Rattle.fx_keys.specs.declared.key.Key.TheVariants as key
use Rattle.fx_files.specs.Describes.{HoldsForm}
use Rattle.fx_files.specs.Holds.{value_at, IsWordOf}
use Rattle.fx_files.specs.declared.forms.Form.{Form}
use Rattle.fx_files.proofs.Steps.{bind_ok, fault_ok, fault_err, in_step, and_some}
use Rattle.fx_faults.specs.Kinds as kind
use Rattle.fx_faults.specs.Kinds.{kind_of}
use Rattle.fx_faults.specs.Places.{IsTableAt}
use Rattle.fx_faults.specs.Faults.{IsTrueOf}
use Rattle.fx_faults.proofs.Listed.{is_nothing}
use Rattle.std.specs.Prelude.{All, codes}
use Rattle.std.specs.Cmp.Lexicographic.{slice_cmp}
use Rattle.std.specs.Str.{bytes_eq}
use Rattle.std.proofs.Common.{nat_cmp}
use Rattle.std.proofs.lemmas.List.Elements.{All-nil, All-cons}
use Rattle.std.proofs.lemmas.Slice.Eq.{bytes_eq-Decides}
use Rattle.toml.specs.Data.{no_members, member, get_member, as_str}
use Rattle.fx_keys.specs.Table.{is_known, only_keys}
use Rattle.fx_keys.specs.declared.fault.FilterFault.TheVariants.{UnknownKey, UnknownWord}
use Rattle.fx_files.specs.Forms.{form_text, form_word, structure_word, mode_word, known_keys, default_structure}
use Rattle.fx_files.specs.Head.{form_in, head_in}
use Rattle.fx_files.specs.Settings.{structure_in, mode_in}
use Rattle.fx_files.specs.declared.forms.Structure.{Structure}
use Rattle.fx_files.proofs.HeldChoices.{form_read, word_read}
use Rattle.fx_keys.proofs.Ascending.{found_later, same_itself}
use Rattle.fx_faults.specs.Faults.{words_of}
use Rattle.fx_faults.specs.Places.{keys_in}
use Rattle.fx_faults.proofs.Listed.{is_string}
use Rattle.fx_faults.proofs.KeyFaults.{own_value, missing_true, kind_true}

-- ---- unknown keys

keys_fault : {W : Type 0} (known : List Key) (t : Members) (f : FilterFault) → only_keys known t ≡ Err f →
    ((text : List ℕ) → IsSome (get_member text t) → is_known known text ≡ false → UnknownKey text ≡ f → W) → W
unfolding only_keys
keys_fault known no_members f h told = absurd cc
keys_fault known (member j d ms) f h told = elim (cases_Bool (is_known known j)) [
  | inl is ↦ keys_fault known ms f (rw is at h) (λ text there unknown e.
      told text (found_later (slice_cmp nat_cmp text j) d (get_member text ms) there) unknown e)
  | inr unknown ↦
      let e : ◌≡◌ {A = Result (Unit {0}) FilterFault} (Err (UnknownKey j)) (Err f) = rw unknown at h in
      told j (rw (same_itself j) refl) unknown cc
]

pub keys_true : (file : Members) (form : Form) (list : Option Key) (known : List Key) (place : ℕ) (owner : Members)
    (f : FilterFault) → HoldsForm file form → IsTableAt list place file owner → keys_in list form ≡ Some known →
    only_keys known owner ≡ Err f → IsTrueOf file f
keys_true file form list known place owner f named stands may_have h =
    keys_fault known owner f h (λ text there unknown e. subst (IsTrueOf file) e
    (record {
      form = form;
      named = named;
      list = list;
      place = place;
      owner = owner;
      stands = stands;
      known = known;
      may_have = may_have;
      there = there;
      unknown = unknown;
    }))

-- ---- words

other_word : (text word : List ℕ) → bytes_eq text word ≡ false → text ≢ word
other_word text word h same =
    let is : bytes_eq text word ≡ true = (bytes_eq-Decides text word).1 same in absurd cc

no_form : (text : List ℕ) → form_word text ≡ None → All (λ word. text ≢ word) (words_of key.Form)
no_form text h = elim (cases_Bool (bytes_eq text (codes "tf"))) [
  | inl is ↦ absurd (let e : ◌≡◌ {A = Option Form} (Some _) None = rw is at h in cc)
  | inr n1 ↦ elim (cases_Bool (bytes_eq text (codes "sos"))) [
    | inl is ↦ absurd (let e : ◌≡◌ {A = Option Form} (Some _) None = rw (n1, is) at h in cc)
    | inr n2 ↦ elim (cases_Bool (bytes_eq text (codes "ss"))) [
      | inl is ↦ absurd (let e : ◌≡◌ {A = Option Form} (Some _) None = rw (n1, n2, is) at h in cc)
      | inr n3 ↦ elim (cases_Bool (bytes_eq text (codes "lattice"))) [
        | inl is ↦ absurd (let e : ◌≡◌ {A = Option Form} (Some _) None = rw (n1, n2, n3, is) at h in cc)
        | inr n4 ↦
            let P : List ℕ → Type 0 = λ word. text ≢ word in
            All-cons P (codes "tf") (codes "sos" ∷ codes "ss" ∷ codes "lattice" ∷ []) (other_word text (codes "tf") n1)
            (All-cons P (codes "sos") (codes "ss" ∷ codes "lattice" ∷ []) (other_word text (codes "sos") n2)
            (All-cons P (codes "ss") (codes "lattice" ∷ []) (other_word text (codes "ss") n3)
            (All-cons P (codes "lattice") [] (other_word text (codes "lattice") n4) (All-nil P))))
      ]
    ]
  ]
]

no_structure : (text : List ℕ) → structure_word text ≡ None → All (λ word. text ≢ word) (words_of key.Structure)
no_structure text h = elim (cases_Bool (bytes_eq text (codes "df1"))) [
  | inl is ↦ absurd (let e : ◌≡◌ {A = Option Structure} (Some _) None = rw is at h in cc)
  | inr n1 ↦ elim (cases_Bool (bytes_eq text (codes "df2"))) [
    | inl is ↦ absurd (let e : ◌≡◌ {A = Option Structure} (Some _) None = rw (n1, is) at h in cc)
    | inr n2 ↦ elim (cases_Bool (bytes_eq text (codes "df2t"))) [
      | inl is ↦ absurd (let e : ◌≡◌ {A = Option Structure} (Some _) None = rw (n1, n2, is) at h in cc)
      | inr n3 ↦ elim (cases_Bool (bytes_eq text (codes "fir"))) [
        | inl is ↦ absurd (let e : ◌≡◌ {A = Option Structure} (Some _) None = rw (n1, n2, n3, is) at h in cc)
        | inr n4 ↦ elim (cases_Bool (bytes_eq text (codes "lattice"))) [
          | inl is ↦ absurd (let e : ◌≡◌ {A = Option Structure} (Some _) None = rw (n1, n2, n3, n4, is) at h in cc)
          | inr n5 ↦ elim (cases_Bool (bytes_eq text (codes "ss"))) [
            | inl is ↦ absurd (let e : ◌≡◌ {A = Option Structure} (Some _) None =
                rw (n1, n2, n3, n4, n5, is) at h in cc)
            | inr n6 ↦
                let P : List ℕ → Type 0 = λ word. text ≢ word in
                All-cons P (codes "df1") (codes "df2" ∷ codes "df2t" ∷ codes "fir" ∷ codes "lattice" ∷ codes "ss" ∷ [])
                (other_word text (codes "df1") n1)
                (All-cons P (codes "df2") (codes "df2t" ∷ codes "fir" ∷ codes "lattice" ∷ codes "ss" ∷ [])
                (other_word text (codes "df2") n2)
                (All-cons P (codes "df2t") (codes "fir" ∷ codes "lattice" ∷ codes "ss" ∷ [])
                (other_word text (codes "df2t") n3)
                (All-cons P (codes "fir") (codes "lattice" ∷ codes "ss" ∷ []) (other_word text (codes "fir") n4)
                (All-cons P (codes "lattice") (codes "ss" ∷ []) (other_word text (codes "lattice") n5)
                (All-cons P (codes "ss") [] (other_word text (codes "ss") n6) (All-nil P))))))
          ]
        ]
      ]
    ]
  ]
]

no_mode : (text : List ℕ) → mode_word text ≡ None → All (λ word. text ≢ word) (words_of key.Rounding)
no_mode text h = elim (cases_Bool (bytes_eq text (codes "nearest"))) [
  | inl is ↦ absurd (let e : ◌≡◌ {A = Option Mode} (Some _) None = rw is at h in cc)
  | inr n1 ↦ elim (cases_Bool (bytes_eq text (codes "floor"))) [
    | inl is ↦ absurd (let e : ◌≡◌ {A = Option Mode} (Some _) None = rw (n1, is) at h in cc)
    | inr n2 ↦
        let P : List ℕ → Type 0 = λ word. text ≢ word in
        All-cons P (codes "nearest") (codes "floor" ∷ []) (other_word text (codes "nearest") n1)
        (All-cons P (codes "floor") [] (other_word text (codes "floor") n2) (All-nil P))
  ]
]

-- the value of a key is no text
text_true : (file : Members) (k : Key) (v : Data) (f : FilterFault) → parent_of k ≡ None → kind_of k ≡ kind.Text →
    value_at k file ≡ Some v → or_fault (WrongKind k) (as_str v) ≡ Err f → IsTrueOf file f
text_true file k v f own is there h =
    let (none, e) = fault_err (WrongKind k) f (as_str v) h in
    kind_true file k kind.Text 0 v f (own_value file k v own there) is (is_nothing (as_str v) none) e

-- the value of a key is none of its words
word_true : {A : Type 0} (file : Members) (k : Key) (meaning : List ℕ → Option A) (v : Data) (f : FilterFault) →
    parent_of k ≡ None → kind_of k ≡ kind.Text → value_at k file ≡ Some v →
    ((text : List ℕ) → meaning text ≡ None → All (λ word. text ≢ word) (words_of k)) →
    word_at k meaning v ≡ Err f → IsTrueOf file f
word_true file k meaning v f own kinded there others h =
    in_step (text_at k v) _ f h (text_true file k v f own kinded there)
    (λ text is past_is.
    let (none, e) = fault_err (UnknownWord k) f (meaning text) past_is in
    subst (IsTrueOf file) e
    (record {
      words = kinded;
      text = text;
      held = there ∙ ap (λ (x : Data). Some x) (is_string v text (fault_ok (WrongKind k) (as_str v) text is));
      other = others text none;
    }))

-- the same where the key need not be there
choice_true : {A : Type 0} (file : Members) (k : Key) (meaning : List ℕ → Option A) (default : A) (o : Option Data)
    (f : FilterFault) → parent_of k ≡ None → kind_of k ≡ kind.Text → value_at k file ≡ o →
    ((text : List ℕ) → meaning text ≡ None → All (λ word. text ≢ word) (words_of k)) →
    option_map_or (word_at k meaning) o (Ok default) ≡ Err f → IsTrueOf file f
choice_true file k meaning default None f own kinded there others h = absurd cc
choice_true file k meaning default (Some v) f own kinded there others h =
    word_true file k meaning v f own kinded there others h

form_true : (file : Members) (f : FilterFault) → form_in file ≡ Err f → IsTrueOf file f
form_true file f h =
    in_step (needed key.Form file) _ f h (missing_true file key.Form 0 file f refl tt)
    (λ v got past_got.
    let there : value_at key.Form file ≡ Some v = fault_ok (Missing key.Form) (value_at key.Form file) v got in
    word_true file key.Form form_word v f refl refl there no_form past_got)

pub structure_true : (file : Members) (form : Form) (f : FilterFault) → structure_in form file ≡ Err f → IsTrueOf file f
structure_true file form f h =
    choice_true file key.Structure structure_word (default_structure form) (value_at key.Structure file) f
    refl refl refl no_structure h

pub mode_true : (file : Members) (f : FilterFault) → mode_in file ≡ Err f → IsTrueOf file f
mode_true file f h =
    choice_true file key.Rounding mode_word Nearest (value_at key.Rounding file) f refl refl refl no_mode h

-- ---- the form, and the keys that a file of it may have

form_named : (file : Members) (form : Form) → form_in file ≡ Ok form → HoldsForm file form
form_named file form h =
    let (v, there, past_there) = bind_ok (needed key.Form file) _ form h in
    and_some (value_at key.Form file) (IsWordOf form_text form) v
    (fault_ok (Missing key.Form) (value_at key.Form file) v there)
    (word_read key.Form form_text form_word v form form_read past_there)

pub head_true : (file : Members) (f : FilterFault) → head_in file ≡ Err f → IsTrueOf file f
unfolding head_in
head_true file f h =
    in_step (form_in file) _ f h (form_true file f)
    (λ form got past_got. in_step (only_keys (known_keys form) file) _ f past_got
    (keys_true file form None (known_keys form) 0 file f (form_named file form got) refl refl)
    (λ u keys past_keys. absurd cc))
