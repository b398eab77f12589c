-- What holds of the values of a table that describes a filter.
use Rattle.std.proofs.Common.{◌≡◌, ◌≢◌, ◌∙◌, ℕ, zero, suc}
use Rattle.std.proofs.Common.{true, false, List, [], ◌∷◌, length, Option, Some}
use Rattle.std.proofs.Common.{None, refl, sym, subst, inl, inr, ◌⊎◌}
use Rattle.std.specs.Prelude.{IsSome, IsSomeAnd, MatchOption, slice_get}
use Rattle.toml.specs.Data.{Data, Members, Items, no_items, item, table, get_item, get_member}
use Rattle.toml.specs.Data.{as_str, as_array}
use Rattle.fx_nums.specs.Fraction.{Fraction}
use Rattle.fx_keys.specs.Entries.{item_count}
use Rattle.fx_keys.specs.Keys.{own_name}
use Rattle.fx_keys.specs.Table.{is_known}
use Rattle.fx_keys.specs.declared.key.Key.{Key}
use Rattle.fx_keys.specs.declared.key.Key.TheVariants as key
use Rattle.fx_files.specs.Coefficients as coefficients
use Rattle.fx_files.specs.Coefficients.{Coefficients, form_of}
use Rattle.fx_files.specs.Describes.{DescribesTransfer}
use Rattle.fx_files.specs.Describes.{DescribesCascade, DescribesSpace, DescribesLattice, DescribesCoefficients}
use Rattle.fx_files.specs.Describes.{HoldsForm, Describes}
use Rattle.fx_files.specs.Filter.{Filter}
use Rattle.fx_files.specs.Forms.{form_text, form_word, known_keys}
use Rattle.fx_files.specs.Holds.{value_at, HasOnly, Each, IsListOf, IsTableOf}
use Rattle.fx_files.specs.declared.forms.Form.{Form}
use Rattle.fx_files.specs.declared.forms.Form.TheVariants as form
use Rattle.fx_files.proofs.HeldNumbers.{count_of}
use Rattle.fx_files.proofs.Steps.{some_and, none_and}
use Rattle.fx_faults.specs.Places.{list_at, IsTableAt, HasCount}

-- ---- values that are held

-- what is said of a value that is there
pub said : {A : Type 0} (D : Type 0) (o : Option A) (P : A → Type 0) (x : A) → o ≡ Some x → MatchOption o D P → P x
said D None P x there h = absurd cc
said D (Some y) P x there h = let same : y ≡ x = cc in subst P same h

-- what is said where there is no value
pub lacking : {A : Type 0} (D : Type 0) (o : Option A) (P : A → Type 0) → o ≡ None → MatchOption o D P → D
lacking D None P none h = h
lacking D (Some y) P none h = absurd cc

pub said_of : {A : Type 0} (o : Option A) (P : A → Type 0) (x : A) → o ≡ Some x → IsSomeAnd o P → P x
said_of None P x there h = absurd h
said_of (Some y) P x there h = let same : y ≡ x = cc in subst P same h

-- a value that has to be there is there
pub is_there : {A : Type 0} (o : Option A) (P : A → Type 0) → IsSomeAnd o P → o ≢ None
is_there o P h none = none_and o P none h

-- what stands in a table that is the file's own
pub own_there : (file : Members) (k : Key) (owner : Members) (v : Data) → file ≡ owner → value_at k owner ≡ Some v →
    value_at k file ≡ Some v
own_there file k owner v is there = subst (λ (t : Members). value_at k t ≡ Some v) (sym is) there

pub same_data : (x y : Data) → ◌≡◌ {A = Option Data} (Some x) (Some y) → x ≡ y
same_data x y h = cc

pub each_at : {A : Type 0} (says : A → Data → Type 0) (xs : List A) (vs : Items) (n : ℕ) (v : Data) →
    Each says xs vs → get_item n vs ≡ Some v → (x : A) × (slice_get xs n ≡ Some x) × says x v
each_at says [] no_items n v h there = absurd cc
each_at says [] (item w vs) n v h there = absurd h
each_at says (x ∷ xs) no_items n v h there = absurd h
each_at says (x ∷ xs) (item w vs) zero v h there =
    (x, refl, subst (λ (y : Data). says x y) (same_data w v there) h.0)
each_at says (x ∷ xs) (item w vs) (suc n) v h there = each_at says xs vs n v h.1 there

list_there : (file : Members) (k : Key) (v : Data) (vs : Items) → value_at k file ≡ Some v → as_array v ≡ Some vs →
    list_at k file ≡ Some vs
list_there file k v vs there list = rw (there, list) refl

-- the list at a key is the one that is described
pub list_is : {A : Type 0} (says : A → Data → Type 0) (xs : List A) (file : Members) (k : Key) →
    IsSomeAnd (value_at k file) (IsListOf says xs) → (vs : Items) × (list_at k file ≡ Some vs) × Each says xs vs
list_is says xs file k h =
    let (v, there, is) = some_and (value_at k file) (IsListOf says xs) h in
    let (vs, list, each) = some_and (as_array v) (Each says xs) is in
    (vs, list_there file k v vs there list, each)

pub count_is : {A : Type 0} (says : A → Data → Type 0) (xs : List A) (file : Members) (k : Key) (n : ℕ) →
    IsSomeAnd (value_at k file) (IsListOf says xs) → HasCount file k n → length xs ≡ n
count_is says xs file k n h count =
    let (vs, list, each) = list_is says xs file k h in
    let here : item_count vs ≡ n = said_of (list_at k file) (λ ws. item_count ws ≡ n) vs list count in
    sym (count_of says xs vs each) ∙ here

-- a table of a list is one that is described
pub table_is : {A : Type 0} (describes : Members → A → Type 0) (xs : List A) (file : Members) (k : Key) (n : ℕ)
    (t : Members) → IsSomeAnd (value_at k file) (IsListOf (IsTableOf describes) xs) → IsTableAt (Some k) n file t →
    (x : A) × (slice_get xs n ≡ Some x) × describes t x
table_is describes xs file k n t h stands =
    let (vs, list, each) = list_is (IsTableOf describes) xs file k h in
    let there : get_item n vs ≡ Some (table t) =
    said_of (list_at k file) (λ ws. get_item n ws ≡ Some (table t)) vs list stands in
    each_at (IsTableOf describes) xs vs n (table t) each there

-- ---- forms

pub one_form : (text : List ℕ) (g h : Form) → text ≡ form_text g → text ≡ form_text h → g ≡ h
one_form text g h a b =
    let read : (f : Form) → text ≡ form_text f → form_word text ≡ Some f = λ f is. rw is (own_word f) in
    let same : ◌≡◌ {A = Option Form} (Some g) (Some h) = sym (read g a) ∙ read h b in cc
  where
    own_word : (f : Form) → form_word (form_text f) ≡ Some f
    own_word form.Tf = refl
    own_word form.Sos = refl
    own_word form.Ss = refl
    own_word form.Lattice = refl

pub form_is : (file : Members) (g h : Form) → HoldsForm file g → HoldsForm file h → g ≡ h
form_is file g h a b =
    let (v, there, is) = some_and (value_at key.Form file) (λ v. as_str v ≡ Some (form_text g)) a in
    let other : as_str v ≡ Some (form_text h) =
    said_of (value_at key.Form file) (λ v. as_str v ≡ Some (form_text h)) v there b in
    let same : ◌≡◌ {A = Option (List ℕ)} (Some (form_text g)) (Some (form_text h)) = sym is ∙ other in
    let texts : form_text g ≡ form_text h = cc in
    one_form (form_text g) g h refl texts

-- a key that the form does not have is not there
pub foreign : {W : Type 0} (known : List Key) (k : Key) (t : Members) (v : Data) → HasOnly known t →
    is_known known (own_name k) ≡ false → value_at k t ≡ Some v → W
foreign known k t v only unknown there =
    let is_there : IsSome (get_member (own_name k) t) = rw there refl in
    let is : is_known known (own_name k) ≡ true = only (own_name k) is_there in absurd cc

-- ---- the form of a coefficient key

-- the form whose coefficients have the key
abbrev pub home_of : Key → Option Form
home_of key.B = Some form.Tf
home_of key.A = Some form.Tf
home_of key.Sections = Some form.Sos
home_of key.MatA = Some form.Ss
home_of key.MatB = Some form.Ss
home_of key.MatC = Some form.Ss
home_of key.MatD = Some form.Ss
home_of key.K = Some form.Lattice
home_of key.V = Some form.Lattice
home_of _ = None

known_at_home : (k : Key) (home other : Form) → home_of k ≡ Some home →
    (home ≡ other) ⊎ (is_known (known_keys other) (own_name k) ≡ false)
known_at_home key.B home form.Tf h = inl cc
known_at_home key.B home _ h = inr refl
known_at_home key.A home form.Tf h = inl cc
known_at_home key.A home _ h = inr refl
known_at_home key.Sections home form.Sos h = inl cc
known_at_home key.Sections home _ h = inr refl
known_at_home key.MatA home form.Ss h = inl cc
known_at_home key.MatA home _ h = inr refl
known_at_home key.MatB home form.Ss h = inl cc
known_at_home key.MatB home _ h = inr refl
known_at_home key.MatC home form.Ss h = inl cc
known_at_home key.MatC home _ h = inr refl
known_at_home key.MatD home form.Ss h = inl cc
known_at_home key.MatD home _ h = inr refl
known_at_home key.K home form.Lattice h = inl cc
known_at_home key.K home _ h = inr refl
known_at_home key.V home form.Lattice h = inl cc
known_at_home key.V home _ h = inr refl
known_at_home _ home other h = absurd cc

-- where a key of coefficients is there, the form is its own
pub at_home : (file : Members) (f : Filter) (k : Key) (home : Form) (v : Data) → Describes file f →
    home_of k ≡ Some home → value_at k file ≡ Some v → home ≡ form_of f.coefficients
at_home file f k home v d own there = elim (known_at_home k home (form_of f.coefficients) own) [
  | inl is ↦ is
  | inr unknown ↦ foreign (known_keys (form_of f.coefficients)) k file v d.keys unknown there
]

-- ---- the coefficients of a form

pub transfer_of : (m p : ℕ) (file : Members) (c : Coefficients) → DescribesCoefficients m p file c →
    form.Tf ≡ form_of c → (b : List Fraction) × (a : List Fraction) × DescribesTransfer file b a
transfer_of m p file (coefficients.Tf b a) d is = (b, a, d)
transfer_of m p file (coefficients.Sos cs) d is = absurd cc
transfer_of m p file (coefficients.Ss n a b c e) d is = absurd cc
transfer_of m p file (coefficients.Lattice k v) d is = absurd cc

pub cascade_of : (m p : ℕ) (file : Members) (c : Coefficients) → DescribesCoefficients m p file c →
    form.Sos ≡ form_of c → (cs : List Fraction) × DescribesCascade file cs
cascade_of m p file (coefficients.Tf b a) d is = absurd cc
cascade_of m p file (coefficients.Sos cs) d is = (cs, d)
cascade_of m p file (coefficients.Ss n a b c e) d is = absurd cc
cascade_of m p file (coefficients.Lattice k v) d is = absurd cc

-- a state space, whose matrices are there
pub record HoldsSpace (m p : ℕ) (file : Members) : Type 0 where
  pub n : ℕ
  pub a : List Fraction
  pub b : List Fraction
  pub c : List Fraction
  pub e : List Fraction
  pub space : DescribesSpace m p file n a b c e

pub space_of : (m p : ℕ) (file : Members) (c : Coefficients) → DescribesCoefficients m p file c →
    form.Ss ≡ form_of c → HoldsSpace m p file
space_of m p file (coefficients.Tf b a) d is = absurd cc
space_of m p file (coefficients.Sos cs) d is = absurd cc
space_of m p file (coefficients.Ss n a b c e) d is = record { n = n; a = a; b = b; c = c; e = e; space = d }
space_of m p file (coefficients.Lattice k v) d is = absurd cc

pub lattice_of : (m p : ℕ) (file : Members) (c : Coefficients) → DescribesCoefficients m p file c →
    form.Lattice ≡ form_of c → (k : List Fraction) × (v : List Fraction) × DescribesLattice file k v
lattice_of m p file (coefficients.Tf b a) d is = absurd cc
lattice_of m p file (coefficients.Sos cs) d is = absurd cc
lattice_of m p file (coefficients.Ss n a b c e) d is = absurd cc
lattice_of m p file (coefficients.Lattice k v) d is = (k, v, d)
