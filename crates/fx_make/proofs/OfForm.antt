-- What the lists of a filter say of its structure, form by form.
use Rattle.std.proofs.Common.{◌≡◌, ℕ, ◌+◌, ◌*◌, ◌/◌, ◌<◌, arith, refl, ap, ap₂, sym, ◌∙◌}
use Rattle.std.proofs.Common.{subst, ◌++◌}
use Rattle.std.proofs.Common.{List, [], ◌∷◌, length, take, drop}
use Rattle.std.proofs.lemmas.Nat.{div-mul-add}
use Rattle.std.proofs.lemmas.List.{take_at, drop_at, drop-drop, take_all, length-append}
use Rattle.std.specs.Prelude.{Some}
use Rattle.fx_nums.specs.Fraction.{Fraction, one_fraction}
use Rattle.fx_eqs.specs.Textbook.{tf_equations, sos_equations, ss_equations, lattice_equations}
use Rattle.fx_files.specs.Coefficients as coefficients
use Rattle.fx_files.specs.Coefficients.{Coefficients, form_of, list_of, coefficients_of}
use Rattle.fx_files.specs.Filter.{Filter}
use Rattle.fx_files.specs.Fits.{FilterFits, TransferFits, CascadeFits, SpaceFits, LadderFits}
use Rattle.fx_files.specs.Fits.{CoefficientsFit}
use Rattle.fx_files.specs.Building.{equations_of}
use Rattle.fx_files.specs.declared.forms.Form.TheVariants as form
use Rattle.fx_keys.specs.declared.key.Key.TheVariants as key
use Rattle.fx_space.specs.Matrices as spaces
use Rattle.fx_space.specs.Matrices.{matrix_a, matrix_b, matrix_c, matrix_d}
use Rattle.fx_space.specs.Space.{space_equations}
use Rattle.fx_make.specs.Structures.{structure_form, transfer_form, sections_form, space_form, lattice_form}
use Rattle.fx_make.specs.Structures.{form_by, space_sizes, built_equations, equations_by}

-- a denominator of one coefficient is not read
pub without_feedback : (b a : List Fraction) → length a ≡ 1 → tf_equations b (one_fraction ∷ []) ≡ tf_equations b a
without_feedback b [] h = absurd (omega (arith, h))
without_feedback b (x ∷ []) h = refl
without_feedback b (x ∷ y ∷ a) h = absurd (omega (arith, h))

-- ---- a transfer function

pub record IsTransfer (f : Filter) (b a : List Fraction) : Type 0 where
  pub fits : TransferFits b a
  pub structure : structure_form f ≡ transfer_form b a f.settings.structure
  pub equations : built_equations f ≡ equations_by (coefficients.Tf b a) f.settings.structure (tf_equations b a)

transfer_at : (f : Filter) (b a x y : List Fraction) → FilterFits f → f.coefficients ≡ coefficients.Tf x y →
    b ≡ x → a ≡ y → IsTransfer f b a
transfer_at f b a x y fits c same_b same_a =
    let is : f.coefficients ≡ coefficients.Tf b a = c ∙ ap₂ coefficients.Tf (sym same_b) (sym same_a) in
    record {
      fits = subst (CoefficientsFit (length f.inputs) (length f.outputs)) is fits.coefficients;
      structure =
          ap (λ c. form_by (length f.inputs) (length f.outputs) c f.settings.structure) is;
      equations = ap₂ (λ c e. equations_by c f.settings.structure e) is
          (fits.textbook ∙ ap (equations_of (length f.inputs) (length f.outputs)) is);
    }

some_is : {A : Type 0} (x y : A) → Some x ≡ Some y → x ≡ y
some_is x y e = cc

pub is_transfer : (f : Filter) (b a : List Fraction) → FilterFits f → form_of f.coefficients ≡ form.Tf →
    Some b ≡ list_of key.B f.coefficients → Some a ≡ list_of key.A f.coefficients → IsTransfer f b a
is_transfer f b a fits of_form has_b has_a = by f.coefficients refl of_form has_b has_a
  where
    by : (c : Coefficients) → f.coefficients ≡ c → form_of c ≡ form.Tf → Some b ≡ list_of key.B c →
        Some a ≡ list_of key.A c → IsTransfer f b a
    by (coefficients.Tf x y) is e h g = transfer_at f b a x y fits is (some_is b x h) (some_is a y g)
    by (coefficients.Sos cs) is e h g = cc
    by (coefficients.Ss n A B C D) is e h g = cc
    by (coefficients.Lattice k v) is e h g = cc

-- ---- sections

pub record IsSections (f : Filter) (cs : List Fraction) : Type 0 where
  pub fits : CascadeFits cs
  pub structure : structure_form f ≡ sections_form cs f.settings.structure
  pub equations : built_equations f ≡ sos_equations cs

sections_at : (f : Filter) (cs xs : List Fraction) → FilterFits f → f.coefficients ≡ coefficients.Sos xs → cs ≡ xs →
    IsSections f cs
sections_at f cs xs fits c same =
    let is : f.coefficients ≡ coefficients.Sos cs = c ∙ ap coefficients.Sos (sym same) in
    record {
      fits = subst (CoefficientsFit (length f.inputs) (length f.outputs)) is fits.coefficients;
      structure =
          ap (λ c. form_by (length f.inputs) (length f.outputs) c f.settings.structure) is;
      equations = ap₂ (λ c e. equations_by c f.settings.structure e) is
          (fits.textbook ∙ ap (equations_of (length f.inputs) (length f.outputs)) is);
    }

pub is_sections : (f : Filter) (cs : List Fraction) → FilterFits f → form_of f.coefficients ≡ form.Sos →
    Some cs ≡ list_of key.Sections f.coefficients → IsSections f cs
is_sections f cs fits of_form has = by f.coefficients refl of_form has
  where
    by : (c : Coefficients) → f.coefficients ≡ c → form_of c ≡ form.Sos → Some cs ≡ list_of key.Sections c →
        IsSections f cs
    by (coefficients.Tf x y) is e h = cc
    by (coefficients.Sos xs) is e h = sections_at f cs xs fits is (some_is cs xs h)
    by (coefficients.Ss n A B C D) is e h = cc
    by (coefficients.Lattice k v) is e h = cc

-- ---- a lattice

pub record IsLattice (f : Filter) (k v : List Fraction) : Type 0 where
  pub fits : LadderFits k v
  pub structure : structure_form f ≡ lattice_form k v f.settings.structure
  pub equations : built_equations f ≡ lattice_equations k v

lattice_at : (f : Filter) (k v x y : List Fraction) → FilterFits f → f.coefficients ≡ coefficients.Lattice x y →
    k ≡ x → v ≡ y → IsLattice f k v
lattice_at f k v x y fits c same_k same_v =
    let is : f.coefficients ≡ coefficients.Lattice k v = c ∙ ap₂ coefficients.Lattice (sym same_k) (sym same_v) in
    record {
      fits = subst (CoefficientsFit (length f.inputs) (length f.outputs)) is fits.coefficients;
      structure =
          ap (λ c. form_by (length f.inputs) (length f.outputs) c f.settings.structure) is;
      equations = ap₂ (λ c e. equations_by c f.settings.structure e) is
          (fits.textbook ∙ ap (equations_of (length f.inputs) (length f.outputs)) is);
    }

pub is_lattice : (f : Filter) (k v : List Fraction) → FilterFits f → form_of f.coefficients ≡ form.Lattice →
    Some k ≡ list_of key.K f.coefficients → Some v ≡ list_of key.V f.coefficients → IsLattice f k v
is_lattice f k v fits of_form has_k has_v = by f.coefficients refl of_form has_k has_v
  where
    by : (c : Coefficients) → f.coefficients ≡ c → form_of c ≡ form.Lattice → Some k ≡ list_of key.K c →
        Some v ≡ list_of key.V c → IsLattice f k v
    by (coefficients.Tf x y) is e h g = cc
    by (coefficients.Sos cs) is e h g = cc
    by (coefficients.Ss n A B C D) is e h g = cc
    by (coefficients.Lattice x y) is e h g = lattice_at f k v x y fits is (some_is k x h) (some_is v y g)

-- ---- a state space

-- of so many states
pub record IsSpace (f : Filter) (n : ℕ) (abcd : List Fraction) : Type 0 where
  pub fits : spaces.SpaceFits (space_sizes n (length f.inputs) (length f.outputs)) abcd
  pub structure : structure_form f ≡ space_form (space_sizes n (length f.inputs) (length f.outputs)) abcd
      f.settings.structure
  pub equations : built_equations f
      ≡ space_equations (space_sizes n (length f.inputs) (length f.outputs)) abcd

-- the list of the four matrices, which are found in it again
module _ (n m p : ℕ) (A B C D : List Fraction) (fits : SpaceFits m p n A B C D) where
  behind_a : drop (n * n) (A ++ (B ++ (C ++ D))) ≡ B ++ (C ++ D)
  behind_a = drop_at A (B ++ (C ++ D)) (n * n) fits.a_length

  behind_b : drop (n * n + n * m) (A ++ (B ++ (C ++ D))) ≡ C ++ D
  behind_b =
      sym (drop-drop (n * m) (n * n) (A ++ (B ++ (C ++ D)))) ∙ ap (drop (n * m)) behind_a
      ∙ drop_at B (C ++ D) (n * m) fits.b_length

  behind_c : drop (n * n + n * m + p * n) (A ++ (B ++ (C ++ D))) ≡ D
  behind_c =
      sym (drop-drop (p * n) (n * n + n * m) (A ++ (B ++ (C ++ D)))) ∙ ap (drop (p * n)) behind_b
      ∙ drop_at C D (p * n) fits.c_length

  is_a : matrix_a (space_sizes n m p) (A ++ (B ++ (C ++ D))) ≡ A
  is_a = take_at A (B ++ (C ++ D)) (n * n) fits.a_length

  is_b : matrix_b (space_sizes n m p) (A ++ (B ++ (C ++ D))) ≡ B
  is_b = ap (take (n * m)) behind_a ∙ take_at B (C ++ D) (n * m) fits.b_length

  is_c : matrix_c (space_sizes n m p) (A ++ (B ++ (C ++ D))) ≡ C
  is_c = ap (take (p * n)) behind_b ∙ take_at C D (p * n) fits.c_length

  is_d : matrix_d (space_sizes n m p) (A ++ (B ++ (C ++ D))) ≡ D
  is_d = ap (take (p * m)) behind_c ∙ take_all (p * m) D (omega (arith, fits.d_length))

  same_equations : ss_equations n m p A B C D ≡ space_equations (space_sizes n m p) (A ++ (B ++ (C ++ D)))
  same_equations = sym (
      ap (λ a. ss_equations n m p a (matrix_b (space_sizes n m p) (A ++ (B ++ (C ++ D))))
      (matrix_c (space_sizes n m p) (A ++ (B ++ (C ++ D)))) (matrix_d (space_sizes n m p) (A ++ (B ++ (C ++ D))))) is_a
      ∙ ap (λ b. ss_equations n m p A b (matrix_c (space_sizes n m p) (A ++ (B ++ (C ++ D))))
      (matrix_d (space_sizes n m p) (A ++ (B ++ (C ++ D))))) is_b
      ∙ ap (λ c. ss_equations n m p A B c (matrix_d (space_sizes n m p) (A ++ (B ++ (C ++ D))))) is_c
      ∙ ap (λ d. ss_equations n m p A B C d) is_d)

  count : length (A ++ (B ++ (C ++ D))) ≡ n * n + n * m + p * n + p * m
  count =
      let cd : length (C ++ D) ≡ length C + length D = length-append C D in
      let bcd : length (B ++ (C ++ D)) ≡ length B + length (C ++ D) = length-append B (C ++ D) in
      let all : length (A ++ (B ++ (C ++ D))) ≡ length A + length (B ++ (C ++ D)) = length-append A (B ++ (C ++ D)) in
      omega (arith, cd, bcd, all, fits.a_length, fits.b_length, fits.c_length, fits.d_length)

space_at : (f : Filter) (n : ℕ) (A B C D : List Fraction) → FilterFits f →
    f.coefficients ≡ coefficients.Ss n A B C D →
    SpaceFits (length f.inputs) (length f.outputs) n A B C D → IsSpace f n (A ++ (B ++ (C ++ D)))
space_at f n A B C D fits is inside = record {
  fits = record {
    variables = refl;
    states = inside.states_high;
    inputs_low = fits.inputs_low;
    inputs_high = fits.inputs_high;
    outputs_low = fits.outputs_low;
    outputs_high = fits.outputs_high;
    count = count n (length f.inputs) (length f.outputs) A B C D inside;
  };
  structure = ap (λ c. form_by (length f.inputs) (length f.outputs) c f.settings.structure) is;
  equations =
      ap₂ (λ c e. equations_by c f.settings.structure e) is
      (fits.textbook ∙ ap (equations_of (length f.inputs) (length f.outputs)) is)
      ∙ same_equations n (length f.inputs) (length f.outputs) A B C D inside;
}

-- the count of states by the entries of B
states : (n m count : ℕ) → 0 < m → count ≡ n * m → count / m ≡ n
states n m count some e =
    ap (λ x. x / m) (let wide : count ≡ n * m + 0 = omega (arith, e) in wide) ∙ div-mul-add n m 0 some

pub is_space : (f : Filter) (b all : List Fraction) → FilterFits f → form_of f.coefficients ≡ form.Ss →
    Some b ≡ list_of key.MatB f.coefficients → all ≡ coefficients_of f.coefficients →
    IsSpace f (length b / length f.inputs) all
is_space f b all fits of_form has is_all = by f.coefficients refl of_form has is_all
  where
    by : (c : Coefficients) → f.coefficients ≡ c → form_of c ≡ form.Ss → Some b ≡ list_of key.MatB c →
        all ≡ coefficients_of c → IsSpace f (length b / length f.inputs) all
    by (coefficients.Tf x y) is e h g = cc
    by (coefficients.Sos cs) is e h g = cc
    by (coefficients.Ss n A B C D) is e h g =
        let inside : SpaceFits (length f.inputs) (length f.outputs) n A B C D =
        subst (CoefficientsFit (length f.inputs) (length f.outputs)) is fits.coefficients in
        let same : length b ≡ n * length f.inputs = ap length (some_is b B h) ∙ inside.b_length in
        let some : 0 < length f.inputs = omega (arith, fits.inputs_low) in
        subst (λ k. IsSpace f k all) (sym (states n (length f.inputs) (length b) some same))
        (subst (λ l. IsSpace f n l) (sym g) (space_at f n A B C D fits is inside))
    by (coefficients.Lattice k v) is e h g = cc

pub space_fits : (f : Filter) (b all : List Fraction) (m p : ℕ) → FilterFits f →
    form_of f.coefficients ≡ form.Ss → Some b ≡ list_of key.MatB f.coefficients →
    all ≡ coefficients_of f.coefficients → m ≡ length f.inputs → p ≡ length f.outputs →
    spaces.SpaceFits (space_sizes (length b / m) m p) all
space_fits f b all m p fits of_form has is_all inputs outputs =
    subst (λ i. spaces.SpaceFits (space_sizes (length b / i) i p) all) (sym inputs)
    (subst (λ o. spaces.SpaceFits (space_sizes (length b / length f.inputs) (length f.inputs) o) all) (sym outputs)
    (is_space f b all fits of_form has is_all).fits)
