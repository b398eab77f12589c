-- What is told of coefficients is true.
use Rattle.std.proofs.Common.{◌≡◌, ◌≢◌, ◌≤◌, ℕ, zero, suc, ◌+◌, ◌*◌}
use Rattle.std.proofs.Common.{false, List, [], ◌∷◌, ◌++◌, length, Some}
use Rattle.std.proofs.Common.{Ok, Err, refl, sym, ap, subst, arith, lit≤}
use Rattle.std.specs.Prelude.{IsSomeAnd, flat_map, slice_get}
use Rattle.toml.specs.Data.{Data, Members, Items, no_items, item, as_array}
use Rattle.fx_math.specs.Faults.{unless}
use Rattle.fx_nums.specs.Fraction.{Fraction}
use Rattle.fx_keys.specs.Entries.{item_count, some, at_most, exactly}
use Rattle.fx_keys.specs.Keys.{most_of}
use Rattle.fx_keys.specs.Numerals.{entries_in, rows_in}
use Rattle.fx_keys.specs.Numerals.{matrix}
use Rattle.fx_keys.specs.declared.fault.FilterFault.{FilterFault}
use Rattle.fx_keys.specs.declared.key.Key.{Key}
use Rattle.fx_keys.specs.declared.key.Key.TheVariants as key
use Rattle.fx_files.specs.Describes.{HoldsForm}
use Rattle.fx_files.specs.Holds.{value_at}
use Rattle.fx_files.specs.declared.forms.Form.{Form}
use Rattle.fx_files.proofs.Steps.{bind_ok, same_ok, test_err, in_step, some_and, and_some}
use Rattle.fx_files.proofs.HeldNumerals.{IsListed, entries_listed, rows_listed}
use Rattle.fx_faults.specs.Kinds as kind
use Rattle.fx_faults.specs.Kinds.{ListOf, kind_of, entries_of, listed}
use Rattle.fx_faults.specs.Places.{HasEntry, HasCount, IsFixedCount, IsFixedWidth}
use Rattle.fx_faults.specs.Faults.{IsRequired}
use Rattle.fx_faults.specs.Faults.{IsTrueOf}
use Rattle.fx_faults.proofs.Listed.{is_array}
use Rattle.fx_files.specs.Holds.{Each, IsListOf, IsNumeralOf, row_after_row}
use Rattle.fx_files.specs.Lists.{monic, each_monic, polynomial_in, transfer_in, cascade_in, state_rows, matrix_in}
use Rattle.fx_files.specs.Lists.{space_in, reflections_in, taps_in, ladder_in, coefficients_in}
use Rattle.fx_files.specs.declared.forms.Form.TheVariants as form
use Rattle.fx_files.proofs.HeldNumbers.{count_of}
use Rattle.fx_files.proofs.HeldNumerals.{matrix_read, numerals_entries}
use Rattle.fx_keys.specs.declared.fault.FilterFault.TheVariants.{NotMonic}
use Rattle.fx_keys.specs.declared.limits.TheConstants.{SECTION_COEFFICIENTS}
use Rattle.fx_nums.specs.Fraction.{is_one}
use Rattle.fx_faults.specs.Places.{HasToBeOne}
use Rattle.fx_faults.proofs.KeyFaults.{some_true, exactly_true, IsListKey, count_at, most_true}
use Rattle.fx_faults.proofs.KeyFaults.{entries_true, rows_true, numerals_true, matrix_true}

-- ---- the entries that are read

-- numbers, and the entries that mean them
pub MeanEach : List Fraction → List Data → Type 0
MeanEach [] [] = Unit {0}
MeanEach (c ∷ cs) (x ∷ xs) = IsNumeralOf c x × MeanEach cs xs
MeanEach _ _ = ⊥

mean_both : (us bs : List Fraction) (xs ys : List Data) → MeanEach us xs → MeanEach bs ys →
    MeanEach (us ++ bs) (xs ++ ys)
unfolding MeanEach
mean_both [] bs [] ys h g = g
mean_both [] bs (x ∷ xs) ys h g = absurd h
mean_both (u ∷ us) bs [] ys h g = absurd h
mean_both (u ∷ us) bs (x ∷ xs) ys h g = (h.0, mean_both us bs xs ys h.1 g)

pub mean_row : (cs : List Fraction) (vs : Items) → Each IsNumeralOf cs vs →
    MeanEach cs (flat_map (entries_of kind.Numeral) (listed vs))
unfolding MeanEach
mean_row [] no_items h = tt
mean_row [] (item v vs) h = absurd h
mean_row (c ∷ cs) no_items h = absurd h
mean_row (c ∷ cs) (item v vs) h = (h.0, mean_row cs vs h.1)

pub mean_rows : (rows : List (List Fraction)) (vs : Items) → Each (IsListOf IsNumeralOf) rows vs →
    MeanEach (row_after_row rows) (flat_map (entries_of (ListOf kind.Numeral)) (listed vs))
unfolding MeanEach
mean_rows [] no_items h = tt
mean_rows [] (item v vs) h = absurd h
mean_rows (r ∷ rs) no_items h = absurd h
mean_rows (r ∷ rs) (item v vs) h =
    let (es, list, each) = some_and (as_array v) (Each IsNumeralOf r) h.0 in
    let first : MeanEach r (entries_of (ListOf kind.Numeral) v) =
    subst (λ (x : Data). MeanEach r (entries_of (ListOf kind.Numeral) x)) (sym (is_array v es list))
    (mean_row r es each) in
    mean_both r (row_after_row rs) (entries_of (ListOf kind.Numeral) v)
    (flat_map (entries_of (ListOf kind.Numeral)) (listed vs)) first (mean_rows rs vs h.1)

pub means_at : (n : ℕ) (cs : List Fraction) (xs : List Data) (c : Fraction) → MeanEach cs xs → slice_get cs n ≡ Some c →
    (x : Data) × (slice_get xs n ≡ Some x) × IsNumeralOf c x
unfolding MeanEach
means_at n [] xs c h there = absurd cc
means_at n (d ∷ cs) [] c h there = absurd h
means_at zero (d ∷ cs) (x ∷ xs) c h there =
    let same : d ≡ c = cc in (x, refl, subst (λ (y : Fraction). IsNumeralOf y x) same h.0)
means_at (suc n) (d ∷ cs) (x ∷ xs) c h there = means_at n cs xs c h.1 there

pub entry_means : (n : ℕ) (cs : List Fraction) (xs : List Data) (x : Data) → MeanEach cs xs →
    slice_get xs n ≡ Some x → (c : Fraction) × (slice_get cs n ≡ Some c) × IsNumeralOf c x
unfolding MeanEach
entry_means n [] [] x h there = absurd cc
entry_means n [] (y ∷ xs) x h there = absurd h
entry_means n (c ∷ cs) [] x h there = absurd h
entry_means zero (c ∷ cs) (y ∷ xs) x h there =
    let same : y ≡ x = cc in (c, refl, subst (λ (z : Data). IsNumeralOf c z) same h.0)
entry_means (suc n) (c ∷ cs) (y ∷ xs) x h there = entry_means n cs xs x h.1 there

-- ---- entries that are 1

monic_fault : {W : Type 0} (k : Key) (place : ℕ) (cs : List Fraction) (f : FilterFault) → monic k place cs ≡ Err f →
    ((c : Fraction) → slice_get cs 0 ≡ Some c → is_one c ≡ false → NotMonic k place ≡ f → W) → W
monic_fault k place [] f h told = absurd cc
monic_fault k place (c ∷ cs) f h told =
    let (test, e) = test_err (NotMonic k place) f (is_one c) h in told c refl test e

sections_fault : {W : Type 0} (k : Key) (place : ℕ) (cs : List Fraction) (f : FilterFault) →
    each_monic k place cs ≡ Err f →
    ((s n : ℕ) (c : Fraction) → n ≡ 6 * s + 3 → slice_get cs n ≡ Some c → is_one c ≡ false →
    NotMonic k (place + n) ≡ f → W) → W
unfolding each_monic
sections_fault k place (b0 ∷ b1 ∷ b2 ∷ a0 ∷ a1 ∷ a2 ∷ cs) f h told =
    in_step (unless (NotMonic k (place + 3)) (is_one a0)) (λ u. each_monic k (place + 6) cs) f h
    (λ wrong. let (test, e) = test_err (NotMonic k (place + 3)) f (is_one a0) wrong in told 0 3 a0 refl refl test e)
    (λ u one past_one. sections_fault k (place + 6) cs f past_one (λ s n c is there test e.
    let next : suc (suc (suc (suc (suc (suc n))))) ≡ 6 * suc s + 3 = omega arith in
    let at : place + 6 + n ≡ place + suc (suc (suc (suc (suc (suc n))))) = omega arith in
    told (suc s) (suc (suc (suc (suc (suc (suc n)))))) c next there test
    (subst (λ (p : ℕ). NotMonic k p ≡ f) at e)))
sections_fault k place (b0 ∷ b1 ∷ b2 ∷ a0 ∷ a1 ∷ []) f h told = absurd cc
sections_fault k place (b0 ∷ b1 ∷ b2 ∷ a0 ∷ []) f h told = absurd cc
sections_fault k place (b0 ∷ b1 ∷ b2 ∷ []) f h told = absurd cc
sections_fault k place (b0 ∷ b1 ∷ []) f h told = absurd cc
sections_fault k place (b0 ∷ []) f h told = absurd cc
sections_fault k place [] f h told = absurd cc

-- an entry that has to be 1
one_true : (file : Members) (k : Key) (place : ℕ) (v : Data) (all : List Data) (x : Data) (c : Fraction)
    (f : FilterFault) → HasToBeOne k place → value_at k file ≡ Some v →
    ((n : ℕ) (y : Data) → IsSomeAnd (value_at k file) (λ value. slice_get (entries_of (kind_of k) value) n ≡ Some y) →
    HasEntry file k n y) →
    entries_of (kind_of k) v ≡ all → slice_get all place ≡ Some x → IsNumeralOf c x → is_one c ≡ false →
    NotMonic k place ≡ f → IsTrueOf file f
one_true file k place v all x c f one there entry is at means other e =
    subst (IsTrueOf file) e
    (record {
      one = one;
      value = x;
      held = entry place x
          (and_some (value_at k file) (λ y. slice_get (entries_of (kind_of k) y) place ≡ Some x) v there (rw is at));
      number = c;
      means = means;
      other = other;
    })

-- ---- transfer function

polynomial_true : (file : Members) (k : Key) (f : FilterFault) → IsListKey file k kind.Numeral → IsRequired file k →
    k ≢ key.K → 1 ≤ most_of k → polynomial_in k file ≡ Err f → IsTrueOf file f
unfolding polynomial_in
polynomial_true file k f of required other limited h =
    in_step (entries_in k file) _ f h (entries_true file k f of required)
    (λ vs got past_got.
    let list = entries_listed k file vs got in
    in_step (some k vs) _ f past_got (some_true file k vs f other (count_at file k vs list))
    (λ u any past_any. in_step (at_most k vs) _ f past_any (most_true file k kind.Numeral vs f of list limited)
    (λ u few past_few. numerals_true file k vs f of list past_few)))

-- the list at a key, and what its entries mean
IsRead : Members → Key → List Fraction → Type 0
IsRead file k cs = (vs : Items) × IsListed k file vs × Each IsNumeralOf cs vs

polynomial_read : (file : Members) (k : Key) (cs : List Fraction) → polynomial_in k file ≡ Ok cs → IsRead file k cs
unfolding polynomial_in IsRead
polynomial_read file k cs h =
    let (vs, got, past_got) = bind_ok (entries_in k file) _ cs h in
    let (u1, any, past_any) = bind_ok (some k vs) _ cs past_got in
    let (u2, few, past_few) = bind_ok (at_most k vs) _ cs past_any in
    (vs, entries_listed k file vs got, numerals_entries k 0 vs cs past_few)

transfer_true : (file : Members) (f : FilterFault) → HoldsForm file form.Tf → transfer_in file ≡ Err f → IsTrueOf file f
unfolding transfer_in IsRead
transfer_true file f named h =
    let b : IsListKey file key.B kind.Numeral =
    record { own = refl; is = refl; entry = λ n v x. x; past = λ got limit x. x } in
    let a : IsListKey file key.A kind.Numeral =
    record { own = refl; is = refl; entry = λ n v x. x; past = λ got limit x. x } in
    in_step (polynomial_in key.B file) _ f h
    (polynomial_true file key.B f b named (λ e. absurd cc) (lit≤ tt))
    (λ bs above past_above. in_step (polynomial_in key.A file) _ f past_above
    (polynomial_true file key.A f a named (λ e. absurd cc) (lit≤ tt))
    (λ cs below past_below. in_step (monic key.A 0 cs) _ f past_below
    (λ wrong. monic_fault key.A 0 cs f wrong (λ c there test e.
    let (vs, list, each) = polynomial_read file key.A cs below in
    let all = flat_map (entries_of kind.Numeral) (listed vs) in
    let (x, at, means) = means_at 0 cs all c (mean_row cs vs each) there in
    one_true file key.A 0 list.value all x c f refl list.there (λ n v y. y)
    (ap (λ (v : Data). entries_of (ListOf kind.Numeral) v) (is_array list.value vs list.list)) at means test e))
    (λ u one past_one. absurd cc)))

-- ---- sections

rows_key : (file : Members) → IsListKey file key.Sections (ListOf kind.Numeral)
rows_key file = record { own = refl; is = refl; entry = λ n v x. x; past = λ got limit x. x }

cascade_true : (file : Members) (f : FilterFault) → HoldsForm file form.Sos → cascade_in file ≡ Err f → IsTrueOf file f
unfolding cascade_in
cascade_true file f named h =
    let k = key.Sections in
    let of = rows_key file in
    in_step (rows_in k file) _ f h (rows_true file k f of named)
    (λ vs got past_got.
    let list = rows_listed k file vs got in
    in_step (some k vs) _ f past_got (some_true file k vs f (λ e. absurd cc) (count_at file k vs list))
    (λ u any past_any. in_step (at_most k vs) _ f past_any (most_true file k (ListOf kind.Numeral) vs f of list
    (lit≤ tt))
    (λ u few past_few. in_step (matrix k SECTION_COEFFICIENTS vs) _ f past_few
    (matrix_true file k SECTION_COEFFICIENTS vs f of list refl)
    (λ cs read past_read. in_step (each_monic k 0 cs) _ f past_read
    (λ wrong. sections_fault k 0 cs f wrong (λ s n c is there test e.
    let r = matrix_read k SECTION_COEFFICIENTS vs cs read in
    let all = flat_map (entries_of (ListOf kind.Numeral)) (listed vs) in
    let mean : MeanEach cs all =
    subst (λ (x : List Fraction). MeanEach x all) (sym r.joined) (mean_rows r.rows vs r.stand) in
    let (x, at, means) = means_at n cs all c mean there in
    let place : 0 + n ≡ n = omega arith in
    one_true file k n list.value all x c f (s, is) list.there (λ n v y. y)
    (ap (λ (v : Data). entries_of (ListOf (ListOf kind.Numeral)) v) (is_array list.value vs list.list)) at
    means test (subst (λ (p : ℕ). NotMonic k p ≡ f) place e)))
    (λ u one past_one. absurd cc)))))

-- ---- state space

-- a matrix whose count of rows and of entries of each row are fixed
block_true : (file : Members) (k : Key) (height width : ℕ) (f : FilterFault) → HoldsForm file form.Ss →
    IsListKey file k (ListOf kind.Numeral) → IsRequired file k → k ≢ key.K → IsFixedCount file form.Ss k height →
    IsFixedWidth file k width → matrix_in k height width file ≡ Err f → IsTrueOf file f
unfolding matrix_in
block_true file k height width f named of required other high wide h =
    in_step (rows_in k file) _ f h (rows_true file k f of required)
    (λ vs got past_got.
    let list = rows_listed k file vs got in
    in_step (some k vs) _ f past_got (some_true file k vs f other (count_at file k vs list))
    (λ u any past_any. in_step (exactly k height vs) _ f past_any
    (exactly_true file form.Ss k height vs f named (count_at file k vs list) high)
    (λ u exact past_exact. matrix_true file k width vs f of list wide past_exact)))

states_true : (file : Members) (f : FilterFault) → HoldsForm file form.Ss →
    IsListKey file key.MatA (ListOf kind.Numeral) → state_rows file ≡ Err f → IsTrueOf file f
unfolding state_rows
states_true file f named of h =
    let k = key.MatA in
    in_step (rows_in k file) _ f h (rows_true file k f of named)
    (λ vs got past_got.
    let list = rows_listed k file vs got in
    in_step (some k vs) _ f past_got (some_true file k vs f (λ e. absurd cc) (count_at file k vs list))
    (λ u any past_any. in_step (at_most k vs) _ f past_any (most_true file k (ListOf kind.Numeral) vs f of list
    (lit≤ tt))
    (λ u few past_few. absurd cc)))

states_at : (file : Members) (vs : Items) → state_rows file ≡ Ok vs → IsListed key.MatA file vs
unfolding state_rows
states_at file vs h =
    let (ws, got, past_got) = bind_ok (rows_in key.MatA file) _ vs h in
    let (u1, any, past_any) = bind_ok (some key.MatA ws) _ vs past_got in
    let (u2, few, same) = bind_ok (at_most key.MatA ws) _ vs past_any in
    subst (IsListed key.MatA file) (same_ok ws vs same) (rows_listed key.MatA file ws got)

space_true : (m p : ℕ) (file : Members) (f : FilterFault) → HoldsForm file form.Ss → HasCount file key.Inputs m →
    HasCount file key.Outputs p → space_in m p file ≡ Err f → IsTrueOf file f
unfolding space_in
space_true m p file f named ins outs h =
    let a : IsListKey file key.MatA (ListOf kind.Numeral) =
    record { own = refl; is = refl; entry = λ n v x. x; past = λ got limit x. x } in
    let b : IsListKey file key.MatB (ListOf kind.Numeral) =
    record { own = refl; is = refl; entry = λ n v x. x; past = λ got limit x. x } in
    let c : IsListKey file key.MatC (ListOf kind.Numeral) =
    record { own = refl; is = refl; entry = λ n v x. x; past = λ got limit x. x } in
    let d : IsListKey file key.MatD (ListOf kind.Numeral) =
    record { own = refl; is = refl; entry = λ n v x. x; past = λ got limit x. x } in
    in_step (state_rows file) _ f h (states_true file f named a)
    (λ vs got past_got.
    let list = states_at file vs got in
    let n = item_count vs in
    let states : HasCount file key.MatA n = count_at file key.MatA vs list in
    in_step (matrix key.MatA n vs) _ f past_got (matrix_true file key.MatA n vs f a list states)
    (λ xs first past_xs. in_step (matrix_in key.MatB n m file) _ f past_xs
    (block_true file key.MatB n m f named b named (λ e. absurd cc) states ins)
    (λ bs second past_bs. in_step (matrix_in key.MatC p n file) _ f past_bs
    (block_true file key.MatC p n f named c named (λ e. absurd cc) outs states)
    (λ cs third past_cs. in_step (matrix_in key.MatD p m file) _ f past_cs
    (block_true file key.MatD p m f named d named (λ e. absurd cc) outs ins)
    (λ ds fourth past_ds. absurd cc)))))

-- ---- lattice

reflections_true : (file : Members) (f : FilterFault) → HoldsForm file form.Lattice →
    IsListKey file key.K kind.Numeral → reflections_in file ≡ Err f → IsTrueOf file f
unfolding reflections_in
reflections_true file f named of h =
    in_step (entries_in key.K file) _ f h (entries_true file key.K f of named)
    (λ vs got past_got.
    let list = entries_listed key.K file vs got in
    in_step (at_most key.K vs) _ f past_got (most_true file key.K kind.Numeral vs f of list (lit≤ tt))
    (λ u few past_few. numerals_true file key.K vs f of list past_few))

reflections_count : (file : Members) (ks : List Fraction) → reflections_in file ≡ Ok ks →
    HasCount file key.K (length ks)
unfolding reflections_in
reflections_count file ks h =
    let (vs, got, past_got) = bind_ok (entries_in key.K file) _ ks h in
    let (u, few, past_few) = bind_ok (at_most key.K vs) _ ks past_got in
    subst (HasCount file key.K) (count_of IsNumeralOf ks vs (numerals_entries key.K 0 vs ks past_few))
    (count_at file key.K vs (entries_listed key.K file vs got))

taps_true : (n : ℕ) (file : Members) (f : FilterFault) → HoldsForm file form.Lattice → HasCount file key.K n →
    IsListKey file key.V kind.Numeral → taps_in n file ≡ Err f → IsTrueOf file f
unfolding taps_in
taps_true n file f named order of h =
    in_step (entries_in key.V file) _ f h (entries_true file key.V f of named)
    (λ vs got past_got.
    let list = entries_listed key.V file vs got in
    in_step (some key.V vs) _ f past_got (some_true file key.V vs f (λ e. absurd cc) (count_at file key.V vs list))
    (λ u any past_any. in_step (exactly key.V (n + 1) vs) _ f past_any
    (exactly_true file form.Lattice key.V (n + 1) vs f named (count_at file key.V vs list) (n, order, refl))
    (λ u exact past_exact. numerals_true file key.V vs f of list past_exact)))

ladder_true : (file : Members) (f : FilterFault) → HoldsForm file form.Lattice → ladder_in file ≡ Err f →
    IsTrueOf file f
unfolding ladder_in
ladder_true file f named h =
    let k : IsListKey file key.K kind.Numeral =
    record { own = refl; is = refl; entry = λ n v x. x; past = λ got limit x. x } in
    let v : IsListKey file key.V kind.Numeral =
    record { own = refl; is = refl; entry = λ n v x. x; past = λ got limit x. x } in
    in_step (reflections_in file) _ f h (reflections_true file f named k)
    (λ ks first past_first. in_step (taps_in (length ks) file) _ f past_first
    (taps_true (length ks) file f named (reflections_count file ks first) v)
    (λ vs second past_second. absurd cc))

-- ---- each form

pub coefficients_true : (form : Form) (m p : ℕ) (file : Members) (f : FilterFault) → HoldsForm file form →
    HasCount file key.Inputs m → HasCount file key.Outputs p → coefficients_in form m p file ≡ Err f → IsTrueOf file f
coefficients_true form.Tf m p file f named ins outs h = transfer_true file f named h
coefficients_true form.Sos m p file f named ins outs h = cascade_true file f named h
coefficients_true form.Ss m p file f named ins outs h = space_true m p file f named ins outs h
coefficients_true form.Lattice m p file f named ins outs h = ladder_true file f named h
