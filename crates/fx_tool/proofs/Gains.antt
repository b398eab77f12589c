-- What is found over the first listed length that serves, and that each listed length fails.
use Rattle.std.proofs.Common.{◌≡◌, ◌∙◌, ℕ, zero, suc, ◌<◌, ◌++◌, ℤ, arith, List, [], ◌∷◌, length, map, codes}
use Rattle.std.proofs.Common.{Option, Some, None, refl, sym, ap, ap₂}
use Rattle.std.specs.Prelude.{Contains}
use Rattle.std.proofs.lemmas.List.Folds.{flat_map-map}
use Rattle.fx_math.specs.Sums.{joined}
use Rattle.fx_net.specs.Net.{Net}
use Rattle.fx_nums.specs.Interval.{Interval}
use Rattle.fx_files.specs.Filter.{Filter}
use Rattle.fx_gain.specs.Enclosing.{enclosure, worst_words}
use Rattle.fx_gain.specs.Lengths.{first_serving, length_failure, original_net, serving_or}
use Rattle.fx_gain.specs.Peaks.{PeakValues, ArePeaks, EachFails, interval_of, words_of}
use Rattle.fx_gain.specs.declared.fails.LengthFail.{LengthFail}
use Rattle.fx_findings.specs.Peaks.{gain_lines, no_length_lines, peak_lines}
use Rattle.fx_tool.specs.Answer.{says}
use Rattle.fx_tool.specs.Gain.{all_lines, by_serving, fail_text, fails_text, gains}
use Rattle.fx_tool.specs.declared.status.Status.TheVariants.{Done, NoDesign}

-- ---- the same lines of the same numbers

joined_same : {A : Type 0} (n : ℕ) (f g : ℕ → List A) → ((i : ℕ) → i < n → f i ≡ g i) → joined n f ≡ joined n g
joined_same zero f g same = refl
joined_same (suc n) f g same =
    ap₂ (λ a b. a ++ b) (joined_same n f g (λ i l. same i (omega (arith, l)))) (same n (omega arith))

lines_same : (outputs inputs : ℕ) (a b : ℕ → ℕ → Interval) (v w : ℕ → ℕ → List ℤ) →
    ((o i : ℕ) → o < outputs → i < inputs → a o i ≡ b o i) →
    ((o i : ℕ) → o < outputs → i < inputs → v o i ≡ w o i) →
    all_lines outputs inputs a v ≡ all_lines outputs inputs b w
lines_same outputs inputs a b v w intervals words =
    joined_same outputs (λ o. joined inputs (λ i. peak_lines o i (a o i) (v o i)))
    (λ o. joined inputs (λ i. peak_lines o i (b o i) (w o i))) (λ o lo.
    joined_same inputs (λ i. peak_lines o i (a o i) (v o i)) (λ i. peak_lines o i (b o i) (w o i)) (λ i li.
    ap₂ (peak_lines o i) (intervals o i lo li) (words o i lo li)))

pub peaks_found : (f : Filter) (p : PeakValues) → ArePeaks (original_net f) f p →
    gains f ≡ says Done (gain_lines p)
unfolding gains
peaks_found f p h =
    ap (by_serving f) h.serves
    ∙ ap (says Done) (sym (lines_same (length f.outputs) (length f.inputs) (interval_of p)
    (enclosure (original_net f) f p.moments) (words_of p) (worst_words (original_net f) f p.moments)
    h.intervals_are h.words_are))
    ∙ ap₂ (λ outputs inputs. says Done (all_lines outputs inputs (interval_of p) (words_of p)))
    (sym h.outputs_are) (sym h.inputs_are)

-- ---- where each length fails, none serves

none_serves : (net : Net) (f : Filter) (ms : List ℕ) (fails : List LengthFail) →
    map (length_failure net f) ms ≡ map Some fails → first_serving net f ms ≡ None
none_serves net f [] fails h = refl
none_serves net f (m ∷ ms) [] h = cc
none_serves net f (m ∷ ms) (x ∷ xs) h =
    let here : length_failure net f m ≡ Some x = cc in
    let later : map (length_failure net f) ms ≡ map Some xs = cc in
    ap (λ failure. serving_or m failure (first_serving net f ms)) here ∙ none_serves net f ms xs later

pub none_found : (f : Filter) (fails : List LengthFail) → EachFails (original_net f) f fails →
    gains f ≡ says NoDesign (no_length_lines fails)
unfolding gains
none_found f fails h =
    ap (by_serving f) (none_serves (original_net f) f f.settings.lengths fails h)
    ∙ ap (λ failures. says NoDesign (fails_text failures)) h
    ∙ ap (λ lines. says NoDesign (codes "no design\n" ++ lines)) (flat_map-map fail_text Some fails)

-- ---- the length that serves is one of those that are tried

listed_step : (m x : ℕ) (xs : List ℕ) (why : Option LengthFail) (later : Option ℕ) →
    (later ≡ Some m → Contains xs m) → serving_or x why later ≡ Some m → Contains (x ∷ xs) m
listed_step m x xs None later rest e = (let same : x ≡ m = cc in (0, omega arith, same))
listed_step m x xs (Some fail) later rest e =
    (let (k, below, same) = rest e in (suc k, omega (arith, below), same))

pub serving_listed : (f : Filter) (ms : List ℕ) (m : ℕ) → first_serving (original_net f) f ms ≡ Some m →
    Contains ms m
serving_listed f [] m e = cc
serving_listed f (x ∷ xs) m e =
    listed_step m x xs (length_failure (original_net f) f x) (first_serving (original_net f) f xs)
    (serving_listed f xs m) e
