-- The peaks over the first length that serves enclose.
use Rattle.std.proofs.Common.{◌≡◌, ℕ, ◌<◌, List, [], ◌∷◌, All, Option, Some, None, arith, ap, sym, ◌∙◌, refl, subst}
use Rattle.std.proofs.lemmas.Int.{ints}
use Rattle.std.proofs.lemmas.List.Elements.{All-head, All-tail}
use Rattle.fx_files.specs.Filter.{Filter}
use Rattle.fx_files.specs.Fits.{FilterFits}
use Rattle.fx_net.specs.Net.{Net}
use Rattle.fx_gain.specs.Enclosing.{worst_words}
use Rattle.fx_gain.specs.Laws.{EnclosuresHold}
use Rattle.fx_gain.specs.Lengths.{first_serving, length_failure, original_net, serving_or}
use Rattle.fx_gain.specs.Peak.{EnclosesPeak}
use Rattle.fx_gain.specs.Peaks.{ArePeaks, EnclosePeaks, PeakValues, interval_of}
use Rattle.fx_gain.specs.declared.fails.LengthFail.{LengthFail}

-- the first length that serves does, and is one of those
first_serves : (net : Net) (filter : Filter) (P : ℕ → Type 0) (ms : List ℕ) (m : ℕ) → All P ms →
    first_serving net filter ms ≡ Some m → P m × (length_failure net filter m ≡ None)
first_serves net filter P [] m each e = cc
first_serves net filter P (l ∷ ms) m each e =
    by (first_serves net filter P ms m (All-tail P l ms each)) (length_failure net filter l) refl
  where
    here : length_failure net filter l ≡ None → l ≡ m → P m × (length_failure net filter m ≡ None)
    here none same = (subst P same (All-head P l ms each), subst (λ i. length_failure net filter i ≡ None) same none)

    by : (first_serving net filter ms ≡ Some m → P m × (length_failure net filter m ≡ None)) → (o : Option LengthFail) →
        length_failure net filter l ≡ o → P m × (length_failure net filter m ≡ None)
    by later None f =
        (let found : Some l ≡ Some m =
        sym (ap (λ (o : Option LengthFail). serving_or l o (first_serving net filter ms)) f) ∙ e in
        here f (let same : l ≡ m = cc in same))
    by later (Some fail) f =
        later (sym (ap (λ (o : Option LengthFail). serving_or l o (first_serving net filter ms)) f) ∙ e)

pub peaks_enclose : (filter : Filter) (p : PeakValues) → FilterFits filter → EnclosuresHold filter →
    ArePeaks (original_net filter) filter p → EnclosePeaks filter p
peaks_enclose filter p kept law are o j l h =
    let each : All (λ n. 0 < n) filter.settings.lengths =
    λ k d i. (let low = (kept.settings.lengths.each k d i).0 in omega (arith, ints, low)) in
    let first = first_serves (original_net filter) filter (λ n. 0 < n) filter.settings.lengths p.moments each
    are.serves in
    subst (EnclosesPeak filter o j (interval_of p o j)) (sym (are.words_are o j l h))
    (subst (λ v. EnclosesPeak filter o j v (worst_words (original_net filter) filter p.moments o j))
    (sym (are.intervals_are o j l h))
    (law p.moments o j first.0 l h first.1))
