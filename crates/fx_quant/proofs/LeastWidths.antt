-- Least widths, one after the other, and behind them those of the outputs.
use Rattle.std.proofs.Common.{◌≡◌, ℕ, ◌+◌, ◌-◌, ◌<◌, ◌≤◌, inl, inr, List, [], ◌∷◌, ◌++◌, take, drop, length}
use Rattle.std.proofs.Common.{refl, arith, sym, ap, subst, ◌∙◌, length-append}
use Rattle.std.proofs.Math.IntN.{ℤ, pos}
use Rattle.std.specs.Prelude.{slice_index_or}
use Rattle.std.proofs.lemmas.Bool.{cases_lt}
use Rattle.std.proofs.lemmas.List.{get_or_append_left, get_or_push, length-take-le, take_more, length_push, get_or-take}
use Rattle.std.proofs.lemmas.List.{drop-append-le, drop_all}
use Rattle.std.specs.Prelude.{FitsSigned}
use Rattle.std.proofs.lemmas.Int.{ints}
use Rattle.std.specs.Int.{w64}
use Rattle.fx_msb.specs.Widths.{IsBound, IsLeastWidth}
use Rattle.fx_quant.specs.Widths.{HasLeastWidths, AreRowWidths}

-- a bound is within the words that hold it
pub fits_word : (x : ℤ) → IsBound x → FitsSigned w64 x
fits_word x bound = grind (arith, ints, bound.low, bound.high)

pub least_none : HasLeastWidths [] []
least_none = record { count = refl; least = λ i h. absurd (omega (arith, h)) }

pub least_more : (bounds : List ℤ) (widths more : List ℕ) (i w : ℕ) → i < length bounds →
    HasLeastWidths (take i bounds) widths → IsLeastWidth (slice_index_or bounds i (pos 0)) w → more ≡ widths ++ w ∷ [] →
    HasLeastWidths (take (i + 1) bounds) more
least_more bounds widths more i w h before here is =
    let count : length widths ≡ i = before.count ∙ length-take-le i bounds (omega (arith, h)) in
    let all : take (i + 1) bounds ≡ take i bounds ++ slice_index_or bounds i (pos 0) ∷ [] =
    take_more bounds i (pos 0) h in
    rw (is, all) (record {
      count = length_push widths w ∙ ap (λ n. n + 1) before.count
          ∙ sym (length_push (take i bounds) (slice_index_or bounds i (pos 0)));
      least = λ j l. elim (cases_lt j (length widths)) [
        | inl below ↦ rw (
          get_or_append_left (take i bounds) (slice_index_or bounds i (pos 0) ∷ []) (pos 0) j
              (omega (arith, below, before.count)),
          get_or_append_left widths (w ∷ []) 0 j below,
        ) (before.least j below)
        | inr at ↦ (let same : j ≡ length widths = omega (arith, l, at, length_push widths w) in
            rw (
              get_or_push (take i bounds) (slice_index_or bounds i (pos 0)) (pos 0) j
                  (omega (arith, same, before.count)),
              get_or_push widths w 0 j (sym same),
            ) here)
      ];
    })

pub row_widths : (rows inner : ℕ) (bounds : List ℤ) (outputs widths all : List ℕ) → rows ≤ length bounds →
    length outputs ≤ rows → inner ≡ rows - length outputs → HasLeastWidths (take inner bounds) widths →
    all ≡ widths ++ outputs → AreRowWidths rows bounds outputs all
row_widths rows inner bounds outputs widths all h few e least is =
    let count : length widths ≡ inner = least.count ∙ length-take-le inner bounds (omega (arith, h, e)) in
    rw is (record {
      count = omega (arith, length-append widths outputs, count, e, few);
      inner = λ i l. (let within : i < length widths = omega (arith, l, count, e) in
          rw (get_or_append_left widths outputs 0 i within)
          (subst (λ x. IsLeastWidth x (slice_index_or widths i 0))
          (get_or-take inner bounds i (pos 0) (omega (arith, within, count))) (least.least i within)));
      put_out = ap (λ n. drop n (widths ++ outputs)) (sym e ∙ sym count)
          ∙ drop-append-le (length widths) widths outputs (omega arith)
          ∙ ap (λ xs. xs ++ outputs) (drop_all (length widths) widths (omega arith));
    })
