-- The formats of a filter are within the limits of quantising.
use Rattle.std.proofs.Common.{◌≡◌, ℕ, zero, suc, ◌<◌, ◌≤◌, [], ◌∷◌, take, length, All, arith}
use Rattle.std.proofs.Common.{unsigned_abs}
use Rattle.std.proofs.Math.IntN.{ℤ, ◌-ℤ◌}
use Rattle.std.proofs.lemmas.Int.{ints}
use Rattle.std.proofs.lemmas.List.Elements.{All-nil, All-cons, All-get_or}
use Rattle.fx_files.specs.Filter.{Filter}
use Rattle.fx_files.specs.Fits.{FilterFits, OutputFits}
use Rattle.fx_block.specs.Formats.{output_at}
use Rattle.fx_quant.specs.Quantised.{FormatsFit, LowFits}
use Rattle.fx_quant.specs.declared.formats.Formats.{Formats}
use Rattle.fx_quant.specs.declared.formats.TheConstants.{LOWS_APART}
use Rattle.fx_make.specs.Candidates.{formats_of}

-- the first of four elements
first_of : (P : ℤ → Type 0) (f : ℕ → ℤ) (n : ℕ) → n ≤ 4 → ((o : ℕ) → o < n → P (f o)) →
    All P (take n (f 0 ∷ f 1 ∷ f 2 ∷ f 3 ∷ []))
first_of P f zero few h = All-nil P
first_of P f (suc zero) few h = All-cons P (f 0) [] (h 0 (omega arith)) (All-nil P)
first_of P f (suc (suc zero)) few h =
    All-cons P (f 0) (f 1 ∷ []) (h 0 (omega arith)) (All-cons P (f 1) [] (h 1 (omega arith)) (All-nil P))
first_of P f (suc (suc (suc zero))) few h =
    All-cons P (f 0) (f 1 ∷ f 2 ∷ []) (h 0 (omega arith)) (All-cons P (f 1) (f 2 ∷ []) (h 1 (omega arith))
    (All-cons P (f 2) [] (h 2 (omega arith)) (All-nil P)))
first_of P f (suc (suc (suc (suc zero)))) few h =
    All-cons P (f 0) (f 1 ∷ f 2 ∷ f 3 ∷ []) (h 0 (omega arith)) (All-cons P (f 1) (f 2 ∷ f 3 ∷ []) (h 1 (omega arith))
    (All-cons P (f 2) (f 3 ∷ []) (h 2 (omega arith)) (All-cons P (f 3) [] (h 3 (omega arith)) (All-nil P))))
first_of P f (suc (suc (suc (suc (suc n))))) few h = absurd (omega (arith, few))

output_fits : (f : Filter) (o : ℕ) → FilterFits f → o < length f.outputs →
    OutputFits f.input_low f.settings.accumulator (output_at f o)
output_fits f o fits h = All-get_or (OutputFits f.input_low f.settings.accumulator) f.outputs o _ h fits.outputs

pub formats_fit : (f : Filter) (outputs : ℕ) (formats : Formats) → FilterFits f → outputs ≡ length f.outputs →
    formats ≡ formats_of f → FormatsFit outputs formats
formats_fit f outputs formats fits e is = rw (e, is) (record {
  accumulator = fits.settings.accumulator.listed;
  input_low = fits.input_low;
  lows = first_of LowFits (λ o. (output_at f o).low) (length f.outputs) fits.outputs_high
      (λ o h. (output_fits f o fits h).low);
  near = first_of (λ low. unsigned_abs (low -ℤ f.input_low) ≤ LOWS_APART) (λ o. (output_at f o).low)
      (length f.outputs) fits.outputs_high
      (λ o h. let apart = (output_fits f o fits h).difference in omega (arith, ints, apart.0, apart.1));
})
