-- The certificate of a candidate that passes.
use Rattle.std.proofs.Common.{◌≡◌, ℕ, ◌*◌, ◌^◌, ◌<◌, ◌≤◌, List, take, length, All, arith, refl, sym, ap}
use Rattle.std.proofs.Common.{◌∙◌, unsigned_abs, inl, inr}
use Rattle.std.proofs.Math.IntN.{ℤ, pos, ◌*ℤ◌}
use Rattle.std.specs.Int.Signed.{◌≤ℤ◌}
use Rattle.std.proofs.lemmas.Bool.{cases_lt}
use Rattle.std.proofs.lemmas.Int.{ints, unsigned_abs-mul}
use Rattle.std.proofs.lemmas.List.{length-take-le, get_or-take, get_or_past}
use Rattle.std.proofs.lemmas.List.Elements.{All-get_or, All-from_get_or, All-take}
use Rattle.fx_math.specs.Division.{floor_div}
use Rattle.fx_math.proofs.Division.{floor_bound}
use Rattle.fx_nums.specs.Fraction.{den_value}
use Rattle.fx_msb.specs.Widths.{IsBound}
use Rattle.fx_files.specs.Filter.{Filter}
use Rattle.fx_files.specs.Fits.{FilterFits, OutputFits}
use Rattle.fx_files.specs.declared.formats.OutputFormat.{OutputFormat}
use Rattle.fx_cert.specs.Certificate.{Certificate, CertificateFits, IsError}
use Rattle.fx_cert.specs.declared.limits.TheConstants.{LEAST_LENGTH, GREATEST_LENGTH, GREATEST_ROWS, GREATEST_ERROR}
use Rattle.fx_sweep.specs.Swept.{whole_in}
use Rattle.fx_sweep.specs.Target.{start_of}
use Rattle.fx_totals.specs.Growth.{NoTotalIsNegative}
use Rattle.fx_totals.specs.Kept.{AreBounds, bound_in}
use Rattle.fx_block.specs.Candidate.{cap_of, candidate_count, candidate_net, candidate_pair, candidate_total}
use Rattle.fx_block.specs.Formats.{bound_of, output_at}
use Rattle.fx_block.specs.Made.{IsCertificateOf}
use Rattle.fx_block.specs.Passes.{bound_at}
use Rattle.fx_quant.specs.Design.{Quantised}
use Rattle.fx_make.specs.Designs.{AreRowsOf, ErrorFits}
use Rattle.fx_make.specs.Lengths.{HasPassing}
use Rattle.fx_make.proofs.AtRest.{IsSettled, least_settled}
use Rattle.fx_make.proofs.MadePrograms.{are_bounds}
use Rattle.fx_make.proofs.Trials.{has_passed, none_above}

-- ---- errors

target_small : (low : ℤ) (bits : ℕ) (o : OutputFormat) → OutputFits low bits o → ErrorFits o →
    o.target ≤ℤ pos GREATEST_ERROR
target_small low bits o fits error =
    let den : ℕ = den_value o.error.den in
    let num : ℤ = o.error.num in
    let value : unsigned_abs num < 2 ^ 24 * den = error.value_fits in
    let some : 0 < den = omega (arith, value) in
    let size : unsigned_abs (num *ℤ pos (2 ^ 64)) ≡ unsigned_abs num * 2 ^ 64 = unsigned_abs-mul num (pos (2 ^ 64)) in
    let within : unsigned_abs (floor_div (num *ℤ pos (2 ^ 64)) den) ≤ 2 ^ 88 =
    floor_bound (num *ℤ pos (2 ^ 64)) den (2 ^ 88) some (omega (arith, size, value)) in
    rw fits.target (omega (arith, ints, within))

error_fits : (f : Filter) (d : Quantised) (m : ℕ) (x : ℕ → ℕ) (e : List ℤ) (o : ℕ) → FilterFits f →
    All ErrorFits f.outputs → NoTotalIsNegative → HasPassing f d.rows m x (whole_in e) → o < length f.outputs →
    IsError (whole_in e o)
error_fits f d m x e o fits small never passing h =
    let total : ℤ = candidate_total f d.rows m x o in
    let low : pos 0 ≤ℤ total =
    never (candidate_net f d.rows) (start_of (candidate_pair f d.rows o)) m (bound_of f) x (λ j. omega (arith, ints)) in
    let below : total ≤ℤ (output_at f o).target =
    none_above (length f.outputs) (candidate_total f d.rows m x) (λ k. (output_at f k).target)
    (has_passed f d.rows m x passing.passed).above o h in
    let most = target_small f.input_low f.settings.accumulator (output_at f o)
    (All-get_or (OutputFits f.input_low f.settings.accumulator) f.outputs o _ h fits.outputs)
    (All-get_or ErrorFits f.outputs o _ h small) in
    rw (passing.errors o h) (record { low = low; high = omega (arith, ints, below, most) })

-- ---- the certificate

pub certificate_fits : (f : Filter) (d : Quantised) (m n : ℕ) (x e : List ℤ) → FilterFits f → AreRowsOf f d →
    All ErrorFits f.outputs → NoTotalIsNegative → AreBounds x → length e ≡ length f.outputs →
    HasPassing f d.rows m (bound_in x) (whole_in e) → LEAST_LENGTH ≤ m → m ≤ GREATEST_LENGTH →
    n ≡ candidate_count f d.rows → n ≤ GREATEST_ROWS → n ≤ length x →
    CertificateFits (record { length = m; bounds = take n x; errors = e })
certificate_fits f d m n x e fits rows small never bounds count passing low high is few room =
    let long = length-take-le n x room in
    record {
      length_low = low;
      length_high = high;
      rows_low = omega (arith, long, is, rows.outputs, fits.outputs_low);
      rows_high = omega (arith, long, few);
      bounds = All-take IsBound n x (are_bounds x bounds);
      outputs_low = omega (arith, count, fits.outputs_low);
      outputs_high = omega (arith, count, fits.outputs_high);
      errors = All-from_get_or IsError e (pos 0)
          (λ o h. error_fits f d m (bound_in x) e o fits small never passing (omega (arith, h, count)));
    }

pub certificate_of : (f : Filter) (d : Quantised) (m n : ℕ) (x e : List ℤ) (c : Certificate) →
    length e ≡ length f.outputs → HasPassing f d.rows m (bound_in x) (whole_in e) → n ≡ candidate_count f d.rows →
    n ≤ length x → c ≡ record { length = m; bounds = take n x; errors = e } →
    IsCertificateOf f d.rows m (bound_in x) c
certificate_of f d m n x e c count passing is room same =
    let long = length-take-le n x room in
    let settled : IsSettled (candidate_count f d.rows) (cap_of f d.rows) (bound_in x) =
    least_settled (candidate_net f d.rows) (candidate_count f d.rows) (λ j. m) (bound_of f) (cap_of f d.rows)
    (bound_in x) (has_passed f d.rows m (bound_in x) passing.passed).rest in
    let bound : (j : ℕ) → bound_at (record { length = m; bounds = take n x; errors = e }) j ≡ bound_in x j =
    λ j. elim (cases_lt j n) [
      | inl below ↦ ap unsigned_abs (get_or-take n x j (pos 0) below)
      | inr at ↦ ap unsigned_abs (get_or_past (take n x) j (pos 0) (omega (arith, long, at)))
          ∙ sym (settled.past j (omega (arith, at, is)))
    ] in
    rw same (record {
      length_is = refl;
      bound_count = long ∙ is;
      bounds = bound;
      error_count = count;
      errors = passing.errors;
    })
