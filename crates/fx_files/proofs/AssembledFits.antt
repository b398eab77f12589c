-- A filter of parts that agree keeps the limits.
use Rattle.std.proofs.Common.{◌≡◌, ℕ, suc, ◌≤◌, List, [], ◌∷◌, length, map, refl, ap, sym, subst, arith, All}
use Rattle.std.proofs.Math.IntN.{ℤ}
use Rattle.std.proofs.lemmas.List.Elements.{All-nil, All-cons, All-head, All-tail}
use Rattle.fx_eqs.specs.Equations.{Equations}
use Rattle.fx_nums.specs.Fraction.{OverTen}
use Rattle.fx_files.specs.Building.{assembled, equations_of, target_of, with_rows}
use Rattle.fx_files.specs.Coefficients.{Coefficients, Tf, Sos, Ss, Lattice, coefficients_of, form_of}
use Rattle.fx_files.specs.Fits.{CoefficientsFit, CountsFit, EntryAgrees, EntryFits, FilterFits, OutputFits}
use Rattle.fx_files.specs.Fits.{PortsFit, SettingsFit}
use Rattle.fx_files.specs.Ports.{Ports}
use Rattle.fx_files.specs.Settings.{Settings}
use Rattle.fx_files.specs.declared.formats.OutputEntry.{OutputEntry}
use Rattle.fx_files.specs.declared.formats.OutputFormat.{OutputFormat}
use Rattle.fx_eqs.specs.declared.limits.TheConstants.{PORTS}
use Rattle.fx_textbook.proofs.TermSteps.{length-up_from}
use Rattle.fx_files.proofs.TermsOverTen.{equations_over_ten}

-- ---- outputs with their rows

pub length-with_rows : (rs : List ℕ) (os : List OutputEntry) → length rs ≡ length os →
    length (with_rows rs os) ≡ length os
unfolding with_rows
length-with_rows [] [] h = refl
length-with_rows [] (o ∷ os) h = absurd (omega arith)
length-with_rows (r ∷ rs) [] h = absurd (omega arith)
length-with_rows (r ∷ rs) (o ∷ os) h = ap suc (length-with_rows rs os (omega arith))

pub rows_of : (rs : List ℕ) (os : List OutputEntry) → length rs ≡ length os →
    rs ≡ map (λ (o : OutputFormat). o.row) (with_rows rs os)
unfolding with_rows
rows_of [] [] h = refl
rows_of [] (o ∷ os) h = absurd (omega arith)
rows_of (r ∷ rs) [] h = absurd (omega arith)
rows_of (r ∷ rs) (o ∷ os) h = ap (λ xs. r ∷ xs) (rows_of rs os (omega arith))

pub outputs_kept : (low : ℤ) (bits : ℕ) (rs : List ℕ) (os : List OutputEntry) → All EntryFits os →
    All (EntryAgrees low bits) os → All (OutputFits low bits) (with_rows rs os)
unfolding with_rows
outputs_kept low bits [] os p q = All-nil (OutputFits low bits)
outputs_kept low bits (r ∷ rs) [] p q = All-nil (OutputFits low bits)
outputs_kept low bits (r ∷ rs) (o ∷ os) p q =
    let f = All-head EntryFits o os p in
    let a = All-head (EntryAgrees low bits) o os q in
    All-cons (OutputFits low bits) (record {
      row = r;
      width = o.width;
      low = o.low;
      error = o.error;
      target =
          target_of o.error;
    }) (with_rows rs os)
    (record {
      width = f.width;
      width_kept = a.width_kept;
      low = f.low;
      difference = a.difference;
      error_over_ten = f.error_over_ten;
      error_low = f.error_low;
      target = refl;
    })
    (outputs_kept low bits rs os (All-tail EntryFits o os p) (All-tail (EntryAgrees low bits) o os q))

-- ---- equations with as many inputs and outputs

pub outputs_there : (m p : ℕ) (c : Coefficients) → CountsFit (form_of c) m p → length (equations_of m p c).outputs ≡ p
outputs_there m p (Tf b a) h = sym h.1
outputs_there m p (Sos s) h = sym h.1
outputs_there m p (Ss n A B C D) h = length-up_from n p
outputs_there m p (Lattice k v) h = sym h.1

inputs_there : (m p : ℕ) (c : Coefficients) → CountsFit (form_of c) m p → (equations_of m p c).inputs ≡ m
inputs_there m p (Tf b a) h = sym h.0
inputs_there m p (Sos s) h = sym h.0
inputs_there m p (Ss n A B C D) h = refl
inputs_there m p (Lattice k v) h = sym h.0

-- ---- the whole filter

-- what the parts of a filter keep
pub record PartsFit (ports : Ports) (coefficients : Coefficients) (settings : Settings) : Type 0 where
  pub ports_fit : PortsFit ports
  pub counts : CountsFit (form_of coefficients) (length ports.inputs.formats) (length ports.outputs)
  pub lists_fit : CoefficientsFit (length ports.inputs.formats) (length ports.outputs) coefficients
  pub over_ten : All OverTen (coefficients_of coefficients)
  pub settings_fit : SettingsFit settings
  pub agree : All (EntryAgrees ports.inputs.low settings.accumulator) ports.outputs

pub assembled_fits : (ports : Ports) (coefficients : Coefficients) (settings : Settings) →
    PartsFit ports coefficients settings → FilterFits (assembled ports coefficients settings)
unfolding assembled
assembled_fits ports coefficients settings fits =
    let m = length ports.inputs.formats in
    let p = length ports.outputs in
    let rows = (equations_of m p coefficients).outputs in
    let there = outputs_there m p coefficients fits.counts in
    let long = length-with_rows rows ports.outputs there in
    record {
      input_low = fits.ports_fit.inputs_fit.low;
      inputs_low = fits.ports_fit.inputs_fit.formats_low;
      inputs_high = fits.ports_fit.inputs_fit.formats_high;
      inputs = fits.ports_fit.inputs_fit.each;
      outputs_low = subst (λ n. 1 ≤ n) (sym long) fits.ports_fit.outputs_low;
      outputs_high = subst (λ n. n ≤ PORTS) (sym long) fits.ports_fit.outputs_high;
      outputs = outputs_kept ports.inputs.low settings.accumulator rows ports.outputs
          fits.ports_fit.outputs_fit fits.agree;
      settings = fits.settings_fit;
      counts = subst (λ n. CountsFit (form_of coefficients) m n) (sym long) fits.counts;
      coefficients = subst (λ n. CoefficientsFit m n coefficients) (sym long) fits.lists_fit;
      over_ten = fits.over_ten;
      textbook = ap (λ n. equations_of m n coefficients) (sym long);
      equation_inputs = inputs_there m p coefficients fits.counts;
      equation_outputs = rows_of rows ports.outputs there;
      equation_terms = equations_over_ten m p coefficients fits.over_ten;
    }

-- the same of its fields
pub fields_fit : (ports : Ports) (coefficients : Coefficients) (settings : Settings)
    (outputs : List OutputFormat) (eqs : Equations) →
    eqs ≡ equations_of (length ports.inputs.formats) (length ports.outputs) coefficients →
    outputs ≡ with_rows eqs.outputs ports.outputs →
    PartsFit ports coefficients settings →
    FilterFits (record {
      input_low = ports.inputs.low;
      inputs = ports.inputs.formats;
      outputs =
          outputs;
      coefficients = coefficients;
      settings = settings;
      equations = eqs;
    })
unfolding assembled
fields_fit ports coefficients settings outputs eqs e o fits =
    rw (o, e) (assembled_fits ports coefficients settings fits)
