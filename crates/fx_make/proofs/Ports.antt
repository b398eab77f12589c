-- The structure of a filter has the filter's inputs and outputs.
use Rattle.std.proofs.Common.{◌≡◌, ℕ, ap, sym, ◌∙◌, length}
use Rattle.std.specs.Prelude.{Result, Ok, Err}
use Rattle.std.proofs.lemmas.List.{length-map}
use Rattle.fx_eqs.specs.Equations.{Equations}
use Rattle.fx_files.specs.Coefficients as coefficients
use Rattle.fx_files.specs.Coefficients.{Coefficients, form_of}
use Rattle.fx_files.specs.Filter.{Filter}
use Rattle.fx_files.specs.Fits.{FilterFits, CountsFit}
use Rattle.fx_files.specs.declared.formats.OutputFormat.{OutputFormat}
use Rattle.fx_files.specs.declared.forms.Structure.{Structure}
use Rattle.fx_files.specs.declared.forms.Structure.TheVariants as structure
use Rattle.fx_lattice.specs.Lattice.{Lattice}
use Rattle.fx_lattice.specs.StepDown.{step_down}
use Rattle.fx_lattice.specs.declared.refusal.Step.{Step}
use Rattle.fx_sif.specs.Implicit.{Implicit}
use Rattle.fx_sif.specs.SameOutputs.{HasOutputs}
use Rattle.fx_make.specs.Structures.{built_equations, equations_by, ladder_equations, HasPorts}

-- an equation system with so many inputs and outputs
record Has (m p : ℕ) (e : Equations) : Type 0 where
  inputs : e.inputs ≡ m
  outputs : length e.outputs ≡ p

of_ladder : (m p : ℕ) (l : Result Lattice Step) (own : Equations) → (m ≡ 1) × (p ≡ 1) → Has m p own →
    Has m p (ladder_equations l own)
of_ladder m p (Ok l) own one has = record { inputs = sym one.0; outputs = sym one.1 }
of_ladder m p (Err refused) own one has = has

of_form : (m p : ℕ) (c : Coefficients) (s : Structure) (own : Equations) → CountsFit (form_of c) m p → Has m p own →
    Has m p (equations_by c s own)
of_form m p (coefficients.Tf b a) structure.Lattice own one has = of_ladder m p (step_down b a) own one has
of_form m p (coefficients.Tf b a) structure.Df1 own one has = has
of_form m p (coefficients.Tf b a) structure.Df2 own one has = has
of_form m p (coefficients.Tf b a) structure.Df2t own one has = has
of_form m p (coefficients.Tf b a) structure.Fir own one has = has
of_form m p (coefficients.Tf b a) structure.Ss own one has = has
of_form m p (coefficients.Sos cs) s own one has = has
of_form m p (coefficients.Ss n A B C D) s own one has = has
of_form m p (coefficients.Lattice k v) s own one has = has

own_ports : (f : Filter) → FilterFits f → Has (length f.inputs) (length f.outputs) f.equations
own_ports f fits = record {
  inputs = fits.equation_inputs;
  outputs =
      ap length fits.equation_outputs ∙ length-map f.outputs (λ (o : OutputFormat). o.row);
}

pub has_ports : (f : Filter) (s : Implicit) → FilterFits f → HasOutputs s (built_equations f) → HasPorts f s
has_ports f s fits same =
    let has : Has (length f.inputs) (length f.outputs) (built_equations f) =
    of_form (length f.inputs) (length f.outputs) f.coefficients f.settings.structure f.equations fits.counts
    (own_ports f fits) in
    record { inputs = same.inputs ∙ has.inputs; outputs = same.outputs ∙ has.outputs }
