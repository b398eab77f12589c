-- The implicit form of the structure that a filter asks for, or why there is none; and whose outputs it has.
use Rattle.std.specs.Prelude.{◌≡◌, ℕ, ◌+◌, ◌==◌, ◌≤◌, nat_le, Bool, true, false, List, [], ◌∷◌, length, Result, Ok, Err}
use Rattle.fx_math.specs.Faults.{◌>>=◌, unless}
use Rattle.fx_math.specs.Sums.{joined}
use Rattle.fx_nums.specs.Fraction.{Fraction}
use Rattle.fx_eqs.specs.Equations.{Equations}
use Rattle.fx_eqs.specs.Textbook.{lattice_equations}
use Rattle.fx_eqs.specs.declared.limits.TheConstants.{EQUATION_TERMS, REFLECTIONS}
use Rattle.fx_files.specs.Coefficients as coefficients
use Rattle.fx_files.specs.Coefficients.{Coefficients, coefficients_of}
use Rattle.fx_files.specs.Filter.{Filter}
use Rattle.fx_files.specs.declared.forms.Form.TheVariants as form
use Rattle.fx_files.specs.declared.forms.Structure.{Structure}
use Rattle.fx_files.specs.declared.forms.Structure.TheVariants as structure
use Rattle.fx_sif.specs.Implicit.{Implicit}
use Rattle.fx_sif.specs.declared.parts.Sizes.{Sizes}
use Rattle.fx_direct.specs.Forms.{df1_form, df2_form, df2t_form, fir_form}
use Rattle.fx_cascade.specs.Cascades.{cascade_df1_form, cascade_df2t_form}
use Rattle.fx_space.specs.Space as spaces
use Rattle.fx_lattice.specs.Lattice.{Lattice, low_over, reflection, tap}
use Rattle.fx_lattice.specs.StepDown.{greater_order, step_down}
use Rattle.fx_lattice.specs.Structure.{ladder_form}
use Rattle.fx_lattice.specs.declared.limits.TheConstants.{REFLECTION_BITS, TAP_BITS}
use Rattle.fx_lattice.specs.declared.refusal.Step.{Step}
use Rattle.fx_lattice.specs.declared.refusal.Step.TheVariants as step
use Rattle.fx_make.specs.declared.refusal.StructureFault.{StructureFault}
use Rattle.fx_make.specs.declared.refusal.StructureFault.TheVariants.{NotListed, NotFir, Order, NotBelowOne, Range}
use Rattle.fx_make.specs.declared.refusal.StructureFault.TheVariants.{NoMemory}

-- ---- the lattice of a transfer function

-- the fractions of its reflection coefficients, and those of its taps
abbrev pub reflections_of : Lattice → List Fraction
reflections_of l = joined (length l.k) (λ i. low_over REFLECTION_BITS (reflection l (i + 1)) ∷ [])

abbrev pub taps_of : Lattice → List Fraction
taps_of l = joined (length l.k + 1) (λ i. low_over TAP_BITS (tap l i) ∷ [])

-- why step-down gives none
abbrev pub refusal_of : Step → StructureFault
refusal_of (step.NotBelowOne i k) = NotBelowOne i k
refusal_of (step.Range i) = Range i
refusal_of step.NoMemory = NoMemory

abbrev pub lattice_or_refusal : Result Lattice Step → Result Implicit StructureFault
lattice_or_refusal (Ok l) = Ok (ladder_form (reflections_of l) (taps_of l))
lattice_or_refusal (Err refused) = Err (refusal_of refused)

-- ---- the structures of each form

-- of a filter without feedback
abbrev pub fir_or_refusal : List Fraction → List Fraction → Result Implicit StructureFault
fir_or_refusal b a = unless (NotFir (length a)) (length a == 1) >>= λ u. Ok (fir_form b)

-- by step-down, of a filter up to the greatest order of a lattice
abbrev pub step_down_or_refusal : List Fraction → List Fraction → Result Implicit StructureFault
step_down_or_refusal b a =
    unless (Order (greater_order b a) REFLECTIONS) (nat_le (greater_order b a) REFLECTIONS) >>= λ u.
    lattice_or_refusal (step_down b a)

abbrev pub transfer_form : List Fraction → List Fraction → Structure → Result Implicit StructureFault
transfer_form b a structure.Df1 = Ok (df1_form b a)
transfer_form b a structure.Df2 = Ok (df2_form b a)
transfer_form b a structure.Df2t = Ok (df2t_form b a)
transfer_form b a structure.Fir = fir_or_refusal b a
transfer_form b a structure.Lattice = step_down_or_refusal b a
transfer_form b a structure.Ss = Err (NotListed form.Tf structure.Ss)

abbrev pub sections_form : List Fraction → Structure → Result Implicit StructureFault
sections_form cs structure.Df1 = Ok (cascade_df1_form cs)
sections_form cs structure.Df2t = Ok (cascade_df2t_form cs)
sections_form cs other = Err (NotListed form.Sos other)

-- n states, m inputs, p outputs
abbrev pub space_sizes : ℕ → ℕ → ℕ → Sizes
space_sizes n m p = record { t = 0; x = n; u = m; y = p }

abbrev pub space_form : Sizes → List Fraction → Structure → Result Implicit StructureFault
space_form sizes abcd structure.Ss = Ok (spaces.space_form sizes abcd)
space_form sizes abcd other = Err (NotListed form.Ss other)

abbrev pub lattice_form : List Fraction → List Fraction → Structure → Result Implicit StructureFault
lattice_form k v structure.Lattice = Ok (ladder_form k v)
lattice_form k v other = Err (NotListed form.Lattice other)

-- ---- the structure of a filter, with m inputs and p outputs

abbrev pub form_by : ℕ → ℕ → Coefficients → Structure → Result Implicit StructureFault
form_by m p (coefficients.Tf b a) s = transfer_form b a s
form_by m p (coefficients.Sos cs) s = sections_form cs s
form_by m p (coefficients.Ss n A B C D) s =
    space_form (space_sizes n m p) (coefficients_of (coefficients.Ss n A B C D)) s
form_by m p (coefficients.Lattice k v) s = lattice_form k v s

abbrev pub structure_form : Filter → Result Implicit StructureFault
structure_form f = form_by (length f.inputs) (length f.outputs) f.coefficients f.settings.structure

-- ---- whose outputs it has

-- those of the lattice that step-down gave
abbrev pub ladder_equations : Result Lattice Step → Equations → Equations
ladder_equations (Ok l) own = lattice_equations (reflections_of l) (taps_of l)
ladder_equations (Err refused) own = own

-- a lattice by step-down has cut fractions and so outputs of its own; each other structure has those of the filter
abbrev pub equations_by : Coefficients → Structure → Equations → Equations
equations_by (coefficients.Tf b a) structure.Lattice own = ladder_equations (step_down b a) own
equations_by _ _ own = own

abbrev pub built_equations : Filter → Equations
built_equations f = equations_by f.coefficients f.settings.structure f.equations

-- as many inputs and outputs as the filter
pub record HasPorts (f : Filter) (s : Implicit) : Type 0 where
  pub inputs : s.sizes.u ≡ length f.inputs
  pub outputs : s.sizes.y ≡ length f.outputs

-- its entries are no more than the terms of a system
abbrev pub HasFewEntries : Implicit → Type 0
HasFewEntries s = length s.entries ≤ EQUATION_TERMS

-- ---- an answer

-- memory was refused
abbrev pub is_memory : StructureFault → Bool
is_memory NoMemory = true
is_memory (NotListed f s) = false
is_memory (NotFir n) = false
is_memory (Order n most) = false
is_memory (NotBelowOne i k) = false
is_memory (Range i) = false
