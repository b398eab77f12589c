-- The filter of sections has its structure, and what passes for it has its ports.
use Rattle.std.proofs.Common.{◌≡◌, ◌∙◌, ℕ, List, [], ◌∷◌, length, refl, sym, subst, ap, arith, slice_index, Result}
use Rattle.std.proofs.Common.{Ok, Err, IfOk}
use Rattle.fx_nums.specs.Fraction.{Fraction}
use Rattle.fx_code.specs.Code.{Code}
use Rattle.fx_cert.specs.Certificate.{Certificate}
use Rattle.fx_block.specs.Passes.{Passes}
use Rattle.fx_files.specs.Building.{assembled, with_rows}
use Rattle.fx_files.specs.Filter.{Filter}
use Rattle.fx_files.specs.Plan.{filter_of_sections}
use Rattle.fx_files.specs.declared.plan.Plan.{Plan}
use Rattle.fx_large.specs.Job.{HasStructure, job_filter, job_plan}
use Rattle.fx_large.specs.Runs.{HasPorts}

is_job_filter : (sections : List Fraction) (f : Filter) → f ≡ filter_of_sections sections job_plan →
    f ≡ job_filter sections
unfolding job_filter
is_job_filter sections f same = same

pub made_filter : {E : Type 0} (sections : List Fraction) (plan : Plan) (r : Result Filter E) → plan ≡ job_plan →
    IfOk r (λ f. f ≡ filter_of_sections sections plan) → IfOk r (λ f. f ≡ job_filter sections)
made_filter sections plan (Ok f) same h = is_job_filter sections f (h ∙ ap (filter_of_sections sections) same)
made_filter sections plan (Err e) same h = h

has_structure : (sections : List Fraction) → HasStructure (job_filter sections)
unfolding HasStructure job_filter assembled
has_structure sections = refl

pub structure_is_there : {E : Type 0} (sections : List Fraction) (r : Result Filter E) →
    IfOk r (λ f. f ≡ job_filter sections) → IfOk r HasStructure
structure_is_there sections (Ok f) same = subst HasStructure (sym same) (has_structure sections)
structure_is_there sections (Err e) h = h

one_only : (x : ℕ) (xs : List ℕ) → length xs ≡ 1 → slice_index xs 0 ≡ x → xs ≡ x ∷ []
one_only x [] count h = absurd (omega arith)
one_only x (y ∷ []) count h = ap (λ z. z ∷ []) h
one_only x (y ∷ z ∷ ys) count h = absurd (omega arith)

pub has_ports : (sections : List Fraction) (p : Code) (c : Certificate) → Passes (job_filter sections) p c →
    HasPorts 16 p
unfolding job_filter assembled with_rows
has_ports sections p c h = record {
  input = one_only 16 p.inputs h.form.inputs (h.form.input_widths 0 (omega arith));
  output = h.form.outputs;
}
