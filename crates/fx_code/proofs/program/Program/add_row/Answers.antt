use Rattle.std.proofs.Common.{◌≡◌, None, ◌∙◌, sym}
use Rattle.fx_code.specs.Limits.{row_fault}
use Rattle.fx_code.proofs.FirstFault.{row-told}
use Rattle.fx_code.proofs.Kept.{row_pushed}
use Rattle.fx_code.proofs.program.Program.add_row.Goals as goal
use Rattle.fx_code.proofs.program.Program.add_row.Goals.{in-Ok-push, in-Err}

pub returns-in-Some-clause-fault : goal.returns-in-Some-clause-fault
returns-in-Some-clause-fault c =
    row-told c.args.self.now (record {
      width = c.args.width;
      own = record { shift = c.args.shift; mode = c.args.mode; terms = c.args.terms.now };
    }) _ (sym (c.row_fault.ensures c.args.mode) ∙ c.in-Some.is)

pub returns-in_default-to_vec-clause-fault : goal.returns-in_default-to_vec-clause-fault
returns-in_default-to_vec-clause-fault c = sym (c.row_fault.ensures c.args.mode) ∙ c.in_default.is

pub returns-clause-fault : goal.returns-clause-fault
returns-clause-fault c =
    let none : row_fault c.args.self.now (record {
      width = c.args.width;
      own = record { shift = c.args.shift; mode = c.args.mode; terms = c.args.terms.now };
    }) ≡ None = sym (c.row_fault.ensures c.args.mode) ∙ c.in_default.is in
    elim c.match-push.branch [
      | in-Ok-push w ↦ rw w.result-is none
      | in-Err w ↦ rw w.result-is none
    ]

pub invariant_of-self : goal.invariant_of-self
invariant_of-self c =
    row_pushed c.self.inside c.args.self.now c.args.width c.args.shift c.args.mode c.args.terms.now c.in-Ok.terms
    c.push.new.self c.self.view_is c.self.invariant (sym (c.row_fault.ensures c.args.mode) ∙ c.in_default.is)
    (c.in-Ok.ensures.items_if_clones_equal (λ x y e. e)) c.in-Ok-push.ensures.items
