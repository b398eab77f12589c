use Rattle.std.proofs.Common.{arith, ◌≡◌, IfOk}
use Rattle.std.proofs.lemmas.Grind.{common_steps}
use Rattle.fx_eqs.specs.Textbook.{tf_equations}
use Rattle.fx_direct.specs.Forms.{df2_form}
use Rattle.fx_sif.proofs.Following.{outputs_of}
use Rattle.fx_direct.proofs.forms.df2.Goals as goal

pub returns-clause-same : goal.returns-clause-same
returns-clause-same c =
    let b = c.args.b.now in
    let a = c.args.a.now in
    let made : IfOk c.build_unrefused.result (λ s. s ≡ df2_form b a) = grind (arith, common_steps) in
    outputs_of c.build_unrefused.result (df2_form b a) (tf_equations b a) made c.df2_keeps_the_outputs.ensures
