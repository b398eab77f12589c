use Rattle.std.proofs.Common.{ℤ, List, [], ◌∷◌, ◌++◌, length, take, subst, sym, ◌∙◌}
use Rattle.fx_code.specs.Code.{Code}
use Rattle.fx_code.specs.Inputs.{word_at, IsMoment}
use Rattle.fx_machine.specs.Moments.{GivesMoment, State, StandsAfter}
use Rattle.fx_machine.specs.Standing.{state_of, Begins}
use Rattle.fx_machine.proofs.Following.{Starts}
use Rattle.fx_machine.proofs.Marking.{partial_marks, lost_marks}
use Rattle.fx_machine.proofs.Stepping.{starts, stands_further, outputs_are, of_fields}
use Rattle.fx_machine.proofs.machine.Machine.step.Goals as goal

-- the moment begins as that of the run
begins : (c : goal.After-output-1) (p : Code) (list : List (List ℤ)) → StandsAfter c.args.self.now p list →
    Starts c.self.inside.program.now (word_at (list ++ c.args.input.now ∷ [])) (length list) c.begin.new.words
begins c p list stands =
    let q = c.self.inside.program.now in
    let here = of_fields c.args.self.now (state_of c.self.inside) p list c.self.view_is stands in
    let input : IsMoment q c.args.input.now =
    subst (λ (x : State). IsMoment x.program c.args.input.now) (sym c.self.view_is) c.requires.input in
    let begun : Begins c.self.inside.words c.begin.new.words (length q.rows) c.args.input.now =
    rw c.rows.ensures.value at c.begin.ensures in
    starts q list c.args.input.now c.self.inside.words c.begin.new.words c.self.invariant.fits here.1
    c.self.invariant.words begun input

pub returns-clause-moment : goal.returns-clause-moment
returns-clause-moment c p list stands =
    let q = c.self.inside.program.now in
    let u = word_at (list ++ c.args.input.now ∷ []) in
    let k = length list in
    let begun = c.begin.new.words in
    let done = c.run_rows-marks.new.words in
    let marks = c.run_rows-marks.result in
    let fits = c.self.invariant.fits in
    let here = begins c p list stands in
    let after : State = record { program = q; words = take (length q.rows) done } in
    let same = (of_fields c.args.self.now (state_of c.self.inside) p list c.self.view_is stands).0 in
    let put = outputs_are q u k begun done fits here c.run_rows-marks.ensures.words in
    let gives : GivesMoment after q list c.args.input.now c.put_out.new.output marks = record {
      stands = stands_further q list c.args.input.now begun done fits here c.run_rows-marks.ensures.words;
      output = c.put_out.ensures ∙ (rw c.outputs.ensures.value put);
      lost = lost_marks q u k begun marks.lost fits here c.run_rows-marks.ensures.lost;
      partial = partial_marks q u k begun marks.partial fits here c.run_rows-marks.ensures.partial;
    } in
    subst (λ (x : Code). GivesMoment after x list c.args.input.now c.put_out.new.output marks) same gives
