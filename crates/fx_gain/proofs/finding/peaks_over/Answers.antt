use Rattle.std.proofs.Common.{◌≡◌, ◌∙◌, ◌+◌, ◌*◌, List, [], ◌∷◌, Vec, Global, length, map, ap, arith, subst, inl, inr}
use Rattle.std.proofs.Common.{get_or, sym}
use Rattle.std.proofs.Math.IntN.{ℤ}
use Rattle.std.proofs.lemmas.Bool.{cases_lt}
use Rattle.fx_math.specs.Sums.{joined}
use Rattle.fx_mat.specs.Intervals.{interval_at}
use Rattle.fx_net.specs.Tables.{net_of}
use Rattle.fx_gain.specs.Enclosing.{enclosure, worst_words}
use Rattle.fx_gain.proofs.Placed.{grid_at, length_grid, one_more_row}
use Rattle.fx_gain.proofs.finding.peaks_over.Goals as goal

pub loop-o-preserved : goal.loop-o-preserved
loop-o-preserved g c =
    let net = net_of c.args.block.now.net.now in
    let f = c.args.block.now.filter.now in
    let m = c.args.block.now.moments in
    let n = length f.inputs in
    let o = c.loop-o.o in
    let new = interval_at c.add_output.new.intervals in
    let view : Vec ℤ Global → List ℤ = λ w. w.items in
    record {
      here = λ p k l h. elim (cases_lt p o) [
        | inl below ↦ c.in_ok-add_output.ensures.others p k (λ e. omega (arith, e, below))
            ∙ c.loop-o.invariant.here p k below h
        | inr from ↦ (let same : o ≡ p = omega (arith, l, from) in
            subst (λ q. new q k ≡ enclosure net f m q k) same (c.in_ok-add_output.ensures.here k h))
      ];
      words = one_more_row o (λ p. joined n (λ k. worst_words net f m p k ∷ [])) (map view c.loop-o.words.items)
          (map view c.add_output.new.words.items) c.loop-o.invariant.words c.in_ok-add_output.ensures.words;
    }

pub invariant_of-result : goal.invariant_of-result
invariant_of-result g c =
    let net = net_of c.args.block.now.net.now in
    let f = c.args.block.now.filter.now in
    let m = c.args.block.now.moments in
    let all : c.loop-o.o ≡ length c.outputs-outputs.result.now =
    omega (arith, c.loop-o-test.false, c.loop-o.auto.o-end) in
    let inputs : length c.inputs.result.now ≡ length f.inputs = ap length c.inputs.ensures.value in
    let grid = ap length c.loop-o.invariant.words ∙ length_grid c.loop-o.o (length f.inputs) (λ p k.
    worst_words net f m p k) in
    record {
      few_outputs = c.outputs-outputs.ensures.high;
      few_inputs = c.inputs.ensures.high;
      count = grid ∙ ap (λ i. i * length f.inputs) all
          ∙ ap (λ i. length c.outputs-outputs.result.now * i) (sym inputs);
    }

pub returns : goal.returns
returns g c =
    let net = net_of c.args.block.now.net.now in
    let f = c.args.block.now.filter.now in
    let m = c.args.block.now.moments in
    let n = length f.inputs in
    let outputs : length c.outputs-outputs.result.now ≡ length f.outputs = ap length c.outputs-outputs.ensures.value in
    let inputs : length c.inputs.result.now ≡ length f.inputs = ap length c.inputs.ensures.value in
    let all : c.loop-o.o ≡ length c.outputs-outputs.result.now =
    omega (arith, c.loop-o-test.false, c.loop-o.auto.o-end) in
    record {
      serves = c.requires.serves;
      outputs_are = outputs;
      inputs_are = inputs;
      intervals_are = λ o j l h. c.loop-o.invariant.here o j (omega (arith, l, all, outputs)) h;
      words_are = λ o j l h.
          ap (λ (ws : List (List ℤ)). get_or ws (o * length c.inputs.result.now + j) []) c.loop-o.invariant.words
          ∙ ap (λ i. get_or (joined c.loop-o.o (λ p. joined n (λ k. worst_words net f m p k ∷ []))) (o * i + j)
          []) inputs
          ∙ grid_at c.loop-o.o n o j (λ p k. worst_words net f m p k) [] (omega (arith, l, all, outputs)) h;
    }
