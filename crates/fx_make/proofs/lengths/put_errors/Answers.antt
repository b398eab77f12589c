use Rattle.std.proofs.Common.{rules, ◌≡◌, ◌<◌, ap, ap₂, sym, ◌∙◌, subst, arith, false, true, length, length-set}
use Rattle.std.proofs.Common.{FitsSigned, to_z, of_z, to_z-of_z}
use Rattle.std.proofs.Math.IntN.{ℤ, pos}
use Rattle.std.specs.Int.{w128}
use Rattle.std.specs.Int.Signed.{◌≤ℤ◌, ◌<ℤ◌, lt_z}
use Rattle.std.specs.Prelude.{Some}
use Rattle.std.proofs.lemmas.Int.{ints}
use Rattle.fx_files.specs.declared.formats.OutputFormat.{OutputFormat}
use Rattle.fx_block.specs.Formats.{output_at}
use Rattle.fx_totals.specs.Kept.{bound_in}
use Rattle.fx_make.specs.Lengths.{above_fail, kept_pairs}
use Rattle.fx_make.specs.declared.fail.Fail.TheVariants.{Error}
use Rattle.fx_block.proofs.Places.{first_more}
use Rattle.fx_make.proofs.Telling.{first_found, none_yet}
use Rattle.fx_make.proofs.lengths.put_errors.Goals as goal

pub returns-then-total-target-clause-told : goal.returns-then-total-target-clause-told
returns-then-total-target-clause-told g c =
    let f = c.args.f.now in
    let total = kept_pairs f c.args.d.now.rows c.args.totals.now (bound_in c.args.x.now) in
    let o = c.loop-o.o in
    let total_fits : FitsSigned w128 c.pair_total-total.result = search rules in
    let target_fits : FitsSigned w128 c.output-target.result.target = search rules in
    let same : c.output-target.result.target ≡ (output_at f o).target =
    ap (λ (format : OutputFormat). format.target) c.output-target.ensures.value in
    let test : lt_z c.output-target.result.target c.pair_total-total.result ≡ true =
    subst (λ z. lt_z c.output-target.result.target z ≡ true) (to_z-of_z total_fits)
    (subst (λ z. lt_z z (to_z w128 (of_z w128 c.pair_total-total.result)) ≡ true)
    (to_z-of_z target_fits) c.if-total-target.true) in
    let value = c.pair_total-total.ensures.value in
    let above : (output_at f o).target <ℤ total o = omega (arith, ints, test, same, value) in
    let inside : o < length f.outputs = (let count = c.output_count-o-end.ensures.value in
    let below = c.loop-o-test.true in omega (arith, count, below)) in
    rw (to_z-of_z total_fits, to_z-of_z target_fits)
    (ap₂ (λ (a b : ℤ). Some (Error o a b)) value same
    ∙ sym (ap (above_fail f total) (first_found o (length f.outputs) total (λ k. (output_at f k).target) inside
    c.loop-o.invariant.none above)))

pub loop-o-preserved : goal.loop-o-preserved
loop-o-preserved g c =
    let f = c.args.f.now in
    let total = kept_pairs f c.args.d.now.rows c.args.totals.now (bound_in c.args.x.now) in
    let o = c.loop-o.o in
    let total_fits : FitsSigned w128 c.pair_total-total.result = search rules in
    let target_fits : FitsSigned w128 c.output-target.result.target = search rules in
    let same : c.output-target.result.target ≡ (output_at f o).target =
    ap (λ (format : OutputFormat). format.target) c.output-target.ensures.value in
    let test : lt_z c.output-target.result.target c.pair_total-total.result ≡ false =
    subst (λ z. lt_z c.output-target.result.target z ≡ false) (to_z-of_z total_fits)
    (subst (λ z. lt_z z (to_z w128 (of_z w128 c.pair_total-total.result)) ≡ false)
    (to_z-of_z target_fits) c.if-total-target.false) in
    let value = c.pair_total-total.ensures.value in
    let within : total o ≤ℤ (output_at f o).target = omega (arith, ints, test, same, value) in
    let inside : o < length c.loop-o.e = (let count = c.output_count-o-end.ensures.value in
    let below = c.loop-o-test.true in
    let long = c.loop-o.invariant.long in omega (arith, count, below, long)) in
    rw (to_z-of_z total_fits) (record {
      long = length-set c.loop-o.e o c.pair_total-total.result ∙ c.loop-o.invariant.long;
      first =
          first_more (pos 0) c.loop-o.e o c.pair_total-total.result total inside c.loop-o.invariant.first value;
      none =
          none_yet o total (λ k. (output_at f k).target) c.loop-o.invariant.none within;
    })
