use Rattle.std.proofs.Common.{◌∙◌, ◌<◌, FitsSigned, arith, rules, w64}
use Rattle.std.proofs.lemmas.Int.{to_z-of_z}
use Rattle.fx_eqs.specs.declared.limits.TheConstants.{PORTS}
use Rattle.fx_net.specs.Tables.{net_of}
use Rattle.fx_gain.proofs.Made.{words_are}
use Rattle.fx_gain.proofs.block.Block.worst_words.Goals as goal

pub returns : goal.returns
returns g c =
    let fits : FitsSigned w64 c.bound_of.result = search rules in
    let port : c.args.j < PORTS = omega (arith, c.requires.input, c.filters_fit.ensures.inputs_high) in
    c.in_ok-words.ensures
    ∙ words_are (net_of c.args.self.now.net.now) c.args.self.now.filter.now c.args.self.now.moments c.args.o c.args.j
    c.args.weights.now c.requires.weights port _ (to_z-of_z w64 c.bound_of.result fits ∙ c.bound_of.ensures.value)
