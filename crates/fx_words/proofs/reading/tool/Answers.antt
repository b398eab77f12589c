use Rattle.std.proofs.Common.{◌≡◌, IfOk, subst}
use Rattle.clap.specs.Words.{app_of}
use Rattle.fx_words.specs.Words.{tool_app, with_verbs}
use Rattle.fx_words.specs.declared.command.TheConstants.{VERBS}
use Rattle.fx_words.proofs.reading.tool.Goals as goal

pub returns : goal.returns
unfolding tool_app
returns c =
    subst (λ a. IfOk c.with_verbs.result (λ k. app_of k ≡ with_verbs VERBS a)) c.bare_tool.ensures c.with_verbs.ensures
