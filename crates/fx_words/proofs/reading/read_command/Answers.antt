use Rattle.std.proofs.Common.{◌∙◌, sym, option_map}
use Rattle.clap.specs.contracts.error.kind.ErrorKind.{the_type}
use Rattle.fx_words.specs.Command.{texts}
use Rattle.fx_words.specs.Words.{read_named}
use Rattle.fx_words.proofs.ToolReads.{found_taken, refused}
use Rattle.fx_words.proofs.reading.read_command.Goals as goal
use denote.Enum.Bare.{same_false}

pub returns-in-Ok : goal.returns-in-Ok
returns-in-Ok c =
    found_taken (option_map read_named) c.found.result _ (texts c.args.words.now) c.in-Ok.matches c.in_ok-tool.ensures
    c.in-Ok.ensures.matches c.in-Ok.ensures.kinds c.found.ensures

pub returns : goal.returns
returns c =
    refused _ (texts c.args.words.now) _ c.in_ok-tool.ensures c.in-Err.ensures.kinds
    (λ e. same_false the_type _ _ (sym c.if-eq.ensures) (c.kind.ensures ∙ e))
