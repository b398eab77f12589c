use Rattle.fx_words.proofs.Completeness.{commands_are_whole, faultless_is_command, faulty_is_none, plain_is_command}
use Rattle.fx_words.proofs.PlainForm.{clap_agrees}
use Rattle.fx_words.proofs.reading.words_are_a_command.Goals as goal

pub returns-clause-plain : goal.returns-clause-plain
returns-clause-plain c = plain_is_command

pub returns-clause-faultless : goal.returns-clause-faultless
returns-clause-faultless c = faultless_is_command

pub returns-clause-faulty : goal.returns-clause-faulty
returns-clause-faulty c = faulty_is_none

pub returns-clause-whole : goal.returns-clause-whole
returns-clause-whole c = commands_are_whole

pub returns-clause-clap : goal.returns-clause-clap
returns-clause-clap c = clap_agrees
