use Rattle.std.proofs.Common.{◌-◌, ◌∙◌, sym, length, length-drop, drop, arith}
use Rattle.std.proofs.lemmas.List.{take_all}
use Rattle.fx_files.proofs.SectionsMonic.{monic_section}
use Rattle.fx_files.proofs.lists.+each_monic.Goals as goal

pub returns-else-not-is_one : goal.returns-else-not-is_one
returns-else-not-is_one t c =
    let cs = c.args.coefficients.now in
    let rest = rw (take_all (length cs - 6) (drop 6 cs) (omega (arith, length-drop 6 cs))) at c.each_monic.ensures in
    rw (← monic_section c.args.key c.args.place cs c.first-item.result c.in-len6-up.len_at_least
    c.first-item.is (sym c.is_one.ensures ∙ c.if-not-is_one.false)) rest
