use Rattle.std.proofs.Common.{◌≡◌, ◌++◌, map, take}
use Rattle.fx_quant.specs.Positions.{guarded}
use Rattle.fx_quant.proofs.form.add_guarded.Given as goal

abbrev pub invariant-loop-guard : goal.invariant-loop-guard
invariant-loop-guard l =
    l.lows.items ≡ l.fn.lows.items ++ map (guarded l.formats.input_low) (take l.guard-index l.guards)
