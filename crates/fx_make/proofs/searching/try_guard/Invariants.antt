use Rattle.std.proofs.Common.{◌≡◌, take}
use Rattle.std.specs.List.{flat_map}
use Rattle.fx_make.specs.Candidates.{of_fraction, tried}
use Rattle.fx_make.specs.Search.{searched}
use Rattle.fx_make.specs.Search.Progress.{AllFailed}
use Rattle.fx_make.proofs.searching.try_guard.Given as goal

abbrev pub invariant-loop-i : goal.invariant-loop-i
invariant-loop-i g l =
    searched (tried l.f l.form) (AllFailed l.fn.fails.items)
    (flat_map (of_fraction l.f.settings.lengths l.guard) (take l.i l.f.settings.fractions)) ≡ AllFailed l.fails.items
