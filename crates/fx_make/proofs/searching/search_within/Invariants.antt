use Rattle.std.proofs.Common.{◌≡◌, [], take}
use Rattle.std.specs.List.{flat_map}
use Rattle.fx_make.specs.Candidates.{of_guard, tried}
use Rattle.fx_make.specs.Search.{searched}
use Rattle.fx_make.specs.Search.Progress.{AllFailed}
use Rattle.fx_make.proofs.searching.search_within.Given as goal

abbrev pub invariant-loop-i : goal.invariant-loop-i
invariant-loop-i g l =
    searched (tried l.f l.form) (AllFailed [])
    (flat_map (of_guard l.f.settings.fractions l.f.settings.lengths) (take l.i l.f.settings.guards))
    ≡ AllFailed l.fails.items
