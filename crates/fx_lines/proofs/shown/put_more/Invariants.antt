use Rattle.std.proofs.Common.{◌≡◌, ◌++◌, drop, codes}
use Rattle.std.specs.List.{flat_map}
use Rattle.fx_lines.specs.Filter.{term_text}
use Rattle.fx_lines.proofs.shown.put_more.Given as goal

abbrev pub invariant-loop-term : goal.invariant-loop-term
invariant-loop-term l =
    l.text.items ++ flat_map (λ t. codes "; " ++ term_text t) (drop l.term-index l.terms)
    ≡ l.fn.text.items ++ flat_map (λ t. codes "; " ++ term_text t) l.terms
