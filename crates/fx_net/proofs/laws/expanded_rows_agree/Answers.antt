use Rattle.std.proofs.Common.{subst, arith, ◌*◌, ◌≡◌}
use Rattle.fx_eqs.specs.Denominator.{DividesEach, common}
use Rattle.fx_net.proofs.Agreement.{all_agree}
use Rattle.fx_net.proofs.laws.expanded_rows_agree.Goals as goal

pub returns : goal.returns
returns c = λ eqs a b at place q p u y z fits one other k r h.
    let g = common eqs in
    let common_is = c.common_divides_each.ensures eqs in
    let once : g * 1 ≡ g = omega arith in
    let divides = subst (λ n. DividesEach n eqs.terms) once (common_is.1 1) in
    let exact = c.expanded_rows_have_the_exact_values.ensures.rows eqs in
    all_agree eqs g a b at place q p u y z common_is.0
    (exact a at q g u y fits one.holds one.denominator divides one.unperturbed)
    (exact b place p g u z fits other.holds other.denominator divides other.unperturbed) k r h
