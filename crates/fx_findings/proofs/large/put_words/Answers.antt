use Rattle.std.proofs.Common.{rules, codes, FitsSigned, w64}
use Rattle.std.specs.Int.{w128}
use Rattle.std.specs.Fmt.{signed_decimal}
use Rattle.std.proofs.lemmas.Int.{to_z-of_z}
use Rattle.fx_findings.proofs.Joined.{three_fields}
use Rattle.fx_findings.proofs.large.put_words.Goals as goal

-- all numbers are in the range of their type
pub returns : goal.returns
returns c =
    let s = c.args.summary.now in
    let low : FitsSigned w64 s.least = search rules in
    let high : FitsSigned w64 s.greatest = search rules in
    let all : FitsSigned w128 s.sum = search rules in
    three_fields c.put_field-3.result c.args.text.now.items c.put_field.new.text.items c.put_field-2.new.text.items
    c.put_field-3.new.text.items (codes " least ") (signed_decimal s.least) (codes " greatest ")
    (signed_decimal s.greatest) (codes " sum ") (signed_decimal s.sum)
    (rw (to_z-of_z w64 s.least low) at c.in_ok-put_field.ensures)
    (rw (to_z-of_z w64 s.greatest high) at c.in_ok-put_field-2.ensures)
    (rw (to_z-of_z w128 s.sum all) at c.put_field-3.ensures)
