-- The parts of a total in the padded net are those in the net of a program and a filter.
use Rattle.std.proofs.Common.{◌≡◌, ◌⊎◌, ℕ, ◌<◌, ◌≤◌, List, length, get_or, arith, ap, ap₂, sym, ◌∙◌, inl, inr}
use Rattle.std.proofs.Math.IntN.{◌+ℤ◌}
use Rattle.std.proofs.lemmas.Bool.{cases_lt, cond-true, cond-false, lt-ltb, le-ltb}
use Rattle.std.proofs.lemmas.List.{get_or_default, same_lists}
use Rattle.fx_eqs.specs.declared.limits.TheConstants.{PORTS}
use Rattle.fx_nums.specs.Interval.{Interval}
use Rattle.fx_net.specs.Net.{Net}
use Rattle.fx_totals.specs.Padding.{HasSameNumbers}
use Rattle.fx_totals.specs.Totals.{input_part, rest_part, rounding, width_part}
use Rattle.fx_files.specs.Filter.{Filter}
use Rattle.fx_code.specs.Code.{Code}
use Rattle.fx_cert.specs.Certificate.{Certificate}
use Rattle.fx_error.specs.PartsOf.{ArePartsOf}
use Rattle.fx_error.specs.declared.parts.Parts.{Parts}
use Rattle.fx_check.specs.Report.{no_parts, output_parts, parts_at, parts_of}
use Rattle.fx_block.proofs.Places.{listed_at, listed_length}

-- parts of the same numbers
same_parts : (p q : Parts) → p.rounding ≡ q.rounding → p.difference ≡ q.difference → p.rest ≡ q.rest → p ≡ q
same_parts p q a b c =
    ap (λ x. (let r : Parts = record { rounding = x; difference = p.difference; rest = p.rest } in r)) a
    ∙ ap₂ (λ x y. (let r : Parts = record { rounding = q.rounding; difference = x; rest = y } in r)) b c

pub parts_are : (a b : Net) (start : ℕ → Interval) (m : ℕ) (bounds rows : ℕ → ℕ) → HasSameNumbers a b start m →
    (parts : Parts) → ArePartsOf b start m bounds rows parts → parts ≡ record {
      rounding = rounding a start m;
      difference = input_part a start m bounds +ℤ width_part a start m rows;
      rest = rest_part a start m rows;
    }
parts_are a b start m bounds rows same parts h =
    same_parts parts (record {
      rounding = rounding a start m;
      difference = input_part a start m bounds +ℤ width_part a start m rows;
      rest = rest_part a start m rows;
    }) (h.rounding_is ∙ sym same.roundings)
    (h.difference_is ∙ sym (ap₂ (λ x y. x +ℤ y) (same.input_parts bounds) (same.width_parts rows)))
    (h.rest_is ∙ sym (same.rest_parts rows))

-- a list with the parts of the outputs, and none behind them
pub parts_listed : (filter : Filter) (p : Code) (c : Certificate) (parts : List Parts) (n : ℕ) →
    n ≡ length filter.outputs → length parts ≡ PORTS →
    ((k : ℕ) → k < n → get_or parts k no_parts ≡ parts_at filter p c k) →
    ((k : ℕ) → n ≤ k → get_or parts k no_parts ≡ no_parts) → parts ≡ parts_of filter p c
parts_listed filter p c parts n outputs long first behind =
    same_lists parts (parts_of filter p c) (long ∙ sym (listed_length PORTS (output_parts filter p c))) (λ k e l.
    (let inside : k < PORTS = omega (arith, long, l) in
    get_or_default parts k e no_parts l ∙ by_place k (cases_lt k (length filter.outputs))
    ∙ sym (listed_at PORTS (output_parts filter p c) k e inside)))
  where
    by_place : (k : ℕ) → (k < length filter.outputs) ⊎ (length filter.outputs ≤ k) →
        get_or parts k no_parts ≡ output_parts filter p c k
    by_place k (inl below) =
        first k (omega (arith, outputs, below)) ∙ sym (cond-true _ _ _ (lt-ltb k (length filter.outputs) below))
    by_place k (inr past) =
        behind k (omega (arith, outputs, past)) ∙ sym (cond-false _ _ _ (le-ltb k (length filter.outputs) past))
