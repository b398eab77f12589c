-- The widest denominator is one of a form's net alone.
use Rattle.std.proofs.Common.{ℕ, ◌+◌, ◌-◌, ◌<◌, Bool, true, false, cond, ◌&&◌, eqb, nat_le, nat_lt, List, []}
use Rattle.std.proofs.Common.{◌∷◌, map, filter, length, arith, sym, subst, unsigned_abs}
use Rattle.std.proofs.lemmas.List.Elements.{All-head, All-tail}
use Rattle.fx_nums.specs.Fraction.{Fraction, DenFits, zero_fraction}
use Rattle.fx_eqs.specs.Expanded.{NetRead}
use Rattle.fx_net.specs.Net.{plain}
use Rattle.fx_net.specs.Rows.{reads_now, reads_old, reads_input, coefficient, coefficient_or, row_of, put_rows}
use Rattle.fx_net.specs.Run.{IsDenominator}
use Rattle.fx_net.specs.Running.{widest}
use Rattle.fx_net.proofs.Widest.{divides_widest}
use Rattle.fx_sif.specs.Fits.{CoefficientsFit}
use Rattle.fx_sif.specs.Implicit.{Implicit, rows}
use Rattle.fx_sif.specs.Rows.{on_the_right, term_of, is_in_row, net_row, rows_of}
use Rattle.fx_sif.specs.SameOutputs.{net_alone}
use Rattle.fx_sif.specs.declared.parts.Block.{Block}
use Rattle.fx_sif.specs.declared.parts.Block.TheVariants.{J, K, L, M, N, P, Q, R, S}
use Rattle.fx_sif.specs.declared.parts.Entry.{Entry}
use Rattle.fx_sif.specs.declared.parts.Sizes.{Sizes}
use Rattle.fx_sif.proofs.Summing.{row_is}

-- a coefficient of value 0 is over 10 ^ 0
plain_fits : (c : Fraction) → DenFits c.den → DenFits (plain c).den
plain_fits c h = by_test (eqb (unsigned_abs c.num) 0)
  where
    by_test : (b : Bool) → DenFits (cond b zero_fraction c).den
    by_test true = omega arith
    by_test false = h

-- the other sign has the same denominator
right_fits : (b : Block) (c : Fraction) → DenFits c.den → DenFits (on_the_right b c).den
right_fits J c h = h
right_fits K c h = h
right_fits L c h = h
right_fits M c h = h
right_fits N c h = h
right_fits P c h = h
right_fits Q c h = h
right_fits R c h = h
right_fits S c h = h

-- what the terms of a row take of a source
row_fits : (reads : NetRead → Bool) (s : Sizes) (r : ℕ) (es : List Entry) (c : Fraction) → CoefficientsFit es →
    DenFits c.den → DenFits (coefficient_or c reads (net_row s es r)).den
row_fits reads s r [] c fits h = h
row_fits reads s r (e ∷ es) c fits h =
    let rest : (d : Fraction) → DenFits d.den →
    DenFits (coefficient_or d reads (net_row s es r)).den =
    λ d. row_fits reads s r es d (All-tail (λ (e : Entry). DenFits e.coef.den) e es fits) in
    by_row rest (is_in_row s r e)
  where
    t : Fraction
    t = plain (on_the_right e.block e.coef)

    taken_fits : (b : Bool) → DenFits (cond b t c).den
    taken_fits true = plain_fits (on_the_right e.block e.coef)
        (right_fits e.block e.coef (All-head (λ (e : Entry). DenFits e.coef.den) e es fits))
    taken_fits false = h

    by_row : ((d : Fraction) → DenFits d.den → DenFits (coefficient_or d reads (net_row s es r)).den) → (b : Bool) →
        DenFits (coefficient_or c reads
        (map (term_of s) (cond b (e ∷ filter (is_in_row s r) es) (filter (is_in_row s r) es)))).den
    by_row rest true = rest (cond (reads (term_of s e).from) t c) (taken_fits (reads (term_of s e).from))
    by_row rest false = rest c h

-- what a row of the net alone takes of a source
table_fits : (f : Implicit) (reads : NetRead → Bool) (r : ℕ) (c : Fraction) → CoefficientsFit f.entries →
    r < rows f.sizes →
    DenFits (cond (nat_le 0 r && nat_lt r (0 + length (rows_of f)))
    (coefficient reads (row_of (rows_of f) (r - 0))) c).den
table_fits f reads r c fits h =
    subst (λ (x : Fraction). DenFits x.den) (sym (row_is reads f r c h))
    (row_fits reads f.sizes r f.entries zero_fraction fits (omega arith))

pub form_over_widest : (f : Implicit) → CoefficientsFit f.entries → IsDenominator (net_alone f) widest
unfolding put_rows
form_over_widest f fits = record {
  positive = omega arith;
  now = λ i j h k. divides_widest ((net_alone f).now i j).den (table_fits f (reads_now 0 j) i _ fits h);
  old = λ i j h k. divides_widest ((net_alone f).old i j).den (table_fits f (reads_old 0 j) i _ fits h);
  input = λ i j h k. divides_widest ((net_alone f).input i j).den (table_fits f (reads_input j) i _ fits h);
}
