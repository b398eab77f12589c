-- The designs of a form with few entries fit a program.
use Rattle.std.proofs.Common.{◌≡◌, ℕ, ◌<◌, ◌≤◌, List, length, Ok, arith, sym, ap, subst, ◌∙◌, All}
use Rattle.std.proofs.lemmas.List.{length-map}
use Rattle.fx_code.specs.Code.{BareRow, OldIsThere}
use Rattle.fx_code.specs.Fits.{ReadsFit}
use Rattle.fx_code.specs.NetRows.{bare_at}
use Rattle.fx_code.specs.declared.limits.TheConstants.{CODE_TERMS}
use Rattle.fx_code.specs.declared.term.CodeTerm.{CodeTerm}
use Rattle.fx_sif.specs.Fits.{ImplicitFits}
use Rattle.fx_sif.specs.Implicit.{Implicit, rows}
use Rattle.fx_quant.specs.Design.{Quantised, BareFits, DesignFits, sized}
use Rattle.fx_quant.specs.Positions.{Grid, grid}
use Rattle.fx_quant.specs.Quantised.{form_net, net_rows, quantised}
use Rattle.fx_quant.specs.Rows.{kept_terms, quantised_row, bare_row, code_term, shift_of}
use Rattle.fx_quant.specs.declared.formats.Formats.{Formats}
use Rattle.fx_quant.proofs.CountingTerms.{terms_within}
use Rattle.fx_quant.proofs.FittingRows.{bare_fits, reads_fit, reads_there}
use Rattle.fx_quant.proofs.RowByRow.{both, rows_each, row_is_bare}

rows_fit : (f : Implicit) (formats : Formats) (g : Grid) (bare : List BareRow) → ImplicitFits f →
    length f.entries ≤ CODE_TERMS → net_rows formats g (form_net f) (rows f.sizes) f.sizes.u ≡ Ok bare →
    DesignFits (record { accumulator = formats.accumulator; inputs = f.sizes.u; rows = bare })
rows_fit f formats g bare fits few e =
    let n = rows f.sizes in
    let u = f.sizes.u in
    let all = rows_each (λ i. quantised_row formats i (kept_terms g (form_net f) n u i)) n bare e in
    let row : (i : ℕ) → i < length bare →
    _ = λ i h. row_is_bare formats i (kept_terms g (form_net f) n u i) (bare_at bare i)
    (all.each i (omega (arith, h, all.count))) in
    record {
      inputs_low = fits.inputs_low;
      inputs_high = fits.inputs_high;
      rows_high = omega (arith, all.count, fits.rows_high);
      rows = λ i h. subst (BareFits formats.accumulator) (sym (row i h).1)
          (bare_fits formats.accumulator formats.mode i (kept_terms g (form_net f) n u i) (row i h).0);
      reads = λ i h. subst (λ r. ReadsFit i u (sized 0 r)) (sym (row i h).1)
          (reads_fit formats.mode g (form_net f) n u i (omega (arith, h, all.count)) fits.rows_high);
      there = λ i h. subst (λ r. All (λ (t : CodeTerm). OldIsThere (length bare) t.from) r.terms) (sym (row i h).1)
          (subst (λ k. All (λ (t : CodeTerm). OldIsThere k t.from)
          (bare_row formats.mode (kept_terms g (form_net f) n u i)).terms)
          (sym all.count) (reads_there formats.mode g (form_net f) n u i));
      few = omega (
        arith,
        few,
        terms_within g f
            (λ i. quantised_row formats i (kept_terms g (form_net f) n u i)) u bare
            (λ i r l k. ap (λ (x : BareRow). length x.terms)
            (row_is_bare formats i (kept_terms g (form_net f) n u i) r k).1
            ∙ length-map (kept_terms g (form_net f) n u i) (code_term (shift_of (kept_terms g (form_net f) n u i)))) e,
      );
    }

pub designs_fit : (f : Implicit) (formats : Formats) (guards : List ℕ) (fraction : ℕ) (d : Quantised) →
    ImplicitFits f → quantised f formats guards fraction ≡ Ok d → length f.entries ≤ CODE_TERMS → DesignFits d
designs_fit f formats guards fraction d fits e few =
    let p = both (net_rows formats (grid formats guards f.sizes.y fraction) (form_net f) (rows f.sizes)
    f.sizes.u) _ d e in
    let same : record { accumulator = formats.accumulator; inputs = f.sizes.u; rows = p.0 } ≡ d = cc in
    subst DesignFits same
    (rows_fit f formats (grid formats guards f.sizes.y fraction) p.0 fits few p.1)
