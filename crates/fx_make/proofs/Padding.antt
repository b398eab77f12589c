-- The net of a candidate's rows and a filter's expanded rows, with empty rows behind.
use Rattle.std.proofs.Common.{ℕ, ◌≤◌, length, map, refl, sym, subst}
use Rattle.std.proofs.lemmas.List.{get_or_default}
use Rattle.std.proofs.lemmas.List.Elements.{All-map}
use Rattle.fx_eqs.specs.Fits.{EquationsFit}
use Rattle.fx_code.specs.Code.{BareRow, no_bare_row}
use Rattle.fx_code.specs.NetRows.{bare_at, net_row}
use Rattle.fx_files.specs.Filter.{Filter}
use Rattle.fx_totals.specs.Padding.{IsPadded}
use Rattle.fx_block.specs.Candidate.{candidate_count, candidate_net}
use Rattle.fx_block.proofs.Padding as block
use Rattle.fx_block.proofs.Padding.{AreBelow, RowsBelow, bare_row_below}
use Rattle.fx_quant.specs.Design.{DesignFits, Quantised}
use Rattle.fx_make.specs.Targets.{padded_net}

design_below : (d : Quantised) → DesignFits d → RowsBelow (length d.rows) (map net_row d.rows)
design_below d fits =
    All-map (AreBelow (length d.rows)) net_row d.rows (λ i e l.
    subst (λ (r : BareRow). AreBelow (length d.rows) (net_row r))
    (sym (get_or_default d.rows i e no_bare_row l))
    (bare_row_below (length d.rows) (bare_at d.rows i) (fits.there i l)))

pub is_padded : (f : Filter) (d : Quantised) (n : ℕ) → DesignFits d → EquationsFit f.equations →
    candidate_count f d.rows ≤ n → IsPadded (candidate_net f d.rows) (padded_net n f d.rows)
is_padded f d n fits system room =
    block.is_padded d.rows f.equations (length d.rows) (candidate_count f d.rows) n refl (design_below d fits) system
    refl room
