-- What the terms of a design read is in the net that it is put into.
use Rattle.std.proofs.Common.{◌≡◌, ℕ, ◌+◌, ◌<◌, ◌≤◌, List, length, get_or}
use Rattle.fx_net.specs.Rows.{ReadFits}
use Rattle.fx_code.specs.NetRows.{net_read, bare_at}
use Rattle.fx_code.specs.declared.term.CodeTerm.{CodeTerm}
use Rattle.fx_code.proofs.Placing.{source_fits}
use Rattle.fx_quant.specs.Design.{Quantised, DesignFits}

-- what term k of row i reads
pub read_fits : (d : Quantised) (n at i k : ℕ) (ts : List CodeTerm) (t : CodeTerm) → DesignFits d →
    at + length d.rows ≤ n → i < length d.rows → ts ≡ (bare_at d.rows i).terms → k < length ts →
    ReadFits n at i (net_read (get_or ts k t).from)
read_fits d n at i k ts t fits room row same h =
    let below : k < length (bare_at d.rows i).terms = rw (← same) h in
    let source = (fits.reads i row).sources k t below in
    let there = fits.there i row k t below in
    rw same (source_fits n at i d.inputs (length d.rows) (get_or (bare_at d.rows i).terms k t).from source
    there fits.inputs_high room)
