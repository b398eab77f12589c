-- What a word is, and that it is a floored sum where the row is exact.
use Rattle.std.proofs.Common.{◌^◌, length, ap, ◌∙◌, arith}
use Rattle.fx_math.specs.Division.{floor_div}
use Rattle.fx_math.specs.Residue.{wrap}
use Rattle.fx_math.specs.Unroll.{last}
use Rattle.fx_math.proofs.Residue.{wrap_fits}
use Rattle.fx_math.proofs.Unroll.{fill_at}
use Rattle.fx_code.specs.Code.{Code, row_at}
use Rattle.fx_code.specs.Fits.{RowFits, CodeFits}
use Rattle.fx_code.specs.Laws.{ExactWords}
use Rattle.fx_code.specs.Run.{word_step}

pub exact_words : (p : Code) → CodeFits p → ExactWords p
exact_words p fits u k i h exact =
    let row : RowFits p.accumulator (row_at p i) = fits.rows i _ h in
    fill_at (λ j now. word_step p u k j now (last (length p.rows) (word_step p u) k)) (length p.rows) i h
    ∙ ap (λ z. wrap (row_at p i).width (floor_div z (2 ^ (row_at p i).own.shift))) exact.sum
    ∙ wrap_fits (row_at p i).width _ (omega arith) exact.store
