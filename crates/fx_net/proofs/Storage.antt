-- What the sparse tables of a net keep.
use Rattle.std.proofs.Common.{ℕ, arith}
use Rattle.fx_mat.specs.Entries.{IsZeroOutside}
use Rattle.fx_cross.specs.Table.{Table, HasPlaces, entry_at}
use Rattle.fx_net.specs.Tables.{HoldsAll}

pub zero_outside : (t : Table) (rows columns : ℕ) → HasPlaces t → HoldsAll t rows columns →
    IsZeroOutside rows columns (entry_at t)
zero_outside t rows columns places holds = record {
  below_rows = λ i j h. places.outside.below_rows i j (omega (arith, holds.rows_are, h));
  past_columns = λ i j h. places.outside.past_columns i j (omega (arith, holds.columns_are, h));
}
