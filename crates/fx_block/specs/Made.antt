-- What is made of a candidate that passes: a program with its rows, and a certificate with its bounds.
use Rattle.std.specs.Prelude.{◌≡◌, ℕ, ◌+◌, ◌<◌, pos, List, length, slice_index}
use Rattle.fx_msb.specs.Widths.{IsLeastWidth}
use Rattle.fx_files.specs.Filter.{Filter}
use Rattle.fx_code.specs.Code.{BareRow, Code, row_at}
use Rattle.fx_code.specs.Fits.{CodeFits}
use Rattle.fx_code.specs.NetRows.{bare_rows}
use Rattle.fx_cert.specs.Certificate.{Certificate}
use Rattle.fx_block.specs.Candidate.{candidate_count, candidate_net, candidate_total, inner_count, trial}
use Rattle.fx_block.specs.Candidate.Trial.{Passed}
use Rattle.fx_block.specs.Formats.{bound_of, input_at, output_at}
use Rattle.fx_block.specs.Least.{AreLeastBounds}
use Rattle.fx_block.specs.Passes.{Passes, bound_at, error_at}

-- The program has these rows over the filter's accumulators, inputs and outputs: the last rows are put out, in the
-- words of the outputs, and the words of the others have the least width that takes their bounds x.
pub record IsProgramOf (filter : Filter) (rows : List BareRow) (x : ℕ → ℕ) (p : Code) : Type 0 where
  pub rows_are : bare_rows p ≡ rows
  pub accumulator : p.accumulator ≡ filter.settings.accumulator
  pub inputs : length p.inputs ≡ length filter.inputs
  pub input_widths : (j : ℕ) → j < length filter.inputs → slice_index p.inputs j ≡ (input_at filter j).width
  pub outputs : length p.outputs ≡ length filter.outputs
  pub places : (o : ℕ) → o < length filter.outputs → slice_index p.outputs o ≡ inner_count filter rows + o
  pub output_widths : (o : ℕ) → o < length filter.outputs →
      (row_at p (inner_count filter rows + o)).width ≡ (output_at filter o).width
  pub inner_widths : (i : ℕ) → i < inner_count filter rows → IsLeastWidth (pos (x i)) (row_at p i).width

-- The certificate has the bounds x, and for each output the total of its pair after as many moments as its length.
pub record IsCertificateOf (filter : Filter) (rows : List BareRow) (moments : ℕ) (x : ℕ → ℕ) (c : Certificate) : Type 0
  where
    pub length_is : c.length ≡ moments
    pub bound_count : length c.bounds ≡ candidate_count filter rows
    pub bounds : (j : ℕ) → bound_at c j ≡ x j
    pub error_count : length c.errors ≡ length filter.outputs
    pub errors : (o : ℕ) → o < length filter.outputs → error_at c o ≡ candidate_total filter rows moments x o

-- what is made of a candidate that passes after some moments passes
abbrev pub CandidatesPass : Type 0
CandidatesPass =
    (filter : Filter) (rows : List BareRow) (moments : ℕ) (x : ℕ → ℕ) (p : Code) (c : Certificate) →
    0 < moments → trial filter rows moments ≡ Passed x → CodeFits p → IsProgramOf filter rows x p →
    IsCertificateOf filter rows moments x c → Passes filter p c

-- the bounds with which a candidate passes are the least of all that serve after so many moments
abbrev pub PassedBoundsAreLeast : Type 0
PassedBoundsAreLeast =
    (filter : Filter) (rows : List BareRow) (moments : ℕ) (x : ℕ → ℕ) → 0 < moments →
    trial filter rows moments ≡ Passed x →
    AreLeastBounds (candidate_net filter rows) (candidate_count filter rows) (λ j. moments) (bound_of filter) x
