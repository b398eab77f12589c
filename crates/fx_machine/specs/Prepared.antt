-- Rows as machines keep them, and what they give.
use Rattle.fx_machine.specs.declared.places.TheConstants.{FIRST_INPUT, FIRST_OLD, WORD_COUNT}
use Rattle.fx_code.specs.declared.limits.TheConstants.{LONGEST_SHIFT}
use Rattle.std.specs.Prelude.{◌≡◌, ℕ, ◌+◌, ◌-◌, ◌*◌, ◌^◌, ◌<◌, ◌≤◌, nat_lt, nat_le, nat_eq, cond, Bool, false}
use Rattle.std.specs.Prelude.{true, not, ◌-ℤ◌, ◌||◌, ◌&&◌, ℤ, pos, negsuc, ◌+ℤ◌, ◌*ℤ◌, unsigned_abs}
use Rattle.std.specs.Prelude.{List, [], ◌∷◌, length, map, All, slice_index, slice_index_or}
use Rattle.std.specs.List.{list_any}
use Rattle.fx_math.specs.Division.{floor_div}
use Rattle.fx_math.specs.Residue.{wrap, FitsBits}
use Rattle.fx_math.specs.Words.{WidthFits}
use Rattle.fx_code.specs.Code.{Row, Code, row_at, constant_of, weight}
use Rattle.fx_code.specs.declared.term.CodeTerm.{CodeTerm}
use Rattle.fx_code.specs.declared.term.Read.{Read}
use Rattle.fx_code.specs.declared.term.Read.TheVariants.{Now, Old, In}
use Rattle.fx_machine.specs.declared.prepared.ScaledTerm.{ScaledTerm}
use Rattle.fx_machine.specs.declared.prepared.PreparedRow.{PreparedRow}
use Rattle.fx_machine.specs.declared.prepared.Kind.{Kind}
use Rattle.fx_machine.specs.declared.prepared.Kind.TheVariants.{Copy, Sure, Word, Watched, Wide}
use Rattle.fx_machine.specs.declared.sums.Outcome.{Outcome}

-- ---- places

-- the place of a source among the words: this moment's rows, the rows of the moment before, and the inputs
abbrev pub place_of : Read → ℕ
place_of (Now i) = i
place_of (Old i) = FIRST_OLD + i
place_of (In j) = FIRST_INPUT + j

-- the word at a place
abbrev pub word_in : List ℤ → ℕ → ℤ
word_in words place = slice_index_or words place (pos 0)

-- half of the numbers of these bits
abbrev pub half_of : ℕ → ℕ
half_of bits = 2 ^ (bits - 1)

-- half of the words that a source may have
abbrev pub limit_of : Code → Read → ℕ
limit_of p (Now i) = half_of (row_at p i).width
limit_of p (Old i) = half_of (row_at p i).width
limit_of p (In j) = half_of (slice_index p.inputs j)

-- ---- prepared rows

-- the term at a place
abbrev pub code_term_at : List CodeTerm → ℕ → CodeTerm
code_term_at terms i = slice_index_or terms i (record { coef = pos 0; from = Now 0; left = 0 })

-- a number is 1
abbrev pub is_one : ℤ → Bool
is_one (pos n) = nat_eq n 1
is_one (negsuc n) = false

-- a term is the word of a source that is no wider than these bits
abbrev pub is_word : Code → ℕ → CodeTerm → Bool
is_word p width t = is_one t.coef && (nat_eq t.left 0 && nat_le (limit_of p t.from) (half_of width))

-- a row is the word of one source that is no wider
abbrev pub is_copy : Code → Row → Bool
is_copy p row =
    nat_eq row.own.shift 0 && (nat_eq (length row.own.terms) 1 && is_word p row.width (code_term_at row.own.terms 0))

-- a number is not one of those of which so many lie below 0 and as many from 0 on
abbrev pub is_beyond : ℕ → ℤ → Bool
is_beyond half (pos n) = nat_le half n
is_beyond half (negsuc n) = nat_le half n

-- a number is not one of these bits
abbrev pub is_outside : ℕ → ℤ → Bool
is_outside bits z = is_beyond (half_of bits) z

-- a number lies below 0
abbrev pub is_negative : ℤ → Bool
is_negative (pos n) = false
is_negative (negsuc n) = true

-- how far below 0 a number times a word may lie, and how far above: half of the words lie below 0
abbrev pub depth_of : ℤ → ℕ → ℕ
depth_of weight half = unsigned_abs weight * cond (is_negative weight) (half - 1) half

abbrev pub height_of : ℤ → ℕ → ℕ
height_of weight half = unsigned_abs weight * cond (is_negative weight) half (half - 1)

-- the same of a sum of terms
abbrev pub depth : Code → List CodeTerm → ℕ
depth p [] = 0
depth p (t ∷ ts) = depth_of (weight t) (limit_of p t.from) + depth p ts

abbrev pub height : Code → List CodeTerm → ℕ
height p [] = 0
height p (t ∷ ts) = height_of (weight t) (limit_of p t.from) + height p ts

-- the least and the greatest sum of a row, floored by its shift
abbrev pub least : Code → Row → ℤ
least p row = floor_div (pos (constant_of row.own) -ℤ pos (depth p row.own.terms)) (2 ^ row.own.shift)

abbrev pub most : Code → Row → ℤ
most p row = floor_div (pos (constant_of row.own + height p row.own.terms)) (2 ^ row.own.shift)

-- both are words of the row
abbrev pub is_sure : Code → Row → Bool
is_sure p row = not (is_outside row.width (least p row) || is_outside row.width (most p row))

-- the kind of a row that is no copy, by the greatest magnitude of its sums, over accumulators of these bits: none
-- leaves the accumulator, none leaves 62 bits, or some may
unfoldable pub sum_kind : ℕ → ℕ → Kind → Kind
sum_kind bits sum kept = cond (nat_lt sum (half_of bits)) kept (cond (nat_lt sum (2 ^ 61)) Watched Wide)

-- the kind of a row whose sums stay within the accumulator
abbrev pub kept_kind : Code → Row → Kind
kept_kind p row = cond (is_sure p row) Sure Word

-- the greatest sum of the magnitudes of terms
abbrev pub greatest : Code → List CodeTerm → ℕ
greatest p [] = 0
greatest p (t ∷ ts) = unsigned_abs (weight t) * limit_of p t.from + greatest p ts

abbrev pub scaled : CodeTerm → ScaledTerm
scaled t = record { multiplier = weight t; place = place_of t.from }

abbrev pub kind_of : Code → Row → Kind
kind_of p row =
    cond (is_copy p row) Copy
    (sum_kind p.accumulator (constant_of row.own + greatest p row.own.terms) (kept_kind p row))

-- what a row needs to be computed
pub record Plan : Type 0 where
  pub accumulator : ℕ
  pub width : ℕ
  pub half : ℕ
  pub shift : ℕ
  pub kind : Kind
  pub constant : ℤ
  pub terms : List ScaledTerm

-- of a prepared row
abbrev pub plan_of : PreparedRow → Plan
plan_of r =
    record {
      accumulator = r.accumulator;
      width = r.width;
      half = r.half;
      shift = r.shift;
      kind = r.kind;
      constant =
          r.constant;
      terms = r.terms.items;
    }

-- of a row of a program
abbrev pub plan_for : Code → Row → Plan
plan_for p row =
    record {
      accumulator = p.accumulator;
      width = row.width;
      half = half_of row.width;
      shift = row.own.shift;
      kind = kind_of p row;
      constant = pos (constant_of row.own);
      terms = map scaled row.own.terms;
    }

-- ---- sums over the words

abbrev pub scaled_sum : List ℤ → List ScaledTerm → ℤ
scaled_sum words [] = pos 0
scaled_sum words (t ∷ ts) = t.multiplier *ℤ word_in words t.place +ℤ scaled_sum words ts

-- the sums after a sum as the terms are added one by one
abbrev pub later_sums : ℤ → List ℤ → List ScaledTerm → List ℤ
later_sums sum words [] = []
later_sums sum words (t ∷ ts) =
    (sum +ℤ t.multiplier *ℤ word_in words t.place) ∷ later_sums (sum +ℤ t.multiplier *ℤ word_in words t.place) words ts

-- the sum of the magnitudes
abbrev pub magnitudes : List ℤ → List ScaledTerm → ℕ
magnitudes words [] = 0
magnitudes words (t ∷ ts) = unsigned_abs t.multiplier * unsigned_abs (word_in words t.place) + magnitudes words ts

-- ---- what a row gives

abbrev pub sum_of : Plan → List ℤ → ℤ
sum_of plan words = plan.constant +ℤ scaled_sum words plan.terms

-- the accumulator as it is read
abbrev pub read_of : Plan → List ℤ → ℤ
read_of plan words = wrap plan.accumulator (sum_of plan words)

abbrev pub floor_of : Plan → List ℤ → ℤ
floor_of plan words = floor_div (read_of plan words) (2 ^ plan.shift)

abbrev pub word_of : Plan → List ℤ → ℤ
word_of plan words = wrap plan.width (floor_of plan words)

-- a sum on the way is not one of the accumulator's bits
abbrev pub is_partial : Plan → List ℤ → Bool
is_partial plan words = list_any (is_outside plan.accumulator)
    (plan.constant ∷ later_sums plan.constant words plan.terms)

-- the accumulator is not read as the sum, or the floored value is not one of the word's bits
abbrev pub is_lost : Plan → List ℤ → Bool
is_lost plan words = is_outside plan.accumulator (sum_of plan words) || is_outside plan.width (floor_of plan words)

-- a row's word and marks are those of its plan
pub record Gives (plan : Plan) (words : List ℤ) (given : Outcome) : Type 0 where
  pub word : given.word ≡ word_of plan words
  pub partial : given.partial ≡ is_partial plan words
  pub lost : given.lost ≡ is_lost plan words
  pub marked : given.marked ≡ false → (given.partial ≡ false) × (given.lost ≡ false)

-- ---- what a row stands on

-- the place of the first word that a plan takes
abbrev pub first_place : List ScaledTerm → ℕ
first_place [] = 0
first_place (t ∷ ts) = t.place

-- the sum is one word, which is kept as it is
pub record IsCopy (plan : Plan) (words : List ℤ) : Type 0 where
  pub shift : plan.shift ≡ 0
  pub constant : plan.constant ≡ pos 0
  pub terms : plan.terms ≡ record { multiplier = pos 1; place = first_place plan.terms } ∷ []
  pub kept : plan.width ≤ plan.accumulator
  pub word : FitsBits plan.width (word_in words (first_place plan.terms))

-- what holds of the magnitude of the sums of a row
abbrev pub Suits : Kind → Plan → List ℤ → Type 0
Suits Copy plan words = IsCopy plan words
Suits Sure plan words =
    (unsigned_abs plan.constant + magnitudes words plan.terms < half_of plan.accumulator)
    × (is_outside plan.width (floor_div (sum_of plan words) (2 ^ plan.shift)) ≡ false)
Suits Word plan words = unsigned_abs plan.constant + magnitudes words plan.terms < half_of plan.accumulator
Suits Watched plan words =
    (unsigned_abs plan.constant + magnitudes words plan.terms < 2 ^ 61) × (plan.accumulator < 62)
Suits Wide plan words = unsigned_abs plan.constant + magnitudes words plan.terms < 2 ^ 126

-- a plan that can be computed over these words
pub record CanRun (plan : Plan) (words : List ℤ) : Type 0 where
  pub accumulator_low : 16 ≤ plan.accumulator
  pub accumulator_high : plan.accumulator ≤ 64
  pub width : WidthFits plan.width
  pub half : plan.half ≡ half_of plan.width
  pub shift : plan.shift ≤ LONGEST_SHIFT
  pub count : length words ≡ WORD_COUNT
  pub places : All (λ (t : ScaledTerm). t.place < WORD_COUNT) plan.terms
  pub kind : Suits plan.kind plan words
