-- The lines of a text.
use Rattle.std.specs.Prelude.{ℕ, ◌≡◌, ◌≤◌, ◌==◌, ◌&&◌, Bool, true, false, not, List, [], ◌∷◌, ◌++◌, length}
use Rattle.std.specs.Prelude.{if◌then◌else◌}

-- a line's bytes, and whether a line feed ends it
pub record TextLine : Type 0 where
  pub text : List ℕ
  pub ended : Bool

abbrev pub line_feed : ℕ
line_feed = 10

-- the lines with a byte in front of the first
abbrev pub in_line : ℕ → List TextLine → List TextLine
in_line c [] = record { text = c ∷ []; ended = false } ∷ []
in_line c (l ∷ ls) = record { text = c ∷ l.text; ended = l.ended } ∷ ls

-- the lines of a text: each line feed ends one, and what follows the last is one that is not ended
unfoldable pub lines_of : List ℕ → List TextLine
lines_of [] = []
lines_of (c ∷ cs) = if c == line_feed then record { text = []; ended = true } ∷ lines_of cs else in_line c (lines_of cs)

-- the text of lines
abbrev pub joined : List TextLine → List ℕ
joined [] = []
joined (l ∷ ls) = l.text ++ (if l.ended then line_feed ∷ joined ls else joined ls)

-- there is no line
abbrev pub are_none : List TextLine → Bool
are_none [] = true
are_none (l ∷ ls) = false

-- there is no line feed
abbrev pub no_feed : List ℕ → Bool
no_feed [] = true
no_feed (c ∷ cs) = not (c == line_feed) && no_feed cs

-- a line that is not ended is not empty, and the last
abbrev pub IsEnded : Bool → List ℕ → List TextLine → Type 0
IsEnded true text behind = Unit {0}
IsEnded false text behind = (1 ≤ length text) × (behind ≡ [])

-- lines as they stand in a text
abbrev pub AreLines : List TextLine → Type 0
AreLines [] = Unit {0}
AreLines (l ∷ ls) = (no_feed l.text ≡ true) × IsEnded l.ended l.text ls × AreLines ls
