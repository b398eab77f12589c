-- What the law of this crate says.
use Rattle.std.specs.Prelude.{◌≡◌, ℕ, ◌<◌, None, length}
use Rattle.fx_files.specs.Filter.{Filter}
use Rattle.fx_gain.specs.Enclosing.{enclosure, worst_words}
use Rattle.fx_gain.specs.Lengths.{length_failure, original_net}
use Rattle.fx_gain.specs.Peak.{EnclosesPeak}

-- over a length that does not fail the ends enclose how far the output goes, and the words reach the low end
abbrev pub EnclosuresHold : Filter → Type 0
EnclosuresHold filter =
    (moments o j : ℕ) → 0 < moments → o < length filter.outputs → j < length filter.inputs →
    length_failure (original_net filter) filter moments ≡ None →
    EnclosesPeak filter o j (enclosure (original_net filter) filter moments o j)
    (worst_words (original_net filter) filter moments o j)
