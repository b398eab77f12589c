-- The lines of what is found have no control byte before their line feeds.
use Rattle.std.proofs.Common.{ℕ, zero, suc, ℤ, List, [], ◌∷◌, ◌++◌, codes, decimal, length, refl, subst, sym}
use Rattle.std.proofs.Common.{append_assoc}
use Rattle.std.specs.Fmt.{signed_decimal}
use Rattle.std.specs.List.{flat_map}
use Rattle.std.proofs.lemmas.List.Concat.{flat_map-cons}
use Rattle.fx_block.specs.declared.least.Least.{Least}
use Rattle.fx_block.specs.declared.least.Least.TheVariants as least
use Rattle.fx_block.specs.declared.least.LengthWhy.{LengthWhy}
use Rattle.fx_block.specs.declared.least.LengthWhy.TheVariants as why
use Rattle.fx_gain.specs.declared.fails.LengthFail.{LengthFail}
use Rattle.fx_decimal.specs.Printed.{down_text}
use Rattle.fx_files.specs.Forms.{form_text, structure_text}
use Rattle.fx_files.specs.declared.forms.Form.{Form}
use Rattle.fx_files.specs.declared.forms.Form.TheVariants as form
use Rattle.fx_files.specs.declared.forms.Structure.{Structure}
use Rattle.fx_files.specs.declared.forms.Structure.TheVariants as structure
use Rattle.fx_make.specs.declared.fail.Fail.{Fail}
use Rattle.fx_make.specs.declared.fail.Fail.TheVariants as fail
use Rattle.fx_make.specs.declared.fail.Failed.{Failed}
use Rattle.fx_make.specs.declared.refusal.StructureFault.TheVariants as fault
use Rattle.fx_nums.specs.Interval.{Interval}
use Rattle.fx_totals.specs.declared.target_range.TargetRange.{TargetRange}
use Rattle.fx_lines.specs.Laws.{IsLine}
use Rattle.fx_lines.specs.Verdict.{error_lines, place_text, up_part}
use Rattle.fx_lines.specs.declared.decimals.TheConstants.{PLACES}
use Rattle.fx_large.specs.declared.limits.TheConstants.{SAMPLES}
use Rattle.fx_large.specs.declared.summary.Summary.{Summary}
use Rattle.fx_lines.proofs.AreLines.{alone, entry_lines, lines_then}
use Rattle.fx_lines.proofs.PrintedParts.{Printed, both_printed, decimal_printed, down_printed, line_of, more}
use Rattle.fx_lines.proofs.PrintedParts.{number_line, numbered, numbers_line, part_printed, sides_are_line}
use Rattle.fx_lines.proofs.PrintedParts.{signed_printed}
use Rattle.fx_lines.proofs.VerdictLines.{errors_are_lines, place_printed}
use Rattle.fx_findings.specs.Designs.{choice_text, design_lines, fail_line, failed_line}
use Rattle.fx_findings.specs.Large.{summary_line, words_part}
use Rattle.fx_findings.specs.Laws.{DesignLines, LargeLines, NoDesignLines, NoLengthLines, PeakLines}
use Rattle.fx_findings.specs.Laws.{StructureFaultLine}
use Rattle.fx_findings.specs.Peaks.{bounds_line, gain_line, length_line, range_line, words_text, worst_line}

-- ---- pieces

-- a text before a line is a line
before : (words text : List ℕ) → Printed words → IsLine text → IsLine (words ++ text)
before words text printed line = record {
  front = words ++ line.front;
  ends = rw line.ends (sym (append_assoc words line.front (codes "\n")));
  printed = both_printed words line.front printed line.printed;
}

range_is_line : (range : TargetRange) → IsLine (range_line range)
range_is_line range =
    let named = codes " range target " ++ decimal range.target in
    let placed = named ++ codes " " ++ place_text range.at.place in
    let a = more named (place_text range.at.place) (numbered (codes " range target ") range.target refl)
    (place_printed range.at.place) in
    line_of (placed ++ codes " " ++ signed_decimal range.at.value)
    (more placed (signed_decimal range.at.value) a (signed_printed range.at.value))

bounds_are_line : (bounds : Least) → IsLine (bounds_line bounds)
bounds_are_line least.Rest = line_of [] refl
bounds_are_line (least.Over row value cap) =
    sides_are_line (codes " over row " ++ decimal row) value cap (numbered (codes " over row ") row refl)
bounds_are_line (least.Slow row earlier later) =
    sides_are_line (codes " slow row " ++ decimal row) earlier later (numbered (codes " slow row ") row refl)

choice_printed : (guard fraction moments : ℕ) → Printed (choice_text guard fraction moments)
choice_printed guard fraction moments =
    more (decimal guard ++ codes " " ++ decimal fraction) (decimal moments)
    (more (decimal guard) (decimal fraction) (decimal_printed guard) (decimal_printed fraction))
    (decimal_printed moments)

-- ---- designs

pub design : DesignLines
design guard fraction moments errors =
    let front = codes "design " ++ choice_text guard fraction moments in (
      front ++ codes "\n",
      (
        error_lines 0 errors,
        (
          refl,
          (
            line_of front
                (both_printed (codes "design ") (choice_text guard fraction moments) refl
                (choice_printed guard fraction moments)),
            errors_are_lines 0 errors,
          ),
        ),
      ),
    )

wide_is_line : (row term : ℕ) (value : ℤ) → IsLine (fail_line (fail.Wide row term value))
wide_is_line row term value =
    let named = codes " wide row " ++ decimal row ++ codes " term " in
    let front = named ++ decimal term in
    let a = both_printed (codes " wide row " ++ decimal row) (codes " term ")
    (numbered (codes " wide row ") row refl) refl in
    line_of (front ++ codes " " ++ signed_decimal value)
    (more front (signed_decimal value) (numbered named term a) (signed_printed value))

fail_is_line : (why : Fail) → IsLine (fail_line why)
fail_is_line (fail.Shift row) = number_line (codes " shift row ") (decimal row) refl (decimal_printed row)
fail_is_line (fail.Wide row term value) = wide_is_line row term value
fail_is_line (fail.Range range) = range_is_line range
fail_is_line (fail.Over row value cap) =
    sides_are_line (codes " over row " ++ decimal row) value cap (numbered (codes " over row ") row refl)
fail_is_line (fail.Slow row earlier later) =
    sides_are_line (codes " slow row " ++ decimal row) earlier later (numbered (codes " slow row ") row refl)
fail_is_line (fail.Error output total target) =
    sides_are_line (codes " error output " ++ decimal output) total target
    (numbered (codes " error output ") output refl)

failed_is_line : (f : Failed) → IsLine (failed_line f)
failed_is_line f =
    let choice = choice_text f.guard f.fraction f.length in
    before (codes "candidate " ++ choice) (fail_line f.why)
    (both_printed (codes "candidate ") choice refl (choice_printed f.guard f.fraction f.length))
    (fail_is_line f.why)

pub no_design : NoDesignLines
no_design fails = (
  codes "no design\n",
  (
    flat_map failed_line fails,
    (
      refl,
      (
        line_of (codes "no design") refl,
        entry_lines failed_line failed_is_line fails,
      ),
    ),
  ),
)

-- ---- jobs

words_are_printed : (s : Summary) → Printed (words_part s)
words_are_printed s =
    let least = codes " least " ++ signed_decimal s.least in
    let greatest = least ++ codes " greatest " ++ signed_decimal s.greatest in
    let a = both_printed (codes " least ") (signed_decimal s.least) refl (signed_printed s.least) in
    let b = both_printed least (codes " greatest ") a refl in
    let c = both_printed (least ++ codes " greatest ") (signed_decimal s.greatest) b (signed_printed s.greatest) in
    let d = both_printed greatest (codes " sum ") c refl in
    both_printed (greatest ++ codes " sum ") (signed_decimal s.sum) d (signed_printed s.sum)

summary_is_line : (n : ℕ) (s : Summary) → IsLine (summary_line n s)
summary_is_line n s =
    let counted = codes "samples " ++ decimal n in
    let words = words_part s in
    line_of (counted ++ words) (both_printed counted words (numbered (codes "samples ") n refl) (words_are_printed s))

pub job : LargeLines
job number guard fraction moments errors summary =
    let first = codes "large " ++ decimal number in
    let made = design_lines guard fraction moments errors in (
      first ++ codes "\n",
      (
        made ++ summary_line SAMPLES summary,
        (
          append_assoc (first ++ codes "\n") made (summary_line SAMPLES summary),
          (
            line_of first (numbered (codes "large ") number refl),
            lines_then (suc (length errors)) (suc zero) made (summary_line SAMPLES summary)
                (design guard fraction moments errors)
                (alone (summary_line SAMPLES summary) (summary_is_line SAMPLES summary)),
          ),
        ),
      ),
    )

-- ---- structures

form_printed : (f : Form) → Printed (form_text f)
form_printed form.Tf = refl
form_printed form.Sos = refl
form_printed form.Ss = refl
form_printed form.Lattice = refl

structure_printed : (s : Structure) → Printed (structure_text s)
structure_printed structure.Df1 = refl
structure_printed structure.Df2 = refl
structure_printed structure.Df2t = refl
structure_printed structure.Fir = refl
structure_printed structure.Lattice = refl
structure_printed structure.Ss = refl

pub fault_line : StructureFaultLine
fault_line (fault.NotListed f s) there =
    numbers_line (codes "unbuildable not listed ") (form_text f) (structure_text s) refl (form_printed f)
    (structure_printed s)
fault_line (fault.NotFir count) there =
    number_line (codes "unbuildable not fir ") (decimal count) refl (decimal_printed count)
fault_line (fault.Order order greatest) there =
    numbers_line (codes "unbuildable order ") (decimal order) (decimal greatest) refl (decimal_printed order)
    (decimal_printed greatest)
fault_line (fault.NotBelowOne step k) there =
    sides_are_line (codes "unbuildable not below one " ++ decimal step) k.lo k.hi
    (numbered (codes "unbuildable not below one ") step refl)
fault_line (fault.Range step) there =
    number_line (codes "unbuildable range ") (decimal step) refl (decimal_printed step)
fault_line fault.NoMemory there = absurd (there refl)

-- ---- gains

gain_is_line : (o i : ℕ) (gain : Interval) → IsLine (gain_line o i gain)
gain_is_line o i gain =
    let pair = codes "gain " ++ decimal o ++ codes " " ++ decimal i in
    let low = down_text gain.lo PLACES in
    let high = up_part (codes " ") gain.hi in
    let a = more (codes "gain " ++ decimal o) (decimal i) (numbered (codes "gain ") o refl) (decimal_printed i) in
    line_of (pair ++ codes " " ++ low ++ high)
    (both_printed (pair ++ codes " " ++ low) high (more pair low a (down_printed gain.lo PLACES))
    (part_printed (codes " ") gain.hi refl))

words_printed : (words : List ℤ) → Printed (words_text words)
words_printed [] = refl
words_printed (w ∷ ws) =
    subst Printed (sym (flat_map-cons (λ w. codes " " ++ signed_decimal w) w ws))
    (both_printed (codes " " ++ signed_decimal w) (words_text ws)
    (both_printed (codes " ") (signed_decimal w) refl (signed_printed w)) (words_printed ws))

worst_is_line : (o i : ℕ) (words : List ℤ) → IsLine (worst_line o i words)
worst_is_line o i words =
    let pair = codes "worst " ++ decimal o ++ codes " " ++ decimal i in
    let a = more (codes "worst " ++ decimal o) (decimal i) (numbered (codes "worst ") o refl) (decimal_printed i) in
    line_of (pair ++ words_text words) (both_printed pair (words_text words) a (words_printed words))

pub peak : PeakLines
peak o i gain words = (
  gain_line o i gain,
  (
    worst_line o i words,
    (
      refl,
      (
        gain_is_line o i gain,
        alone (worst_line o i words) (worst_is_line o i words),
      ),
    ),
  ),
)

length_is_line : (moments input : ℕ) (why : LengthWhy) → IsLine (length_line moments input why)
length_is_line moments input (why.Range range) =
    before (codes "length " ++ decimal moments) (range_line range) (numbered (codes "length ") moments refl)
    (range_is_line range)
length_is_line moments input (why.Bounds bounds) =
    let front = codes "length " ++ decimal moments ++ codes " input " in
    before (front ++ decimal input) (bounds_line bounds)
    (numbered front input (both_printed (codes "length " ++ decimal moments) (codes " input ")
    (numbered (codes "length ") moments refl) refl)) (bounds_are_line bounds)

pub no_length : NoLengthLines
no_length fails = (
  codes "no design\n",
  (
    flat_map (λ (f : LengthFail). length_line f.length f.input f.why) fails,
    (
      refl,
      (
        line_of (codes "no design") refl,
        entry_lines (λ (f : LengthFail). length_line f.length f.input f.why)
            (λ f. length_is_line f.length f.input f.why) fails,
      ),
    ),
  ),
)
