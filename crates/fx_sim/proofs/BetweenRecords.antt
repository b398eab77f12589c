-- A simulation between two records.
use Rattle.std.proofs.Common.{◌≡◌, ◌+◌, ◌≤◌, ◌∙◌, List, ℕ, ℤ, Result, Ok, Err, [], ◌∷◌, ◌++◌, length, take, pos}
use Rattle.std.proofs.Common.{refl, sym, ap, arith}
use Rattle.std.proofs.lemmas.List.{append-nil, length-take}
use Rattle.csv.specs.Reading.{default_config, records, strip_bom}
use Rattle.fx_code.specs.Code.{Code}
use Rattle.fx_code.specs.Inputs.{word_at}
use Rattle.fx_code.specs.Laws.{EarlierInputs}
use Rattle.fx_code.specs.Run.{outputs_at}
use Rattle.fx_machine.specs.Moments.{State, StandsAfter}
use Rattle.fx_sim.specs.declared.fault.SampleFault.{SampleFault}
use Rattle.fx_sim.specs.Output.{line_of, lines_before, run_text}
use Rattle.fx_sim.specs.Between.{StandsBetween, with_front}
use Rattle.fx_math.specs.Faults.{◌>>=◌}
use Rattle.fx_math.specs.Answers.{Fails}
use Rattle.fx_math.proofs.Answers.{fails_through}
use Rattle.fx_sim.specs.Samples.{is_memory, moment_in, moments_in, samples_in}
use Rattle.fx_sim.specs.Simulation.{simulation}
use Rattle.fx_sim.specs.Plain.{FirstRecord, line_at}
use Rattle.fx_sim.proofs.LinesSoFar.{text_goes_on}
use Rattle.fx_sim.proofs.Moments.{moment_read}
use Rattle.fx_sim.proofs.RecordsLeft.{few_records}
use Rattle.fx_sim.proofs.PlainLines.{first_record}
use Rattle.fx_sim.proofs.WordsSoFar.{fails_behind, regroup}

with_nothing : {A : Type 0} (read : Result (List A) SampleFault) → with_front [] read ≡ read
with_nothing (Ok xs) = refl
with_nothing (Err e) = refl

pub begins : (p : Code) (bytes : List ℕ) (machine : State) → StandsAfter machine p []
    → StandsBetween p bytes machine (records default_config (strip_bom bytes)) 0 []
unfolding lines_before
begins p bytes machine ran =
    let few = few_records bytes in
    record {
      list = [];
      ran = ran;
      put = refl;
      reads = with_nothing (moments_in 1 p.inputs (records default_config (strip_bom bytes)));
      count = omega arith;
    }

-- the record at hand, with those behind it
record_read : (number : ℕ) (widths : List ℕ) (left rest : List (List (List ℕ))) (fields : List (List ℕ)) →
    left ≡ fields ∷ rest
    → moments_in number widths left ≡ (moment_in number widths fields >>= λ words.
    moments_in (number + 1) widths rest >>= λ moments. Ok (words ∷ moments))
unfolding moments_in
record_read number widths left rest fields is = rw is refl

-- one record more, and its line
pub goes_on : EarlierInputs →
    (p : Code) (bytes : List ℕ) (a b : State) (left after : List (List (List ℕ))) (number : ℕ) (text : List ℕ)
    (fields : List (List ℕ)) (words : List ℤ)
    → (m : StandsBetween p bytes a left number text) → left ≡ fields ∷ after
    → moment_in (number + 1) p.inputs fields ≡ Ok words → StandsAfter b p (m.list ++ words ∷ [])
    → StandsBetween p bytes b after (number + 1)
    (text ++ line_of (outputs_at p (word_at (m.list ++ words ∷ [])) (length m.list)))
goes_on earlier p bytes a b left after number text fields words m is moment ran =
    let more = record_read (number + 1) p.inputs left after fields is in
    let later = moments_in (number + 1 + 1) p.inputs after in
    let one : with_front m.list (moments_in (number + 1) p.inputs left) ≡ with_front (m.list ++ words ∷ []) later
    = rw (more, moment) (regroup m.list words later) in
    let fewer : length left ≡ length after + 1 = ap length is ∙ omega arith in
    let count = m.count in
    record {
      list = m.list ++ words ∷ [];
      ran = ran;
      put = rw (m.put) (sym (text_goes_on earlier p m.list words));
      reads = sym one ∙ m.reads;
      count = omega arith;
    }

-- a plain line more
pub plain_goes_on : EarlierInputs →
    (p : Code) (bytes : List ℕ) (a b : State) (rest behind : List ℕ) (number : ℕ) (text : List ℕ) (words : List ℤ)
    → (m : StandsBetween p bytes a (records default_config (strip_bom rest)) number text)
    → FirstRecord p.inputs (line_at rest) words behind → StandsAfter b p (m.list ++ words ∷ [])
    → StandsBetween p bytes b (records default_config (strip_bom behind)) (number + 1)
    (text ++ line_of (outputs_at p (word_at (m.list ++ words ∷ [])) (length m.list)))
plain_goes_on earlier p bytes a b rest behind number text words m first ran =
    goes_on earlier p bytes a b (records default_config (strip_bom rest)) (records default_config (strip_bom behind))
    number text first.fields words m (first_record p.inputs rest words behind first)
    (moment_read (number + 1) p.inputs first.fields words first.are_words) ran

-- a record with a fault
pub fails : (p : Code) (bytes : List ℕ) (a : State) (left after : List (List (List ℕ))) (number : ℕ) (text : List ℕ)
    (fields : List (List ℕ)) (e : SampleFault)
    → StandsBetween p bytes a left number text → left ≡ fields ∷ after →
    Fails is_memory e (moment_in (number + 1) p.inputs fields)
    → Fails is_memory e (simulation p bytes)
fails p bytes a left after number text fields e m is fault =
    let more = record_read (number + 1) p.inputs left after fields is in
    let later = λ (words : List ℤ). moments_in (number + 1 + 1) p.inputs after >>= λ moments. Ok (words ∷ moments) in
    let here = fails_through is_memory e (moment_in (number + 1) p.inputs fields) later fault in
    let behind = fails_behind e m.list (moment_in (number + 1) p.inputs fields >>= later) here in
    fails_through is_memory e (samples_in p.inputs bytes) (λ list. Ok (run_text p list)) (rw (← m.reads, more) behind)

-- no record is left
pub done : (p : Code) (bytes : List ℕ) (a : State) (left : List (List (List ℕ))) (number : ℕ) (text : List ℕ)
    → StandsBetween p bytes a left number text → left ≡ [] → simulation p bytes ≡ Ok text
unfolding moments_in
done p bytes a left number text m none =
    let all : samples_in p.inputs bytes ≡ Ok m.list = sym m.reads
    ∙ rw none (ap (λ (l : List (List ℤ)). Ok l) (append-nil m.list)) in
    rw (all, m.put) refl

-- the front of as many zeros as there may be inputs
pub front_of_ports : (n : ℕ) → n ≤ 4 → length (take n (pos 0 ∷ pos 0 ∷ pos 0 ∷ pos 0 ∷ [])) ≡ n
front_of_ports n few = omega (arith, length-take n (pos 0 ∷ pos 0 ∷ pos 0 ∷ pos 0 ∷ []))
