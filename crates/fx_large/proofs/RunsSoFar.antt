-- A run on samples, moment by moment.
use Rattle.std.proofs.Common.{◌≡◌, ◌∙◌, ℕ, zero, suc, ◌+◌, ◌-◌, ◌*◌, ◌^◌, ◌<◌, ◌≤◌, [], ◌∷◌, ◌++◌, length, refl, sym}
use Rattle.std.proofs.Common.{ap}
use Rattle.std.proofs.Common.{subst, arith, unsigned_abs, int_lt, if◌then◌else◌}
use Rattle.std.proofs.Math.IntN.{ℤ, pos, ◌+ℤ◌}
use Rattle.std.proofs.lemmas.Int.{ints}
use Rattle.fx_code.specs.Code.{Code}
use Rattle.fx_code.specs.Inputs.{word_at}
use Rattle.fx_code.specs.Laws.{EarlierInputs}
use Rattle.fx_code.specs.Run.{output_word}
use Rattle.fx_machine.specs.Moments.{State, StandsAfter}
use Rattle.fx_large.specs.Draws.{draw, state_after}
use Rattle.fx_large.specs.Runs.{HasPorts, moments, run_summary, word_on}
use Rattle.fx_large.specs.Sections.{sample_at, sample_of}
use Rattle.fx_large.specs.Summaries.{summary_to}
use Rattle.fx_large.specs.declared.summary.Summary.{Summary}
use Rattle.fx_large.proofs.FirstMoments.{word_so_far}
use Rattle.fx_large.proofs.Steps.{one_more}

-- after k of n samples that follow a state
pub record RunsSoFar (p : Code) (n s k : ℕ) (m : State) (state : ℕ) (summary : Summary) : Type 0 where
  pub ports : HasPorts 16 m.program
  pub stands : StandsAfter m p (moments k (sample_at s))
  pub state_is : state ≡ state_after k s
  pub summary_is : summary ≡ summary_to (k - 1) (word_on p n (sample_at s))
  pub small : unsigned_abs summary.sum ≤ k * 2 ^ 63

-- the summary of one word, and that of one word more
abbrev pub of_word : ℤ → Summary
of_word w = record { least = w; greatest = w; sum = w }

abbrev pub with_word : Summary → ℤ → Summary
with_word s w = record {
  least = if int_lt w s.least then w else s.least;
  greatest = if int_lt s.greatest w then w else s.greatest;
  sum = s.sum +ℤ w;
}

pub same_summary : (s t : Summary) (w : ℤ) → t.least ≡ (with_word s w).least → t.greatest ≡ (with_word s w).greatest →
    t.sum ≡ (with_word s w).sum → t ≡ with_word s w
same_summary s t w a b c =
    let build : ℤ → ℤ → ℤ → Summary = λ x y z. record { least = x; greatest = y; sum = z } in
    ap (λ x. build x t.greatest t.sum) a ∙ ap (λ y. build (with_word s w).least y t.sum) b
    ∙ ap (λ z. build (with_word s w).least (with_word s w).greatest z) c

-- the next sample
next_is : (s k state : ℕ) → state ≡ state_after k s → sample_of (draw state 1) ≡ sample_at s k
unfolding state_after
next_is s k state e = rw e refl

-- the moments with the next sample
more_moments : (s k : ℕ) (x : ℤ) → x ≡ sample_at s k →
    moments k (sample_at s) ++ (x ∷ []) ∷ [] ≡ moments (suc k) (sample_at s)
unfolding moments
more_moments s k x e = rw e refl

sum_small : (k : ℕ) (a w : ℤ) → unsigned_abs a ≤ k * 2 ^ 63 → unsigned_abs w ≤ 2 ^ 63 →
    unsigned_abs (a +ℤ w) ≤ suc k * 2 ^ 63
sum_small k a w h l = omega (arith, ints, h, l)

pub goes_on : EarlierInputs → (p : Code) (n s k : ℕ) (m m' : State) (state state' : ℕ) (summary : Summary)
    (x w : ℤ) → RunsSoFar p n s k m state summary → 1 ≤ k → k < n → HasPorts 16 m'.program →
    state' ≡ state_after 1 state → x ≡ sample_of (draw state 1) →
    StandsAfter m' p (moments k (sample_at s) ++ (x ∷ []) ∷ []) →
    w ≡ output_word p (word_at (moments k (sample_at s) ++ (x ∷ []) ∷ [])) (length (moments k (sample_at s))) 0 →
    unsigned_abs w ≤ 2 ^ 63 →
    RunsSoFar p n s (k + 1) m' state' (with_word summary w)
goes_on earlier p n s zero m m' state state' summary x w r some within ports next sample stands word low =
    absurd (omega (arith, some))
goes_on earlier p n s (suc j) m m' state state' summary x w r some within ports next sample stands word low =
    let k = suc j in
    let f = sample_at s in
    let g = word_on p n f in
    let e : k + 1 ≡ suc k = omega arith in
    let d : k - 1 ≡ j = omega arith in
    let last : suc k - 1 ≡ k = omega arith in
    let earlier_summary : summary ≡ summary_to j g = rw d at r.summary_is in
    let here : x ≡ f k = sample ∙ next_is s k state r.state_is in
    let so_far : output_word p (word_at (moments k f ++ (x ∷ []) ∷ [])) (length (moments k f)) 0 ≡ g k =
    subst (λ z. output_word p (word_at (moments k f ++ (z ∷ []) ∷ [])) (length (moments k f)) 0 ≡ g k) (sym here)
    (word_so_far earlier p n k f within) in
    let w_is : w ≡ g k = word ∙ so_far in
    rw e (record {
      ports = ports;
      stands = subst (StandsAfter m' p) (more_moments s k x here) stands;
      state_is = next ∙ (rw (r.state_is) (one_more k s));
      summary_is = rw (last, earlier_summary, w_is) refl;
      small = sum_small k summary.sum w r.small low;
    })

pub begins : EarlierInputs → (p : Code) (n s : ℕ) (m : State) (state : ℕ) (x w : ℤ) → 1 ≤ n → HasPorts 16 m.program →
    state ≡ state_after 1 s → x ≡ sample_of (draw s 1) → StandsAfter m p ([] ++ (x ∷ []) ∷ []) →
    w ≡ output_word p (word_at ([] ++ (x ∷ []) ∷ [])) 0 0 →
    unsigned_abs w ≤ 2 ^ 63 → RunsSoFar p n s 1 m state (of_word w)
unfolding moments
begins earlier p n s m state x w some ports next sample stands word low =
    let f = sample_at s in
    let here : x ≡ f 0 = sample in
    let so_far : output_word p (word_at ([] ++ (x ∷ []) ∷ [])) 0 0 ≡ word_on p n f 0 =
    subst (λ z. output_word p (word_at ([] ++ (z ∷ []) ∷ [])) 0 0 ≡ word_on p n f 0) (sym here)
    (word_so_far earlier p n 0 f some) in
    let w_is : w ≡ word_on p n f 0 = word ∙ so_far in
    let sum : pos 0 +ℤ w ≡ w = omega (arith, ints) in
    record {
      ports = ports;
      stands = subst (StandsAfter m p) (more_moments s 0 x here) stands;
      state_is = next;
      summary_is = ap (λ (z : ℤ). record { least = w; greatest = w; sum = z }) (sym sum) ∙ rw w_is refl;
      small = omega (arith, low);
    }

pub ends : (p : Code) (n s : ℕ) (m : State) (state : ℕ) (summary : Summary) → RunsSoFar p n s n m state summary →
    summary ≡ run_summary p n s
unfolding run_summary
ends p n s m state summary r = r.summary_is
