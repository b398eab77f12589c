use Rattle.std.proofs.Common.{rules, arith}
use Rattle.fx_text.proofs.TermTurns.{term_takes_bytes, term_goes_on, terms_end, statement_fails, term_fails}
use Rattle.fx_text.proofs.term.terms_at.Goals as goal

pub returns-in_err-is_term-clause-gives : goal.returns-in_err-is_term-clause-gives
returns-in_err-is_term-clause-gives c =
    let failed = statement_fails c.in_err-is_term.field-0.0 c.args.place.now c.loop-terms.terms.items
    c.args.text.now c.loop-terms.at _ c.in_err-is_term.ensures.gives c.loop-terms.invariant.so_far in
    search rules

pub returns-then-not-is_term-clause-gives : goal.returns-then-not-is_term-clause-gives
returns-then-not-is_term-clause-gives c =
    terms_end c.args.place.now c.loop-terms.terms.items c.args.text.now c.loop-terms.at c.in_ok-is_term.behind
    c.in_ok-is_term.is_term _ c.in_ok-is_term.ensures.gives c.if-not-is_term.true
    c.loop-terms.invariant.so_far

pub returns-in_err-term-clause-gives : goal.returns-in_err-term-clause-gives
returns-in_err-term-clause-gives c =
    let given = rw c.deref.ensures.value at c.in_err-term.ensures.gives in
    let failed = term_fails c.in_err-term.field-0.0 c.args.place.now c.loop-terms.terms.items c.args.text.now
    c.loop-terms.at c.in_ok-is_term.behind c.in_ok-is_term.is_term _ c.in_ok-is_term.ensures.gives
    c.if-not-is_term.false given c.loop-terms.invariant.so_far in
    search rules

pub loop-terms-preserved : goal.loop-terms-preserved
loop-terms-preserved c =
    let given = rw c.deref.ensures.value at c.in_ok-term.ensures.gives in
    record {
      within = c.in_ok-term.ensures.within;
      so_far = rw c.in_ok-push.ensures.items
          (term_goes_on c.args.place.now c.loop-terms.terms.items c.args.text.now c.loop-terms.at
          c.in_ok-is_term.behind c.in_ok-term.end c.in_ok-term.term c.in_ok-is_term.is_term _
          c.in_ok-is_term.ensures.gives c.if-not-is_term.false given c.loop-terms.invariant.so_far);
    }

pub loop-terms-smaller : goal.loop-terms-smaller
loop-terms-smaller c =
    let given = rw c.deref.ensures.value at c.in_ok-term.ensures.gives in
    let further = term_takes_bytes c.args.place.now c.loop-terms.terms.items c.args.text.now c.loop-terms.at
    c.in_ok-is_term.behind c.in_ok-term.end c.in_ok-term.term c.in_ok-is_term.is_term
    c.in_ok-is_term.ensures.gives c.if-not-is_term.false given in
    let within = c.in_ok-term.ensures.within in
    omega arith
