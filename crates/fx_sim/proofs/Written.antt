-- Digits that were written at a place of a text.
use Rattle.std.proofs.Common.{◌≡◌, ◌+◌, ◌≤◌, ◌++◌, ◌∙◌, ℕ, List, length, take, drop, sym, ap₂, arith, append_assoc}
use Rattle.std.proofs.Common.{length-append, length-take-le, take-append-drop, take_at}

pub written : (old new digits : List ℕ) (start end : ℕ) → start + length digits ≡ end → end ≤ length old →
    drop start new ≡ digits ++ drop end old
    → take start new ≡ take start old → take end new ≡ take start old ++ digits
written old new digits start end count room there before =
    let front : List ℕ = take start old ++ digits in
    let whole : new ≡ front ++ drop end old = sym (take-append-drop start new)
    ∙ ap₂ (λ (a b : List ℕ). a ++ b) before there ∙ sym (append_assoc (take start old) digits (drop end old)) in
    let long : length front ≡ end =
    omega (arith, length-append (take start old) digits, length-take-le start old (omega arith)) in
    rw whole (take_at front (drop end old) end long)
