-- Texts, one behind the other.
use Rattle.std.proofs.Common.{◌≡◌, ◌∙◌, ℕ, List, ◌++◌, ap, append_assoc, Result, Ok, Err, OnOk}

-- a text behind two is the same, whichever two are put together first
pub regrouped : (a b c : List ℕ) → (a ++ b) ++ c ≡ a ++ (b ++ c)
regrouped a b c = append_assoc a b c

-- one more behind those that were put behind a text
one_more : (old x y text : List ℕ) → text ≡ old ++ x → text ++ y ≡ old ++ (x ++ y)
one_more old x y text h = ap (λ l. l ++ y) h ∙ append_assoc old x y

-- three words, each with a number
pub three_fields : {T E : Type 0} (r : Result T E) (old one two three w1 n1 w2 n2 w3 n3 : List ℕ) →
    one ≡ old ++ w1 ++ n1 → two ≡ one ++ w2 ++ n2 → OnOk r (three ≡ two ++ w3 ++ n3) →
    OnOk r (three ≡ old ++ (w1 ++ n1 ++ w2 ++ n2 ++ w3 ++ n3))
three_fields (Ok v) old one two three w1 n1 w2 n2 w3 n3 first second third =
    let a : one ≡ old ++ (w1 ++ n1) = first ∙ append_assoc old w1 n1 in
    let b : one ++ w2 ≡ old ++ (w1 ++ n1 ++ w2) = one_more old (w1 ++ n1) w2 one a in
    let d : two ≡ old ++ (w1 ++ n1 ++ w2 ++ n2) = second ∙ one_more old (w1 ++ n1 ++ w2) n2 (one ++ w2) b in
    let e : two ++ w3 ≡ old ++ (w1 ++ n1 ++ w2 ++ n2 ++ w3) = one_more old (w1 ++ n1 ++ w2 ++ n2) w3 two d in
    third ∙ one_more old (w1 ++ n1 ++ w2 ++ n2 ++ w3) n3 (two ++ w3) e
three_fields (Err fault) old one two three w1 n1 w2 n2 w3 n3 first second third = third
