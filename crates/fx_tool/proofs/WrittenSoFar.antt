-- A text that is put piece by piece.
use Rattle.std.proofs.Common.{◌≡◌, ℕ, ◌+◌, ◌-◌, ◌≤◌, List, [], ◌++◌, length, take, drop, arith, ap, sym, ◌∙◌, subst}
use Rattle.std.proofs.Common.{append_assoc, Option, Some, None, refl}
use Rattle.std.specs.Option.{option_map}
use Rattle.std.proofs.Math.Seq.{take-add}
use Rattle.std.proofs.lemmas.List.{append-nil, length-drop, drop-drop, take_all}
use Rattle.fx_tool.specs.Writing.{GrowsBy}

-- nothing was put
pub grows_nothing : (before : Option (List ℕ)) → GrowsBy [] before before
grows_nothing None = refl
grows_nothing (Some t) = ap Some (sym (append-nil t))

-- the bytes before the rest were put
pub record IsPut (text rest : List ℕ) (before now : Option (List ℕ)) : Type 0 where
  pub short : length rest ≤ length text
  pub place : rest ≡ drop (length text - length rest) text
  pub told : GrowsBy (take (length text - length rest) text) before now

-- the bytes before the rest, and the first c bytes of the rest
put_more : (before now after : Option (List ℕ)) (text rest : List ℕ) (n c : ℕ) → rest ≡ drop n text →
    GrowsBy (take n text) before now → GrowsBy (take c rest) now after → GrowsBy (take (n + c) text) before after
put_more None now after text rest n c e g h = h ∙ ap (option_map (λ t. t ++ take c rest)) g
put_more (Some t) now after text rest n c e g h =
    h ∙ ap (option_map (λ t. t ++ take c rest)) g
    ∙ ap Some (append_assoc t (take n text) (take c rest) ∙ ap (λ r. t ++ (take n text ++ take c r)) e
    ∙ ap (λ x. t ++ x) (sym (take-add n c text)))

put_on : (before now after : Option (List ℕ)) (text rest : List ℕ) (c : ℕ) → c ≤ length rest →
    IsPut text rest before now → GrowsBy (take c rest) now after → IsPut text (drop c rest) before after
put_on before now after text rest c within p h =
    let n = length text - length rest in
    let less : length (drop c rest) ≡ length rest - c = length-drop c rest in
    let further : n + c ≡ length text - length (drop c rest) = omega (arith, less, within, p.short) in
    record {
      short = omega (arith, less, p.short);
      place = ap (drop c) p.place ∙ drop-drop c n text ∙ ap (λ k. drop k text) further;
      told = let Q : ℕ → Type 0 = λ k. GrowsBy (take k text) before after in
          subst Q further (put_more before now after text rest n c p.place p.told h);
    }

-- the same as the code has it
pub put_next : (before now after : Option (List ℕ)) (text rest : List ℕ) (c : ℕ) → c ≤ length rest →
    IsPut text rest before now → GrowsBy (take c rest) now after →
    IsPut text (take (length rest - c) (drop c rest)) before after
put_next before now after text rest c within p h =
    let whole : take (length rest - c) (drop c rest) ≡ drop c rest =
    take_all (length rest - c) (drop c rest) (omega (arith, length-drop c rest)) in
    let Q : List ℕ → Type 0 = λ r. IsPut text r before after in
    subst Q (sym whole) (put_on before now after text rest c within p h)
