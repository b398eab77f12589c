use Rattle.std.proofs.Common.{◌≡◌, ◌≤◌, ◌+◌, ◌-◌, ◌*◌, ◌++◌, drop, take, length, codes}
use Rattle.std.specs.Fmt.{signed_decimal}
use Rattle.std.specs.List.{flat_map}
use Rattle.fx_sim.specs.declared.text.TheConstants.{NUMBER_BYTES}
use Rattle.fx_sim.proofs.text.put_more.Given as goal

abbrev pub invariant-loop-word : goal.invariant-loop-word
invariant-loop-word l = record {
  room : l.end + (length l.words - l.word-index) * (NUMBER_BYTES + 1)
      ≤ l.at + length l.words * (NUMBER_BYTES + 1);
  put : take l.end l.text ++ flat_map (λ z. codes "," ++ signed_decimal z) (drop l.word-index l.words)
      ≡ take l.at l.fn.text ++ flat_map (λ z. codes "," ++ signed_decimal z) l.words;
}
