use Rattle.std.proofs.lemmas.Nat.Bits.{bit_at_set_same, bit_at_set_other}
use Rattle.std.specs.Int.{w64}
use Rattle.fx_machine.proofs.moment.with_bit.Goals as goal

pub returns-then-bit-clause-here : goal.returns-then-bit-clause-here
returns-then-bit-clause-here c = rw c.if-bit.true (bit_at_set_same w64 c.args.marks c.args.i c.requires.place)

pub returns-then-bit-clause-others : goal.returns-then-bit-clause-others
returns-then-bit-clause-others c = bit_at_set_other w64 c.args.marks c.args.i c.requires.place
