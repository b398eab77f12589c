use Rattle.std.proofs.Common.{◌≡◌, ◌≤◌, ◌^◌, ◌*◌, pos, unsigned_abs, arith, lit<}
use Rattle.std.proofs.Math.Nat.{pow-le-pow_right, mul-le-mul_left}
use Rattle.std.proofs.lemmas.Int.{ints, unsigned_abs-mul}
use Rattle.std.specs.Int.{w128, cast_unsigned as of_z, cast_signed as to_z}
use Rattle.fx_code.proofs.term.CodeTerm.weight.Goals as goal

pub shifted-requires-clause-fits : goal.shifted-requires-clause-fits
shifted-requires-clause-fits c =
    let p : 2 ^ c.args.self.now.left ≤ 2 ^ 62 = pow-le-pow_right (lit< tt) c.requires.left in
    let s : unsigned_abs c.args.self.now.coef * 2 ^ c.args.self.now.left ≤ unsigned_abs c.args.self.now.coef *
    2 ^ 62 = mul-le-mul_left (unsigned_abs c.args.self.now.coef) p in
    let same : to_z w128 (of_z w128 c.from.result) ≡ c.args.self.now.coef = omega (arith, ints) in
    rw same (omega (arith, s, unsigned_abs-mul c.args.self.now.coef (pos (2 ^ c.args.self.now.left))))
