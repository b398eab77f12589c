use Rattle.std.proofs.Common.{rules}
use Rattle.std.specs.Str.{bytes_eq}
use Rattle.std.proofs.lemmas.List.Folds.{list_any-append}
use Rattle.fx_keys.specs.Keys.{own_name}
use Rattle.fx_keys.proofs.table.is_known.Goals as goal

pub returns-then-is_among : goal.returns-then-is_among
returns-then-is_among c =
    rw (
      list_any-append (λ k. bytes_eq (own_name k) c.args.text.now) c.args.shared.now c.args.own.now,
      ← c.if-is_among.ensures,
    ) c.if-is_among.true

pub returns-else-is_among : goal.returns-else-is_among
returns-else-is_among c =
    rw (
      list_any-append (λ k. bytes_eq (own_name k) c.args.text.now) c.args.shared.now c.args.own.now,
      ← c.if-is_among.ensures,
    ) (search rules)
