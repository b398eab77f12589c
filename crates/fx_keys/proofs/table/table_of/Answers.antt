use Rattle.std.proofs.Common.{◌≡◌, true, inl, inr}
use Rattle.std.proofs.lemmas.Bool.{cases_Bool}
use Rattle.std.proofs.lemmas.Str.{IsUtf8-from_is_utf8, is_utf8-from_IsUtf8}
use Rattle.std.specs.Str.{is_utf8}
use Rattle.fx_keys.proofs.table.table_of.Goals as goal

pub returns-in_default : goal.returns-in_default
returns-in_default c =
    elim (cases_Bool (is_utf8 c.args.bytes.now)) [
      | inl is_text ↦ absurd (c.in_default.ensures.cases.0 (IsUtf8-from_is_utf8 _ is_text))
      | inr not_text ↦ rw not_text
    ]

pub returns-in-Ok-table_from_str : goal.returns-in-Ok-table_from_str
returns-in-Ok-table_from_str c =
    let text : is_utf8 c.args.bytes.now ≡ true = is_utf8-from_IsUtf8 _ c.in-Ok.ensures.cases.1 in
    rw (text, ← c.in-Ok.ensures.cases.0, c.in-Ok-table_from_str.ensures.ok)
