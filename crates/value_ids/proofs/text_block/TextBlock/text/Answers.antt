use Rattle.std.proofs.lemmas.Str.{IsUtf8-from_is_utf8}
use Rattle.value_ids.proofs.text_block.TextBlock.text.Goals as goal

pub unreachable-requires-in_default-from_utf8 : goal.unreachable-requires-in_default-from_utf8
unreachable-requires-in_default-from_utf8 c = c.in_default-from_utf8.ensures.cases.0 (IsUtf8-from_is_utf8 c.in-Some.bytes.now c.in-Some.ensures.text)
