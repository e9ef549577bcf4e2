use Rattle.std.proofs.lemmas.Str.{IsUtf8-had}
use Rattle.query_parser.proofs.cursor.Tokens.word.Goals as goal

pub value-requires : goal.value-requires
value-requires c = IsUtf8-had c.self.inside.ahead.now c.self.invariant.text
