use Rattle.std.proofs.Common.{sym, subst}
use Rattle.std.specs.Str.{IsUtf8}
use Rattle.query_tokens.proofs.Ends.{utf8_value}
use Rattle.query_tokens.proofs.lex.value.Goals as goal

pub name_of-requires : goal.name_of-requires
name_of-requires c = subst IsUtf8 (sym c.in_ok-value_bytes.ensures) (utf8_value c.args.z.now c.requires)
