-- The names of what is wrong with a query's text, as note lines have them.
use Rattle.std.specs.Prelude.{ℕ, List, codes}
use Rattle.query_tokens.specs.declared.fault.Reason.{Reason}
use Rattle.query_tokens.specs.declared.fault.Reason.TheVariants as parse

-- the name of what is wrong with a query's text
abbrev pub parse_text : Reason → List ℕ
parse_text parse.BadCharacter = codes "BadCharacter"
parse_text parse.OpenText = codes "OpenText"
parse_text parse.NumberTooWide = codes "NumberTooWide"
parse_text parse.NameTooLong = codes "NameTooLong"
parse_text parse.TextTooLong = codes "TextTooLong"
parse_text parse.UnknownFunction = codes "UnknownFunction"
parse_text parse.BadStar = codes "BadStar"
parse_text parse.UnsupportedOption = codes "UnsupportedOption"
parse_text parse.TooDeep = codes "TooDeep"
parse_text parse.Unexpected = codes "Unexpected"
