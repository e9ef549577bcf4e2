use Rattle.std.proofs.Common.{Result, Ok, Err, IfOk, sym, ◌∙◌}
use Rattle.query_tokens.specs.declared.fault.QueryFault.{QueryFault}
use Rattle.query_tokens.specs.declared.tree.Query.{Query}
use Rattle.query_tokens.specs.Lex.{Bytes}
use Rattle.query_tokens.specs.Stream.{tokens}
use Rattle.query_parser.specs.Query as q
use Rattle.query_parser.specs.SpellsQuery.{SpellsQuery}
use Rattle.query_parser.proofs.Whole.{spelled, parsed_is}
use Rattle.query_parser.proofs.whole_query.parse.Goals as goal

all_spelled : (text : Bytes) (r : Result Query QueryFault) → q.Parses (q.parsed text) r → IfOk r (SpellsQuery (tokens text))
all_spelled text (Ok x) h = spelled text x h
all_spelled text (Err f) h = tt

all_parsed : (text : Bytes) (r : Result Query QueryFault) (x : Query) → q.Parses (q.parsed text) r → SpellsQuery (tokens text) x → q.Parses (Ok x) r
all_parsed text (Ok y) x h s = sym (parsed_is text x s) ∙ h
all_parsed text (Err f) x h s = λ other. sym (parsed_is text x s) ∙ h other

pub returns-clause-spelled : goal.returns-clause-spelled
returns-clause-spelled c = all_spelled c.args.text.now c.whole.result c.whole.ensures

pub returns-clause-only : goal.returns-clause-only
returns-clause-only c = λ x s. all_parsed c.args.text.now c.whole.result x c.whole.ensures s
