-- A text and its query.
use Rattle.std.proofs.Common.{◌≡◌, Ok, Err, ap}
use Rattle.query_tokens.specs.declared.tree.Query.{Query}
use Rattle.query_tokens.specs.Lex.{Bytes}
use Rattle.query_tokens.specs.Stream.{Stream, tokens}
use Rattle.query_parser.specs.Reading.{Outcome}
use Rattle.query_parser.specs.Query as q
use Rattle.query_parser.specs.SpellsQuery.{SpellsQuery}
use Rattle.query_parser.proofs.AgainQuery.{query_again}
use Rattle.query_parser.proofs.FoundQuery.{query_found}

tree_ok : (o : Outcome Query) (x : Query) → q.tree_or_fault o ≡ Ok x → (us : Stream) × (o ≡ Ok (x, us))
tree_ok (Ok p) x e = let is : p.0 ≡ x = cc in (p.1, ap (λ y. Ok (y, p.1)) is)
tree_ok (Err f) x e = absurd (cc)

pub spelled : (text : Bytes) (x : Query) → q.parsed text ≡ Ok x → SpellsQuery (tokens text) x
unfolding q.parsed
spelled text x e = let o = tree_ok (q.query (tokens text)) x e in query_found (tokens text) x o.0 o.1

pub parsed_is : (text : Bytes) (x : Query) → SpellsQuery (tokens text) x → q.parsed text ≡ Ok x
unfolding q.parsed
parsed_is text x s = let o = query_again (tokens text) x s in ap q.tree_or_fault o.1
