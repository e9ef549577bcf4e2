-- Where a text is no query: the tokens up to a fault decide it.
use Rattle.std.specs.Prelude.{◌≡◌, ◌≢◌, ◌+◌, ◌<◌, ℕ, length, take, drop, Err}
use Rattle.query_tokens.specs.declared.fault.Reason.{Reason}
use Rattle.query_tokens.specs.declared.fault.Reason.TheVariants.{UnknownFunction, UnsupportedOption, TooDeep}
use Rattle.query_tokens.specs.declared.fault.QueryFault.TheVariants.{At}
use Rattle.query_tokens.specs.declared.tree.Query.{Query}
use Rattle.query_tokens.specs.Lex.{Bytes}
use Rattle.query_tokens.specs.Stream.{place, tokens}
use Rattle.query_parser.specs.Query.{parsed}
use Rattle.query_parser.specs.SpellsQuery.{SpellsQuery}

-- how many tokens after the one at its place a fault wants: the parenthesis after a name makes it a
-- function, and `=` and a value make it an option
abbrev pub wanted : Reason → ℕ
wanted UnknownFunction = 1
wanted UnsupportedOption = 2
wanted _ = 0

-- No text whose tokens agree with those of a refused one, up to and with the faulty token, is a
-- query. The fault of too deep a condition is apart: it is one of the limit.
abbrev pub FaultsAreFinal : Type 0
FaultsAreFinal = (text other : Bytes) (reason : Reason) (at i : ℕ)
    → parsed text ≡ Err (At reason at) → reason ≢ TooDeep
    → i < length (tokens text) → place (drop i (tokens text)) ≡ at
    → take (i + wanted reason + 1) (tokens text) ≡ take (i + wanted reason + 1) (tokens other)
    → (q : Query) → SpellsQuery (tokens other) q → ⊥
