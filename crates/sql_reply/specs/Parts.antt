-- What the functions that a query's text is bound by answer.
use Rattle.std.specs.Prelude.{◌≡◌, ◌≤◌, Bool, ℕ, List, length, Ok}
use Rattle.table_schema.specs.declared.query.BoundQuery.{BoundQuery}
use Rattle.table_schema.specs.declared.table.Table.{Table}
use Rattle.query_parser.specs.Query.{parsed}
use Rattle.query_tokens.specs.declared.tree.Query.{Query}
use Rattle.query_bind.specs.Bound.{Bound, bound, in_normal_form}
use Rattle.query_bind.specs.Conjuncts.{KeepRows}
use Rattle.query_bind.specs.Written.{where_written}
use Rattle.sql_reply.specs.SqlReply.{sql_limit}

-- a text within the limit is this query
pub record IsRead (sql : List ℕ) (query : Query) : Type 0 where
  pub short : length sql ≤ sql_limit
  pub parsed_so : parsed sql ≡ Ok query

-- a query of a table has a meaning by its names and types, and this is its normal form
pub record IsBound (table : Table) (any_table : Bool) (query : Query) (found : BoundQuery)
    : Type 0 where
  pub meaning : Bound
  pub bound_so : bound table any_table query ≡ Ok meaning
  pub normal : found ≡ in_normal_form meaning
  pub keeps : KeepRows found.conjuncts (where_written table.schema.fields query.condition)
