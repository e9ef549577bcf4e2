-- The query that a text is, in its normal form, or the first thing that is wrong with it.
use Rattle.std.specs.Prelude.{◌≡◌, ◌≢◌, ℕ, Bool, nat_lt, List, length, Result, Ok, Err, if◌then◌else◌}
use Rattle.table_schema.specs.declared.query.BoundQuery.{BoundQuery}
use Rattle.table_schema.specs.declared.table.Table.{Table}
use Rattle.query_parser.specs.Query.{parsed}
use Rattle.query_tokens.specs.declared.tree.Query.{Query}
use Rattle.query_tokens.specs.declared.fault.QueryFault.{QueryFault}
use Rattle.query_bind.specs.Bound.{Bound, bound, in_normal_form}
use Rattle.query_bind.specs.declared.fault.BindFault.{BindFault}
use Rattle.sql_reply.specs.SqlReply.{bind_fault, query_fault, sql_limit}
use Rattle.sql_reply.specs.declared.fault.SqlFault.{SqlFault}
use Rattle.sql_reply.specs.declared.fault.SqlFault.TheVariants.{LongQuery, NoMemory}

-- a query in its normal form, or why there is none
abbrev pub Asked : Type 0
Asked = Result BoundQuery SqlFault

-- the normal form of a query by its names and types
abbrev pub normal_asked : Result Bound BindFault → Asked
normal_asked (Ok b) = Ok (in_normal_form b)
normal_asked (Err wrong) = Err (bind_fault wrong)

-- the same by what a text is read as; where that is so, any name stands for the table
abbrev pub parsed_asked : Table → Bool → Result Query QueryFault → Asked
parsed_asked table any_table (Ok q) = normal_asked (bound table any_table q)
parsed_asked table any_table (Err wrong) = Err (query_fault wrong)

-- the query that a text is over the columns of a table
abbrev pub asked : Table → Bool → List ℕ → Asked
asked table any_table sql =
    if nat_lt sql_limit (length sql) then Err
    (LongQuery sql_limit) else parsed_asked table any_table (parsed sql)

-- what a call answers: the query, unless memory runs out
abbrev pub Asks : Asked → Asked → Type 0
Asks asked (Ok query) = asked ≡ Ok query
Asks asked (Err fault) = fault ≢ NoMemory → asked ≡ Err fault
