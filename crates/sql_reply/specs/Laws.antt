-- Laws of replies.
use Rattle.std.specs.Prelude.{◌≡◌, ◌≢◌, ℕ, Bool, List, Err}
use Rattle.values.specs.declared.value.Value.{Value}
use Rattle.table_schema.specs.declared.table.Table.{Table}
use Rattle.sql_reply.specs.Asked.{asked}
use Rattle.sql_reply.specs.SqlReply.{sql_reply}
use Rattle.sql_reply.specs.declared.fault.SqlFault.{SqlFault}
use Rattle.sql_reply.specs.declared.fault.SqlFault.TheVariants.{NoMemory}

-- no query wants memory by what it is, over whatever rows
abbrev pub NeverForMemory : Type 0
NeverForMemory = (table : Table) (any_table : Bool) (sql : List ℕ) (rows : List (List Value))
    → sql_reply table any_table sql rows ≢ Err NoMemory

-- a text that is no query has no reply over whatever rows, for that reason
abbrev pub UnaskedHasNone : Type 0
UnaskedHasNone = (table : Table) (any_table : Bool) (sql : List ℕ) (fault : SqlFault)
    (rows : List (List Value)) → asked table any_table sql ≡ Err fault
    → sql_reply table any_table sql rows ≡ Err fault
