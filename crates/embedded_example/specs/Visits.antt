-- What the replies of the example are.
use Rattle.std.specs.Prelude.{◌≡◌, ◌++◌, ℕ, List, false, Ok}
use Rattle.values.specs.declared.value.Value.{Value}
use Rattle.table_schema.specs.declared.table.Table.{Table}
use Rattle.sql_reply.specs.SqlReply.{sql_reply}
use Rattle.table_store.specs.Accepted.{IsAccepted}
use Rattle.table_store.specs.State.{Texts}
use Rattle.segment_file.specs.Ordered.{ordered}
use Rattle.embedded.specs.Rows.{csv_rows}

-- a text is the reply to a query over the rows of both months: those of July are given, and those
-- of June are what a CSV text spells over the fields of the table
pub record IsReplyOver (texts : Texts) (june : List ℕ) (july : List (List Value))
    (sql text : List ℕ) : Type 0 where
  pub table : Table
  pub accepted : IsAccepted texts table
  pub rows : List (List Value)
  pub rows_are : csv_rows table.schema.fields june ≡ Ok rows
  pub reply : sql_reply table false sql (ordered table.settings.sorted july
      ++ ordered table.settings.sorted rows) ≡ Ok text

-- these are the replies to three queries
pub record AreReplies (texts : Texts) (june : List ℕ) (july : List (List Value))
    (first second third : List ℕ) (replies : List ℕ × List ℕ × List ℕ) : Type 0 where
  pub first_is : IsReplyOver texts june july first replies.0
  pub second_is : IsReplyOver texts june july second replies.1
  pub third_is : IsReplyOver texts june july third replies.2
