-- What a query's text is answered over the segments of a table, what it is refused by, and what is
-- read for it.
use Rattle.std.specs.Prelude.{◌≡◌, ◌≢◌, ℕ, false, List, Result, Ok, Err, IfOk, IfSome, OnOk}
use Rattle.outside.specs.Files.{Files}
use Rattle.outside.specs.Seen.{Seen}
use Rattle.table_schema.specs.declared.table.Table.{Table}
use Rattle.sql_reply.specs.Asked.{asked}
use Rattle.sql_reply.specs.SqlReply.{IsOfText, SqlReply}
use Rattle.sql_reply.specs.declared.fault.SqlFault.{SqlFault}
use Rattle.sql_reply.specs.declared.fault.SqlFault.TheVariants.{NoMemory}
use Rattle.segment_head.specs.declared.stored.Stored.{Stored}
use Rattle.query_executor.specs.Explained.{IsExplained}
use Rattle.query_executor.specs.Passes.{HaveOpenings, LooksAtHeads, TextReads}
use Rattle.query_executor.specs.declared.fault.ExecutorFault.{ExecutorFault}
use Rattle.query_executor.specs.declared.fault.ExecutorFault.TheVariants.{Sql}

-- a text is answered so over these segments, or refused, and so much of them is read
pub record AnswersText (Says : Table → Files → List Stored → List ℕ → SqlReply → Type 0)
    (table : Table) (stored : List Stored) (sql : List ℕ) (old new : Seen)
    (result : Result (List ℕ) ExecutorFault) : Type 0 where
  pub reply : IfOk result (λ text. IfSome old.held (λ files.
      Says table files stored sql (Ok text)))
  pub refused : (fault : SqlFault) → result ≡ Err (Sql fault) → fault ≢ NoMemory
      → IfSome old.held (λ files. Says table files stored sql (Err fault))
  pub of_text : (fault : SqlFault) → result ≡ Err (Sql fault) → IsOfText fault
      → asked table false sql ≡ Err fault
  pub opens : OnOk result (HaveOpenings table old.held stored)
  pub passes : TextReads table stored sql old new result

-- the plans of these segments are told for a text, and no more than their heads is looked at; what
-- is wrong with the text is known before anything is read
pub record ExplainsText (table : Table) (stored : List Stored) (sql : List ℕ) (old new : Seen)
    (result : Result (List ℕ) ExecutorFault) : Type 0 where
  pub reply : IfOk result (λ text. IfSome old.held (λ files.
      IsExplained table files stored sql (Ok text)))
  pub of_text : (fault : SqlFault) → result ≡ Err (Sql fault) → fault ≢ NoMemory
      → IsOfText fault × (new ≡ old) × (asked table false sql ≡ Err fault)
  pub opens : OnOk result (HaveOpenings table old.held stored)
  pub looks : LooksAtHeads table stored old new result
