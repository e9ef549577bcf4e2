-- What a query's text is answered over the segments of a table.
use Rattle.std.specs.Prelude.{◌≡◌, ℕ, false, List}
use Rattle.std.specs.List.{AllZip}
use Rattle.outside.specs.Files.{Files}
use Rattle.values.specs.declared.value.Value.{Value}
use Rattle.table_schema.specs.declared.query.BoundQuery.{BoundQuery}
use Rattle.table_schema.specs.declared.table.Table.{Table}
use Rattle.sql_reply.specs.Reply.{conjuncts_reply}
use Rattle.sql_reply.specs.SqlReply.{SqlReply, replied, sql_reply}
use Rattle.segment_head.specs.Stored.{HasImage, stored_rows}
use Rattle.segment_head.specs.declared.stored.Stored.{Stored}

-- where the files of these segments are images, this is the reply over the rows of all
abbrev pub IsReply : Table → Files → List Stored → List ℕ → SqlReply → Type 0
IsReply table files stored sql reply =
    (segments : List (List (List Value))) → AllZip (HasImage table files) stored segments
    → sql_reply table false sql (stored_rows table segments) ≡ reply

-- the same for a query in its normal form
abbrev pub IsBoundReply : Table → Files → List Stored → BoundQuery → SqlReply → Type 0
IsBoundReply table files stored query reply =
    (segments : List (List (List Value))) → AllZip (HasImage table files) stored segments
    → replied (conjuncts_reply query (stored_rows table segments)) ≡ reply
