-- What a query's text is answered over the segments of a table with a line for each: its plan, and
-- how many documents were looked at.
use Rattle.std.specs.Prelude.{◌≡◌, ℕ, Bool, true, false, List, ◌∷◌, ◌++◌, flat_map, Ok, Err}
use Rattle.std.specs.List.{AllZip}
use Rattle.outside.specs.Files.{Files}
use Rattle.values.specs.declared.value.Value.{Value}
use Rattle.table_schema.specs.declared.query.BoundQuery.{BoundQuery}
use Rattle.table_schema.specs.declared.table.Table.{Table}
use Rattle.sql_reply.specs.Asked.{Asked, asked}
use Rattle.sql_reply.specs.SqlReply.{SqlReply, sql_reply, replied}
use Rattle.query_executor.specs.Answers.{IsBoundReply, IsReply}
use Rattle.query_executor.specs.Lines.{in_order, lines_of, stats_line}
use Rattle.segment_head.specs.Stored.{HasImage, names_of, stored_rows}
use Rattle.segment_head.specs.declared.stored.Stored.{Stored}
use Rattle.sql_reply.specs.Reply.{conjuncts_reply}

-- a reply, an empty line, and these lines
abbrev pub with_lines : List ℕ → SqlReply → SqlReply
with_lines lines (Ok text) = Ok (text ++ (10 ∷ lines))
with_lines lines (Err fault) = Err fault

-- the reply with a line for each segment, where the text is a query
abbrev pub stated_by : Table → List (List ℕ) → List (List (List Value)) → SqlReply → Asked
    → SqlReply
stated_by table names segments reply (Ok query) = with_lines
    (lines_of (stats_line query table) names segments) reply
stated_by table names segments reply (Err fault) = reply

-- what a query's text is answered over segments of these names, each with its rows in the order of
-- its file
abbrev pub stated : Table → List ℕ → List (List ℕ) → List (List (List Value)) → SqlReply
stated table sql names segments = stated_by table names segments
    (sql_reply table false sql (flat_map (λ rows. rows) segments)) (asked table false sql)

-- where the files of these segments are images, that is the answer
abbrev pub IsStated : Table → Files → List Stored → List ℕ → SqlReply → Type 0
IsStated table files stored sql reply =
    (segments : List (List (List Value))) → AllZip (HasImage table files) stored segments
    → stated table sql (names_of stored) (in_order table segments) ≡ reply

-- where the files of the segments are images, this is the reply to the query in its normal form
-- with a line for each
abbrev pub IsBoundStated : Table → Files → List Stored → BoundQuery → List ℕ → Type 0
IsBoundStated table files stored query text =
    (segments : List (List (List Value))) → AllZip (HasImage table files) stored segments
    → with_lines (lines_of (stats_line query table) (names_of stored) (in_order table segments))
    (replied (conjuncts_reply query (stored_rows table segments))) ≡ Ok text

-- ---- with lines or without

-- a text, and where they are wanted an empty line and these lines
abbrev pub text_with : Bool → List ℕ → List ℕ → List ℕ
text_with true text lines = text ++ (10 ∷ lines)
text_with false text lines = text

-- the answer to a query's text, with a line for each segment where that is wanted
abbrev pub IsReplyWith : Bool → Table → Files → List Stored → List ℕ → SqlReply → Type 0
IsReplyWith true table files stored sql reply = IsStated table files stored sql reply
IsReplyWith false table files stored sql reply = IsReply table files stored sql reply

-- the same for a query in its normal form
abbrev pub IsBoundWith : Bool → Table → Files → List Stored → BoundQuery → List ℕ → Type 0
IsBoundWith true table files stored query text = IsBoundStated table files stored query text
IsBoundWith false table files stored query text = IsBoundReply table files stored query (Ok text)
