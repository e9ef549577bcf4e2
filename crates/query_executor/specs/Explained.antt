-- What is said of the plans of the segments of a table for a query's text.
use Rattle.std.specs.Prelude.{◌≡◌, ℕ, false, List, Ok, Err}
use Rattle.std.specs.List.{AllZip}
use Rattle.outside.specs.Files.{Files}
use Rattle.values.specs.declared.value.Value.{Value}
use Rattle.table_schema.specs.declared.table.Table.{Table}
use Rattle.sql_reply.specs.Asked.{Asked, asked}
use Rattle.sql_reply.specs.SqlReply.{SqlReply}
use Rattle.segment_head.specs.Stored.{HasImage, names_of}
use Rattle.segment_head.specs.declared.stored.Stored.{Stored}
use Rattle.query_executor.specs.Lines.{in_order, lines_of, plan_line}

-- the lines for a query, or why there is none
abbrev pub lines_or : Table → List (List ℕ) → List (List (List Value)) → Asked → SqlReply
lines_or table names segments (Ok query) = Ok (lines_of (plan_line query table) names segments)
lines_or table names segments (Err fault) = Err fault

-- what is said for a query's text of segments of these names, each with its rows in the order of
-- its file
abbrev pub explained : Table → List ℕ → List (List ℕ) → List (List (List Value)) → SqlReply
explained table sql names segments = lines_or table names segments (asked table false sql)

-- where the files of these segments are images, this is said of them
abbrev pub IsExplained : Table → Files → List Stored → List ℕ → SqlReply → Type 0
IsExplained table files stored sql reply =
    (segments : List (List (List Value))) → AllZip (HasImage table files) stored segments
    → explained table sql (names_of stored) (in_order table segments) ≡ reply
