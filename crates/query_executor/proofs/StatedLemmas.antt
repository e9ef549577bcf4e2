-- The reply to a query with a line for each segment.
use Rattle.std.proofs.Common.{◌≡◌, ◌∙◌, ◌++◌, ◌∷◌, [], ℕ, Bool, true, false, List, map, length, Option, Some, None, IfSome, Ok, Err, refl, sym, ap, subst}
use Rattle.std.specs.List.{flat_map}
use Rattle.outside.specs.Files.{Files}
use Rattle.values.specs.declared.value.Value.{Value}
use Rattle.table_schema.specs.declared.query.BoundQuery.{BoundQuery}
use Rattle.table_schema.specs.declared.table.Table.{Table}
use Rattle.segment_file.specs.Ordered.{ordered}
use Rattle.sql_reply.specs.Asked.{asked}
use Rattle.sql_reply.specs.Reply.{conjuncts_reply}
use Rattle.sql_reply.specs.SqlReply.{replied, sql_reply}
use Rattle.sql_reply.specs.declared.fault.SqlFault.{SqlFault}
use Rattle.query_executor.specs.Answers.{IsBoundReply}
use Rattle.query_executor.specs.Lines.{in_order, lines_of, stats_line}
use Rattle.segment_head.specs.Stored.{names_of, stored_rows}
use Rattle.query_executor.specs.Stated.{IsBoundStated, IsBoundWith, IsReplyWith, IsStated, stated_by, text_with, with_lines}
use Rattle.query_executor.specs.Steps.{HasLines}
use Rattle.query_executor.proofs.LineLemmas.{lines_all}
use Rattle.query_executor.proofs.ReplyLemmas.{fault_so, reply_so}
use Rattle.segment_head.specs.declared.stored.Stored.{Stored}

-- the rows of all segments are those of each, one after the other
all_in_order : (f : List (List Value) → List (List Value)) (segments : List (List (List Value))) → flat_map (λ rows. rows) (map f segments) ≡ flat_map f segments
all_in_order f [] = refl
all_in_order f (rows ∷ segments) = ap (λ l. f rows ++ l) (all_in_order f segments)

module _ (query : BoundQuery) (table : Table) (stored : List Stored) where
  -- the reply, an empty line, and the lines
  pub bound_stated : (held : Option Files) (text lines all : List ℕ) → IfSome held (λ files. IsBoundReply table files stored query (Ok text)) → HasLines (stats_line query table) table held stored (length stored) lines → all ≡ text ++ (10 ∷ lines)
      → IfSome held (λ files. IsBoundStated table files stored query all)
  bound_stated None text lines all reply so is = tt
  bound_stated (Some files) text lines all reply so is = λ segments images.
      (λ i. with_lines (lines_all (stats_line query table) table stored files lines so segments images i) (reply segments images i))
      ∙ ap Ok (sym is)

  module _ (sql : List ℕ) where
    -- so the text has this reply
    pub stated_so : asked table false sql ≡ Ok query → ((rows : List (List Value)) → sql_reply table false sql rows ≡ replied (conjuncts_reply query rows)) → (held : Option Files) (all : List ℕ) → IfSome held (λ files. IsBoundStated table files stored query all)
        → IfSome held (λ files. IsStated table files stored sql (Ok all))
    stated_so is same None all stated = tt
    stated_so is same (Some files) all stated = λ segments images.
        let rows : List (List Value) = flat_map (λ rows. rows) (in_order table segments) in
        let lines : List ℕ = lines_of (stats_line query table) (names_of stored) (in_order table segments) in
        ap (stated_by table (names_of stored) (in_order table segments) (sql_reply table false sql rows)) is
        ∙ ap (λ r. with_lines lines (sql_reply table false sql r)) (all_in_order (ordered table.settings.sorted) segments)
        ∙ ap (with_lines lines) (same (stored_rows table segments))
        ∙ stated segments images

    -- or there are too many groups
    pub stated_fault : asked table false sql ≡ Ok query → ((rows : List (List Value)) → sql_reply table false sql rows ≡ replied (conjuncts_reply query rows)) → (held : Option Files) (fault : SqlFault)
        → IfSome held (λ files. IsBoundReply table files stored query (Err fault)) → IfSome held (λ files. IsStated table files stored sql (Err fault))
    stated_fault is same None fault reply = tt
    stated_fault is same (Some files) fault reply = λ segments images.
        let rows : List (List Value) = flat_map (λ rows. rows) (in_order table segments) in
        let lines : List ℕ = lines_of (stats_line query table) (names_of stored) (in_order table segments) in
        ap (stated_by table (names_of stored) (in_order table segments) (sql_reply table false sql rows)) is
        ∙ ap (λ r. with_lines lines (sql_reply table false sql r)) (all_in_order (ordered table.settings.sorted) segments)
        ∙ ap (with_lines lines) (same (stored_rows table segments) ∙ reply segments images)

-- a text that is no query
pub unasked_stated : (table : Table) (stored : List Stored) (sql : List ℕ) (fault : SqlFault) → asked table false sql ≡ Err fault → ((rows : List (List Value)) → sql_reply table false sql rows ≡ Err fault) → (held : Option Files) → IfSome held (λ files. IsStated table files stored sql (Err fault))
unasked_stated table stored sql fault is same None = tt
unasked_stated table stored sql fault is same (Some files) = λ segments images.
    let rows : List (List Value) = flat_map (λ rows. rows) (in_order table segments) in
    ap (stated_by table (names_of stored) (in_order table segments) (sql_reply table false sql rows)) is ∙ same rows

-- ---- with lines or without

module _ (query : BoundQuery) (table : Table) (stored : List Stored) where
  pub bound_with : (wanted : Bool) (held : Option Files) (text lines all : List ℕ) → IfSome held (λ files. IsBoundReply table files stored query (Ok text)) → (wanted ≡ true → HasLines (stats_line query table) table held stored (length stored) lines) → all ≡ text_with wanted text lines
      → IfSome held (λ files. IsBoundWith wanted table files stored query all)
  bound_with true held text lines all reply so is = bound_stated query table stored held text lines all reply (so refl) is
  bound_with false held text lines all reply so is = subst (λ t. IfSome held (λ files. IsBoundReply table files stored query (Ok t))) (sym is) reply

  module _ (sql : List ℕ) where
    pub with_so : asked table false sql ≡ Ok query → ((rows : List (List Value)) → sql_reply table false sql rows ≡ replied (conjuncts_reply query rows)) → (wanted : Bool) (held : Option Files) (all : List ℕ) → IfSome held (λ files. IsBoundWith wanted table files stored query all)
        → IfSome held (λ files. IsReplyWith wanted table files stored sql (Ok all))
    with_so is same true held all with = stated_so query table stored sql is same held all with
    with_so is same false held all with = reply_so table stored sql query same held (Ok all) with

    pub with_fault : asked table false sql ≡ Ok query → ((rows : List (List Value)) → sql_reply table false sql rows ≡ replied (conjuncts_reply query rows)) → (wanted : Bool) (held : Option Files) (fault : SqlFault)
        → IfSome held (λ files. IsBoundReply table files stored query (Err fault)) → IfSome held (λ files. IsReplyWith wanted table files stored sql (Err fault))
    with_fault is same true held fault reply = stated_fault query table stored sql is same held fault reply
    with_fault is same false held fault reply = reply_so table stored sql query same held (Err fault) reply

pub unasked_with : (table : Table) (stored : List Stored) (sql : List ℕ) (fault : SqlFault) → asked table false sql ≡ Err fault → ((rows : List (List Value)) → sql_reply table false sql rows ≡ Err fault) → (wanted : Bool) (held : Option Files) → IfSome held (λ files. IsReplyWith wanted table files stored sql (Err fault))
unasked_with table stored sql fault is same true held = unasked_stated table stored sql fault is same held
unasked_with table stored sql fault is same false held = fault_so table stored sql fault same held
