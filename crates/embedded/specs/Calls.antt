-- What calls on a store inside a program do, and answer.
use Rattle.std.specs.Prelude.{◌≡◌, ◌<◌, ◌≤◌, ℕ, List, true, false, length, is_some, None, Result, Ok, Err, IsErrOf, OnErr}
use Rattle.std.specs.FinMap as map
use Rattle.outside.specs.Seen.{OnlyReads}
use Rattle.values.specs.declared.value.Value.{Value}
use Rattle.table_schema.specs.declared.table.Table.{Table}
use Rattle.segment_build.specs.Growing.{trees_fit}
use Rattle.segment_file.specs.Names.{IsSegmentName}
use Rattle.sql_reply.specs.SqlReply.{sql_reply}
use Rattle.table_store.specs.Calls.{OnlyPublishes, OnlyRemoves}
use Rattle.table_store.specs.Segments.{most_segments}
use Rattle.table_store.specs.Stands.{segment_of}
use Rattle.table_store.specs.State.{Segments}
use Rattle.table_store.specs.declared.fault.StoreFault.TheVariants as store
use Rattle.command_model.specs.Queried.{all_rows}
use Rattle.embedded.specs.Faults.{IsOutside}
use Rattle.embedded.specs.Rows.{Given}
use Rattle.embedded.specs.Stores.{Keeps, SeenStore}
use Rattle.embedded.specs.declared.fault.Fault.{Fault}
use Rattle.embedded.specs.declared.fault.Fault.TheVariants.{BadName, BadQuery, Store}

-- ---- a segment is built

-- the store has one segment more: there was none of the name, and fewer than the most
pub record IsBuilt (name : List ℕ) (given : Given) (segments : Segments) (new : SeenStore)
    : Type 0 where
  pub named : IsSegmentName name
  pub free : map.get segments name ≡ None
  pub room : map.len segments < most_segments
  pub rows : List (List Value)
  pub rows_are : given ≡ Ok rows
  pub keeps : Keeps new (map.insert segments name (segment_of new.table rows))

-- why a segment is not built
abbrev pub WhyNotBuilt : Table → List ℕ → Given → Segments → Fault → Type 0
WhyNotBuilt table name given segments BadName = ¬ IsSegmentName name
WhyNotBuilt table name given segments (Store store.NameTaken) = is_some (map.get segments name)
    ≡ true
WhyNotBuilt table name given segments (Store store.TooManySegments) = most_segments
    ≤ map.len segments
WhyNotBuilt table name given segments (Store store.TooLarge) = (rows : List (List Value))
    × (given ≡ Ok rows) × (trees_fit table rows ≡ false)
WhyNotBuilt table name given segments (Store other) = IsOutside (Store other)
WhyNotBuilt table name given segments other = given ≡ Err other

-- what comes of it, over the segments that there are
abbrev pub BuildsIn : List ℕ → Given → Segments → SeenStore → Result (Unit {0}) Fault → Type 0
BuildsIn name given segments new (Ok done) = IsBuilt name given segments new
BuildsIn name given segments new (Err why) = WhyNotBuilt new.table name given segments why

-- a segment of these rows is built under this name, or the files stay as they are
pub record Builds (name : List ℕ) (given : Given) (old new : SeenStore)
    (result : Result (Unit {0}) Fault) : Type 0 where
  pub table : new.table ≡ old.table
  pub builds : (segments : Segments) → Keeps old segments → BuildsIn name given segments new result
  pub kept : OnErr result (new.depot.held ≡ old.depot.held)
  pub leaves : OnlyPublishes (IsErrOf result (Store store.ReadFault))
      (IsErrOf result (Store store.WriteFault)) old.depot new.depot

-- ---- a segment is dropped

-- what comes of it, over the segments that there are
abbrev pub DropsFrom : List ℕ → Segments → SeenStore → Result (Unit {0}) Fault → Type 0
DropsFrom name segments new (Ok done) = (is_some (map.get segments name) ≡ true)
    × Keeps new (map.remove segments name)
DropsFrom name segments new (Err (Store store.NoSegment)) = map.get segments name ≡ None
DropsFrom name segments new (Err other) = IsOutside other

-- the segment of this name is taken away, or the files stay as they are
pub record Drops (name : List ℕ) (old new : SeenStore) (result : Result (Unit {0}) Fault)
    : Type 0 where
  pub table : new.table ≡ old.table
  pub drops : (segments : Segments) → Keeps old segments → DropsFrom name segments new result
  pub kept : OnErr result (new.depot.held ≡ old.depot.held)
  pub leaves : OnlyRemoves (IsErrOf result (Store store.ReadFault))
      (IsErrOf result (Store store.WriteFault)) old.depot new.depot

-- ---- the store is read

-- the names of the segments, ascending, unless a device failed or memory ran out
abbrev pub ListsOf : Segments → Result (List (List ℕ)) Fault → Type 0
ListsOf segments (Ok names) = names ≡ map.keys segments
ListsOf segments (Err why) = IsOutside why

-- the names are asked for, and nothing else happens
pub record Lists (old new : SeenStore) (result : Result (List (List ℕ)) Fault) : Type 0 where
  pub table : new.table ≡ old.table
  pub names : (segments : Segments) → Keeps old segments → ListsOf segments result
  pub leaves : OnlyReads (IsErrOf result (Store store.ReadFault)) old.depot new.depot

-- the reply to a query's text over the rows of all segments, or why it has none, unless a device
-- failed or memory ran out
abbrev pub AnswersOver : Table → List ℕ → Segments → Result (List ℕ) Fault → Type 0
AnswersOver table sql segments (Ok text) = sql_reply table false sql (all_rows segments) ≡ Ok text
AnswersOver table sql segments (Err (BadQuery why)) = sql_reply table false sql (all_rows segments)
    ≡ Err why
AnswersOver table sql segments (Err other) = IsOutside other

-- a query is answered, and nothing else happens
pub record Answers (sql : List ℕ) (old new : SeenStore) (result : Result (List ℕ) Fault)
    : Type 0 where
  pub table : new.table ≡ old.table
  pub answers : (segments : Segments) → Keeps old segments → AnswersOver old.table sql segments
      result
  pub leaves : OnlyReads (IsErrOf result (Store store.ReadFault)) old.depot new.depot
