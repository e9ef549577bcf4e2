-- A scan of some documents of a segment: what it does to groups, and what it reads.
use Rattle.std.specs.Prelude.{◌≡◌, ◌≤◌, ◌<◌, ◌⊎◌, ℕ, All, Bool, List, length, Option, IfSome}
use Rattle.outside.specs.Files.{Files}
use Rattle.outside.specs.Reads.{Entry}
use Rattle.values.specs.declared.value.Value.{Value}
use Rattle.doc_lists.specs.Docs.{Apart, docs_of}
use Rattle.doc_lists.specs.declared.run.Run.{Run}
use Rattle.table_schema.specs.declared.query.BoundQuery.{BoundQuery}
use Rattle.group_table.specs.Kept.{KeptGroups}
use Rattle.scan_engine.specs.Places.{rows_at}
use Rattle.scan_engine.specs.Scanned.{AddsRows, selected}
use Rattle.segment_head.specs.Heads.{Seen}
use Rattle.segment_plan.specs.declared.plans.IndexChoice.{IndexChoice}
use Rattle.coded_columns.specs.Coded.{most_rows}
use Rattle.column_reader.specs.Bytes.{GrowsBy, most_bytes}
use Rattle.column_reader.specs.Picked.{LogsPicked, LogsPickedPartly}
use Rattle.segment_scan.specs.Scans.{columns_read}
use Rattle.outside.specs.Series.{LogsPartOf, LogsTo}
use Rattle.segment_plan.specs.Served.{rest_of}

-- those of the rows of documents that satisfy the conjuncts that are not served
abbrev pub selected_docs : BoundQuery → List IndexChoice → Files → Seen → List Bool → List ℕ
    → List (List Value)
selected_docs query choices files head named docs = selected (rest_of query choices)
    (rows_at (columns_read files head 0 named) docs)

-- some rows were added, as many as the documents at most; where files are told, those of the
-- documents that satisfy the conjuncts that are not served
pub record AddsDocs (query : BoundQuery) (choices : List IndexChoice) (held : Option Files)
    (head : Seen) (named : List Bool) (docs : List ℕ) (old new : KeptGroups) : Type 0 where
  pub rows : List (List Value)
  pub adds : AddsRows query (length docs) rows old new
  pub told : IfSome held (λ files. rows ≡ selected_docs query choices files head named docs)

-- documents of a segment, which has no more rows than a scan takes
pub record AreDocsOf (head : Seen) (docs : List ℕ) : Type 0 where
  pub few_rows : head.rows ≤ most_rows
  pub within : All (λ doc. doc < head.rows) docs

-- of the columns that are named the ids of the documents were read, by runs of documents that
-- follow one another, one read a run: at most four bytes a document and column
abbrev pub LogsDocs : Seen → List Bool → List ℕ → Option (List Entry) → Option (List Entry) → Type 0
LogsDocs head named docs old new = (runs : List Run) × Apart 0 runs × (docs_of runs ≡ docs)
    × LogsTo (LogsPicked head runs named) (length named) old new
    × GrowsBy (most_bytes named docs) old new

-- none or some of them
abbrev pub LogsDocsPartly : Seen → List Bool → List ℕ → Option (List Entry) → Option (List Entry)
    → Type 0
LogsDocsPartly head named docs old new = (new ≡ old) ⊎ ((runs : List Run) × Apart 0 runs
    × (docs_of runs ≡ docs) × LogsPartOf (LogsPicked head runs named)
    (LogsPickedPartly head runs named) (length named) old new)
