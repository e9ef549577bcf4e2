-- Segments whose file is the image of rows, and what a scan of them does to groups.
use Rattle.std.specs.Prelude.{◌≡◌, ◌≤◌, ◌<◌, ◌+◌, ◌&&◌, ◌⊎◌, ◌++◌, ℕ, true, false, not, All, Bool, List, [], map, length, get_or, slice_get, Option, Some, IfSome}
use Rattle.std.specs.List.{range_with_len}
use Rattle.std.specs.List.Sorted.{IsStrictlyIncreasing}
use Rattle.outside.specs.Files.{Files}
use Rattle.outside.specs.Reads.{Entry}
use Rattle.values.specs.declared.value.Value.{Value}
use Rattle.values.specs.Columns.{row_of, rows_of}
use Rattle.doc_lists.specs.Docs.{has_doc}
use Rattle.doc_lists.specs.Sets.{AreThose}
use Rattle.table_schema.specs.Conditions.{conjunct_holds}
use Rattle.table_schema.specs.declared.query.BoundQuery.{BoundQuery}
use Rattle.table_schema.specs.declared.query.Conjunct.{Conjunct}
use Rattle.table_schema.specs.declared.table.Table.{Table}
use Rattle.table_schema.specs.ValidTable.{IsValidTable}
use Rattle.group_table.specs.Kept.{KeptGroups}
use Rattle.scan_engine.specs.Scanned.{AddsRows, IsOverfull, selected}
use Rattle.segment_file.specs.declared.part.Part.{Part}
use Rattle.segment_file.specs.declared.part.Part.TheVariants.{Forward}
use Rattle.segment_head.specs.Heads.{IsHeadOf, IsLoaded, Seen}
use Rattle.segment_file.specs.Ordered.{ordered}
use Rattle.segment_head.specs.Stored.{IsOfImage, IsNoImage}
use Rattle.segment_plan.specs.Choices.{choice_of}
use Rattle.segment_plan.specs.declared.plans.IndexChoice.{IndexChoice}
use Rattle.segment_plan.specs.declared.plans.IndexChoice.TheVariants.{Range}
use Rattle.segment_scan.specs.Agreement.{Agree, AgreeAll}
use Rattle.segment_scan.specs.Documents.{LogsDocs, LogsDocsPartly, selected_docs}
use Rattle.column_reader.specs.Forward.{HasIds, IsReadable, LogsColumns, LogsSome}
use Rattle.index_filter.specs.Indexes.{AreLeft, HasUnsure, IsBadAny, LogsAt, LogsAtPartly, OfEach, TellsIndexed, all_leave, is_unsure, leaves}
use Rattle.outside.specs.Series.{LogsPartOf, LogsTo}
use Rattle.segment_plan.specs.Served.{choice_at, rest_of}
use Rattle.segment_plan.specs.RowsLeft.{Chosen, all_left, indexed, is_indexed, rows_left, sure_choices}
use Rattle.segment_plan.specs.Named.{query_names, AreNamedLoaded, names_in}
use Rattle.segment_scan.specs.Scans.{columns_read, selected_read, table_read}

-- ---- the choices of a plan

-- the choice for each conjunct of the query
abbrev pub choices_for : BoundQuery → Table → Seen → List IndexChoice
choices_for query table head = map (choice_of table.settings head) query.conjuncts

-- the conjuncts that are indexed
abbrev pub indexed_for : BoundQuery → Table → Seen → List Chosen
indexed_for query table head = indexed (choices_for query table head) query.conjuncts

-- the query that is left for the rows that the indexes leave
abbrev pub rest_for : BoundQuery → Table → Seen → BoundQuery
rest_for query table head = rest_of query (choices_for query table head)

-- the documents that the indexes leave, as far as their sections tell ids
abbrev pub AreLeftFor : BoundQuery → Table → Option Files → Seen → List ℕ → Type 0
AreLeftFor query table held head docs = AreLeft held head
    (choices_for query table head) query.conjuncts (indexed_for query table head) docs

-- the query that is left for those of these rows that are sure
abbrev pub sure_for : BoundQuery → Table → Seen → BoundQuery
sure_for query table head = rest_of query (sure_choices (choices_for query table head))

-- the documents that are not sure are among these, as far as the sections of the indexes tell ids
abbrev pub HasUnsureFor : BoundQuery → Table → Option Files → Seen → List ℕ → Type 0
HasUnsureFor query table held head unsure = HasUnsure held head
    (choices_for query table head) query.conjuncts (length query.conjuncts) unsure

-- what the indexes leave by the choices of a plan: these documents in ascending order, and those
-- that are not sure among others
pub record AreLeftBy (query : BoundQuery) (table : Table) (held : Option Files) (head : Seen)
    (choices : List IndexChoice) (docs others : List ℕ) : Type 0 where
  pub planned : choices ≡ choices_for query table head
  pub left : AreLeftFor query table held head docs
  pub ascend : IsStrictlyIncreasing docs
  pub unsure : HasUnsureFor query table held head others

-- documents in two parts: those that are to be checked, and those that are sure
pub record AreParts (docs unsure check sure : List ℕ) : Type 0 where
  pub checks : AreThose (λ doc. has_doc docs doc && has_doc unsure doc) check
  pub sures : AreThose (λ doc. has_doc docs doc && not (has_doc unsure doc)) sure

-- ---- images

-- on the image of rows, what is read of them agrees with them in the columns that the query names,
-- and no id is refused
pub record ReadsImage (query : BoundQuery) (table : Table) (files : Files)
    (rows : List (List Value)) (head : Seen) : Type 0 where
  pub count : head.rows ≡ length rows
  pub agree : AgreeAll (query_names query) (rows_of (table_read files head (names_in query table)))
      (ordered table.settings.sorted rows)
  pub readable : (column : ℕ) → query_names query column ≡ true → HasIds files head column
  pub each : (at : ℕ) → at < length rows → Agree (query_names query)
      (row_of (columns_read files head 0 (names_in query table)) at)
      (get_or (ordered table.settings.sorted rows) at [])

-- so it is for every query and every image of rows
abbrev pub ImagesRead : Type 0
ImagesRead =
    (query : BoundQuery) (table : Table) (files : Files) (rows : List (List Value)) (head : Seen)
    → IsValidTable table → IsHeadOf table head → AreNamedLoaded query head
    → IsOfImage table files rows head → ReadsImage query table files rows head

-- on the image of rows the indexes leave just the documents of the rows that they are to leave,
-- their sections tell ids, and a document that a range index leaves for sure satisfies the conjunct
pub record LeavesImage (query : BoundQuery) (table : Table) (files : Files)
    (rows : List (List Value)) (head : Seen) : Type 0 where
  pub size : length (ordered table.settings.sorted rows) ≡ length rows
  pub ids : ℕ → List ℕ
  pub tells : OfEach (TellsIndexed files head ids) (choices_for query table head) query.conjuncts
  pub sure : (at doc : ℕ) (conjunct : Conjunct) → slice_get query.conjuncts at ≡ Some conjunct
      → choice_at (choices_for query table head) at ≡ Range → is_indexed Range conjunct ≡ true
      → doc < length rows
      → leaves head ids doc Range conjunct ≡ true → is_unsure head ids doc Range conjunct ≡ false
      → conjunct_holds (get_or (ordered table.settings.sorted rows) doc []) conjunct ≡ true
  pub left : (at : ℕ) → at < length rows → all_leave head ids at (indexed_for query table head)
      ≡ all_left (ordered table.settings.sorted rows) (get_or
      (ordered table.settings.sorted rows) at []) (indexed_for query table head)

-- so it is for every query and every image of rows
abbrev pub ImagesLeave : Type 0
ImagesLeave =
    (query : BoundQuery) (table : Table) (files : Files) (rows : List (List Value)) (head : Seen)
    → IsValidTable table → IsHeadOf table head → AreNamedLoaded query head
    → IsOfImage table files rows head → LeavesImage query table files rows head

-- a loaded column of a head of a table is one that can be read
abbrev pub LoadedAreReadable : Type 0
LoadedAreReadable = (table : Table) (head : Seen) (column : ℕ) → IsHeadOf table head
    → IsLoaded head column → IsReadable head column

-- ---- the rows that are added

-- of the documents that the indexes leave, those to be checked that satisfy the conjuncts that are
-- not served, and those that are sure that satisfy the others of these than the conjuncts of range
-- indexes
pub record AreOfParts (query : BoundQuery) (table : Table) (files : Files) (head : Seen)
    (rows : List (List Value)) : Type 0 where
  pub docs : List ℕ
  pub unsure : List ℕ
  pub check : List ℕ
  pub sure : List ℕ
  pub left : AreLeftFor query table (Some files) head docs
  pub has : HasUnsureFor query table (Some files) head unsure
  pub parts : AreParts docs unsure check sure
  pub rows_are : rows ≡ selected_docs query (choices_for query table head) files head
      (names_in (rest_for query table head) table) check
      ++ selected_docs query (sure_choices (choices_for query table head)) files head
      (names_in (sure_for query table head) table) sure

-- the rows of the segment that satisfy the filter, where no conjunct is indexed; else those of the
-- documents that the indexes leave, in two parts
abbrev pub AreRead : BoundQuery → Table → Files → Seen → List (List Value) → Type 0
AreRead query table files head rows =
    ((indexed_for query table head ≡ []) × (rows ≡ selected_read query files head
    (names_in query table))) ⊎ AreOfParts query table files head rows

-- some rows were added, as many as the segment has at most: where files are told, those that are
-- read of it; where its file is told to be the image of rows, those of them that satisfy the filter
pub record AddsImage (query : BoundQuery) (table : Table) (held : Option Files) (head : Seen)
    (old new : KeptGroups) : Type 0 where
  pub added : List (List Value)
  pub adds : AddsRows query head.rows added old new
  pub read : IfSome held (λ files. AreRead query table files head added)
  pub told : IfSome held (λ files. (rows : List (List Value)) → IsOfImage table files rows head
      → (head.rows ≡ length rows) × AddsRows query (length rows)
      (selected query (ordered table.settings.sorted rows)) old new)

-- where files are told: with the rows that are read of the segment there are more groups than there
-- may be; on the image of rows, with those of them that satisfy the filter
abbrev pub IsImageOverfull : BoundQuery → Table → Option Files → Seen → KeptGroups → Type 0
IsImageOverfull query table held head old =
    IfSome held (λ files. ((added : List (List Value)) × AreRead query table files head added
    × IsOverfull query added old) × ((rows : List (List Value)) → IsOfImage table files rows head
    → IsOverfull query (selected query (ordered table.settings.sorted rows)) old))

-- the number of rows that the indexes leave: all where no conjunct is indexed; on the image of rows
-- those that each index leaves
pub record AreDocs (query : BoundQuery) (table : Table) (held : Option Files) (head : Seen)
    (count : ℕ) : Type 0 where
  pub at_most : count ≤ head.rows
  pub all : indexed_for query table head ≡ [] → count ≡ head.rows
  pub told : IfSome held (λ files. (rows : List (List Value)) → IsOfImage table files rows head
      → count ≡ length (rows_left query (choices_for query table head)
      (ordered table.settings.sorted rows)))

-- ---- why a scan is refused

-- the part is the forward section of a column that the query names; where files are told it has no
-- id below the count for each row
abbrev pub IsBadForward : BoundQuery → Option Files → Seen → Part → Type 0
IsBadForward query held head part =
    (column : ℕ) × (query_names query column ≡ true) × (part ≡ Forward column)
    × IfSome held (λ files. ¬ HasIds files head column)

-- the part is the forward section of a column that is read, or the section of the index of a
-- conjunct; its file is the image of no rows
abbrev pub IsBadIn : BoundQuery → Table → Option Files → Seen → Part → Type 0
IsBadIn query table held head part =
    (IsBadForward (rest_for query table head) held head part
    ⊎ IsBadAny held head part (choices_for query table head) query.conjuncts)
    × IsNoImage table held head

-- ---- what is read

-- the reads for the conjuncts that are indexed, in their order
abbrev pub LogsIndexes : BoundQuery → Table → Option Files → Seen → Option (List Entry)
    → Option (List Entry) → Type 0
LogsIndexes query table held head old new = LogsTo (LogsAt held head
    (choices_for query table head) query.conjuncts) (length query.conjuncts) old new

-- of documents of rows in two parts the ids were read: of those to be checked in the columns of
-- some marks, and of those that are sure in the columns of others
pub record LogsParts (head : Seen) (named others : List Bool) (docs : List ℕ)
    (old new : Option (List Entry)) : Type 0 where
  pub check : List ℕ
  pub sure : List ℕ
  pub count : length check + length sure ≡ length docs
  pub check_within : All (λ doc. doc < head.rows) check
  pub sure_within : All (λ doc. doc < head.rows) sure
  pub between : Option (List Entry)
  pub checked : LogsDocs head named check old between
  pub surely : LogsDocs head others sure between new

-- none or some of them
pub record LogsPartsPartly (head : Seen) (named others : List Bool) (docs : List ℕ)
    (old new : Option (List Entry)) : Type 0 where
  pub check : List ℕ
  pub sure : List ℕ
  pub count : length check + length sure ≡ length docs
  pub check_within : All (λ doc. doc < head.rows) check
  pub sure_within : All (λ doc. doc < head.rows) sure
  pub some : LogsDocsPartly head named check old new ⊎ ((between : Option (List Entry))
      × LogsDocs head named check old between × LogsDocsPartly head others sure between new)

-- of the documents that the indexes leave ids were read so, in the columns that are named beside
-- the served conjuncts, and in those that are named beside the conjuncts of range indexes too
abbrev pub LogsLeft : (Seen → List Bool → List Bool → List ℕ → Option (List Entry)
    → Option (List Entry) → Type 0) → BoundQuery → Table → Seen → List ℕ → Option (List Entry)
    → Option (List Entry) → Type 0
LogsLeft Logs query table head docs old new =
    Logs head (names_in (rest_for query table head) table)
    (names_in (sure_for query table head) table) docs old new

-- where no conjunct is indexed, each column that the query names was read once, one after the
-- other; else the sections of the indexes were, and then the ids of the documents that the indexes
-- leave: of those to be checked in each column that is named beside the served conjuncts, and of
-- those that are sure in each that is named beside the conjuncts of range indexes too
abbrev pub LogsScan : BoundQuery → Table → Option Files → Seen → ℕ → Option (List Entry)
    → Option (List Entry) → Type 0
LogsScan query table held head count old new =
    ((indexed_for query table head ≡ []) × LogsColumns head (names_in query table)
    (length table.schema.fields) old new)
    ⊎ ((docs : List ℕ) × AreLeftFor query table held head docs × (count ≡ length docs)
    × (between : Option (List Entry)) × LogsIndexes query table held head old between
    × LogsParts head (names_in (rest_for query table head) table)
    (names_in (sure_for query table head) table) docs between new)

-- no more than that was read
abbrev pub LogsScanPartly : BoundQuery → Table → Option Files → Seen → Option (List Entry)
    → Option (List Entry) → Type 0
LogsScanPartly query table held head old new =
    ((indexed_for query table head ≡ []) × LogsSome head (names_in query table) old new)
    ⊎ (LogsPartOf (LogsAt held head (choices_for query table head) query.conjuncts)
    (LogsAtPartly held head (choices_for query table head) query.conjuncts)
    (length query.conjuncts) old new
    ⊎ ((docs : List ℕ) × AreLeftFor query table held head docs × (between : Option (List Entry))
    × LogsIndexes query table held head old between
    × LogsPartsPartly head (names_in (rest_for query table head) table)
    (names_in (sure_for query table head) table) docs between new))

-- ---- all rows of a segment

-- the same where all rows are looked at
pub record AddsWhole (query : BoundQuery) (table : Table) (held : Option Files) (head : Seen)
    (old new : KeptGroups) : Type 0 where
  pub added : List (List Value)
  pub adds : AddsRows query head.rows added old new
  pub read : IfSome held (λ files. added ≡ selected_read query files head (names_in query table))
  pub told : IfSome held (λ files. (rows : List (List Value)) → IsOfImage table files rows head
      → (head.rows ≡ length rows) × AddsRows query (length rows)
      (selected query (ordered table.settings.sorted rows)) old new)

-- with the rows that satisfy the filter, found without an index, there are too many groups
abbrev pub IsWholeOverfull : BoundQuery → Table → Option Files → Seen → KeptGroups → Type 0
IsWholeOverfull query table held head old =
    IfSome held (λ files. IsOverfull query (selected_read query files head
    (names_in query table)) old × ((rows : List (List Value)) → IsOfImage table files rows head
    → IsOverfull query (selected query (ordered table.settings.sorted rows)) old))

-- why such a scan is refused: a named column has a bad forward section, and its file is no image
abbrev pub IsBadWhole : BoundQuery → Table → Option Files → Seen → Part → Type 0
IsBadWhole query table held head part =
    (column : ℕ) × (query_names query column ≡ true) × (part ≡ Forward column)
    × IfSome held (λ files. (¬ HasIds files head column) × ((rows : List (List Value))
    → ¬ IsOfImage table files rows head))
