-- The bytes that a query reads of a segment's file after its head, by the plan of the segment's
-- rows.
use Rattle.std.specs.Prelude.{◌≡◌, ◌≢◌, ◌≤◌, ◌<◌, ◌+◌, ◌*◌, ◌++◌, ℕ, suc, Bool, true, false, List, [], ◌∷◌, take, sum, length, get_or, Option, Some, IfSome, slice_get}
use Rattle.std.specs.List.{AllZip}
use Rattle.outside.specs.Files.{Files}
use Rattle.outside.specs.Reads.{Entry, read_in}
use Rattle.values.specs.declared.value.Value.{Value}
use Rattle.table_schema.specs.declared.query.BoundQuery.{BoundQuery}
use Rattle.table_schema.specs.declared.table.Table.{Table}
use Rattle.outside.specs.Stretches.{Stretch}
use Rattle.segment_file.specs.Front.{Front, front_size}
use Rattle.segment_file.specs.Image.{front_of, section_of}
use Rattle.segment_file.specs.Ordered.{ordered}
use Rattle.segment_file.specs.Parts.{head_sections, raw_sections}
use Rattle.segment_file.specs.declared.part.Part.TheVariants.{Forward}
use Rattle.segment_plan.specs.declared.plans.ScanPlan.{ScanPlan}
use Rattle.segment_plan.specs.declared.plans.SegmentPlan.{SegmentPlan}
use Rattle.segment_plan.specs.declared.plans.SegmentPlan.TheVariants.{Pruned, Empty, StarTree, Scan}
use Rattle.segment_plan.specs.Planned.{factors_over, plan_over}
use Rattle.segment_plan.specs.Named.{names_in, query_names}
use Rattle.segment_plan.specs.RowsLeft.{indexed}
use Rattle.segment_plan.specs.Served.{rest_of}
use Rattle.star_file.specs.Reading.{doc_width}
use Rattle.segment_reads.specs.Docs.{docs_read, product}
use Rattle.segment_head.specs.Stored.{HasImage, segment_at}
use Rattle.segment_head.specs.declared.stored.Stored.{Stored}
use Rattle.segment_reads.specs.Looked.{docs_by}

-- ---- where the sections after the head are

-- some sections of a file with this front, which follow one another: so many, after so many others
abbrev pub span_of : Table → List ℕ → Front → ℕ → ℕ → Stretch
span_of table name front before count = record {
  from = front_size table name + sum (take before front.sizes);
  to = front_size table name + sum (take (before + count) front.sizes);
}

-- the sections of the rows: the forward indexes, and where ids are
abbrev pub raw_span : Table → List ℕ → List (List Value) → Stretch
raw_span table name rows = span_of table name (front_of 1 table rows) (length (head_sections table))
    (length (raw_sections table))

-- the forward indexes, which follow the head
abbrev pub forward_span : Table → List ℕ → List (List Value) → Stretch
forward_span table name rows = span_of table name (front_of 1 table rows)
    (length (head_sections table)) (length table.schema.fields)

-- the forward index of a column
abbrev pub column_span : Table → List ℕ → List (List Value) → ℕ → Stretch
column_span table name rows column = span_of table name (front_of 1 table rows)
    (length (head_sections table) + column) 1

-- the documents of a star-tree
abbrev pub star_span : Table → List ℕ → List (List Value) → ℕ → Stretch
star_span table name rows t = span_of table name (front_of 1 table rows)
    (length (head_sections table) + length (raw_sections table) + t) 1

-- ---- what is read of them

-- how many bytes of a part of a segment's file these reads gave
abbrev pub bytes_read : List Entry → Stored → Stretch → ℕ
bytes_read entries segment span = read_in entries segment.file span.from span.to

-- just so many bytes where the query was answered, and at most so many where it was not
abbrev pub AreBytes : Bool → ℕ → ℕ → Type 0
AreBytes true bytes wanted = bytes ≡ wanted
AreBytes false bytes wanted = bytes ≤ wanted

-- nothing of the rows, and of no star-tree's documents
pub record ReadsNone (table : Table) (segment : Stored) (rows : List (List Value))
    (entries : List Entry) : Type 0 where
  pub raw : bytes_read entries segment (raw_span table segment.name rows) ≡ 0
  pub stars : (t : ℕ) → bytes_read entries segment (star_span table segment.name rows t) ≡ 0

-- nothing of the rows, and of this star-tree alone its documents: those that the query reads by
-- definition, which are no more than the stated product
pub record ReadsTree (query : BoundQuery) (table : Table) (segment : Stored)
    (rows : List (List Value)) (t : ℕ) (answered : Bool) (entries : List Entry) : Type 0 where
  pub raw : bytes_read entries segment (raw_span table segment.name rows) ≡ 0
  pub documents : IfSome (slice_get table.settings.trees t) (λ tree.
      AreBytes answered (bytes_read entries segment (star_span table segment.name rows t))
      (docs_read query table rows t * doc_width tree.shape))
  pub others : (other : ℕ) → other ≢ t
      → bytes_read entries segment (star_span table segment.name rows other) ≡ 0
  pub bounded : IfSome (slice_get table.settings.trees t) (λ tree. docs_read query table rows t
      ≤ tree.shape.leaf * product (factors_over query table rows tree))

-- how many columns are marked
abbrev pub marked_count : List Bool → ℕ
marked_count [] = 0
marked_count (true ∷ marks) = suc (marked_count marks)
marked_count (false ∷ marks) = marked_count marks

-- of no star-tree's documents anything, and of the forward indexes together at most four bytes for
-- each document that the indexes leave and each column that is named beside the conjuncts that the
-- indexes serve; where the query was answered and no conjunct has an index, at least all bytes of
-- the forward index of each column that it names
pub record ReadsScan (query : BoundQuery) (table : Table) (segment : Stored)
    (rows : List (List Value)) (plan : ScanPlan) (answered : Bool) (entries : List Entry)
    : Type 0 where
  pub stars : (t : ℕ) → bytes_read entries segment (star_span table segment.name rows t) ≡ 0
  pub forward : bytes_read entries segment (forward_span table segment.name rows)
      ≤ 4 * docs_by query table rows (Scan plan) * marked_count
      (names_in (rest_of query plan.choices) table)
  pub whole : answered ≡ true → indexed plan.choices query.conjuncts ≡ [] → (column : ℕ)
      → query_names query column ≡ true → length (section_of table rows (Forward column))
      ≤ bytes_read entries segment (column_span table segment.name rows column)

-- what is read by a plan
abbrev pub ReadsBy : BoundQuery → Table → Stored → List (List Value) → Bool → List Entry
    → SegmentPlan → Type 0
ReadsBy query table segment rows answered entries Pruned = ReadsNone table segment rows entries
ReadsBy query table segment rows answered entries Empty = ReadsNone table segment rows entries
ReadsBy query table segment rows answered entries
    (StarTree t) = ReadsTree query table segment rows t answered entries
ReadsBy query table segment rows answered entries
    (Scan plan) = ReadsScan query table segment rows plan answered entries

-- what is read of a segment that has these rows in this order: that of their plan
abbrev pub ReadsPlanned : BoundQuery → Table → Bool → Stored → List (List Value) → List Entry
    → Type 0
ReadsPlanned query table answered segment rows entries = ReadsBy query table segment rows answered
    entries (plan_over query table rows)

-- ---- of all segments

-- no two segments have one file
abbrev pub AreApart : List Stored → Type 0
AreApart stored = (i k : ℕ) → i < k → k < length stored
    → (segment_at stored i).file ≢ (segment_at stored k).file

-- the reads that a told log grew by have P
abbrev pub Grown : (List Entry → Type 0) → Option (List Entry) → Option (List Entry) → Type 0
Grown P old new = (before entries : List Entry) → old ≡ Some before → new ≡ Some (before ++ entries)
    → P entries

-- where files are told: if the segment's file is the image of rows, what was read of it has P
abbrev pub LogsOne : (Stored → List (List Value) → List Entry → Type 0) → Table → Option Files
    → Stored → Option (List Entry) → Option (List Entry) → Type 0
LogsOne P table held segment old new = Grown (λ entries. IfSome held
    (λ files. (rows : List (List Value)) → HasImage table files segment rows
    → P segment (ordered table.settings.sorted rows) entries)) old new

-- where files are told and are images, and no two have one file: what was read of each of the first
-- n segments has P
abbrev pub LogsEach : (Stored → List (List Value) → List Entry → Type 0) → Table → Option Files
    → List Stored → ℕ → Option (List Entry) → Option (List Entry) → Type 0
LogsEach P table held stored n old new = Grown (λ entries. IfSome held
    (λ files. (segments : List (List (List Value))) → AllZip (HasImage table files) stored segments
    → AreApart stored
    → (k : ℕ) → k < n → P (segment_at stored k) (ordered table.settings.sorted
    (get_or segments k [])) entries)) old new
