-- The documents that the indexes of a query's conjuncts leave, by their sections.
use Rattle.std.specs.Prelude.{◌≡◌, ◌≤◌, ◌<◌, ◌&&◌, ◌⊎◌, ℕ, Bool, true, false, All, List, [], length, get_or, nat_lt, Option, Some, None, IfSome, slice_get}
use Rattle.std.specs.List.{list_all}
use Rattle.std.specs.Option.{IsSome}
use Rattle.outside.specs.Files.{Files}
use Rattle.outside.specs.Reads.{Entry}
use Rattle.values.specs.declared.test.Test.{Test}
use Rattle.value_ids.specs.Ids.{matching}
use Rattle.doc_lists.specs.Docs.{has_doc}
use Rattle.doc_lists.specs.Sets.{AreThose}
use Rattle.index_reader.specs.Buckets.{LogsBuckets, LogsBucketsPartly, is_to_check}
use Rattle.index_reader.specs.Documents.{Tells, TellsRanged, is_doc_of}
use Rattle.index_reader.specs.Logs.{LogsIds, LogsIdsPartly}
use Rattle.index_reader.specs.declared.kind.ListKind.{ListKind}
use Rattle.index_reader.specs.declared.kind.ListKind.TheVariants as kinds
use Rattle.table_schema.specs.declared.query.Conjunct.{Conjunct}
use Rattle.table_schema.specs.declared.query.Conjunct.TheVariants.{One, Many}
use Rattle.segment_head.specs.Heads.{IsLoaded, Seen, bytes_in, place_in}
use Rattle.segment_file.specs.declared.part.Part.{Part}
use Rattle.segment_file.specs.declared.part.Part.TheVariants as parts
use Rattle.segment_plan.specs.Choices.{are_consecutive}
use Rattle.segment_plan.specs.Matched.{values_in, count_in}
use Rattle.segment_plan.specs.declared.plans.IndexChoice.{IndexChoice}
use Rattle.segment_plan.specs.declared.plans.IndexChoice.TheVariants.{Sorted, Inverted, Range}
use Rattle.segment_plan.specs.Served.{choice_at}
use Rattle.segment_plan.specs.RowsLeft.{Chosen, first_of, is_indexed, is_near, last_of}

-- the section of a column of a kind
abbrev pub part_of : ListKind → ℕ → Part
part_of kinds.Sorted column = parts.Sorted column
part_of kinds.Inverted column = parts.Inverted column

-- the dictionary of the column was loaded, and the head says where its section of a kind is
pub record IsIndexed (head : Seen) (kind : ListKind) (column : ℕ) : Type 0 where
  pub loaded : IsLoaded head column
  pub placed : IsSome (place_in head.sections (part_of kind column))

-- the dictionary of the column was loaded, the head says where its range index is, and the ids that
-- satisfy the test follow one another
pub record IsRanged (head : Seen) (column : ℕ) (test : Test) : Type 0 where
  pub loaded : IsLoaded head column
  pub placed : IsSome (place_in head.sections (parts.Range column))
  pub consecutive : are_consecutive (matching test (values_in head column)) ≡ true

-- what a conjunct has of an index that serves it, or of a range index; another conjunct has the
-- last of these
abbrev pub OfIndex : (ListKind → ℕ → Test → Type 0) → (ℕ → Test → Type 0) → Type 0 → IndexChoice
    → Conjunct → Type 0
OfIndex P R other Sorted (One column test) = P kinds.Sorted column test
OfIndex P R other Inverted (One column test) = P kinds.Inverted column test
OfIndex P R other Range (One column test) = R column test
OfIndex P R other choice conjunct = other

-- the index of a conjunct can be read
abbrev pub IsReady : Seen → IndexChoice → Conjunct → Type 0
IsReady head choice conjunct = OfIndex (λ kind column test. IsIndexed head kind column)
    (λ column test. IsRanged head column test) (Unit {0}) choice conjunct

-- the section of a kind of a column tells these ids of the rows
abbrev pub TellsIds : Files → Seen → ListKind → ℕ → List ℕ → Type 0
TellsIds files head kind column ids = Tells kind (count_in head column) head.rows
    (bytes_in files (place_in head.sections (part_of kind column))) ids

-- the range index of a column tells these ids of the rows
abbrev pub TellsBuckets : Files → Seen → ℕ → List ℕ → Type 0
TellsBuckets files head column ids = TellsRanged (count_in head column) head.rows
    (bytes_in files (place_in head.sections (parts.Range column))) ids

-- the index of a conjunct tells the ids of its column
abbrev pub TellsIndexed : Files → Seen → (ℕ → List ℕ) → IndexChoice → Conjunct → Type 0
TellsIndexed files head ids choice conjunct =
    OfIndex (λ kind column test. TellsIds files head kind column (ids column))
    (λ column test. TellsBuckets files head column (ids column)) (Unit {0}) choice conjunct

-- whether a document is one of the rows, whose ids these are, and the bucket of its id overlaps
-- those of a set
abbrev pub is_doc_near : ℕ → List ℕ → List ℕ → ℕ → Bool
is_doc_near count set ids doc = nat_lt doc (length ids) && is_near count set (get_or ids doc 0)

-- the index of a conjunct leaves a document, by the ids of the rows in its column
abbrev pub leaves : Seen → (ℕ → List ℕ) → ℕ → IndexChoice → Conjunct → Bool
leaves head ids doc Range (One column test) = is_doc_near (count_in head column)
    (matching test (values_in head column)) (ids column) doc
leaves head ids doc choice (One column test) = is_doc_of (matching test (values_in head column))
    (ids column) doc
leaves head ids doc choice (Many condition) = true

-- each of these indexes leaves it
abbrev pub all_leave : Seen → (ℕ → List ℕ) → ℕ → List Chosen → Bool
all_leave head ids doc list = list_all (λ c. leaves head ids doc c.choice c.conjunct) list

-- each of these conjuncts, with its choice, has this
abbrev pub OfEach : (IndexChoice → Conjunct → Type 0) → List IndexChoice → List Conjunct → Type 0
OfEach P choices conjuncts = (at : ℕ) (conjunct : Conjunct) → slice_get conjuncts at ≡ Some conjunct
    → P (choice_at choices at) conjunct

-- the documents of rows that each of some indexes leaves, as far as the sections tell ids
pub record AreLeft (held : Option Files) (head : Seen) (choices : List IndexChoice)
    (conjuncts : List Conjunct) (list : List Chosen) (docs : List ℕ) : Type 0 where
  pub some : 0 < length list
  pub within : All (λ doc. doc < head.rows) docs
  pub told : IfSome held (λ files. (ids : ℕ → List ℕ) → OfEach
      (TellsIndexed files head ids) choices conjuncts → AreThose
      (λ doc. all_leave head ids doc list) docs)

-- the same, or no list where there is no index
abbrev pub Leaves : Option Files → Seen → List IndexChoice → List Conjunct → List Chosen
    → Option (List ℕ) → Type 0
Leaves held head choices conjuncts list None = list ≡ []
Leaves held head choices conjuncts list (Some docs) = AreLeft held head choices conjuncts list docs

-- ---- the documents that are not sure

-- whether the index of a conjunct says of a document, by the ids of the rows in its column, that
-- its id is to be checked
abbrev pub is_unsure : Seen → (ℕ → List ℕ) → ℕ → IndexChoice → Conjunct → Bool
is_unsure head ids doc Range (One column test) = is_to_check (count_in head column)
    (first_of (matching test (values_in head column))) (last_of
    (matching test (values_in head column))) (ids column) doc
is_unsure head ids doc choice conjunct = false

-- to some documents those came that are not sure of a conjunct, as far as its index tells ids
pub record AddsUnsure (held : Option Files) (head : Seen) (choice : IndexChoice)
    (conjunct : Conjunct) (old new : List ℕ) : Type 0 where
  pub kept : (doc : ℕ) → has_doc old doc ≡ true → has_doc new doc ≡ true
  pub told : IfSome held (λ files. (ids : ℕ → List ℕ) → TellsIndexed files head ids choice conjunct
      → (doc : ℕ) → is_unsure head ids doc choice conjunct ≡ true → has_doc new doc ≡ true)

-- each document that is not sure of one of the first so many conjuncts is among these, as far as
-- the sections tell ids
abbrev pub HasUnsure : Option Files → Seen → List IndexChoice → List Conjunct → ℕ → List ℕ → Type 0
HasUnsure held head choices conjuncts n unsure = IfSome held (λ files. (ids : ℕ → List ℕ)
    → OfEach (TellsIndexed files head ids) choices conjuncts
    → (at : ℕ) (conjunct : Conjunct) → at < n → slice_get conjuncts at ≡ Some conjunct → (doc : ℕ)
    → is_unsure head ids doc (choice_at choices at) conjunct ≡ true → has_doc unsure doc ≡ true)

-- ---- one conjunct

-- the documents of rows that the conjunct leaves, as far as its section tells ids
pub record IsLeftBy (held : Option Files) (head : Seen) (kind : ListKind) (column : ℕ) (test : Test)
    (docs : List ℕ) : Type 0 where
  pub within : All (λ doc. doc < head.rows) docs
  pub told : IfSome held (λ files. (ids : List ℕ) → TellsIds files head kind column ids
      → AreThose (is_doc_of (matching test (values_in head column)) ids) docs)

-- there is a list of these documents
abbrev pub IsFoundBy : Option Files → Seen → ListKind → ℕ → Test → Option (List ℕ) → Type 0
IsFoundBy held head kind column test None = ⊥
IsFoundBy held head kind column test (Some docs) = IsLeftBy held head kind column test docs

-- the documents of rows that the range index of a column leaves, as far as its section tells ids
pub record IsLeftNear (held : Option Files) (head : Seen) (column : ℕ) (test : Test) (docs : List ℕ)
    : Type 0 where
  pub within : All (λ doc. doc < head.rows) docs
  pub told : IfSome held (λ files. (ids : List ℕ) → TellsBuckets files head column ids
      → AreThose (is_doc_near (count_in head column) (matching test
      (values_in head column)) ids) docs)

-- there is a list of these documents
abbrev pub IsFoundNear : Option Files → Seen → ℕ → Test → Option (List ℕ) → Type 0
IsFoundNear held head column test None = ⊥
IsFoundNear held head column test (Some docs) = IsLeftNear held head column test docs

-- the documents of a conjunct that is indexed; for another one there is no list
abbrev pub LeavesBy : Option Files → Seen → IndexChoice → Conjunct → Option (List ℕ) → Type 0
LeavesBy held head choice conjunct None = is_indexed choice conjunct ≡ false
LeavesBy held head choice conjunct (Some docs) = OfIndex (λ kind column test.
    IsLeftBy held head kind column test docs) (λ column test.
    IsLeftNear held head column test docs) ⊥ choice conjunct

-- the first and the last of ids that ascend, or nothing where there is none
abbrev pub AreEndsOf : List ℕ → Option (ℕ × ℕ) → Type 0
AreEndsOf ids None = ids ≡ []
AreEndsOf ids (Some ends) = (ends.0 ≡ first_of ids) × (ends.1 ≡ last_of ids) × (ends.0 ≤ ends.1)
    × (0 < length ids)

-- the documents that are in both lists, or in the one that is there
abbrev pub AreInBoth : Option (List ℕ) → Option (List ℕ) → Option (List ℕ) → Type 0
AreInBoth None second both = both ≡ second
AreInBoth (Some first) None both = both ≡ Some first
AreInBoth (Some first) (Some second) None = ⊥
AreInBoth (Some first) (Some second) (Some both) = AreThose (λ doc. has_doc first doc
    && has_doc second doc) both

-- the part is the section of the index of a conjunct; where files are told it is not that of any
-- ids
abbrev pub IsBadIndex : Option Files → Seen → Part → IndexChoice → Conjunct → Type 0
IsBadIndex held head part choice conjunct = OfIndex
    (λ kind column test. (part ≡ part_of kind column) × IfSome held (λ files. (ids : List ℕ)
    → TellsIds files head kind column ids → ⊥))
    (λ column test. (part ≡ parts.Range column) × IfSome held (λ files. (ids : List ℕ)
    → TellsBuckets files head column ids → ⊥)) ⊥ choice conjunct

-- the same of one of these conjuncts
abbrev pub IsBadAny : Option Files → Seen → Part → List IndexChoice → List Conjunct → Type 0
IsBadAny held head part choices conjuncts = (at : ℕ) × (conjunct : Conjunct)
    × (slice_get conjuncts at ≡ Some conjunct) × IsBadIndex held head part
    (choice_at choices at) conjunct

-- ---- what is read

-- of the section of an index what it has of the ids of the values that satisfy the test
abbrev pub LogsIndex : Option Files → Seen → ListKind → ℕ → Test → Option (List Entry)
    → Option (List Entry) → Type 0
LogsIndex held head kind column test old new = IfSome (place_in head.sections (part_of kind column))
    (λ place.
    LogsIds kind (matching test (values_in head column)) held place
    (count_in head column) head.rows old new)

-- none or some of it
abbrev pub LogsIndexPartly : Option Files → Seen → ListKind → ℕ → Test → Option (List Entry)
    → Option (List Entry) → Type 0
LogsIndexPartly held head kind column test old new = IfSome (place_in head.sections
    (part_of kind column)) (λ place.
    LogsIdsPartly kind (matching test (values_in head column)) held place
    (count_in head column) head.rows old new)

-- of a range index what it has of the buckets that overlap the ids of these values
abbrev pub LogsRange : Option Files → Seen → ℕ → Test → Option (List Entry) → Option (List Entry)
    → Type 0
LogsRange held head column test old new = IfSome (place_in head.sections (parts.Range column))
    (λ place.
    LogsBuckets held place (count_in head column) head.rows (first_of
    (matching test (values_in head column))) (last_of (matching test
    (values_in head column))) old new)

-- none or some of it
abbrev pub LogsRangePartly : Option Files → Seen → ℕ → Test → Option (List Entry)
    → Option (List Entry) → Type 0
LogsRangePartly held head column test old new = (new ≡ old) ⊎ IfSome
    (place_in head.sections (parts.Range column)) (λ place.
    LogsBucketsPartly held place (count_in head column) head.rows
    (first_of (matching test (values_in head column))) (last_of
    (matching test (values_in head column))) old new)

-- the reads for a conjunct: of its index, where it is indexed
abbrev pub LogsIndexed : Option Files → Seen → IndexChoice → Conjunct → Option (List Entry)
    → Option (List Entry) → Type 0
LogsIndexed held head choice conjunct old new = OfIndex (λ kind column test.
    LogsIndex held head kind column test old new) (λ column test.
    LogsRange held head column test old new) (new ≡ old) choice conjunct

-- none or some of these reads
abbrev pub LogsIndexedPartly : Option Files → Seen → IndexChoice → Conjunct → Option (List Entry)
    → Option (List Entry) → Type 0
LogsIndexedPartly held head choice conjunct old new =
    OfIndex (λ kind column test. LogsIndexPartly held head kind column test old new)
    (λ column test. LogsRangePartly held head column test old new) (new ≡ old) choice conjunct

-- the reads for the conjunct at a place
abbrev pub LogsAt : Option Files → Seen → List IndexChoice → List Conjunct → ℕ → Option (List Entry)
    → Option (List Entry) → Type 0
LogsAt held head choices conjuncts at old new = (conjunct : Conjunct)
    → slice_get conjuncts at ≡ Some conjunct → LogsIndexed held head
    (choice_at choices at) conjunct old new

-- none or some of the reads for the conjunct at a place
abbrev pub LogsAtPartly : Option Files → Seen → List IndexChoice → List Conjunct → ℕ
    → Option (List Entry) → Option (List Entry) → Type 0
LogsAtPartly held head choices conjuncts at old new = (conjunct : Conjunct)
    → slice_get conjuncts at ≡ Some conjunct → LogsIndexedPartly held head
    (choice_at choices at) conjunct old new
