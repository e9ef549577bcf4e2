-- The answer of a segment from a star-tree of its file: what it does to groups, how many documents
-- are read, why it is refused, and what is read of the file.
use Rattle.std.specs.Prelude.{◌≡◌, ◌≤◌, ◌+◌, ◌-◌, ◌⊎◌, true, ℕ, List, map, length, slice_get, Option, Some, IfSome}
use Rattle.std.specs.List.{AllByRecursion}
use Rattle.outside.specs.Files.{Files}
use Rattle.outside.specs.Reads.{Entry}
use Rattle.outside.specs.declared.place.Place.{Place}
use Rattle.values.specs.declared.value.Value.{Value}
use Rattle.agg_laws.specs.Numbers.{most_values}
use Rattle.table_schema.specs.ValidQuery.{IsValidQuery}
use Rattle.table_schema.specs.ValidTable.{IsValidTable}
use Rattle.eligibility.specs.Rule.{is_eligible}
use Rattle.segment_plan.specs.Matched.{AreLoaded}
use Rattle.segment_plan.specs.Named.{AreGroupsLoaded}
use Rattle.table_schema.specs.declared.query.BoundQuery.{BoundQuery}
use Rattle.table_schema.specs.declared.settings.TreeSetting.{TreeSetting}
use Rattle.table_schema.specs.declared.table.Table.{Table}
use Rattle.star_file.specs.Reading.{doc_width}
use Rattle.segment_file.specs.declared.part.Part.{Part}
use Rattle.segment_file.specs.declared.part.Part.TheVariants.{Star}
use Rattle.segment_head.specs.Calls.{IsNodesPart}
use Rattle.segment_head.specs.Heads.{IsHeadOf, LogsTree, OfWhole, Seen, place_in}
use Rattle.segment_file.specs.Ordered.{ordered}
use Rattle.segment_head.specs.Stored.{IsNoImage, IsOfImage}
use Rattle.outside.specs.Stretches.{LogsOver, LogsPartly, Stretch}
use Rattle.star_walk.specs.declared.pick.Pick.{Pick}
use Rattle.star_walk.specs.declared.task.Task.{Task}
use Rattle.star_walk.specs.Images.{read_of}
use Rattle.group_table.specs.Kept.{IsTableOf, KeptGroups, groups_in}
use Rattle.scan_engine.specs.Scanned.{AddsRows, HaveAtMost, IsOverfull, selected}
use Rattle.star_reader.specs.declared.asked.Asked.{Asked}
use Rattle.star_reader.specs.declared.tree_part.TreePart.{TreePart}
use Rattle.star_reader.specs.Answers.{IsBad, asked_of, stretch_of}
use Rattle.segment_reads.specs.Docs.{docs_read}
use Rattle.star_answer.specs.Served.{AsksFor}
use Rattle.star_answer.specs.Tasks.{AreColumnsOf, ArePairsOf, split_values}

-- the rows of an image that satisfy the filter, in their order
abbrev pub rows_of_image : BoundQuery → Table → List (List Value) → List (List Value)
rows_of_image query table rows = selected query (ordered table.settings.sorted rows)

-- the tree of this number may serve the query
pub record MayServe (query : BoundQuery) (trees : List TreeSetting) (tree : ℕ) : Type 0 where
  pub setting : TreeSetting
  pub at : slice_get trees tree ≡ Some setting
  pub eligible : is_eligible query setting ≡ true

-- a query over a segment of a table, which this tree may serve, whose head has all that the answer
-- names loaded, and groups of the query to which the rows of the segment may be added
pub record IsServable (query : BoundQuery) (table : Table) (head : Seen) (tree : ℕ)
    (groups : KeptGroups) : Type 0 where
  pub valid : IsValidTable table
  pub of_table : IsHeadOf table head
  pub query_valid : IsValidQuery table query
  pub eligible : MayServe query table.settings.trees tree
  pub loaded : AreLoaded query.conjuncts head
  pub groups_loaded : AreGroupsLoaded query.groups head
  pub of_query : IsTableOf query groups
  pub fits : HaveAtMost (most_values - head.rows) (groups_in groups)

-- ---- groups

-- a table for the groups of the query still, whose aggregates are of at most so many values more
pub record GrowsBy (query : BoundQuery) (rows : ℕ) (old new : KeptGroups) : Type 0 where
  pub of_query : IsTableOf query new
  pub most : new.most ≡ old.most
  pub fits : (n : ℕ) → HaveAtMost n (groups_in old) → HaveAtMost (n + rows) (groups_in new)

-- no more values were added than the segment has rows; where its file is told to be the image of
-- rows, those of them that satisfy the filter were
pub record AddsAnswer (query : BoundQuery) (table : Table) (held : Option Files) (head : Seen)
    (old new : KeptGroups) : Type 0 where
  pub grows : GrowsBy query head.rows old new
  pub told : IfSome held (λ files. (rows : List (List Value)) → IsOfImage table files rows head
      → (head.rows ≡ length rows)
      × AddsRows query (length rows) (rows_of_image query table rows) old new)

-- on the image of rows: with those that satisfy the filter there are more groups than there may be
abbrev pub IsAnswerOverfull : BoundQuery → Table → Option Files → Seen → KeptGroups → Type 0
IsAnswerOverfull query table held head old =
    IfSome held (λ files. (rows : List (List Value)) → IsOfImage table files rows head
    → IsOverfull query (rows_of_image query table rows) old)

-- ---- documents

-- so many documents were read: on the image of rows, as many as the query reads of the tree
pub record AreDocsRead (query : BoundQuery) (table : Table) (held : Option Files) (head : Seen)
    (tree count : ℕ) : Type 0 where
  pub at_most : count ≤ head.rows
  pub told : IfSome held (λ files. (rows : List (List Value)) → IsOfImage table files rows head
      → count ≡ docs_read query table (ordered table.settings.sorted rows) tree)

-- ---- why an answer is refused

-- what is read of a tree of a segment for a query: its documents are where the head says, its nodes
-- are those of the head, and its dimensions and pairs are asked for what the query asks of columns
pub record IsAskedOf (query : BoundQuery) (table : Table) (held : Option Files) (head : Seen)
    (tree : ℕ) (part : TreePart) (task : Task) (asked : Asked) : Type 0 where
  pub setting : TreeSetting
  pub at : slice_get table.settings.trees tree ≡ Some setting
  pub shape : part.shape.now ≡ setting.shape
  pub placed : place_in head.sections (Star tree) ≡ Some part.documents.now
  pub nodes : OfWhole table held head (λ whole. IfSome (slice_get whole.trees tree)
      (λ loaded. IfSome loaded (λ said. part.nodes.now ≡ said.nodes)))
  pub asks : AsksFor query setting.split (split_values head setting.split) (asked_of task)
  pub columns : AreColumnsOf query.groups setting.split (split_values head setting.split)
      asked.columns.now
  pub pairs : ArePairsOf query.aggs setting.pairs asked.pairs.now

-- the part is the section of the tree's documents: the query reads more of them than the segment
-- has rows, or where files are told the section ends early, spells no documents there, or spells
-- some that have no key or stand for too many rows
pub record AreBadDocs (query : BoundQuery) (table : Table) (held : Option Files) (head : Seen)
    (tree : ℕ) (part : Part) : Type 0 where
  pub named : part ≡ Star tree
  pub of : TreePart
  pub task : Task
  pub asked : Asked
  pub asks : IsAskedOf query table held head tree of task asked
  pub bad : IsBad of task asked head.rows held

-- the part is one of those that are read before the documents: the head, where the file ends too
-- early, the dictionary of a split dimension, or the nodes of the tree; a rule on the head fails
abbrev pub AreBadNodes : Table → Option Files → Seen → ℕ → Part → Type 0
AreBadNodes table held head tree part =
    IsNodesPart table tree part × OfWhole table held head (λ _. ⊥)

-- one of these two; in each case the file is the image of no rows
abbrev pub IsBadTree : BoundQuery → Table → Option Files → Seen → ℕ → Part → Type 0
IsBadTree query table held head tree part =
    (AreBadNodes table held head tree part ⊎ AreBadDocs query table held head tree part)
    × IsNoImage table held head

-- ---- what is read

-- a stretch of a file is in a place
pub record IsInside (place : Place) (s : Stretch) : Type 0 where
  pub from : place.offset ≤ s.from
  pub order : s.from ≤ s.to
  pub to : s.to ≤ place.offset + place.length

-- where the documents of picks are in the section of a tree
abbrev pub stretches_in : Place → TreeSetting → List Pick → List Stretch
stretches_in place setting picks =
    map (stretch_of place.offset (doc_width setting.shape)) picks

-- of the section of a tree's documents those of some picks were read, one pick after the other; on
-- the image of rows these are as many documents as the query reads of the tree, and in the section
pub record LogsDocs (Logs : List ℕ → List Stretch → Option (List Entry) → Option (List Entry)
    → Type 0) (query : BoundQuery) (table : Table) (held : Option Files) (head : Seen) (tree : ℕ)
    (old new : Option (List Entry)) : Type 0 where
  pub setting : TreeSetting
  pub setting_at : slice_get table.settings.trees tree ≡ Some setting
  pub place : Place
  pub place_at : place_in head.sections (Star tree) ≡ Some place
  pub picks : List Pick
  pub reads : Logs place.file (stretches_in place setting picks) old new
  pub told : IfSome held (λ files. (rows : List (List Value)) → IsOfImage table files rows head
      → (read_of picks ≡ docs_read query table (ordered table.settings.sorted rows) tree)
      × AllByRecursion (IsInside place) (stretches_in place setting picks))

-- the nodes of the tree were read, and then so many documents, each once
pub record LogsAnswer (query : BoundQuery) (table : Table) (held : Option Files) (head : Seen)
    (tree count : ℕ) (old new : Option (List Entry)) : Type 0 where
  pub between : Option (List Entry)
  pub nodes : LogsTree table head tree old between
  pub documents : LogsDocs LogsOver query table held head tree between new
  pub many : read_of documents.picks ≡ count

-- the same up to some document
pub record LogsSomeDocs (query : BoundQuery) (table : Table) (held : Option Files) (head : Seen)
    (tree : ℕ) (old new : Option (List Entry)) : Type 0 where
  pub between : Option (List Entry)
  pub nodes : LogsTree table head tree old between
  pub documents : LogsDocs LogsPartly query table held head tree between new

-- no more than that was read
abbrev pub LogsAnswerPartly : BoundQuery → Table → Option Files → Seen → ℕ
    → Option (List Entry) → Option (List Entry) → Type 0
LogsAnswerPartly query table held head tree old new =
    LogsTree table head tree old new ⊎ LogsSomeDocs query table held head tree old new
