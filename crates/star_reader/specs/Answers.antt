-- The answer of a segment from a star-tree: which documents are read, what they do to groups, why
-- they are refused, and what is read of the section that has them.
use Rattle.std.specs.Prelude.{◌≡◌, ℕ, ◌+◌, ◌-◌, ◌*◌, ◌<◌, ◌≤◌, ◌^◌, ◌⊎◌, List, [], ◌∷◌, ◌++◌, length, map, Option, IfSome}
use Rattle.std.specs.List.{filter}
use Rattle.std.specs.FinMap as finite
use Rattle.outside.specs.Files.{Files}
use Rattle.outside.specs.Reads.{Entry}
use Rattle.agg_laws.specs.declared.tree_shape.TreeShape.{TreeShape}
use Rattle.state_columns.specs.Docs.{Doc}
use Rattle.star_tree.specs.Picks as asks
use Rattle.star_tree.specs.Picks.{holds_from}
use Rattle.star_file.specs.Reading.{doc_width, section, HasDocuments}
use Rattle.star_file.specs.Rules.{KeepAll}
use Rattle.star_walk.specs.declared.pick.Pick.{Pick}
use Rattle.star_walk.specs.declared.task.Task.{Task}
use Rattle.star_walk.specs.Walking.{task_of, tree_picks, HasEach}
use Rattle.star_walk.specs.Images.{AreWithin, read_of}
use Rattle.star_walk.specs.Coalescing.{coalesced}
use Rattle.outside.specs.Stretches.{LogsOver, LogsPartly, Stretch}
use Rattle.group_table.specs.Kept.{KeptGroups, groups_in}
use Rattle.star_reader.specs.declared.asked.Asked.{Asked}
use Rattle.star_reader.specs.declared.tree_part.TreePart.{TreePart}
use Rattle.star_reader.specs.Asked.{AreAsked, AreSound, IsTableFor, entries_of}
use Rattle.agg_laws.specs.Numbers.{most_stored, most_values}
use Rattle.scan_engine.specs.Scanned.{HaveAtMost}
use Rattle.group_table.specs.Groups.{with_entries}
use Rattle.star_reader.specs.Entries.{MergesEntries}

-- nodes of some documents that keep all rules, and a count for each dimension
pub record IsTree (tree : TreePart) (task : Task) : Type 0 where
  pub documents : ℕ
  pub at_most : documents < 2 ^ 32
  pub keep : KeepAll tree.shape.now tree.counts.now documents tree.nodes.now
  pub some_dims : 1 ≤ tree.shape.now.dims
  pub few_dims : tree.shape.now.dims ≤ 16
  pub few_kinds : length tree.shape.now.kinds ≤ 16
  pub counts : length tree.counts.now ≡ tree.shape.now.dims
  pub each : HasEach task.matched task.grouped
  pub entries : length task.matched ≡ tree.shape.now.dims

-- picks of a tree, of at most as many documents as a segment has rows, whose documents may be taken
-- for what a query asks
pub record CanTake (part : TreePart) (task : Task) (question : Asked) (rows : ℕ) (picks : List Pick)
    : Type 0 where
  pub tree : IsTree part task
  pub asked : AreAsked part.shape.now question
  pub within : (documents : ℕ) × AreWithin documents (length task.matched) picks
  pub at_most : read_of picks ≤ rows
  pub few_rows : rows ≤ most_stored

-- a tree of a segment of so many rows, what a query asks of it, and groups to which the answer may
-- be added
pub record CanAnswer (part : TreePart) (task : Task) (question : Asked) (rows : ℕ)
    (groups : KeptGroups) : Type 0 where
  pub tree : IsTree part task
  pub asked : AreAsked part.shape.now question
  pub table : IsTableFor part.shape.now question groups
  pub few_rows : rows ≤ most_stored
  pub fits : HaveAtMost (most_values - rows) (groups_in groups)

-- what is asked of each dimension
abbrev pub asked_of : Task → asks.Task
asked_of task = task_of task.matched task.grouped

-- the picks of the walk, and the same coalesced, as they are read
abbrev pub picks_of : TreePart → Task → List Pick
picks_of tree task = tree_picks (asked_of task) (length task.matched) tree.nodes.now

-- the picks as they are read: those that follow one another are one
abbrev pub reads_of : TreePart → Task → List Pick
reads_of tree task = coalesced (picks_of tree task)

-- the documents of picks, pick by pick, as the bytes of a section spell them
abbrev pub AreRead : TreeShape → List ℕ → List ℕ → List Pick → List (List Doc) → Type 0
AreRead shape counts bytes [] [] = Unit {0}
AreRead shape counts bytes [] (docs ∷ rest) = ⊥
AreRead shape counts bytes (p ∷ ps) [] = ⊥
AreRead shape counts bytes (p ∷ ps) (docs ∷ rest) =
    HasDocuments shape counts p.start p.end bytes docs × AreRead shape counts bytes ps rest

-- the documents that pass the tests of k dimensions from a level on
abbrev pub left_of : asks.Task → ℕ → ℕ → List Doc → List Doc
left_of t k level docs = filter (λ e. holds_from t (k - level) level e.0) docs

-- those of the picks that pass their remaining tests
abbrev pub passed : asks.Task → ℕ → List Pick → List (List Doc) → List Doc
passed t k [] read = []
passed t k (p ∷ ps) [] = []
passed t k (p ∷ ps) (docs ∷ rest) =
    left_of t k p.level docs ++ passed t k ps rest

-- where files are told, the section of the tree has these documents at the picks
abbrev pub TellsRead : TreePart → Option Files → List Pick → List (List Doc) → Type 0
TellsRead tree held ps read = IfSome held (λ files.
    AreRead tree.shape.now tree.counts.now (section files tree.documents.now) ps read)

-- the documents that are selected of those that were read
abbrev pub selected_of : TreePart → Task → List (List Doc) → List Doc
selected_of tree task read = passed (asked_of task) (length task.matched) (reads_of tree task) read

-- the documents of the picks were read, and those that pass their remaining tests were merged in
pub record Answers (tree : TreePart) (task : Task) (asked : Asked) (rows : ℕ) (held : Option Files)
    (old new : KeptGroups) : Type 0 where
  pub read : List (List Doc)
  pub told : TellsRead tree held (reads_of tree task) read
  pub sound : AreSound asked rows (selected_of tree task read)
  pub at_most : read_of (picks_of tree task) ≤ rows
  pub merged : MergesEntries rows (entries_of asked (selected_of tree task read)) old new

-- the documents of the picks were read, and with those that pass their remaining tests there are
-- more groups than there may be
pub record IsOverfull (tree : TreePart) (task : Task) (asked : Asked) (held : Option Files)
    (old : KeptGroups) : Type 0 where
  pub read : List (List Doc)
  pub told : TellsRead tree held (reads_of tree task) read
  pub over : old.most < finite.len
      (with_entries (groups_in old) (entries_of asked (selected_of tree task read)))

-- the picks have more documents than the segment has rows; or where files are told, the section has
-- no documents at the picks of which those that pass their remaining tests may be merged
abbrev pub IsBad : TreePart → Task → Asked → ℕ → Option Files → Type 0
IsBad tree task asked rows held =
    (rows < read_of (picks_of tree task))
    ⊎ IfSome held (λ files. (read : List (List Doc))
    → AreRead tree.shape.now tree.counts.now (section files tree.documents.now)
    (reads_of tree task) read → ¬ AreSound asked rows (selected_of tree task read))

-- where a section at an offset has the documents of a pick, each of so many bytes
abbrev pub stretch_of : ℕ → ℕ → Pick → Stretch
stretch_of offset width p = record { from = offset + p.start * width; to = offset + p.end * width }

-- the bytes that each pick has in the section of documents
abbrev pub stretches_of : TreePart → List Pick → List Stretch
stretches_of tree ps = map (stretch_of tree.documents.now.offset (doc_width tree.shape.now)) ps

-- of the section of documents just the bytes of the picks were read, one pick after the other
abbrev pub LogsPicks : TreePart → List Pick → Option (List Entry) → Option (List Entry) → Type 0
LogsPicks tree ps old new = LogsOver tree.documents.now.file (stretches_of tree ps) old new

-- no more than that was read
abbrev pub LogsSome : TreePart → List Pick → Option (List Entry) → Option (List Entry) → Type 0
LogsSome tree ps old new = LogsPartly tree.documents.now.file (stretches_of tree ps) old new
