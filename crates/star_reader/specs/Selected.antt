-- Documents as they are selected, before their keys are made: with their ids in the group columns.
use Rattle.std.specs.Prelude.{◌≡◌, ℕ, ◌<◌, ◌≤◌, List, [], ◌∷◌, map, length, Option}
use Rattle.std.specs.List.{All}
use Rattle.values.specs.declared.value.Value.{Value}
use Rattle.outside.specs.Files.{Files}
use Rattle.agg_laws.specs.declared.tree_shape.TreeShape.{TreeShape}
use Rattle.agg_laws.specs.Rows.{row_weight}
use Rattle.state_columns.specs.Docs.{Doc, Docs}
use Rattle.agg_laws.specs.Merged.{rekey, weights}
use Rattle.agg_laws.specs.Tree.{dim}
use Rattle.star_file.specs.declared.docs_fault.DocsFault.{DocsFault}
use Rattle.star_file.specs.declared.docs_fault.DocsFault.TheVariants as docs
use Rattle.star_walk.specs.declared.pick.Pick.{Pick}
use Rattle.star_walk.specs.declared.task.Task.{Task}
use Rattle.star_walk.specs.Images.{read_of}
use Rattle.group_table.specs.Groups.{Group}
use Rattle.star_reader.specs.declared.asked.Asked.{Asked}
use Rattle.star_reader.specs.declared.asked.GroupColumn.{GroupColumn}
use Rattle.star_reader.specs.declared.tree_part.TreePart.{TreePart}
use Rattle.star_reader.specs.declared.fault.AnswerFault.{AnswerFault}
use Rattle.star_reader.specs.declared.fault.AnswerFault.TheVariants.{BadDocs, NoMemory, ReadFault}
use Rattle.star_reader.specs.Asked.{kinds_for, states_of, value_of}
use Rattle.star_reader.specs.Answers.{TellsRead, asked_of, passed}

-- the ids of a document in the group columns, in their order
abbrev pub key_ids : List GroupColumn → List ℕ → List ℕ
key_ids columns ids = map (λ column. dim column.dim ids) columns

-- a document as it is selected: these ids, with its states for the aggregates
abbrev pub selected_doc : Asked → Doc → Doc
selected_doc asked e = (key_ids asked.columns.now e.0, states_of asked.pairs.now e.1)

-- documents as they are selected, in their order
abbrev pub selected_docs : Asked → List Doc → List Doc
selected_docs asked docs = map (selected_doc asked) docs

-- the values of ids, one for each group column
abbrev pub key_values : List GroupColumn → List ℕ → List Value
key_values [] ids = []
key_values (column ∷ columns) [] = []
key_values (column ∷ columns) (id ∷ ids) = value_of column id ∷ key_values columns ids

-- what documents that are selected give to groups
abbrev pub keyed : List GroupColumn → List Doc → List Group
keyed columns docs = rekey (key_values columns) docs

-- each group column has a value for its id
abbrev pub AreKeyIds : List GroupColumn → List ℕ → Type 0
AreKeyIds [] [] = Unit {0}
AreKeyIds [] (id ∷ ids) = ⊥
AreKeyIds (column ∷ columns) [] = ⊥
AreKeyIds (column ∷ columns) (id ∷ ids) =
    (id < length column.values.now.values) × AreKeyIds columns ids

-- each document has such ids, and together they stand for at most so many rows
pub record MayBeSelected (columns : List GroupColumn) (rows : ℕ) (docs : List Doc) : Type 0 where
  pub keyed : All (λ e. AreKeyIds columns e.0) docs
  pub weight_fits : weights row_weight docs ≤ rows

-- a table of documents that are selected
pub record IsSelected (shape : TreeShape) (asked : Asked) (rows : ℕ) (table : Docs) : Type 0 where
  pub dims : table.dims ≡ length asked.columns.now
  pub kinds : table.kinds ≡ kinds_for asked.pairs.now shape.kinds
  pub may : MayBeSelected asked.columns.now rows table.docs

-- of the picks documents were read, which are those of the section where files are told, and the
-- table has those that pass their remaining tests
pub record ArePicked (tree : TreePart) (task : Task) (asked : Asked) (rows : ℕ)
    (held : Option Files) (ps : List Pick) (table : Docs) : Type 0 where
  pub read : List (List Doc)
  pub each : length read ≡ length ps
  pub told : TellsRead tree held ps read
  pub docs_are : table.docs
      ≡ selected_docs asked (passed (asked_of task) (length task.matched) ps read)
  pub at_most : length table.docs ≤ read_of ps
  pub selected : IsSelected tree.shape.now asked rows table

-- what the fault of documents is for an answer
abbrev pub fault_of : DocsFault → AnswerFault
fault_of docs.ReadFault = ReadFault
fault_of docs.BadDocs = BadDocs
fault_of docs.NoMemory = NoMemory
