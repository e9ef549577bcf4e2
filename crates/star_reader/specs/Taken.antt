-- Those documents of a pick that pass their remaining tests are taken, part by part.
use Rattle.std.specs.Prelude.{◌≡◌, ℕ, ◌+◌, ◌-◌, ◌*◌, ◌≤◌, List, ◌++◌, length, Option, IfSome}
use Rattle.outside.specs.Files.{Files}
use Rattle.outside.specs.Reads.{Entry, LogsOn, LogsUpTo}
use Rattle.state_columns.specs.Docs.{Doc, Docs}
use Rattle.star_file.specs.Reading.{HasDocuments, doc_width, section}
use Rattle.star_walk.specs.declared.pick.Pick.{Pick}
use Rattle.star_walk.specs.declared.task.Task.{Task}
use Rattle.star_reader.specs.declared.asked.Asked.{Asked}
use Rattle.star_reader.specs.declared.tree_part.TreePart.{TreePart}
use Rattle.star_reader.specs.Answers.{IsTree, asked_of, left_of}
use Rattle.star_reader.specs.Asked.{AreAsked}
use Rattle.star_reader.specs.Selected.{IsSelected, MayBeSelected, selected_docs}

-- documents of a pick may be taken beside those that were selected
pub record CanTakePart (part : TreePart) (task : Task) (question : Asked) (rows : ℕ) (p : Pick)
    (table : Docs) : Type 0 where
  pub tree : IsTree part task
  pub asked : AreAsked part.shape.now question
  pub order : p.start ≤ p.end
  pub level : p.level ≤ length task.matched
  pub selected : IsSelected part.shape.now question rows table

-- those documents of a pick that pass, as they are selected
abbrev pub taken_of : Task → Asked → Pick → List Doc → List Doc
taken_of task asked p docs =
    selected_docs asked (left_of (asked_of task) (length task.matched) p.level docs)

-- where files are told, the section of the tree has these documents at a pick
abbrev pub TellsPart : TreePart → Option Files → Pick → List Doc → Type 0
TellsPart tree held p docs = IfSome held (λ files. HasDocuments tree.shape.now tree.counts.now
    p.start p.end (section files tree.documents.now) docs)

-- the documents of a pick were read, and those that pass were added
pub record TakesPart (tree : TreePart) (task : Task) (asked : Asked) (rows : ℕ)
    (held : Option Files) (p : Pick) (old new : Docs) : Type 0 where
  pub docs : List Doc
  pub told : TellsPart tree held p docs
  pub number : length docs ≡ p.end - p.start
  pub selected : IsSelected tree.shape.now asked rows new
  pub docs_are : new.docs ≡ old.docs ++ taken_of task asked p docs

-- where files are told, the section has no documents at a pick that may be selected beside others
abbrev pub RefusesPart : TreePart → Task → Asked → ℕ → Option Files → Pick → Docs → Type 0
RefusesPart tree task asked rows held p old = IfSome held (λ files. (docs : List Doc)
    → HasDocuments tree.shape.now tree.counts.now p.start p.end (section files tree.documents.now)
    docs → ¬ MayBeSelected asked.columns.now rows (old.docs ++ taken_of task asked p docs))

-- where a document begins in its file
abbrev pub place_of : TreePart → ℕ → ℕ
place_of tree at = tree.documents.now.offset + at * doc_width tree.shape.now

-- just the bytes of a pick were read
abbrev pub LogsPart : TreePart → Pick → Option (List Entry) → Option (List Entry) → Type 0
LogsPart tree p old new =
    LogsOn tree.documents.now.file (place_of tree p.start) (place_of tree p.end) old new

-- no more than these were read
abbrev pub LogsPartUpTo : TreePart → Pick → Option (List Entry) → Option (List Entry) → Type 0
LogsPartUpTo tree p old new =
    LogsUpTo tree.documents.now.file (place_of tree p.start) (place_of tree p.end) old new
