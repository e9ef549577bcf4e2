-- A segment goes while cursors are open that were opened over it: where its rows stand from then
-- on.
use Rattle.std.specs.Prelude.{◌≡◌, ◌≤◌, ◌⊎◌, ℕ, Bool, true, false, List, [], ◌∷◌, drop, length, map, Option, Some, None, if◌then◌else◌}
use Rattle.std.specs.Global.{Vec}
use Rattle.std.specs.List.{list_any}
use Rattle.outside.specs.Files.{Files, bytes_of, with_file, without_file}
use Rattle.segment_file.specs.Names.{file_of}
use Rattle.table_store.specs.Kept.{kept_name}
use Rattle.serving.specs.Closed.{has_file, is_file}
use Rattle.serving.specs.declared.aside.Aside.{Aside}
use Rattle.cursors.specs.declared.cursor.Cursor.{Cursor}

-- ---- the kept file

-- a cursor has a file for each of the segments that it has answered
abbrev pub HasAnsweredFiles : Cursor → Type 0
HasAnsweredFiles cursor = cursor.answered ≤ length cursor.files.items

-- whether some cursor has still to answer a segment whose rows stand in this file
abbrev pub is_awaited_in : List ℕ → List Cursor → Bool
is_awaited_in file cursors =
    list_any (λ cursor. has_file file (drop cursor.answered cursor.files.items)) cursors

-- the name that the file of a segment is kept under from a line on, if it is kept
abbrev pub kept_if : Bool → List ℕ → ℕ → Option (List ℕ)
kept_if false name line = None
kept_if true name line = Some (kept_name name line)

-- the told files with a copy of a file under the name that it is kept under, if it is kept
abbrev pub with_copy : Option (List ℕ) → List ℕ → Option Files → Option Files
with_copy None file held = held
with_copy (Some kept) file held = with_file kept (bytes_of held file) held

-- the told files without one of this name, if there is a name
abbrev pub without_name : Option (List ℕ) → Option Files → Option Files
without_name None held = held
without_name (Some name) held = without_file name held

-- there may be such a copy, or nothing has changed
abbrev pub MayHaveCopy : List ℕ → ℕ → Option Files → Option Files → Type 0
MayHaveCopy name line old new = (kept : Bool)
    × (new ≡ with_copy (kept_if kept name line) (file_of name) old)

-- ---- where rows stand

-- where rows stand once a file is gone: those that stood in it in the kept one, if there is one
abbrev pub stands_aside : List ℕ → Option (List ℕ) → Option (List ℕ) → Option (List ℕ)
stands_aside file kept stands = if is_file file stands then kept else stands

-- cursors with these files in the place of theirs, from the first cursor on
abbrev pub with_files : List (Vec (Option (List ℕ))) → List Cursor → List Cursor
with_files [] cursors = cursors
with_files (files ∷ rest) [] = []
with_files (files ∷ rest) (cursor ∷ cursors) =
    record cursor { files = files } ∷ with_files rest cursors

-- the files of cursors once a file is gone
abbrev pub files_aside : List ℕ → Option (List ℕ) → List Cursor → List (List (Option (List ℕ)))
files_aside file kept cursors =
    map (λ cursor. map (stands_aside file kept) cursor.files.items) cursors

-- the file of a segment is kept just where a cursor has still to answer it, and these are the files
-- of cursors once it is gone
pub record IsAside (name : List ℕ) (line : ℕ) (cursors : List Cursor) (aside : Aside) : Type 0 where
  pub kept : aside.kept ≡ kept_if (is_awaited_in (file_of name) cursors) name line
  pub files : map (λ files. files.items) aside.files.items
      ≡ files_aside (file_of name) aside.kept cursors
