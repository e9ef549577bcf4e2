-- The kept files that go with a cursor.
use Rattle.std.specs.Prelude.{◌≡◌, ◌≢◌, ◌⊎◌, ℕ, Bool, true, false, List, [], ◌∷◌, Option, Some, None, slice_get}
use Rattle.std.specs.List.{AllByRecursion, list_any}
use Rattle.outside.specs.Files.{Files, without_file}
use Rattle.table_store.specs.Kept.{IsKeptName}
use Rattle.cursors.specs.Kept.{same_name}
use Rattle.cursors.specs.declared.cursor.Cursor.{Cursor}

-- whether this is the name of a file
abbrev pub is_file : List ℕ → Option (List ℕ) → Bool
is_file name None = false
is_file name (Some file) = same_name name file

-- whether a name is one of some files'
abbrev pub has_file : List ℕ → List (Option (List ℕ)) → Bool
has_file name files = list_any (is_file name) files

-- no cursor but the one at a place has a file
abbrev pub HasNoOther : ℕ → List Cursor → List ℕ → Type 0
HasNoOther at cursors name = (other : ℕ) (cursor : Cursor) → other ≢ at
    → slice_get cursors other ≡ Some cursor → has_file name cursor.files.items ≡ false

-- a kept file of the cursor at a place, which no other cursor has
pub record IsGone (at : ℕ) (cursors : List Cursor) (name : List ℕ) : Type 0 where
  pub kept : IsKeptName name
  pub alone : HasNoOther at cursors name

-- these are all such files
pub record AreGone (at : ℕ) (cursors : List Cursor) (names : List (List ℕ)) : Type 0 where
  pub each : AllByRecursion (IsGone at cursors) names
  pub all : (cursor : Cursor) → slice_get cursors at ≡ Some cursor → (name : List ℕ)
      → has_file name cursor.files.items ≡ true → IsGone at cursors name
      → list_any (same_name name) names ≡ true

-- the told files without some
abbrev pub without_files : List (List ℕ) → Option Files → Option Files
without_files [] held = held
without_files (name ∷ names) held = without_files names (without_file name held)

-- a file of the cursor at a place is gone, if it is to go; else nothing has changed
abbrev pub IsReleased : ℕ → List Cursor → Option (List ℕ) → Option Files → Option Files → Type 0
IsReleased at cursors None old new = new ≡ old
IsReleased at cursors (Some name) old new = ((¬ IsGone at cursors name) × (new ≡ old))
    ⊎ (IsGone at cursors name × (new ≡ without_file name old))
