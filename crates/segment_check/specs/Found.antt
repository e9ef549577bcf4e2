-- What the check of a file finds: the rows of which it is the image, or the part that is wrong.
use Rattle.std.specs.Prelude.{ℕ, List, Result, Ok, Err}
use Rattle.values.specs.declared.value.Value.{Value}
use Rattle.table_schema.specs.declared.table.Table.{Table}
use Rattle.segment_file.specs.declared.part.Part.{Part}
use Rattle.segment_check.specs.Checked.{IsImageOf, IsNoImage}

-- rows, or a part of a file
abbrev pub Found : Type 0
Found = Result (List (List Value)) Part

-- under a table and a name the bytes are the image of these rows; or of none, for this part, which
-- is the first that is wrong
abbrev pub IsFound : Table → List ℕ → List ℕ → Found → Type 0
IsFound table name bytes (Ok rows) = IsImageOf table name bytes rows
IsFound table name bytes (Err part) = IsNoImage table name bytes part
