-- Files of segments that are no longer live, which are kept for whoever still reads them.
use Rattle.std.specs.Prelude.{◌≡◌, ℕ, List, ◌++◌, codes}
use Rattle.std.specs.Fmt.{decimal}

-- the name of a kept file ends so; whatever its bytes, it stands for nothing
abbrev pub IsKeptName : List ℕ → Type 0
IsKeptName name = (front : List ℕ) × (name ≡ front ++ codes ".kept")

-- the name that the file of a segment is kept under from a numbered line on
abbrev pub kept_name : List ℕ → ℕ → List ℕ
kept_name name line = name ++ codes "." ++ decimal line ++ codes ".kept"
