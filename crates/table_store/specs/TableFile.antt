-- The file that a table is kept in.
use Rattle.std.specs.Prelude.{◌≤◌, ◌++◌, ℕ, List, length, codes}
use Rattle.std.specs.Int.{w32, to_be_bytes}
use Rattle.table_store.specs.State.{Texts}

-- the name of the file
abbrev pub table_name : List ℕ
table_name = codes "table"

-- a text after its length, which is four bytes with the most significant first
abbrev pub counted : List ℕ → List ℕ
counted text = to_be_bytes w32 (length text) ++ text

-- the bytes of the file: eight that say what it is, and the two texts
abbrev pub table_file : Texts → List ℕ
table_file texts = codes "PINOTTB1" ++ (counted texts.schema ++ counted texts.settings)

-- the most bytes that a text of a table has
abbrev pub text_limit : ℕ
text_limit = 1048576

-- the most bytes that the file of a table has
abbrev pub file_limit : ℕ
file_limit = 2097168

-- both texts are within the limit
pub record FitsTable (texts : Texts) : Type 0 where
  pub schema : length texts.schema ≤ text_limit
  pub settings : length texts.settings ≤ text_limit
