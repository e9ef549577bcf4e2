-- What a store holds, apart from any file.
use Rattle.std.specs.Prelude.{ℕ, List}
use Rattle.std.specs.FinMap as map
use Rattle.outside.specs.Files.{name_order}
use Rattle.values.specs.declared.value.Value.{Value}

-- what a table is kept as: the texts of its schema and of its settings
pub record Texts : Type 0 where
  pub schema : List ℕ
  pub settings : List ℕ

-- a segment: the format of its file, and its rows in their order
pub record Segment : Type 0 where
  pub format : ℕ
  pub rows : List (List Value)

-- segments by their names
abbrev pub Segments : Type 0
Segments = map.FinMap name_order Segment

-- no table, or a table with its segments
pub data State : Type 0 where
  NoTable : State
  HasTable : (texts : Texts) (segments : Segments) → State
