-- Tables of whole numbers.
use Rattle.std.specs.Prelude.{◌≡◌, false}
use Rattle.std.specs.List.{All}
use Rattle.values.specs.Columns.{ListedColumns}

-- no column of the table is one of texts
abbrev pub AreNumbers : ListedColumns → Type 0
AreNumbers table = All (λ column. column.are_texts ≡ false) table.columns
