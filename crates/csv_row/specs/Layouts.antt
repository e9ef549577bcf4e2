-- The fields of a table over the names of a header.
use Rattle.std.specs.Prelude.{◌≡◌, ◌<◌, ◌^◌, ℕ, List, map, length}
use Rattle.csv_row.specs.declared.layout.Layout.{Layout}
use Rattle.csv_row.specs.Columns.{DefaultsFit}
use Rattle.csv_row.specs.Row.{place_of}
use Rattle.table_schema.specs.ValidTable.{most_rows}

-- the names of the header
abbrev pub header_of : Layout → List (List ℕ)
header_of layout = map (λ name. name.now) layout.names.now

-- each field's place is that of its name in the header, and the limit is that of so many fields
pub record IsLayout (layout : Layout) : Type 0 where
  pub places : layout.places.items ≡ map (place_of (header_of layout)) layout.fields.now
  pub most : layout.most ≡ most_rows (length layout.fields.now)
  pub at_most : length layout.names.now < 2 ^ 32
  pub defaults : DefaultsFit layout.fields.now
