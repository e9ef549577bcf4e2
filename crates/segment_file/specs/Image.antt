-- The image of a segment: the file of its rows. Each section is a function of the lists of values
-- of the columns, or of the rows as a tree has them.
use Rattle.std.specs.Prelude.{ℕ, List, [], ◌++◌, map, length, slice_get}
use Rattle.std.specs.List.{All, concat}
use Rattle.values.specs.declared.value.Value.{Value}
use Rattle.table_schema.specs.declared.table.Table.{Table}
use Rattle.table_schema.specs.ValidTable.{AreRows}
use Rattle.value_ids.specs.Dictionary.{IsUnicode}
use Rattle.dictionary.specs.Spelling.{spelling}
use Rattle.bit_column.specs.Column.{spelled, width_of}
use Rattle.bit_column.specs.Postings.{inverted, ranged}
use Rattle.bit_column.specs.SortedRuns.{sorted_runs}
use Rattle.segment_file.specs.declared.part.Part.{Part}
use Rattle.segment_file.specs.declared.part.Part.TheVariants as parts
use Rattle.segment_file.specs.Bounds.{bounds_bytes, bounds_of}
pub use Rattle.segment_file.specs.Columns.{kind_or, kind_at, values_in, dictionary_of, place_of, ids_of, count_of}
use Rattle.segment_file.specs.Front.{Front, front_bytes}
use Rattle.segment_file.specs.Ordered.{ordered}
use Rattle.segment_file.specs.Parts.{columns_of, sections_of}
use Rattle.segment_file.specs.Trees.{TreeFits, nodes_of, star_of}

-- the bytes of a section
abbrev pub section_of : Table → List (List Value) → Part → List ℕ
section_of table rows parts.Table = []
section_of table rows parts.Head = []
section_of table rows parts.Bounds = bounds_bytes (bounds_of
    (map (dictionary_of table rows) (columns_of table)))
section_of table rows (parts.Dictionary column) = spelling (dictionary_of table rows column)
section_of table rows (parts.Nodes tree) = nodes_of rows (slice_get table.settings.trees tree)
section_of table rows (parts.Forward column) = spelled (width_of (count_of rows column))
    (ids_of rows column)
section_of table rows (parts.Sorted column) = sorted_runs (count_of rows column)
    (ids_of rows column)
section_of table rows (parts.Inverted column) = inverted (count_of rows column) (ids_of rows column)
section_of table rows (parts.Range column) = ranged (count_of rows column) (ids_of rows column)
section_of table rows (parts.Star tree) = star_of rows (slice_get table.settings.trees tree)

-- the sections of rows in their order
abbrev pub sections_of_rows : Table → List (List Value) → List (List ℕ)
sections_of_rows table rows = map (section_of table rows) (sections_of table)

-- what the front of the file of rows says
abbrev pub front_of : ℕ → Table → List (List Value) → Front
front_of format table rows = record {
  format = format;
  rows = length rows;
  sizes = map length (sections_of_rows table rows);
}

-- the file of rows that are in order
abbrev pub file_of_rows : ℕ → Table → List ℕ → List (List Value) → List ℕ
file_of_rows format table name rows = front_bytes table name (front_of format table rows)
    ++ concat (sections_of_rows table rows)

-- the image of the rows of a segment of this name
abbrev pub image : ℕ → Table → List ℕ → List (List Value) → List ℕ
image format table name rows = file_of_rows format table name (ordered table.settings.sorted rows)

-- rows that a segment of the table may have
pub record CanHold (table : Table) (rows : List (List Value)) : Type 0 where
  pub fit : AreRows table.schema.fields rows
  pub unicode : All (λ row. All IsUnicode row) rows
  pub trees : All (TreeFits (ordered table.settings.sorted rows)) table.settings.trees
