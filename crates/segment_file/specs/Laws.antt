-- Laws of the rules of heads, and of images.
use Rattle.std.specs.Prelude.{◌≡◌, ◌<◌, ◌^◌, ℕ, List, map}
use Rattle.std.specs.List.{All}
use Rattle.value_ids.specs.Dictionary.{Distinct}
use Rattle.segment_file.specs.Front.{Front}
use Rattle.segment_file.specs.Spelled.{HasIds, rows_said}
use Rattle.values.specs.declared.value.Value.{Value}
use Rattle.table_schema.specs.declared.table.Table.{Table}
use Rattle.table_schema.specs.ValidTable.{IsValidTable}
use Rattle.segment_file.specs.declared.part.Part.{Part}
use Rattle.segment_file.specs.Rules.{KeepsRules, FailsAt, KeepsAll}
use Rattle.segment_file.specs.Image.{CanHold, dictionary_of, front_of, image}
use Rattle.segment_file.specs.Names.{IsSegmentName}
use Rattle.segment_file.specs.Ordered.{ordered}
use Rattle.segment_file.specs.Parts.{columns_of}

-- where a rule fails, not all hold
abbrev pub FailsNotAll : Type 0
FailsNotAll = (table : Table) (name bytes : List ℕ) (p : Part) → KeepsRules table name bytes
    → ¬ FailsAt table name bytes p

-- the image of rows that a segment may have keeps all rules of a head, with the front and the
-- dictionaries that the rows give
abbrev pub ImageKeeps : Type 0
ImageKeeps =
    (table : Table) (name : List ℕ) (rows : List (List Value)) → IsValidTable table
    → IsSegmentName name → CanHold table rows
    → KeepsAll table name (image 1 table name rows) (front_of 1 table
    (ordered table.settings.sorted rows)) (map (dictionary_of table
    (ordered table.settings.sorted rows)) (columns_of table))

-- equal images under one table and name are of one format and of the same rows in their order
abbrev pub ImagesTell : Type 0
ImagesTell =
    (table : Table) (name : List ℕ) (rows others : List (List Value)) (format other : ℕ)
    → IsValidTable table → IsSegmentName name → CanHold table rows → CanHold table others
    → format < 2 ^ 32 → other < 2 ^ 32
    → image format table name rows ≡ image other table name others → (format ≡ other)
    × (ordered table.settings.sorted rows ≡ ordered table.settings.sorted others)

-- the image of rows has an id for each row in each column, and spells these rows in their order
abbrev pub ImageSpells : Type 0
ImageSpells =
    (table : Table) (name : List ℕ) (rows : List (List Value)) (front : Front)
    (dictionaries : List Distinct) → IsValidTable table → IsSegmentName name → CanHold table rows
    → KeepsAll table name (image 1 table name rows) front dictionaries
    → All (HasIds table name (image 1 table name rows) front dictionaries) (columns_of table)
    × (rows_said table name (image 1 table name rows) front dictionaries
    ≡ ordered table.settings.sorted rows)
