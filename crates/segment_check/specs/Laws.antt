-- Laws of files that are images, and of those that are none.
use Rattle.std.specs.Prelude.{◌≡◌, ℕ, List}
use Rattle.values.specs.declared.value.Value.{Value}
use Rattle.table_schema.specs.declared.table.Table.{Table}
use Rattle.table_schema.specs.ValidTable.{IsValidTable}
use Rattle.segment_file.specs.declared.part.Part.{Part}
use Rattle.segment_file.specs.Image.{CanHold, image}
use Rattle.segment_file.specs.Names.{IsSegmentName}
use Rattle.segment_file.specs.Rules.{FailsAt}
use Rattle.segment_check.specs.Checked.{FailsImageAt, IsImageOf, IsNoImage}
use Rattle.segment_check.specs.Found.{Found, IsFound}

-- no part of the image of rows that a segment may have is wrong
abbrev pub ImagesPass : Type 0
ImagesPass =
    (table : Table) (name : List ℕ) (rows : List (List Value)) (part : Part) → IsValidTable table
    → IsSegmentName name → CanHold table rows
    → ¬ IsNoImage table name (image 1 table name rows) part

-- what keeps the rules of heads fails none of them, and one part alone is wrong of it
abbrev pub FailsOnce : Type 0
FailsOnce =
    (table : Table) (name bytes : List ℕ) (p q : Part)
    → (FailsAt table name bytes p → ¬ FailsImageAt table name bytes q)
    × (FailsImageAt table name bytes p → FailsImageAt table name bytes q → p ≡ q)

-- of a file that is no image one part is wrong, and no more: that of the first rule that fails, or
-- of the first that is not that of the rows that are spelled
abbrev pub OnePart : Type 0
OnePart = (table : Table) (name bytes : List ℕ) (p q : Part) → IsNoImage table name bytes p
    → IsNoImage table name bytes q → p ≡ q

-- no file is the image of no rows and has no part that is wrong
abbrev pub ImageOrPart : Type 0
ImageOrPart = (table : Table) (name bytes : List ℕ) → IsValidTable table → IsSegmentName name
    → ((rows : List (List Value)) → ¬ IsImageOf table name bytes rows)
    → ¬ ((part : Part) → ¬ IsNoImage table name bytes part)

-- the check of a file finds one thing alone
abbrev pub FindsOne : Type 0
FindsOne = (table : Table) (name bytes : List ℕ) (a b : Found) → IsValidTable table
    → IsSegmentName name → IsFound table name bytes a → IsFound table name bytes b → a ≡ b

-- and of no file it finds nothing
abbrev pub FindsSome : Type 0
FindsSome = (table : Table) (name bytes : List ℕ) → IsValidTable table → IsSegmentName name
    → ¬ ((found : Found) → ¬ IsFound table name bytes found)
