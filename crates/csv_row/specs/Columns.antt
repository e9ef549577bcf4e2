-- What a record adds to the columns of a table.
use Rattle.std.specs.Prelude.{◌≡◌, ◌≢◌, ◌≤◌, ◌<◌, ◌^◌, ℕ, Bool, true, false, List, length, map, Option, Result, Ok, Err, IfErr, IfSome, OnOk}
use Rattle.std.specs.List.{All}
use Rattle.data_types.specs.declared.kind.FieldKind.{FieldKind}
use Rattle.data_types.specs.declared.kind.FieldKind.TheVariants as kind
use Rattle.values.specs.declared.value.Value.{Value}
use Rattle.table_schema.specs.declared.field.Field.{Field}
use Rattle.values.specs.Columns.{Listed, is_text, pushed, row_pushed}
use Rattle.csv_row.specs.declared.fault.CsvFault.{CsvFault}
use Rattle.csv_row.specs.declared.fault.CsvFault.TheVariants.{NoMemory}
use Rattle.csv_row.specs.Row.{cell_value}

-- whether a field is of texts
abbrev pub is_text_kind : FieldKind → Bool
is_text_kind kind.Int = false
is_text_kind kind.Long = false
is_text_kind kind.Text = true

-- the default of a field of texts is a text, and of numbers a number
abbrev pub DefaultFits : Field → Type 0
DefaultFits field = is_text field.default ≡ is_text_kind field.kind

-- the default of each field is of the field's kind
abbrev pub DefaultsFit : List Field → Type 0
DefaultsFit fields = All DefaultFits fields

-- a column for each field, of texts where the field is one of texts
abbrev pub OfSorts : List Field → List Listed → Type 0
OfSorts fields columns = map (λ c. c.are_texts) columns ≡ map (λ f. is_text_kind f.kind) fields

-- the column has one more value at its end, which is what was given
pub record Pushes {E : Type 0} (given : Result Value E) (old new : Listed) : Type 0 where
  pub value : Value
  pub given_is : given ≡ Ok value
  pub new_is : new ≡ pushed old value

-- a field has its cell in this place of a record, from 1, or none; and the record's cells are few
pub record HasPlace (cells : List (List ℕ)) (place : Option ℕ) : Type 0 where
  pub first : IfSome place (λ n. 1 ≤ n)
  pub within : IfSome place (λ n. n ≤ length cells)
  pub at_most : length cells < 2 ^ 32

-- what was given is at the end of the column, or is the fault, unless memory ran out
pub record PushesOr {A : Type 0} (given : Result Value CsvFault) (old new : Listed)
    (result : Result A CsvFault) : Type 0 where
  pub ok : OnOk result (Pushes given old new)
  pub err : IfErr result (λ fault. fault ≢ NoMemory → given ≡ Err fault)

-- the same of the value of a cell, in each field of a kind
pub record PushesCell (kind : FieldKind) (bytes : List ℕ) (old new : Listed) : Type 0 where
  pub value : Value
  pub given_is : (field : Field) → field.kind ≡ kind → cell_value field bytes ≡ Ok value
  pub new_is : new ≡ pushed old value

-- each column has one more value at its end, and these are the row that was given
pub record PushesRow (given : Result (List Value) CsvFault) (old new : List Listed) : Type 0 where
  pub row : List Value
  pub given_is : given ≡ Ok row
  pub width : length row ≡ length old
  pub new_is : new ≡ row_pushed old row
