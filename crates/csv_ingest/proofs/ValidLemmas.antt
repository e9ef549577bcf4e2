-- In a valid schema the default of each field is of the field's kind.
use Rattle.std.proofs.Common.{◌≡◌, Bool, true, false, ◌&&◌, not, List, [], ◌∷◌, refl}
use Rattle.std.specs.List.{AllByRecursion, list_all}
use Rattle.std.proofs.lemmas.List.Elements.{All-from_recursion}
use Rattle.data_types.specs.declared.kind.FieldKind.{FieldKind}
use Rattle.data_types.specs.declared.kind.FieldKind.TheVariants as kind
use Rattle.values.specs.declared.value.Value.{Value}
use Rattle.values.specs.declared.value.Value.TheVariants.{Whole, Text}
use Rattle.values.specs.Columns.{is_text}
use Rattle.values.specs.Kinds.{fits}
use Rattle.table_schema.specs.declared.field.Field.{Field}
use Rattle.table_schema.specs.declared.field.Schema.{Schema}
use Rattle.table_schema.specs.Roles.{is_text_metric}
use Rattle.table_schema.specs.Names.{is_column_name}
use Rattle.table_schema.specs.Valid.{IsValidSchema, is_short, default_fits, is_valid_field}
use Rattle.csv_row.specs.Columns.{DefaultFits, DefaultsFit, is_text_kind}

first_of_both : (a b : Bool) → (a && b) ≡ true → a ≡ true
first_of_both true b e = refl
first_of_both false b e = absurd cc

second_of_both : (a b : Bool) → (a && b) ≡ true → b ≡ true
second_of_both true b e = e
second_of_both false b e = absurd cc

of_kind : (k : FieldKind) (value : Value) → fits k value ≡ true → is_text value ≡ is_text_kind k
of_kind kind.Int (Whole z) e = refl
of_kind kind.Int (Text text) e = absurd cc
of_kind kind.Long (Whole z) e = refl
of_kind kind.Long (Text text) e = absurd cc
of_kind kind.Text (Whole z) e = absurd cc
of_kind kind.Text (Text text) e = refl

all_of_kind : (fields : List Field) → list_all is_valid_field fields ≡ true → AllByRecursion DefaultFits fields
all_of_kind [] e = tt
all_of_kind (f ∷ fs) e =
    let valid : is_valid_field f ≡ true = first_of_both (is_valid_field f) (list_all is_valid_field fs) e in
    let default : default_fits f.kind f.default ≡ true = second_of_both (is_column_name f.name && not (is_text_metric f.role f.kind)) (default_fits f.kind f.default) valid in
    (of_kind f.kind f.default (first_of_both (fits f.kind f.default) (is_short f.default) default), all_of_kind fs (second_of_both (is_valid_field f) (list_all is_valid_field fs) e))

pub valid-defaults : (schema : Schema) → IsValidSchema schema → DefaultsFit schema.fields
valid-defaults schema valid = All-from_recursion DefaultFits schema.fields (all_of_kind schema.fields valid.fields)
