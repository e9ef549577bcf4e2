-- The number of a row for a pair of a star-tree has 64 bits.
use Rattle.std.proofs.Common.{◌≡◌, ◌<◌, ◌^◌, ℕ, zero, suc, true, List, [], ◌∷◌, Option, Some, None, arith, ltb-true}
use Rattle.std.specs.Prelude.{pos, negsuc}
use Rattle.std.specs.Option.{option_map_or}
use Rattle.std.proofs.lemmas.Bool.{false≢true}
use Rattle.std.proofs.lemmas.Int.{ints}
use Rattle.data_types.specs.declared.kind.FieldKind.{FieldKind}
use Rattle.data_types.specs.declared.kind.FieldKind.TheVariants as kind
use Rattle.values.specs.declared.value.Value.{Value}
use Rattle.values.specs.declared.value.Value.TheVariants.{Whole, Text}
use Rattle.values.specs.Kinds.{fits}
use Rattle.agg_laws.specs.Numbers.{IsWhole}
use Rattle.table_schema.specs.declared.field.Field.{Field}
use Rattle.table_schema.specs.ValidTable.{is_row}
use Rattle.segment_file.specs.Ordered.{value_in}
use Rattle.segment_file.specs.Trees.{number_of}
use Rattle.segment_file.proofs.ImageRows.{and_first, and_second}

whole_below : (n : ℕ) → n < 2 ^ 63 → IsWhole (pos n)
whole_below n lt = (omega (arith, ints), omega (arith, ints, lt))

whole_above : (n : ℕ) → n < 2 ^ 63 → IsWhole (negsuc n)
whole_above n lt = (omega (arith, ints, lt), omega (arith, ints))

whole_fits : (k : FieldKind) (v : Value) → fits k v ≡ true → IsWhole (number_of v)
whole_fits kind.Int (Whole (pos n)) fit = whole_below n (omega (arith, ltb-true n (2 ^ 31) fit))
whole_fits kind.Int (Whole (negsuc n)) fit =
    whole_above n (omega (arith, ltb-true n (2 ^ 31) fit))
whole_fits kind.Int (Text t) fit = absurd (false≢true fit)
whole_fits kind.Long (Whole (pos n)) fit = whole_below n (ltb-true n (2 ^ 63) fit)
whole_fits kind.Long (Whole (negsuc n)) fit = whole_above n (ltb-true n (2 ^ 63) fit)
whole_fits kind.Long (Text t) fit = absurd (false≢true fit)
whole_fits kind.Text (Whole z) fit = absurd (false≢true fit)
whole_fits kind.Text (Text t) fit = whole_below 0 (omega arith)

row_whole : (fields : List Field) (row : List Value) (c : ℕ) → is_row fields row ≡ true
    → IsWhole (number_of (value_in c row))
row_whole [] [] c is = whole_below 0 (omega arith)
row_whole [] (v ∷ vs) c is = absurd (false≢true is)
row_whole (f ∷ fs) [] c is = absurd (false≢true is)
row_whole (f ∷ fs) (v ∷ vs) zero is =
    whole_fits f.kind v (and_first (fits f.kind v) (is_row fs vs) is)
row_whole (f ∷ fs) (v ∷ vs) (suc c) is =
    row_whole fs vs c (and_second (fits f.kind v) (is_row fs vs) is)

pub pair_whole : (fields : List Field) (row : List Value) (column : Option ℕ)
    → is_row fields row ≡ true
    → IsWhole (option_map_or (λ c. number_of (value_in c row)) column (pos 0))
pair_whole fields row None is = whole_below 0 (omega arith)
pair_whole fields row (Some c) is = row_whole fields row c is
