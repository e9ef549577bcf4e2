-- A value is read again from its text.
use Rattle.std.proofs.Common.{◌≡◌, ◌∙◌, ◌<◌, ◌≤◌, ◌^◌, ◌&&◌, ℕ, ℤ, pos, negsuc, suc, Bool, true, List, [], ◌∷◌, length, nat_le, nat_lt, Some, None, Ok, Err, option_map, refl, ap, arith}
use Rattle.std.specs.Prelude.{if◌then◌else◌, IsUtf8}
use Rattle.std.specs.Fmt.{decimal, signed_decimal}
use Rattle.std.specs.List.{list_all}
use Rattle.std.specs.Str.Parse.{AllDigits}
use Rattle.std.proofs.lemmas.Bool.{ltb-true, ne_eqb}
use Rattle.std.proofs.lemmas.Bool.Decides.{nat_tests}
use Rattle.std.proofs.lemmas.Fmt.{decimal_is_IsNumeral, digits_value-decimal}
use Rattle.std.proofs.lemmas.Str.{is_utf8-from_IsUtf8}
use Rattle.std.proofs.lemmas.Str.Parse.{IsNumeralModel, WeighsDigits, digit_at, numerals_by_weight, tells_digits}
use Rattle.data_types.specs.Numbers.{is_digit, is_in_range, negative, place_value, range_of, ranged, spelled_number, unsigned_number, whole_of}
use Rattle.data_types.specs.declared.kind.FieldKind.{FieldKind}
use Rattle.data_types.specs.declared.kind.FieldKind.TheVariants as kinds
use Rattle.data_types.specs.declared.whole.WholeFault.TheVariants.{OutOfRange}
use Rattle.values.specs.declared.value.Value.{Value}
use Rattle.values.specs.declared.value.Value.TheVariants.{Whole, Text}
use Rattle.values.specs.declared.read.ValueFault.TheVariants.{TooLong}
use Rattle.values.specs.Kinds.{fits}
use Rattle.values.specs.Printed.{text_of}
use Rattle.table_schema.specs.declared.field.Field.{Field}
use Rattle.csv_row.specs.declared.fault.CsvKind.TheVariants.{NotUtf8}
use Rattle.csv_row.specs.Row.{cell_value, kinded, value_in}
use Rattle.csv_row.proofs.CellLemmas.{number_ok}
use Rattle.value_ids.specs.Dictionary.{IsUnicode}
use Rattle.csv_text.specs.Laws.{IsKept}

-- ---- numbers

weighs : WeighsDigits place_value
weighs = record { empty = refl; more = λ c cs range. refl }

numeral : IsNumeralModel (AllDigits 10) place_value
numeral = numerals_by_weight (AllDigits 10) tells_digits place_value weighs

is_digit_so : (d : ℕ) → 48 ≤ d → d ≤ 57 → is_digit d ≡ true
is_digit_so d low high = grind (arith, nat_tests, low, high)

both : (a b : Bool) → a ≡ true → b ≡ true → (a && b) ≡ true
both a b p q = (λ i. p i && q i)

digits_are : (ds : List ℕ) → AllDigits 10 ds → list_all is_digit ds ≡ true
digits_are [] all = refl
digits_are (d ∷ ds) all =
    let in_range = digit_at (d ∷ ds) 0 all (omega arith) in
    both (is_digit d) (list_all is_digit ds) (is_digit_so d in_range.0 in_range.1) (digits_are ds all.1)

unsigned_of : (ds : List ℕ) → 0 < length ds → AllDigits 10 ds → unsigned_number ds ≡ Some (place_value ds)
unsigned_of [] some all = absurd (omega (arith, some))
unsigned_of (d ∷ ds) some all = ap (λ b. if b then Some (place_value (d ∷ ds)) else None) (digits_are (d ∷ ds) all)

unsigned_decimal : (n : ℕ) → n < 2 ^ 64 → unsigned_number (decimal n) ≡ Some n
unsigned_decimal n small =
    let is = (decimal_is_IsNumeral n small).0 in
    unsigned_of (decimal n) is.0 is.1 ∙ ap Some (digits_value-decimal numeral n small)

spelled_of : (ds : List ℕ) → 0 < length ds → AllDigits 10 ds → spelled_number ds ≡ option_map pos (unsigned_number ds)
spelled_of [] some all = absurd (omega (arith, some))
spelled_of (d ∷ ds) some all =
    let low = (digit_at (d ∷ ds) 0 all (omega arith)).0 in
    rw (ne_eqb d 45 (λ e. omega (arith, low, e))) (rw (ne_eqb d 43 (λ e. omega (arith, low, e))) refl)

range_small : (kind : FieldKind) (n : ℕ) → nat_lt n (range_of kind) ≡ true → suc n < 2 ^ 64
range_small kinds.Int n lt = let small : n < 2 ^ 31 = ltb-true n (2 ^ 31) lt in omega (arith, small)
range_small kinds.Long n lt = let small : n < 2 ^ 63 = ltb-true n (2 ^ 63) lt in omega (arith, small)
range_small kinds.Text n lt = let small : n < 2 ^ 63 = ltb-true n (2 ^ 63) lt in omega (arith, small)

spelled_signed : (kind : FieldKind) (z : ℤ) → is_in_range kind z ≡ true → spelled_number (signed_decimal z) ≡ Some z
spelled_signed kind (pos n) within =
    let small = range_small kind n within in
    let less : n < 2 ^ 64 = omega (arith, small) in
    let is = (decimal_is_IsNumeral n less).0 in
    spelled_of (decimal n) is.0 is.1 ∙ ap (option_map pos) (unsigned_decimal n less)
spelled_signed kind (negsuc n) within = ap (option_map negative) (unsigned_decimal (suc n) (range_small kind n within))

whole_read : (kind : FieldKind) (z : ℤ) → is_in_range kind z ≡ true → whole_of kind (signed_decimal z) ≡ Ok z
whole_read kind z within = ap (ranged kind) (spelled_signed kind z within) ∙ ap (λ b. if b then Ok z else Err OutOfRange) within

signed_some : (kind : FieldKind) (z : ℤ) → is_in_range kind z ≡ true → 0 < length (signed_decimal z)
signed_some kind (pos n) within =
    let small = range_small kind n within in
    (decimal_is_IsNumeral n (omega (arith, small))).0.0
signed_some kind (negsuc n) within = omega arith

-- ---- cells

read_some : (field : Field) (bytes : List ℕ) → 0 < length bytes → cell_value field bytes ≡ value_in field.kind bytes
read_some field [] some = absurd (omega (arith, some))
read_some field (b ∷ bytes) some = refl

text_read : (text : List ℕ) → nat_le (length text) 512 ≡ true → IsUtf8 text → value_in kinds.Text text ≡ Ok (Text text)
text_read text short unicode =
    ap (λ b. if b then kinded (if nat_le (length text) 512 then Ok (Text text) else Err TooLong) else Err NotUtf8) (is_utf8-from_IsUtf8 text unicode)
    ∙ ap (λ b. kinded (if b then Ok (Text text) else Err TooLong)) short

of_kind : (kind : FieldKind) (v : Value) → fits kind v ≡ true → IsUnicode v → 0 < length (text_of v) → value_in kind (text_of v) ≡ Ok v
of_kind kinds.Int (Whole z) fit unicode some = number_ok kinds.Int (signed_decimal z) z refl (whole_read kinds.Int z fit)
of_kind kinds.Int (Text text) fit unicode some = absurd cc
of_kind kinds.Long (Whole z) fit unicode some = number_ok kinds.Long (signed_decimal z) z refl (whole_read kinds.Long z fit)
of_kind kinds.Long (Text text) fit unicode some = absurd cc
of_kind kinds.Text (Whole z) fit unicode some = absurd cc
of_kind kinds.Text (Text text) fit unicode some = text_read text fit unicode

number_some : (kind : FieldKind) (z : ℤ) → fits kind (Whole z) ≡ true → 0 < length (signed_decimal z)
number_some kinds.Int z fit = signed_some kinds.Int z fit
number_some kinds.Long z fit = signed_some kinds.Long z fit
number_some kinds.Text z fit = absurd cc

-- a value that is no empty text, or one where the default is
pub cell_read : (field : Field) (v : Value) → fits field.kind v ≡ true → IsUnicode v → IsKept field v → cell_value field (text_of v) ≡ Ok v
cell_read field (Whole z) fit unicode kept =
    let some = number_some field.kind z fit in
    read_some field (signed_decimal z) some ∙ of_kind field.kind (Whole z) fit unicode some
cell_read field (Text []) fit unicode kept = ap Ok (kept refl)
cell_read field (Text (b ∷ bytes)) fit unicode kept = of_kind field.kind (Text (b ∷ bytes)) fit unicode (omega arith)
