-- The rows that the program generates are rows of a table that has such fields.
use Rattle.std.proofs.Common.{◌≡◌, ◌∙◌, ◌≤◌, ◌<◌, ◌+◌, ◌-◌, ◌*◌, ◌/◌, ◌%◌, ◌&&◌, ◌++◌, inl, inr, ℕ, zero, suc, Bool, true, false, not, nat_le, nat_lt, List, [], ◌∷◌, All, length, length-append, Result, Ok, Err, cond, refl, sym, ap, subst, arith, le_refl, lit≤, lit<}
use Rattle.std.specs.Prelude.{slice_index, ℤ, pos, negsuc, neg_ℤ, IfOk, if◌then◌else◌}
use Rattle.std.proofs.lemmas.Bool.Decides.{nat_tests}
use Rattle.std.proofs.lemmas.List.Elements.{All-append, All-cons, All-nil, All-head, All-tail}
use Rattle.std.proofs.lemmas.Str.{IsUtf8-from_ascii}
use Rattle.std.specs.Str.{IsUtf8}
use Rattle.data_types.specs.declared.kind.FieldKind.{FieldKind}
use Rattle.data_types.specs.declared.kind.FieldKind.TheVariants as kind
use Rattle.data_types.specs.Numbers.{is_in_range}
use Rattle.csv_row.specs.Columns.{DefaultFits, DefaultsFit, is_text_kind}
use Rattle.table_schema.specs.ValidTable.{AreRows, IsRow, is_row, most_rows}
use Rattle.table_schema.specs.declared.field.Field.{Field}
use Rattle.table_store.specs.Images.{IsUnicode}
use Rattle.values.specs.Columns.{Counts, Listed, is_text, pushed, rows_in_columns}
use Rattle.values.specs.Kinds.{fits}
use Rattle.values.specs.declared.value.Value.{Value}
use Rattle.values.specs.declared.value.Value.TheVariants.{Whole, Text}
use Rattle.values.proofs.RowLemmas.{counts-push, rows-push}
use Rattle.csv_row.specs.declared.fault.CsvKind.TheVariants.{WrongLength}
use Rattle.command_words.specs.declared.note.Counted.TheVariants.{Rows}
use Rattle.command_words.specs.declared.note.Note.TheVariants.{BadCsv, TooLarge}
use Rattle.command_model.specs.Generated.{are_generated, generated_row, generated_rows, has_numbers, less_half, rows_generated}
use Rattle.commands.specs.GeneratedColumns.{AddsRow, HasSorts}
use Rattle.commands.specs.declared.generated.Generated.{Generated}

-- ---- how many they are

pub length-generated : (n : ℕ) → length (generated_rows n) ≡ n
length-generated zero = refl
length-generated (suc n) =
    let more = length-append (generated_rows n) (generated_row n ∷ []) in
    let so_far = length-generated n in
    omega (arith, more, so_far)

-- ---- they are of the kinds

text_fits : (k : FieldKind) (i : ℕ) → is_text_kind k ≡ true → fits k (Text (97 ∷ (48 + i % 7) ∷ [])) ≡ true
text_fits kind.Text i is = refl
text_fits kind.Int i is = absurd cc
text_fits kind.Long i is = absurd cc

pos_in : (k : FieldKind) (m : ℕ) → m < 1000 → is_in_range k (pos m) ≡ true
pos_in kind.Text m lt = grind (arith, nat_tests)
pos_in kind.Int m lt = grind (arith, nat_tests)
pos_in kind.Long m lt = grind (arith, nat_tests)

negsuc_in : (k : FieldKind) (m : ℕ) → m < 1000 → is_in_range k (negsuc m) ≡ true
negsuc_in kind.Text m lt = grind (arith, nat_tests)
negsuc_in kind.Int m lt = grind (arith, nat_tests)
negsuc_in kind.Long m lt = grind (arith, nat_tests)

neg_in : (k : FieldKind) (m : ℕ) → m < 1000 → is_in_range k (neg_ℤ (pos m)) ≡ true
neg_in k zero lt = pos_in k 0 lt
neg_in k (suc m) lt = negsuc_in k m (omega (arith, lt))

half_by : (k : FieldKind) (m : ℕ) (low : Bool) → m < 1000 → is_in_range k (if low then neg_ℤ (pos (500 - m)) else pos (m - 500)) ≡ true
half_by k m true lt = neg_in k (500 - m) (omega arith)
half_by k m false lt = pos_in k (m - 500) (omega (arith, lt))

half_in : (k : FieldKind) (m : ℕ) → m < 1000 → is_in_range k (less_half m) ≡ true
half_in k m lt = half_by k m (nat_lt m 500) lt

whole_fits : (k : FieldKind) (x : ℤ) → is_text_kind k ≡ false → is_in_range k x ≡ true → fits k (Whole x) ≡ true
whole_fits kind.Text x is within = absurd cc
whole_fits kind.Int x is within = within
whole_fits kind.Long x is within = within

-- of fields with a text and three numbers as their defaults
both : (x y : Bool) → (x && y) ≡ true → (x ≡ true) × (y ≡ true)
both true y e = (refl, e)
both false y e = absurd cc

is_not : (x : Bool) → not x ≡ true → x ≡ false
is_not true e = absurd cc
is_not false e = refl

text_kind : (f : Field) → is_text f.default ≡ true → DefaultFits f → is_text_kind f.kind ≡ true
text_kind f is fit = sym fit ∙ is

number_kind : (f : Field) → has_numbers f ≡ true → DefaultFits f → is_text_kind f.kind ≡ false
number_kind f is fit = sym fit ∙ is_not (is_text f.default) is

all_four : (x y z w : Bool) → x ≡ true → y ≡ true → z ≡ true → w ≡ true → (x && (y && (z && (w && true)))) ≡ true
all_four x y z w a b c d = rw a (rw b (rw c (rw d refl)))

pub row_fits : (fields : List Field) (i : ℕ) → are_generated fields ≡ true → DefaultsFit fields → IsRow fields (generated_row i)
row_fits [] i is all = absurd cc
row_fits (a ∷ []) i is all = absurd cc
row_fits (a ∷ b ∷ []) i is all = absurd cc
row_fits (a ∷ b ∷ c ∷ []) i is all = absurd cc
row_fits (a ∷ b ∷ c ∷ m ∷ []) i is all =
    let (three, fourth) = both (is_text a.default && has_numbers b && has_numbers c) (has_numbers m) is in
    let (two, third) = both (is_text a.default && has_numbers b) (has_numbers c) three in
    let (first, second) = both (is_text a.default) (has_numbers b) two in
    let bs = All-tail DefaultFits a (b ∷ c ∷ m ∷ []) all in
    let cs = All-tail DefaultFits b (c ∷ m ∷ []) bs in
    let ms = All-tail DefaultFits c (m ∷ []) cs in
    all_four (fits a.kind (Text (97 ∷ (48 + i % 7) ∷ []))) (fits b.kind (Whole (pos (i * i % 11)))) (fits c.kind (Whole (pos (i / 3 % 50)))) (fits m.kind (Whole (less_half (31 * i % 1000))))
    (text_fits a.kind i (text_kind a first (All-head DefaultFits a (b ∷ c ∷ m ∷ []) all)))
    (whole_fits b.kind (pos (i * i % 11)) (number_kind b second (All-head DefaultFits b (c ∷ m ∷ []) bs)) (pos_in b.kind (i * i % 11) (omega arith)))
    (whole_fits c.kind (pos (i / 3 % 50)) (number_kind c third (All-head DefaultFits c (m ∷ []) cs)) (pos_in c.kind (i / 3 % 50) (omega arith)))
    (whole_fits m.kind (less_half (31 * i % 1000)) (number_kind m fourth (All-head DefaultFits m [] ms)) (half_in m.kind (31 * i % 1000) (omega arith)))
row_fits (a ∷ b ∷ c ∷ m ∷ x ∷ xs) i is all = absurd cc

pub four_fields : (fields : List Field) → are_generated fields ≡ true → length fields ≡ 4
four_fields [] is = absurd cc
four_fields (a ∷ []) is = absurd cc
four_fields (a ∷ b ∷ []) is = absurd cc
four_fields (a ∷ b ∷ c ∷ []) is = absurd cc
four_fields (a ∷ b ∷ c ∷ m ∷ []) is = refl
four_fields (a ∷ b ∷ c ∷ m ∷ x ∷ xs) is = absurd cc

all_rows : (P : List Value → Type 0) → ((i : ℕ) → P (generated_row i)) → (n : ℕ) → All P (generated_rows n)
all_rows P each zero = All-nil P
all_rows P each (suc n) = All-append P (generated_rows n) (generated_row n ∷ []) (all_rows P each n) (All-cons P (generated_row n) [] (each n) (All-nil P))

pub rows_fit : (fields : List Field) (n : ℕ) → are_generated fields ≡ true → DefaultsFit fields → n ≤ 1048576 → AreRows fields (generated_rows n)
rows_fit fields n is all le = record {
  each = all_rows (IsRow fields) (λ i. row_fits fields i is all) n;
  at_most = subst (λ k. length (generated_rows n) ≤ most_rows k) (sym (four_fields fields is)) (subst (λ k. k ≤ 1048576) (sym (length-generated n)) le);
}

-- ---- their texts

ascii_at : (i k : ℕ) → slice_index (97 ∷ (48 + i % 7) ∷ []) k < 128
ascii_at i zero = lit< tt
ascii_at i (suc zero) = omega arith
ascii_at i (suc (suc k)) = lit< tt

ascii : (i : ℕ) → IsUtf8 (97 ∷ (48 + i % 7) ∷ [])
ascii i = IsUtf8-from_ascii (97 ∷ (48 + i % 7) ∷ []) (ascii_at i)

row_unicode : (i : ℕ) → All IsUnicode (generated_row i)
row_unicode i =
    let c : Value = Whole (pos (i / 3 % 50)) in
    let m : Value = Whole (less_half (31 * i % 1000)) in
    All-cons IsUnicode (Text (97 ∷ (48 + i % 7) ∷ [])) (Whole (pos (i * i % 11)) ∷ c ∷ m ∷ []) (ascii i)
    (All-cons IsUnicode (Whole (pos (i * i % 11))) (c ∷ m ∷ []) (tt {0}) (All-cons IsUnicode c (m ∷ []) (tt {0}) (All-cons IsUnicode m [] (tt {0}) (All-nil IsUnicode))))

pub rows_unicode : (n : ℕ) → All (λ row. All IsUnicode row) (generated_rows n)
rows_unicode n = all_rows (λ row. All IsUnicode row) row_unicode n

-- ---- the columns

abbrev pub ColumnsOf : Generated → List Listed
ColumnsOf made = made.a ∷ made.b ∷ made.c ∷ made.m ∷ []

pub record AreSoFar (rows : ℕ) (made : Generated) : Type 0 where
  pub counts : All (Counts rows) (ColumnsOf made)
  pub rows_are : rows_in_columns rows (ColumnsOf made) ≡ generated_rows rows

pub one_more : (rows : ℕ) (old new : Generated) → AreSoFar rows old → AddsRow rows old new → AreSoFar (rows + 1) new
one_more rows old new far adds =
    let counts = counts-push rows (ColumnsOf old) (generated_row rows) refl far.counts in
    let grown = rows-push rows (ColumnsOf old) (generated_row rows) refl far.counts in
    let same : ColumnsOf new ≡ pushed old.a (Text (97 ∷ (48 + rows % 7) ∷ [])) ∷ pushed old.b (Whole (pos (rows * rows % 11))) ∷ pushed old.c (Whole (pos (rows / 3 % 50))) ∷ pushed old.m (Whole (less_half (31 * rows % 1000))) ∷ [] =
    (λ k. adds.a k ∷ adds.b k ∷ adds.c k ∷ adds.m k ∷ []) in
    record {
      counts = subst (All (Counts (rows + 1))) (sym same) counts;
      rows_are = ap (rows_in_columns (rows + 1)) same ∙ grown ∙ ap (λ l. l ++ generated_row rows ∷ []) far.rows_are ∙ snoc rows;
    }
  where
    snoc : (n : ℕ) → generated_rows n ++ generated_row n ∷ [] ≡ generated_rows (n + 1)
    snoc n = let e : n + 1 ≡ suc n = omega arith in ap generated_rows (sym e)

-- nothing is there before the first row
pub none_yet : (made : Generated) → made.a ≡ record { are_texts = true; values = [] } → made.b ≡ record { are_texts = false; values = [] } → made.c ≡ record { are_texts = false; values = [] } → made.m ≡ record { are_texts = false; values = [] } → AreSoFar 0 made
none_yet made a b c m =
    let t : Listed = record { are_texts = true; values = [] } in
    let n : Listed = record { are_texts = false; values = [] } in
    let empty : ColumnsOf made ≡ t ∷ n ∷ n ∷ n ∷ [] = (λ k. a k ∷ b k ∷ c k ∷ m k ∷ []) in
    record {
      counts = subst (All (Counts 0)) (sym empty)
          (All-cons (Counts 0) t (n ∷ n ∷ n ∷ []) refl (All-cons (Counts 0) n (n ∷ n ∷ []) refl (All-cons (Counts 0) n (n ∷ []) refl (All-cons (Counts 0) n [] refl (All-nil (Counts 0))))));
      rows_are = ap (rows_in_columns 0) empty;
    }

-- the sorts stay
pub sorts_still : (row : ℕ) (old new : Generated) → HasSorts old → AddsRow row old new → HasSorts new
sorts_still row old new sorts adds = record {
  a = ap (λ (c : Listed). c.are_texts) adds.a ∙ sorts.a;
  b = ap (λ (c : Listed). c.are_texts) adds.b ∙ sorts.b;
  c = ap (λ (c : Listed). c.are_texts) adds.c ∙ sorts.c;
  m = ap (λ (c : Listed). c.are_texts) adds.m ∙ sorts.m;
}

-- ---- of fields

pub not_generated : (fields : List Field) (rows : ℕ) → are_generated fields ≡ false → rows_generated fields rows ≡ Err (BadCsv WrongLength 0 0)
not_generated fields rows e = rw e refl

pub too_many : (fields : List Field) (rows : ℕ) → are_generated fields ≡ true → 1048576 < rows → rows_generated fields rows ≡ Err (TooLarge Rows 1048576)
too_many fields rows e lt =
    let many : nat_lt 1048576 rows ≡ true = grind (arith, nat_tests) in
    rw e (rw many refl)

pub rows_so : (fields : List Field) (rows : ℕ) → are_generated fields ≡ true → rows ≤ 1048576 → rows_generated fields rows ≡ Ok (generated_rows rows)
rows_so fields rows e le =
    let few : nat_lt 1048576 rows ≡ false = grind (arith, nat_tests) in
    rw e (rw few refl)
