-- Rows are put into columns.
use Rattle.std.proofs.Common.{◌≡◌, ◌∙◌, ◌<◌, ◌+◌, ◌++◌, ◌∷◌, [], false, true, ℕ, List, length, map, get_or, set, take, refl, sym, ap, ap₂, subst, arith}
use Rattle.std.proofs.lemmas.List.{get_or-map, length-map, length-take, map-append, nil_from_length, take_more, length-append}
use Rattle.std.proofs.lemmas.List.Elements.{All-get_or, All-push}
use Rattle.std.specs.List.{All}
use Rattle.data_types.specs.declared.kind.FieldKind.{FieldKind}
use Rattle.data_types.specs.declared.kind.FieldKind.TheVariants as kind
use Rattle.values.specs.declared.value.Value.{Value}
use Rattle.values.specs.declared.value.Value.TheVariants.{Whole, Text}
use Rattle.values.specs.Columns.{Counts, Listed, is_text, pushed, row_pushed, rows_in_columns}
use Rattle.values.specs.Kinds.{fits, is_of}
use Rattle.values.proofs.RowLemmas.{counts-push, length-push, length-rows, push-one, rows-push, sorts-push}
use Rattle.table_schema.specs.declared.field.Field.{Field}
use Rattle.table_schema.specs.ValidTable.{AreRows, IsRow, is_row}
use Rattle.segment_build.proofs.Fits.{both_first, both_second}
use Rattle.segment_build.specs.RowColumns.{AreThose, OfFields, SuitsRow, is_of_texts}

-- ---- one row

widths : (columns : List Listed) (row : List Value) → SuitsRow columns row → length columns ≡ length row
widths columns row suits = sym (length-map columns (λ c. c.are_texts)) ∙ ap length suits ∙ length-map row is_text

pub still_wide : (old columns : List Listed) (row done : List Value) → SuitsRow old row → columns ≡ row_pushed old done → length columns ≡ length row
still_wide old columns row done suits is = ap length is ∙ length-push old done ∙ widths old row suits

pub value_suits : (old columns : List Listed) (row done : List Value) (at : ℕ) (c : Listed) (v : Value) → SuitsRow old row → columns ≡ row_pushed old done → at < length row
    → c ≡ get_or columns at c → v ≡ get_or row at v → c.are_texts ≡ is_text v
value_suits old columns row done at c v suits is lt c_is v_is =
    let below : at < length columns = omega (arith, lt, still_wide old columns row done suits is) in
    let sorts : map (λ x. x.are_texts) columns ≡ map is_text row = ap (map (λ x. x.are_texts)) is ∙ sorts-push old done ∙ suits in
    ap (λ x. x.are_texts) c_is ∙ sym (get_or-map (λ x. x.are_texts) columns at c false below) ∙ ap (λ xs. get_or xs at false) sorts
    ∙ get_or-map is_text row at v false lt ∙ ap is_text (sym v_is)

-- one more value of a row
pub value_more : (old columns new : List Listed) (row : List Value) (at : ℕ) (c c' : Listed) (v : Value) → SuitsRow old row → columns ≡ row_pushed old (take at row) → at < length row
    → c ≡ get_or columns at c → v ≡ get_or row at v → c' ≡ pushed c v → new ≡ set columns at c' → new ≡ row_pushed old (take (at + 1) row)
value_more old columns new row at c c' v suits is lt c_is v_is pushes sets =
    let done : List Value = take at row in
    let count : length done ≡ at = omega (arith, length-take at row, lt) in
    let below : length done < length old = omega (arith, lt, count, widths old row suits) in
    let all : take (at + 1) row ≡ done ++ v ∷ [] = take_more row at v lt ∙ ap (λ x. done ++ x ∷ []) (sym v_is) in
    sets ∙ ap (set columns at) (pushes ∙ ap (λ x. pushed x v) c_is)
    ∙ ap (λ xs. set xs at (pushed (get_or xs at c) v)) is
    ∙ ap (λ k. set (row_pushed old done) k (pushed (get_or (row_pushed old done) k c) v)) (sym count)
    ∙ push-one old done v c below
    ∙ ap (row_pushed old) (sym all)

-- ---- all rows

pub kind_suits : (k : FieldKind) (v : Value) → fits k v ≡ true → is_of k (Text []) ≡ is_text v
kind_suits kind.Int (Whole z) e = refl
kind_suits kind.Int (Text t) e = absurd cc
kind_suits kind.Long (Whole z) e = refl
kind_suits kind.Long (Text t) e = absurd cc
kind_suits kind.Text (Whole z) e = absurd cc
kind_suits kind.Text (Text t) e = refl

row_suits : (fields : List Field) (row : List Value) → is_row fields row ≡ true → map is_of_texts fields ≡ map is_text row
row_suits [] [] e = refl
row_suits [] (v ∷ vs) e = absurd cc
row_suits (f ∷ fs) [] e = absurd cc
row_suits (f ∷ fs) (v ∷ vs) e =
    (λ i. kind_suits f.kind v (both_first (fits f.kind v) (is_row fs vs) e) i ∷ row_suits fs vs (both_second (fits f.kind v) (is_row fs vs) e) i)

-- the next row suits the columns of those before it
pub next_suits : (fields : List Field) (rows done : List (List Value)) (columns : List Listed) (at : ℕ) (row : List Value) → AreRows fields rows → AreThose fields done columns → at < length rows
    → row ≡ get_or rows at row → SuitsRow columns row
next_suits fields rows done columns at row are so_far lt is =
    so_far.sorts ∙ row_suits fields row (subst (IsRow fields) (sym is) (All-get_or (IsRow fields) rows at row lt are.each))

pub none_yet : (fields : List Field) (columns : List Listed) → OfFields fields columns → All (Counts 0) columns → AreThose fields [] columns
none_yet fields columns sorts counts = record {
  sorts = sorts;
  counts = counts;
  are = nil_from_length (rows_in_columns 0 columns) (omega (arith, length-rows 0 columns counts));
}

row_put : (fields : List Field) (done : List (List Value)) (columns new : List Listed) (row : List Value) → AreThose fields done columns → SuitsRow columns row → new ≡ row_pushed columns row
    → AreThose fields (done ++ row ∷ []) new
row_put fields done columns new row so_far suits is =
    let wide : length row ≡ length columns = sym (widths columns row suits) in
    let one : length (done ++ row ∷ []) ≡ length done + 1 = length-append done (row ∷ []) in
    let made : List Listed = row_pushed columns row in
    subst (AreThose fields (done ++ row ∷ [])) (sym is) (record {
      sorts = sorts-push columns row ∙ so_far.sorts;
      counts = subst (λ n. All (Counts n) made) (sym one) (counts-push (length done) columns row wide so_far.counts);
      are = ap (λ n. rows_in_columns n made) one ∙ rows-push (length done) columns row wide so_far.counts ∙ ap (λ rs. rs ++ row ∷ []) so_far.are;
    })

-- one more row
pub row_more : (fields : List Field) (rows : List (List Value)) (columns new : List Listed) (at : ℕ) (row : List Value) → AreRows fields rows → AreThose fields (take at rows) columns → at < length rows
    → row ≡ get_or rows at row → new ≡ row_pushed columns row → AreThose fields (take (at + 1) rows) new
row_more fields rows columns new at row are so_far lt is more =
    let all : take (at + 1) rows ≡ take at rows ++ row ∷ [] = take_more rows at row lt ∙ ap (λ r. take at rows ++ r ∷ []) (sym is) in
    subst (λ rs. AreThose fields rs new) (sym all) (row_put fields (take at rows) columns new row so_far (next_suits fields rows (take at rows) columns at row are so_far lt is) more)

-- one more empty column
pub field_more : (fields : List Field) (columns new : List Listed) (at : ℕ) (field : Field) (c : Listed) → at < length fields → field ≡ get_or fields at field → c ≡ record { are_texts = is_of_texts field; values = [] }
    → OfFields (take at fields) columns × All (Counts 0) columns → new ≡ columns ++ c ∷ [] → OfFields (take (at + 1) fields) new × All (Counts 0) new
field_more fields columns new at field c lt is c_is so_far more =
    let all : take (at + 1) fields ≡ take at fields ++ field ∷ [] = take_more fields at field lt ∙ ap (λ f. take at fields ++ f ∷ []) (sym is) in (
      ap (map (λ x. x.are_texts)) more ∙ map-append (λ x. x.are_texts) columns (c ∷ [])
          ∙ ap₂ ◌++◌ so_far.0 (ap (λ x. x.are_texts ∷ []) c_is)
          ∙ sym (map-append is_of_texts (take at fields) (field ∷ [])) ∙ ap (map is_of_texts) (sym all),
      subst (All (Counts 0)) (sym more) (All-push (Counts 0) columns c so_far.1 (ap (λ x. length x.values) c_is)),
    )
