-- Rows that are added to columns.
use Rattle.std.proofs.Common.{◌≡◌, ◌∙◌, ◌<◌, ◌++◌, ◌∷◌, [], ℕ, List, false, length, map, get_or, set, Result, Option, None, sym, ap, arith}
use Rattle.std.proofs.lemmas.List.{length-map, get_or-map}
use Rattle.values.specs.declared.value.Value.{Value}
use Rattle.table_schema.specs.declared.field.Field.{Field}
use Rattle.values.specs.Columns.{Listed, pushed, row_pushed}
use Rattle.values.proofs.RowLemmas.{push-one, sorts-push}
use Rattle.csv_row.specs.declared.fault.CsvFault.{CsvFault}
use Rattle.csv_row.specs.Row.{place_of, value_at}
use Rattle.csv_row.specs.Columns.{OfSorts, is_text_kind}

-- there are as many columns as fields
pub widths : (fields : List Field) (columns : List Listed) → OfSorts fields columns → length columns ≡ length fields
widths fields columns sorts = sym (length-map columns (λ c. c.are_texts)) ∙ ap length sorts ∙ length-map fields (λ f. is_text_kind f.kind)

-- the sort of a column is that of its field
pub sort-at : (fields : List Field) (columns : List Listed) (i : ℕ) (c : Listed) (f : Field) → OfSorts fields columns → i < length fields → c ≡ get_or columns i c → f ≡ get_or fields i f → c.are_texts ≡ is_text_kind f.kind
sort-at fields columns i c f sorts lt c_is f_is =
    let below : i < length columns = omega (arith, lt, widths fields columns sorts) in
    ap (λ x. x.are_texts) c_is ∙ sym (get_or-map (λ x. x.are_texts) columns i c false below) ∙ ap (λ xs. get_or xs i false) sorts
    ∙ get_or-map (λ x. is_text_kind x.kind) fields i f false lt ∙ ap (λ x. is_text_kind x.kind) (sym f_is)

-- they are still of the sorts of the fields where a part of a row was added
pub sorts-stay : (fields : List Field) (old : List Listed) (done : List Value) (columns : List Listed) → OfSorts fields old → columns ≡ row_pushed old done → OfSorts fields columns
sorts-stay fields old done columns sorts are = ap (map (λ c. c.are_texts)) are ∙ sorts-push old done ∙ sorts

-- one more value of the row
pub column-set : (old : List Listed) (done : List Value) (columns : List Listed) (i : ℕ) (c c' : Listed) (v : Value) → length done ≡ i → i < length old → columns ≡ row_pushed old done → c ≡ get_or columns i c → c' ≡ pushed c v
    → set columns i c' ≡ row_pushed old (done ++ v ∷ [])
column-set old done columns i c c' v count lt are c_is is =
    ap (set columns i) (is ∙ ap (λ x. pushed x v) c_is)
    ∙ ap (λ xs. set xs i (pushed (get_or xs i c) v)) are
    ∙ ap (λ k. set (row_pushed old done) k (pushed (get_or (row_pushed old done) k c) v)) (sym count)
    ∙ push-one old done v c (omega (arith, lt, count))

-- what a field's place gives is what the field gives
pub value-given : (header cells : List (List ℕ)) (fields : List Field) (places : List (Option ℕ)) (row i : ℕ) (f : Field) (r : Result Value CsvFault)
    → places ≡ map (place_of header) fields → i < length fields → f ≡ get_or fields i f → value_at row cells f (get_or places i None) ≡ r
    → value_at row cells (get_or fields i f) (place_of header (get_or fields i f)) ≡ r
value-given header cells fields places row i f r same lt f_is given =
    ap (λ x. value_at row cells x (place_of header (get_or fields i f))) (sym f_is)
    ∙ ap (value_at row cells f) (sym (get_or-map (place_of header) fields i f None lt) ∙ ap (λ ps. get_or ps i None) (sym same)) ∙ given
