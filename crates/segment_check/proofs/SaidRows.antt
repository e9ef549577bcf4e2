-- The rows that a file spells are rows that a segment of the table may have.
use Rattle.std.proofs.Common.{◌≡◌, ◌∙◌, ◌<◌, ◌+◌, ◌-◌, false, ℕ, All, List, [], length, map, get_or, sym, ap, subst, arith}
use Rattle.std.proofs.lemmas.List.{get_or-map, length-map, same_lists}
use Rattle.std.proofs.lemmas.List.Elements.{All-map}
use Rattle.std.proofs.lemmas.List.FromFn.{get_or-map-range_with_len, length-range_with_len}
use Rattle.std.proofs.lemmas.Option.{get_or_from_slice_get}
use Rattle.std.proofs.lemmas.Simd.{map-map}
use Rattle.std.specs.List.{range_with_len}
use Rattle.values.specs.declared.value.Value.{Value}
use Rattle.values.specs.Columns.{Counts, Listed, ListedColumns, row_of, rows_of}
use Rattle.values.proofs.RowLemmas.{length-rows, row-at}
use Rattle.value_ids.specs.Coding.{AreBelow}
use Rattle.value_ids.specs.Dictionary.{Distinct, Fits, IsUnicode}
use Rattle.bit_column.proofs.Ranges.{pieces-long}
use Rattle.table_schema.specs.declared.table.Table.{Table}
use Rattle.table_schema.specs.ValidTable.{AreRows}
use Rattle.segment_file.specs.Columns.{kind_at}
use Rattle.segment_file.specs.Front.{Front}
use Rattle.segment_file.specs.Image.{CanHold}
use Rattle.segment_file.specs.Parts.{columns_of}
use Rattle.segment_file.specs.Rules.{IsSpelled, KeepsAll, dictionary_in, heads_in}
use Rattle.segment_file.specs.Spelled.{HasIds, column_said, ids_said, rows_said, values_said}
use Rattle.segment_file.proofs.ImageSizes.{columns_all}
use Rattle.segment_file.proofs.Tails.{zip_at}
use Rattle.segment_build.specs.Growing.{TreesFit}
use Rattle.segment_check.specs.Reading.{no_column}
use Rattle.segment_check.proofs.RowLemmas.{field_kind, get_within, no_distinct, no_value, rows_fit, rows_unicode, values_all, zip_many}

module _ (table : Table) (name bytes : List ℕ) (front : Front) (ds : List Distinct) (keeps : KeepsAll table name bytes front ds)
    (has : (c : ℕ) → c < length table.schema.fields → HasIds table name bytes front ds c) where
  abbrev n : ℕ
  n = length table.schema.fields

  abbrev own : ℕ → Distinct
  own c = get_or ds c no_distinct

  abbrev said : ℕ → List Value
  said c = column_said table name bytes front ds c

  abbrev R : ℕ → Distinct → Type 0
  R c d = IsSpelled (kind_at table c) front.rows (dictionary_in (heads_in table name front bytes) c) d

  spelled-at : (c : ℕ) → c < n → R c (own c)
  spelled-at c lt =
      let plain : 0 + c ≡ c = omega arith in
      subst (λ k. R k (own c)) plain (zip_at R 0 n c ds no_distinct keeps.heads.spelled lt)

  values-are : (c : ℕ) → c < n → values_said ds c ≡ (own c).values
  values-are c lt =
      let many : length ds ≡ n = zip_many R 0 n ds keeps.heads.spelled in
      get_or-map (λ d. d.values) ds c no_distinct [] (omega (arith, many, lt))

  said-long : (c : ℕ) → length (said c) ≡ front.rows
  said-long c =
      let ids : List ℕ = ids_said table name bytes front ds c in
      let long : length ids ≡ front.rows - 0 = pieces-long _ _ (front.rows - 0) _ in
      length-map ids (λ id. get_or (values_said ds c) id no_value) ∙ long ∙ (let plain : front.rows - 0 ≡ front.rows = omega arith in plain)

  said-all : (P : Value → Type 0) (c : ℕ) → c < n → All P (own c).values → All P (said c)
  said-all P c lt all = values_all P (values_said ds c) (ids_said table name bytes front ds c) (subst (All P) (sym (values-are c lt)) all) (has c lt).1

  abbrev column : ℕ → Listed
  column c = record { are_texts = false; values = said c }

  abbrev t : ListedColumns
  t = record { columns = map column (columns_of table); count = front.rows }

  column-at : (k : ℕ) → k < n → get_or t.columns k no_column ≡ column k
  column-at k lt = let plain : 0 + k ≡ k = omega arith in get_or-map-range_with_len column 0 n k k no_column lt plain

  wide : length t.columns ≡ n
  wide = length-map (columns_of table) column ∙ length-range_with_len 0 n

  counts : All (Counts front.rows) t.columns
  counts = All-map (Counts front.rows) column (columns_of table) (columns_all (λ c. length (said c) ≡ front.rows) 0 n n (omega arith) (λ c lt. said-long c))

  rows-many : length (rows_of t) ≡ front.rows
  rows-many = length-rows front.rows t.columns counts

  fit : AreRows table.schema.fields (rows_of t)
  fit =
      let limit = keeps.front_is.at_most in
      record {
        each = rows_fit table.schema.fields t.columns front.rows wide
            (λ k f e.
            let lt : k < n = get_within table.schema.fields k f e in
            let d : Distinct = own k in
            subst (λ (c : Listed). All (Fits f.kind) c.values) (sym (column-at k lt))
            (subst (λ kind. All (Fits kind) (said k)) ((spelled-at k lt).kind_is ∙ field_kind table k f e) (said-all (Fits d.kind) k lt (spelled-at k lt).stands.fit)));
        at_most = omega (arith, limit, rows-many);
      }

  unicode : All (λ row. All IsUnicode row) (rows_of t)
  unicode = rows_unicode t.columns front.rows
      (λ k lt.
      let within : k < n = omega (arith, lt, wide) in
      subst (λ (c : Listed). All IsUnicode c.values) (sym (column-at k within)) (said-all IsUnicode k within (spelled-at k within).stands.unicode))

  rows-same : rows_of t ≡ rows_said table name bytes front ds
  rows-same =
      let own-rows : ℕ → List Value = λ row. map (λ c. get_or (said c) row no_value) (columns_of table) in
      let long : length (map own-rows (range_with_len 0 front.rows)) ≡ front.rows = length-map (range_with_len 0 front.rows) own-rows ∙ length-range_with_len 0 front.rows in
      same_lists (rows_of t) (map own-rows (range_with_len 0 front.rows)) (rows-many ∙ sym long)
      (λ k d lt.
      let within : k < front.rows = omega (arith, lt, rows-many) in
      let plain : 0 + k ≡ k = omega arith in
      get_or_from_slice_get (rows_of t) k (row_of t.columns k) d (row-at front.rows k t.columns within counts)
      ∙ map-map (λ (c : Listed). get_or c.values k no_value) column (columns_of table)
      ∙ sym (get_or-map-range_with_len own-rows 0 front.rows k k d within plain))

  pub said_can : TreesFit table (rows_said table name bytes front ds) → CanHold table (rows_said table name bytes front ds)
  said_can fits = record {
    fit = subst (AreRows table.schema.fields) rows-same fit;
    unicode = subst (λ rows. All (λ row. All IsUnicode row) rows) rows-same unicode;
    trees = fits;
  }
