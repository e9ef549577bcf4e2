-- Columns of ids are the columns of values that they code.
use Rattle.std.proofs.Common.{◌≡◌, ◌∙◌, ◌<◌, ◌≤◌, ◌+◌, ℕ, zero, suc, ℤ, List, [], ◌∷◌, ◌++◌, length, map, take, get_or, replicate, slice_get, Option, Some, refl, sym, ap, subst, arith, true, false, Result, Ok, Err, IfOk}
use Rattle.std.specs.Prelude.{pos, nat_lt}
use Rattle.std.proofs.Math.ListN.{get_or-append}
use Rattle.std.proofs.lemmas.Bool.{ltb-false, ltb-true}
use Rattle.std.proofs.lemmas.List.{get_or-map, get_or_at, length-map, length_push, map-append, take_more}
use Rattle.std.proofs.lemmas.List.Elements.{All-from_get_or, All-head, All-tail}
use Rattle.std.proofs.lemmas.Option.{get_or_from_slice_get, slice_get-get_or}
use Rattle.std.specs.List.{All}
use Rattle.values.specs.declared.value.Value.TheVariants.{Text, Whole}
use Rattle.values.specs.Columns.{Counts, Listed, ListedColumns, fronted, rows_in_columns, rows_of}
use Rattle.values.proofs.RowLemmas.{length-rows}
use Rattle.value_ids.specs.Coding.{AreBelow, Codes, values_at}
use Rattle.value_ids.specs.Dictionary.{distinct}
use Rattle.table_schema.specs.declared.field.Field.{Field}
use Rattle.table_schema.specs.declared.table.Table.{Table}
use Rattle.table_schema.specs.NeedIds.{is_the_number}
use Rattle.table_schema.specs.ValidTable.{AreRows}
use Rattle.segment_file.specs.Columns.{ids_of, kind_at, kind_or, values_in}
use Rattle.segment_file.specs.Trees.{number_of}
use Rattle.segment_build.specs.declared.coded.CodedColumn.{CodedColumn}
use Rattle.segment_build.specs.declared.coded.CodedColumns.{CodedColumns}
use Rattle.segment_build.specs.declared.coding.RowOrder.{RowOrder}
use Rattle.segment_build.specs.declared.indexes.Indexes.{Indexes}
use Rattle.segment_build.specs.Arranging.{IsCoded, Orders, OrdersBy, arranged, places_in}
use Rattle.segment_build.specs.Coded.{AreCoded, IsCoding, MayPush, columns_in, decoded, dictionary_of_ids, ids_at, no_values, row_values}
use Rattle.segment_build.specs.Fitting.{AreOfTable}
use Rattle.segment_build.specs.Sections.{ids_in}
use Rattle.segment_build.proofs.Arranged.{ids_arranged}
use Rattle.segment_build.proofs.ColumnCodes.{coded_below, coded_few, coded_up, in_rows, rows_most}
use Rattle.segment_build.proofs.ColumnLemmas.{column_values, ids_are}
use Rattle.segment_build.proofs.Stable.{same_distinct}

pub some_at : {A : Type 0} (xs : List A) (k : ℕ) → k < length xs → (x : A) × (slice_get xs k ≡ Some x)
some_at [] k lt = absurd (omega (arith, lt))
some_at (x ∷ xs) zero lt = (x, refl)
some_at (x ∷ xs) (suc k) lt = some_at xs k (omega (arith, lt))

pub mapped_more : {A B : Type 0} (f : A → B) (xs : List A) (i : ℕ) (x : A) (y : B) (old new : List B) → i < length xs → x ≡ get_or xs i x → y ≡ f x → old ≡ map f (take i xs) → new ≡ old ++ y ∷ [] → new ≡ map f (take (i + 1) xs)
mapped_more f xs i x y old new lt is one so more =
    more
    ∙ (λ j. so j ++ (one ∙ ap f is) j ∷ [])
    ∙ sym (map-append f (take i xs) (get_or xs i x ∷ []))
    ∙ ap (map f) (sym (take_more xs i x lt))

-- ---- one column of several

pub decoded_at : (coded : CodedColumns) (at : ℕ) (c : CodedColumn) (d : Listed) → at < length coded.columns.items → c ≡ get_or coded.columns.items at c → decoded c ≡ get_or (columns_in coded).columns at d
decoded_at coded at c d lt is = ap decoded is ∙ sym (get_or-map decoded coded.columns.items at c d lt)

pub many_columns : (table : Table) (coded : CodedColumns) → AreCoded table coded → length coded.columns.items ≡ length table.schema.fields
many_columns table coded are = sym (length-map coded.columns.items decoded) ∙ are.of_table.columns.width

pub codes_of : (c : CodedColumn) → IsCoding c → Codes (dictionary_of_ids c).values c.ids (row_values c)
codes_of c coding = record { each = refl; below = coding.below }

pub ids_own : (c : CodedColumn) → IsCoding c → c.ids ≡ ids_in (row_values c)
ids_own c coding = ids_are (dictionary_of_ids c).values (row_values c) c.ids coding.are (codes_of c coding)

pub values_of : (table : Table) (coded : CodedColumns) (at : ℕ) (c : CodedColumn) → AreCoded table coded → at < length coded.columns.items → c ≡ get_or coded.columns.items at c → values_in at (rows_of (columns_in coded)) ≡ row_values c
values_of table coded at c are lt is =
    let t : ListedColumns = columns_in coded in
    let below : at < length t.columns = omega (arith, lt, length-map coded.columns.items decoded) in
    column_values t.count t.columns at (decoded c) are.of_table.columns.counts below ∙ ap (λ (l : Listed). l.values) (sym (decoded_at coded at c (decoded c) lt is))

pub ids_long : (table : Table) (coded : CodedColumns) (at : ℕ) (c : CodedColumn) → AreCoded table coded → at < length coded.columns.items → c ≡ get_or coded.columns.items at c → length c.ids ≡ coded.rows
ids_long table coded at c are lt is =
    let t : ListedColumns = columns_in coded in
    let below : at < length t.columns = omega (arith, lt, length-map coded.columns.items decoded) in
    sym (length-map c.ids (λ id. get_or (dictionary_of_ids c).values id (Whole (pos 0))))
    ∙ ap (λ (l : Listed). length l.values) (decoded_at coded at c (decoded c) lt is) ∙ are.of_table.columns.counts at (decoded c) below

-- the ids of the rows as they came
pub ids_given : (table : Table) (coded : CodedColumns) (at : ℕ) (c : CodedColumn) → AreCoded table coded → at < length coded.columns.items → c ≡ get_or coded.columns.items at c → c.ids ≡ ids_of (rows_of (columns_in coded)) at
ids_given table coded at c are lt is = ids_own c (are.each at c lt is) ∙ ap ids_in (sym (values_of table coded at c are lt is))

pub own_ids : (coded : CodedColumns) (at : ℕ) (c : CodedColumn) → at < length coded.columns.items → c ≡ get_or coded.columns.items at c → ids_at coded at ≡ c.ids
own_ids coded at c lt is = get_or-map (λ (x : CodedColumn). x.ids) coded.columns.items at c [] lt ∙ ap (λ (x : CodedColumn). x.ids) (sym is)

pub split_given : (table : Table) (coded : CodedColumns) (split : List ℕ) → AreCoded table coded → All (λ column. column < length coded.columns.items) split → map (ids_at coded) split ≡ map (ids_of (rows_of (columns_in coded))) split
split_given table coded [] are within = refl
split_given table coded (at ∷ split) are within =
    let P : ℕ → Type 0 = λ column. column < length coded.columns.items in
    let lt = All-head P at split within in
    let own = some_at coded.columns.items at lt in
    let is : own.0 ≡ get_or coded.columns.items at own.0 = sym (get_or_from_slice_get coded.columns.items at own.0 own.0 own.1) in
    let one = own_ids coded at own.0 lt is ∙ ids_given table coded at own.0 are lt is in
    let more = split_given table coded split are (All-tail P at split within) in
    (λ i. one i ∷ more i)

-- and as they are put in their order
pub coded_at : (table : Table) (coded : CodedColumns) (at : ℕ) (c : CodedColumn) (o : RowOrder) → AreCoded table coded → at < length coded.columns.items → c ≡ get_or coded.columns.items at c
    → Orders table.settings.sorted (rows_of (columns_in coded)) o → IsCoded table (columns_in coded) at (dictionary_of_ids c) (arranged 0 o c.ids)
coded_at table coded at c o are lt is orders =
    let t : ListedColumns = columns_in coded in
    let coding = are.each at c lt is in
    let kind = are.kinds at c lt is in
    let values = values_of table coded at c are lt is in
    let same : (dictionary_of_ids c).values ≡ distinct (values_in at (in_rows table t)) = coding.are ∙ ap distinct (sym values) ∙ sym (same_distinct at table.settings.sorted (rows_of t)) in
    record {
      distinct_is = (λ i. record { kind = kind i; values = same i });
      ids_is = ap (arranged 0 o) (ids_own c coding ∙ ap ids_in (sym values)) ∙ sym (ids_arranged table.settings.sorted (rows_of t) o at orders);
    }

pub may_push : (table : Table) (coded : CodedColumns) (at : ℕ) (c : CodedColumn) (o : RowOrder) (indexes : Indexes) → AreCoded table coded → at < length coded.columns.items → c ≡ get_or coded.columns.items at c
    → Orders table.settings.sorted (rows_of (columns_in coded)) o → indexes.sorted ≡ is_the_number at table.settings.sorted → MayPush c o indexes
may_push table coded at c o indexes are lt is orders number =
    let t : ListedColumns = columns_in coded in
    let k = coded_at table coded at c o are lt is orders in
    let count : length (rows_of t) ≡ length c.ids = length-rows t.count t.columns are.of_table.columns.counts ∙ sym (ids_long table coded at c are lt is) in
    record {
      within = subst (λ n. AreBelow n (places_in o)) count orders.within;
      at_most = coded_few table t at (dictionary_of_ids c) (arranged 0 o c.ids) are.of_table.columns k;
      below = coded_below table t at (dictionary_of_ids c) (arranged 0 o c.ids) k;
      ascend = λ holds. coded_up table t at o (dictionary_of_ids c) (arranged 0 o c.ids) indexes.sorted orders k number holds;
    }

pub ids_few : (table : Table) (coded : CodedColumns) (at : ℕ) (c : CodedColumn) → AreCoded table coded → at < length coded.columns.items → c ≡ get_or coded.columns.items at c → length c.ids ≤ 1048576
ids_few table coded at c are lt is =
    let t : ListedColumns = columns_in coded in
    omega (arith, ids_long table coded at c are lt is, length-rows t.count t.columns are.of_table.columns.counts, rows_most table.schema.fields t are.of_table.columns)

-- the order by the values of the sorted column is that of the rows
pub order_of : {E : Type 0} (table : Table) (coded : CodedColumns) (m : ℕ) (c : CodedColumn) (found : Result RowOrder E) → AreCoded table coded → table.settings.sorted ≡ Some m → m < length coded.columns.items → c ≡ get_or coded.columns.items m c
    → IfOk found (OrdersBy (row_values c)) → IfOk found (Orders table.settings.sorted (rows_of (columns_in coded)))
order_of table coded m c (Err e) are sorted lt is by = tt
order_of table coded m c (Ok o) are sorted lt is by =
    subst (λ (s : Option ℕ). Orders s (rows_of (columns_in coded)) o) (sym sorted) (by m (rows_of (columns_in coded)) (values_of table coded m c are lt is))

-- ---- columns that are coded one after the other

-- a column of a table's rows is coded
pub record IsCodingOf (table : Table) (t : ListedColumns) (at : ℕ) (c : CodedColumn) : Type 0 where
  pub coding : IsCoding c
  pub kind : (dictionary_of_ids c).kind ≡ kind_at table at
  pub values : row_values c ≡ (get_or t.columns at no_values).values

-- so are the first so many
pub record AreCodingsOf (table : Table) (t : ListedColumns) (count : ℕ) (all : List CodedColumn) : Type 0 where
  pub many : length all ≡ count
  pub each : (at : ℕ) (c : CodedColumn) → at < count → c ≡ get_or all at c → IsCodingOf table t at c

pub codings_none : (table : Table) (t : ListedColumns) (all : List CodedColumn) → all ≡ [] → AreCodingsOf table t 0 all
codings_none table t all none = record { many = ap length none; each = λ at c lt is. absurd (omega (arith, lt)) }

pub coding_one : (table : Table) (t : ListedColumns) (at : ℕ) (field : Field) (column : Listed) (c : CodedColumn) → at < length table.schema.fields → field ≡ get_or table.schema.fields at field → slice_get t.columns at ≡ Some column
    → (dictionary_of_ids c).kind ≡ field.kind → (dictionary_of_ids c).values ≡ distinct column.values → Codes (dictionary_of_ids c).values c.ids column.values → IsCodingOf table t at c
coding_one table t at field column c lt is column_is kind are codes =
    let found : slice_get table.schema.fields at ≡ Some field = slice_get-get_or table.schema.fields at field lt ∙ ap Some (sym is) in
    record {
      coding = record { below = codes.below; are = are ∙ ap distinct (sym codes.each) };
      kind = kind ∙ ap kind_or (sym found);
      values = codes.each ∙ ap (λ (l : Listed). l.values) (sym (get_or_from_slice_get t.columns at column no_values column_is));
    }

-- what holds of each so far, and of one more, holds of each
pub each_more : {A : Type 0} (P : ℕ → A → Type 0) (at : ℕ) (old new : List A) (x : A) → length old ≡ at → ((k : ℕ) (y : A) → k < at → y ≡ get_or old k y → P k y) → P at x → new ≡ old ++ x ∷ []
    → (k : ℕ) (y : A) → k < at + 1 → y ≡ get_or new k y → P k y
each_more P at old new x many so one more k y lt is =
    let found : y ≡ get_or (old ++ x ∷ []) k y = is ∙ ap (λ l. get_or l k y) more in
    elim (nat_lt k at) as (λ b. nat_lt k at ≡ b → P k y) [
      | true ↦ λ e.
          let before : k < at = ltb-true k at e in
          let within : k < length old = omega (arith, before, many) in
          so k y before (found ∙ get_or-append old (x ∷ []) y k within)
      | false ↦ λ e.
          let last : at ≤ k = ltb-false k at e in
          let here : k ≡ at = omega (arith, last, lt) in
          let end : length old ≡ k = omega (arith, many, here) in
          let same : y ≡ x = found ∙ get_or_at old x [] y k end in
          subst (λ j. P j y) (sym here) (subst (P at) (sym same) one)
    ] refl

pub codings_more : (table : Table) (t : ListedColumns) (at : ℕ) (old new : List CodedColumn) (c : CodedColumn) → AreCodingsOf table t at old → IsCodingOf table t at c → new ≡ old ++ c ∷ [] → AreCodingsOf table t (at + 1) new
codings_more table t at old new c so one more = record {
  many = ap length more ∙ length_push old c ∙ ap (λ n. n + 1) so.many;
  each = each_more (IsCodingOf table t) at old new c so.many so.each one more;
}

-- columns of the same values are the same rows
pub rows_alike : (count : ℕ) (cs ds : List Listed) → length cs ≡ length ds → ((k : ℕ) → k < length cs → (get_or cs k no_values).values ≡ (get_or ds k no_values).values) → rows_in_columns count cs ≡ rows_in_columns count ds
rows_alike count [] [] wide each = refl
rows_alike count [] (d ∷ ds) wide each = absurd (omega (arith, wide))
rows_alike count (c ∷ cs) [] wide each = absurd (omega (arith, wide))
rows_alike count (c ∷ cs) (d ∷ ds) wide each =
    let first : c.values ≡ d.values = each 0 (omega arith) in
    let rest = rows_alike count cs ds (omega (arith, wide)) (λ k lt. each (suc k) (omega (arith, lt))) in
    (λ i. fronted (first i) (rest i))

pub coded_all : (table : Table) (t : ListedColumns) (coded : CodedColumns) → AreOfTable table t → AreCodingsOf table t (length table.schema.fields) coded.columns.items → coded.rows ≡ t.count
    → AreCoded table coded × (rows_of (columns_in coded) ≡ rows_of t)
coded_all table t coded of so number =
    let all : List CodedColumn = coded.columns.items in
    let made : List Listed = map decoded all in
    let long : length made ≡ length all = length-map all decoded in
    let wide : length made ≡ length t.columns = long ∙ so.many ∙ sym of.columns.width in
    let same : (k : ℕ) → k < length made → (get_or made k no_values).values ≡ (get_or t.columns k no_values).values = λ k lt.
    let within : k < length all = omega (arith, lt, long) in
    let own = some_at all k within in
    let is : own.0 ≡ get_or all k own.0 = sym (get_or_from_slice_get all k own.0 own.0 own.1) in
    ap (λ (l : Listed). l.values) (sym (decoded_at coded k own.0 no_values within is)) ∙ (so.each k own.0 (omega (arith, within, so.many)) is).values in
    let rows : rows_of (columns_in coded) ≡ rows_of t = rows_alike coded.rows made t.columns wide same ∙ ap (λ n. rows_in_columns n t.columns) number in (
      record {
        of_table = record {
          valid = of.valid;
          columns = record {
            width = long ∙ so.many;
            counts = All-from_get_or (Counts coded.rows) made no_values
                (λ k lt. ap length (same k lt) ∙ of.columns.counts k no_values (omega (arith, lt, wide)) ∙ sym number);
            rows = subst (AreRows table.schema.fields) (sym rows) of.columns.rows;
          };
        };
        each = λ at c lt is. (so.each at c (omega (arith, lt, so.many)) is).coding;
        kinds = λ at c lt is. (so.each at c (omega (arith, lt, so.many)) is).kind;
      },
      rows,
    )

-- ---- the numbers of a column's rows

pub numbers_gathered : (numbers : List ℤ) (ids : List ℕ) → AreBelow (length numbers) ids → map number_of (values_at (map Whole numbers) ids) ≡ map (λ p. get_or numbers p (pos 0)) ids
numbers_gathered numbers [] below = refl
numbers_gathered numbers (id ∷ ids) below =
    let P : ℕ → Type 0 = λ n. n < length numbers in
    let one = ap number_of (get_or-map Whole numbers id (pos 0) (Whole (pos 0)) (All-head P id ids below)) in
    let more = numbers_gathered numbers ids (All-tail P id ids below) in
    (λ i. one i ∷ more i)

pub zeros_gathered : (texts : List (List ℕ)) (ids : List ℕ) → AreBelow (length texts) ids → map number_of (values_at (map Text texts) ids) ≡ replicate (length ids) (pos 0)
zeros_gathered texts [] below = refl
zeros_gathered texts (id ∷ ids) below =
    let P : ℕ → Type 0 = λ n. n < length texts in
    let one = ap number_of (get_or-map Text texts id [] (Whole (pos 0)) (All-head P id ids below)) in
    let more = zeros_gathered texts ids (All-tail P id ids below) in
    (λ i. one i ∷ more i)
