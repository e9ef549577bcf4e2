-- The rows of documents, by the columns that are read for them.
use Rattle.std.proofs.Common.{◌≡◌, ◌∙◌, ◌<◌, ◌≤◌, ◌+◌, ◌-◌, ◌∷◌, ◌++◌, [], inl, inr, ℕ, suc, pos, Bool, true, false, All, Option, Some, None, IfSome, List, length, map, get_or, refl, ap, sym, subst, arith}
use Rattle.std.proofs.lemmas.Bool.{cases_lt}
use Rattle.std.proofs.Math.Seq.{get_or-append_seam}
use Rattle.std.proofs.lemmas.List.{ext_get_or, get_or-map, get_or_append_left, length-map}
use Rattle.std.proofs.lemmas.List.Elements.{All-from_get_or}
use Rattle.std.proofs.lemmas.List.FromFn.{get_or-map-range_with_len, length-range_with_len}
use Rattle.std.proofs.lemmas.Option.{get_or_from_slice_get}
use Rattle.std.specs.List.{range_with_len}
use Rattle.outside.specs.Files.{Files}
use Rattle.values.specs.declared.value.Value.{Value}
use Rattle.values.specs.declared.value.Value.TheVariants.{Whole}
use Rattle.values.specs.Columns.{row_of, rows_of}
use Rattle.values.proofs.RowLemmas.{length-rows, row-at}
use Rattle.bit_column.specs.Column.{id_at, ids_between}
use Rattle.value_ids.specs.Coding.{AreBelow}
use Rattle.std.specs.List.Sorted.{IsStrictlyIncreasing}
use Rattle.doc_lists.specs.Sets.{Up}
use Rattle.table_schema.specs.declared.query.BoundQuery.{BoundQuery}
use Rattle.segment_head.specs.Heads.{Seen}
use Rattle.segment_plan.specs.Matched.{values_in}
use Rattle.segment_plan.specs.declared.plans.IndexChoice.{IndexChoice}
use Rattle.group_table.specs.Kept.{KeptGroups}
use Rattle.scan_engine.specs.Places.{rows_at}
use Rattle.scan_engine.specs.Scanned.{IsOverfull, selected}
use Rattle.coded_columns.specs.declared.coded.Coded.{Coded}
use Rattle.coded_columns.specs.declared.coded.SegmentColumns.{SegmentColumns}
use Rattle.coded_columns.specs.Coded.{listed, most_rows, table_of, values_of}
use Rattle.coded_columns.specs.IdColumns.{AreCoded, HasIds, IsCoded}
use Rattle.segment_scan.specs.Documents.{selected_docs}
use Rattle.column_reader.specs.Forward.{forward_in, width_in}
use Rattle.column_reader.specs.Picked.{IsPicked}
use Rattle.segment_scan.specs.Scans.{IsCodedOf, columns_read, values_read}
use Rattle.coded_columns.proofs.CodedLemmas.{counts, get_or-ids, zeros}
use Rattle.segment_plan.specs.Served.{rest_of}
use Rattle.segment_scan.proofs.DocLemmas.{increasing_up}
use Rattle.column_reader.proofs.PickSteps.{ids_of_range}

-- so many ascending documents below a number
pub up_few : (from n : ℕ) (docs : List ℕ) → Up from docs → from ≤ n → ((j : ℕ) → j < length docs → get_or docs j 0 < n) → from + length docs ≤ n
up_few from n [] up le below = omega (arith, le)
up_few from n (d ∷ ds) up le below =
    let own = below 0 (omega arith) in
    let rest = up_few (d + 1) n ds up.1 (omega (arith, own)) (λ j lt. below (suc j) (omega (arith, lt))) in
    omega (arith, rest, up.0)

one-coded : (held : Option Files) (head : Seen) (column : ℕ) (docs : List ℕ) (named : Bool) (ids : Option (List ℕ)) (coded : Option Coded) → IsPicked held head column docs named ids → IsCodedOf head column ids coded → IsCoded (length docs) coded
one-coded held head column docs named None None picked of = λ own is. absurd cc
one-coded held head column docs named None (Some coded) picked of = absurd of
one-coded held head column docs named (Some ids) None picked of = absurd of
one-coded held head column docs false (Some ids) (Some coded) picked of = absurd cc
one-coded held head column docs true (Some ids) (Some coded) picked of = λ own is.
    let same : coded ≡ own = cc in
    subst (HasIds (length docs)) same (record {
      count = ap length of.0 ∙ picked.count;
      below = subst (λ (l : List ℕ). AreBelow (length coded.dictionary.now.values) l) (sym of.0) (subst (λ (vs : List Value). AreBelow (length vs) ids) (sym of.1) picked.below);
    })

module _ (files : Files) (head : Seen) (docs : List ℕ) (k : ℕ) (lt : k < length docs) (there : get_or docs k 0 < head.rows) where
  abbrev doc : ℕ
  doc = get_or docs k 0

  -- the value of a document in a column
  one-value : (column : ℕ) (named : Bool) (ids : Option (List ℕ)) (coded : Option Coded) → IsPicked (Some files) head column docs named ids → IsCodedOf head column ids coded
      → get_or (values_of (length docs) coded) k (Whole (pos 0)) ≡ get_or (values_read files head column named) doc (Whole (pos 0))
  one-value column false None None picked of = zeros (length docs) k ∙ sym (zeros head.rows doc)
  one-value column true None None picked of = absurd picked
  one-value column named None (Some coded) picked of = absurd of
  one-value column named (Some ids) None picked of = absurd of
  one-value column false (Some ids) (Some coded) picked of = absurd cc
  one-value column true (Some ids) (Some coded) picked of =
      let w : ℕ = width_in head column in
      let bytes : List ℕ = forward_in files head column in
      let vs : List Value = values_in head column in
      let all : List ℕ = ids_between w 0 head.rows bytes in
      let at : ℕ → ℕ = λ d. id_at w d bytes in
      let plain : head.rows - 0 ≡ head.rows = omega arith in
      let range : all ≡ map at (range_with_len 0 (head.rows - 0)) = ids_of_range w 0 head.rows bytes in
      let own : get_or ids k 0 ≡ at doc = ap (λ (l : List ℕ). get_or l k 0) picked.told ∙ get_or-map at docs k 0 0 lt in
      let whole : get_or all doc 0 ≡ at doc = ap (λ (l : List ℕ). get_or l doc 0) range ∙ get_or-map-range_with_len at 0 (head.rows - 0) doc doc 0 (omega (arith, there)) (omega arith) in
      let lengths : length all ≡ head.rows = ap length range ∙ length-map (range_with_len 0 (head.rows - 0)) at ∙ ranged (head.rows - 0) ∙ plain in
      get_or-ids coded.dictionary.now.values coded.ids.now k (omega (arith, lt, ap length of.0, picked.count))
      ∙ (λ i. get_or (of.1 i) (get_or (of.0 i) k 0) (Whole (pos 0)))
      ∙ ap (λ id. get_or vs id (Whole (pos 0))) (own ∙ sym whole)
      ∙ sym (get_or-ids vs all doc (omega (arith, there, lengths)))
    where
      ranged : (n : ℕ) → length (range_with_len 0 n) ≡ n
      ranged n = length-range_with_len 0 n

  -- the row of a document
  one-row : (n : ℕ) (named : List Bool) (coded : List (Option Coded)) → length coded ≡ length named
      → ((j : ℕ) → j < length named → get_or (values_of (length docs) (get_or coded j None)) k (Whole (pos 0)) ≡ get_or (values_read files head (n + j) (get_or named j false)) doc (Whole (pos 0)))
      → row_of (map (listed (length docs)) coded) k ≡ row_of (columns_read files head n named) doc
  one-row n [] [] e h = refl
  one-row n [] (c ∷ cs) e h = absurd (omega (arith, e))
  one-row n (b ∷ bs) [] e h = absurd (omega (arith, e))
  one-row n (b ∷ bs) (c ∷ cs) e h =
      let none : n + 0 ≡ n = omega arith in
      let next : (j : ℕ) → n + suc j ≡ suc n + j = (λ j. omega arith) in
      let here : get_or (values_of (length docs) c) k (Whole (pos 0)) ≡ get_or (values_read files head n b) doc (Whole (pos 0)) = h 0 (omega arith) ∙ ap (λ m. get_or (values_read files head m b) doc (Whole (pos 0))) none in
      let rest = one-row (suc n) bs cs (omega (arith, e)) (λ j less. h (suc j) (omega (arith, less)) ∙ ap (λ m. get_or (values_read files head m (get_or bs j false)) doc (Whole (pos 0))) (next j)) in
      (λ i. here i ∷ rest i)

-- each column that is picked has an id for each document
pub docs-coded : (held : Option Files) (head : Seen) (named : List Bool) (docs : List ℕ) (ids : List (Option (List ℕ))) (count : ℕ) (columns : List (Option Coded)) → count ≡ length docs → length docs ≤ most_rows → length columns ≡ length named
    → ((column : ℕ) → column < length named → IsPicked held head column docs (get_or named column false) (get_or ids column None))
    → ((column : ℕ) → column < length named → IsCodedOf head column (get_or ids column None) (get_or columns column None)) → AreCoded count columns
docs-coded held head named docs ids count columns count_is at_most lengths picked of = record {
  at_most = omega (arith, count_is, at_most);
  each = subst (λ n. All (IsCoded n) columns) (sym count_is)
      (All-from_get_or (IsCoded (length docs)) columns None
      (λ k lt. let less : k < length named = omega (arith, lt, lengths) in one-coded held head k docs (get_or named k false) (get_or ids k None) (get_or columns k None) (picked k less) (of k less)));
}

module _ (held : Option Files) (head : Seen) (named : List Bool) (docs : List ℕ) (ids : List (Option (List ℕ))) (segment : SegmentColumns)
    (count_is : segment.count ≡ length docs) (at_most : length docs ≤ most_rows) (within : All (λ doc. doc < head.rows) docs) (lengths : length segment.columns.now ≡ length named)
    (picked : (column : ℕ) → column < length named → IsPicked held head column docs (get_or named column false) (get_or ids column None))
    (of : (column : ℕ) → column < length named → IsCodedOf head column (get_or ids column None) (get_or segment.columns.now column None)) where
  pub docs-read : (query : BoundQuery) (choices : List IndexChoice) → IfSome held (λ files. selected (rest_of query choices) (rows_of (table_of segment)) ≡ selected_docs query choices files head named docs)
  docs-read query choices = by held picked
    where
      told : (files : Files) → ((column : ℕ) → column < length named → IsPicked (Some files) head column docs (get_or named column false) (get_or ids column None)) → rows_of (table_of segment) ≡ rows_at (columns_read files head 0 named) docs
      told files picked =
          let size : length (rows_of (table_of segment)) ≡ segment.count = length-rows segment.count (table_of segment).columns (counts segment) in
          ext_get_or [] (rows_of (table_of segment)) (rows_at (columns_read files head 0 named) docs) (size ∙ count_is ∙ sym (length-map docs (row_of (columns_read files head 0 named)))) (λ k lt.
          let less : k < segment.count = omega (arith, lt, size) in
          let there : k < length docs = omega (arith, less, count_is) in
          get_or_from_slice_get (rows_of (table_of segment)) k (row_of (table_of segment).columns k) [] (row-at segment.count k (table_of segment).columns less (counts segment))
          ∙ ap (λ n. row_of (map (listed n) segment.columns.now) k) count_is
          ∙ one-row files head docs k there (within k 0 there) 0 named segment.columns.now lengths
          (λ j at_most. one-value files head docs k there (within k 0 there) j (get_or named j false) (get_or ids j None) (get_or segment.columns.now j None) (picked j at_most) (of j at_most)
          ∙ ap (λ m. get_or (values_read files head m (get_or named j false)) (get_or docs k 0) (Whole (pos 0))) (none j))
          ∙ sym (get_or-map (row_of (columns_read files head 0 named)) docs k 0 [] there))
        where
          none : (j : ℕ) → j ≡ 0 + j
          none j = omega arith

      by : (held : Option Files) → ((column : ℕ) → column < length named → IsPicked held head column docs (get_or named column false) (get_or ids column None))
          → IfSome held (λ files. selected (rest_of query choices) (rows_of (table_of segment)) ≡ selected_docs query choices files head named docs)
      by None picked = tt
      by (Some files) picked = ap (selected (rest_of query choices)) (told files picked)

-- what has ids is named
pub picked-of : (held : Option Files) (head : Seen) (column : ℕ) (docs : List ℕ) (named : Bool) (ids : Option (List ℕ)) (list : List ℕ) → IsPicked held head column docs named ids → ids ≡ Some list → named ≡ true
picked-of held head column docs false ids list picked got = absurd cc
picked-of held head column docs true ids list picked got = refl

-- too many groups with rows that the file tells
pub docs-overfull : (held : Option Files) (query : BoundQuery) (choices : List IndexChoice) (head : Seen) (named : List Bool) (docs : List ℕ) (rows : List (List Value)) (table : KeptGroups)
    → IfSome held (λ files. rows ≡ selected_docs query choices files head named docs) → IsOverfull query rows table → IfSome held (λ files. IsOverfull query (selected_docs query choices files head named docs) table)
docs-overfull None query choices head named docs rows table is over = tt
docs-overfull (Some files) query choices head named docs rows table is over = subst (λ (l : List (List Value)). IsOverfull query l table) is over

-- documents of rows are as few as the rows
pub docs_few : (docs : List ℕ) (n : ℕ) → IsStrictlyIncreasing docs → All (λ doc. doc < n) docs → length docs ≤ n
docs_few docs n up below = let at_most = up_few 0 n docs (increasing_up 0 docs up (λ j lt. omega arith)) (omega arith) (λ j lt. below j 0 lt) in omega (arith, at_most)
