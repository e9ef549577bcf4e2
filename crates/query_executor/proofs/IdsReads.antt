-- What is read of the image of rows by ids of columns.
use Rattle.std.proofs.Common.{◌≡◌, ◌≢◌, ◌∙◌, ◌<◌, ◌+◌, ◌-◌, ◌*◌, ◌==◌, ◌||◌, ◌&&◌, ℕ, zero, suc, pos, Bool, true, false, cond, Option, Some, None, All, List, [], ◌∷◌, length, map, get_or, slice_get, refl, sym, ap, subst, arith}
use Rattle.std.specs.List.{AllZip, filter, list_any, range_with_len}
use Rattle.std.proofs.lemmas.Bool.{false≢true, or_left}
use Rattle.std.proofs.lemmas.List.{get_or-map, length-map, length-replicate}
use Rattle.std.proofs.lemmas.List.Elements.{All-cons, All-head, All-nil, All-tail}
use Rattle.std.proofs.lemmas.List.FromFn.{get_or-map-range_with_len}
use Rattle.outside.specs.Files.{Files}
use Rattle.values.specs.declared.value.Value.{Value}
use Rattle.values.specs.declared.value.Value.TheVariants.{Whole}
use Rattle.values.specs.Columns.{Counts, Listed, row_of, rows_in_columns, rows_of}
use Rattle.values.proofs.RowLemmas.{length-rows, row-at}
use Rattle.value_ids.specs.Coding.{values_at}
use Rattle.value_ids.specs.Dictionary.{Distinct}
use Rattle.bit_column.specs.Column.{ids_between, width_of}
use Rattle.bit_column.specs.Bits.{bits_of}
use Rattle.bit_column.proofs.Ranges.{pieces-long}
use Rattle.table_schema.specs.ValidTable.{IsValidTable}
use Rattle.table_schema.specs.declared.query.BoundQuery.{BoundQuery}
use Rattle.table_schema.specs.declared.table.Table.{Table}
use Rattle.table_schema.specs.Conditions.{all_hold, cell}
use Rattle.segment_file.specs.Ordered.{ordered}
use Rattle.segment_head.specs.Heads.{IsHeadOf, IsLoaded, Seen}
use Rattle.segment_head.specs.Stored.{IsOfImage}
use Rattle.segment_plan.specs.Laws.{HeadTells, TellsOf}
use Rattle.segment_plan.specs.Matched.{count_in, values_in}
use Rattle.segment_plan.specs.declared.plans.IndexChoice.{IndexChoice}
use Rattle.segment_plan.specs.Served.{rest_of}
use Rattle.scan_engine.specs.Places.{rows_at}
use Rattle.scan_engine.specs.Scanned.{selected}
use Rattle.segment_scan.specs.Documents.{selected_docs}
use Rattle.segment_plan.specs.Named.{AreNamedLoaded, conjunct_names, is_in, agg_names, names_in, query_names}
use Rattle.column_reader.specs.Forward.{HasIds, forward_in}
use Rattle.segment_scan.specs.Agreement.{Agree, AgreeAll}
use Rattle.segment_scan.specs.Images.{ImagesRead, ReadsImage}
use Rattle.segment_scan.specs.Scans.{column_read, columns_read, selected_read, table_read, values_read}
use Rattle.segment_scan.proofs.ImageLemmas.{columns_few, item_there}
use Rattle.segment_scan.proofs.ServedLemmas.{unserved_names}
use Rattle.segment_opening.specs.Found.{HaveOneId, HaveOneIds, keeping, unfiltered, values_from}
use Rattle.segment_opening.proofs.FoundLemmas.{unfiltered_names}
use Rattle.query_executor.specs.Alike.{AreAlike}
use Rattle.query_executor.proofs.IdsConjuncts.{all_same, marks_same, query_names_same, rest_alike}

-- ---- the rows of columns

module _ (files : Files) (head : Seen) where
  read_long : (c : ℕ) (named : Bool) → length (values_read files head c named) ≡ head.rows
  read_long c false = length-replicate head.rows (Whole (pos 0))
  read_long c true =
      let ids = ids_between (width_of (count_in head c)) 0 head.rows (forward_in files head c) in
      let long = pieces-long (width_of (count_in head c)) (0 * width_of (count_in head c)) (head.rows - 0) (bits_of 8 (forward_in files head c)) in
      length-map ids (λ id. get_or (values_in head c) id (Whole (pos 0))) ∙ omega (arith, long)

  all_long : (n : ℕ) (marks : List Bool) → All (Counts head.rows) (columns_read files head n marks)
  all_long n [] = All-nil (Counts head.rows)
  all_long n (b ∷ bs) = All-cons (Counts head.rows) (column_read files head n b) (columns_read files head (suc n) bs) (read_long n b) (all_long (suc n) bs)

  cell_read : (n k at : ℕ) (marks : List Bool) → get_or marks k false ≡ true → cell (row_of (columns_read files head n marks) at) k ≡ get_or (values_read files head (n + k) true) at (Whole (pos 0))
  cell_read n k at [] is = absurd (false≢true is)
  cell_read n zero at (b ∷ bs) is = let plain : n ≡ n + 0 = omega arith in (λ i. get_or (values_read files head (plain i) (is i)) at (Whole (pos 0)))
  cell_read n (suc k) at (b ∷ bs) is =
      let next : suc n + k ≡ n + suc k = omega arith in
      cell_read (suc n) k at bs is ∙ (λ i. get_or (values_read files head (next i) true) at (Whole (pos 0)))

  own_cell : (k at : ℕ) (marks : List Bool) → get_or marks k false ≡ true → cell (row_of (columns_read files head 0 marks) at) k ≡ get_or (values_read files head k true) at (Whole (pos 0))
  own_cell k at marks is =
      let plain : 0 + k ≡ k = omega arith in
      cell_read 0 k at marks is ∙ ap (λ m. get_or (values_read files head m true) at (Whole (pos 0))) plain

zip_from : {X Y : Type 0} (R : X → Y → Type 0) (xs : List X) (ys : List Y) → length xs ≡ length ys → ((k : ℕ) (x : X) (y : Y) → slice_get xs k ≡ Some x → slice_get ys k ≡ Some y → R x y) → AllZip R xs ys
zip_from R [] [] e h = tt
zip_from R [] (y ∷ ys) e h = absurd (omega (arith, e))
zip_from R (x ∷ xs) [] e h = absurd (omega (arith, e))
zip_from R (x ∷ xs) (y ∷ ys) e h = (h 0 x y refl refl, zip_from R xs ys (omega (arith, e)) (λ k. h (suc k)))

within_list : {X : Type 0} (xs : List X) (k : ℕ) (x : X) → slice_get xs k ≡ Some x → k < length xs
within_list [] k x at = absurd cc
within_list (y ∷ ys) zero x at = omega arith
within_list (y ∷ ys) (suc k) x at = omega (arith, within_list ys k x at)

-- rows that agree and pass alike are kept alike
module _ (named : ℕ → Bool) (p q : List Value → Bool) where
  abbrev IsAlike : List Value → List Value → Type 0
  IsAlike row other = Agree named row other × (p row ≡ q other)

  kept_alike : (rows others : List (List Value)) → AllZip IsAlike rows others → AgreeAll named (filter p rows) (filter q others)
  kept_alike [] [] zip = tt
  kept_alike [] (o ∷ os) zip = absurd zip
  kept_alike (r ∷ rs) [] zip = absurd zip
  kept_alike (r ∷ rs) (o ∷ os) zip = go (kept_alike rs os zip.1) (p r) (q o) zip.0.1
    where
      go : AgreeAll named (filter p rs) (filter q os) → (a b : Bool) → a ≡ b → AgreeAll named (cond a (r ∷ filter p rs) (filter p rs)) (cond b (o ∷ filter q os) (filter q os))
      go more true true e = (zip.0.0, more)
      go more true false e = absurd cc
      go more false true e = absurd cc
      go more false false e = more

-- ---- on the image of rows

module _ (read : ImagesRead) (tells_law : HeadTells) (query asked : BoundQuery) (table : Table) (files : Files) (rows : List (List Value)) (head : Seen) (full given : List (Option Distinct)) (valid : IsValidTable table)
    (of_head : IsHeadOf table (keeping full head)) (is_loaded : AreNamedLoaded query (keeping full head)) (of_image : IsOfImage table files rows (keeping full head)) (a : AreAlike query asked full given) where
  abbrev pub os : List (List Value)
  os = ordered table.settings.sorted rows

  -- the head with the values of the rows, and that with ids in place of some
  abbrev pub own : Seen
  own = keeping full head

  abbrev pub by_ids : Seen
  by_ids = keeping given head

  pub full_reads : ReadsImage query table files rows own
  full_reads = read query table files rows own valid of_head is_loaded of_image

  abbrev own_ids : ℕ → List ℕ
  own_ids c = ids_between (width_of (length (values_from full c))) 0 head.rows (forward_in files head c)

  ids_below_count : (c : ℕ) → query_names query c ≡ true → All (λ id. id < length (values_from full c)) (own_ids c)
  ids_below_count c named = let readable : HasIds files own c = full_reads.readable c named in readable.1

  ids_long : (c : ℕ) → length (own_ids c) ≡ head.rows
  ids_long c =
      let w : ℕ = width_of (length (values_from full c)) in
      let long = pieces-long w (0 * w) (head.rows - 0) (bits_of 8 (forward_in files head c)) in
      omega (arith, long)

  given_read : (c : ℕ) → values_read files by_ids c true ≡ values_at (values_from given c) (own_ids c)
  given_read c = let same = a.counts_same c in (λ i. values_at (values_from given c) (ids_between (width_of (same i)) 0 head.rows (forward_in files head c)))

  -- ---- one row

  abbrev marks : List Bool
  marks = names_in query table

  within : (c : ℕ) → query_names query c ≡ true → c < length table.schema.fields
  within c named = columns_few table own c of_head (is_loaded c named)

  mark_in : (q : BoundQuery) (c : ℕ) → query_names query c ≡ true → query_names q c ≡ true → get_or (names_in q table) c false ≡ true
  mark_in q c known named =
      let plain : 0 + c ≡ c = omega arith in
      get_or-map-range_with_len (query_names q) 0 (length table.schema.fields) c c false (within c known) plain ∙ named

  mark_is : (c : ℕ) → query_names query c ≡ true → get_or marks c false ≡ true
  mark_is c named = mark_in query c named named

  -- a row that is read by ids, in the columns that are marked
  abbrev row_by : List Bool → ℕ → List Value
  row_by ms k = row_of (columns_read files by_ids 0 ms) k

  module _ (k : ℕ) (other : List Value) (there : slice_get os k ≡ Some other) (in_rows : k < head.rows) where
    full_agrees : Agree (query_names query) (row_of (columns_read files own 0 marks) k) other
    full_agrees c named =
        let few : k < length rows = (let n = full_reads.count in omega (arith, in_rows, n)) in
        let same : get_or os k [] ≡ other = found_in os k other there in
        full_reads.each k few c named ∙ ap (λ (r : List Value). cell r c) same
      where
        found_in : (xs : List (List Value)) (k : ℕ) (x : List Value) → slice_get xs k ≡ Some x → get_or xs k [] ≡ x
        found_in [] k x at = absurd cc
        found_in (y ∷ ys) zero x at = cc
        found_in (y ∷ ys) (suc k) x at = found_in ys k x at

    -- what the file has in a column is what the row has
    full_cell : (c : ℕ) → query_names query c ≡ true → get_or (values_read files own c true) k (Whole (pos 0)) ≡ cell other c
    full_cell c named = sym (own_cell files own c k marks (mark_is c named)) ∙ full_agrees c named

    abbrev id : ℕ → ℕ
    id c = get_or (own_ids c) k 0

    in_ids : (c : ℕ) → k < length (own_ids c)
    in_ids c = let long = ids_long c in omega (arith, in_rows, long)

    -- the row and the other have values of the same ids in each column that is marked
    one_id : (ms : List Bool) (c : ℕ) → query_names query c ≡ true → get_or ms c false ≡ true → HaveOneId full given c (cell other c) (cell (row_by ms k) c)
    one_id ms c named marked = record {
      id = id c;
      below = ids_below_count c named k 0 (in_ids c);
      value_is = sym (full_cell c named) ∙ get_or-map (λ n. get_or (values_from full c) n (Whole (pos 0))) (own_ids c) k 0 (Whole (pos 0)) (in_ids c);
      other_is =
          own_cell files by_ids c k ms marked
          ∙ ap (λ (l : List Value). get_or l k (Whole (pos 0))) (given_read c)
          ∙ get_or-map (λ n. get_or (values_from given c) n (Whole (pos 0))) (own_ids c) k 0 (Whole (pos 0)) (in_ids c);
    }

    -- it has the values of the other where these are kept
    agrees : (ms : List Bool) → ((c : ℕ) → query_names (unfiltered query) c ≡ true → get_or ms c false ≡ true) → Agree (query_names (unfiltered query)) (row_by ms k) other
    agrees ms marked c named =
        let one = one_id ms c (unfiltered_names query c named) (marked c named) in
        one.other_is ∙ ap (λ (vs : List Value). get_or vs one.id (Whole (pos 0))) (a.values_same c named) ∙ sym one.value_is

  rows_os : head.rows ≡ length os
  rows_os = tells.rows_are
    where
      tells : TellsOf table os own
      tells = let i = of_image in tells_law table i.name i.file rows i.whole own valid i.named i.can i.is_head i.part

  -- ---- queries whose conjuncts are some of these

  module _ (part by : BoundQuery) (b : AreAlike part by full given) (fewer : (c : ℕ) → query_names part c ≡ true → query_names query c ≡ true) (beside : (c : ℕ) → query_names (unfiltered query) c ≡ true → query_names part c ≡ true) where
    abbrev part_marks : List Bool
    part_marks = names_in part table

    abbrev IsSo : List Value → List Value → Type 0
    IsSo = IsAlike (query_names (unfiltered query)) (λ row. all_hold row by.conjuncts) (λ row. all_hold row part.conjuncts)

    row_so : (k : ℕ) (other : List Value) → slice_get os k ≡ Some other → k < head.rows → IsSo (row_by part_marks k) other
    row_so k other there in_rows = (
      agrees k other there in_rows part_marks (λ c named. mark_in part c (unfiltered_names query c named) (beside c named)),
      all_same full given a.counts_same part.conjuncts by.conjuncts b.says other (row_by part_marks k)
          (λ c named. let own_name = or_left (list_any (conjunct_names c) part.conjuncts || is_in part.groups c) (list_any (agg_names c) part.aggs) (or_left (list_any (conjunct_names c) part.conjuncts) (is_in part.groups c) named) in
          one_id k other there in_rows part_marks c (fewer c own_name) (mark_in part c (fewer c own_name) own_name)),
    )

    rows_so : AllZip IsSo (rows_of (table_read files by_ids part_marks)) os
    rows_so = zip_from IsSo (rows_of (table_read files by_ids part_marks)) os (length-rows head.rows (columns_read files by_ids 0 part_marks) (all_long files by_ids 0 part_marks) ∙ rows_os) each
      where
        each : (k : ℕ) (row other : List Value) → slice_get (rows_of (table_read files by_ids part_marks)) k ≡ Some row → slice_get os k ≡ Some other → IsSo row other
        each k row other at there =
            let long = length-rows head.rows (columns_read files by_ids 0 part_marks) (all_long files by_ids 0 part_marks) in
            let lt : k < head.rows = omega (arith, within_list (rows_of (table_read files by_ids part_marks)) k row at, long) in
            let found : Some (row_by part_marks k) ≡ Some row = sym (row-at head.rows k (columns_read files by_ids 0 part_marks) lt (all_long files by_ids 0 part_marks)) ∙ at in
            let same : row_by part_marks k ≡ row = cc in
            subst (λ r. IsSo r other) same (row_so k other there lt)

    docs_so : (ds : List ℕ) → All (λ k. k < length os) ds → AllZip IsSo (rows_at (columns_read files by_ids 0 part_marks) ds) (map (λ k. get_or os k []) ds)
    docs_so [] all = tt
    docs_so (k ∷ ks) all =
        let lt : k < length os = All-head (λ k. k < length os) k ks all in
        (row_so k (get_or os k []) (item_there [] os k lt) (omega (arith, lt, rows_os)), docs_so ks (All-tail (λ k. k < length os) k ks all))

  -- ---- all rows, and those of documents

  pub read_alike : AgreeAll (query_names (unfiltered query)) (selected_read asked files by_ids (names_in asked table)) (selected query os)
  read_alike =
      subst (λ ms. AgreeAll (query_names (unfiltered query)) (filter (λ row. all_hold row asked.conjuncts) (rows_of (table_read files by_ids ms))) (filter (λ row. all_hold row query.conjuncts) os))
      (sym (marks_same query asked full given a table))
      (kept_alike (query_names (unfiltered query)) (λ row. all_hold row asked.conjuncts) (λ row. all_hold row query.conjuncts) (rows_of (table_read files by_ids marks)) os (rows_so query asked a (λ c named. named) (unfiltered_names query)))

  pub docs_alike : (cs : List IndexChoice) (ds : List ℕ) → All (λ k. k < length os) ds → AgreeAll (query_names (unfiltered query)) (selected_docs asked cs files by_ids (names_in (rest_of asked cs) table) ds) (selected (rest_of query cs) (map (λ k. get_or os k []) ds))
  docs_alike cs ds all =
      let b = rest_alike query asked full given a cs in
      subst (λ ms. AgreeAll (query_names (unfiltered query)) (filter (λ row. all_hold row (rest_of asked cs).conjuncts) (rows_at (columns_read files by_ids 0 ms) ds)) (filter (λ row. all_hold row (rest_of query cs).conjuncts) (map (λ k. get_or os k []) ds)))
      (sym (marks_same (rest_of query cs) (rest_of asked cs) full given b table))
      (kept_alike (query_names (unfiltered query)) (λ row. all_hold row (rest_of asked cs).conjuncts) (λ row. all_hold row (rest_of query cs).conjuncts) (rows_at (columns_read files by_ids 0 (names_in (rest_of query cs) table)) ds)
      (map (λ k. get_or os k []) ds) (docs_so (rest_of query cs) (rest_of asked cs) b (unserved_names query cs) (λ c named. unfiltered_names (rest_of query cs) c named) ds all))
