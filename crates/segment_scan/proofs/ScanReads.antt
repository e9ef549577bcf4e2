-- How many bytes a scan reads of the forward indexes of an image, and that it reads none of the documents of its star-trees.
use Rattle.std.proofs.Common.{◌≡◌, ◌∙◌, ◌*◌, ◌+◌, ◌⊎◌, ◌<◌, ◌≤◌, ◌++◌, [], ◌∷◌, ℕ, suc, Bool, true, false, List, Option, Some, inl, inr, length, map, get_or, option_map, refl, sym, ap, subst, arith}
use Rattle.std.specs.Option.{option_map_or}
use Rattle.std.specs.Prelude.{if◌then◌else◌}
use Rattle.std.proofs.lemmas.Bool.{false≢true}
use Rattle.std.proofs.lemmas.List.{length-map}
use Rattle.std.proofs.lemmas.List.FromFn.{length-range_with_len}
use Rattle.outside.specs.Files.{Files}
use Rattle.outside.specs.Reads.{Entry, read_in}
use Rattle.outside.specs.declared.place.Place.{Place}
use Rattle.outside.proofs.ReadLemmas.{read_in-append}
use Rattle.values.specs.declared.value.Value.{Value}
use Rattle.table_schema.specs.declared.query.BoundQuery.{BoundQuery}
use Rattle.table_schema.specs.declared.query.Conjunct.{Conjunct}
use Rattle.table_schema.specs.declared.table.Table.{Table}
use Rattle.table_schema.specs.ValidTable.{IsValidTable}
use Rattle.segment_file.specs.Front.{extents_of}
use Rattle.segment_head.specs.Heads.{IsHeadOf, Seen, place_in, placed}
use Rattle.segment_file.specs.declared.part.Part.TheVariants as parts
use Rattle.segment_file.specs.Image.{front_of, image, section_of}
use Rattle.segment_file.specs.Ordered.{ordered}
use Rattle.segment_plan.specs.Laws.{TellsOf}
use Rattle.segment_plan.specs.declared.plans.IndexChoice.{IndexChoice}
use Rattle.segment_plan.specs.declared.plans.IndexChoice.TheVariants as choices
use Rattle.segment_plan.specs.declared.plans.ScanPlan.{ScanPlan}
use Rattle.table_schema.specs.declared.query.Conjunct.TheVariants.{One, Many}
use Rattle.std.proofs.lemmas.Nat.{mul-le}
use Rattle.column_reader.specs.Bytes.{GrowsBy}
use Rattle.segment_scan.specs.Documents.{LogsDocs, LogsDocsPartly}
use Rattle.column_reader.proofs.ByteLemmas.{grows_both}
use Rattle.column_reader.specs.Forward.{IsReadable}
use Rattle.segment_scan.specs.Images.{AreLeftFor, ImagesLeave, ImagesRead, LogsPartsPartly, LogsScan, LogsScanPartly, choices_for, indexed_for, rest_for, sure_for}
use Rattle.segment_head.specs.Stored.{IsOfImage}
use Rattle.segment_plan.specs.Named.{AreNamedLoaded, names_in, query_names}
use Rattle.index_filter.specs.Indexes.{LogsAt, LogsAtPartly}
use Rattle.outside.specs.Series.{LogsPartOf, LogsTo}
use Rattle.segment_plan.specs.Served.{choice_at, is_served, rest_of, unserved}
use Rattle.segment_plan.specs.RowsLeft.{indexed, is_indexed, rows_left, sure_choices}
use Rattle.segment_scan.proofs.ImageLemmas.{loaded_readable}
use Rattle.segment_scan.proofs.IndexImage.{ready_for}
use Rattle.segment_scan.proofs.LeftImage.{left_count, rest_loaded, sure_names, whole_docs}
use Rattle.index_filter.proofs.LeftLemmas.{one_chosen}
use Rattle.segment_scan.proofs.SegmentLemmas.{mark_named}
use Rattle.segment_reads.specs.Logs.{EndsBy, LogsThat}
use Rattle.segment_reads.specs.Reads.{Grown, ReadsScan, bytes_read, column_span, forward_span, marked_count, raw_span, star_span}
use Rattle.segment_reads.proofs.GrownLemmas.{grown_so, grown_that}
use Rattle.segment_scan.proofs.IndexReads.{LiesBehind, indexed_behind, indexed_partly}
use Rattle.segment_reads.proofs.LogLemmas.{entries_as, entries_then, join_logs}
use Rattle.segment_scan.proofs.LeastLemmas.{forward_there, named_read}
use Rattle.segment_scan.proofs.PartPlaces.{column_place, raw_place, stars_after}
use Rattle.segment_reads.proofs.PartLogs.{at_place}
use Rattle.segment_reads.proofs.SpanLemmas.{before_part}
use Rattle.segment_scan.proofs.WithinLogs.{after_part, lies_end, part_that, read_few, series_that}
use Rattle.std.specs.List.{range_with_len}
use Rattle.segment_plan.specs.declared.plans.SegmentPlan.TheVariants.{Scan}
use Rattle.segment_reads.specs.Looked.{docs_by}
use Rattle.segment_scan.proofs.ForwardReads.{LiesBefore, columns_before, columns_grow, docs_before, docs_grow, partly_before, partly_grow, some_before, some_grow}
use Rattle.segment_head.specs.declared.stored.Stored.{Stored}

-- ---- where no conjunct is indexed

served_indexed : (choice : IndexChoice) (conjunct : Conjunct) → is_served choice conjunct ≡ true → is_indexed choice conjunct ≡ true
served_indexed choices.Sorted (One column test) is = refl
served_indexed choices.Inverted (One column test) is = refl
served_indexed choices.Range conjunct is = absurd (false≢true is)
served_indexed choices.Unindexed conjunct is = absurd (false≢true is)
served_indexed choices.Sorted (Many wide) is = absurd (false≢true is)
served_indexed choices.Inverted (Many wide) is = absurd (false≢true is)

all_unserved : (cs : List IndexChoice) (conjuncts : List Conjunct) → indexed cs conjuncts ≡ [] → unserved cs conjuncts ≡ conjuncts
all_unserved [] conjuncts none = refl
all_unserved (c ∷ cs) [] none = refl
all_unserved (c ∷ cs) (y ∷ ys) none = go (is_indexed c y) (is_served c y) refl refl none (all_unserved cs ys)
  where
    go : (b s : Bool) → is_indexed c y ≡ b → is_served c y ≡ s → (if b then one_chosen c y ∷ indexed cs ys else indexed cs ys) ≡ [] → (indexed cs ys ≡ [] → unserved cs ys ≡ ys) → (if s then unserved cs ys else y ∷ unserved cs ys) ≡ y ∷ ys
    go true s b_is s_is none later = absurd (let long : suc (length (indexed cs ys)) ≡ 0 = ap length none in omega (arith, long))
    go false true b_is s_is none later = absurd (false≢true (sym b_is ∙ served_indexed c y s_is))
    go false false b_is s_is none later = ap (λ l. y ∷ l) (later none)

-- all of the query is left
rest_is : (query : BoundQuery) (cs : List IndexChoice) → indexed cs query.conjuncts ≡ [] → rest_of query cs ≡ query
rest_is query cs none = ap (λ l. record query { conjuncts = l }) (all_unserved cs query.conjuncts none)

-- ---- a scan of an image

module _ (query : BoundQuery) (table : Table) (segment : Stored) (head : Seen) (rows : List (List Value)) (of_table : IsHeadOf table head) (loaded : AreNamedLoaded query head)
    (sections : head.sections ≡ map (placed segment.file) (extents_of table segment.name (front_of 1 table rows))) (tells : TellsOf table rows head) (held : Option Files) where
  abbrev Early : Entry → Type 0
  Early = LiesBefore table segment head rows sections tells of_table

  abbrev Behind : Entry → Type 0
  Behind = LiesBehind table segment head rows sections tells

  abbrev rest : BoundQuery
  rest = rest_for query table head

  -- the told log grew by reads that gave at most so many bytes of the forward indexes
  abbrev LogsMost : ℕ → Option (List Entry) → Option (List Entry) → Type 0
  LogsMost most old new = (x : List Entry) × (new ≡ option_map (λ l. l ++ x) old) × (bytes_read x segment (forward_span table segment.name rows) ≤ most)

  most_grown : (most : ℕ) (a b : Option (List Entry)) → GrowsBy most a b → LogsMost most a b
  most_grown most a b (x, made, at_most) = (x, made, let less = read_few x segment.file (forward_span table segment.name rows).from (forward_span table segment.name rows).to in omega (arith, less, at_most))

  none_behind : (a b : Option (List Entry)) → LogsThat Behind a b → LogsMost 0 a b
  none_behind a b (x, made, all) =
      (x, made, let none = after_part segment.file (forward_span table segment.name rows).to (forward_span table segment.name rows).from (forward_span table segment.name rows).to (raw_span table segment.name rows).to x (omega arith) all in omega (arith, none))

  most_then : (most : ℕ) (a b c : Option (List Entry)) → LogsMost 0 a b → LogsMost most b c → LogsMost most a c
  most_then most a b c (x, made, none) (y, next, at_most) =
      let sum = read_in-append x y segment.file (forward_span table segment.name rows).from (forward_span table segment.name rows).to in
      (x ++ y, next ∙ ap (option_map (λ l. l ++ y)) made ∙ join_logs a x y, omega (arith, sum, none, at_most))

  most_less : (less most : ℕ) (a b : Option (List Entry)) → less ≤ most → LogsMost less a b → LogsMost most a b
  most_less less most a b le (x, made, at_most) = (x, made, omega (arith, at_most, le))

  early_behind : (a b : Option (List Entry)) → LogsThat Behind a b → LogsThat Early a b
  early_behind a b logs = entries_as Behind Early a b (λ entry l. record { file_is = l.file_is; begins = omega arith; ends = l.ends }) logs

  -- ---- the reads of a scan

  readable : (q : BoundQuery) → AreNamedLoaded q head → (column : ℕ) → get_or (names_in q table) column false ≡ true → IsReadable head column
  readable q all column marked = loaded_readable table head column of_table (all column (mark_named q table (names_in q table) refl column marked))

  left_readable : (column : ℕ) → get_or (names_in rest table) column false ≡ true → IsReadable head column
  left_readable = readable rest (rest_loaded query (choices_for query table head) head loaded)

  sure_readable : (column : ℕ) → get_or (names_in (sure_for query table head) table) column false ≡ true → IsReadable head column
  sure_readable = readable (sure_for query table head) (rest_loaded query (sure_choices (choices_for query table head)) head loaded)

  -- no more columns are named for the documents that are sure
  sure_fewer : marked_count (names_in (sure_for query table head) table) ≤ marked_count (names_in rest table)
  sure_fewer = fewer (query_names (sure_for query table head)) (query_names rest) (λ column is. sure_names query (choices_for query table head) column is) (range_with_len 0 (length table.schema.fields))
    where
      fewer : (p q : ℕ → Bool) → ((k : ℕ) → p k ≡ true → q k ≡ true) → (ks : List ℕ) → marked_count (map p ks) ≤ marked_count (map q ks)
      fewer p q less [] = omega arith
      fewer p q less (k ∷ ks) = one (p k) (q k) (less k) (fewer p q less ks)
        where
          one : (a b : Bool) → (a ≡ true → b ≡ true) → marked_count (map p ks) ≤ marked_count (map q ks) → marked_count (a ∷ map p ks) ≤ marked_count (b ∷ map q ks)
          one true true h le = omega (arith, le)
          one true false h le = absurd (false≢true (h refl))
          one false true h le = omega (arith, le)
          one false false h le = le

  names_count : length (names_in query table) ≡ length table.schema.fields
  names_count = length-map (range_with_len 0 (length table.schema.fields)) (query_names query) ∙ length-range_with_len 0 (length table.schema.fields)

  indexes_behind : (a b : Option (List Entry)) → LogsTo (LogsAt held head (choices_for query table head) query.conjuncts) (length query.conjuncts) a b → LogsThat Behind a b
  indexes_behind a b logs = series_that Behind (LogsAt held head (choices_for query table head) query.conjuncts) (length query.conjuncts) one (length query.conjuncts) (omega arith) a b logs
    where
      one : (at : ℕ) → at < length query.conjuncts → (a b : Option (List Entry)) → LogsAt held head (choices_for query table head) query.conjuncts at a b → LogsThat Behind a b
      one at lt a b logs =
          let (conjunct, is) = at_place query.conjuncts at lt in
          indexed_behind table segment head rows sections tells held a b (choice_at (choices_for query table head) at) conjunct (ready_for query table head of_table loaded at conjunct is) (logs conjunct is)

  indexes_partly : (a b : Option (List Entry)) → LogsPartOf (LogsAt held head (choices_for query table head) query.conjuncts) (LogsAtPartly held head (choices_for query table head) query.conjuncts) (length query.conjuncts) a b → LogsThat Behind a b
  indexes_partly a b logs =
      part_that Behind (LogsAt held head (choices_for query table head) query.conjuncts) (length query.conjuncts) whole (LogsAtPartly held head (choices_for query table head) query.conjuncts) partly a b logs
    where
      whole : (at : ℕ) → at < length query.conjuncts → (a b : Option (List Entry)) → LogsAt held head (choices_for query table head) query.conjuncts at a b → LogsThat Behind a b
      whole at lt a b logs =
          let (conjunct, is) = at_place query.conjuncts at lt in
          indexed_behind table segment head rows sections tells held a b (choice_at (choices_for query table head) at) conjunct (ready_for query table head of_table loaded at conjunct is) (logs conjunct is)

      partly : (at : ℕ) → at < length query.conjuncts → (a b : Option (List Entry)) → LogsAtPartly held head (choices_for query table head) query.conjuncts at a b → LogsThat Behind a b
      partly at lt a b logs =
          let (conjunct, is) = at_place query.conjuncts at lt in
          indexed_partly table segment head rows sections tells held a b (choice_at (choices_for query table head) at) conjunct (ready_for query table head of_table loaded at conjunct is) (logs conjunct is)

  -- so many documents are left by the indexes: all rows where there is none
  module _ (n : ℕ) (all : indexed_for query table head ≡ [] → head.rows ≡ n) (at_most : (docs : List ℕ) → AreLeftFor query table held head docs → length docs ≡ n) where
    abbrev most : ℕ
    most = 4 * n * marked_count (names_in rest table)

    -- the documents that are left are those of the query where no conjunct is indexed
    all_most : indexed_for query table head ≡ [] → 4 * head.rows * marked_count (names_in query table) ≡ most
    all_most none = (λ i. 4 * all none i * marked_count (names_in (sym (rest_is query (choices_for query table head) none) i) table))

    docs_most : (docs : List ℕ) → AreLeftFor query table held head docs → 4 * length docs * marked_count (names_in rest table) ≡ most
    docs_most docs left = ap (λ k. 4 * k * marked_count (names_in rest table)) (at_most docs left)

    -- what both parts of the documents that are left take
    parts_most : (docs check sure : List ℕ) → AreLeftFor query table held head docs → length check + length sure ≡ length docs
        → 4 * length check * marked_count (names_in rest table) + 4 * length sure * marked_count (names_in (sure_for query table head) table) ≤ most
    parts_most docs check sure left sum =
        let a : ℕ = marked_count (names_in rest table) in
        let less = mul-le (4 * length sure) (marked_count (names_in (sure_for query table head) table)) (4 * length sure) a (omega arith) sure_fewer in
        let all : 4 * (length check + length sure) * a ≡ 4 * length check * a + 4 * length sure * a = grind arith in
        let same : 4 * (length check + length sure) * a ≡ most = ap (λ k. 4 * k * a) sum ∙ docs_most docs left in
        omega (arith, less, all, same)

    by_most : (m : ℕ) (a b : Option (List Entry)) → m ≡ most → GrowsBy m a b → LogsMost most a b
    by_most m a b is grows = most_grown most a b (subst (λ k. GrowsBy k a b) is grows)

    pub scan_bytes : (count : ℕ) (a b : Option (List Entry)) → LogsScan query table held head count a b → LogsMost most a b × LogsThat Early a b
    scan_bytes count a b (inl (none, logs)) =
        let long = names_count in (
          by_most (4 * head.rows * marked_count (names_in query table)) a b (all_most none) (columns_grow table segment head rows sections tells of_table (names_in query table) (readable query loaded) (length table.schema.fields) (omega (arith, long)) a b logs),
          columns_before table segment head rows sections tells of_table (names_in query table) (readable query loaded) (length table.schema.fields) (omega (arith, long)) a b logs,
        )
    scan_bytes count a b (inr (docs, left, is, between, indexes, logs)) =
        let behind = indexes_behind a between indexes in (
          most_then most a between b (none_behind a between behind)
              (most_grown most between b
              (grows_both (4 * length logs.check * marked_count (names_in rest table)) (4 * length logs.sure * marked_count (names_in (sure_for query table head) table)) most between logs.between b (parts_most docs logs.check logs.sure left logs.count)
              (docs_grow table segment head rows sections tells of_table (names_in rest table) left_readable logs.check logs.check_within between logs.between logs.checked)
              (docs_grow table segment head rows sections tells of_table (names_in (sure_for query table head) table) sure_readable logs.sure logs.sure_within logs.between b logs.surely))),
          entries_then Early a between b (early_behind a between behind)
              (entries_then Early between logs.between b
              (docs_before table segment head rows sections tells of_table (names_in rest table) left_readable logs.check logs.check_within between logs.between logs.checked)
              (docs_before table segment head rows sections tells of_table (names_in (sure_for query table head) table) sure_readable logs.sure logs.sure_within logs.between b logs.surely)),
        )

    -- what was read of both parts
    parts_partly : (docs : List ℕ) → AreLeftFor query table held head docs → (a b : Option (List Entry)) → LogsPartsPartly head (names_in rest table) (names_in (sure_for query table head) table) docs a b → LogsMost most a b × LogsThat Early a b
    parts_partly docs left a b logs = by logs.some
      where
        bound : 4 * length logs.check * marked_count (names_in rest table) + 4 * length logs.sure * marked_count (names_in (sure_for query table head) table) ≤ most
        bound = parts_most docs logs.check logs.sure left logs.count

        by : LogsDocsPartly head (names_in rest table) logs.check a b ⊎ ((between : Option (List Entry)) × LogsDocs head (names_in rest table) logs.check a between × LogsDocsPartly head (names_in (sure_for query table head) table) logs.sure between b) → LogsMost most a b × LogsThat Early a b
        by (inl first) = (
          most_less (4 * length logs.check * marked_count (names_in rest table)) most a b (omega (arith, bound))
              (most_grown (4 * length logs.check * marked_count (names_in rest table)) a b (partly_grow table segment head rows sections tells of_table (names_in rest table) left_readable logs.check logs.check_within a b first)),
          partly_before table segment head rows sections tells of_table (names_in rest table) left_readable logs.check logs.check_within a b first,
        )
        by (inr (between, first, second)) = (
          most_grown most a b
              (grows_both (4 * length logs.check * marked_count (names_in rest table)) (4 * length logs.sure * marked_count (names_in (sure_for query table head) table)) most a between b bound
              (docs_grow table segment head rows sections tells of_table (names_in rest table) left_readable logs.check logs.check_within a between first)
              (partly_grow table segment head rows sections tells of_table (names_in (sure_for query table head) table) sure_readable logs.sure logs.sure_within between b second)),
          entries_then Early a between b (docs_before table segment head rows sections tells of_table (names_in rest table) left_readable logs.check logs.check_within a between first)
              (partly_before table segment head rows sections tells of_table (names_in (sure_for query table head) table) sure_readable logs.sure logs.sure_within between b second),
        )

    pub partly_bytes : (a b : Option (List Entry)) → LogsScanPartly query table held head a b → LogsMost most a b × LogsThat Early a b
    partly_bytes a b (inl (none, logs)) = (
      by_most (4 * head.rows * marked_count (names_in query table)) a b (all_most none) (some_grow table segment head rows sections tells of_table (names_in query table) (readable query loaded) a b logs),
      some_before table segment head rows sections tells of_table (names_in query table) (readable query loaded) a b logs,
    )
    partly_bytes a b (inr (inl logs)) =
        let behind = indexes_partly a b logs in
        (most_less 0 most a b (omega arith) (none_behind a b behind), early_behind a b behind)
    partly_bytes a b (inr (inr (docs, left, between, indexes, logs))) =
        let behind = indexes_behind a between indexes in
        let own = parts_partly docs left between b logs in
        (most_then most a between b (none_behind a between behind) own.0, entries_then Early a between b (early_behind a between behind) own.1)

    -- where no conjunct is indexed, reads gave the forward index of each column that the query names
    abbrev AreWhole : ScanPlan → List Entry → Type 0
    AreWhole plan entries =
        indexed plan.choices query.conjuncts ≡ [] → (column : ℕ) → query_names query column ≡ true → length (section_of table rows (parts.Forward column)) ≤ bytes_read entries segment (column_span table segment.name rows column)

    -- such reads are those of the scan
    reads_so : (plan : ScanPlan) (answered : Bool) (a b : Option (List Entry)) → plan.choices ≡ choices_for query table head → n ≡ docs_by query table rows (Scan plan) → LogsMost most a b × LogsThat Early a b
        → (answered ≡ true → Grown (AreWhole plan) a b) → Grown (ReadsScan query table segment rows plan answered) a b
    reads_so plan answered a b chosen counted ((x, made, less), early) whole = λ before entries is now. record {
      stars = λ t. before_part segment.file (raw_span table segment.name rows).to (star_span table segment.name rows t).from (star_span table segment.name rows t).to entries (stars_after table segment rows t)
          (grown_that (EndsBy segment.file (raw_span table segment.name rows).to) a b (lies_end segment.file 0 (raw_span table segment.name rows).to a b early) before entries is now);
      forward = subst (λ m. bytes_read entries segment (forward_span table segment.name rows) ≤ m) same (grown_so (λ y. bytes_read y segment (forward_span table segment.name rows) ≤ most) a b x made less before entries is now);
      whole = λ done. whole done before entries is now;
    }
      where
        same : most ≡ 4 * docs_by query table rows (Scan plan) * marked_count (names_in (rest_of query plan.choices) table)
        same = (λ i. 4 * counted i * marked_count (names_in (rest_of query (sym chosen i)) table))

    -- what a scan read, whole or in part
    pub scan_read : (plan : ScanPlan) (count : ℕ) (a b : Option (List Entry)) → plan.choices ≡ choices_for query table head → n ≡ docs_by query table rows (Scan plan) → Grown (AreWhole plan) a b → LogsScan query table held head count a b → Grown (ReadsScan query table segment rows plan true) a b
    scan_read plan count a b chosen counted whole logs = reads_so plan true a b chosen counted (scan_bytes count a b logs) (λ done. whole)

    pub scan_read_partly : (plan : ScanPlan) (a b : Option (List Entry)) → plan.choices ≡ choices_for query table head → n ≡ docs_by query table rows (Scan plan) → LogsScanPartly query table held head a b → Grown (ReadsScan query table segment rows plan false) a b
    scan_read_partly plan a b chosen counted logs = reads_so plan false a b chosen counted (partly_bytes a b logs) (λ done. absurd (false≢true done))

-- ---- where the file is told to be the image of rows

module _ (law : ImagesRead) (leave : ImagesLeave) (query : BoundQuery) (table : Table) (segment : Stored) (head : Seen) (stored : List (List Value)) (valid : IsValidTable table) (of_table : IsHeadOf table head) (loaded : AreNamedLoaded query head)
    (sections : head.sections ≡ map (placed segment.file) (extents_of table segment.name (front_of 1 table (ordered table.settings.sorted stored)))) (tells : TellsOf table (ordered table.settings.sorted stored) head) (files : Files) (of : IsOfImage table files stored head)
    (plan : ScanPlan) (chosen : plan.choices ≡ choices_for query table head) where
  abbrev os : List (List Value)
  os = ordered table.settings.sorted stored

  left_are : length (rows_left query (choices_for query table head) os) ≡ docs_by query table os (Scan plan)
  left_are = ap (λ cs. length (rows_left query cs os)) (sym chosen)

  all_rows : indexed_for query table head ≡ [] → head.rows ≡ docs_by query table os (Scan plan)
  all_rows none = (whole_docs law leave query table (Some files) head valid of_table loaded none head.rows refl).told stored of ∙ left_are

  some_docs : (docs : List ℕ) → AreLeftFor query table (Some files) head docs → length docs ≡ docs_by query table os (Scan plan)
  some_docs docs left = left_count law leave query table head valid of_table loaded docs files stored of left ∙ left_are

  -- where no conjunct is indexed it read the forward index of each column that the query names
  whole_read : (count : ℕ) (before entries : List Entry) → LogsScan query table (Some files) head count (Some before) (Some (before ++ entries)) → indexed plan.choices query.conjuncts ≡ [] → (column : ℕ) → query_names query column ≡ true
      → length (section_of table (ordered table.settings.sorted stored) (parts.Forward column)) ≤ bytes_read entries segment (column_span table segment.name (ordered table.settings.sorted stored) column)
  whole_read count before entries logs none column named =
      let (place, at) = forward_there table head column of_table (loaded column named) in
      let here : place_in (map (placed segment.file) (extents_of table segment.name (front_of 1 table os))) (parts.Forward column) ≡ Some place = subst (λ l. place_in l (parts.Forward column) ≡ Some place) sections at in
      let own = raw_place table segment os (parts.Forward column) place (omega arith) (omega arith) here in
      let (begins, ends) = column_place table segment os column place here in
      let none_for : indexed_for query table head ≡ [] = ap (λ cs. indexed cs query.conjuncts) (sym chosen) ∙ none in
      let read = named_read query table head column named none_for of.name of.file (image 1 table of.name stored) of.whole (Some files) count before entries of.is_head of.part of_table loaded logs in
      let plain : place.length ≤ read_in entries place.file place.offset (place.offset + place.length) =
      subst (λ o. option_map_or (λ (p : Place). p.length) o 0 ≤ option_map_or (λ (p : Place). read_in entries p.file p.offset (p.offset + p.length)) o 0) at read in
      let moved : bytes_read entries segment (column_span table segment.name os column) ≡ read_in entries place.file place.offset (place.offset + place.length) = (λ i. read_in entries (sym own.file_is i) (sym begins i) (sym ends i)) in
      let long = own.long in
      omega (arith, plain, moved, long)

  -- a scan read at most four bytes of the forward indexes for each document that the indexes leave and each column that is named beside the served conjuncts
  pub image_scan : (count : ℕ) (a b : Option (List Entry)) → LogsScan query table (Some files) head count a b → Grown (ReadsScan query table segment os plan true) a b
  image_scan count a b logs =
      scan_read query table segment head os of_table loaded sections tells (Some files) (docs_by query table os (Scan plan)) all_rows some_docs plan count a b chosen refl
      (λ before entries is now. whole_read count before entries (subst (LogsScan query table (Some files) head count (Some before)) now (subst (λ l. LogsScan query table (Some files) head count l b) is logs))) logs

  -- and no more where it failed
  pub image_scan_partly : (a b : Option (List Entry)) → LogsScanPartly query table (Some files) head a b → Grown (ReadsScan query table segment os plan false) a b
  image_scan_partly a b logs = scan_read_partly query table segment head os of_table loaded sections tells (Some files) (docs_by query table os (Scan plan)) all_rows some_docs plan a b chosen refl logs
