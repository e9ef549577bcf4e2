-- What is read of the forward indexes of an image: at most four bytes a document and column, before the documents of the star-trees.
use Rattle.std.proofs.Common.{◌≡◌, ◌+◌, ◌-◌, ◌*◌, ◌/◌, ◌<◌, ◌≤◌, ◌⊎◌, [], ◌∷◌, ℕ, zero, suc, Bool, true, false, nat_lt, List, All, Option, IfSome, inl, inr, length, map, take, get_or, refl, sym, ap, subst, arith}
use Rattle.std.specs.Prelude.{if◌then◌else◌}
use Rattle.std.specs.List.{AllByRecursion}
use Rattle.std.proofs.lemmas.Bool.{false≢true}
use Rattle.std.proofs.lemmas.List.{length-map}
use Rattle.std.proofs.lemmas.Nat.{mul-le}
use Rattle.outside.specs.Reads.{Entry}
use Rattle.outside.specs.declared.place.Place.{Place}
use Rattle.values.specs.declared.value.Value.{Value}
use Rattle.bit_column.specs.Column.{bytes_for, width_of}
use Rattle.bit_column.specs.Sections.{end_byte, first_byte}
use Rattle.bit_column.proofs.Widths.{width-least}
use Rattle.doc_lists.specs.Docs.{Apart, docs_of}
use Rattle.doc_lists.specs.declared.run.Run.{Run}
use Rattle.index_reader.proofs.RunLemmas.{lasts_below}
use Rattle.table_schema.specs.declared.table.Table.{Table}
use Rattle.segment_file.specs.declared.part.Part.TheVariants.{Forward}
use Rattle.segment_file.specs.Front.{extents_of}
use Rattle.segment_head.specs.Heads.{IsHeadOf, IsLoaded, Seen, place_in, placed}
use Rattle.segment_file.specs.Image.{count_of, front_of}
use Rattle.segment_file.specs.Image as image
use Rattle.segment_file.specs.Ordered.{value_in}
use Rattle.segment_plan.specs.Laws.{TellsOf}
use Rattle.column_reader.specs.Bytes.{GrowsBy}
use Rattle.segment_scan.specs.Documents.{LogsDocs, LogsDocsPartly}
use Rattle.column_reader.specs.Forward.{IsReadable, LogsColumns, LogsForward, LogsNamed, LogsPart, LogsPartly, LogsSome, width_in}
use Rattle.segment_plan.specs.Matched.{count_in}
use Rattle.column_reader.specs.Picked.{LogsIf, LogsIfPartly, LogsPicked, LogsPickedPartly, LogsRuns, LogsRunsPartly, ids_of_run}
use Rattle.outside.specs.Series.{LogsPartOf, LogsTo}
use Rattle.column_reader.proofs.ByteLemmas.{grows_on, grows_runs, grows_same}
use Rattle.segment_scan.proofs.ImageLemmas.{distinct_few}
use Rattle.segment_reads.specs.Logs.{LogsThat}
use Rattle.segment_reads.specs.Reads.{marked_count, raw_span}
use Rattle.segment_scan.proofs.IndexReads.{count_are, each_within, placed_raw}
use Rattle.segment_scan.proofs.PartPlaces.{IsRawPlace, forward_size}
use Rattle.segment_head.proofs.SectionLemmas.{rows_few}
use Rattle.segment_scan.proofs.WithinLogs.{IsWithin, LiesIn, grows_less, grows_partly, grows_up, marks_bytes, marks_few, on_lies, one_if, over_lies, part_grows, part_that, partly_lies, same_lies, series_grows, series_that, up_lies}
use Rattle.segment_head.specs.declared.stored.Stored.{Stored}

-- ---- ids of columns

end_by : (b : Bool) (a c whole : ℕ) → a ≤ whole → c ≤ whole → (if b then bytes_for a else c / 8) ≤ bytes_for whole
end_by true a c whole first last = omega (arith, first)
end_by false a c whole first last = omega (arith, last)

-- ids end within those of all rows
end_few : (width first to rows : ℕ) → first ≤ rows → to ≤ rows → end_byte width first to ≤ bytes_for (rows * width)
end_few width first to rows begins ends = end_by (nat_lt first to) (to * width) (first * width) (rows * width) (mul-le to width rows width ends (omega arith)) (mul-le first width rows width begins (omega arith))

marked_within : (named : List Bool) (at : ℕ) → get_or named at false ≡ true → at < length named
marked_within [] at is = absurd (false≢true is)
marked_within (b ∷ bs) zero is = omega arith
marked_within (b ∷ bs) (suc at) is = let rest = marked_within bs at is in omega (arith, rest)

module _ (table : Table) (segment : Stored) (head : Seen) (rows : List (List Value)) (sections : head.sections ≡ map (placed segment.file) (extents_of table segment.name (front_of 1 table rows))) (tells : TellsOf table rows head) (of_table : IsHeadOf table head) where
  abbrev high : ℕ
  high = (raw_span table segment.name rows).to

  -- a read before the documents of the star-trees
  abbrev pub LiesBefore : Entry → Type 0
  LiesBefore = LiesIn segment.file 0 high

  width_small : (column : ℕ) → IsLoaded head column → width_in head column ≤ 20
  width_small column loaded =
      let same = count_are table segment head rows sections tells column loaded in
      let at_most = distinct_few (image.values_in column rows) in
      let long = length-map rows (value_in column) in
      let many = rows_few table head of_table in
      let count = tells.rows_are in
      (width-least (count_in head column) (omega (arith, same, at_most, long, many, count))).2 20 (omega arith) (omega (arith, same, at_most, long, many, count))

  module _ (column : ℕ) (is : IsReadable head column) where
    ids_end : (place : Place) → IsRawPlace table segment rows (Forward column) place → (first to : ℕ) → first ≤ head.rows → to ≤ head.rows → place.offset + end_byte (width_in head column) first to ≤ high
    ids_end place raw first to begins ends =
        let last = raw.ends in
        let long = raw.long in
        let size = forward_size table rows column in
        let at_most = end_few (width_in head column) first to head.rows begins ends in
        let same : bytes_for (head.rows * width_in head column) ≡ bytes_for (length rows * width_of (count_of rows column)) = (λ i. bytes_for (tells.rows_are i * width_of (count_are table segment head rows sections tells column is.loaded i))) in
        omega (arith, last, long, size, at_most, same)

    whole_few : end_byte (width_in head column) 0 head.rows - first_byte (width_in head column) 0 ≤ 4 * head.rows
    whole_few =
        let at_most = end_few (width_in head column) 0 head.rows head.rows (omega arith) (omega arith) in
        let most = mul-le head.rows (width_in head column) head.rows 20 (omega arith) (width_small column is.loaded) in
        omega (arith, at_most, most)

    forward_place : (P : Place → Type 0) (Q : Type 0) → IfSome (place_in head.sections (Forward column)) P → ((place : Place) → IsRawPlace table segment rows (Forward column) place → P place → Q) → Q
    forward_place P Q logs f = placed_raw table segment head rows sections tells (Forward column) (omega arith) (omega arith) is.placed P Q logs f

    module _ (old new : Option (List Entry)) where
      own_file : (place : Place) → IsRawPlace table segment rows (Forward column) place → LogsThat (LiesIn place.file 0 high) old new → LogsThat LiesBefore old new
      own_file place raw logs = subst (λ f. LogsThat (LiesIn f 0 high) old new) raw.file_is logs

      forward_before : LogsForward head column old new → LogsThat LiesBefore old new
      forward_before logs =
          forward_place _ (LogsThat LiesBefore old new) logs (λ place raw h.
          own_file place raw (on_lies place.file 0 high (place.offset + first_byte (width_in head column) 0) (place.offset + end_byte (width_in head column) 0 head.rows) old new (omega arith) (ids_end place raw 0 head.rows (omega arith) (omega arith)) h))

      part_before : LogsPart head column old new → LogsThat LiesBefore old new
      part_before logs =
          forward_place _ (LogsThat LiesBefore old new) logs (λ place raw h.
          own_file place raw (up_lies place.file 0 high (place.offset + first_byte (width_in head column) 0) (place.offset + end_byte (width_in head column) 0 head.rows) old new (omega arith) (ids_end place raw 0 head.rows (omega arith) (omega arith)) h))

      forward_grows : LogsForward head column old new → GrowsBy (4 * head.rows) old new
      forward_grows logs =
          let at_most = whole_few in
          forward_place _ (GrowsBy (4 * head.rows) old new) logs (λ place raw h.
          grows_on place.file (place.offset + first_byte (width_in head column) 0) (place.offset + end_byte (width_in head column) 0 head.rows) (4 * head.rows) old new (omega (arith, at_most)) h)

      part_bytes : LogsPart head column old new → GrowsBy (4 * head.rows) old new
      part_bytes logs =
          let at_most = whole_few in
          forward_place _ (GrowsBy (4 * head.rows) old new) logs (λ place raw h.
          grows_up place.file (place.offset + first_byte (width_in head column) 0) (place.offset + end_byte (width_in head column) 0 head.rows) (4 * head.rows) old new (omega (arith, at_most)) h)

      -- ---- of runs of documents

      module _ (runs : List Run) (apart : Apart 0 runs) (within : All (λ doc. doc < head.rows) (docs_of runs)) where
        runs_within : (place : Place) → IsRawPlace table segment rows (Forward column) place → AllByRecursion (IsWithin 0 high) (map (ids_of_run (width_in head column) place.offset) runs)
        runs_within place raw =
            each_within 0 high head.rows 0 (ids_of_run (width_in head column) place.offset)
            (λ run order lt. record { begins = omega arith; ends = ids_end place raw run.first (run.last + 1) (omega (arith, order, lt)) (omega (arith, lt)) }) runs apart (lasts_below 0 runs head.rows apart within)

        runs_before : LogsRuns head runs column old new → LogsThat LiesBefore old new
        runs_before logs =
            forward_place _ (LogsThat LiesBefore old new) logs (λ place raw h. own_file place raw (over_lies place.file 0 high (map (ids_of_run (width_in head column) place.offset) runs) old new (runs_within place raw) h))

        runs_part_before : LogsRunsPartly head runs column old new → LogsThat LiesBefore old new
        runs_part_before (inl same) = same_lies segment.file 0 high old new same
        runs_part_before (inr logs) =
            forward_place _ (LogsThat LiesBefore old new) logs (λ place raw h. own_file place raw (partly_lies place.file 0 high (map (ids_of_run (width_in head column) place.offset) runs) old new (runs_within place raw) h))

        runs_grow : LogsRuns head runs column old new → GrowsBy (4 * length (docs_of runs)) old new
        runs_grow logs =
            let small = width_small column is.loaded in
            forward_place _ (GrowsBy (4 * length (docs_of runs)) old new) logs (λ place raw h. grows_runs place.file (width_in head column) place.offset 0 runs old new (omega (arith, small)) apart h)

        runs_bytes : LogsRunsPartly head runs column old new → GrowsBy (4 * length (docs_of runs)) old new
        runs_bytes (inl same) = grows_less 0 (4 * length (docs_of runs)) old new (omega arith) (grows_same old new same)
        runs_bytes (inr logs) =
            let small = width_small column is.loaded in
            forward_place _ (GrowsBy (4 * length (docs_of runs)) old new) logs (λ place raw h. grows_partly place.file (width_in head column) place.offset 0 runs old new (omega (arith, small)) apart h)

  -- ---- all columns that are named

  module _ (named : List Bool) (readable : (column : ℕ) → get_or named column false ≡ true → IsReadable head column) where
    abbrev Each : ℕ → Option (List Entry) → Option (List Entry) → Type 0
    Each at old new = LogsNamed head at (get_or named at false) old new

    abbrev Part : ℕ → Option (List Entry) → Option (List Entry) → Type 0
    Part at old new = (get_or named at false ≡ true) × LogsPart head at old new

    to_series : (n : ℕ) (old new : Option (List Entry)) → LogsColumns head named n old new → LogsTo Each n old new
    to_series zero old new logs = logs
    to_series (suc n) old new (between, before, last) = (between, to_series n old between before, last)

    to_part : (old new : Option (List Entry)) → LogsSome head named old new → LogsPartOf Each Part (length named) old new
    to_part old new s = record { upto = s.upto; at_most = s.within; between = s.between; before = to_series s.upto old s.between s.before; rest = rest s.rest }
      where
        rest : LogsPartly head s.upto (get_or named s.upto false) s.between new → (new ≡ s.between) ⊎ ((s.upto < length named) × Part s.upto s.between new)
        rest (inl same) = inl same
        rest (inr (is, logs)) = inr (marked_within named s.upto is, (is, logs))

    named_before : (b : Bool) (column : ℕ) → get_or named column false ≡ b → (old new : Option (List Entry)) → LogsNamed head column b old new → LogsThat LiesBefore old new
    named_before false column is old new same = same_lies segment.file 0 high old new same
    named_before true column is old new logs = forward_before column (readable column is) old new logs

    named_grows : (b : Bool) (column : ℕ) → get_or named column false ≡ b → (old new : Option (List Entry)) → LogsNamed head column b old new → GrowsBy (4 * head.rows * one_if b) old new
    named_grows false column is old new same = grows_less 0 (4 * head.rows * one_if false) old new (omega arith) (grows_same old new same)
    named_grows true column is old new logs = grows_less (4 * head.rows) (4 * head.rows * one_if true) old new (omega arith) (forward_grows column (readable column is) old new logs)

    pub columns_before : (n : ℕ) → n ≤ length named → (old new : Option (List Entry)) → LogsColumns head named n old new → LogsThat LiesBefore old new
    columns_before n le old new logs = series_that LiesBefore Each (length named) (λ at lt a b h. named_before (get_or named at false) at refl a b h) n le old new (to_series n old new logs)

    pub columns_grow : (n : ℕ) → n ≤ length named → (old new : Option (List Entry)) → LogsColumns head named n old new → GrowsBy (4 * head.rows * marked_count named) old new
    columns_grow n le old new logs =
        grows_less (4 * head.rows * marked_count (take n named)) (4 * head.rows * marked_count named) old new (mul-le (4 * head.rows) (marked_count (take n named)) (4 * head.rows) (marked_count named) (omega arith) (marks_few named n))
        (series_grows (4 * head.rows) named Each (λ at lt a b h. named_grows (get_or named at false) at refl a b h) n le old new (to_series n old new logs))

    pub some_before : (old new : Option (List Entry)) → LogsSome head named old new → LogsThat LiesBefore old new
    some_before old new logs =
        part_that LiesBefore Each (length named) (λ at lt a b h. named_before (get_or named at false) at refl a b h) Part (λ at lt a b h. part_before at (readable at h.0) a b h.1) old new (to_part old new logs)

    pub some_grow : (old new : Option (List Entry)) → LogsSome head named old new → GrowsBy (4 * head.rows * marked_count named) old new
    some_grow old new logs =
        part_grows (4 * head.rows) named Each (λ at lt a b h. named_grows (get_or named at false) at refl a b h) Part (λ at lt a b h. one_more at h.0 a b (part_bytes at (readable at h.0) a b h.1)) old new (to_part old new logs)
      where
        one_more : (at : ℕ) → get_or named at false ≡ true → (a b : Option (List Entry)) → GrowsBy (4 * head.rows) a b → GrowsBy (4 * head.rows * one_if (get_or named at false)) a b
        one_more at is a b h = subst (λ m. GrowsBy (4 * head.rows * one_if m) a b) (sym is) (grows_less (4 * head.rows) (4 * head.rows * one_if true) a b (omega arith) h)

    -- ---- of some documents

    module _ (docs : List ℕ) (within : All (λ doc. doc < head.rows) docs) where
      pub docs_grow : (old new : Option (List Entry)) → LogsDocs head named docs old new → GrowsBy (4 * length docs * marked_count named) old new
      docs_grow old new (runs, apart, are, logs, at_most) = subst (λ n. GrowsBy n old new) (marks_bytes named docs) at_most

      module _ (runs : List Run) (apart : Apart 0 runs) (are : docs_of runs ≡ docs) where
        abbrev here : All (λ doc. doc < head.rows) (docs_of runs)
        here = subst (All (λ doc. doc < head.rows)) (sym are) within

        picked_before : (v : Bool) (column : ℕ) → get_or named column false ≡ v → (a b : Option (List Entry)) → LogsIf head runs column v a b → LogsThat LiesBefore a b
        picked_before false column is a b same = same_lies segment.file 0 high a b same
        picked_before true column is a b h = runs_before column (readable column is) a b runs apart here h

        picked_partly : (v : Bool) (column : ℕ) → get_or named column false ≡ v → (a b : Option (List Entry)) → LogsIfPartly head runs column v a b → LogsThat LiesBefore a b
        picked_partly false column is a b same = same_lies segment.file 0 high a b same
        picked_partly true column is a b h = runs_part_before column (readable column is) a b runs apart here h

        picked_bytes : (v : Bool) (column : ℕ) → get_or named column false ≡ v → (a b : Option (List Entry)) → LogsIfPartly head runs column v a b → GrowsBy (4 * length docs * one_if v) a b
        picked_bytes false column is a b same = grows_less 0 (4 * length docs * one_if false) a b (omega arith) (grows_same a b same)
        picked_bytes true column is a b h =
            let same : length (docs_of runs) ≡ length docs = ap length are in
            grows_less (4 * length (docs_of runs)) (4 * length docs * one_if true) a b (omega (arith, same)) (runs_bytes column (readable column is) a b runs apart here h)

        whole_bytes : (v : Bool) (column : ℕ) → get_or named column false ≡ v → (a b : Option (List Entry)) → LogsIf head runs column v a b → GrowsBy (4 * length docs * one_if v) a b
        whole_bytes false column is a b same = grows_less 0 (4 * length docs * one_if false) a b (omega arith) (grows_same a b same)
        whole_bytes true column is a b h =
            let same : length (docs_of runs) ≡ length docs = ap length are in
            grows_less (4 * length (docs_of runs)) (4 * length docs * one_if true) a b (omega (arith, same)) (runs_grow column (readable column is) a b runs apart here h)

      pub docs_before : (old new : Option (List Entry)) → LogsDocs head named docs old new → LogsThat LiesBefore old new
      docs_before old new (runs, apart, are, logs, at_most) =
          series_that LiesBefore (LogsPicked head runs named) (length named) (λ at lt a b h. picked_before runs apart are (get_or named at false) at refl a b h) (length named) (omega arith) old new logs

      pub partly_before : (old new : Option (List Entry)) → LogsDocsPartly head named docs old new → LogsThat LiesBefore old new
      partly_before old new (inl same) = same_lies segment.file 0 high old new same
      partly_before old new (inr (runs, apart, are, logs)) =
          part_that LiesBefore (LogsPicked head runs named) (length named) (λ at lt a b h. picked_before runs apart are (get_or named at false) at refl a b h)
          (LogsPickedPartly head runs named) (λ at lt a b h. picked_partly runs apart are (get_or named at false) at refl a b h) old new logs

      pub partly_grow : (old new : Option (List Entry)) → LogsDocsPartly head named docs old new → GrowsBy (4 * length docs * marked_count named) old new
      partly_grow old new (inl same) = grows_less 0 (4 * length docs * marked_count named) old new (omega arith) (grows_same old new same)
      partly_grow old new (inr (runs, apart, are, logs)) =
          part_grows (4 * length docs) named (LogsPicked head runs named) (λ at lt a b h. whole_bytes runs apart are (get_or named at false) at refl a b h)
          (LogsPickedPartly head runs named) (λ at lt a b h. picked_bytes runs apart are (get_or named at false) at refl a b h) old new logs
