-- What is read of the indexes of an image lies in their own sections: after the forward indexes, and before the documents of the star-trees.
use Rattle.std.proofs.Common.{◌≡◌, ◌∙◌, ◌+◌, ◌-◌, ◌*◌, ◌<◌, ◌≤◌, [], ◌∷◌, ℕ, true, List, All, Option, Some, None, IfSome, inl, inr, length, map, refl, sym, ap, subst, arith}
use Rattle.std.specs.Option.{IsSome}
use Rattle.std.specs.List.{AllByRecursion}
use Rattle.std.proofs.lemmas.Bool.{false≢true}
use Rattle.std.proofs.lemmas.List.Elements.{All-head, All-tail}
use Rattle.outside.specs.Files.{Files}
use Rattle.outside.specs.Reads.{Entry}
use Rattle.outside.specs.declared.place.Place.{Place}
use Rattle.values.specs.declared.test.Test.{Test}
use Rattle.values.specs.declared.value.Value.{Value}
use Rattle.value_ids.specs.Dictionary.{distinct}
use Rattle.value_ids.specs.Ids.{matching}
use Rattle.value_ids.proofs.IdLemmas.{each_matching}
use Rattle.bit_column.specs.Postings.{buckets_for}
use Rattle.doc_lists.specs.Docs.{Apart}
use Rattle.doc_lists.specs.declared.run.Run.{Run}
use Rattle.index_reader.specs.Buckets.{AreBucketParts, LogsBuckets, LogsBucketsPartly, bucket_offsets, in_turn}
use Rattle.index_reader.specs.Entries.{LogsPostings, LogsPostingsPartly, Rising, entries_at, offsets_of}
use Rattle.index_reader.specs.Runs.{AreRunsOf, LogsSorted, LogsSortedPartly, ends_of}
use Rattle.outside.specs.Stretches.{Stretch}
use Rattle.index_reader.specs.declared.buckets.BucketParts.{BucketParts}
use Rattle.index_reader.specs.declared.ends.Ends.{Ends}
use Rattle.index_reader.proofs.RunLemmas.{lasts_below}
use Rattle.table_schema.specs.declared.query.Conjunct.{Conjunct}
use Rattle.table_schema.specs.declared.query.Conjunct.TheVariants.{One, Many}
use Rattle.table_schema.specs.declared.table.Table.{Table}
use Rattle.segment_file.specs.declared.part.Part.{Part}
use Rattle.segment_file.specs.declared.part.Part.TheVariants as parts
use Rattle.segment_file.specs.Front.{extents_of}
use Rattle.segment_head.specs.Heads.{IsLoaded, Seen, place_in, placed}
use Rattle.segment_file.specs.Image.{count_of, front_of, section_of}
use Rattle.segment_file.specs.Image as image
use Rattle.segment_file.specs.Parts.{kind_of}
use Rattle.segment_plan.specs.Choices.{are_consecutive}
use Rattle.segment_plan.specs.Laws.{TellsOf}
use Rattle.segment_plan.specs.Matched.{values_in, values_of, count_in}
use Rattle.segment_plan.specs.declared.plans.IndexChoice.{IndexChoice}
use Rattle.segment_plan.specs.declared.plans.IndexChoice.TheVariants as choices
use Rattle.index_filter.specs.Indexes.{IsReady, LogsIndexed, LogsIndexedPartly}
use Rattle.segment_plan.specs.RowsLeft.{first_of, last_of}
use Rattle.index_filter.proofs.MatchLemmas.{matching_below}
use Rattle.segment_reads.specs.Logs.{LogsThat}
use Rattle.segment_reads.specs.Reads.{forward_span, raw_span}
use Rattle.segment_reads.proofs.LogLemmas.{entries_then}
use Rattle.segment_scan.proofs.PartPlaces.{IsRawPlace, inverted_size, range_size, raw_place, sorted_size}
use Rattle.segment_scan.proofs.WithinLogs.{IsWithin, LiesIn, over_lies, partly_lies, same_lies}
use Rattle.segment_head.specs.declared.stored.Stored.{Stored}

-- ---- stretches of runs and of parts of entries

-- each of some runs is read between two places
pub each_within : (from to limit key : ℕ) (f : Run → Stretch) → ((run : Run) → run.first ≤ run.last → run.last < limit → IsWithin from to (f run)) → (runs : List Run) → Apart key runs → All (λ run. run.last < limit) runs → AllByRecursion (IsWithin from to) (map f runs)
each_within from to limit key f within [] apart all = tt
each_within from to limit key f within (run ∷ runs) apart all =
    (within run apart.1 (All-head (λ r. r.last < limit) run runs all), each_within from to limit (run.last + 2) f within runs apart.3 (All-tail (λ r. r.last < limit) run runs all))

run_lasts : (ids : List ℕ) (runs : List Run) (limit : ℕ) → AreRunsOf ids runs → All (λ id. id < limit) ids → All (λ run. run.last < limit) runs
run_lasts ids runs limit are all = lasts_below 0 runs limit are.0 (subst (All (λ id. id < limit)) (sym are.1) all)

entries_within : (from to offset count end at : ℕ) → from ≤ offset → offset + 4 * (count + 1 + end) ≤ to → (ps : List Ends) → Rising at end ps → AllByRecursion (IsWithin from to) (map (entries_at offset count) ps)
entries_within from to offset count end at first last [] rising = tt
entries_within from to offset count end at first last (part ∷ ps) (low, order, high, rest) =
    (record { begins = omega (arith, first); ends = omega (arith, last, high) }, entries_within from to offset count end part.last first last ps rest)

some_ids : (ids : List ℕ) → are_consecutive ids ≡ true → 0 < length ids
some_ids [] is = absurd (false≢true is)
some_ids (id ∷ ids) is = omega arith

-- ---- the sections of an image

module _ (table : Table) (segment : Stored) (head : Seen) (rows : List (List Value)) (sections : head.sections ≡ map (placed segment.file) (extents_of table segment.name (front_of 1 table rows))) (tells : TellsOf table rows head) where
  pub values_are : (column : ℕ) → IsLoaded head column → values_in head column ≡ distinct (image.values_in column rows)
  values_are column loaded = ap values_of loaded.1 ∙ ap (λ d. d.values) (tells.dictionaries_are column loaded.0 loaded.1)

  pub count_are : (column : ℕ) → IsLoaded head column → count_in head column ≡ count_of rows column
  count_are column loaded = ap length (values_are column loaded)

  -- what holds of the place of a section of the rows
  pub placed_raw : (p : Part) → 0 < kind_of p → kind_of p < 8 → IsSome (place_in head.sections p) → (P : Place → Type 0) (Q : Type 0) → IfSome (place_in head.sections p) P → ((place : Place) → IsRawPlace table segment rows p place → P place → Q) → Q
  placed_raw p some at_most is P Q logs f = by (place_in head.sections p) refl is logs
    where
      by : (o : Option Place) → place_in head.sections p ≡ o → IsSome o → IfSome o P → Q
      by None at is logs = absurd cc
      by (Some place) at is logs = f place (raw_place table segment rows p place some at_most (ap (λ s. place_in s p) (sym sections) ∙ at)) logs

  -- a read between the forward indexes and the documents of the star-trees
  abbrev pub LiesBehind : Entry → Type 0
  LiesBehind = LiesIn segment.file (forward_span table segment.name rows).to (raw_span table segment.name rows).to

  abbrev low : ℕ
  low = (forward_span table segment.name rows).to

  abbrev high : ℕ
  high = (raw_span table segment.name rows).to

  ids_below : (column : ℕ) (test : Test) → All (λ id. id < count_in head column) (matching test (values_in head column))
  ids_below column test = matching_below (values_in head column) test (matching test (values_in head column)) (each_matching (values_in head column) test (matching test (values_in head column)) refl)

  module _ (column : ℕ) (test : Test) (loaded : IsLoaded head column) (place : Place) where
    abbrev ids : List ℕ
    ids = matching test (values_in head column)

    -- ---- the sorted column

    ends_within : IsRawPlace table segment rows (parts.Sorted column) place → (runs : List Run) → AreRunsOf ids runs → AllByRecursion (IsWithin low high) (map (ends_of place.offset) runs)
    ends_within raw runs are =
        let after = raw.after (omega arith) in
        let ends = raw.ends in
        let long = raw.long in
        let size = sorted_size table rows column in
        let count = count_are column loaded in
        each_within low high (count_in head column) 0 (ends_of place.offset) (λ run order lt. record { begins = omega (arith, after); ends = omega (arith, ends, long, size, count, lt) }) runs are.0 (run_lasts ids runs (count_in head column) are (ids_below column test))

    sorted_lies : IsRawPlace table segment rows (parts.Sorted column) place → (old new : Option (List Entry)) → LogsSorted ids place.file place.offset old new → LogsThat (LiesIn place.file low high) old new
    sorted_lies raw old new (runs, are, logs) = over_lies place.file low high (map (ends_of place.offset) runs) old new (ends_within raw runs are) logs

    sorted_partly : IsRawPlace table segment rows (parts.Sorted column) place → (old new : Option (List Entry)) → LogsSortedPartly ids place.file place.offset old new → LogsThat (LiesIn place.file low high) old new
    sorted_partly raw old new (inl same) = same_lies place.file low high old new same
    sorted_partly raw old new (inr (runs, are, logs)) = partly_lies place.file low high (map (ends_of place.offset) runs) old new (ends_within raw runs are) logs

    -- ---- an inverted index

    offsets_within : IsRawPlace table segment rows (parts.Inverted column) place → (runs : List Run) → AreRunsOf ids runs → AllByRecursion (IsWithin low high) (map (offsets_of place.offset) runs)
    offsets_within raw runs are =
        let after = raw.after (omega arith) in
        let ends = raw.ends in
        let long = raw.long in
        let size = inverted_size table rows column in
        let count = count_are column loaded in
        each_within low high (count_in head column) 0 (offsets_of place.offset) (λ run order lt. record { begins = omega (arith, after); ends = omega (arith, ends, long, size, count, lt) }) runs are.0 (run_lasts ids runs (count_in head column) are (ids_below column test))

    keys_within : IsRawPlace table segment rows (parts.Inverted column) place → (ps : List Ends) → Rising 0 head.rows ps → AllByRecursion (IsWithin low high) (map (entries_at place.offset (count_in head column)) ps)
    keys_within raw ps rising =
        let after = raw.after (omega arith) in
        let ends = raw.ends in
        let long = raw.long in
        let size = inverted_size table rows column in
        let count = count_are column loaded in
        let many = tells.rows_are in
        entries_within low high place.offset (count_in head column) head.rows 0 (omega (arith, after)) (omega (arith, ends, long, size, count, many)) ps rising

    postings_lie : IsRawPlace table segment rows (parts.Inverted column) place → (held : Option Files) (old new : Option (List Entry)) → LogsPostings ids held place (count_in head column) head.rows old new → LogsThat (LiesIn place.file low high) old new
    postings_lie raw held old new (runs, are, ps, stand, between, first, second) =
        entries_then (LiesIn place.file low high) old between new
        (over_lies place.file low high (map (offsets_of place.offset) runs) old between (offsets_within raw runs are) first)
        (over_lies place.file low high (map (entries_at place.offset (count_in head column)) ps) between new (keys_within raw ps stand.0) second)

    postings_partly : IsRawPlace table segment rows (parts.Inverted column) place → (held : Option Files) (old new : Option (List Entry)) → LogsPostingsPartly ids held place (count_in head column) head.rows old new → LogsThat (LiesIn place.file low high) old new
    postings_partly raw held old new (inl same) = same_lies place.file low high old new same
    postings_partly raw held old new (inr (inl (runs, are, logs))) = partly_lies place.file low high (map (offsets_of place.offset) runs) old new (offsets_within raw runs are) logs
    postings_partly raw held old new (inr (inr (runs, are, ps, stand, between, first, second))) =
        entries_then (LiesIn place.file low high) old between new
        (over_lies place.file low high (map (offsets_of place.offset) runs) old between (offsets_within raw runs are) first)
        (partly_lies place.file low high (map (entries_at place.offset (count_in head column)) ps) between new (keys_within raw ps stand.0) second)

    -- ---- a range index

    module _ (consecutive : are_consecutive ids ≡ true) (raw : IsRawPlace table segment rows (parts.Range column) place) where
      last_below : last_of ids < count_in head column
      last_below = let some = some_ids ids consecutive in ids_below column test (length ids - 1) 0 (omega (arith, some))

      whole : (place.offset + 4 * (buckets_for (count_in head column) + 1 + head.rows) ≤ high) × (low ≤ place.offset)
      whole =
          let after = raw.after (omega arith) in
          let ends = raw.ends in
          let long = raw.long in
          let size = range_size table rows column in
          let count = ap buckets_for (count_are column loaded) in
          let many = tells.rows_are in
          (omega (arith, ends, long, size, count, many), omega (arith, after))

      first_within : IsWithin low high (bucket_offsets place.offset (first_of ids) (last_of ids))
      first_within =
          let last = last_below in
          let ends = whole.0 in
          let after = whole.1 in
          record { begins = omega (arith, after); ends = omega (arith, ends, last) }

      turns_within : (held : Option Files) (ps : BucketParts) → AreBucketParts held place (count_in head column) head.rows (first_of ids) (last_of ids) ps → AllByRecursion (IsWithin low high) (map (entries_at place.offset (buckets_for (count_in head column))) (in_turn ps))
      turns_within held ps are =
          let n : ℕ = buckets_for (count_in head column) in
          let each = entries_within low high place.offset n head.rows 0 whole.1 whole.0 (ps.before ∷ ps.sure ∷ ps.after ∷ []) are.0 in
          (each.1.0, (each.0, (each.1.1.0, tt)))

      buckets_lie : (held : Option Files) (old new : Option (List Entry)) → LogsBuckets held place (count_in head column) head.rows (first_of ids) (last_of ids) old new → LogsThat (LiesIn place.file low high) old new
      buckets_lie held old new (ps, are, logs) =
          over_lies place.file low high (bucket_offsets place.offset (first_of ids) (last_of ids) ∷ map (entries_at place.offset (buckets_for (count_in head column))) (in_turn ps)) old new (first_within, turns_within held ps are) logs

      buckets_partly : (held : Option Files) (old new : Option (List Entry)) → LogsBucketsPartly held place (count_in head column) head.rows (first_of ids) (last_of ids) old new → LogsThat (LiesIn place.file low high) old new
      buckets_partly held old new (inl logs) = partly_lies place.file low high (bucket_offsets place.offset (first_of ids) (last_of ids) ∷ []) old new (first_within, tt) logs
      buckets_partly held old new (inr (ps, are, logs)) =
          partly_lies place.file low high (bucket_offsets place.offset (first_of ids) (last_of ids) ∷ map (entries_at place.offset (buckets_for (count_in head column))) (in_turn ps)) old new (first_within, turns_within held ps are) logs

  -- ---- the index of a conjunct

  module _ (held : Option Files) (old new : Option (List Entry)) where
    own_file : (p : Part) (place : Place) → IsRawPlace table segment rows p place → LogsThat (LiesIn place.file low high) old new → LogsThat LiesBehind old new
    own_file p place raw logs = subst (λ f. LogsThat (LiesIn f low high) old new) raw.file_is logs

    none_behind : new ≡ old → LogsThat LiesBehind old new
    none_behind same = same_lies segment.file low high old new same

    pub indexed_behind : (choice : IndexChoice) (conjunct : Conjunct) → IsReady head choice conjunct → LogsIndexed held head choice conjunct old new → LogsThat LiesBehind old new
    indexed_behind choices.Sorted (One column test) is logs =
        placed_raw (parts.Sorted column) (omega arith) (omega arith) is.placed _ (LogsThat LiesBehind old new) logs (λ place raw h. own_file (parts.Sorted column) place raw (sorted_lies column test is.loaded place raw old new h))
    indexed_behind choices.Inverted (One column test) is logs =
        placed_raw (parts.Inverted column) (omega arith) (omega arith) is.placed _ (LogsThat LiesBehind old new) logs (λ place raw h. own_file (parts.Inverted column) place raw (postings_lie column test is.loaded place raw held old new h))
    indexed_behind choices.Range (One column test) is logs =
        placed_raw (parts.Range column) (omega arith) (omega arith) is.placed _ (LogsThat LiesBehind old new) logs (λ place raw h. own_file (parts.Range column) place raw (buckets_lie column test is.loaded place is.consecutive raw held old new h))
    indexed_behind choices.Unindexed (One column test) is logs = none_behind logs
    indexed_behind choices.Sorted (Many wide) is logs = none_behind logs
    indexed_behind choices.Inverted (Many wide) is logs = none_behind logs
    indexed_behind choices.Range (Many wide) is logs = none_behind logs
    indexed_behind choices.Unindexed (Many wide) is logs = none_behind logs

    pub indexed_partly : (choice : IndexChoice) (conjunct : Conjunct) → IsReady head choice conjunct → LogsIndexedPartly held head choice conjunct old new → LogsThat LiesBehind old new
    indexed_partly choices.Sorted (One column test) is logs =
        placed_raw (parts.Sorted column) (omega arith) (omega arith) is.placed _ (LogsThat LiesBehind old new) logs (λ place raw h. own_file (parts.Sorted column) place raw (sorted_partly column test is.loaded place raw old new h))
    indexed_partly choices.Inverted (One column test) is logs =
        placed_raw (parts.Inverted column) (omega arith) (omega arith) is.placed _ (LogsThat LiesBehind old new) logs (λ place raw h. own_file (parts.Inverted column) place raw (postings_partly column test is.loaded place raw held old new h))
    indexed_partly choices.Range (One column test) is (inl same) = none_behind same
    indexed_partly choices.Range (One column test) is (inr logs) =
        placed_raw (parts.Range column) (omega arith) (omega arith) is.placed _ (LogsThat LiesBehind old new) logs (λ place raw h. own_file (parts.Range column) place raw (buckets_partly column test is.loaded place is.consecutive raw held old new h))
    indexed_partly choices.Unindexed (One column test) is logs = none_behind logs
    indexed_partly choices.Sorted (Many wide) is logs = none_behind logs
    indexed_partly choices.Inverted (Many wide) is logs = none_behind logs
    indexed_partly choices.Range (Many wide) is logs = none_behind logs
    indexed_partly choices.Unindexed (Many wide) is logs = none_behind logs
