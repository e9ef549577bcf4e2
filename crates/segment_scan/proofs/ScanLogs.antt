-- What a scan of a segment reads is of the segment's file.
use Rattle.std.proofs.Common.{◌≡◌, ◌≤◌, ◌<◌, ◌+◌, ◌⊎◌, ℕ, zero, suc, Bool, true, false, cond, List, [], ◌∷◌, length, map, get_or, slice_get, Option, Some, None, IfSome, inl, inr, refl, sym, subst, arith}
use Rattle.std.specs.Prelude.{option_map}
use Rattle.std.specs.Option.{IsSome}
use Rattle.std.specs.List.{find}
use Rattle.std.proofs.lemmas.List.Elements.{All-head, All-tail}
use Rattle.outside.specs.Reads.{Entry}
use Rattle.outside.specs.declared.place.Place.{Place}
use Rattle.bit_column.specs.Sections.{end_byte, first_byte}
use Rattle.segment_file.specs.declared.part.Part.{Part}
use Rattle.segment_file.specs.declared.part.Part.TheVariants.{Forward, Range}
use Rattle.segment_file.specs.declared.section.Section.{Section}
use Rattle.segment_head.specs.Heads.{AreIn, Seen, place_in, IsHeadOf}
use Rattle.segment_file.specs.Parts.{is_same}
use Rattle.outside.specs.Files.{Files}
use Rattle.values.specs.declared.test.Test.{Test}
use Rattle.table_schema.specs.declared.query.BoundQuery.{BoundQuery}
use Rattle.table_schema.specs.declared.query.Conjunct.{Conjunct}
use Rattle.table_schema.specs.declared.query.Conjunct.TheVariants.{One, Many}
use Rattle.table_schema.specs.declared.table.Table.{Table}
use Rattle.doc_lists.specs.declared.run.Run.{Run}
use Rattle.bit_column.specs.Postings.{buckets_for}
use Rattle.index_reader.specs.Buckets.{LogsBuckets, LogsBucketsPartly, bucket_offsets, in_turn}
use Rattle.index_reader.specs.Entries.{entries_at, offsets_of}
use Rattle.index_reader.specs.Logs.{LogsIds, LogsIdsPartly}
use Rattle.index_reader.specs.Runs.{ends_of}
use Rattle.outside.specs.Stretches.{LogsOver, Stretch}
use Rattle.outside.specs.Stretches as stretches
use Rattle.index_reader.specs.declared.kind.ListKind.{ListKind}
use Rattle.index_reader.specs.declared.kind.ListKind.TheVariants as kinds
use Rattle.segment_plan.specs.declared.plans.IndexChoice.{IndexChoice}
use Rattle.segment_plan.specs.declared.plans.IndexChoice.TheVariants as choices
use Rattle.segment_scan.specs.Documents.{LogsDocs, LogsDocsPartly}
use Rattle.column_reader.specs.Forward.{IsReadable, LogsColumns, LogsForward, LogsNamed, LogsPart, LogsPartly, LogsSome, width_in}
use Rattle.segment_scan.specs.Images.{LogsPartsPartly, LogsScan, LogsScanPartly, choices_for, rest_for, sure_for}
use Rattle.segment_plan.specs.Named.{AreNamedLoaded, names_in}
use Rattle.index_filter.specs.Indexes.{IsIndexed, IsRanged, IsReady, LogsAt, LogsAtPartly, LogsIndex, LogsIndexPartly, LogsIndexed, LogsIndexedPartly, LogsRange, LogsRangePartly, OfEach, part_of}
use Rattle.column_reader.specs.Picked.{LogsIf, LogsIfPartly, LogsPicked, LogsPickedPartly, LogsRuns, LogsRunsPartly, ids_of_run}
use Rattle.outside.specs.Series.{Logs, LogsPartOf, LogsTo}
use Rattle.segment_plan.specs.Served.{choice_at}
use Rattle.segment_plan.specs.RowsLeft.{sure_choices}
use Rattle.segment_scan.proofs.ImageLemmas.{loaded_readable}
use Rattle.segment_scan.proofs.IndexImage.{ready_for}
use Rattle.segment_scan.proofs.LeftImage.{rest_loaded}
use Rattle.segment_scan.proofs.SegmentLemmas.{mark_named}
use Rattle.segment_reads.specs.Logs.{LogsIn}
use Rattle.segment_reads.proofs.LogLemmas.{logs_none, logs_on, logs_then, logs_through}
use Rattle.segment_reads.proofs.PartLogs.{at_place, over_in_file, place_file, some_in_file}

-- the file of the place of a section
placed_log : (o : Option Place) (file : List ℕ) (P : Place → Type 0) (Q : Type 0) → IsSome o → IfSome o (λ place. place.file ≡ file) → IfSome o P → ((place : Place) → place.file ≡ file → P place → Q) → Q
placed_log None file P Q some is logs f = absurd cc
placed_log (Some place) file P Q some is logs f = f place is logs

module _ (head : Seen) (file : List ℕ) (within : AreIn file head.sections) (old new : Option (List Entry)) where
  forward_in_file : (column : ℕ) → IsReadable head column → LogsForward head column old new → LogsIn file old new
  forward_in_file column is logs =
      placed_log (place_in head.sections (Forward column)) file _ (LogsIn file old new) is.placed (place_file file head.sections (Forward column) within) logs
      (λ place own h. subst (λ f. LogsIn f old new) own (logs_on place.file (place.offset + first_byte (width_in head column) 0) (place.offset + end_byte (width_in head column) 0 head.rows) old new h))

  part_in_file : (column : ℕ) → IsReadable head column → LogsPart head column old new → LogsIn file old new
  part_in_file column is logs =
      placed_log (place_in head.sections (Forward column)) file _ (LogsIn file old new) is.placed (place_file file head.sections (Forward column) within) logs
      (λ place own h. let (to, le, through) = h in subst (λ f. LogsIn f old new) own (logs_through place.file (place.offset + first_byte (width_in head column) 0) to old new through))

module _ (head : Seen) (file : List ℕ) (within : AreIn file head.sections) (named : List Bool) (readable : (column : ℕ) → get_or named column false ≡ true → IsReadable head column) where
  one_column : (b : Bool) (column : ℕ) → get_or named column false ≡ b → (old new : Option (List Entry)) → LogsNamed head column b old new → LogsIn file old new
  one_column false column is old new logs = subst (LogsIn file old) (sym logs) (logs_none (λ other. other ≡ file) old)
  one_column true column is old new logs = forward_in_file head file within old new column (readable column is) logs

  logs_columns : (n : ℕ) (old new : Option (List Entry)) → LogsColumns head named n old new → LogsIn file old new
  logs_columns zero old new logs = subst (LogsIn file old) (sym logs) (logs_none (λ other. other ≡ file) old)
  logs_columns (suc n) old new (between, before, last) =
      logs_then (λ other. other ≡ file) old between new (logs_columns n old between before) (one_column (get_or named n false) n refl between new last)

  partly : (column : ℕ) (old new : Option (List Entry)) → LogsPartly head column (get_or named column false) old new → LogsIn file old new
  partly column old new (inl same) = subst (LogsIn file old) (sym same) (logs_none (λ other. other ≡ file) old)
  partly column old new (inr (is, logs)) = part_in_file head file within old new column (readable column is) logs

  logs_some : (old new : Option (List Entry)) → LogsSome head named old new → LogsIn file old new
  logs_some old new s = logs_then (λ other. other ≡ file) old s.between new (logs_columns s.upto old s.between s.before) (partly s.upto s.between new s.rest)

-- ---- parts of a file, one after the other

module _ (file : List ℕ) where
  same_in_file : (old new : Option (List Entry)) → new ≡ old → LogsIn file old new
  same_in_file old new same = subst (LogsIn file old) (sym same) (logs_none (λ other. other ≡ file) old)

-- ---- the sections of indexes

ids_in_file : (kind : ListKind) (ids : List ℕ) (held : Option Files) (place : Place) (count rows : ℕ) (old new : Option (List Entry)) → LogsIds kind ids held place count rows old new → LogsIn place.file old new
ids_in_file kinds.Sorted ids held place count rows old new (runs, are, over) = over_in_file place.file (map (ends_of place.offset) runs) old new over
ids_in_file kinds.Inverted ids held place count rows old new (runs, are, parts, stand, between, first, second) =
    logs_then (λ other. other ≡ place.file) old between new (over_in_file place.file (map (offsets_of place.offset) runs) old between first)
    (over_in_file place.file (map (entries_at place.offset count) parts) between new second)

ids_partly : (kind : ListKind) (ids : List ℕ) (held : Option Files) (place : Place) (count rows : ℕ) (old new : Option (List Entry)) → LogsIdsPartly kind ids held place count rows old new → LogsIn place.file old new
ids_partly kinds.Sorted ids held place count rows old new (inl same) = same_in_file place.file old new same
ids_partly kinds.Sorted ids held place count rows old new (inr (runs, are, partly)) = some_in_file place.file (map (ends_of place.offset) runs) old new partly
ids_partly kinds.Inverted ids held place count rows old new (inl same) = same_in_file place.file old new same
ids_partly kinds.Inverted ids held place count rows old new (inr (inl (runs, are, partly))) = some_in_file place.file (map (offsets_of place.offset) runs) old new partly
ids_partly kinds.Inverted ids held place count rows old new (inr (inr (runs, are, parts, stand, between, first, partly))) =
    logs_then (λ other. other ≡ place.file) old between new (over_in_file place.file (map (offsets_of place.offset) runs) old between first)
    (some_in_file place.file (map (entries_at place.offset count) parts) between new partly)

buckets_in_file : (held : Option Files) (place : Place) (count rows low high : ℕ) (old new : Option (List Entry)) → LogsBuckets held place count rows low high old new → LogsIn place.file old new
buckets_in_file held place count rows low high old new (parts, are, over) =
    over_in_file place.file (bucket_offsets place.offset low high ∷ map (entries_at place.offset (buckets_for count)) (in_turn parts)) old new over

buckets_partly : (held : Option Files) (place : Place) (count rows low high : ℕ) (old new : Option (List Entry)) → LogsBucketsPartly held place count rows low high old new → LogsIn place.file old new
buckets_partly held place count rows low high old new (inl partly) = some_in_file place.file (bucket_offsets place.offset low high ∷ []) old new partly
buckets_partly held place count rows low high old new (inr (parts, are, partly)) =
    some_in_file place.file (bucket_offsets place.offset low high ∷ map (entries_at place.offset (buckets_for count)) (in_turn parts)) old new partly

-- an item at each place of a list

-- reads that are made one after the other
module _ (file : List ℕ) (each : ℕ → Logs) (count : ℕ) (of_each : (at : ℕ) → at < count → (old new : Option (List Entry)) → each at old new → LogsIn file old new) where
  series_in_file : (n : ℕ) → n ≤ count → (old new : Option (List Entry)) → LogsTo each n old new → LogsIn file old new
  series_in_file zero at_most old new logs = same_in_file file old new logs
  series_in_file (suc n) at_most old new (between, before, last) = logs_then (λ other. other ≡ file) old between new (series_in_file n (omega (arith, at_most)) old between before) (of_each n (omega (arith, at_most)) between new last)

-- a part of them: the next one is there, or nothing more was read
module _ (file : List ℕ) (each partly : ℕ → Logs) (count : ℕ) (of_each : (at : ℕ) → at < count → (old new : Option (List Entry)) → each at old new → LogsIn file old new)
    (of_part : (at : ℕ) → at < count → (old new : Option (List Entry)) → partly at old new → LogsIn file old new) where
  series_partly : (old new : Option (List Entry)) → LogsPartOf each partly count old new → LogsIn file old new
  series_partly old new s = logs_then (λ other. other ≡ file) old s.between new (series_in_file file each count of_each s.upto s.at_most old s.between s.before) (rest s.rest)
    where
      rest : (new ≡ s.between) ⊎ ((s.upto < count) × partly s.upto s.between new) → LogsIn file s.between new
      rest (inl same) = same_in_file file s.between new same
      rest (inr (lt, part)) = of_part s.upto lt s.between new part

module _ (head : Seen) (file : List ℕ) (within : AreIn file head.sections) (held : Option Files) where
  index_in_file : (kind : ListKind) (column : ℕ) (test : Test) (old new : Option (List Entry)) → IsIndexed head kind column → LogsIndex held head kind column test old new → LogsIn file old new
  index_in_file kind column test old new is logs =
      placed_log (place_in head.sections (part_of kind column)) file _ (LogsIn file old new) is.placed (place_file file head.sections (part_of kind column) within) logs
      (λ place own h. subst (λ f. LogsIn f old new) own (ids_in_file kind _ held place _ head.rows old new h))

  index_partly : (kind : ListKind) (column : ℕ) (test : Test) (old new : Option (List Entry)) → IsIndexed head kind column → LogsIndexPartly held head kind column test old new → LogsIn file old new
  index_partly kind column test old new is logs =
      placed_log (place_in head.sections (part_of kind column)) file _ (LogsIn file old new) is.placed (place_file file head.sections (part_of kind column) within) logs
      (λ place own h. subst (λ f. LogsIn f old new) own (ids_partly kind _ held place _ head.rows old new h))

  range_in_file : (column : ℕ) (test : Test) (old new : Option (List Entry)) → IsRanged head column test → LogsRange held head column test old new → LogsIn file old new
  range_in_file column test old new is logs =
      placed_log (place_in head.sections (Range column)) file _ (LogsIn file old new) is.placed (place_file file head.sections (Range column) within) logs
      (λ place own h. subst (λ f. LogsIn f old new) own (buckets_in_file held place _ head.rows _ _ old new h))

  range_partly : (column : ℕ) (test : Test) (old new : Option (List Entry)) → IsRanged head column test → LogsRangePartly held head column test old new → LogsIn file old new
  range_partly column test old new is (inl same) = same_in_file file old new same
  range_partly column test old new is (inr logs) =
      placed_log (place_in head.sections (Range column)) file _ (LogsIn file old new) is.placed (place_file file head.sections (Range column) within) logs
      (λ place own h. subst (λ f. LogsIn f old new) own (buckets_partly held place _ head.rows _ _ old new h))

  indexed_in_file : (choice : IndexChoice) (conjunct : Conjunct) (old new : Option (List Entry)) → IsReady head choice conjunct → LogsIndexed held head choice conjunct old new → LogsIn file old new
  indexed_in_file choices.Sorted (One column test) old new is logs = index_in_file kinds.Sorted column test old new is logs
  indexed_in_file choices.Inverted (One column test) old new is logs = index_in_file kinds.Inverted column test old new is logs
  indexed_in_file choices.Range (One column test) old new is logs = range_in_file column test old new is logs
  indexed_in_file choices.Unindexed (One column test) old new is logs = same_in_file file old new logs
  indexed_in_file choices.Sorted (Many wide) old new is logs = same_in_file file old new logs
  indexed_in_file choices.Inverted (Many wide) old new is logs = same_in_file file old new logs
  indexed_in_file choices.Range (Many wide) old new is logs = same_in_file file old new logs
  indexed_in_file choices.Unindexed (Many wide) old new is logs = same_in_file file old new logs

  indexed_partly : (choice : IndexChoice) (conjunct : Conjunct) (old new : Option (List Entry)) → IsReady head choice conjunct → LogsIndexedPartly held head choice conjunct old new → LogsIn file old new
  indexed_partly choices.Sorted (One column test) old new is logs = index_partly kinds.Sorted column test old new is logs
  indexed_partly choices.Inverted (One column test) old new is logs = index_partly kinds.Inverted column test old new is logs
  indexed_partly choices.Range (One column test) old new is logs = range_partly column test old new is logs
  indexed_partly choices.Unindexed (One column test) old new is logs = same_in_file file old new logs
  indexed_partly choices.Sorted (Many wide) old new is logs = same_in_file file old new logs
  indexed_partly choices.Inverted (Many wide) old new is logs = same_in_file file old new logs
  indexed_partly choices.Range (Many wide) old new is logs = same_in_file file old new logs
  indexed_partly choices.Unindexed (Many wide) old new is logs = same_in_file file old new logs

  module _ (all : List IndexChoice) (conjuncts : List Conjunct) (ready : OfEach (IsReady head) all conjuncts) where
    at_in_file : (at : ℕ) → at < length conjuncts → (old new : Option (List Entry)) → LogsAt held head all conjuncts at old new → LogsIn file old new
    at_in_file at lt old new logs = let (conjunct, is) = at_place conjuncts at lt in indexed_in_file (choice_at all at) conjunct old new (ready at conjunct is) (logs conjunct is)

    at_partly : (at : ℕ) → at < length conjuncts → (old new : Option (List Entry)) → LogsAtPartly held head all conjuncts at old new → LogsIn file old new
    at_partly at lt old new logs = let (conjunct, is) = at_place conjuncts at lt in indexed_partly (choice_at all at) conjunct old new (ready at conjunct is) (logs conjunct is)

-- ---- the ids of documents

module _ (head : Seen) (file : List ℕ) (within : AreIn file head.sections) (named : List Bool) (readable : (column : ℕ) → get_or named column false ≡ true → IsReadable head column) (runs : List Run) where
  runs_in_file : (column : ℕ) (old new : Option (List Entry)) → IsReadable head column → LogsRuns head runs column old new → LogsIn file old new
  runs_in_file column old new is logs =
      placed_log (place_in head.sections (Forward column)) file _ (LogsIn file old new) is.placed (place_file file head.sections (Forward column) within) logs
      (λ place own h. subst (λ f. LogsIn f old new) own (over_in_file place.file (map (ids_of_run (width_in head column) place.offset) runs) old new h))

  runs_partly : (column : ℕ) (old new : Option (List Entry)) → IsReadable head column → LogsRunsPartly head runs column old new → LogsIn file old new
  runs_partly column old new is (inl same) = same_in_file file old new same
  runs_partly column old new is (inr logs) =
      placed_log (place_in head.sections (Forward column)) file _ (LogsIn file old new) is.placed (place_file file head.sections (Forward column) within) logs
      (λ place own h. subst (λ f. LogsIn f old new) own (some_in_file place.file (map (ids_of_run (width_in head column) place.offset) runs) old new h))

  if_in_file : (b : Bool) (column : ℕ) → get_or named column false ≡ b → (old new : Option (List Entry)) → LogsIf head runs column b old new → LogsIn file old new
  if_in_file false column is old new logs = same_in_file file old new logs
  if_in_file true column is old new logs = runs_in_file column old new (readable column is) logs

  if_partly : (b : Bool) (column : ℕ) → get_or named column false ≡ b → (old new : Option (List Entry)) → LogsIfPartly head runs column b old new → LogsIn file old new
  if_partly false column is old new logs = same_in_file file old new logs
  if_partly true column is old new logs = runs_partly column old new (readable column is) logs

  picked_in_file : (at : ℕ) → at < length named → (old new : Option (List Entry)) → LogsPicked head runs named at old new → LogsIn file old new
  picked_in_file at lt old new logs = if_in_file (get_or named at false) at refl old new logs

  picked_partly : (at : ℕ) → at < length named → (old new : Option (List Entry)) → LogsPickedPartly head runs named at old new → LogsIn file old new
  picked_partly at lt old new logs = if_partly (get_or named at false) at refl old new logs

module _ (head : Seen) (file : List ℕ) (within : AreIn file head.sections) (named : List Bool) (readable : (column : ℕ) → get_or named column false ≡ true → IsReadable head column) (docs : List ℕ) where
  docs_in_file : (old new : Option (List Entry)) → LogsDocs head named docs old new → LogsIn file old new
  docs_in_file old new (runs, apart, are, logs, at_most) =
      series_in_file file (LogsPicked head runs named) (length named) (picked_in_file head file within named readable runs) (length named) (omega arith) old new logs

  docs_partly : (old new : Option (List Entry)) → LogsDocsPartly head named docs old new → LogsIn file old new
  docs_partly old new (inl same) = same_in_file file old new same
  docs_partly old new (inr (runs, apart, are, logs)) =
      series_partly file (LogsPicked head runs named) (LogsPickedPartly head runs named) (length named) (picked_in_file head file within named readable runs) (picked_partly head file within named readable runs) old new logs

-- ---- a scan

module _ (query : BoundQuery) (table : Table) (head : Seen) (file : List ℕ) (within : AreIn file head.sections) (held : Option Files) (of_table : IsHeadOf table head) (loaded : AreNamedLoaded query head) where
  readable : (q : BoundQuery) → AreNamedLoaded q head → (column : ℕ) → get_or (names_in q table) column false ≡ true → IsReadable head column
  readable q all column marked = loaded_readable table head column of_table (all column (mark_named q table (names_in q table) refl column marked))

  indexes_in_file : (old new : Option (List Entry)) → LogsTo (LogsAt held head (choices_for query table head) query.conjuncts) (length query.conjuncts) old new → LogsIn file old new
  indexes_in_file old new logs =
      series_in_file file (LogsAt held head (choices_for query table head) query.conjuncts) (length query.conjuncts)
      (at_in_file head file within held (choices_for query table head) query.conjuncts (ready_for query table head of_table loaded)) (length query.conjuncts) (omega arith) old new logs

  left_readable : (column : ℕ) → get_or (names_in (rest_for query table head) table) column false ≡ true → IsReadable head column
  left_readable = readable (rest_for query table head) (rest_loaded query (choices_for query table head) head loaded)

  sure_readable : (column : ℕ) → get_or (names_in (sure_for query table head) table) column false ≡ true → IsReadable head column
  sure_readable = readable (sure_for query table head) (rest_loaded query (sure_choices (choices_for query table head)) head loaded)

  parts_partly : (docs : List ℕ) (old new : Option (List Entry)) → LogsPartsPartly head (names_in (rest_for query table head) table) (names_in (sure_for query table head) table) docs old new → LogsIn file old new
  parts_partly docs old new logs = by logs.some
    where
      by : LogsDocsPartly head (names_in (rest_for query table head) table) logs.check old new
          ⊎ ((between : Option (List Entry)) × LogsDocs head (names_in (rest_for query table head) table) logs.check old between × LogsDocsPartly head (names_in (sure_for query table head) table) logs.sure between new) → LogsIn file old new
      by (inl first) = docs_partly head file within (names_in (rest_for query table head) table) left_readable logs.check old new first
      by (inr (between, first, second)) =
          logs_then (λ other. other ≡ file) old between new (docs_in_file head file within (names_in (rest_for query table head) table) left_readable logs.check old between first)
          (docs_partly head file within (names_in (sure_for query table head) table) sure_readable logs.sure between new second)

  pub scan_in_file : (count : ℕ) (old new : Option (List Entry)) → LogsScan query table held head count old new → LogsIn file old new
  scan_in_file count old new (inl (none, logs)) = logs_columns head file within (names_in query table) (readable query loaded) (length table.schema.fields) old new logs
  scan_in_file count old new (inr (docs, left, is, between, indexes, logs)) =
      logs_then (λ other. other ≡ file) old between new (indexes_in_file old between indexes)
      (logs_then (λ other. other ≡ file) between logs.between new (docs_in_file head file within (names_in (rest_for query table head) table) left_readable logs.check between logs.between logs.checked)
      (docs_in_file head file within (names_in (sure_for query table head) table) sure_readable logs.sure logs.between new logs.surely))

  pub scan_partly : (old new : Option (List Entry)) → LogsScanPartly query table held head old new → LogsIn file old new
  scan_partly old new (inl (none, logs)) = logs_some head file within (names_in query table) (readable query loaded) old new logs
  scan_partly old new (inr (inl logs)) =
      series_partly file (LogsAt held head (choices_for query table head) query.conjuncts) (LogsAtPartly held head (choices_for query table head) query.conjuncts) (length query.conjuncts)
      (at_in_file head file within held (choices_for query table head) query.conjuncts (ready_for query table head of_table loaded))
      (at_partly head file within held (choices_for query table head) query.conjuncts (ready_for query table head of_table loaded)) old new logs
  scan_partly old new (inr (inr (docs, left, between, indexes, logs))) =
      logs_then (λ other. other ≡ file) old between new (indexes_in_file old between indexes)
      (parts_partly docs between new logs)
