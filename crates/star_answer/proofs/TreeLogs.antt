-- What is read of a segment's file for an answer from a star-tree.
use Rattle.std.proofs.Common.{◌≡◌, ◌+◌, ◌<◌, ◌≤◌, ℕ, true, List, [], ◌∷◌, Option, Some, None, IfSome, inl, inr, length, get_or, slice_get, refl, sym, subst, arith}
use Rattle.std.specs.List.{list_all}
use Rattle.std.specs.Option.{option_map_or}
use Rattle.std.proofs.lemmas.Bool.{ltb-true}
use Rattle.std.proofs.lemmas.Option.{get_or_from_slice_get}
use Rattle.outside.specs.Files.{Files}
use Rattle.outside.specs.Reads.{Entry, LogsUpTo}
use Rattle.outside.specs.Stretches.{LogsOver, LogsPartly, Stretch}
use Rattle.table_schema.specs.declared.query.BoundQuery.{BoundQuery}
use Rattle.table_schema.specs.declared.settings.TreeSetting.{TreeSetting}
use Rattle.table_schema.specs.declared.table.Table.{Table}
use Rattle.table_schema.specs.ValidSettings.{is_number_of}
use Rattle.table_schema.specs.ValidTable.{IsValidTable}
use Rattle.segment_file.specs.declared.part.Part.TheVariants.{Star}
use Rattle.segment_file.specs.declared.section.Section.{Section}
use Rattle.segment_head.specs.Heads.{AreIn, IsHeadOf, LogsCount, LogsCounts, LogsTree, Seen, place_in, split_of}
use Rattle.segment_file.specs.Parts.{sections_of}
use Rattle.segment_head.proofs.Composed.{made_count}
use Rattle.segment_file.proofs.TreeChecks.{valid_at}
use Rattle.star_answer.specs.Segments.{LogsAnswer, LogsAnswerPartly, LogsDocs}
use Rattle.segment_reads.specs.Logs.{LogsIn}
use Rattle.segment_head.proofs.SectionLemmas.{if_some, section_at, first_true, rest_true}
use Rattle.segment_reads.proofs.LogLemmas.{logs_none, logs_then, logs_through}
use Rattle.segment_reads.proofs.PartLogs.{over_in_file, some_in_file, place_file}

module _ (table : Table) (valid : IsValidTable table) (head : Seen) (of : IsHeadOf table head) (file : List ℕ) (within : AreIn file head.sections) where
  many : length table.schema.fields + 1 + length table.settings.trees ≤ length head.sections
  many = made_count table of.name of.file of.front (sections_of table) head.sections refl of.each of.has.sections_are

  same_in : (a b : Option (List Entry)) → b ≡ a → LogsIn file a b
  same_in a b same = subst (LogsIn file a) (sym same) (logs_none (λ other. other ≡ file) a)

  -- a section of the head was read from its start on
  section_read : (k : ℕ) (limit : Section → ℕ) (a b : Option (List Entry)) → k < length head.sections → IfSome (slice_get head.sections k) (λ s. LogsUpTo s.place.file s.place.offset (limit s) a b) → LogsIn file a b
  section_read k limit a b lt logs =
      let (s, at) = section_at head.sections k lt in
      let (to, le, through) = if_some (slice_get head.sections k) s (λ s. LogsUpTo s.place.file s.place.offset (limit s) a b) at logs in
      let here : get_or head.sections k s ≡ s = get_or_from_slice_get head.sections k s s at in
      let own : s.place.file ≡ file = subst (λ (x : Section). x.place.file ≡ file) here (within k s lt) in
      subst (λ f. LogsIn f a b) own (logs_through s.place.file s.place.offset to a b through)

  count_read : (column : ℕ) (a b : Option (List Entry)) → column < length table.schema.fields → LogsCount head column a b → LogsIn file a b
  count_read column a b lt logs = section_read (column + 1) (λ s. s.place.offset + 4) a b (omega (arith, lt, many)) logs.first

  counts_read : (columns : List ℕ) (a b : Option (List Entry)) → list_all (is_number_of table.schema.fields) columns ≡ true → LogsCounts head columns a b → LogsIn file a b
  counts_read [] a b known same = same_in a b same
  counts_read (column ∷ columns) a b known (between, first, rest) =
      let here : is_number_of table.schema.fields column ≡ true = first_true (is_number_of table.schema.fields column) (list_all (is_number_of table.schema.fields) columns) known in
      logs_then (λ other. other ≡ file) a between b (count_read column a between (ltb-true column (length table.schema.fields) here) first)
      (counts_read columns between b (rest_true (is_number_of table.schema.fields column) (list_all (is_number_of table.schema.fields) columns) known) rest)

  split_known : (t : ℕ) (o : Option TreeSetting) → slice_get table.settings.trees t ≡ o → list_all (is_number_of table.schema.fields) (option_map_or (λ tree. tree.split) o []) ≡ true
  split_known t None at = refl
  split_known t (Some tree) at = (valid_at table.schema.fields table.settings.trees t tree valid.settings.trees_valid at).split_known

  pub tree_read : (t : ℕ) (a b : Option (List Entry)) → t < length table.settings.trees → LogsTree table head t a b → LogsIn file a b
  tree_read t a b lt logs =
      logs_then (λ other. other ≡ file) a logs.between b (counts_read (split_of table t) a logs.between (split_known t (slice_get table.settings.trees t) refl) logs.counts)
      (section_read (length table.schema.fields + 1 + t) (λ s. s.place.offset + s.place.length) logs.between b (omega (arith, lt, many)) logs.nodes)

  module _ (query : BoundQuery) (held : Option Files) (t : ℕ) where
    docs_place : (Logs : List ℕ → List Stretch → Option (List Entry) → Option (List Entry) → Type 0) (a b : Option (List Entry)) (d : LogsDocs Logs query table held head t a b) → d.place.file ≡ file
    docs_place Logs a b d = if_some (place_in head.sections (Star t)) d.place (λ place. place.file ≡ file) d.place_at (place_file file head.sections (Star t) within)

    -- an answer reads the file of the head alone
    pub answer_in_file : (count : ℕ) (a b : Option (List Entry)) → t < length table.settings.trees → LogsAnswer query table held head t count a b → LogsIn file a b
    answer_in_file count a b lt l =
        logs_then (λ other. other ≡ file) a l.between b (tree_read t a l.between lt l.nodes)
        (subst (λ f. LogsIn f l.between b) (docs_place LogsOver l.between b l.documents) (over_in_file l.documents.place.file _ l.between b l.documents.reads))

    pub answer_partly : (a b : Option (List Entry)) → t < length table.settings.trees → LogsAnswerPartly query table held head t a b → LogsIn file a b
    answer_partly a b lt (inl logs) = tree_read t a b lt logs
    answer_partly a b lt (inr l) =
        logs_then (λ other. other ≡ file) a l.between b (tree_read t a l.between lt l.nodes)
        (subst (λ f. LogsIn f l.between b) (docs_place LogsPartly l.between b l.documents) (some_in_file l.documents.place.file _ l.between b l.documents.reads))
