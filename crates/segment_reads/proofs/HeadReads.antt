-- What is read of the head of an image's file gives no byte of what comes after it.
use Rattle.std.proofs.Common.{◌≡◌, ◌∙◌, ◌+◌, ◌*◌, ◌<◌, ◌≤◌, ◌++◌, [], ◌∷◌, ℕ, zero, suc, Bool, true, List, All, Option, Some, None, IfSome, inl, inr, length, map, sum, take, get_or, slice_get, refl, sym, ap, subst, arith}
use Rattle.std.specs.List.{list_all}
use Rattle.std.specs.Option.{option_map_or}
use Rattle.std.proofs.Math.ListN.{get_or-map}
use Rattle.std.proofs.lemmas.Bool.{ltb-true}
use Rattle.std.proofs.lemmas.List.{get_or_append_left, get_or-append-add, length-append, length-map}
use Rattle.std.proofs.lemmas.List.FromFn.{get_or-map-range_with_len, length-range_with_len}
use Rattle.std.proofs.lemmas.List.Sums.{sum_by-cons}
use Rattle.outside.specs.Files.{Files, bytes_of}
use Rattle.outside.specs.Reads.{Entry, LogsUpTo}
use Rattle.outside.proofs.ReadLemmas.{read_in-append}
use Rattle.values.specs.declared.value.Value.{Value}
use Rattle.table_schema.specs.declared.query.BoundQuery.{BoundQuery}
use Rattle.table_schema.specs.declared.settings.TreeSetting.{TreeSetting}
use Rattle.table_schema.specs.declared.table.Table.{Table}
use Rattle.table_schema.specs.ValidSettings.{is_number_of}
use Rattle.table_schema.specs.ValidTable.{IsValidTable}
use Rattle.segment_file.specs.declared.part.Part.{Part}
use Rattle.segment_file.specs.declared.part.Part.TheVariants as parts
use Rattle.segment_file.specs.declared.section.Section.{Section}
use Rattle.segment_file.specs.Front.{Front, extents_from, extents_of, front_size, head_end}
use Rattle.segment_head.specs.Heads.{IsWithin, LogsCount, LogsCounts, LogsTree, Seen, placed, split_of}
use Rattle.segment_file.specs.Image.{front_of, image, section_of, sections_of_rows}
use Rattle.segment_file.specs.Names.{IsSegmentName}
use Rattle.segment_file.specs.Ordered.{ordered}
use Rattle.segment_file.specs.Parts.{columns_of, head_sections, raw_sections, sections_of, tail_sections, trees_of}
use Rattle.segment_file.specs.Rules.{HasFront}
use Rattle.segment_file.specs.Trees.{nodes_of}
use Rattle.segment_file.proofs.Counts.{head_count}
use Rattle.segment_file.proofs.ImageKeeps.{image_keeps}
use Rattle.segment_file.proofs.RuleLaws.{fronts_one}
use Rattle.segment_file.proofs.TreeChecks.{valid_at}
use Rattle.segment_plan.specs.declared.plans.SegmentPlan.{SegmentPlan}
use Rattle.segment_plan.specs.declared.plans.SegmentPlan.TheVariants.{Pruned, Empty, StarTree, Scan}
use Rattle.segment_plan.specs.Planned.{plan_over}
use Rattle.star_file.specs.Reading.{doc_width}
use Rattle.segment_reads.specs.Docs.{docs_read}
use Rattle.segment_reads.specs.Logs.{EndsBy, IsHeadRead, LogsThat}
use Rattle.segment_reads.specs.Reads.{AreBytes, ReadsBy, ReadsPlanned, bytes_read, column_span, forward_span, raw_span, star_span}
use Rattle.segment_head.specs.Stored.{HasImage}
use Rattle.segment_head.specs.declared.stored.Stored.{Stored}
use Rattle.segment_head.proofs.SectionLemmas.{if_some, section_at, first_true, rest_true}
use Rattle.segment_reads.proofs.LogLemmas.{entries_none, entries_then, fewer_summed, through_ends}
use Rattle.segment_reads.proofs.PlaceLemmas.{taken_more}
use Rattle.segment_reads.proofs.SpanLemmas.{before_part}

-- ---- a head that was opened

-- where the head of the file of rows in order ends
abbrev pub ends_at : Table → Stored → List (List Value) → ℕ
ends_at table segment os = head_end table segment.name (front_of 1 table os)

pub opened_entry : (table : Table) (files : Files) (segment : Stored) (rows : List (List Value)) → IsValidTable table → IsSegmentName segment.name → HasImage table files segment rows → (entry : Entry) → IsHeadRead table (Some files) segment entry
    → EndsBy segment.file (ends_at table segment (ordered table.settings.sorted rows)) entry
opened_entry table files segment rows valid named has entry read = record { file_is = read.file_is; ends = by read.within }
  where
    front : Front
    front = front_of 1 table (ordered table.settings.sorted rows)

    by : IsWithin head_end table segment.name (bytes_of (Some files) segment.file) (entry.offset + entry.count) → entry.offset + entry.count ≤ head_end table segment.name (front_of 1 table (ordered table.settings.sorted rows))
    by (inl le) = omega (arith, le)
    by (inr (other, is, le)) =
        let own : HasFront table segment.name (image 1 table segment.name rows) other = subst (λ b. HasFront table segment.name b other) has.stored is in
        let same : other ≡ front_of 1 table (ordered table.settings.sorted rows) = fronts_one table segment.name (image 1 table segment.name rows) (front_of 1 table (ordered table.settings.sorted rows)) other (image_keeps table segment.name rows valid named has.can).front_is own in
        subst (λ f. entry.offset + entry.count ≤ head_end table segment.name f) same le

-- ---- where the sections of the head are

pub section_is : (file : List ℕ) (offset : ℕ) (ps : List Part) (sizes : List ℕ) (k : ℕ) (s : Section) → slice_get (map (placed file) (extents_from offset ps sizes)) k ≡ Some s
    → (s.place.file ≡ file) × (s.place.offset ≡ offset + sum (take k sizes)) × (s.place.offset + s.place.length ≡ offset + sum (take (k + 1) sizes))
section_is file offset [] sizes k s at = absurd cc
section_is file offset (p ∷ ps) [] k s at = absurd cc
section_is file offset (p ∷ ps) (size ∷ sizes) zero s at =
    let same : placed file (record { part = p; offset = offset; size = size }) ≡ s = cc in
    let begins : offset ≡ s.place.offset = ap (λ (x : Section). x.place.offset) same in
    let long : size ≡ s.place.length = ap (λ (x : Section). x.place.length) same in
    let one : sum (take 1 (size ∷ sizes)) ≡ size + sum (take 0 sizes) = sum_by-cons (λ n. n) size (take 0 sizes) in
    (ap (λ (x : Section). x.place.file) (sym same), omega (arith, begins), omega (arith, begins, long, one))
section_is file offset (p ∷ ps) (size ∷ sizes) (suc k) s at =
    let (own, begins, ends) = section_is file (offset + size) ps sizes k s at in
    let short : sum (take (suc k) (size ∷ sizes)) ≡ size + sum (take k sizes) = sum_by-cons (λ n. n) size (take k sizes) in
    let next : suc k + 1 ≡ suc (k + 1) = omega arith in
    let long : sum (take (suc k + 1) (size ∷ sizes)) ≡ size + sum (take (k + 1) sizes) = ap (λ m. sum (take m (size ∷ sizes))) next ∙ sum_by-cons (λ n. n) size (take (k + 1) sizes) in
    (own, omega (arith, begins, short), omega (arith, ends, long))

nodes_at : (table : Table) (t : ℕ) → t < length table.settings.trees → get_or (sections_of table) (length table.schema.fields + 1 + t) parts.Bounds ≡ parts.Nodes t
nodes_at table t lt =
    let f : ℕ = length table.schema.fields in
    let ds : List Part = map parts.Dictionary (columns_of table) in
    let ns : List Part = map parts.Nodes (trees_of table) in
    let many : length ds ≡ f = length-map (columns_of table) parts.Dictionary ∙ length-range_with_len 0 f in
    let index : f + 1 + t ≡ suc (length ds + t) = omega (arith, many) in
    let plain : 0 + t ≡ t = omega arith in
    get_or_append_left (head_sections table) (tail_sections table) parts.Bounds (f + 1 + t) (omega (arith, head_count table, lt))
    ∙ ap (λ k. get_or (head_sections table) k parts.Bounds) index
    ∙ get_or-append-add ds ns t parts.Bounds
    ∙ get_or-map-range_with_len parts.Nodes 0 (length table.settings.trees) t t parts.Bounds lt plain

module _ (table : Table) (segment : Stored) (os : List (List Value)) where
  abbrev front-of : Front
  front-of = front_of 1 table os

  pub sizes_each : length (front_of 1 table os).sizes ≡ length (sections_of table)
  sizes_each = length-map (sections_of_rows table os) length ∙ length-map (sections_of table) (section_of table os)

  nodes_size : (t : ℕ) → t < length table.settings.trees → get_or (front_of 1 table os).sizes (length table.schema.fields + 1 + t) (length (section_of table os parts.Bounds)) ≡ length (nodes_of os (slice_get table.settings.trees t))
  nodes_size t lt =
      let k : ℕ = length table.schema.fields + 1 + t in
      get_or-map length (sections_of_rows table os) k (section_of table os parts.Bounds)
      ∙ ap length (get_or-map (section_of table os) (sections_of table) k parts.Bounds)
      ∙ ap (λ p. length (section_of table os p)) (nodes_at table t lt)

  module _ (head : Seen) (spread : head.sections ≡ map (placed segment.file) (extents_of table segment.name (front_of 1 table os))) where
    -- the reads of a section of the head from its start on, up to a place within the head
    part_ends : (k size : ℕ) (a b : Option (List Entry)) → (limit : Section → ℕ) → k < length (head_sections table) → ((s : Section) → s.place.offset ≡ front_size table segment.name + sum (take k (front_of 1 table os).sizes) → s.place.offset + s.place.length ≡ front_size table segment.name + sum (take (k + 1) (front_of 1 table os).sizes) → limit s ≤ ends_at table segment os)
        → (lt : k < length head.sections) → IfSome (slice_get head.sections k) (λ s. LogsUpTo s.place.file s.place.offset (limit s) a b) → LogsThat (EndsBy segment.file (ends_at table segment os)) a b
    part_ends k size a b limit within fits lt logs =
        let (s, at) = section_at head.sections k lt in
        let (to, le, through) = if_some (slice_get head.sections k) s (λ s. LogsUpTo s.place.file s.place.offset (limit s) a b) at logs in
        let own : slice_get (map (placed segment.file) (extents_of table segment.name (front_of 1 table os))) k ≡ Some s = subst (λ l. slice_get l k ≡ Some s) spread at in
        let (file_is, begins, ends) = section_is segment.file (front_size table segment.name) (sections_of table) (front_of 1 table os).sizes k s own in
        let small = fits s begins ends in
        subst (λ f. LogsThat (EndsBy f (ends_at table segment os)) a b) file_is (through_ends s.place.file s.place.offset to (ends_at table segment os) a b (omega (arith, le, small)) through)

    module _ (enough : length table.schema.fields + 1 + length table.settings.trees ≤ length head.sections) (t : ℕ) (lt : t < length table.settings.trees) (long : 4 ≤ length (nodes_of os (slice_get table.settings.trees t))) where
      abbrev sizes : List ℕ
      sizes = (front_of 1 table os).sizes

      nodes_end : sum (take (length table.schema.fields + 1 + t) sizes) + 4 ≤ sum (take (length (head_sections table)) sizes)
      nodes_end =
          let k : ℕ = length table.schema.fields + 1 + t in
          let within : k < length sizes = omega (arith, sizes_each, head_count table, length-append (head_sections table) (tail_sections table), lt) in
          let more = taken_more table t lt sizes k in
          let size = nodes_size t lt in
          let same : get_or sizes k (length (section_of table os parts.Bounds)) ≡ get_or sizes k 0 = any_default sizes k within in
          let less = fewer_summed sizes (k + 1) (length (head_sections table)) (omega (arith, head_count table, lt)) in
          omega (arith, more, size, same, less, long)
        where
          any_default : (xs : List ℕ) (k : ℕ) → k < length xs → get_or xs k (length (section_of table os parts.Bounds)) ≡ get_or xs k 0
          any_default [] k lt = absurd (omega (arith, lt))
          any_default (x ∷ xs) zero lt = refl
          any_default (x ∷ xs) (suc k) lt = any_default xs k (omega (arith, lt))

      count_ends : (column : ℕ) (a b : Option (List Entry)) → column < length table.schema.fields → LogsCount head column a b → LogsThat (EndsBy segment.file (ends_at table segment os)) a b
      count_ends column a b known logs =
          let less = fewer_summed sizes (column + 1) (length table.schema.fields + 1 + t) (omega (arith, known)) in
          part_ends (column + 1) 4 a b (λ s. s.place.offset + 4) (omega (arith, known, head_count table)) (λ s begins ends. omega (arith, begins, less, nodes_end)) (omega (arith, known, enough)) logs.first

      counts_end : (columns : List ℕ) (a b : Option (List Entry)) → list_all (is_number_of table.schema.fields) columns ≡ true → LogsCounts head columns a b → LogsThat (EndsBy segment.file (ends_at table segment os)) a b
      counts_end [] a b known same = subst (LogsThat (EndsBy segment.file (ends_at table segment os)) a) (sym same) (entries_none (EndsBy segment.file (ends_at table segment os)) a)
      counts_end (column ∷ columns) a b known (between, first, rest) =
          entries_then (EndsBy segment.file (ends_at table segment os)) a between b
          (count_ends column a between (ltb-true column (length table.schema.fields) (first_true (is_number_of table.schema.fields column) (list_all (is_number_of table.schema.fields) columns) known)) first)
          (counts_end columns between b (rest_true (is_number_of table.schema.fields column) (list_all (is_number_of table.schema.fields) columns) known) rest)

      known_split : IsValidTable table → (o : Option TreeSetting) → slice_get table.settings.trees t ≡ o → list_all (is_number_of table.schema.fields) (option_map_or (λ tree. tree.split) o []) ≡ true
      known_split valid None at = refl
      known_split valid (Some tree) at = (valid_at table.schema.fields table.settings.trees t tree valid.settings.trees_valid at).split_known

      -- the counts and the nodes of a tree were read
      pub tree_ends : IsValidTable table → (a b : Option (List Entry)) → LogsTree table head t a b → LogsThat (EndsBy segment.file (ends_at table segment os)) a b
      tree_ends valid a b logs =
          let less = fewer_summed sizes (length table.schema.fields + 1 + t + 1) (length (head_sections table)) (omega (arith, head_count table, lt)) in
          entries_then (EndsBy segment.file (ends_at table segment os)) a logs.between b
          (counts_end (split_of table t) a logs.between (known_split valid (slice_get table.settings.trees t) refl) logs.counts)
          (part_ends (length table.schema.fields + 1 + t) 4 logs.between b (λ s. s.place.offset + s.place.length) (omega (arith, lt, head_count table)) (λ s begins ends. omega (arith, ends, less)) (omega (arith, lt, enough)) logs.nodes)

-- ---- what is read by a plan, after the head

module _ (query : BoundQuery) (table : Table) (segment : Stored) (os : List (List Value)) where
  -- reads of the head gave nothing of what is after it
  pub head_raw : (x : List Entry) → All (EndsBy segment.file (ends_at table segment os)) x → bytes_read x segment (raw_span table segment.name os) ≡ 0
  head_raw x all = before_part segment.file (ends_at table segment os) (raw_span table segment.name os).from (raw_span table segment.name os).to x (omega arith) all

  head_forward : (x : List Entry) → All (EndsBy segment.file (ends_at table segment os)) x → bytes_read x segment (forward_span table segment.name os) ≡ 0
  head_forward x all = before_part segment.file (ends_at table segment os) (forward_span table segment.name os).from (forward_span table segment.name os).to x (omega arith) all

  pub head_star : (x : List Entry) (t : ℕ) → All (EndsBy segment.file (ends_at table segment os)) x → bytes_read x segment (star_span table segment.name os t) ≡ 0
  head_star x t all =
      let less = fewer_summed (front_of 1 table os).sizes (length (head_sections table)) (length (head_sections table) + length (raw_sections table) + t) (omega arith) in
      before_part segment.file (ends_at table segment os) (star_span table segment.name os t).from (star_span table segment.name os t).to x (omega (arith, less)) all

  module _ (answered : Bool) (x y : List Entry) (all : All (EndsBy segment.file (ends_at table segment os)) x) where
    raw_after : bytes_read (x ++ y) segment (raw_span table segment.name os) ≡ bytes_read y segment (raw_span table segment.name os)
    raw_after =
        let sum = read_in-append x y segment.file (raw_span table segment.name os).from (raw_span table segment.name os).to in
        let none = head_raw x all in
        omega (arith, sum, none)

    forward_after : bytes_read (x ++ y) segment (forward_span table segment.name os) ≡ bytes_read y segment (forward_span table segment.name os)
    forward_after =
        let sum = read_in-append x y segment.file (forward_span table segment.name os).from (forward_span table segment.name os).to in
        let none = head_forward x all in
        omega (arith, sum, none)

    star_after : (t : ℕ) → bytes_read (x ++ y) segment (star_span table segment.name os t) ≡ bytes_read y segment (star_span table segment.name os t)
    star_after t =
        let sum = read_in-append x y segment.file (star_span table segment.name os t).from (star_span table segment.name os t).to in
        let none = head_star x t all in
        omega (arith, sum, none)

    after_by : (plan : SegmentPlan) → ReadsBy query table segment os answered y plan → ReadsBy query table segment os answered (x ++ y) plan
    after_by Pruned p = record { raw = raw_after ∙ p.raw; stars = λ t. star_after t ∙ p.stars t }
    after_by Empty p = record { raw = raw_after ∙ p.raw; stars = λ t. star_after t ∙ p.stars t }
    after_by (StarTree t) p = record {
      raw = raw_after ∙ p.raw;
      documents = subst (λ n. IfSome (slice_get table.settings.trees t) (λ tree. AreBytes answered n (docs_read query table os t * doc_width tree.shape))) (sym (star_after t)) p.documents;
      others = λ other ne. star_after other ∙ p.others other ne;
      bounded = p.bounded;
    }
    after_by (Scan plan) p = record {
      stars = λ t. star_after t ∙ p.stars t;
      forward = let at_most = p.forward in let same = forward_after in omega (arith, at_most, same);
      whole = λ is none column named.
          let span = column_span table segment.name os column in
          let all = p.whole is none column named in
          let sum = read_in-append x y segment.file span.from span.to in
          omega (arith, all, sum);
    }

    -- reads of the head before them change nothing
    pub planned_after : ReadsPlanned query table answered segment os y → ReadsPlanned query table answered segment os (x ++ y)
    planned_after p = after_by (plan_over query table os) p
