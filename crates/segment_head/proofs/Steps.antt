-- A head that is opened in steps has what the whole head has.
use Rattle.std.proofs.Common.{◌≡◌, ◌≢◌, ◌∙◌, ◌<◌, ◌≤◌, ◌+◌, ◌^◌, ℕ, zero, suc, List, [], ◌∷◌, length, map, get_or, set, take, drop, sum, replicate, Option, Some, None, IfSome, MatchOption, true, false, inl, inr, refl, sym, ap, subst, arith, length-take}
use Rattle.std.specs.Prelude.{option_map, slice_get}
use Rattle.std.proofs.lemmas.List.{get_or-map, get_or-replicate, get_or-take, length-map, length-set, length-append, length-replicate, take-take}
use Rattle.std.proofs.lemmas.Bool.{false≢true}
use Rattle.std.specs.Option.{is_some}
use Rattle.std.proofs.lemmas.List.FromFn.{length-range_with_len}
use Rattle.std.proofs.lemmas.List.Sums.{sum_by-cons, sum_by-take-le}
use Rattle.std.proofs.lemmas.Option.{get_or_from_slice_get, slice_get-get_or, slice_get-map, slice_get_within}
use Rattle.std.specs.Int.{w32, from_be_bytes}
use Rattle.std.specs.List.{AllZip}
use Rattle.data_types.specs.declared.kind.FieldKind.{FieldKind}
use Rattle.data_types.specs.declared.kind.FieldKind.TheVariants.{Long}
use Rattle.outside.specs.Files.{Files, bytes_at, bytes_of}
use Rattle.outside.specs.Reads.{Entry, LogsUpTo}
use Rattle.outside.specs.declared.place.Place.{Place}
use Rattle.bit_column.specs.Sections.{section}
use Rattle.outside.proofs.ReadLemmas.{LogsThrough-none}
use Rattle.value_ids.specs.Dictionary.{Distinct}
use Rattle.dictionary.specs.Spelling.{body, counted, spelling}
use Rattle.dictionary.proofs.Bytes.{length-counted}
use Rattle.dictionary.proofs.Spells.{spells_one}
use Rattle.dictionary.specs.declared.fault.DictFault.{DictFault}
use Rattle.dictionary.specs.declared.fault.DictFault.TheVariants as dict
use Rattle.segment_file.specs.declared.fault.HeadFault.{HeadFault}
use Rattle.segment_file.specs.declared.fault.HeadFault.TheVariants as fault
use Rattle.table_schema.specs.declared.table.Table.{Table}
use Rattle.segment_file.specs.declared.bounds.Ends.{Ends}
use Rattle.segment_file.specs.declared.part.Part.{Part}
use Rattle.segment_file.specs.declared.part.Part.TheVariants as parts
use Rattle.segment_file.specs.declared.section.Section.{Section}
use Rattle.segment_file.specs.Bounds.{AreBounds, bounds_of, bounded}
use Rattle.segment_file.specs.Front.{Extent, Front, bounds_end, extents_from, extents_of, front_size}
use Rattle.segment_head.specs.Calls.{FailsOpening, FailsPlace}
use Rattle.segment_head.specs.Heads.{HasCount, IsHead, IsHeadOf, IsLoaded, IsOpened, IsPartOf, IsPlaced, IsSlotOf, Loads, OfWhole, Seen, placed, with_dictionary}
use Rattle.segment_file.specs.Rules.{KeepsRules, HasFront, IsFront, IsSpelled, dictionary_in, heads_in, nodes_in, section_bytes}
use Rattle.segment_file.specs.Reading.{nodes_said, trees_said, IsFrontOf}
use Rattle.segment_file.specs.declared.trees.TreeNodes.{TreeNodes}
use Rattle.segment_file.specs.Image.{kind_at}
use Rattle.segment_file.specs.Parts.{head_sections, sections_of, trees_of}
use Rattle.segment_file.proofs.BoundReads.{bounds_once, bounds_there}
use Rattle.segment_head.proofs.Composed.{made_count}
use Rattle.segment_file.proofs.Tails.{spelled_count, spelled_length, zip_at}
use Rattle.segment_file.proofs.Counts.{head_count}
use Rattle.segment_file.proofs.Openings.{has_front, has_heads}
use Rattle.segment_file.proofs.RuleLaws.{fronts_one}

-- ---- the sections

-- a section of a file is within it
extent_within : (offset : ℕ) (ps : List Part) (sizes : List ℕ) (i : ℕ) (d : Extent) → i < length (extents_from offset ps sizes)
    → (offset ≤ (get_or (extents_from offset ps sizes) i d).offset) × ((get_or (extents_from offset ps sizes) i d).offset + (get_or (extents_from offset ps sizes) i d).size ≤ offset + sum sizes)
extent_within offset [] sizes i d lt = absurd (omega arith)
extent_within offset (p ∷ ps) [] i d lt = absurd (omega arith)
extent_within offset (p ∷ ps) (size ∷ sizes) zero d lt =
    let all : sum (size ∷ sizes) ≡ size + sum sizes = sum_by-cons (λ k. k) size sizes in
    (omega arith, omega arith)
extent_within offset (p ∷ ps) (size ∷ sizes) (suc i) d lt =
    let all : sum (size ∷ sizes) ≡ size + sum sizes = sum_by-cons (λ k. k) size sizes in
    let rest = extent_within (offset + size) ps sizes i d (omega arith) in
    (omega (arith, rest.0), omega (arith, rest.1, all))

placed_at : (file : List ℕ) (es : List Extent) (i : ℕ) (s : Section) (d : Extent) → i < length es → s ≡ get_or (map (placed file) es) i s → s ≡ placed file (get_or es i d)
placed_at file es i s d lt is = is ∙ get_or-map (placed file) es i d s lt

-- a section of a head is after the front, and before the greatest number of 64 bits
pub section_within : (table : Table) (head : Seen) (i : ℕ) (s : Section) → IsHeadOf table head → slice_get head.sections i ≡ Some s → (38 ≤ s.place.offset) × (s.place.offset + s.place.length < 2 ^ 64)
section_within table head i s of at =
    let none : Extent = record { part = parts.Head; offset = 0; size = 0 } in
    let es : List Extent = extents_of table of.name of.front in
    let lt : i < length head.sections = slice_get_within head.sections i s at in
    let below : i < length es = omega (arith, lt, ap length of.has.sections_are, length-map es (placed of.file)) in
    let e : Extent = get_or es i none in
    let is : s ≡ get_or head.sections i s = sym (get_or_from_slice_get head.sections i s s at) in
    let same : s ≡ placed of.file e = placed_at of.file es i s none below (is ∙ ap (λ xs. get_or xs i s) of.has.sections_are) in
    let both = extent_within (front_size table of.name) (sections_of table) of.front.sizes i none below in
    let offset : s.place.offset ≡ e.offset = ap (λ x. x.place.offset) same in
    let size : s.place.length ≡ e.size = ap (λ x. x.place.length) same in
    (omega (arith, both.0, offset), omega (arith, both.1, offset, size, of.small))

pub dictionary_slot : (table : Table) (head : Seen) (column : ℕ) → IsHeadOf table head → column < length table.schema.fields → column + 1 < length head.sections
dictionary_slot table head column of lt = omega (arith, lt, made_count table of.name of.file of.front (sections_of table) head.sections refl of.each of.has.sections_are)

-- ---- a dictionary in a file of which all rules hold

pub record DictionaryThere (table : Table) (rows column : ℕ) (file bytes : List ℕ) (whole : Seen) (s : Section) : Type 0 where
  pub file_is : s.place.file ≡ file
  pub within : s.place.offset + s.place.length ≤ length bytes
  pub d : Distinct
  pub at : slice_get whole.dictionaries column ≡ Some (Some d)
  pub spelled : IsSpelled (kind_at table column) rows (take s.place.length (drop s.place.offset bytes)) d

-- a section of the head of a file of which all rules hold
pub record SectionThere (table : Table) (name file bytes : List ℕ) (front : Front) (i : ℕ) (s : Section) : Type 0 where
  pub file_is : s.place.file ≡ file
  pub within : s.place.offset + s.place.length ≤ length bytes
  pub here : get_or (heads_in table name front bytes) i [] ≡ take s.place.length (drop s.place.offset bytes)

pub section_there : (table : Table) (name file bytes : List ℕ) (whole head : Seen) (i : ℕ) (s : Section) → i < length (head_sections table) → slice_get head.sections i ≡ Some s → (full : IsHead table name file bytes whole) → IsPartOf whole head → SectionThere table name file bytes full.front i s
section_there table name file bytes whole head i s early at full part =
    let lt : i < length head.sections = slice_get_within head.sections i s at in
    let is : s ≡ get_or head.sections i s = sym (get_or_from_slice_get head.sections i s s at) in
    let front : Front = full.front in
    let count : ℕ = length (head_sections table) in
    let es : List Extent = extents_of table name front in
    let none : Extent = record { part = parts.Head; offset = 0; size = 0 } in
    let sections : head.sections ≡ map (placed file) es = part.sections_same ∙ full.sections_are in
    let below : i < length es = omega (arith, lt, ap length sections, length-map es (placed file)) in
    let e : Extent = get_or es i none in
    let same : s ≡ placed file e = placed_at file es i s none below (is ∙ ap (λ xs. get_or xs i s) sections) in
    let both = extent_within (front_size table name) (sections_of table) front.sizes i none below in
    let offset : s.place.offset ≡ e.offset = ap (λ x. x.place.offset) same in
    let size : s.place.length ≡ e.size = ap (λ x. x.place.length) same in
    record {
      file_is = ap (λ x. x.place.file) same;
      within = omega (arith, both.1, offset, size, full.keeps.front_is.whole);
      here =
          get_or-map (section_bytes bytes) (take count es) i none [] (omega (arith, early, below, length-take count es))
          ∙ ap (section_bytes bytes) (get_or-take count es i none early)
          ∙ sym (λ j. take (size j) (drop (offset j) bytes));
    }

pub dictionary_there : (table : Table) (name file bytes : List ℕ) (whole head : Seen) (column : ℕ) (s : Section) → column < length table.schema.fields → slice_get head.sections (column + 1) ≡ Some s
    → IsHead table name file bytes whole → IsPartOf whole head → DictionaryThere table head.rows column file bytes whole s
dictionary_there table name file bytes whole head column s field at full part =
    let front : Front = full.front in
    let there = section_there table name file bytes whole head (column + 1) s (omega (arith, field, head_count table)) at full part in
    let nothing : Distinct = record { kind = Long; values = [] } in
    let d : Distinct = get_or full.dictionaries column nothing in
    let R : ℕ → Distinct → Type 0 = λ c x. IsSpelled (kind_at table c) front.rows (dictionary_in (heads_in table name front bytes) c) x in
    let from_zero : 0 + column ≡ column = omega arith in
    let found : R column d = subst (λ k. R k d) from_zero (zip_at R 0 (length table.schema.fields) column full.dictionaries nothing full.keeps.heads.spelled field) in
    let many : column < length full.dictionaries = omega (arith, field, spelled_length table front.rows (heads_in table name front bytes) full.dictionaries full.keeps.heads.spelled) in
    let rows_are : front.rows ≡ head.rows = sym full.rows_are ∙ sym part.rows_same in
    record {
      file_is = there.file_is;
      within = there.within;
      d = d;
      at = ap (λ xs. slice_get xs column) full.dictionaries_are ∙ slice_get-map Some full.dictionaries column ∙ ap (option_map Some) (slice_get-get_or full.dictionaries column nothing many);
      spelled = subst (λ b. IsSpelled (kind_at table column) head.rows b d) there.here (subst (λ r. IsSpelled (kind_at table column) r (dictionary_in (heads_in table name front bytes) column) d) rows_are found);
    }

module _ (table : Table) (head : Seen) (column : ℕ) (s : Section) (field : column < length table.schema.fields) (at : slice_get head.sections (column + 1) ≡ Some s) where
  there : (name file bytes : List ℕ) (whole : Seen) → IsHead table name file bytes whole → IsPartOf whole head → DictionaryThere table head.rows column file bytes whole s
  there name file bytes whole full part = dictionary_there table name file bytes whole head column s field at full part

  -- the bytes of the section are a dictionary, which is that of the whole head
  pub dictionary_whole : (held : Option Files) (bytes : List ℕ) (d : Distinct) → IfSome held (λ files. bytes ≡ bytes_at files s.place.file s.place.offset s.place.length) → IsSpelled (kind_at table column) head.rows bytes d
      → OfWhole table held head (λ whole. slice_get whole.dictionaries column ≡ Some (Some d))
  dictionary_whole None bytes d read ours = tt
  dictionary_whole (Some files) bytes d read ours = λ name file whole full part.
      let t = there name file (bytes_of (Some files) file) whole full part in
      let here : bytes ≡ take s.place.length (drop s.place.offset (bytes_of (Some files) file)) = read ∙ ap (λ f. bytes_at files f s.place.offset s.place.length) t.file_is in
      let same : t.d ≡ d = spells_one t.d d t.spelled.stands ours.stands (t.spelled.kind_is ∙ sym ours.kind_is) (sym t.spelled.spelled ∙ sym here ∙ ours.spelled) in
      t.at ∙ ap (λ x. Some (Some x)) same

  -- they are none, so there is no whole head
  pub dictionary_none : (held : Option Files) (bytes : List ℕ) → IfSome held (λ files. bytes ≡ bytes_at files s.place.file s.place.offset s.place.length) → ((d : Distinct) → ¬ IsSpelled (kind_at table column) head.rows bytes d) → OfWhole table held head (λ whole. ⊥)
  dictionary_none None bytes read none = tt
  dictionary_none (Some files) bytes read none = λ name file whole full part.
      let t = there name file (bytes_of (Some files) file) whole full part in
      let here : bytes ≡ take s.place.length (drop s.place.offset (bytes_of (Some files) file)) = read ∙ ap (λ f. bytes_at files f s.place.offset s.place.length) t.file_is in
      none t.d (subst (λ b. IsSpelled (kind_at table column) head.rows b t.d) (sym here) t.spelled)

  -- the section spells this dictionary, which is that of the whole head
  pub place_whole : (held : Option Files) (d : Distinct) → IfSome held (λ files. IsSpelled (kind_at table column) head.rows (section files s.place) d) → OfWhole table held head (λ whole. slice_get whole.dictionaries column ≡ Some (Some d))
  place_whole None d ours = tt
  place_whole (Some files) d ours = dictionary_whole (Some files) (section files s.place) d refl ours

  -- the file ends before, so there is no whole head
  pub section_cut : (held : Option Files) (count : ℕ) → count ≤ s.place.length → IfSome held (λ files. length (bytes_of (Some files) s.place.file) < s.place.offset + count) → OfWhole table held head (λ whole. ⊥)
  section_cut None count at_most short = tt
  section_cut (Some files) count at_most short = λ name file whole full part.
      let t = there name file (bytes_of (Some files) file) whole full part in
      omega (arith, at_most, short, t.within, ap (λ f. length (bytes_of (Some files) f)) t.file_is)

  -- the section is refused, so there is no whole head
  pub place_none : (held : Option Files) (p : Part) → FailsPlace (kind_at table column) head.rows column held s.place p → OfWhole table held head (λ whole. ⊥)
  place_none held p (inl cut) = section_cut held s.place.length (omega arith) cut.1
  place_none None p (inr bad) = tt
  place_none (Some files) p (inr bad) = dictionary_none (Some files) (section files s.place) refl bad.1

  -- ---- how many values there are

  four_or_more : (bytes : List ℕ) (d : Distinct) → bytes ≡ spelling d → 4 ≤ length bytes
  four_or_more bytes d e = omega (arith, ap length e, length-append (counted (length d.values)) (body d.kind d.values), length-counted (length d.values))

  pub section_few : (held : Option Files) → s.place.length < 4 → OfWhole table held head (λ whole. ⊥)
  section_few None at_most = tt
  section_few (Some files) at_most = λ name file whole full part.
      let whole_bytes : List ℕ = bytes_of (Some files) file in
      let t = there name file whole_bytes whole full part in
      omega (arith, at_most, four_or_more (take s.place.length (drop s.place.offset whole_bytes)) t.d t.spelled.spelled, length-take s.place.length (drop s.place.offset whole_bytes))

  -- the number that the first four bytes spell is that of the values, and it may be
  counted_there : (files : Files) (bytes : List ℕ) (n : ℕ) → 4 ≤ s.place.length → bytes ≡ bytes_at files s.place.file s.place.offset 4 → n ≡ from_be_bytes w32 (take 4 bytes) → (name file : List ℕ) (whole : Seen) → IsHead table name file (bytes_of (Some files) file) whole → IsPartOf whole head
      → HasCount column n whole × (n ≤ head.rows) × (0 < head.rows → 0 < n)
  counted_there files bytes n long read says name file whole full part =
      let whole_bytes : List ℕ = bytes_of (Some files) file in
      let t = there name file whole_bytes whole full part in
      let rest : List ℕ = drop s.place.offset whole_bytes in
      let d : Distinct = t.d in
      let limit = t.spelled.stands.at_most in
      let front : take 4 bytes ≡ take 4 (take s.place.length rest) =
      ap (take 4) (read ∙ ap (λ f. bytes_at files f s.place.offset 4) t.file_is) ∙ take-take 4 4 rest (omega arith) ∙ sym (take-take 4 s.place.length rest long) in
      let count : n ≡ length d.values = says ∙ ap (from_be_bytes w32) front ∙ spelled_count (take s.place.length rest) d (omega (arith, limit)) t.spelled.spelled in
      (record { d = d; at = t.at; many = count }, omega (arith, count, t.spelled.at_most), λ some. omega (arith, count, t.spelled.some some))

  pub count_whole : (held : Option Files) (bytes : List ℕ) (n : ℕ) → 4 ≤ s.place.length → IfSome held (λ files. bytes ≡ bytes_at files s.place.file s.place.offset 4) → n ≡ from_be_bytes w32 (take 4 bytes) → OfWhole table held head (HasCount column n)
  count_whole None bytes n long read says = tt
  count_whole (Some files) bytes n long read says = λ name file whole full part. (counted_there files bytes n long read says name file whole full part).0

  pub count_over : (held : Option Files) (bytes : List ℕ) (n : ℕ) → 4 ≤ s.place.length → IfSome held (λ files. bytes ≡ bytes_at files s.place.file s.place.offset 4) → n ≡ from_be_bytes w32 (take 4 bytes) → head.rows < n → OfWhole table held head (λ whole. ⊥)
  count_over None bytes n long read says over = tt
  count_over (Some files) bytes n long read says over = λ name file whole full part. omega (arith, over, (counted_there files bytes n long read says name file whole full part).1)

  pub count_none : (held : Option Files) (bytes : List ℕ) (n : ℕ) → 4 ≤ s.place.length → IfSome held (λ files. bytes ≡ bytes_at files s.place.file s.place.offset 4) → n ≡ from_be_bytes w32 (take 4 bytes) → n ≡ 0 → 0 < head.rows → OfWhole table held head (λ whole. ⊥)
  count_none None bytes n long read says zeros some = tt
  count_none (Some files) bytes n long read says zeros some = λ name file whole full part. omega (arith, zeros, (counted_there files bytes n long read says name file whole full part).2 some)

-- ---- a head without dictionaries

slots_free : {A : Type 0} (ds : List A) (n : ℕ) → n ≡ length ds → AllZip IsSlotOf (map Some ds) (replicate n None)
slots_free [] zero e = tt
slots_free [] (suc n) e = absurd (omega arith)
slots_free (d ∷ ds) zero e = absurd (omega arith)
slots_free (d ∷ ds) (suc n) e = (tt, slots_free ds n (omega arith))

pub opened_part : (table : Table) (name file bytes : List ℕ) (whole head : Seen) → IsOpened table name file bytes head → head.dictionaries ≡ replicate (length table.schema.fields) None → head.trees ≡ replicate (length table.settings.trees) None → IsHead table name file bytes whole → IsPartOf whole head
opened_part table name file bytes whole head opened free bare full =
    let front : Front = full.front in
    let first : Front → List ℕ = λ f. get_or (heads_in table name f bytes) 0 [] in
    let same : opened.front ≡ front = fronts_one table name bytes front opened.front full.keeps.front_is opened.has in
    let ours : AreBounds (bounded front.rows table.schema.fields) (first front) head.bounds = subst (λ f. AreBounds (bounded f.rows table.schema.fields) (first f) head.bounds) same opened.bounds_are in
    let spelled = full.keeps.heads.spelled in
    let theirs : AreBounds (bounded front.rows table.schema.fields) (first front) (bounds_of full.dictionaries) = bounds_there table front.rows (heads_in table name front bytes) (first front) full.dictionaries spelled full.keeps.heads.bounds in
    let said : List TreeNodes = trees_said table (heads_in table name front bytes) in
    let number : length table.settings.trees ≡ length said = sym (length-map (trees_of table) (λ t. nodes_said (nodes_in table (heads_in table name front bytes) t)) ∙ length-range_with_len 0 (length table.settings.trees)) in
    let tree_slots : AllZip IsSlotOf (map Some said) (replicate (length table.settings.trees) None) = slots_free said (length table.settings.trees) number in
    let slots : AllZip IsSlotOf (map Some full.dictionaries) (replicate (length table.schema.fields) None) = slots_free full.dictionaries (length table.schema.fields) (spelled_length table front.rows (heads_in table name front bytes) full.dictionaries spelled) in
    record {
      rows_same = opened.rows_are ∙ ap (λ f. f.rows) same ∙ sym full.rows_are;
      sections_same = opened.sections_are ∙ ap (λ f. map (placed file) (extents_of table name f)) same ∙ sym full.sections_are;
      bounds_same = bounds_once (bounded front.rows table.schema.fields) head.bounds (bounds_of full.dictionaries) ours.each theirs.each (sym ours.spelled ∙ theirs.spelled) ∙ sym full.bounds_are;
      slots = subst (λ xs. AllZip IsSlotOf xs head.dictionaries) (sym full.dictionaries_are) (subst (AllZip IsSlotOf (map Some full.dictionaries)) (sym free) slots);
      tree_slots = subst (λ xs. AllZip IsSlotOf xs head.trees) (sym full.trees_are) (subst (AllZip IsSlotOf (map Some said)) (sym bare) tree_slots);
    }

-- where a file has this front and its first section is no bounds, not all rules hold
pub bounds_break : (table : Table) (name bytes : List ℕ) (front : Front) → HasFront table name bytes front → ((bounds : List Ends) → ¬ AreBounds (bounded front.rows table.schema.fields) (get_or (heads_in table name front bytes) 0 []) bounds) → ¬ KeepsRules table name bytes
bounds_break table name bytes front has none (other, ds, keeps) =
    let same : front ≡ other = fronts_one table name bytes other front keeps.front_is has in
    let first : Front → List ℕ = λ f. get_or (heads_in table name f bytes) 0 [] in
    let gone = subst (λ f. (bounds : List Ends) → ¬ AreBounds (bounded f.rows table.schema.fields) (first f) bounds) same none in
    gone (bounds_of ds) (bounds_there table other.rows (heads_in table name other bytes) (first other) ds keeps.heads.spelled keeps.heads.bounds)

-- the same of told files
pub bounds_break_told : (table : Table) (name file bytes : List ℕ) (held : Option Files) (front : Front) → IsFrontOf table name file held bytes front
    → IfSome held (λ files. (bounds : List Ends) → ¬ AreBounds (bounded front.rows table.schema.fields) (get_or (heads_in table name front (bytes_of (Some files) file)) 0 []) bounds)
    → IfSome held (λ files. ¬ KeepsRules table name (bytes_of (Some files) file))
bounds_break_told table name file bytes None front is none = tt
bounds_break_told table name file bytes (Some files) front is none = bounds_break table name (bytes_of (Some files) file) front (has_front table name file bytes files front is) none

-- the head that was made of the front is that of told files
pub opened_told : (table : Table) (name file bytes : List ℕ) (held : Option Files) (front : Front) (head : Seen) → IsFrontOf table name file held bytes front → IsPlaced table name file front head
    → IfSome held (λ files. AreBounds (bounded front.rows table.schema.fields) (get_or (heads_in table name front (bytes_of (Some files) file)) 0 []) head.bounds)
    → IfSome held (λ files. IsOpened table name file (bytes_of (Some files) file) head)
opened_told table name file bytes None front head is has bounds = tt
opened_told table name file bytes (Some files) front head is has bounds = record {
  front = front;
  has = has_front table name file bytes files front is;
  rows_are = has.rows_are;
  sections_are = has.sections_are;
  bounds_are = bounds;
}

pub part_told : (table : Table) (name file : List ℕ) (held : Option Files) (head : Seen) → IfSome held (λ files. IsOpened table name file (bytes_of (Some files) file) head) → head.dictionaries ≡ replicate (length table.schema.fields) None → head.trees ≡ replicate (length table.settings.trees) None
    → IfSome held (λ files. (whole : Seen) → IsHead table name file (bytes_of (Some files) file) whole → IsPartOf whole head)
part_told table name file None head opened free bare = tt
part_told table name file (Some files) head opened free bare = λ whole full. opened_part table name file (bytes_of (Some files) file) whole head opened free bare full

-- where nothing was loaded, nothing is
pub none_loaded : {A : Type 0} (slots : List (Option A)) (n column : ℕ) → slots ≡ replicate n None → ¬ ((d : A) × (slice_get slots column ≡ Some (Some d)))
none_loaded {A} slots n column free (d, at) =
    let nothing : Option A = None in
    let there : slice_get (replicate n nothing) column ≡ Some (Some d) = ap (λ xs. slice_get xs column) (sym free) ∙ at in
    let lt : column < n = omega (arith, slice_get_within (replicate n nothing) column (Some d) there, length-replicate n nothing) in
    let none : nothing ≡ Some d = sym (get_or-replicate n column nothing nothing lt) ∙ get_or_from_slice_get (replicate n nothing) column (Some d) nothing there in
    absurd cc

-- ---- the bounds of a file with a front

first_size : (sizes : List ℕ) (d : ℕ) → 0 < length sizes → sum (take 1 sizes) ≡ get_or sizes 0 d
first_size [] d some = absurd (omega arith)
first_size (size ∷ sizes) d some = omega (arith, sum_by-cons (λ k. k) size [])

-- the first section has the first size, and is within the file
pub bounds_within : (table : Table) (name bytes : List ℕ) (size : ℕ) (front : Front) (first : ℕ) → IsFront table name bytes size front → first ≡ get_or front.sizes 0 0
    → (front_size table name + first ≡ bounds_end table name front) × (bounds_end table name front ≤ size) × (size < 2 ^ 64)
bounds_within table name bytes size front first is at =
    let some = has_heads table name bytes size front is in
    let e : sum (take 1 front.sizes) ≡ first = first_size front.sizes 0 (omega (arith, some)) ∙ sym at in
    (omega (arith, e), omega (arith, e, is.whole, sum_by-take-le (λ n. n) front.sizes 1), is.small)

-- a told file that has a front does not end within its bounds
pub bounds_cut : (table : Table) (name file bytes : List ℕ) (held : Option Files) (front : Front) (offset count : ℕ) (P : Files → Type 0) → IsFrontOf table name file held bytes front → offset + count ≤ bounds_end table name front
    → IfSome held (λ files. length (bytes_of (Some files) file) < offset + count) → IfSome held P
bounds_cut table name file bytes None front offset count P is within short = tt
bounds_cut table name file bytes (Some files) front offset count P is within short =
    absurd (omega (arith, short, within, is.told.0, is.front_is.whole, sum_by-take-le (λ n. n) front.sizes 1))

-- ---- what fails first

-- a told file without a front fails there
pub front_fails : (table : Table) (name file : List ℕ) (held : Option Files) (p : Part) → p ≡ parts.Head
    → IfSome held (λ files. (front : Front) → ¬ HasFront table name (bytes_of (Some files) file) front)
    → IfSome held (λ files. FailsOpening table name (bytes_of (Some files) file) p)
front_fails table name file None p is none = tt
front_fails table name file (Some files) p is none = inl (is, none)

-- one that has a front, and no bounds, fails at these
pub bounds_fail : (table : Table) (name file bytes : List ℕ) (held : Option Files) (front : Front) (p : Part) → IsFrontOf table name file held bytes front
    → IfSome held (λ files. p ≡ parts.Bounds)
    → IfSome held (λ files. (bounds : List Ends) → ¬ AreBounds (bounded front.rows table.schema.fields) (get_or (heads_in table name front (bytes_of (Some files) file)) 0 []) bounds)
    → IfSome held (λ files. FailsOpening table name (bytes_of (Some files) file) p)
bounds_fail table name file bytes None front p is own none = tt
bounds_fail table name file bytes (Some files) front p is own none =
    inr (front, own, has_front table name file bytes files front is, none)

-- what holds, holds where files are told
pub told_so : (held : Option Files) (Q : Type 0) → Q → IfSome held (λ files. Q)
told_so None Q q = tt
told_so (Some files) Q q = q

-- ---- small steps

pub spelled_there : (k k2 : FieldKind) (r r2 : ℕ) (b b2 : List ℕ) (d : Distinct) → k ≡ k2 → r ≡ r2 → b ≡ b2 → IsSpelled k r b d → IsSpelled k2 r2 b2 d
spelled_there k k2 r r2 b b2 d ek er eb is = subst (λ x. IsSpelled x r2 b2 d) ek (subst (λ x. IsSpelled k x b2 d) er (subst (λ x. IsSpelled k r x d) eb is))

-- a fault of a dictionary that is one of the file
pub bad_fault : (reason : DictFault) (result : HeadFault) (p : Part) → (reason ≡ dict.NoMemory → result ≡ fault.NoMemory) → result ≡ fault.NotASegment p → reason ≡ dict.BadDictionary
bad_fault dict.BadDictionary result p memory is = refl
bad_fault dict.NoMemory result p memory is = let e : result ≡ fault.NoMemory = memory refl in absurd cc

-- where the bytes of a section spell no dictionary
pub none_there : (held : Option Files) (kind : FieldKind) (rows : ℕ) (bytes : List ℕ) (place : Place) → IfSome held (λ files. bytes ≡ section files place) → ((d : Distinct) → ¬ IsSpelled kind rows bytes d) → IfSome held (λ files. (d : Distinct) → ¬ IsSpelled kind rows (section files place) d)
none_there None kind rows bytes place is none = tt
none_there (Some files) kind rows bytes place is none = λ d spelled. none d (subst (λ b. IsSpelled kind rows b d) (sym is) spelled)

-- nothing is read of a section
pub none_read : (o : Option Section) (count : Section → ℕ) (log : Option (List Entry)) → IfSome o (λ s. LogsUpTo s.place.file s.place.offset (s.place.offset + count s) log log)
none_read None count log = tt
none_read (Some s) count log = (s.place.offset, omega arith, LogsThrough-none s.place.file s.place.offset log)

-- ---- dictionaries and nodes that are loaded

pub slot_at : {A : Type 0} (ws xs : List (Option A)) (i : ℕ) (d : A) → AllZip IsSlotOf ws xs → slice_get xs i ≡ Some (Some d) → slice_get ws i ≡ Some (Some d)
slot_at [] [] i d all at = at
slot_at [] (x ∷ xs) i d all at = absurd all
slot_at (w ∷ ws) [] i d all at = absurd all
slot_at (w ∷ ws) (x ∷ xs) zero d all at =
    let here : x ≡ Some d = cc in
    ap Some (subst (IsSlotOf w) here all.0)
slot_at (w ∷ ws) (x ∷ xs) (suc i) d all at = slot_at ws xs i d all.1 at

slot_set : {A : Type 0} (ws xs : List (Option A)) (i : ℕ) (d : A) → AllZip IsSlotOf ws xs → slice_get ws i ≡ Some (Some d) → AllZip IsSlotOf ws (set xs i (Some d))
slot_set [] [] i d all at = tt
slot_set [] (x ∷ xs) i d all at = absurd all
slot_set (w ∷ ws) [] i d all at = absurd all
slot_set (w ∷ ws) (x ∷ xs) zero d all at = let here : w ≡ Some d = cc in (here, all.1)
slot_set (w ∷ ws) (x ∷ xs) (suc i) d all at = (all.0, slot_set ws xs i d all.1 at)

pub loaded_count : (table : Table) (head : Seen) (column n : ℕ) (d : Distinct) (held : Option Files) → slice_get head.dictionaries column ≡ Some (Some d) → n ≡ length d.values → OfWhole table held head (HasCount column n)
loaded_count table head column n d None at count = tt
loaded_count table head column n d (Some files) at count = λ name file whole full part. record { d = d; at = slot_at whole.dictionaries head.dictionaries column d part.slots at; many = count }

pub kept_part : (table : Table) (head : Seen) (column : ℕ) (d : Distinct) (held : Option Files) → OfWhole table held head (λ whole. slice_get whole.dictionaries column ≡ Some (Some d)) → OfWhole table held head (λ whole. IsPartOf whole (with_dictionary column d head))
kept_part table head column d None loaded = tt
kept_part table head column d (Some files) loaded = λ name file whole full part. record {
  rows_same = part.rows_same;
  sections_same = part.sections_same;
  bounds_same = part.bounds_same;
  slots = slot_set whole.dictionaries head.dictionaries column d part.slots (loaded name file whole full part);
  tree_slots = part.tree_slots;
}

pub same_part : (table : Table) (head : Seen) (held : Option Files) → OfWhole table held head (λ whole. IsPartOf whole head)
same_part table head None = tt
same_part table head (Some files) = λ name file whole full part. part

slice_get-set : {X : Type 0} (xs : List X) (i : ℕ) (x : X) → i < length xs → slice_get (set xs i x) i ≡ Some x
slice_get-set [] i x lt = absurd (omega arith)
slice_get-set (y ∷ ys) zero x lt = refl
slice_get-set (y ∷ ys) (suc i) x lt = slice_get-set ys i x (omega arith)

slice_get-set_other : {X : Type 0} (xs : List X) (i j : ℕ) (x : X) → j ≢ i → slice_get (set xs i x) j ≡ slice_get xs j
slice_get-set_other [] i j x other = refl
slice_get-set_other (y ∷ ys) zero zero x other = absurd (other refl)
slice_get-set_other (y ∷ ys) zero (suc j) x other = refl
slice_get-set_other (y ∷ ys) (suc i) zero x other = refl
slice_get-set_other (y ∷ ys) (suc i) (suc j) x other = slice_get-set_other ys i j x (λ e. other (ap suc e))

pub kept_loads : (head : Seen) (column : ℕ) (d : Distinct) → column < length head.dictionaries → Loads column head (with_dictionary column d head)
kept_loads head column d lt = record {
  loaded = (d, slice_get-set head.dictionaries column (Some d) lt);
  rows_same = refl;
  sections_same = refl;
  bounds_same = refl;
  trees_same = refl;
  others = λ other apart. slice_get-set_other head.dictionaries column other (Some d) apart;
}

pub same_loads : (head : Seen) (column : ℕ) (d : Distinct) → slice_get head.dictionaries column ≡ Some (Some d) → Loads column head head
same_loads head column d at = record { loaded = (d, at); rows_same = refl; sections_same = refl; bounds_same = refl; trees_same = refl; others = λ other apart. refl }

-- a dictionary that is not loaded
pub not_loaded : (head : Seen) (column : ℕ) → slice_get head.dictionaries column ≡ Some None → ¬ IsLoaded head column
not_loaded head column none (d, at) = absurd cc

-- a head in which a dictionary was loaded is one of the table as before
pub kept_head : (table : Table) (head : Seen) (column : ℕ) (d : Distinct) → IsHeadOf table head → IsHeadOf table (with_dictionary column d head)
kept_head table head column d is = record {
  name = is.name;
  file = is.file;
  front = is.front;
  at_most = is.at_most;
  each = is.each;
  small = is.small;
  has = record { rows_are = is.has.rows_are; sections_are = is.has.sections_are; slots = length-set head.dictionaries column (Some d) ∙ is.has.slots; tree_slots = is.has.tree_slots };
}

-- what an option that was looked at has to show
pub absent : {A : Type 0} (o : Option A) (P : Type 0) (Q : A → Type 0) → false ≡ is_some o → MatchOption o P Q → P
absent None P Q e known = known
absent (Some x) P Q e known = absurd (false≢true e)

pub present : {A : Type 0} (o : Option A) (P : Type 0) (Q : A → Type 0) → true ≡ is_some o → MatchOption o P Q → (x : A) × Q x
present None P Q e known = absurd (false≢true (sym e))
present (Some x) P Q e known = (x, known)
