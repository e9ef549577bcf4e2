-- The head of a segment's file, and dictionaries that are loaded into it.
use Rattle.std.proofs.Common.{◌≡◌, ◌≢◌, ◌∙◌, ◌≤◌, ◌<◌, ◌+◌, ◌==◌, ◌⊎◌, ℕ, Bool, true, false, List, [], length, map, get_or, slice_get, slice_index_or, Option, Some, None, IfSome, refl, sym, ap, subst, arith, Result, Ok, Err}
use Rattle.std.proofs.lemmas.Bool.{eq-eqb, eqb-true, false≢true}
use Rattle.std.proofs.lemmas.Option.{get_or_from_slice_get}
use Rattle.outside.specs.Files.{EndsBefore, Files, bytes_at, bytes_of}
use Rattle.outside.specs.Reads.{Entry, LogsUpTo}
use Rattle.values.specs.declared.value.Value.{Value}
use Rattle.table_schema.specs.declared.table.Table.{Table}
use Rattle.table_schema.specs.ValidTable.{IsValidTable}
use Rattle.value_ids.specs.Dictionary.{Distinct}
use Rattle.segment_file.specs.declared.section.Section.{Section}
use Rattle.segment_file.specs.declared.part.Part.{Part}
use Rattle.segment_file.specs.declared.part.Part.TheVariants.{Dictionary, Head}
use Rattle.segment_file.specs.Bounds.{AreBounds, bounded, bounds_of}
use Rattle.segment_file.specs.Columns.{kind_at}
use Rattle.segment_file.specs.Front.{extents_of, head_end}
use Rattle.outside.specs.Seen as outside
use Rattle.segment_file.specs.declared.fault.HeadFault.{HeadFault}
use Rattle.segment_head.specs.Calls.{OpensHead}
use Rattle.segment_head.specs.Heads as heads
use Rattle.segment_head.specs.Heads.{AreIn, IsHead, IsHeadOf, IsLoaded, IsPartOf, Loads, OfWhole, Seen, dictionary_section, placed}
use Rattle.segment_file.specs.Rules.{IsSpelled, KeepsRules, heads_in}
use Rattle.segment_file.specs.Reading.{trees_said}
use Rattle.segment_file.specs.Image.{CanHold, dictionary_of, front_of, image}
use Rattle.segment_file.specs.Laws.{ImageKeeps}
use Rattle.segment_file.specs.Names.{IsSegmentName}
use Rattle.segment_file.specs.Ordered.{ordered}
use Rattle.segment_file.specs.Parts.{columns_of, sections_of}
use Rattle.segment_head.proofs.Composed.{made_count}
use Rattle.segment_reads.specs.Logs.{DictionariesEnd, EndsBy, EndsInHead, LogsThat}
use Rattle.segment_head.specs.Stored.{HasNoImage}
use Rattle.segment_head.specs.declared.stored.Stored.{Stored}
use Rattle.segment_opening.specs.Calls.{FailsColumn, HasOpeningIn, IsOpened}
use Rattle.segment_opening.specs.Opened.{Grows, IsHeadIn, IsSpreadIn}
use Rattle.segment_reads.proofs.LogLemmas.{ends_still, through_ends}
use Rattle.std.specs.Prelude.{OnOk}
use Rattle.segment_head.proofs.SectionLemmas.{if_some, section_at}

pub ok_so : {T E : Type 0} (r : Result T E) (A B : Type 0) → (A → B) → OnOk r A → OnOk r B
ok_so (Ok t) A B f h = f h
ok_so (Err e) A B f h = tt

-- ---- a head that is opened

-- the head of the image of rows, with all dictionaries
abbrev image_head : Table → List ℕ → List ℕ → List (List Value) → Seen
image_head table name file rows =
    let os : List (List Value) = ordered table.settings.sorted rows in
    let ds : List Distinct = map (dictionary_of table os) (columns_of table) in
    record { rows = (front_of 1 table os).rows; sections = map (placed file) (extents_of table name (front_of 1 table os)); bounds = bounds_of ds; dictionaries = map Some ds; trees = map Some (trees_said table (heads_in table name (front_of 1 table os) (image 1 table name rows))) }

module _ (law : ImageKeeps) (table : Table) (valid : IsValidTable table) (segment : Stored) (named : IsSegmentName segment.name) where
  image_is : (file : List ℕ) (rows : List (List Value)) → CanHold table rows → IsHead table segment.name file (image 1 table segment.name rows) (image_head table segment.name file rows)
  image_is file rows can =
      let os : List (List Value) = ordered table.settings.sorted rows in
      let ds : List Distinct = map (dictionary_of table os) (columns_of table) in
      record { front = front_of 1 table os; dictionaries = ds; keeps = law table segment.name rows valid named can; rows_are = refl; sections_are = refl; dictionaries_are = refl; bounds_are = refl; trees_are = refl }

  -- an open head is that of the image that its file is
  pub opened_image : (held : Option Files) (head : Seen) → IfSome held (λ files. (whole : Seen) → IsHead table segment.name segment.file (bytes_of (Some files) segment.file) whole → IsPartOf whole head)
      → IsHeadIn table held segment head
  opened_image None head part = tt
  opened_image (Some files) head part = λ rows has.
      let full = image_is segment.file rows has.can in
      record {
        name = segment.name;
        file = segment.file;
        whole = image_head table segment.name segment.file rows;
        named = named;
        can = has.can;
        stored = has.stored;
        is_head = full;
        part = part (image_head table segment.name segment.file rows) (subst (λ bytes. IsHead table segment.name segment.file bytes (image_head table segment.name segment.file rows)) (sym has.stored) full);
      }

  -- it says where the sections of the image are
  pub opened_spread : (held : Option Files) (head : Seen) → IfSome held (λ files. (whole : Seen) → IsHead table segment.name segment.file (bytes_of (Some files) segment.file) whole → IsPartOf whole head)
      → IsSpreadIn table held segment head
  opened_spread None head part = tt
  opened_spread (Some files) head part = λ rows has.
      let own = part (image_head table segment.name segment.file rows) (subst (λ bytes. IsHead table segment.name segment.file bytes (image_head table segment.name segment.file rows)) (sym has.stored) (image_is segment.file rows has.can)) in
      own.sections_same

  -- a file that breaks a rule is no image
  pub broken_none : (held : Option Files) → IfSome held (λ files. ¬ KeepsRules table segment.name (bytes_of (Some files) segment.file)) → IfSome held (λ files. HasNoImage table files segment)
  broken_none None breaks = tt
  broken_none (Some files) breaks = λ rows has.
      let os : List (List Value) = ordered table.settings.sorted rows in
      let keeps : KeepsRules table segment.name (image 1 table segment.name rows) = (front_of 1 table os, map (dictionary_of table os) (columns_of table), law table segment.name rows valid named has.can) in
      breaks (subst (KeepsRules table segment.name) (sym has.stored) keeps)

-- ---- a dictionary that is loaded

not_same : (a b : ℕ) → a == b ≡ false → a ≢ b
not_same a b is = λ same. false≢true (sym is ∙ eq-eqb a b same)

still_loaded : (column : ℕ) (old new : Seen) → Loads column old new → (other : ℕ) → IsLoaded old other → IsLoaded new other
still_loaded column old new loads other was = by (other == column) refl
  where
    by : (b : Bool) → other == column ≡ b → IsLoaded new other
    by true is = subst (IsLoaded new) (sym (eqb-true other column is)) loads.loaded
    by false is = (was.0, loads.others other (not_same other column is) ∙ was.1)

still_image : (table : Table) (held : Option Files) (old new : Seen) → OfWhole table held old (λ whole. IsPartOf whole new) → (segment : Stored) → IsHeadIn table held segment old → IsHeadIn table held segment new
still_image table None old new part segment was = tt
still_image table (Some files) old new part segment was = λ rows has.
    let i = was rows has in
    record {
      name = i.name;
      file = i.file;
      whole = i.whole;
      named = i.named;
      can = i.can;
      stored = i.stored;
      is_head = i.is_head;
      part = part i.name i.file i.whole (subst (λ bytes. IsHead table i.name i.file bytes i.whole) (sym i.stored) i.is_head) i.part;
    }

pub grows_one : (table : Table) (held : Option Files) (column : ℕ) (old new : Seen) → IsHeadOf table new → Loads column old new → OfWhole table held old (λ whole. IsPartOf whole new) → Grows table held old new
grows_one table held column old new of loads part = record {
  of_table = of;
  rows_same = loads.rows_same;
  sections_same = loads.sections_same;
  bounds_same = loads.bounds_same;
  loaded = still_loaded column old new loads;
  image = still_image table held old new part;
}

pub grows_none : (table : Table) (held : Option Files) (head : Seen) → IsHeadOf table head → Grows table held head head
grows_none table held head of = record { of_table = of; rows_same = refl; sections_same = refl; bounds_same = refl; loaded = λ column is. is; image = λ segment is. is }

pub grows_then : (table : Table) (held : Option Files) (a b c : Seen) → Grows table held a b → Grows table held b c → Grows table held a c
grows_then table held a b c m n = record {
  of_table = n.of_table;
  rows_same = n.rows_same ∙ m.rows_same;
  sections_same = n.sections_same ∙ m.sections_same;
  bounds_same = n.bounds_same ∙ m.bounds_same;
  loaded = λ column is. n.loaded column (m.loaded column is);
  image = λ segment is. n.image segment (m.image segment is);
}

-- the head of a segment stays that of its image, while the shelf tells the same files
pub image_later : (table : Table) (segment : Stored) (first then last : Option Files) (old new : Seen) → then ≡ first → last ≡ then → Grows table then old new → IsHeadIn table first segment old → IsHeadIn table last segment new
image_later table segment first then last old new is_then is_last grows was =
    subst (λ held. IsHeadIn table held segment new) (sym is_last) (grows.image segment (subst (λ held. IsHeadIn table held segment old) (sym is_then) was))

-- the same by what the shelf told at first
pub image_grown : (table : Table) (segment : Stored) (first then : Option Files) (old new : Seen) → then ≡ first → Grows table then old new → IsHeadIn table first segment old → IsHeadIn table first segment new
image_grown table segment first then old new is_then grows was =
    subst (λ held. IsHeadIn table held segment new) is_then (grows.image segment (subst (λ held. IsHeadIn table held segment old) (sym is_then) was))

-- a dictionary that is none is not that of an image
pub unread_none : (table : Table) (held : Option Files) (head : Seen) → OfWhole table held head (λ whole. ⊥) → (segment : Stored) → IsHeadIn table held segment head → IfSome held (λ files. HasNoImage table files segment)
unread_none table None head none segment was = tt
unread_none table (Some files) head none segment was = λ rows has.
    let i = was rows has in
    none i.name i.file i.whole (subst (λ bytes. IsHead table i.name i.file bytes i.whole) (sym i.stored) i.is_head) i.part

-- ---- what is read of it

pub dictionary_log : (table : Table) (head : Seen) (column : ℕ) (file : List ℕ) (end : ℕ) (old new : Option (List Entry)) → IsHeadOf table head → column < length table.schema.fields → AreIn file head.sections → DictionariesEnd table head end
    → IfSome (dictionary_section head column) (λ s. LogsUpTo s.place.file s.place.offset (s.place.offset + s.place.length) old new) → LogsThat (EndsBy file end) old new
dictionary_log table head column file end old new of lt within ends logs =
    let at_most : column + 1 < length head.sections = omega (arith, lt, made_count table of.name of.file of.front (sections_of table) head.sections refl of.each of.has.sections_are) in
    let (s, at) = section_at head.sections (column + 1) at_most in
    let (to, le, through) = if_some (dictionary_section head column) s (λ s. LogsUpTo s.place.file s.place.offset (s.place.offset + s.place.length) old new) at logs in
    let before : s.place.offset + s.place.length ≤ end = if_some (dictionary_section head column) s (λ s. s.place.offset + s.place.length ≤ end) at (ends column lt) in
    let here : get_or head.sections (column + 1) s ≡ s = get_or_from_slice_get head.sections (column + 1) s s at in
    let own : s.place.file ≡ file = subst (λ (x : Section). x.place.file ≡ file) here (within (column + 1) s at_most) in
    subst (λ f. LogsThat (EndsBy f end) old new) own (through_ends s.place.file s.place.offset to end old new (omega (arith, le, before)) through)

-- ---- one column after the other

-- those before a column, and this one
pub loaded_more : (names : ℕ → Bool) (old new : Seen) (n : ℕ) → ((k : ℕ) → IsLoaded old k → IsLoaded new k) → ((k : ℕ) → k < n → names k ≡ true → IsLoaded old k) → (names n ≡ true → IsLoaded new n)
    → (k : ℕ) → k < n + 1 → names k ≡ true → IsLoaded new k
loaded_more names old new n unchanged before now k lt named = by (k == n) refl
  where
    by : (b : Bool) → k == n ≡ b → IsLoaded new k
    by true is =
        let same : k ≡ n = eqb-true k n is in
        subst (IsLoaded new) (sym same) (now (ap names (sym same) ∙ named))
    by false is = let other = not_same k n is in unchanged k (before k (omega (arith, lt, other)) named)

-- a head that was opened is that of a file with a front and bounds
pub has_opening : (table : Table) (segment : Stored) (held : Option Files) (head : Seen)
    → IfSome held (λ files. heads.IsOpened table segment.name segment.file (bytes_of (Some files) segment.file) head) → HasOpeningIn table held segment
has_opening table segment None head opened = tt
has_opening table segment (Some files) head opened = (opened.front, head.bounds, opened.has, opened.bounds_are)

-- a head is opened by a name and a file that are those of a segment
pub opens_as : (table : Table) (segment : Stored) (name file : List ℕ) (a b : outside.Seen) (result : Result Seen HeadFault) → name ≡ segment.name → file ≡ segment.file
    → OpensHead table name file a b result → OpensHead table segment.name segment.file a b result
opens_as table segment name file a b result is_name is_file opens =
    subst (λ f. OpensHead table segment.name f a b result) is_file (subst (λ n. OpensHead table n file a b result) is_name opens)

-- ---- an open head, where more of it is loaded

ends_later : (table : Table) (held : Option Files) (segment : Stored) (old new : Seen) → new.sections ≡ old.sections → IfSome held (λ files. EndsInHead table files segment old) → IfSome held (λ files. EndsInHead table files segment new)
ends_later table None segment old new same ends = tt
ends_later table (Some files) segment old new same ends = record { front = ends.front; has = ends.has; end = ends_still table old new (head_end table segment.name ends.front) same ends.end }

pub spread_later : (table : Table) (held : Option Files) (segment : Stored) (old new : Seen) → new.sections ≡ old.sections → IsSpreadIn table held segment old → IsSpreadIn table held segment new
spread_later table None segment old new same spread = tt
spread_later table (Some files) segment old new same spread = λ rows has. same ∙ spread rows has

said_later : (table : Table) (held : Option Files) (segment : Stored) (old new : Seen) → Grows table held old new → IfSome held (λ files. heads.IsOpened table segment.name segment.file (bytes_of (Some files) segment.file) old)
    → IfSome held (λ files. heads.IsOpened table segment.name segment.file (bytes_of (Some files) segment.file) new)
said_later table None segment old new grows said = tt
said_later table (Some files) segment old new grows said = record {
  front = said.front;
  has = said.has;
  rows_are = grows.rows_same ∙ said.rows_are;
  sections_are = grows.sections_same ∙ said.sections_are;
  bounds_are = subst (AreBounds (bounded said.front.rows table.schema.fields) (slice_index_or (heads_in table segment.name said.front (bytes_of (Some files) segment.file)) 0 [])) (sym grows.bounds_same) said.bounds_are;
}

-- it is still that of the segment's file
pub opened_later : (table : Table) (held : Option Files) (segment : Stored) (old new : Seen) → Grows table held old new → IsOpened table held segment old → IsOpened table held segment new
opened_later table held segment old new grows o = record {
  of = grows.of_table;
  placed = subst (AreIn segment.file) (sym grows.sections_same) o.placed;
  image = grows.image segment o.image;
  ends = ends_later table held segment old new grows.sections_same o.ends;
  spread = spread_later table held segment old new grows.sections_same o.spread;
  opening = o.opening;
  said = said_later table held segment old new grows o.said;
}

-- a dictionary that is not loaded later would not have been before
pub fails_before : (table : Table) (held : Option Files) (old new : Seen) (part : Part) → new.rows ≡ old.rows → new.sections ≡ old.sections → FailsColumn table held new part → FailsColumn table held old part
fails_before table held old new part rows sections (column, lt, f) = (
  column,
  lt,
  record {
    own = f.own;
    at = subst (λ l. slice_get l (column + 1) ≡ Some f.own) sections f.at;
    fails = subst (λ n. ((part ≡ Head) × EndsBefore held f.own.place.file (f.own.place.offset + f.own.place.length)) ⊎ ((part ≡ Dictionary column) × IfSome held (λ files. (d : Distinct) → ¬ IsSpelled (kind_at table column) n (bytes_at files f.own.place.file f.own.place.offset f.own.place.length) d))) rows f.fails;
  },
)
