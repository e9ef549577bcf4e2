-- The head of a file that is told, and what a head of some file has.
use Rattle.std.proofs.Common.{◌≡◌, ℕ, List, [], ◌∷◌, Bool, true, false, cond, take, Option, Some, None, IfSome, ◌<◌, ◌≤◌, ◌∙◌, length, get_or, slice_get, ap, arith, refl, subst, sym}
use Rattle.std.specs.Option.{IsSome}
use Rattle.std.specs.Prelude.{option_map}
use Rattle.std.specs.List.{find}
use Rattle.std.proofs.lemmas.List.Elements.{All-head, All-map, All-tail}
use Rattle.outside.specs.Reads.{Entry, LogsOn}
use Rattle.outside.specs.declared.place.Place.{Place}
use Rattle.outside.proofs.ReadLemmas.{LogsOn-through}
use Rattle.segment_build.specs.FileReads.{LogsFile, file_through}
use Rattle.std.proofs.lemmas.Option.{same_Some, slice_get-get_or}
use Rattle.table_schema.specs.declared.field.Field.{Field}
use Rattle.table_schema.specs.ValidTable.{most_rows}
use Rattle.value_ids.specs.Dictionary.{Distinct}
use Rattle.outside.specs.Files.{Files, bytes_of}
use Rattle.table_schema.specs.declared.table.Table.{Table}
use Rattle.segment_file.specs.Front.{Front, extents_of, front_size, head_end}
use Rattle.segment_file.specs.declared.section.Section.{Section}
use Rattle.segment_file.specs.declared.part.Part.{Part}
use Rattle.segment_file.specs.declared.part.Part.TheVariants as parts
use Rattle.segment_file.specs.Columns.{kind_at, kind_or}
use Rattle.segment_file.specs.Parts.{is_same, sections_of}
use Rattle.segment_file.specs.Reading.{IsFrontOf}
use Rattle.segment_file.specs.Rules.{FailsAt, HasFront}
use Rattle.segment_file.proofs.Openings.{has_front}
use Rattle.segment_file.proofs.Forwards.{has_forward}
use Rattle.segment_head.specs.Heads.{AreIn, IsHead, IsPlaced, Seen, place_in, placed}
use Rattle.segment_head.proofs.SectionBytes.{some_place}
use Rattle.segment_check.specs.Calls.{OfBytes}
use Rattle.segment_check.specs.Reading.{IsFileHead}
use Rattle.segment_check.specs.declared.head.FileHead.{FileHead}
use Rattle.segment_check.proofs.RowLemmas.{OwnDictionary, dictionary_of_head, own_dictionary}

pub told_file : (table : Table) (name file bytes cut : List ℕ) (held : Option Files) (front : Front) (read : FileHead) → IsFrontOf table name file held bytes front → read.front ≡ front → read.parts.items ≡ sections_of table
    → IfSome held (λ files. cut ≡ take (head_end table name front) (bytes_of (Some files) file)) → ((whole : List ℕ) → HasFront table name whole front → cut ≡ take (head_end table name front) whole → IsHead table name file whole read.head)
    → OfBytes held file (λ whole. IsFileHead table name file whole read)
told_file table name file bytes cut None front read is same parts cut_is each = tt
told_file table name file bytes cut (Some files) front read is same parts cut_is each =
    let has = has_front table name file bytes files front is in
    record {
      parts_are = parts;
      front_is = subst (λ f. HasFront table name (bytes_of (Some files) file) f) (sym same) has;
      head_is = each (bytes_of (Some files) file) has cut_is;
    }

-- where no file is told, whatever is said of one holds
pub untold : (P : Files → Type 0) (held : Option Files) → held ≡ None → IfSome held P
untold P None is = tt
untold P (Some files) is = absurd cc

-- a file without a front fails at the head
pub head_fails : (table : Table) (name file : List ℕ) (held : Option Files) (p : Part) → p ≡ parts.Head → IfSome held (λ files. (front : Front) → ¬ HasFront table name (bytes_of (Some files) file) front) → OfBytes held file (λ bytes. FailsAt table name bytes p)
head_fails table name file None p is none = tt
head_fails table name file (Some files) p is none = subst (FailsAt table name (bytes_of (Some files) file)) (sym is) none

-- what holds of each file with this front and these bytes of its head holds of the told one
pub told_head : (P : List ℕ → Type 0) (table : Table) (name file bytes cut : List ℕ) (held : Option Files) (front : Front) → IsFrontOf table name file held bytes front → IfSome held (λ files. cut ≡ take (head_end table name front) (bytes_of (Some files) file))
    → ((whole : List ℕ) → HasFront table name whole front → cut ≡ take (head_end table name front) whole → P whole) → OfBytes held file P
told_head P table name file bytes cut None front is cut_is each = tt
told_head P table name file bytes cut (Some files) front is cut_is each = each (bytes_of (Some files) file) (has_front table name file bytes files front is) cut_is

pub few_rows : (table : Table) (rows : ℕ) → rows ≤ most_rows (length table.schema.fields) → rows ≤ 1048576
few_rows table rows at_most = grind arith

-- ---- what a head has

-- the place of the forward index of a column
pub forward_placed : (table : Table) (name file bytes : List ℕ) (head : Seen) (c : ℕ) → IsHead table name file bytes head → c < length table.schema.fields → IsSome (place_in head.sections (parts.Forward c))
forward_placed table name file bytes head c is lt =
    subst (λ sections. IsSome (place_in sections (parts.Forward c))) (sym is.sections_are)
    (some_place file (parts.Forward c) (front_size table name) (sections_of table) is.front.sizes is.keeps.front_is.each (has_forward table c lt))

-- each section is in the file
pub sections_in : (table : Table) (name file : List ℕ) (front : Front) (head : Seen) → IsPlaced table name file front head → AreIn file head.sections
sections_in table name file front head is =
    subst (AreIn file) (sym is.sections_are) (All-map (λ (s : Section). s.place.file ≡ file) (placed file) (extents_of table name front) (λ k d lt. refl))

-- so is the place of one of them
pub placed_in : (file : List ℕ) (sections : List Section) (p : Part) → AreIn file sections → (place : Place) → place_in sections p ≡ Some place → place.file ≡ file
placed_in file [] p within place is = absurd cc
placed_in file (s ∷ ss) p within place is =
    let P : Section → Type 0 = λ x. x.place.file ≡ file in
    by (All-head P s ss within) (placed_in file ss p (All-tail P s ss within) place) (is_same s.part p) is
  where
    by : s.place.file ≡ file → (place_in ss p ≡ Some place → place.file ≡ file) → (b : Bool) → option_map (λ x. x.place) (cond b (Some s) (find (λ x. is_same x.part p) ss)) ≡ Some place → place.file ≡ file
    by here later true is = let same : s.place ≡ place = cc in ap (λ (x : Place). x.file) (sym same) ∙ here
    by here later false is = later is

-- reads of a range of ids are reads of their file
pub range_read : (file : List ℕ) (from to : ℕ) (old new : Option (List Entry)) → LogsOn file from to old new → LogsFile file old new
range_read file from to old new on = file_through file from to old new (LogsOn-through file from to old new on)

-- a dictionary of the kind of its field
pub column_kind : (table : Table) (name file bytes : List ℕ) (head : Seen) (c : ℕ) (fields : List Field) (field : Field) (d : Distinct) → IsHead table name file bytes head → fields ≡ table.schema.fields → c < length table.schema.fields
    → slice_get head.dictionaries c ≡ Some (Some d) → d.kind ≡ (get_or fields c field).kind
column_kind table name file bytes head c fields field d is same lt loaded =
    let own : Distinct = dictionary_of_head table name file bytes head is c in
    let has : OwnDictionary table head c own = own_dictionary table name file bytes head c is lt in
    let one : d ≡ own = same_Some d own (same_Some (Some d) (Some own) (sym loaded ∙ has.at)) in
    ap (λ (x : Distinct). x.kind) one ∙ has.kind_is ∙ ap kind_or (slice_get-get_or table.schema.fields c field lt) ∙ ap (λ (fs : List Field). (get_or fs c field).kind) (sym same)
