-- A file that has the bytes of an image from the first on is that image.
use Rattle.std.proofs.Common.{◌≡◌, ◌≢◌, ◌∙◌, ◌<◌, ◌≤◌, ◌+◌, ◌&&◌, ◌^◌, ℕ, Bool, true, false, cond, All, List, [], ◌∷◌, ◌++◌, length, map, take, drop, sum, get_or, slice_get, Option, Some, None, IfSome, nat_le, nat_lt, leb-true, Result, Ok, Err, refl, sym, ap, subst, arith, inl, inr, ◌⊎◌}
use Rattle.std.specs.List.{find, range_with_len}
use Rattle.std.specs.Option.{option_map_or}
use Rattle.std.proofs.lemmas.Bool.{le-ltb}
use Rattle.std.proofs.lemmas.List.{take-take, take_all}
use Rattle.outside.specs.Files.{Files, bytes_of}
use Rattle.values.specs.declared.value.Value.{Value}
use Rattle.values.specs.Columns.{Counts, ListedColumns, rows_of}
use Rattle.table_schema.specs.declared.table.Table.{Table}
use Rattle.table_schema.specs.ValidTable.{IsValidTable}
use Rattle.value_ids.specs.Dictionary.{Distinct}
use Rattle.segment_file.specs.declared.part.Part.{Part}
use Rattle.segment_file.specs.declared.part.Part.TheVariants as parts
use Rattle.segment_file.specs.Front.{Extent, Front, extents_from, extents_of, file_end, front_bytes, front_size}
use Rattle.segment_file.specs.Image.{CanHold, dictionary_of, front_of, image}
use Rattle.segment_file.specs.Names.{IsSegmentName}
use Rattle.segment_file.specs.Ordered.{ordered}
use Rattle.segment_file.specs.Parts.{columns_of}
use Rattle.segment_file.specs.Rules.{FailsAt, HasFront, KeepsAll}
use Rattle.segment_file.specs.Spelled.{HasIds, SpellsRows, rows_said}
use Rattle.segment_file.proofs.Fronts.{is_said, said}
use Rattle.segment_file.proofs.ImageKeeps.{image_keeps}
use Rattle.segment_file.proofs.ImageSizes.{columns_all}
use Rattle.segment_file.proofs.ImageSpells.{image_spells}
use Rattle.segment_file.proofs.Loops.{extents_next}
use Rattle.segment_file.proofs.RuleLaws.{fails_not_all, fronts_one, spelled_one}
use Rattle.outside.specs.Seen.{Seen}
use Rattle.segment_build.specs.declared.fault.CompareFault.TheVariants.{Differs}
use Rattle.segment_build.specs.Compared.{Compared, Compares, DifferAt}
use Rattle.segment_build.specs.Growing.{IsTooLarge, TreesFit}
use Rattle.segment_check.specs.Calls.{OfBytes}
use Rattle.segment_check.specs.Checked.{FailsBytes, FailsIds, FailsImageAt, FailsTree, IsImageOf, IsNoImage, Spells, SpellsNone, has_byte, part_at}
use Rattle.segment_check.specs.Reading.{AreColumns, AreOfFields, FailsColumn, HasIdsOf, IsFileHead, IsUnlike}
use Rattle.segment_check.specs.declared.head.FileHead.{FileHead}
use Rattle.segment_check.proofs.RowLemmas.{ids-back, ids-there, keeps, no_distinct, own-at, rows-there}

-- ---- the section of a byte

both_hold : (a b : Bool) → a ≡ true → b ≡ true → (a && b) ≡ true
both_hold a b p q = (λ i. p i && q i)

-- a byte of the first section
pub part_here : (extent : Extent) (extents : List Extent) (at : ℕ) → has_byte at extent ≡ true → part_at (extent ∷ extents) at ≡ extent.part
part_here extent extents at has = ap (λ b. option_map_or (λ e. e.part) (cond b (Some extent) (find (has_byte at) extents)) parts.Head) has

-- a byte of none but a later one
pub part_later : (extent : Extent) (extents : List Extent) (at : ℕ) → has_byte at extent ≡ false → part_at (extent ∷ extents) at ≡ part_at extents at
part_later extent extents at has = ap (λ b. option_map_or (λ e. e.part) (cond b (Some extent) (find (has_byte at) extents)) parts.Head) has

-- ---- the whole file

pub whole_image : (table : Table) (name bytes : List ℕ) (front : Front) (rows : List (List Value)) → IsValidTable table → IsSegmentName name → CanHold table rows → HasFront table name bytes front
    → take (length (image 1 table name rows)) bytes ≡ image 1 table name rows → bytes ≡ image 1 table name rows
whole_image table name bytes front rows valid named can has same =
    let I : List ℕ = image 1 table name rows in
    let F : Front = front_of 1 table (ordered table.settings.sorted rows) in
    let own : HasFront table name I F = (image_keeps table name rows valid named can).front_is in
    let start : ℕ = front_size table name in
    let within : start ≤ length I = omega (arith, own.whole) in
    let fronts : take start bytes ≡ take start I = sym (take-take start (length I) bytes within) ∙ ap (take start) same in
    let one : front ≡ F = is_said table name (take start bytes) (length bytes) front has ∙ ap (said table name) fronts ∙ sym (is_said table name (take start I) (length I) F own) in
    let long : length bytes ≡ length I = has.whole ∙ ap (λ (f : Front). file_end table name f) one ∙ sym own.whole in
    let at_most : length bytes ≤ length I = omega (arith, long) in
    sym (take_all (length I) bytes at_most) ∙ same

-- ---- what follows where a file is told

module _ (table : Table) (name file : List ℕ) (files : Files) (read : FileHead) (valid : IsValidTable table) (named : IsSegmentName name) (is : IsFileHead table name file (bytes_of (Some files) file) read) where
  abbrev B : List ℕ
  B = bytes_of (Some files) file

  abbrev ds : List Distinct
  ds = is.head_is.dictionaries

  told-column : (column : ℕ) → FailsColumn table (Some files) read.head column → FailsIds table name B column
  told-column column fails = record {
    front = read.front;
    dictionaries = ds;
    keeps = keeps table name file files read is;
    field = fails.field;
    before = columns_all (HasIds table name B read.front ds) 0 column column (omega arith)
        (λ c lt.
        let within : c < length table.schema.fields = omega (arith, lt, fails.field) in
        ids-there table name file files read is c within (fails.before c (get_or ds c no_distinct) lt (own-at table name file files read is c within)));
    none = λ has. fails.none (get_or ds column no_distinct) (own-at table name file files read is column fails.field) (ids-back table name file files read is column fails.field has);
  }

  module _ (t : ListedColumns) (counts : All (Counts t.count) t.columns) (count : t.count ≡ read.head.rows) (columns : AreColumns (Some files) read.head (length table.schema.fields) t.columns) (fields : AreOfFields table t) where
    spells : SpellsRows table name B read.front (rows_of t)
    spells = record {
      dictionaries = ds;
      keeps = keeps table name file files read is;
      ids = columns_all (HasIds table name B read.front ds) 0 (length table.schema.fields) (length table.schema.fields) (omega arith)
          (λ c lt. ids-there table name file files read is c lt (columns.each c (get_or ds c no_distinct) lt (own-at table name file files read is c lt)).told.0);
      rows_are = rows-there table name file files read is t counts count columns;
    }

    told-unlike : (p : Part) → IsUnlike table name file (Some files) read.front (rows_of t) p → IsNoImage table name B p
    told-unlike p unlike = elim unlike as (λ u. IsNoImage table name B p) [
      | inl tree ↦ inr (inr (inl (tree.0, tree.1, record { front = read.front; rows = rows_of t; spells = spells; too_large = tree.2 })))
      | inr bytes ↦ inr (inr (inr (record { front = read.front; rows = rows_of t; spells = spells; fits = bytes.0; at = bytes.1.0; differ = bytes.1.1; part_is = bytes.1.2 })))
    ]

    told-image : TreesFit table (rows_of t) → take (length (image 1 table name (rows_of t))) B ≡ image 1 table name (rows_of t) → IsImageOf table name B (rows_of t)
    unfolding spells
    told-image fits same =
        let rows : List (List Value) = rows_of t in
        let I : List ℕ = image 1 table name rows in
        let can : CanHold table rows = record { fit = fields.rows; unicode = fields.unicode; trees = fits } in
        let whole : B ≡ I = whole_image table name B read.front rows valid named can is.front_is same in
        let kept : KeepsAll table name I read.front ds = subst (λ b. KeepsAll table name b read.front ds) whole spells.keeps in
        record {
          can = can;
          in_order = sym (spells.rows_are ∙ ap (λ b. rows_said table name b read.front ds) whole ∙ (image_spells table name rows read.front ds valid named can kept).1);
          image_is = whole;
        }

-- the same, whether files are told or not
pub column_refused : (table : Table) (name file : List ℕ) (held : Option Files) (read : FileHead) (column : ℕ) (p : Part) → IsValidTable table → IsSegmentName name
    → OfBytes held file (λ bytes. IsFileHead table name file bytes read) → p ≡ parts.Forward column → FailsColumn table held read.head column → OfBytes held file (λ bytes. IsNoImage table name bytes p)
column_refused table name file None read column p valid named is at fails = tt
column_refused table name file (Some files) read column p valid named is at fails = inr (inl (column, at, told-column table name file files read valid named is column fails))

pub rule_refused : (table : Table) (name file : List ℕ) (held : Option Files) (p : Part) → OfBytes held file (λ bytes. FailsAt table name bytes p) → OfBytes held file (λ bytes. IsNoImage table name bytes p)
rule_refused table name file None p fails = tt
rule_refused table name file (Some files) p fails = inl fails

pub unlike_refused : (table : Table) (name file : List ℕ) (held : Option Files) (read : FileHead) (t : ListedColumns) (p : Part) → IsValidTable table → IsSegmentName name
    → OfBytes held file (λ bytes. IsFileHead table name file bytes read) → All (Counts t.count) t.columns → t.count ≡ read.head.rows → AreColumns held read.head (length table.schema.fields) t.columns → AreOfFields table t
    → IsUnlike table name file held read.front (rows_of t) p → OfBytes held file (λ bytes. IsNoImage table name bytes p)
unlike_refused table name file None read t p valid named is counts count columns fields unlike = tt
unlike_refused table name file (Some files) read t p valid named is counts count columns fields unlike = told-unlike table name file files read valid named is t counts count columns fields p unlike

pub image_found : (table : Table) (name file : List ℕ) (held : Option Files) (read : FileHead) (t : ListedColumns) → IsValidTable table → IsSegmentName name
    → OfBytes held file (λ bytes. IsFileHead table name file bytes read) → All (Counts t.count) t.columns → t.count ≡ read.head.rows → AreColumns held read.head (length table.schema.fields) t.columns → AreOfFields table t
    → TreesFit table (rows_of t) → OfBytes held file (λ bytes. take (length (image 1 table name (rows_of t))) bytes ≡ image 1 table name (rows_of t)) → OfBytes held file (λ bytes. IsImageOf table name bytes (rows_of t))
image_found table name file None read t valid named is counts count columns fields fits same = tt
image_found table name file (Some files) read t valid named is counts count columns fields fits same = told-image table name file files read valid named is t counts count columns fields fits same

-- what is not spelled, and what is
pub ids_unspelled : (table : Table) (name file : List ℕ) (held : Option Files) (read : FileHead) (column : ℕ) (p : Part) → IsValidTable table → IsSegmentName name
    → OfBytes held file (λ bytes. IsFileHead table name file bytes read) → p ≡ parts.Forward column → FailsColumn table held read.head column → OfBytes held file (λ bytes. SpellsNone table name bytes p)
ids_unspelled table name file None read column p valid named is at fails = tt
ids_unspelled table name file (Some files) read column p valid named is at fails = inr (column, at, told-column table name file files read valid named is column fails)

pub rule_unspelled : (table : Table) (name file : List ℕ) (held : Option Files) (p : Part) → OfBytes held file (λ bytes. FailsAt table name bytes p) → OfBytes held file (λ bytes. SpellsNone table name bytes p)
rule_unspelled table name file None p fails = tt
rule_unspelled table name file (Some files) p fails = inl fails

pub rows_spelled : (table : Table) (name file : List ℕ) (held : Option Files) (read : FileHead) (t : ListedColumns) → IsValidTable table → IsSegmentName name
    → OfBytes held file (λ bytes. IsFileHead table name file bytes read) → All (Counts t.count) t.columns → t.count ≡ read.head.rows → AreColumns held read.head (length table.schema.fields) t.columns → AreOfFields table t
    → OfBytes held file (λ bytes. Spells table name bytes (rows_of t))
rows_spelled table name file None read t valid named is counts count columns fields = tt
rows_spelled table name file (Some files) read t valid named is counts count columns fields = (read.front, spells table name file files read valid named is t counts count columns fields)

-- ---- the search for the section of a byte

no_byte : (at : ℕ) (extent : Extent) → (extent.offset ≤ at → extent.offset + extent.size ≤ at) → has_byte at extent ≡ false
no_byte at extent past =
    elim (nat_le extent.offset at) as (λ b. nat_le extent.offset at ≡ b → (b && nat_lt at (extent.offset + extent.size)) ≡ false) [
      | true ↦ λ is. le-ltb at (extent.offset + extent.size) (past (leb-true extent.offset at is))
      | false ↦ λ is. refl
    ] refl

-- it is among those after one that does not have it
pub part_step : (ps : List Part) (sizes : List ℕ) (number offset at : ℕ) (d p : Part) → number < length ps → number < length sizes → (offset ≤ at → offset + get_or sizes number 0 ≤ at) → part_at (extents_from offset (drop number ps) (drop number sizes)) at ≡ p
    → part_at (extents_from (offset + get_or sizes number 0) (drop (number + 1) ps) (drop (number + 1) sizes)) at ≡ p
part_step ps sizes number offset at d p lt more past left =
    let one : Extent = record { part = get_or ps number d; offset = offset; size = get_or sizes number 0 } in
    let rest : List Extent = extents_from (offset + get_or sizes number 0) (drop (number + 1) ps) (drop (number + 1) sizes) in
    sym (part_later one rest at (no_byte at one past)) ∙ ap (λ es. part_at es at) (sym (extents_next ps sizes number offset d lt more)) ∙ left

-- ---- rows that were read are rows that a segment may have

pub rows_can : (table : Table) (t : ListedColumns) → AreOfFields table t → TreesFit table (rows_of t) → CanHold table (rows_of t)
rows_can table t fields fits = record { fit = fields.rows; unicode = fields.unicode; trees = fits }

-- their image is no longer than a number of 64 bits says
pub image_small : (table : Table) (name : List ℕ) (t : ListedColumns) (bytes : List ℕ) → IsValidTable table → IsSegmentName name → AreOfFields table t → TreesFit table (rows_of t) → bytes ≡ image 1 table name (rows_of t) → length bytes < 2 ^ 64
image_small table name t bytes valid named fields fits is =
    let own = (image_keeps table name (rows_of t) valid named (rows_can table t fields fits)).front_is in
    let small = own.small in
    omega (arith, ap length is, small)

-- ---- a file that was compared from its start on

pub compared_same : (bytes file : List ℕ) (old new : Compared) (before after : Seen) → old ≡ record { file = file; at = 0 } → length bytes < 2 ^ 64 → Compares bytes (Ok tt) old before new after → OfBytes before.held file (λ b. take (length bytes) b ≡ bytes)
compared_same bytes file old new before after start small is =
    let from : old.at ≡ 0 = ap (λ (o : Compared). o.at) start in
    subst (λ (o : Compared). IfSome before.held (λ files. take (length bytes) (drop o.at (bytes_of (Some files) o.file)) ≡ bytes)) start (is.same (omega (arith, from, small)))

differ_at : (bytes list : List ℕ) (n at : ℕ) → at ≡ 0 + n → DifferAt bytes list n → DifferAt bytes list at
differ_at bytes list n at e d = let same : n ≡ at = omega (arith, e) in subst (DifferAt bytes list) same d

pub compared_differs : (bytes file : List ℕ) (old new : Compared) (before after : Seen) → old ≡ record { file = file; at = 0 } → length bytes < 2 ^ 64 → Compares bytes (Err Differs) old before new after → OfBytes before.held file (λ b. DifferAt bytes b new.at)
compared_differs bytes file old new before after start small is =
    let from : old.at ≡ 0 = ap (λ (o : Compared). o.at) start in
    told before.held
    (subst (λ (o : Compared). IfSome before.held (λ files. (n : ℕ) × (new.at ≡ o.at + n) × (n < length bytes) × DifferAt bytes (drop o.at (bytes_of (Some files) o.file)) n)) start (is.differs (omega (arith, from, small)) refl))
  where
    told : (held : Option Files) → IfSome held (λ files. (n : ℕ) × (new.at ≡ 0 + n) × (n < length bytes) × DifferAt bytes (bytes_of (Some files) file) n) → OfBytes held file (λ b. DifferAt bytes b new.at)
    told None found = tt
    told (Some files) (n, at, lt, d) = differ_at bytes (bytes_of (Some files) file) n new.at at d
