-- The head of an image tells of the rows of its segment.
use Rattle.std.proofs.Common.{◌≡◌, ◌∙◌, ◌+◌, ℕ, zero, suc, List, [], ◌∷◌, length, map, Option, Some, refl, sym, ap, ap₂, subst, arith}
use Rattle.std.specs.List.{AllZip, range_with_len, slice_get}
use Rattle.values.specs.declared.value.Value.{Value}
use Rattle.table_schema.specs.declared.table.Table.{Table}
use Rattle.value_ids.specs.Dictionary.{Distinct}
use Rattle.dictionary.proofs.Spells.{spells_one}
use Rattle.segment_file.specs.Bounds.{bounds_of}
use Rattle.segment_file.specs.Front.{Front}
use Rattle.segment_head.specs.Heads.{IsSlotOf}
use Rattle.segment_file.specs.Image.{dictionary_of, front_of, image}
use Rattle.segment_file.specs.Ordered.{ordered}
use Rattle.segment_file.specs.Parts.{columns_of}
use Rattle.segment_file.specs.Rules.{AreSpelled, KeepsAll, heads_in}
use Rattle.segment_file.proofs.ImageKeeps.{image_keeps}
use Rattle.segment_file.proofs.RuleLaws.{fronts_one}
use Rattle.segment_plan.specs.Laws.{HeadTells}

-- sections spell one list of dictionaries
spelled_one : (table : Table) (rows : ℕ) (heads : List (List ℕ)) (columns : List ℕ) (ds es : List Distinct) → AreSpelled table rows heads columns ds → AreSpelled table rows heads columns es → es ≡ ds
spelled_one table rows heads [] [] [] a b = refl
spelled_one table rows heads [] [] (e ∷ es) a b = absurd b
spelled_one table rows heads [] (d ∷ ds) es a b = absurd a
spelled_one table rows heads (c ∷ cs) [] es a b = absurd a
spelled_one table rows heads (c ∷ cs) (d ∷ ds) [] a b = absurd b
spelled_one table rows heads (c ∷ cs) (d ∷ ds) (e ∷ es) a b =
    ap₂ ◌∷◌ (spells_one e d b.0.stands a.0.stands (b.0.kind_is ∙ sym a.0.kind_is) (sym b.0.spelled ∙ a.0.spelled)) (spelled_one table rows heads cs ds es a.1 b.1)

-- what is loaded is of the whole head
slot_at : (whole loaded : List (Option Distinct)) (k : ℕ) (d : Distinct) → AllZip IsSlotOf whole loaded → slice_get loaded k ≡ Some (Some d) → slice_get whole k ≡ Some (Some d)
slot_at [] [] k d zip at = absurd cc
slot_at [] (l ∷ ls) k d zip at = absurd zip
slot_at (w ∷ ws) [] k d zip at = absurd cc
slot_at (w ∷ ws) (l ∷ ls) zero d zip at =
    let is : l ≡ Some d = cc in
    let same : w ≡ Some d = subst (IsSlotOf w) is zip.0 in
    ap (λ o. Some o) same
slot_at (w ∷ ws) (l ∷ ls) (suc k) d zip at = slot_at ws ls k d zip.1 at

-- the dictionary of a column of the whole head
column_at : (table : Table) (rows : List (List Value)) (from count k : ℕ) (d : Distinct) → slice_get (map Some (map (dictionary_of table rows) (range_with_len from count))) k ≡ Some (Some d) → d ≡ dictionary_of table rows (from + k)
column_at table rows from zero k d at = absurd cc
column_at table rows from (suc count) zero d at =
    let is : dictionary_of table rows from ≡ d = cc in
    let same : from ≡ from + 0 = omega arith in
    sym is ∙ ap (dictionary_of table rows) same
column_at table rows from (suc count) (suc k) d at =
    let same : from + 1 + k ≡ from + suc k = omega arith in
    column_at table rows (from + 1) count k d at ∙ ap (dictionary_of table rows) same

pub dictionary_at : (table : Table) (rows : List (List Value)) (column : ℕ) (d : Distinct) → slice_get (map Some (map (dictionary_of table rows) (columns_of table))) column ≡ Some (Some d) → d ≡ dictionary_of table rows column
dictionary_at table rows column d at =
    let plain : 0 + column ≡ column = omega arith in
    column_at table rows 0 (length table.schema.fields) column d at ∙ ap (dictionary_of table rows) plain

pub head_tells : HeadTells
head_tells table name file rows whole head valid named can is part =
    let os : List (List Value) = ordered table.settings.sorted rows in
    let bytes : List ℕ = image 1 table name rows in
    let front : Front = front_of 1 table os in
    let ds : List Distinct = map (dictionary_of table os) (columns_of table) in
    let keeps : KeepsAll table name bytes front ds = image_keeps table name rows valid named can in
    let same : is.front ≡ front = fronts_one table name bytes front is.front keeps.front_is is.keeps.front_is in
    let spelled : AreSpelled table front.rows (heads_in table name front bytes) (columns_of table) is.dictionaries =
    subst (λ f. AreSpelled table f.rows (heads_in table name f bytes) (columns_of table) is.dictionaries) same is.keeps.heads.spelled in
    let those : is.dictionaries ≡ ds = spelled_one table front.rows (heads_in table name front bytes) (columns_of table) ds is.dictionaries keeps.heads.spelled spelled in
    let all : whole.dictionaries ≡ map Some ds = is.dictionaries_are ∙ ap (map Some) those in
    record {
      rows_are = part.rows_same ∙ is.rows_are ∙ ap (λ f. f.rows) same;
      bounds_are = part.bounds_same ∙ is.bounds_are ∙ ap bounds_of those;
      dictionaries_are = (λ column d at.
          let there : slice_get (map Some ds) column ≡ Some (Some d) = ap (λ x. slice_get x column) (sym all) ∙ slot_at whole.dictionaries head.dictionaries column d part.slots at in
          dictionary_at table os column d there);
    }
