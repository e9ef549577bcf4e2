-- The image of rows spells these rows in their order.
use Rattle.std.proofs.Common.{◌≡◌, ◌∙◌, ◌<◌, ◌≤◌, ◌+◌, ◌^◌, ℕ, All, List, [], ◌∷◌, ◌++◌, length, map, get_or, refl, sym, ap, subst, arith}
use Rattle.std.specs.Prelude.{pos}
use Rattle.std.specs.List.{concat, range_with_len}
use Rattle.std.proofs.lemmas.List.{get_or-map, get_or_default, length-map, same_lists}
use Rattle.std.proofs.lemmas.List.Elements.{All-get_or, All-weaker}
use Rattle.std.proofs.lemmas.List.FromFn.{get_or-map-range_with_len, length-range_with_len}
use Rattle.values.specs.declared.value.Value.{Value}
use Rattle.values.specs.declared.value.Value.TheVariants.{Whole}
use Rattle.value_ids.specs.Dictionary.{Distinct, IsUnicode, distinct}
use Rattle.bit_column.proofs.Spelling.{readable-written}
use Rattle.bit_column.proofs.Widths.{width-least}
use Rattle.bit_column.specs.Column.{ids_between, spelled, width_of}
use Rattle.bit_column.specs.Sections.{Readable}
use Rattle.table_schema.specs.declared.table.Table.{Table}
use Rattle.table_schema.specs.ValidTable.{IsRow}
use Rattle.segment_file.specs.declared.part.Part.{Part}
use Rattle.segment_file.specs.declared.part.Part.TheVariants as parts
use Rattle.segment_file.specs.Front.{Front, extents_of, front_bytes, front_size}
use Rattle.segment_file.specs.Image.{count_of, dictionary_of, file_of_rows, front_of, ids_of, section_of, sections_of_rows, values_in}
use Rattle.segment_file.specs.Laws.{ImageSpells}
use Rattle.segment_file.specs.Ordered.{ordered, value_in}
use Rattle.segment_file.specs.Parts.{columns_of, sections_of}
use Rattle.segment_file.specs.Reading.{count_at}
use Rattle.segment_file.specs.Rules.{AreSpelled, KeepsAll, heads_in}
use Rattle.segment_file.specs.Spelled.{HasIds, column_said, forward_in, ids_said, rows_said, values_said}
use Rattle.segment_file.proofs.Counts.{all_at}
use Rattle.segment_file.proofs.Forwards.{cut_part, forward_only, has_forward}
use Rattle.segment_file.proofs.Fronts.{front_bytes_size}
use Rattle.segment_file.proofs.ImageKeeps.{image_keeps}
use Rattle.segment_file.proofs.ImageRows.{few_values, ids_below, ids_count, ordered_all, ordered_count}
use Rattle.segment_file.proofs.ImageSizes.{columns_all}
use Rattle.segment_file.proofs.ImageTells.{column_back, ids_back, row_length, row_tells}
use Rattle.segment_file.proofs.RuleLaws.{fronts_one, spelled_one}

abbrev no_value : Value
no_value = Whole (pos 0)

module _ (table : Table) (name : List ℕ) (os : List (List Value)) (at_most : length os ≤ 1048576) (each : All (IsRow table.schema.fields) os) where
  abbrev file : List ℕ
  file = file_of_rows 1 table name os

  abbrev front : Front
  front = front_of 1 table os

  abbrev ds : List Distinct
  ds = map (dictionary_of table os) (columns_of table)

  values-at : (c : ℕ) → c < length table.schema.fields → values_said ds c ≡ distinct (values_in c os)
  values-at c lt =
      let n : ℕ = length table.schema.fields in
      let plain : 0 + c ≡ c = omega arith in
      let many : length ds ≡ n = length-map (columns_of table) (dictionary_of table os) ∙ length-range_with_len 0 n in
      get_or-map (λ d. d.values) ds c (dictionary_of table os c) [] (omega (arith, many, lt))
      ∙ ap (λ d. d.values) (get_or-map-range_with_len (dictionary_of table os) 0 n c c (dictionary_of table os c) lt plain)

  forward-at : (c : ℕ) → c < length table.schema.fields → forward_in table name file front c ≡ spelled (width_of (count_of os c)) (ids_of os c)
  forward-at c lt =
      let sizes : length front.sizes ≡ length (sections_of table) = length-map (sections_of_rows table os) length ∙ length-map (sections_of table) (section_of table os) in
      cut_part file (section_of table os) (parts.Forward c) (λ p e. forward_only p c e) (front_bytes table name front) (front_size table name) (sections_of table) (front_bytes_size table name front sizes) refl (has_forward table c lt)

  has-ids : (c : ℕ) → c < length table.schema.fields → HasIds table name file front ds c
  has-ids c lt =
      let count : ℕ = count_of os c in
      let width : ℕ = width_of count in
      let ids : List ℕ = ids_of os c in
      let enough = (width-least count (omega (arith, few_values os c, at_most))).1 in
      let small : All (λ id. id < 2 ^ width) ids = All-weaker (λ id. id < count) (λ id. id < 2 ^ width) (λ id below. omega (arith, below, enough)) ids (ids_below os c) in
      subst (λ (vs : List Value). Readable (width_of (length vs)) (length vs) 0 (length os) (forward_in table name file front c)) (sym (values-at c lt))
      (subst (λ (b : List ℕ). Readable width count 0 (length os) b) (sym (forward-at c lt))
      (readable-written width count 0 (length os) ids small (ids_below os c) (omega arith) (omega (arith, ids_count os c))))

  column-is : (c : ℕ) → c < length table.schema.fields → column_said table name file front ds c ≡ values_in c os
  column-is c lt =
      (λ i. map (λ id. get_or (values-at c lt i) id no_value) (ids_between (width_of (length (values-at c lt i))) 0 (length os) (forward-at c lt i)))
      ∙ ap (λ (ids : List ℕ). map (λ id. get_or (distinct (values_in c os)) id no_value) ids) (ids_back os c at_most)
      ∙ column_back os c no_value

  abbrev row-said : ℕ → List Value
  row-said i = map (λ c. get_or (column_said table name file front ds c) i no_value) (columns_of table)

  row-is : (i : ℕ) → i < length os → row-said i ≡ get_or os i []
  row-is i lt =
      let n : ℕ = length table.schema.fields in
      let f : ℕ → Value = λ c. get_or (column_said table name file front ds c) i no_value in
      let wide : length (get_or os i []) ≡ n = row_length table.schema.fields (get_or os i []) (All-get_or (IsRow table.schema.fields) os i [] lt each) in
      let long : length (row-said i) ≡ n = length-map (columns_of table) f ∙ length-range_with_len 0 n in
      row_tells (row-said i) (get_or os i []) (long ∙ sym wide)
      (λ c below.
      let within : c < n = omega (arith, below, long) in
      let plain : 0 + c ≡ c = omega arith in
      get_or-map-range_with_len f 0 n c c no_value within plain
      ∙ ap (λ (vs : List Value). get_or vs i no_value) (column-is c within)
      ∙ get_or-map (value_in c) os i [] no_value lt)

  rows-are : rows_said table name file front ds ≡ os
  rows-are =
      let count : length (rows_said table name file front ds) ≡ length os = length-map (range_with_len 0 (length os)) row-said ∙ length-range_with_len 0 (length os) in
      same_lists (rows_said table name file front ds) os count
      (λ i d lt.
      let within : i < length os = omega (arith, lt, count) in
      let plain : 0 + i ≡ i = omega arith in
      get_or-map-range_with_len row-said 0 (length os) i i d within plain ∙ row-is i within ∙ first-default i d within)
    where
      first-default : (i : ℕ) (d : List Value) → i < length os → get_or os i [] ≡ get_or os i d
      first-default i d lt = get_or_default os i [] d lt

pub image_spells : ImageSpells
image_spells table name rows front dictionaries valid named can keeps =
    let os : List (List Value) = ordered table.settings.sorted rows in
    let limit = can.fit.at_most in
    let at_most : length os ≤ 1048576 = omega (arith, limit, ordered_count table.settings.sorted rows) in
    let each : All (IsRow table.schema.fields) os = ordered_all (IsRow table.schema.fields) table.settings.sorted rows can.fit.each in
    let F : Front = front_of 1 table os in
    let D : List Distinct = map (dictionary_of table os) (columns_of table) in
    let I : List ℕ = file_of_rows 1 table name os in
    let own : KeepsAll table name I F D = image_keeps table name rows valid named can in
    let same : front ≡ F = fronts_one table name I F front own.front_is keeps.front_is in
    let there : AreSpelled table F.rows (heads_in table name F I) (columns_of table) dictionaries =
    subst (λ (f : Front). AreSpelled table f.rows (heads_in table name f I) (columns_of table) dictionaries) same keeps.heads.spelled in
    let those : dictionaries ≡ D = spelled_one table F.rows (heads_in table name F I) (columns_of table) D dictionaries own.heads.spelled there in (
      subst (λ (f : Front). All (HasIds table name I f dictionaries) (columns_of table)) (sym same)
          (subst (λ (d : List Distinct). All (HasIds table name I F d) (columns_of table)) (sym those)
          (columns_all (HasIds table name I F D) 0 (length table.schema.fields) (length table.schema.fields) (omega arith) (has-ids table name os at_most each))),
      (λ i. rows_said table name I (same i) (those i)) ∙ rows-are table name os at_most each,
    )
