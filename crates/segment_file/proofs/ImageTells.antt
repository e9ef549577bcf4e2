-- Equal images are of equal rows.
use Rattle.std.proofs.Common.{◌≡◌, ◌∙◌, ◌<◌, ◌≤◌, ◌+◌, ◌-◌, ◌^◌, ℕ, suc, Bool, true, false, ◌||◌, All, List, [], ◌∷◌, ◌++◌, length, map, get_or, drop, refl, sym, ap, subst, arith}
use Rattle.std.specs.Prelude.{if◌then◌else◌, pos}
use Rattle.std.proofs.lemmas.Bool.{false≢true}
use Rattle.std.proofs.Math.ListN.{get_or-append}
use Rattle.std.proofs.lemmas.List.{get_or-append-add, get_or-map, length-append, length-map, take_all}
use Rattle.std.proofs.lemmas.List.Elements.{All-head, All-tail, All-weaker}
use Rattle.std.proofs.lemmas.List.FromFn.{get_or-range_with_len, length-range_with_len}
use Rattle.std.specs.List.{concat}
use Rattle.values.specs.declared.value.Value.{Value}
use Rattle.values.specs.declared.value.Value.TheVariants.{Whole}
use Rattle.values.specs.Kinds.{fits}
use Rattle.values.specs.Order.{value_eq}
use Rattle.values.specs.Order.Laws.{value_eq-equiv}
use Rattle.values.specs.Tests.{is_member}
use Rattle.values.proofs.Bounds.{same_value}
use Rattle.value_ids.specs.Dictionary.{IsUnicode, distinct}
use Rattle.dictionary.proofs.Bytes.{same_fronts, same_rests}
use Rattle.value_ids.proofs.DistinctLemmas.{distinct_members}
use Rattle.dictionary.proofs.Spells.{spells_one}
use Rattle.bit_column.proofs.Spelling.{ids-written}
use Rattle.bit_column.proofs.Widths.{width-least}
use Rattle.bit_column.specs.Column.{ids_between, spelled, width_of}
use Rattle.table_schema.specs.declared.field.Field.{Field}
use Rattle.table_schema.specs.declared.table.Table.{Table}
use Rattle.table_schema.specs.ValidTable.{IsRow, is_row}
use Rattle.segment_file.specs.declared.part.Part.{Part}
use Rattle.segment_file.specs.declared.part.Part.TheVariants as parts
use Rattle.segment_file.specs.Front.{Front, front_bytes}
use Rattle.segment_file.specs.Image.{count_of, dictionary_of, front_of, ids_of, place_of, section_of, sections_of_rows, values_in}
use Rattle.segment_file.specs.Laws.{ImagesTell}
use Rattle.segment_file.specs.Ordered.{ordered, value_in}
use Rattle.segment_file.specs.Parts.{columns_of, head_sections, raw_sections, sections_of, tail_sections, trees_of}
use Rattle.segment_file.proofs.Counts.{all_sections, head_count, raw_count}
use Rattle.segment_file.proofs.Fronts.{front_bytes_size, fronts_tell}
use borrow.Author.Tests.{leb-true}
use Rattle.segment_file.proofs.ImageKeeps.{rows_small, zero-plus}
use Rattle.segment_file.proofs.ImageRows.{and_second, column_dictionary, few_values, ids_below, ids_count, members_all, not_true, ordered_all, ordered_count}

-- ---- sections

concat_tells : (xss yss : List (List ℕ)) → map length xss ≡ map length yss → concat xss ≡ concat yss → xss ≡ yss
concat_tells [] [] sizes e = refl
concat_tells [] (ys ∷ yss) sizes e = absurd cc
concat_tells (xs ∷ xss) [] sizes e = absurd cc
concat_tells (xs ∷ xss) (ys ∷ yss) sizes e =
    let first : length xs ≡ length ys = cc in
    let others : map length xss ≡ map length yss = cc in
    let here : xs ≡ ys = same_fronts xs ys (concat xss) (concat yss) first e in
    let more : xss ≡ yss = concat_tells xss yss others (same_rests xs ys (concat xss) (concat yss) first e) in
    (λ i. here i ∷ more i)

-- functions that agree on a list agree at each of its elements
map_at : {X : Type 0} (f g : X → List ℕ) (xs : List X) (i : ℕ) (d : X) → map f xs ≡ map g xs → i < length xs → f (get_or xs i d) ≡ g (get_or xs i d)
map_at f g xs i d e lt = sym (get_or-map f xs i d [] lt) ∙ ap (λ l. get_or l i []) e ∙ get_or-map g xs i d [] lt

-- ---- values and ids

back_by : (w : Value) (ws : List Value) (v d : Value) (same : Bool) → value_eq w v ≡ same → (value_eq v w ≡ true → same ≡ true) → is_member (w ∷ ws) v ≡ true → (is_member ws v ≡ true → get_or ws (place_of ws v) d ≡ v)
    → get_or (w ∷ ws) (if same then 0 else suc (place_of ws v)) d ≡ v
back_by w ws v d true e turn is rest = same_value w v e
back_by w ws v d false e turn is rest =
    let other : value_eq v w ≡ false = not_true (value_eq v w) (λ x. false≢true (turn x)) in
    rest (subst (λ b. (b || is_member ws v) ≡ true) other is)

-- the value that has the number of a member is that member
place_back : (vs : List Value) (v d : Value) → is_member vs v ≡ true → get_or vs (place_of vs v) d ≡ v
place_back [] v d is = absurd (false≢true is)
place_back (w ∷ ws) v d is = back_by w ws v d (value_eq w v) refl (λ e. sym (value_eq-equiv.symm v w) ∙ e) is (place_back ws v d)

values_back : (all vs : List Value) (d : Value) → All (λ v. is_member all v ≡ true) vs → map (λ id. get_or all id d) (map (place_of all) vs) ≡ vs
values_back all [] d each = refl
values_back all (v ∷ vs) d each =
    let P : Value → Type 0 = λ w. is_member all w ≡ true in
    let here : get_or all (place_of all v) d ≡ v = place_back all v d (All-head P v vs each) in
    let more : map (λ id. get_or all id d) (map (place_of all) vs) ≡ vs = values_back all vs d (All-tail P v vs each) in
    (λ i. here i ∷ more i)

-- the values of a column, by its ids
pub column_back : (rows : List (List Value)) (column : ℕ) (d : Value) → map (λ id. get_or (distinct (values_in column rows)) id d) (ids_of rows column) ≡ values_in column rows
column_back rows column d =
    let vs : List Value = values_in column rows in
    values_back (distinct vs) vs d (members_all (λ v. is_member (distinct vs) v ≡ true) vs vs (λ v is. is) (λ v is. distinct_members v vs ∙ is))

-- ids are read back from their section
pub ids_back : (rows : List (List Value)) (column : ℕ) → length rows ≤ 1048576 → ids_between (width_of (count_of rows column)) 0 (length rows) (spelled (width_of (count_of rows column)) (ids_of rows column)) ≡ ids_of rows column
ids_back rows column at_most =
    let count : ℕ = count_of rows column in
    let width : ℕ = width_of count in
    let ids : List ℕ = ids_of rows column in
    let enough = (width-least count (omega (arith, few_values rows column, at_most))).1 in
    let small : All (λ id. id < 2 ^ width) ids = All-weaker (λ id. id < count) (λ id. id < 2 ^ width) (λ id lt. omega (arith, lt, enough)) ids (ids_below rows column) in
    ids-written width 0 (length rows) ids small (omega arith) (omega (arith, ids_count rows column))
    ∙ take_all (length rows - 0) ids (omega (arith, ids_count rows column))

-- ---- rows

pub row_tells : (r s : List Value) → length r ≡ length s → ((c : ℕ) → c < length r → value_in c r ≡ value_in c s) → r ≡ s
row_tells [] [] long each = refl
row_tells [] (b ∷ s) long each = absurd (omega arith)
row_tells (a ∷ r) [] long each = absurd (omega arith)
row_tells (a ∷ r) (b ∷ s) long each =
    let here : a ≡ b = each 0 (omega arith) in
    let more : r ≡ s = row_tells r s (omega arith) (λ c lt. each (suc c) (omega arith)) in
    (λ i. here i ∷ more i)

pub row_length : (fields : List Field) (row : List Value) → is_row fields row ≡ true → length row ≡ length fields
row_length [] [] is = refl
row_length [] (v ∷ vs) is = absurd (false≢true is)
row_length (f ∷ fs) [] is = absurd (false≢true is)
row_length (f ∷ fs) (v ∷ vs) is = ap suc (row_length fs vs (and_second (fits f.kind v) (is_row fs vs) is))

-- rows whose columns are the same are the same
rows_tell : (fields : List Field) (os ps : List (List Value)) → length os ≡ length ps → All (IsRow fields) os → All (IsRow fields) ps → ((c : ℕ) → c < length fields → values_in c os ≡ values_in c ps) → os ≡ ps
rows_tell fields [] [] long first second each = refl
rows_tell fields [] (s ∷ ps) long first second each = absurd (omega arith)
rows_tell fields (r ∷ os) [] long first second each = absurd (omega arith)
rows_tell fields (r ∷ os) (s ∷ ps) long first second each =
    let wide : length r ≡ length fields = row_length fields r (All-head (IsRow fields) r os first) in
    let same : length s ≡ length fields = row_length fields s (All-head (IsRow fields) s ps second) in
    let none : Value = Whole (pos 0) in
    let here : r ≡ s = row_tells r s (wide ∙ sym same) (λ c lt. ap (λ l. get_or l 0 none) (each c (omega (arith, lt, wide)))) in
    let more : os ≡ ps = rows_tell fields os ps (omega arith) (All-tail (IsRow fields) r os first) (All-tail (IsRow fields) s ps second) (λ c lt. ap (drop 1) (each c lt)) in
    (λ i. here i ∷ more i)

-- ---- where the sections of a column are

dictionary_at : (table : Table) (c : ℕ) → c < length table.schema.fields → get_or (sections_of table) (c + 1) parts.Head ≡ parts.Dictionary c
dictionary_at table c lt =
    let n : ℕ = length table.schema.fields in
    let ps : List Part = map parts.Dictionary (columns_of table) in
    let next : c + 1 ≡ suc c = omega arith in
    let count : length ps ≡ n = length-map (columns_of table) parts.Dictionary ∙ length-range_with_len 0 n in
    let ns : List Part = map parts.Nodes (trees_of table) in
    ap (λ i. get_or (parts.Bounds ∷ ((ps ++ ns) ++ tail_sections table)) i parts.Head) next
    ∙ get_or-append (ps ++ ns) (tail_sections table) parts.Head c (omega (arith, lt, count, length-append ps ns))
    ∙ get_or-append ps ns parts.Head c (omega (arith, lt, count))
    ∙ get_or-map parts.Dictionary (columns_of table) c 0 parts.Head (omega (arith, lt, length-range_with_len 0 n))
    ∙ ap parts.Dictionary (get_or-range_with_len 0 n c 0 lt ∙ zero-plus c)

forward_at : (table : Table) (c : ℕ) → c < length table.schema.fields → get_or (sections_of table) (length table.schema.fields + 1 + length table.settings.trees + c) parts.Head ≡ parts.Forward c
forward_at table c lt =
    let n : ℕ = length table.schema.fields in
    let fs : List Part = map parts.Forward (columns_of table) in
    let at : n + 1 + length table.settings.trees + c ≡ length (head_sections table) + c = omega (arith, head_count table) in
    ap (λ i. get_or (head_sections table ++ tail_sections table) i parts.Head) at
    ∙ get_or-append-add (head_sections table) (tail_sections table) c parts.Head
    ∙ get_or-append (raw_sections table) (map parts.Star (trees_of table)) parts.Head c (omega (arith, lt, raw_count table))
    ∙ get_or-append fs _ parts.Head c (omega (arith, lt, length-map (columns_of table) parts.Forward, length-range_with_len 0 n))
    ∙ get_or-map parts.Forward (columns_of table) c 0 parts.Head (omega (arith, lt, length-range_with_len 0 n))
    ∙ ap parts.Forward (get_or-range_with_len 0 n c 0 lt ∙ zero-plus c)

-- ---- the law

module _ (table : Table) (os ps : List (List Value)) (at_most : length os ≤ 1048576) (long : length os ≡ length ps) (first : All (IsRow table.schema.fields) os) (second : All (IsRow table.schema.fields) ps) (unicode : All (λ row. All IsUnicode row) os) (others : All (λ row. All IsUnicode row) ps) (same : map (section_of table os) (sections_of table) ≡ map (section_of table ps) (sections_of table)) where
  column-same : (c : ℕ) → c < length table.schema.fields → section_of table os (parts.Dictionary c) ≡ section_of table ps (parts.Dictionary c) → section_of table os (parts.Forward c) ≡ section_of table ps (parts.Forward c) → values_in c os ≡ values_in c ps
  column-same c lt dictionary forward =
      let none : Value = Whole (pos 0) in
      let dictionaries : dictionary_of table os c ≡ dictionary_of table ps c =
      spells_one (dictionary_of table os c) (dictionary_of table ps c) (column_dictionary table os c lt at_most first unicode) (column_dictionary table ps c lt (omega (arith, at_most, long)) second others) refl dictionary in
      let values : distinct (values_in c os) ≡ distinct (values_in c ps) = ap (λ d. d.values) dictionaries in
      let ids : ids_of os c ≡ ids_of ps c =
      sym (ids_back os c at_most)
      ∙ (λ i. ids_between (width_of (length (values i))) 0 (long i) (forward i))
      ∙ ids_back ps c (omega (arith, at_most, long)) in
      sym (column_back os c none) ∙ (λ i. map (λ id. get_or (values i) id none) (ids i)) ∙ column_back ps c none

  part-same : (p : Part) (i : ℕ) → i < length (sections_of table) → get_or (sections_of table) i parts.Head ≡ p → section_of table os p ≡ section_of table ps p
  part-same p i lt at = subst (λ q. section_of table os q ≡ section_of table ps q) at (map_at (section_of table os) (section_of table ps) (sections_of table) i parts.Head same lt)

  pub sections_tell : os ≡ ps
  sections_tell =
      rows_tell table.schema.fields os ps long first second
      (λ c lt. column-same c lt
      (part-same (parts.Dictionary c) (c + 1) (omega (arith, lt, all_sections table, head_count table)) (dictionary_at table c lt))
      (part-same (parts.Forward c) (length table.schema.fields + 1 + length table.settings.trees + c) (omega (arith, lt, all_sections table, head_count table)) (forward_at table c lt)))

pub images_tell : ImagesTell
images_tell table name rows others format other valid named can also small below e =
    let sorted = table.settings.sorted in
    let os : List (List Value) = ordered sorted rows in
    let ps : List (List Value) = ordered sorted others in
    let at_most = can.fit.at_most in
    let less = also.fit.at_most in
    let first : All (IsRow table.schema.fields) os = ordered_all (IsRow table.schema.fields) sorted rows can.fit.each in
    let second : All (IsRow table.schema.fields) ps = ordered_all (IsRow table.schema.fields) sorted others also.fit.each in
    let unicode : All (λ row. All IsUnicode row) os = ordered_all (λ row. All IsUnicode row) sorted rows can.unicode in
    let texts : All (λ row. All IsUnicode row) ps = ordered_all (λ row. All IsUnicode row) sorted others also.unicode in
    let f : Front = front_of format table os in
    let g : Front = front_of other table ps in
    let f_each : length f.sizes ≡ length (sections_of table) = length-map (sections_of_rows table os) length ∙ length-map (sections_of table) (section_of table os) in
    let g_each : length g.sizes ≡ length (sections_of table) = length-map (sections_of_rows table ps) length ∙ length-map (sections_of table) (section_of table ps) in
    let heads : length (front_bytes table name f) ≡ length (front_bytes table name g) = front_bytes_size table name f f_each ∙ sym (front_bytes_size table name g g_each) in
    let fronts : front_bytes table name f ≡ front_bytes table name g = same_fronts (front_bytes table name f) (front_bytes table name g) (concat (sections_of_rows table os)) (concat (sections_of_rows table ps)) heads e in
    let rests : concat (sections_of_rows table os) ≡ concat (sections_of_rows table ps) = same_rests (front_bytes table name f) (front_bytes table name g) (concat (sections_of_rows table os)) (concat (sections_of_rows table ps)) heads e in
    let os_few : length os ≤ 1048576 = omega (arith, at_most, ordered_count sorted rows) in
    let ps_few : length ps ≤ 1048576 = omega (arith, less, ordered_count sorted others) in
    let f_small = rows_small table name os (omega (arith, at_most, ordered_count sorted rows)) first unicode valid can.trees (leb-true (length name) 64 named.at_most) in
    let g_small = rows_small table name ps (omega (arith, less, ordered_count sorted others)) second texts valid also.trees (leb-true (length name) 64 named.at_most) in
    let tell : f ≡ g = fronts_tell table name f g small below (omega (arith, os_few)) (omega (arith, ps_few)) f_each g_each (omega (arith, f_small)) (omega (arith, g_small)) fronts in
    let sections : sections_of_rows table os ≡ sections_of_rows table ps = concat_tells (sections_of_rows table os) (sections_of_rows table ps) (ap (λ x. x.sizes) tell) rests in
    (ap (λ x. x.format) tell, sections_tell table os ps os_few (ap (λ x. x.rows) tell) first second unicode texts sections)
