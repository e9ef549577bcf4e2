-- Where the sections of the rows are in an image: after the head and before the documents of the star-trees, the forward indexes first.
use Rattle.std.proofs.Common.{◌≡◌, ◌∙◌, ◌+◌, ◌-◌, ◌*◌, ◌<◌, ◌≤◌, ◌==◌, ◌++◌, [], ◌∷◌, ℕ, zero, suc, Bool, true, false, cond, nat_lt, List, All, Some, length, map, sum, take, get_or, refl, sym, ap, subst, arith, append_assoc}
use Rattle.std.specs.Prelude.{option_map, option_to_list}
use Rattle.std.specs.List.{find}
use Rattle.std.proofs.lemmas.Bool.{eqb-true, ltb-false, ltb-true}
use Rattle.std.proofs.lemmas.List.{get_or_append_left, get_or-append_right, length-append, length-map}
use Rattle.std.proofs.lemmas.List.Elements.{All-append, All-cons, All-map, All-weaker}
use Rattle.std.proofs.lemmas.List.FromFn.{get_or-map-range_with_len, length-range_with_len}
use Rattle.std.proofs.lemmas.List.Sums.{sum_by-cons}
use Rattle.outside.specs.declared.place.Place.{Place}
use Rattle.values.specs.declared.value.Value.{Value}
use Rattle.table_schema.specs.declared.table.Table.{Table}
use Rattle.bit_column.specs.Column.{bytes_for, width_of}
use Rattle.bit_column.specs.Postings.{bucket_of, buckets_for}
use Rattle.bit_column.proofs.PostingLaws.{posting_length}
use Rattle.bit_column.proofs.SortedLaws.{sorted_length}
use Rattle.bit_column.proofs.Spelling.{length-spelled}
use Rattle.segment_file.specs.declared.part.Part.{Part}
use Rattle.segment_file.specs.declared.part.Part.TheVariants as parts
use Rattle.segment_file.specs.Front.{Front, extents_from, extents_of, front_size}
use Rattle.segment_head.specs.Heads.{place_in, placed}
use Rattle.segment_file.specs.Image.{count_of, front_of, ids_of, section_of}
use Rattle.segment_file.specs.Parts.{columns_of, head_sections, is_same, kind_of, marked, owner_of, raw_sections, sections_of, tail_sections, trees_of}
use Rattle.segment_scan.proofs.ImageLemmas.{ids-below, ids-count}
use Rattle.segment_reads.specs.Reads.{column_span, forward_span, raw_span, star_span}
use Rattle.segment_reads.proofs.LogLemmas.{fewer_summed}
use Rattle.segment_head.proofs.SectionLemmas.{first_true, rest_true}
use Rattle.segment_head.specs.declared.stored.Stored.{Stored}

-- ---- a place that is found

-- the place of a part is that of a section that is the same
record Found (file : List ℕ) (offset : ℕ) (ps : List Part) (sizes : List ℕ) (p : Part) (place : Place) : Type 0 where
  at : ℕ
  at_most : at < length ps
  same : is_same (get_or ps at parts.Table) p ≡ true
  file_is : place.file ≡ file
  from : place.offset ≡ offset + sum (take at sizes)
  to : place.offset + place.length ≡ offset + sum (take (suc at) sizes)
  long : place.length ≡ get_or sizes at 0

found_at : (file : List ℕ) (p : Part) (place : Place) (offset : ℕ) (ps : List Part) (sizes : List ℕ) → place_in (map (placed file) (extents_from offset ps sizes)) p ≡ Some place → Found file offset ps sizes p place
found_at file p place offset [] sizes is = absurd cc
found_at file p place offset (q ∷ qs) [] is = absurd cc
found_at file p place offset (q ∷ qs) (size ∷ sizes) is = go (is_same q p) refl is (found_at file p place (offset + size) qs sizes)
  where
    here : Place
    here = record { file = file; offset = offset; length = size }

    go : (b : Bool) → is_same q p ≡ b
        → option_map (λ s. s.place) (cond b (Some (placed file (record { part = q; offset = offset; size = size }))) (find (λ s. is_same s.part p) (map (placed file) (extents_from (offset + size) qs sizes)))) ≡ Some place
        → (place_in (map (placed file) (extents_from (offset + size) qs sizes)) p ≡ Some place → Found file (offset + size) qs sizes p place) → Found file offset (q ∷ qs) (size ∷ sizes) p place
    go true same is later =
        let own : here ≡ place = cc in
        let from : place.offset ≡ offset = ap (λ x. x.offset) (sym own) in
        let long : place.length ≡ size = ap (λ x. x.length) (sym own) in
        let one : sum (take 1 (size ∷ sizes)) ≡ size + sum (take 0 sizes) = sum_by-cons (λ n. n) size (take 0 sizes) in
        record { at = 0; at_most = omega arith; same = same; file_is = ap (λ x. x.file) (sym own); from = omega (arith, from); to = omega (arith, from, long, one); long = long }
    go false same is later =
        let f = later is in
        let from = f.from in
        let to = f.to in
        let at_most = f.at_most in
        let one : sum (take (suc f.at) (size ∷ sizes)) ≡ size + sum (take f.at sizes) = sum_by-cons (λ n. n) size (take f.at sizes) in
        let two : sum (take (suc (suc f.at)) (size ∷ sizes)) ≡ size + sum (take (suc f.at) sizes) = sum_by-cons (λ n. n) size (take (suc f.at) sizes) in
        record { at = suc f.at; at_most = omega (arith, at_most); same = f.same; file_is = f.file_is; from = omega (arith, from, one); to = omega (arith, to, two); long = f.long }

-- ---- kinds of sections

same_kind : (a b : Part) → is_same a b ≡ true → kind_of a ≡ kind_of b
same_kind a b is = eqb-true (kind_of a) (kind_of b) (first_true (kind_of a == kind_of b) (owner_of a == owner_of b) is)

-- the section of a kind and an owner
abbrev part_from : ℕ → ℕ → Part
part_from kind owner =
    get_or (parts.Table ∷ parts.Bounds ∷ parts.Dictionary owner ∷ parts.Nodes owner ∷ parts.Forward owner ∷ parts.Sorted owner ∷ parts.Inverted owner ∷ parts.Range owner ∷ parts.Star owner ∷ []) kind parts.Table

part_back : (p : Part) → 0 < kind_of p → part_from (kind_of p) (owner_of p) ≡ p
part_back parts.Table some = absurd (omega (arith, some))
part_back parts.Head some = absurd (omega (arith, some))
part_back parts.Bounds some = refl
part_back (parts.Dictionary c) some = refl
part_back (parts.Nodes c) some = refl
part_back (parts.Forward c) some = refl
part_back (parts.Sorted c) some = refl
part_back (parts.Inverted c) some = refl
part_back (parts.Range c) some = refl
part_back (parts.Star c) some = refl

same_part : (a b : Part) → is_same a b ≡ true → 0 < kind_of b → a ≡ b
same_part a b is some =
    let kinds : kind_of a ≡ kind_of b = same_kind a b is in
    let owners : owner_of a ≡ owner_of b = eqb-true (owner_of a) (owner_of b) (rest_true (kind_of a == kind_of b) (owner_of a == owner_of b) is) in
    sym (part_back a (omega (arith, kinds, some))) ∙ (λ i. part_from (kinds i) (owners i)) ∙ part_back b some

made_kind : (f : ℕ → Part) (P : ℕ → Type 0) (xs : List ℕ) → ((n : ℕ) → P (kind_of (f n))) → All (λ p. P (kind_of p)) (map f xs)
made_kind f P xs each = All-map (λ p. P (kind_of p)) f xs (λ k d lt. each (get_or xs k d))

head_kinds : (table : Table) → All (λ p. kind_of p < 4) (head_sections table)
head_kinds table =
    let P : Part → Type 0 = λ p. kind_of p < 4 in
    All-cons P parts.Bounds (map parts.Dictionary (columns_of table) ++ map parts.Nodes (trees_of table)) (omega arith)
    (All-append P (map parts.Dictionary (columns_of table)) (map parts.Nodes (trees_of table)) (made_kind parts.Dictionary (λ k. k < 4) (columns_of table) (λ n. omega arith)) (made_kind parts.Nodes (λ k. k < 4) (trees_of table) (λ n. omega arith)))

-- the sections of the rows beside the forward indexes
abbrev indexes : Table → List Part
indexes table = map parts.Sorted (option_to_list table.settings.sorted) ++ (map parts.Inverted (marked table.settings.inverted) ++ map parts.Range (marked table.settings.ranged))

-- up to the forward indexes
abbrev to_forward : Table → List Part
to_forward table = head_sections table ++ map parts.Forward (columns_of table)

forward_kinds : (table : Table) → All (λ p. kind_of p < 5) (to_forward table)
forward_kinds table =
    All-append (λ p. kind_of p < 5) (head_sections table) (map parts.Forward (columns_of table))
    (All-weaker (λ p. kind_of p < 4) (λ p. kind_of p < 5) (λ p lt. omega (arith, lt)) (head_sections table) (head_kinds table))
    (made_kind parts.Forward (λ k. k < 5) (columns_of table) (λ n. omega arith))

-- and those that follow them
behind_kinds : (table : Table) → All (λ p. 4 < kind_of p) (indexes table ++ map parts.Star (trees_of table))
behind_kinds table =
    let P : Part → Type 0 = λ p. 4 < kind_of p in
    All-append P (indexes table) (map parts.Star (trees_of table))
    (All-append P (map parts.Sorted (option_to_list table.settings.sorted)) (map parts.Inverted (marked table.settings.inverted) ++ map parts.Range (marked table.settings.ranged))
    (made_kind parts.Sorted (λ k. 4 < k) (option_to_list table.settings.sorted) (λ n. omega arith))
    (All-append P (map parts.Inverted (marked table.settings.inverted)) (map parts.Range (marked table.settings.ranged)) (made_kind parts.Inverted (λ k. 4 < k) (marked table.settings.inverted) (λ n. omega arith))
    (made_kind parts.Range (λ k. 4 < k) (marked table.settings.ranged) (λ n. omega arith))))
    (made_kind parts.Star (λ k. 4 < k) (trees_of table) (λ n. omega arith))

star_kinds : (table : Table) → All (λ p. 7 < kind_of p) (map parts.Star (trees_of table))
star_kinds table = made_kind parts.Star (λ k. 7 < k) (trees_of table) (λ n. omega arith)

forward_first : (table : Table) → sections_of table ≡ to_forward table ++ (indexes table ++ map parts.Star (trees_of table))
forward_first table = simp append_assoc

stars_last : (table : Table) → sections_of table ≡ (head_sections table ++ raw_sections table) ++ map parts.Star (trees_of table)
stars_last table = simp append_assoc

to_forward_count : (table : Table) → length (to_forward table) ≡ length (head_sections table) + length table.schema.fields
to_forward_count table =
    omega (arith, length-append (head_sections table) (map parts.Forward (columns_of table)), length-map (columns_of table) parts.Forward, length-range_with_len 0 (length table.schema.fields))

not_less : (a b : ℕ) → (a < b → ⊥) → b ≤ a
not_less a b refused = by (nat_lt a b) refl
  where
    by : (v : Bool) → nat_lt a b ≡ v → b ≤ a
    by true is = absurd (refused (ltb-true a b is))
    by false is = ltb-false a b is

-- a section that is of the head or a forward index stands before all others
not_before : (at : ℕ) (xs ys : List Part) → All (λ p. kind_of p < 5) xs → 4 < kind_of (get_or (xs ++ ys) at parts.Table) → length xs ≤ at
not_before at xs ys all kind = not_less at (length xs) (λ lt. let low = all at parts.Table lt in let same = ap kind_of (get_or_append_left xs ys parts.Table at lt) in omega (arith, low, same, kind))

index_after : (table : Table) (at : ℕ) → 4 < kind_of (get_or (sections_of table) at parts.Table) → length (to_forward table) ≤ at
index_after table at kind =
    not_before at (to_forward table) (indexes table ++ map parts.Star (trees_of table)) (forward_kinds table) (subst (λ l. 4 < kind_of (get_or l at parts.Table)) (forward_first table) kind)

-- a section of a kind up to some one stands before those of the kinds after it
not_after : (last at : ℕ) (xs ys : List Part) → All (λ p. last < kind_of p) ys → at < length (xs ++ ys) → kind_of (get_or (xs ++ ys) at parts.Table) ≤ last → at < length xs
not_after last at xs ys all at_most kind = by (nat_lt at (length xs)) refl
  where
    by : (v : Bool) → nat_lt at (length xs) ≡ v → at < length xs
    by true is = ltb-true at (length xs) is
    by false is =
        let le : length xs ≤ at = ltb-false at (length xs) is in
        let high = all (at - length xs) parts.Table (omega (arith, at_most, le, length-append xs ys)) in
        let same = ap kind_of (get_or-append_right xs ys (length xs) at parts.Table refl le) in
        absurd (omega (arith, high, same, kind))

raw_before : (table : Table) (at : ℕ) → at < length (sections_of table) → kind_of (get_or (sections_of table) at parts.Table) < 8 → at < length (head_sections table) + length (raw_sections table)
raw_before table at at_most kind =
    let here : at < length (head_sections table ++ raw_sections table) =
    not_after 7 at (head_sections table ++ raw_sections table) (map parts.Star (trees_of table)) (star_kinds table) (subst (λ l. at < length l) (stars_last table) at_most)
    (let low : kind_of (get_or ((head_sections table ++ raw_sections table) ++ map parts.Star (trees_of table)) at parts.Table) < 8 = subst (λ l. kind_of (get_or l at parts.Table) < 8) (stars_last table) kind in omega (arith, low)) in
    omega (arith, here, length-append (head_sections table) (raw_sections table))

-- the forward index of a column is the section of that number after those of the head
forward_at : (table : Table) (at column : ℕ) → at < length (sections_of table) → get_or (sections_of table) at parts.Table ≡ parts.Forward column → at ≡ length (head_sections table) + column
forward_at table at column within is =
    let heads : ℕ = length (head_sections table) in
    let behind : List Part = indexes table ++ map parts.Star (trees_of table) in
    let kind : kind_of (get_or (sections_of table) at parts.Table) ≡ 4 = ap kind_of is in
    let first : heads ≤ at = not_less at heads (λ lt. let low = head_kinds table at parts.Table lt in let same = ap kind_of (get_or_append_left (head_sections table) (tail_sections table) parts.Table at lt) in omega (arith, low, same, kind)) in
    let there : get_or (to_forward table ++ behind) at parts.Table ≡ parts.Forward column = subst (λ l. get_or l at parts.Table ≡ parts.Forward column) (forward_first table) is in
    let low : kind_of (get_or (to_forward table ++ behind) at parts.Table) ≡ 4 = ap kind_of there in
    let last : at < length (to_forward table) = not_after 4 at (to_forward table) behind (behind_kinds table) (subst (λ l. at < length l) (forward_first table) within) (omega (arith, low)) in
    let own : get_or (map parts.Forward (columns_of table)) (at - heads) parts.Table ≡ parts.Forward column =
    sym (get_or-append_right (head_sections table) (map parts.Forward (columns_of table)) heads at parts.Table refl first) ∙ sym (get_or_append_left (to_forward table) behind parts.Table at last) ∙ there in
    let plain : 0 + (at - heads) ≡ at - heads = omega arith in
    let made : get_or (map parts.Forward (columns_of table)) (at - heads) parts.Table ≡ parts.Forward (at - heads) =
    get_or-map-range_with_len parts.Forward 0 (length table.schema.fields) (at - heads) (at - heads) parts.Table (let count = to_forward_count table in omega (arith, count, last, first)) plain in
    let same : at - heads ≡ column = ap owner_of (sym made ∙ own) in
    omega (arith, same, first)

-- ---- the sections of the rows of an image

-- where a section of the rows is: before the documents of the star-trees, and after the forward indexes where it is none of them; it has as many bytes as the image has for it
pub record IsRawPlace (table : Table) (segment : Stored) (rows : List (List Value)) (p : Part) (place : Place) : Type 0 where
  pub file_is : place.file ≡ segment.file
  pub ends : place.offset + place.length ≤ (raw_span table segment.name rows).to
  pub long : place.length ≡ length (section_of table rows p)
  pub after : 4 < kind_of p → (forward_span table segment.name rows).to ≤ place.offset

module _ (table : Table) (segment : Stored) (rows : List (List Value)) where
  abbrev front : Front
  front = front_of 1 table rows

  size_at : (ps : List Part) (at : ℕ) → at < length ps → get_or (map length (map (section_of table rows) ps)) at 0 ≡ length (section_of table rows (get_or ps at parts.Table))
  size_at [] at lt = absurd (omega (arith, lt))
  size_at (p ∷ ps) zero lt = refl
  size_at (p ∷ ps) (suc at) lt = size_at ps at (omega (arith, lt))

  pub raw_place : (p : Part) (place : Place) → 0 < kind_of p → kind_of p < 8 → place_in (map (placed segment.file) (extents_of table segment.name front)) p ≡ Some place → IsRawPlace table segment rows p place
  raw_place p place some at_most is =
      let f = found_at segment.file p place (front_size table segment.name) (sections_of table) front.sizes is in
      let from = f.from in
      let to = f.to in
      let within = f.at_most in
      let own : kind_of (get_or (sections_of table) f.at parts.Table) ≡ kind_of p = same_kind (get_or (sections_of table) f.at parts.Table) p f.same in
      let before = raw_before table f.at within (omega (arith, own, at_most)) in
      let sums = fewer_summed front.sizes (suc f.at) (length (head_sections table) + length (raw_sections table)) (omega (arith, before)) in
      record {
        file_is = f.file_is;
        ends = omega (arith, to, sums);
        long = f.long ∙ size_at (sections_of table) f.at within ∙ ap (λ q. length (section_of table rows q)) (same_part (get_or (sections_of table) f.at parts.Table) p f.same some);
        after = λ high.
            let behind = index_after table f.at (omega (arith, own, high)) in
            let count = to_forward_count table in
            let less = fewer_summed front.sizes (length (head_sections table) + length table.schema.fields) f.at (omega (arith, behind, count)) in
            omega (arith, from, less);
      }

  -- the forward index of a column has its own part of the file
  pub column_place : (column : ℕ) (place : Place) → place_in (map (placed segment.file) (extents_of table segment.name front)) (parts.Forward column) ≡ Some place
      → (place.offset ≡ (column_span table segment.name rows column).from) × (place.offset + place.length ≡ (column_span table segment.name rows column).to)
  column_place column place is =
      let f = found_at segment.file (parts.Forward column) place (front_size table segment.name) (sections_of table) front.sizes is in
      let own : get_or (sections_of table) f.at parts.Table ≡ parts.Forward column = same_part (get_or (sections_of table) f.at parts.Table) (parts.Forward column) f.same (omega arith) in
      let there : f.at ≡ length (head_sections table) + column = forward_at table f.at column f.at_most own in
      let next : suc f.at ≡ length (head_sections table) + column + 1 = omega (arith, there) in
      (f.from ∙ ap (λ n. front_size table segment.name + sum (take n front.sizes)) there, f.to ∙ ap (λ n. front_size table segment.name + sum (take n front.sizes)) next)

  -- the documents of the star-trees follow
  pub stars_after : (t : ℕ) → (raw_span table segment.name rows).to ≤ (star_span table segment.name rows t).from
  stars_after t =
      let less = fewer_summed front.sizes (length (head_sections table) + length (raw_sections table)) (length (head_sections table) + length (raw_sections table) + t) (omega arith) in
      omega (arith, less)

-- ---- how many bytes they have

module _ (table : Table) (rows : List (List Value)) (column : ℕ) where
  pub forward_size : length (section_of table rows (parts.Forward column)) ≡ bytes_for (length rows * width_of (count_of rows column))
  forward_size =
      let width : ℕ = width_of (count_of rows column) in
      length-spelled width (ids_of rows column) ∙ ap (λ n. bytes_for (n * width)) (ids-count rows column)

  pub sorted_size : length (section_of table rows (parts.Sorted column)) ≡ 8 * count_of rows column
  sorted_size = sorted_length (count_of rows column) (ids_of rows column)

  pub inverted_size : length (section_of table rows (parts.Inverted column)) ≡ 4 * (count_of rows column + 1 + length rows)
  inverted_size =
      let count : ℕ = count_of rows column in
      posting_length count (ids_of rows column) (ids-below rows column) ∙ ap (λ n. 4 * (count + 1 + n)) (ids-count rows column)

  pub range_size : length (section_of table rows (parts.Range column)) ≡ 4 * (buckets_for (count_of rows column) + 1 + length rows)
  range_size =
      let count : ℕ = count_of rows column in
      let ids : List ℕ = ids_of rows column in
      let below : All (λ k. k < buckets_for count) (map bucket_of ids) =
      All-map (λ k. k < buckets_for count) bucket_of ids (All-weaker (λ id. id < count) (λ id. bucket_of id < buckets_for count) (λ id lt. omega (arith, lt)) ids (ids-below rows column)) in
      posting_length (buckets_for count) (map bucket_of ids) below ∙ ap (λ n. 4 * (buckets_for count + 1 + n)) (length-map ids bucket_of ∙ ids-count rows column)
