-- On the image of rows, what is read of a column are the values of the rows.
use Rattle.std.proofs.Common.{◌≡◌, ◌∙◌, ◌<◌, ◌≤◌, ◌+◌, ◌-◌, ◌^◌, ◌||◌, ◌∷◌, [], ℕ, zero, suc, pos, Bool, true, false, Option, Some, None, All, List, length, map, get_or, slice_get, refl, sym, ap, subst, eq-eqb, arith}
use Rattle.std.specs.Prelude.{if◌then◌else◌}
use Rattle.std.specs.Option.{IsSome}
use Rattle.std.specs.List.{AllZip, list_any, range_with_len}
use Rattle.std.specs.Ordering.{match_ordering}
use Rattle.std.specs.declared.cmp.Ordering.TheVariants as order
use Rattle.std.proofs.lemmas.Bool.{eqb-true, false≢true}
use Rattle.std.proofs.lemmas.List.{length-map, length-replicate, take_all}
use Rattle.std.proofs.lemmas.List.Elements.{All-cons, All-head, All-map, All-nil, All-tail, All-weaker}
use Rattle.std.proofs.lemmas.List.FromFn.{get_or-map-range_with_len}
use Rattle.outside.specs.Files.{Files}
use Rattle.values.specs.declared.value.Value.{Value}
use Rattle.values.specs.declared.value.Value.TheVariants.{Whole}
use Rattle.values.specs.Columns.{Counts, row_of, rows_of}
use Rattle.values.specs.Order.{value_eq, value_order}
use Rattle.values.specs.Order.Laws.{value_eq-equiv}
use Rattle.values.specs.Tests.{is_member}
use Rattle.values.proofs.Bounds.{same_value}
use Rattle.values.proofs.RowLemmas.{length-rows, row-at}
use Rattle.value_ids.specs.Coding.{values_at}
use Rattle.value_ids.specs.Dictionary.{distinct, put_in}
use Rattle.value_ids.proofs.DistinctLemmas.{distinct_members}
use Rattle.bit_column.specs.Column.{ids_between, spelled, width_of}
use Rattle.bit_column.specs.Sections.{Readable}
use Rattle.bit_column.proofs.Spelling.{ids-written, readable-written}
use Rattle.bit_column.proofs.Widths.{width-least}
use Rattle.table_schema.specs.declared.query.BoundQuery.{BoundQuery}
use Rattle.table_schema.specs.declared.table.Table.{Table}
use Rattle.table_schema.specs.Conditions.{cell}
use Rattle.segment_file.specs.declared.part.Part.{Part}
use Rattle.segment_file.specs.declared.part.Part.TheVariants as parts
use Rattle.segment_file.specs.declared.section.Section.{Section}
use Rattle.segment_file.specs.Front.{Front, extents_of, front_bytes, front_size}
use Rattle.segment_head.specs.Heads.{IsHeadOf, IsLoaded, Seen, bytes_in, place_in, placed}
use Rattle.segment_file.specs.Image.{count_of, dictionary_of, file_of_rows, front_of, ids_of, image, place_of, section_of, sections_of_rows}
use Rattle.segment_file.specs.Image as segment
use Rattle.segment_file.specs.Ordered.{ordered, sorted_by, value_in}
use Rattle.segment_file.specs.Ordered as order_of
use Rattle.segment_file.specs.Parts.{columns_of, is_same, sections_of}
use Rattle.segment_file.specs.Rules.{KeepsAll}
use Rattle.segment_file.proofs.Fronts.{front_bytes_size}
use Rattle.segment_file.proofs.ImageKeeps.{image_keeps}
use Rattle.segment_file.proofs.RuleLaws.{fronts_one}
use Rattle.segment_head.proofs.SectionBytes.{any_front, any_raw, cut_section, some_place}
use Rattle.segment_plan.specs.Laws.{HeadTells, TellsOf}
use Rattle.segment_plan.specs.Matched.{values_in, values_of}
use Rattle.segment_scan.specs.Agreement.{Agree, AgreeAll}
use Rattle.column_reader.specs.Forward.{HasIds, forward_in}
use Rattle.segment_scan.specs.Images.{ImagesRead, LoadedAreReadable}
use Rattle.segment_plan.specs.Named.{AreNamedLoaded, names_in, query_names}
use Rattle.segment_scan.specs.Scans.{column_read, columns_read, table_read, values_read}
use Rattle.segment_scan.proofs.AgreementLemmas.{or_right}

-- ---- where the forward section of a column is

pub forward_only : (p : Part) (c : ℕ) → is_same p (parts.Forward c) ≡ true → p ≡ parts.Forward c
forward_only parts.Table c e = absurd (false≢true e)
forward_only parts.Head c e = absurd (false≢true e)
forward_only parts.Bounds c e = absurd (false≢true e)
forward_only (parts.Dictionary d) c e = absurd (false≢true e)
forward_only (parts.Nodes d) c e = absurd (false≢true e)
forward_only (parts.Forward d) c e = ap parts.Forward (eqb-true d c e)
forward_only (parts.Sorted d) c e = absurd (false≢true e)
forward_only (parts.Inverted d) c e = absurd (false≢true e)
forward_only (parts.Range d) c e = absurd (false≢true e)
forward_only (parts.Star d) c e = absurd (false≢true e)

forward_among : (from count k : ℕ) → k < count → list_any (λ p. is_same p (parts.Forward (from + k))) (map parts.Forward (range_with_len from count)) ≡ true
forward_among from zero k lt = absurd (omega (arith, lt))
forward_among from (suc n) zero lt =
    let same : from ≡ from + 0 = omega arith in
    ap (λ b. b || list_any (λ p. is_same p (parts.Forward (from + 0))) (map parts.Forward (range_with_len (from + 1) n))) (eq-eqb from (from + 0) same)
forward_among from (suc n) (suc k) lt =
    let same : from + 1 + k ≡ from + suc k = omega arith in
    or_right (is_same (parts.Forward from) (parts.Forward (from + suc k))) (list_any (λ p. is_same p (parts.Forward (from + suc k))) (map parts.Forward (range_with_len (from + 1) n)))
    (subst (λ m. list_any (λ p. is_same p (parts.Forward m)) (map parts.Forward (range_with_len (from + 1) n)) ≡ true) same (forward_among (from + 1) n k (omega (arith, lt))))

has_forward : (table : Table) (c : ℕ) → c < length table.schema.fields → list_any (λ p. is_same p (parts.Forward c)) (sections_of table) ≡ true
has_forward table c lt =
    let plain : 0 + c ≡ c = omega arith in
    let own : list_any (λ p. is_same p (parts.Forward c)) (map parts.Forward (columns_of table)) ≡ true =
    subst (λ m. list_any (λ p. is_same p (parts.Forward m)) (map parts.Forward (columns_of table)) ≡ true) plain (forward_among 0 (length table.schema.fields) c lt) in
    any_raw table (λ p. is_same p (parts.Forward c)) (any_front (λ p. is_same p (parts.Forward c)) (map parts.Forward (columns_of table)) _ own)

pub columns_few : (table : Table) (head : Seen) (column : ℕ) → IsHeadOf table head → IsLoaded head column → column < length table.schema.fields
columns_few table head column is loaded = omega (arith, some_at head.dictionaries column loaded.0 loaded.1, is.has.slots)
  where
    some_at : {X : Type 0} (xs : List (Option X)) (k : ℕ) (x : X) → slice_get xs k ≡ Some (Some x) → k < length xs
    some_at [] k x at = absurd cc
    some_at (y ∷ ys) zero x at = omega arith
    some_at (y ∷ ys) (suc k) x at = omega (arith, some_at ys k x at)

pub loaded_readable : LoadedAreReadable
loaded_readable table head column is loaded = record {
  loaded = loaded;
  placed = subst (λ sections. IsSome (place_in sections (parts.Forward column))) (sym is.has.sections_are)
      (some_place is.file (parts.Forward column) (front_size table is.name) (sections_of table) is.front.sizes is.each (has_forward table column (columns_few table head column is loaded)));
}

-- ---- values and ids

not_true : (b : Bool) → (b ≡ true → ⊥) → b ≡ false
not_true true other = absurd (other refl)
not_true false other = refl

-- the number of a member leads back to it
pub record IsPlace (vs : List Value) (v : Value) (place : ℕ) : Type 0 where
  pub below : place < length vs
  pub back : get_or vs place (Whole (pos 0)) ≡ v

place_found : (w : Value) (ws : List Value) (v : Value) (same : Bool) → value_eq w v ≡ same → (value_eq v w ≡ true → same ≡ true) → is_member (w ∷ ws) v ≡ true → (is_member ws v ≡ true → IsPlace ws v (place_of ws v))
    → IsPlace (w ∷ ws) v (if same then 0 else suc (place_of ws v))
place_found w ws v true e turn is rest = record { below = omega arith; back = same_value w v e }
place_found w ws v false e turn is rest =
    let other : value_eq v w ≡ false = not_true (value_eq v w) (λ x. false≢true (turn x)) in
    let more = rest (subst (λ b. (b || is_member ws v) ≡ true) other is) in
    record { below = omega (arith, more.below); back = more.back }

place_is : (vs : List Value) (v : Value) → is_member vs v ≡ true → IsPlace vs v (place_of vs v)
place_is [] v is = absurd (false≢true is)
place_is (w ∷ ws) v is = place_found w ws v (value_eq w v) refl (λ e. sym (value_eq-equiv.symm v w) ∙ e) is (place_is ws v)

first_member : (v : Value) (vs : List Value) → is_member (v ∷ vs) v ≡ true
first_member v vs = ap (λ b. b || is_member vs v) (value_eq-equiv.refl v)

-- each of these values is a member of all
all_members : (all vs : List Value) → ((v : Value) → is_member vs v ≡ true → is_member all v ≡ true) → All (λ v. IsPlace all v (place_of all v)) vs
all_members all [] those = All-nil (λ v. IsPlace all v (place_of all v))
all_members all (v ∷ vs) those =
    All-cons (λ v. IsPlace all v (place_of all v)) v vs (place_is all v (those v (first_member v vs))) (all_members all vs (λ w is. those w (or_right (value_eq w v) (is_member vs w) is)))

pub places : (vs : List Value) → All (λ v. IsPlace (distinct vs) v (place_of (distinct vs) v)) vs
places vs = all_members (distinct vs) vs (λ v is. distinct_members v vs ∙ is)

values_back : (all vs : List Value) → All (λ v. IsPlace all v (place_of all v)) vs → values_at all (map (place_of all) vs) ≡ vs
values_back all [] each = refl
values_back all (v ∷ vs) each =
    let P : Value → Type 0 = λ w. IsPlace all w (place_of all w) in
    let one = All-head P v vs each in
    let here : get_or all (place_of all v) (Whole (pos 0)) ≡ v = one.back in
    let more : values_at all (map (place_of all) vs) ≡ vs = values_back all vs (All-tail P v vs each) in
    (λ i. here i ∷ more i)

module _ (os : List (List Value)) (column : ℕ) where
  abbrev pub own : List Value
  own = segment.values_in column os

  values-back : values_at (distinct own) (ids_of os column) ≡ own
  values-back = values_back (distinct own) own (places own)

  pub ids-below : All (λ id. id < count_of os column) (ids_of os column)
  ids-below = All-map (λ id. id < count_of os column) (place_of (distinct own)) own (All-weaker (λ v. IsPlace (distinct own) v (place_of (distinct own) v)) (λ v. place_of (distinct own) v < count_of os column) (λ v is. is.below) own (places own))

  pub ids-count : length (ids_of os column) ≡ length os
  ids-count = length-map own (place_of (distinct own)) ∙ length-map os (value_in column)

  module _ (at_most : count_of os column < 2 ^ 32) where
    ids-small : All (λ id. id < 2 ^ width_of (count_of os column)) (ids_of os column)
    ids-small =
        let enough = (width-least (count_of os column) at_most).1 in
        All-weaker (λ id. id < count_of os column) (λ id. id < 2 ^ width_of (count_of os column)) (λ id lt. omega (arith, lt, enough)) (ids_of os column) ids-below

    ids-back : ids_between (width_of (count_of os column)) 0 (length os) (spelled (width_of (count_of os column)) (ids_of os column)) ≡ ids_of os column
    ids-back =
        ids-written (width_of (count_of os column)) 0 (length os) (ids_of os column) ids-small (omega arith) (omega (arith, ids-count))
        ∙ take_all (length os - 0) (ids_of os column) (omega (arith, ids-count))

    ids-readable : Readable (width_of (count_of os column)) (count_of os column) 0 (length os) (spelled (width_of (count_of os column)) (ids_of os column))
    ids-readable = readable-written (width_of (count_of os column)) (count_of os column) 0 (length os) (ids_of os column) ids-small ids-below (omega arith) (omega (arith, ids-count))

-- ---- how many there are

put_few : (v : Value) (vs : List Value) → length (put_in v vs) ≤ suc (length vs)
put_few v [] = omega arith
put_few v (w ∷ ws) =
    let rest = put_few v ws in
    elim (value_order v w) as (λ o. length (match_ordering o (v ∷ w ∷ ws) (w ∷ ws) (w ∷ put_in v ws)) ≤ suc (length (w ∷ ws))) [
      | order.Less ↦ omega arith
      | order.Equal ↦ omega arith
      | order.Greater ↦ omega (arith, rest)
    ]

pub distinct_few : (vs : List Value) → length (distinct vs) ≤ length vs
distinct_few [] = omega arith
distinct_few (v ∷ vs) = omega (arith, put_few v (distinct vs), distinct_few vs)

placed_count : (column : ℕ) (row : List Value) (rows : List (List Value)) → length (order_of.placed column row rows) ≡ suc (length rows)
placed_count column row [] = refl
placed_count column row (first ∷ rows) =
    elim (value_order (value_in column row) (value_in column first)) as (λ o. length (match_ordering o (row ∷ first ∷ rows) (row ∷ first ∷ rows) (first ∷ order_of.placed column row rows)) ≡ suc (length (first ∷ rows))) [
      | order.Less ↦ refl
      | order.Equal ↦ refl
      | order.Greater ↦ ap suc (placed_count column row rows)
    ]

sorted_count : (column : ℕ) (rows : List (List Value)) → length (sorted_by column rows) ≡ length rows
sorted_count column [] = refl
sorted_count column (row ∷ rows) = placed_count column row (sorted_by column rows) ∙ ap suc (sorted_count column rows)

pub ordered_count : (sorted : Option ℕ) (rows : List (List Value)) → length (ordered sorted rows) ≡ length rows
ordered_count None rows = refl
ordered_count (Some column) rows = sorted_count column rows

-- ---- rows by columns

zip_from : {X Y : Type 0} (R : X → Y → Type 0) (xs : List X) (ys : List Y) → length xs ≡ length ys → ((k : ℕ) (x : X) (y : Y) → slice_get xs k ≡ Some x → slice_get ys k ≡ Some y → R x y) → AllZip R xs ys
zip_from R [] [] e h = tt
zip_from R [] (y ∷ ys) e h = absurd (omega (arith, e))
zip_from R (x ∷ xs) [] e h = absurd (omega (arith, e))
zip_from R (x ∷ xs) (y ∷ ys) e h = (h 0 x y refl refl, zip_from R xs ys (omega (arith, e)) (λ k. h (suc k)))

mapped_at : (f : List Value → Value) (rows : List (List Value)) (k : ℕ) (row : List Value) (d : Value) → slice_get rows k ≡ Some row → get_or (map f rows) k d ≡ f row
mapped_at f [] k row d at = absurd cc
mapped_at f (r ∷ rs) zero row d at = let same : r ≡ row = cc in ap f same
mapped_at f (r ∷ rs) (suc k) row d at = mapped_at f rs k row d at

within : {X : Type 0} (xs : List X) (k : ℕ) (x : X) → slice_get xs k ≡ Some x → k < length xs
within [] k x at = absurd cc
within (y ∷ ys) zero x at = omega arith
within (y ∷ ys) (suc k) x at = omega (arith, within ys k x at)

pub item_there : {X : Type 0} (d : X) (xs : List X) (k : ℕ) → k < length xs → slice_get xs k ≡ Some (get_or xs k d)
item_there d [] k lt = absurd (omega (arith, lt))
item_there d (x ∷ xs) zero lt = refl
item_there d (x ∷ xs) (suc k) lt = item_there d xs k (omega (arith, lt))

module _ (files : Files) (head : Seen) where
  one_counts : (n : ℕ) (b : Bool) → (b ≡ true → length (values_read files head n true) ≡ head.rows) → length (values_read files head n b) ≡ head.rows
  one_counts n true h = h refl
  one_counts n false h = length-replicate head.rows (Whole (pos 0))

  all_count : (n : ℕ) (marks : List Bool) → ((k : ℕ) → get_or marks k false ≡ true → length (values_read files head (n + k) true) ≡ head.rows) → All (Counts head.rows) (columns_read files head n marks)
  all_count n [] h = All-nil (Counts head.rows)
  all_count n (b ∷ bs) h =
      let plain : n + 0 ≡ n = omega arith in
      let next : (k : ℕ) → n + suc k ≡ suc n + k = (λ k. omega arith) in
      All-cons (Counts head.rows) (column_read files head n b) (columns_read files head (suc n) bs)
      (one_counts n b (λ is. subst (λ m. length (values_read files head m true) ≡ head.rows) plain (h 0 is)))
      (all_count (suc n) bs (λ k is. subst (λ m. length (values_read files head m true) ≡ head.rows) (next k) (h (suc k) is)))

  cell_read : (n k at : ℕ) (marks : List Bool) → get_or marks k false ≡ true → cell (row_of (columns_read files head n marks) at) k ≡ get_or (values_read files head (n + k) true) at (Whole (pos 0))
  cell_read n k at [] is = absurd (false≢true is)
  cell_read n zero at (b ∷ bs) is = let plain : n ≡ n + 0 = omega arith in (λ i. get_or (values_read files head (plain i) (is i)) at (Whole (pos 0)))
  cell_read n (suc k) at (b ∷ bs) is =
      let next : suc n + k ≡ n + suc k = omega arith in
      cell_read (suc n) k at bs is ∙ (λ i. get_or (values_read files head (next i) true) at (Whole (pos 0)))

pub marked_named : (p : ℕ → Bool) (from n k : ℕ) → get_or (map p (range_with_len from n)) k false ≡ true → p (from + k) ≡ true
marked_named p from zero k marked = absurd (false≢true marked)
marked_named p from (suc n) zero marked = let plain : from + 0 ≡ from = omega arith in ap p plain ∙ marked
marked_named p from (suc n) (suc k) marked = let next : from + suc k ≡ from + 1 + k = omega arith in ap p next ∙ marked_named p (from + 1) n k marked

-- ---- the law

moved : (vs ws : List Value) (n m : ℕ) (bs cs : List ℕ) → vs ≡ ws → n ≡ m → bs ≡ cs → Readable (width_of (length ws)) (length ws) 0 m cs → Readable (width_of (length vs)) (length vs) 0 n bs
moved vs ws n m bs cs v r b h =
    subst (λ (l : List Value). Readable (width_of (length l)) (length l) 0 n bs) (sym v)
    (subst (λ k. Readable (width_of (length ws)) (length ws) 0 k bs) (sym r) (subst (λ (l : List ℕ). Readable (width_of (length ws)) (length ws) 0 m l) (sym b) h))

module _ (table : Table) (os : List (List Value)) (files : Files) (head : Seen) (at_most : length os ≤ 1048576) (tells : TellsOf table os head) (forward : (c : ℕ) → c < length table.schema.fields → forward_in files head c ≡ section_of table os (parts.Forward c)) (is : IsHeadOf table head) where
  values-are : (c : ℕ) → IsLoaded head c → values_in head c ≡ distinct (segment.values_in c os)
  values-are c loaded = ap values_of loaded.1 ∙ ap (λ x. x.values) (tells.dictionaries_are c loaded.0 loaded.1)

  bytes-are : (c : ℕ) → IsLoaded head c → forward_in files head c ≡ spelled (width_of (count_of os c)) (ids_of os c)
  bytes-are c loaded = forward c (columns_few table head c is loaded)

  count-few : (c : ℕ) → count_of os c < 2 ^ 32
  count-few c = let rows : length (segment.values_in c os) ≡ length os = length-map os (value_in c) in omega (arith, at_most, rows, distinct_few (segment.values_in c os))

  column-read : (c : ℕ) → IsLoaded head c → values_read files head c true ≡ segment.values_in c os
  column-read c loaded =
      (λ i. values_at (values-are c loaded i) (ids_between (width_of (length (values-are c loaded i))) 0 (tells.rows_are i) (bytes-are c loaded i)))
      ∙ ap (values_at (distinct (segment.values_in c os))) (ids-back os c (count-few c))
      ∙ values-back os c

  column-readable : (c : ℕ) → IsLoaded head c → HasIds files head c
  column-readable c loaded =
      moved (values_in head c) (distinct (segment.values_in c os)) head.rows (length os) (forward_in files head c) (spelled (width_of (count_of os c)) (ids_of os c)) (values-are c loaded) tells.rows_are (bytes-are c loaded) (ids-readable os c (count-few c))

  module _ (query : BoundQuery) (loaded : AreNamedLoaded query head) where
    abbrev marks : List Bool
    marks = names_in query table

    mark-is : (c : ℕ) → query_names query c ≡ true → get_or marks c false ≡ true
    mark-is c named =
        let plain : 0 + c ≡ c = omega arith in
        get_or-map-range_with_len (query_names query) 0 (length table.schema.fields) c c false (columns_few table head c is (loaded c named)) plain ∙ named

    counts-are : All (Counts head.rows) (columns_read files head 0 marks)
    counts-are =
        all_count files head 0 marks (λ k marked.
        ap length (column-read (0 + k) (loaded (0 + k) (marked_named (query_names query) 0 (length table.schema.fields) k marked))) ∙ length-map os (value_in (0 + k)) ∙ sym tells.rows_are)

    row-agrees : (k : ℕ) (other : List Value) → slice_get os k ≡ Some other → Agree (query_names query) (row_of (columns_read files head 0 marks) k) other
    row-agrees k other there column named =
        let plain : 0 + column ≡ column = omega arith in
        cell_read files head 0 column k marks (mark-is column named)
        ∙ ap (λ m. get_or (values_read files head m true) k (Whole (pos 0))) plain
        ∙ ap (λ (l : List Value). get_or l k (Whole (pos 0))) (column-read column (loaded column named))
        ∙ mapped_at (value_in column) os k other (Whole (pos 0)) there

    rows-agree : AgreeAll (query_names query) (rows_of (table_read files head marks)) os
    rows-agree =
        zip_from (Agree (query_names query)) (rows_of (table_read files head marks)) os (length-rows head.rows (columns_read files head 0 marks) counts-are ∙ tells.rows_are) each-row
      where
        each-row : (k : ℕ) (row other : List Value) → slice_get (rows_of (table_read files head marks)) k ≡ Some row → slice_get os k ≡ Some other → Agree (query_names query) row other
        each-row k row other at there column named =
            let lt : k < head.rows = omega (arith, within os k other there, tells.rows_are) in
            let found : Some (row_of (columns_read files head 0 marks) k) ≡ Some row = sym (row-at head.rows k (columns_read files head 0 marks) lt counts-are) ∙ at in
            let same : row_of (columns_read files head 0 marks) k ≡ row = cc in
            ap (λ (r : List Value). cell r column) (sym same) ∙ row-agrees k other there column named

    each-agrees : (k : ℕ) → k < length os → Agree (query_names query) (row_of (columns_read files head 0 marks) k) (get_or os k [])
    each-agrees k lt = row-agrees k (get_or os k []) (item_there [] os k lt)

pub images_read : HeadTells → ImagesRead
images_read law query table files rows head valid is loaded of =
    let os : List (List Value) = ordered table.settings.sorted rows in
    let front : Front = front_of 1 table os in
    let tells : TellsOf table os head = law table of.name of.file rows of.whole head valid of.named of.can of.is_head of.part in
    let keeps : KeepsAll table of.name (image 1 table of.name rows) front (map (dictionary_of table os) (columns_of table)) = image_keeps table of.name rows valid of.named of.can in
    let same : of.is_head.front ≡ front = fronts_one table of.name (image 1 table of.name rows) front of.is_head.front keeps.front_is of.is_head.keeps.front_is in
    let sections : head.sections ≡ map (placed of.file) (extents_of table of.name front) = of.part.sections_same ∙ of.is_head.sections_are ∙ ap (λ (f : Front). map (placed of.file) (extents_of table of.name f)) same in
    let sizes : length front.sizes ≡ length (sections_of table) = length-map (sections_of_rows table os) length ∙ length-map (sections_of table) (section_of table os) in
    let forward : (c : ℕ) → c < length table.schema.fields → forward_in files head c ≡ section_of table os (parts.Forward c) =
    (λ c lt. ap (λ (s : List Section). bytes_in files (place_in s (parts.Forward c))) sections
    ∙ cut_section files of.file (section_of table os) (parts.Forward c) (λ p same. forward_only p c same) (front_bytes table of.name front) (front_size table of.name) (sections_of table) (front_bytes_size table of.name front sizes) of.stored (has_forward table c lt)) in
    let at_most : length os ≤ 1048576 = omega (arith, tells.rows_are, is.at_most, is.has.rows_are) in
    record {
      count = tells.rows_are ∙ ordered_count table.settings.sorted rows;
      agree = rows-agree table os files head at_most tells forward is query loaded;
      readable = λ column named. column-readable table os files head at_most tells forward is column (loaded column named);
      each = λ at lt. each-agrees table os files head at_most tells forward is query loaded at (omega (arith, lt, ordered_count table.settings.sorted rows));
    }
