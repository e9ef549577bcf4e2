-- No section is so long that the places in a file are not numbers of 64 bits.
use Rattle.std.proofs.Common.{◌≡◌, ◌<◌, ◌≤◌, ◌+◌, ◌*◌, ◌^◌, ◌∷◌, ◌++◌, [], ℕ, zero, suc, List, Some, length, map, sum, take, get_or, ap, arith, refl}
use Rattle.std.proofs.Math.Nat.{mul-le-mul_right}
use Rattle.std.proofs.lemmas.List.{length-append, length-map}
use Rattle.std.proofs.lemmas.List.Elements.{All-append, All-cons, All-get_or, All-head, All-map, All-nil, All-tail}
use Rattle.std.proofs.lemmas.List.FromFn.{length-map-range_with_len}
use Rattle.std.proofs.lemmas.Grind.{flat_map-append}
use Rattle.std.proofs.lemmas.List.Sums.{sum-map, sum_by-cons}
use Rattle.std.specs.List.{All, AllByRecursion, range_with_len, sum_by}
use Rattle.std.specs.Ordering.{match_ordering}
use Rattle.std.specs.declared.cmp.Ordering.TheVariants as order
use Rattle.data_types.specs.declared.kind.FieldKind.{FieldKind}
use Rattle.data_types.specs.declared.kind.FieldKind.TheVariants as kind
use Rattle.values.specs.declared.value.Value.{Value}
use Rattle.values.specs.declared.value.Value.TheVariants.{Whole, Text}
use Rattle.values.specs.Order.{value_order}
use Rattle.value_ids.specs.Dictionary.{Distinct, Fits, distinct, most_values, put_in}
use Rattle.dictionary.specs.Spelling.{body, counted, number_bytes, numbers, offsets, spelling, text_bytes, texts}
use Rattle.dictionary.proofs.Bytes.{length-counted}
use Rattle.dictionary.proofs.Numbers.{length-number}
use Rattle.dictionary.proofs.Texts.{length-offsets}
use Rattle.bit_column.specs.Column.{IsWidth, spelled, width_of}
use Rattle.bit_column.proofs.Spelling.{length-spelled}
use Rattle.bit_column.proofs.Widths.{width-least}
use Rattle.segment_file.specs.declared.bounds.Ends.{Ends}
use Rattle.segment_file.specs.Bounds.{IsShort, bound_bytes, bounds_bytes, bounds_of, ends_of, pair_bytes}
use Rattle.segment_file.specs.Front.{file_end, short}
use Rattle.segment_file.specs.Image.{count_of, dictionary_of, front_of, ids_of, kind_at, place_of, section_of, sections_of_rows, values_in}
use Rattle.segment_file.specs.Names.{IsSegmentName}
use Rattle.segment_file.specs.Ordered.{value_in}
use Rattle.segment_file.specs.Parts.{marked, sections_of}
use Rattle.segment_file.specs.declared.part.Part.TheVariants as parts
use Rattle.segment_file.proofs.BoundLemmas.{fits_short}
use Rattle.segment_file.proofs.Counts.{few_sections}
use Rattle.segment_build.proofs.Stable.{ids_below, ids_count}
use Rattle.bit_column.specs.Postings.{bucket_of, buckets_for}
use Rattle.bit_column.proofs.PostingLaws.{buckets_in, posting_length}
use Rattle.bit_column.proofs.SortedLaws.{sorted_length}
use Rattle.table_schema.specs.ValidTable.{IsRow, IsValidTable}
use Rattle.table_schema.specs.declared.table.Table.{Table}
use Rattle.table_schema.specs.declared.field.Field.{Field}
use Rattle.table_schema.specs.declared.settings.TreeSetting.{TreeSetting}
use Rattle.table_schema.specs.ValidSettings.{IsValidTree}
use Rattle.segment_file.specs.Trees.{TreeFits, nodes_of, star_of}
use Rattle.segment_file.proofs.TreeRows.{tree_sections}
use Rattle.segment_build.specs.Growing.{nodes_grown, stars_grown}
use Rattle.segment_build.specs.Sections.{in_order, made_of, sorted_among}
use borrow.Author.Tests.{leb-true}

-- ---- the distinct values of a column

put_length : (v : Value) (vs : List Value) → length (put_in v vs) ≤ length vs + 1
put_length v [] = omega arith
put_length v (w ∷ ws) =
    elim (value_order v w) as (λ o. length (match_ordering o (v ∷ w ∷ ws) (w ∷ ws) (w ∷ put_in v ws)) ≤ length (w ∷ ws) + 1) [
      | order.Less ↦ omega arith
      | order.Equal ↦ omega arith
      | order.Greater ↦ let more = put_length v ws in omega (arith, more)
    ]

pub few_distinct : (vs : List Value) → length (distinct vs) ≤ length vs
few_distinct [] = omega arith
few_distinct (v ∷ vs) =
    let one = put_length v (distinct vs) in
    let rest = few_distinct vs in
    omega (arith, one, rest)

put_all : (P : Value → Type 0) (v : Value) (vs : List Value) → P v → All P vs → All P (put_in v vs)
put_all P v [] p all = All-cons P v [] p all
put_all P v (w ∷ ws) p all =
    elim (value_order v w) as (λ o. All P (match_ordering o (v ∷ w ∷ ws) (w ∷ ws) (w ∷ put_in v ws))) [
      | order.Less ↦ All-cons P v (w ∷ ws) p all
      | order.Equal ↦ all
      | order.Greater ↦ All-cons P w (put_in v ws) (All-head P w ws all) (put_all P v ws p (All-tail P w ws all))
    ]

distinct_all : (P : Value → Type 0) (vs : List Value) → All P vs → All P (distinct vs)
distinct_all P [] all = All-nil P
distinct_all P (v ∷ vs) all = put_all P v (distinct vs) (All-head P v vs all) (distinct_all P vs (All-tail P v vs all))

-- ---- values

small_number : (v : Value) → length (number_bytes v) ≤ 8
unfolding number_bytes
small_number (Whole z) = omega (arith, length-number z)
small_number (Text t) = omega arith

small_text : (v : Value) → IsShort v → length (text_bytes v) ≤ 512
small_text (Whole z) is = omega arith
small_text (Text t) is = is

length-short : (n : ℕ) → length (short n) ≡ 2
unfolding short
length-short n = refl

small_bound : (v : Value) → IsShort v → length (bound_bytes v) ≤ 514
small_bound (Whole z) is = omega (arith, length-number z)
small_bound (Text t) is = omega (arith, length-append (short (length t)) t, length-short (length t), is)

small_numbers : (vs : List Value) → length (numbers vs) ≤ 8 * length vs
small_numbers [] = omega arith
small_numbers (v ∷ vs) = omega (arith, length-append (number_bytes v) (numbers vs), small_number v, small_numbers vs)

small_texts : (vs : List Value) → All IsShort vs → length (texts vs) ≤ 512 * length vs
small_texts [] all = omega arith
small_texts (v ∷ vs) all = omega (arith, length-append (text_bytes v) (texts vs), small_text v (All-head IsShort v vs all), small_texts vs (All-tail IsShort v vs all))

small_body : (k : FieldKind) (vs : List Value) → All IsShort vs → length (body k vs) ≤ 516 * length vs + 4
small_body kind.Int vs all = omega (arith, small_numbers vs)
small_body kind.Long vs all = omega (arith, small_numbers vs)
small_body kind.Text vs all = omega (arith, length-append (offsets 0 vs) (texts vs), length-offsets 0 vs, small_texts vs all)

all_short : (k : FieldKind) (vs : List Value) → All (Fits k) vs → All IsShort vs
all_short k [] all = All-nil IsShort
all_short k (v ∷ vs) all = All-cons IsShort v vs (fits_short k v (All-head (Fits k) v vs all)) (all_short k vs (All-tail (Fits k) v vs all))

-- the values of a column are short
pub short_values : (k : FieldKind) (vs : List Value) → All (Fits k) vs → All IsShort (distinct vs)
short_values k vs all = distinct_all IsShort vs (all_short k vs all)

-- ---- sections

-- the length of a section
abbrev pub IsSmall : List ℕ → Type 0
IsSmall bytes = length bytes ≤ 2 ^ 30

pub small_dictionary : (k : FieldKind) (vs : List Value) → length vs ≤ most_values → All IsShort (distinct vs) → IsSmall (spelling (record { kind = k; values = distinct vs }))
small_dictionary k vs at_most all =
    let n : ℕ = length (distinct vs) in
    omega (arith, length-append (counted n) (body k (distinct vs)), length-counted n, small_body k (distinct vs) all, few_distinct vs, at_most)

width_small : (count : ℕ) → count ≤ most_values → width_of count ≤ 20
width_small count at_most =
    let least : IsWidth count (width_of count) = width-least count (omega (arith, at_most)) in
    least.2 20 (omega arith) (omega (arith, at_most))

pub small_forward : (ids : List ℕ) (count : ℕ) → length ids ≤ most_values → count ≤ most_values → IsSmall (spelled (width_of count) ids)
small_forward ids count at_most most =
    let width = width_small count most in
    let bits : length ids * width_of count ≤ 1048576 * width_of count = mul-le-mul_right (width_of count) at_most in
    omega (arith, length-spelled (width_of count) ids, bits, width)

ends_small : (vs : List Value) → All IsShort vs → length (bounds_bytes (ends_of vs)) ≤ 1028
ends_small [] all = omega arith
ends_small (v ∷ vs) all =
    let last : Value = get_or (v ∷ vs) (length vs) v in
    let e : Ends = record { least = v; greatest = last } in
    let short_last : IsShort last = All-get_or IsShort (v ∷ vs) (length vs) v (omega arith) all in
    omega (arith, length-append (pair_bytes e) [], length-append (bound_bytes v) (bound_bytes last), small_bound v (All-head IsShort v vs all), small_bound last short_last)

bounds_small : (ds : List Distinct) → All (λ d. All IsShort d.values) ds → length (bounds_bytes (bounds_of ds)) ≤ 1028 * length ds
bounds_small [] all = omega arith
bounds_small (d ∷ ds) all =
    let P : Distinct → Type 0 = λ d. All IsShort d.values in
    let one = ends_small d.values (All-head P d ds all) in
    let rest = bounds_small ds (All-tail P d ds all) in
    omega (arith, ap length (flat_map-append pair_bytes (ends_of d.values) (bounds_of ds)), length-append (bounds_bytes (ends_of d.values)) (bounds_bytes (bounds_of ds)), one, rest)

all_range : {X : Type 0} (P : X → Type 0) (f : ℕ → X) (a n : ℕ) → ((c : ℕ) → c < a + n → P (f c)) → All P (map f (range_with_len a n))
all_range P f a zero each = All-nil P
all_range P f a (suc n) each = All-cons P (f a) (map f (range_with_len (a + 1) n)) (each a (omega arith)) (all_range P f (a + 1) n (λ c below. each c (omega (arith, below))))

-- the values of rows in a column are few and short
pub record IsModest (rows : List (List Value)) (column : ℕ) : Type 0 where
  pub at_most : length (values_in column rows) ≤ most_values
  pub short : All IsShort (distinct (values_in column rows))

forward_modest : (rows : List (List Value)) (c : ℕ) → IsModest rows c → IsSmall (spelled (width_of (count_of rows c)) (ids_of rows c))
forward_modest rows c modest =
    small_forward (ids_of rows c) (count_of rows c)
    (omega (arith, length-map (values_in c rows) (place_of (distinct (values_in c rows))), modest.at_most))
    (omega (arith, few_distinct (values_in c rows), modest.at_most))

every : (P : ℕ → Type 0) (cs : List ℕ) → ((c : ℕ) → P c) → All P cs
every P [] each = All-nil P
every P (c ∷ cs) each = All-cons P c cs (each c) (every P cs each)

runs_small : (table : Table) (rows : List (List Value)) (c : ℕ) → length rows ≤ most_values → IsSmall (section_of table rows (parts.Sorted c))
runs_small table rows c at_most = omega (arith, sorted_length (count_of rows c) (ids_of rows c), few_distinct (values_in c rows), length-map rows (value_in c), at_most)

lists_small : (table : Table) (rows : List (List Value)) (c : ℕ) → length rows ≤ most_values → IsSmall (section_of table rows (parts.Inverted c))
lists_small table rows c at_most = omega (arith, posting_length (count_of rows c) (ids_of rows c) (ids_below rows c), ids_count rows c, few_distinct (values_in c rows), length-map rows (value_in c), at_most)

bucket_count : (ids : List ℕ) → length (map bucket_of ids) ≡ length ids
bucket_count ids = length-map ids bucket_of

ranges_small : (table : Table) (rows : List (List Value)) (c : ℕ) → length rows ≤ most_values → IsSmall (section_of table rows (parts.Range c))
ranges_small table rows c at_most =
    let count = count_of rows c in
    let long = posting_length (buckets_for count) (map bucket_of (ids_of rows c)) (buckets_in count (ids_of rows c) (ids_below rows c)) in
    omega (arith, long, bucket_count (ids_of rows c), ids_count rows c, few_distinct (values_in c rows), length-map rows (value_in c), at_most)

-- nor are those of trees
pub nodes_small : (columns : List Field) (rows : List (List Value)) (trees : List TreeSetting) → AllByRecursion (IsValidTree columns) trees → length rows ≤ 1048576 → All (IsRow columns) rows → All (TreeFits rows) trees → All IsSmall (nodes_grown rows trees)
nodes_small columns rows [] valid at_most each fits = All-nil IsSmall
nodes_small columns rows (t ∷ ts) valid at_most each fits =
    let s = tree_sections columns rows t valid.0 at_most each (All-head (TreeFits rows) t ts fits) in
    All-cons IsSmall (nodes_of rows (Some t)) (nodes_grown rows ts) (omega (arith, s.nodes_long, s.bytes)) (nodes_small columns rows ts valid.1 at_most each (All-tail (TreeFits rows) t ts fits))

pub stars_small : (columns : List Field) (rows : List (List Value)) (trees : List TreeSetting) → AllByRecursion (IsValidTree columns) trees → length rows ≤ 1048576 → All (IsRow columns) rows → All (TreeFits rows) trees → All IsSmall (stars_grown rows trees)
stars_small columns rows [] valid at_most each fits = All-nil IsSmall
stars_small columns rows (t ∷ ts) valid at_most each fits =
    let s = tree_sections columns rows t valid.0 at_most each (All-head (TreeFits rows) t ts fits) in
    All-cons IsSmall (star_of rows (Some t)) (stars_grown rows ts) (omega (arith, s.docs_size, s.bytes)) (stars_small columns rows ts valid.1 at_most each (All-tail (TreeFits rows) t ts fits))

-- none of the sections of the first so many columns and of these trees is long
pub made_small : (table : Table) (rows : List (List Value)) (count : ℕ) (nodes stars : List (List ℕ)) → count ≤ 64 → length rows ≤ most_values → ((c : ℕ) → c < count → IsModest rows c) → All IsSmall nodes → All IsSmall stars
    → All IsSmall (in_order (made_of table rows count) nodes stars)
made_small table rows count nodes stars at_most most modest small_nodes small_stars =
    let columns : List ℕ = range_with_len 0 count in
    let ds : List Distinct = map (dictionary_of table rows) columns in
    let dictionaries : ℕ → List ℕ = λ c. section_of table rows (parts.Dictionary c) in
    let forwards : ℕ → List ℕ = λ c. section_of table rows (parts.Forward c) in
    let runs : ℕ → List ℕ = λ c. section_of table rows (parts.Sorted c) in
    let lists : ℕ → List ℕ = λ c. section_of table rows (parts.Inverted c) in
    let ranges : ℕ → List ℕ = λ c. section_of table rows (parts.Range c) in
    let sorted : List ℕ = sorted_among count table.settings.sorted in
    let marks : List ℕ = marked (take count table.settings.inverted) in
    let others : List ℕ = marked (take count table.settings.ranged) in
    let here : (c : ℕ) → c < 0 + count → IsModest rows c = λ c below. modest c (omega (arith, below)) in
    let bounds = bounds_small ds (all_range (λ d. All IsShort d.values) (dictionary_of table rows) 0 count (λ c below. (here c below).short)) in
    let number : length ds ≡ count = length-map-range_with_len (dictionary_of table rows) 0 count in
    let last : All IsSmall (map lists marks ++ map ranges others) =
    All-append IsSmall (map lists marks) (map ranges others)
    (All-map IsSmall lists marks (every (λ c. IsSmall (lists c)) marks (λ c. lists_small table rows c most)))
    (All-map IsSmall ranges others (every (λ c. IsSmall (ranges c)) others (λ c. ranges_small table rows c most))) in
    let more : All IsSmall (map runs sorted ++ (map lists marks ++ map ranges others)) =
    All-append IsSmall (map runs sorted) (map lists marks ++ map ranges others)
    (All-map IsSmall runs sorted (every (λ c. IsSmall (runs c)) sorted (λ c. runs_small table rows c most))) last in
    let raw : All IsSmall (map forwards columns ++ (map runs sorted ++ (map lists marks ++ map ranges others))) =
    All-append IsSmall (map forwards columns) (map runs sorted ++ (map lists marks ++ map ranges others)) (all_range IsSmall forwards 0 count (λ c below. forward_modest rows c (here c below))) more in
    let rest : List (List ℕ) = map forwards columns ++ (map runs sorted ++ (map lists marks ++ map ranges others)) in
    All-cons IsSmall (bounds_bytes (bounds_of ds)) ((map dictionaries columns ++ nodes) ++ (rest ++ stars)) (omega (arith, bounds, number, at_most))
    (All-append IsSmall (map dictionaries columns ++ nodes) (rest ++ stars)
    (All-append IsSmall (map dictionaries columns) nodes (all_range IsSmall dictionaries 0 count (λ c below. small_dictionary (kind_at table c) (values_in c rows) (here c below).at_most (here c below).short)) small_nodes)
    (All-append IsSmall rest stars raw small_stars))

sum_by_small : (xs : List (List ℕ)) → All IsSmall xs → sum_by length xs ≤ 2 ^ 30 * length xs
sum_by_small [] all = omega arith
sum_by_small (x ∷ xs) all = omega (arith, sum_by-cons {X = List ℕ} length x xs, All-head IsSmall x xs all, sum_by_small xs (All-tail IsSmall x xs all))

sum_small : (xs : List (List ℕ)) → All IsSmall xs → sum (map length xs) ≤ 2 ^ 30 * length xs
sum_small xs all = omega (arith, sum-map {X = List ℕ} length xs, sum_by_small xs all)

-- the file of small sections ends before the greatest place
pub file_short : (table : Table) (name : List ℕ) (rows : List (List Value)) → IsValidTable table → IsSegmentName name → All IsSmall (sections_of_rows table rows) → file_end table name (front_of 1 table rows) < 2 ^ 64
file_short table name rows valid named small =
    let total = sum_small (sections_of_rows table rows) small in
    let number : length (sections_of_rows table rows) ≡ length (sections_of table) = length-map (sections_of table) (section_of table rows) in
    let at_most = few_sections table valid in
    let short_name : length name ≤ 64 = leb-true (length name) 64 named.at_most in
    omega (arith, total, number, at_most, short_name)
