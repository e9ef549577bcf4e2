-- How long the sections of rows are.
use Rattle.std.proofs.Common.{◌≡◌, ◌∙◌, ◌<◌, ◌≤◌, ◌+◌, ◌*◌, ◌^◌, ℕ, zero, suc, Bool, true, false, All, List, [], ◌∷◌, ◌++◌, length, map, sum, refl, ap, arith}
use Rattle.std.proofs.lemmas.Bool.{false≢true}
use Rattle.std.proofs.lemmas.List.{length-append, length-map}
use Rattle.std.proofs.lemmas.List.Elements.{All-append, All-cons, All-head, All-map, All-nil, All-tail, All-weaker}
use Rattle.std.proofs.lemmas.List.Sums.{sum_by-cons}
use Rattle.std.proofs.lemmas.Nat.{mul-le}
use Rattle.std.specs.List.{AllZip, range_with_len}
use Rattle.data_types.specs.declared.kind.FieldKind.{FieldKind}
use Rattle.data_types.specs.declared.kind.FieldKind.TheVariants as kind
use Rattle.values.specs.declared.value.Value.{Value}
use Rattle.values.specs.declared.value.Value.TheVariants.{Whole, Text}
use Rattle.bit_column.proofs.PostingLaws.{buckets_in, posting_length}
use Rattle.bit_column.proofs.SortedLaws.{sorted_length}
use Rattle.bit_column.proofs.Spelling.{length-spelled}
use Rattle.bit_column.specs.Column.{bytes_for, width_of}
use Rattle.bit_column.specs.Postings.{bucket_of, buckets_for}
use Rattle.value_ids.specs.Dictionary.{Distinct, Fits, IsDictionary, IsUnicode}
use Rattle.dictionary.specs.Spelling.{body, counted, offsets, spelling, text_bytes, texts}
use Rattle.dictionary.proofs.Bytes.{length-counted}
use Rattle.dictionary.proofs.Numbers.{length-number, length-numbers}
use Rattle.dictionary.proofs.Texts.{length-offsets}
use Rattle.table_schema.specs.declared.field.Field.{Field}
use Rattle.table_schema.specs.declared.table.Table.{Table}
use Rattle.table_schema.specs.ValidTable.{IsRow, IsValidTable}
use Rattle.segment_file.specs.declared.bounds.Ends.{Ends}
use Rattle.segment_file.specs.declared.part.Part.{Part}
use Rattle.segment_file.specs.declared.part.Part.TheVariants as parts
use Rattle.segment_file.specs.Bounds.{MayBound, MayEnd, bound_bytes, bounds_bytes, pair_bytes}
use Rattle.segment_file.specs.Front.{file_end, short}
use Rattle.segment_file.specs.Image.{count_of, dictionary_of, front_of, ids_of, section_of}
use Rattle.segment_file.specs.Parts.{columns_of, head_sections, owner_of, sections_of, tail_sections, trees_of}
use Rattle.segment_file.specs.Reading.{IsTailPart}
use Rattle.segment_file.specs.Trees.{TreeFits, nodes_of, star_of}
use Rattle.segment_file.specs.Rules.{size_for}
use Rattle.segment_file.proofs.BoundLemmas.{fits_short}
use Rattle.segment_file.proofs.BoundReads.{length-short}
use Rattle.segment_file.proofs.Tails.{tail_parts}
use Rattle.segment_file.proofs.TreeRows.{TreeThere, tree_there}
use Rattle.segment_file.proofs.Counts.{few_sections}
use Rattle.segment_file.proofs.ImageRows.{column_dictionary, few_values, ids_below, ids_count}

-- ---- the sections of the rows

abbrev pub is_raw : Part → Bool
is_raw (parts.Forward column) = true
is_raw (parts.Sorted column) = true
is_raw (parts.Inverted column) = true
is_raw (parts.Range column) = true
is_raw other = false

pub raw_size : (table : Table) (os : List (List Value)) (p : Part) → is_raw p ≡ true → length (section_of table os p) ≡ size_for (length os) (count_of os (owner_of p)) p
raw_size table os parts.Table raw = absurd (false≢true raw)
raw_size table os parts.Head raw = absurd (false≢true raw)
raw_size table os parts.Bounds raw = absurd (false≢true raw)
raw_size table os (parts.Dictionary column) raw = absurd (false≢true raw)
raw_size table os (parts.Nodes tree) raw = absurd (false≢true raw)
raw_size table os (parts.Star tree) raw = absurd (false≢true raw)
raw_size table os (parts.Forward column) raw =
    let width : ℕ = width_of (count_of os column) in
    length-spelled width (ids_of os column) ∙ ap (λ n. bytes_for (n * width)) (ids_count os column)
raw_size table os (parts.Sorted column) raw = sorted_length (count_of os column) (ids_of os column)
raw_size table os (parts.Inverted column) raw =
    let count : ℕ = count_of os column in
    posting_length count (ids_of os column) (ids_below os column) ∙ ap (λ n. 4 * (count + 1 + n)) (ids_count os column)
raw_size table os (parts.Range column) raw =
    let count : ℕ = count_of os column in
    posting_length (buckets_for count) (map bucket_of (ids_of os column)) (buckets_in count (ids_of os column) (ids_below os column))
    ∙ ap (λ n. 4 * (buckets_for count + 1 + n)) (length-map (ids_of os column) bucket_of ∙ ids_count os column)

narrow : (count : ℕ) → width_of count ≤ 32
narrow count = omega arith

forward_few : (rows count : ℕ) → rows ≤ 1048576 → bytes_for (rows * width_of count) ≤ 1099511627776
forward_few rows count at_most = omega (arith, mul-le rows (width_of count) 1048576 32 at_most (narrow count))

size_few : (rows count : ℕ) (p : Part) → rows ≤ 1048576 → count ≤ rows → size_for rows count p ≤ 1099511627776
size_few rows count parts.Table at_most within = omega arith
size_few rows count parts.Head at_most within = omega arith
size_few rows count parts.Bounds at_most within = omega arith
size_few rows count (parts.Dictionary column) at_most within = omega arith
size_few rows count (parts.Nodes tree) at_most within = omega arith
size_few rows count (parts.Star tree) at_most within = omega arith
size_few rows count (parts.Forward column) at_most within = forward_few rows count at_most
size_few rows count (parts.Sorted column) at_most within = omega arith
size_few rows count (parts.Inverted column) at_most within = omega arith
size_few rows count (parts.Range column) at_most within = omega arith

-- ---- the dictionaries

text_short : (v : Value) → Fits kind.Text v → length (text_bytes v) ≤ 512
text_short (Whole z) fit = absurd (false≢true fit)
text_short (Text t) fit = fits_short kind.Text (Text t) fit

texts_short : (vs : List Value) → All (Fits kind.Text) vs → length (texts vs) ≤ 512 * length vs
texts_short [] fit = omega arith
texts_short (v ∷ vs) fit = omega (arith, length-append (text_bytes v) (texts vs), text_short v (All-head (Fits kind.Text) v vs fit), texts_short vs (All-tail (Fits kind.Text) v vs fit))

body_few : (k : FieldKind) (vs : List Value) → All (Fits k) vs → length (body k vs) ≤ 516 * length vs + 4
body_few kind.Int vs fit = omega (arith, length-numbers kind.Int vs (λ e. absurd cc) fit)
body_few kind.Long vs fit = omega (arith, length-numbers kind.Long vs (λ e. absurd cc) fit)
body_few kind.Text vs fit = omega (arith, length-append (offsets 0 vs) (texts vs), length-offsets 0 vs, texts_short vs fit)

spelling_few : (d : Distinct) → IsDictionary d → length (spelling d) ≤ 1099511627776
spelling_few d stands =
    let at_most = stands.at_most in
    omega (arith, at_most, length-append (counted (length d.values)) (body d.kind d.values), length-counted (length d.values), body_few d.kind d.values stands.fit)

-- ---- the bounds

bound_few : (k : FieldKind) (v : Value) → MayBound k v → length (bound_bytes v) ≤ 514
bound_few k (Whole z) may = omega (arith, length-number z)
bound_few k (Text t) may = let at_most = fits_short k (Text t) may.fit in omega (arith, at_most, length-append (short (length t)) t, length-short (length t))

pub bounds_few : (fields : List Field) (bounds : List Ends) → AllZip MayEnd fields bounds → length (bounds_bytes bounds) ≤ 1028 * length fields
bounds_few [] [] all = omega arith
bounds_few [] (b ∷ bs) all = absurd all
bounds_few (f ∷ fs) [] all = omega arith
bounds_few (f ∷ fs) (b ∷ bs) all =
    omega (
      arith,
      length-append (pair_bytes b) (bounds_bytes bs),
      length-append (bound_bytes b.least) (bound_bytes b.greatest),
      bound_few f.kind b.least all.0.0,
      bound_few f.kind b.greatest all.0.1,
      bounds_few fs bs all.1,
    )

-- ---- all sections

sum_few : (most : ℕ) (xs : List ℕ) → All (λ n. n ≤ most) xs → sum xs ≤ length xs * most
sum_few most [] all = omega arith
sum_few most (x ∷ xs) all =
    let more : suc (length xs) * most ≡ length xs * most + most = omega arith in
    omega (arith, sum_by-cons (λ k. k) x xs, All-head (λ n. n ≤ most) x xs all, sum_few most xs (All-tail (λ n. n ≤ most) x xs all))

pub columns_all : (P : ℕ → Type 0) (a n limit : ℕ) → a + n ≤ limit → ((c : ℕ) → c < limit → P c) → All P (range_with_len a n)
columns_all P a zero limit le each = All-nil P
columns_all P a (suc n) limit le each = All-cons P a (range_with_len (a + 1) n) (each a (omega arith)) (columns_all P (a + 1) n limit (omega arith) each)

module _ (table : Table) (os : List (List Value)) (valid : IsValidTable table) (at_most : length os ≤ 1048576) (each : All (IsRow table.schema.fields) os) (fits : All (TreeFits os) table.settings.trees) where
  -- the sections of a tree of the table
  pub there : (t : ℕ) → t < length table.settings.trees → TreeThere table.schema.fields os table.settings.trees t
  there t lt = tree_there table.schema.fields os table.settings.trees t valid.settings.trees_valid fits at_most each lt

  nodes_few : (t : ℕ) → t < length table.settings.trees → length (section_of table os (parts.Nodes t)) ≤ 1099511627776
  nodes_few t lt =
      let th = there t lt in
      let s = th.sections in
      omega (arith, ap (λ o. length (nodes_of os o)) th.at, s.nodes_long, s.bytes)

  tail_few : (p : Part) → IsTailPart table p → length (section_of table os p) ≤ 1099511627776
  tail_few parts.Table is = absurd is
  tail_few parts.Head is = absurd is
  tail_few parts.Bounds is = absurd is
  tail_few (parts.Dictionary column) is = absurd is
  tail_few (parts.Nodes t) is = absurd is
  tail_few (parts.Forward column) is = omega (arith, raw_size table os (parts.Forward column) refl, size_few (length os) (count_of os column) (parts.Forward column) at_most (few_values os column))
  tail_few (parts.Sorted column) is = omega (arith, raw_size table os (parts.Sorted column) refl, size_few (length os) (count_of os column) (parts.Sorted column) at_most (few_values os column))
  tail_few (parts.Inverted column) is = omega (arith, raw_size table os (parts.Inverted column) refl, size_few (length os) (count_of os column) (parts.Inverted column) at_most (few_values os column))
  tail_few (parts.Range column) is = omega (arith, raw_size table os (parts.Range column) refl, size_few (length os) (count_of os column) (parts.Range column) at_most (few_values os column))
  tail_few (parts.Star t) is =
      let th = there t is in
      let s = th.sections in
      omega (arith, ap (λ o. length (star_of os o)) th.at, s.docs_size, s.bytes)

  -- the file of rows is shorter than the greatest number of 64 bits
  pub image_small : (name : List ℕ) → length name ≤ 64 → All (λ row. All IsUnicode row) os → length (section_of table os parts.Bounds) ≤ 1028 * length table.schema.fields → file_end table name (front_of 1 table os) < 2 ^ 64
  image_small name short_name unicode bounds =
      let n : ℕ = length table.schema.fields in
      let m : ℕ = length table.settings.trees in
      let most : ℕ = 1099511627776 in
      let P : Part → Type 0 = λ p. length (section_of table os p) ≤ most in
      let fields = valid.schema.at_most in
      let ds : List Part = map parts.Dictionary (columns_of table) in
      let ns : List Part = map parts.Nodes (trees_of table) in
      let dictionaries : All P ds =
      All-map P parts.Dictionary (columns_of table) (columns_all (λ c. length (section_of table os (parts.Dictionary c)) ≤ most) 0 n n (omega arith) (λ c lt. spelling_few (dictionary_of table os c) (column_dictionary table os c lt at_most each unicode))) in
      let nodes : All P ns = All-map P parts.Nodes (trees_of table) (columns_all (λ t. length (section_of table os (parts.Nodes t)) ≤ most) 0 m m (omega arith) nodes_few) in
      let head : All P (head_sections table) = All-cons P parts.Bounds (ds ++ ns) (omega (arith, bounds, fields)) (All-append P ds ns dictionaries nodes) in
      let tail : All P (tail_sections table) = All-weaker (IsTailPart table) P tail_few (tail_sections table) (tail_parts table valid) in
      let all : All P (sections_of table) = All-append P (head_sections table) (tail_sections table) head tail in
      let sizes : All (λ k. k ≤ most) (map length (map (section_of table os) (sections_of table))) =
      All-map (λ k. k ≤ most) length (map (section_of table os) (sections_of table)) (All-map (λ x. length x ≤ most) (section_of table os) (sections_of table) all) in
      let count : length (map length (map (section_of table os) (sections_of table))) ≡ length (sections_of table) = length-map (map (section_of table os) (sections_of table)) length ∙ length-map (sections_of table) (section_of table os) in
      let total = sum_few most (map length (map (section_of table os) (sections_of table))) sizes in
      omega (arith, total, count, few_sections table valid, short_name)
