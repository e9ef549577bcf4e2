-- The file of rows keeps all rules of a head.
use Rattle.std.proofs.Common.{◌≡◌, ◌∙◌, ◌<◌, ◌≤◌, ◌+◌, ◌*◌, ◌^◌, ℕ, zero, suc, All, List, [], ◌∷◌, ◌++◌, length, map, get_or, take, drop, sum, true, refl, sym, ap, subst, arith, append_assoc}
use Rattle.std.proofs.Math.Seq.{drop-append_seam, take-append_seam}
use Rattle.std.proofs.Math.ListN.{get_or-append}
use Rattle.std.proofs.lemmas.List.{get_or-append-add, get_or-map, length-append, length-map}
use Rattle.std.proofs.lemmas.List.Elements.{All-cons, All-head, All-nil, All-tail}
use Rattle.std.proofs.lemmas.List.FromFn.{get_or-range_with_len, length-range_with_len}
use Rattle.std.proofs.lemmas.List.Sums.{sum_by-cons}
use Rattle.std.specs.List.{AllZip, concat, list_all, range_with_len, take-map}
use Rattle.std.specs.Prelude.{slice_get, Some}
use borrow.Author.Tests.{leb-true, ltb-true}
use Rattle.star_file.specs.Reading.{doc_width}
use Rattle.table_schema.specs.ValidSettings.{is_number_of}
use Rattle.values.specs.declared.value.Value.{Value}
use Rattle.value_ids.specs.Dictionary.{Distinct, IsUnicode}
use Rattle.dictionary.specs.Spelling.{spelling}
use Rattle.table_schema.specs.declared.field.Field.{Field}
use Rattle.table_schema.specs.declared.table.Table.{Table}
use Rattle.table_schema.specs.ValidTable.{IsRow, IsValidTable, most_rows}
use Rattle.segment_file.specs.declared.part.Part.{Part}
use Rattle.segment_file.specs.declared.part.Part.TheVariants as parts
use Rattle.segment_file.specs.Bounds.{bounds_bytes, bounds_of, bounded}
use Rattle.segment_file.specs.Front.{Extent, Front, extents_from, extents_of, file_end, front_bytes, front_size}
use Rattle.segment_file.specs.Image.{count_of, dictionary_of, file_of_rows, front_of, kind_at, section_of, sections_of_rows}
use Rattle.segment_file.specs.Laws.{ImageKeeps}
use Rattle.segment_file.specs.Ordered.{ordered}
use Rattle.segment_file.specs.Parts.{columns_of, head_sections, sections_of, tail_sections, trees_of}
use Rattle.segment_file.specs.Reading.{IsTailPart}
use Rattle.segment_file.specs.Rules.{AreNodes, AreSpelled, HasFront, HasNodes, HaveNodes, IsSized, IsSpelled, KeepsAll, count_in, dictionary_in, heads_in, nodes_in, section_bytes, size_for, size_in, split_counts, star_size}
use Rattle.segment_file.specs.Trees.{TreeFits, nodes_of, star_of}
use Rattle.segment_file.proofs.Tails.{spelled_count, tail_parts}
use Rattle.segment_file.proofs.Fronts.{front_bytes_size}
use Rattle.segment_file.proofs.ImageRows.{and_first, and_second, column_dictionary, few_values, ordered_all, ordered_count, some_values, if_some}
use Rattle.segment_file.proofs.ImageSizes.{bounds_few, columns_all, image_small, raw_size, there}
use Rattle.segment_file.proofs.BoundReads.{bounds_there}
use Rattle.segment_file.proofs.TreeRows.{TreeThere}

-- ---- the sections are cut out of the file

cut_at : (before : List ℕ) (offset : ℕ) (ps : List Part) (f : Part → List ℕ) (whole : List ℕ) → length before ≡ offset → whole ≡ before ++ concat (map f ps)
    → map (section_bytes whole) (extents_from offset ps (map length (map f ps))) ≡ map f ps
cut_at before offset [] f whole at is = refl
cut_at before offset (p ∷ ps) f whole at is =
    let rest : List ℕ = f p ++ concat (map f ps) in
    let following : drop offset whole ≡ rest = (λ i. drop (sym at i) (is i)) ∙ drop-append_seam before rest in
    let here : take (length (f p)) (drop offset whole) ≡ f p = ap (take (length (f p))) following ∙ take-append_seam (f p) (concat (map f ps)) in
    let next : length (before ++ f p) ≡ offset + length (f p) = omega (arith, at, length-append before (f p)) in
    let more : map (section_bytes whole) (extents_from (offset + length (f p)) ps (map length (map f ps))) ≡ map f ps =
    cut_at (before ++ f p) (offset + length (f p)) ps f whole next (is ∙ sym (append_assoc before (f p) (concat (map f ps)))) in
    (λ i. here i ∷ more i)

concat_length : (xss : List (List ℕ)) → length (concat xss) ≡ sum (map length xss)
concat_length [] = refl
concat_length (xs ∷ xss) = omega (arith, length-append xs (concat xss), concat_length xss, sum_by-cons (λ k. k) (length xs) (map length xss))

-- ---- lists of columns

zip_made : {B : Type 0} (R : ℕ → B → Type 0) (f : ℕ → B) (a n limit : ℕ) → a + n ≤ limit → ((c : ℕ) → c < limit → R c (f c)) → AllZip R (range_with_len a n) (map f (range_with_len a n))
zip_made R f a zero limit le each = tt
zip_made R f a (suc n) limit le each = (each a (omega arith), zip_made R f (a + 1) n limit (omega arith) each)

pub zero-plus : (n : ℕ) → 0 + n ≡ n
zero-plus n = omega arith

bounded_few : (rows : ℕ) (fields : List Field) → length (bounded rows fields) ≤ length fields
bounded_few zero fields = omega arith
bounded_few (suc rows) fields = omega arith

-- ---- one table, and rows in their order

module _ (table : Table) (name : List ℕ) (os : List (List Value)) (at_most : length os ≤ most_rows (length table.schema.fields)) (each : All (IsRow table.schema.fields) os) (unicode : All (λ row. All IsUnicode row) os) where
  -- the sections that the front finds in the file are those of the rows
  all-cut : map (section_bytes (file_of_rows 1 table name os)) (extents_of table name (front_of 1 table os)) ≡ map (section_of table os) (sections_of table)
  all-cut =
      let f : Front = front_of 1 table os in
      let sizes : length f.sizes ≡ length (sections_of table) = length-map (sections_of_rows table os) length ∙ length-map (sections_of table) (section_of table os) in
      cut_at (front_bytes table name f) (front_size table name) (sections_of table) (section_of table os) (file_of_rows 1 table name os) (front_bytes_size table name f sizes) refl

  heads-are : heads_in table name (front_of 1 table os) (file_of_rows 1 table name os) ≡ map (section_of table os) (head_sections table)
  heads-are =
      let n : ℕ = length (head_sections table) in
      let cut : List Extent → List (List ℕ) = map (section_bytes (file_of_rows 1 table name os)) in
      sym (take-map (section_bytes (file_of_rows 1 table name os)) n (extents_of table name (front_of 1 table os)))
      ∙ ap (take n) all-cut
      ∙ take-map (section_of table os) n (sections_of table)
      ∙ ap (map (section_of table os)) (take-append_seam (head_sections table) (tail_sections table))

  dictionary-is : (column : ℕ) → column < length table.schema.fields → dictionary_in (heads_in table name (front_of 1 table os) (file_of_rows 1 table name os)) column ≡ spelling (dictionary_of table os column)
  dictionary-is column lt =
      let n : ℕ = length table.schema.fields in
      let ps : List Part = map parts.Dictionary (columns_of table) in
      let ns : List Part = map parts.Nodes (trees_of table) in
      let count : length ps ≡ n = length-map (columns_of table) parts.Dictionary ∙ length-range_with_len 0 n in
      let next : column + 1 ≡ suc column = omega arith in
      ap (λ heads. dictionary_in heads column) heads-are
      ∙ ap (λ i. get_or (map (section_of table os) (parts.Bounds ∷ (ps ++ ns))) i []) next
      ∙ get_or-map (section_of table os) (ps ++ ns) column parts.Bounds [] (omega (arith, lt, count, length-append ps ns))
      ∙ ap (section_of table os) (get_or-append ps ns parts.Bounds column (omega (arith, lt, count)) ∙ get_or-map parts.Dictionary (columns_of table) column 0 parts.Bounds (omega (arith, lt, length-range_with_len 0 n)) ∙ ap parts.Dictionary (get_or-range_with_len 0 n column 0 lt ∙ zero-plus column))

  spelled-is : (column : ℕ) → column < length table.schema.fields → IsSpelled (kind_at table column) (length os) (dictionary_in (heads_in table name (front_of 1 table os) (file_of_rows 1 table name os)) column) (dictionary_of table os column)
  spelled-is column lt = record {
    stands = column_dictionary table os column lt (omega (arith, at_most)) each unicode;
    kind_is = refl;
    spelled = dictionary-is column lt;
    at_most = few_values os column;
    some = λ some. some_values os column some;
  }

  all-spelled : AreSpelled table (length os) (heads_in table name (front_of 1 table os) (file_of_rows 1 table name os)) (columns_of table) (map (dictionary_of table os) (columns_of table))
  all-spelled =
      let n : ℕ = length table.schema.fields in
      zip_made (λ c d. IsSpelled (kind_at table c) (length os) (dictionary_in (heads_in table name (front_of 1 table os) (file_of_rows 1 table name os)) c) d) (dictionary_of table os) 0 n n (omega arith) spelled-is

  count-is : (column : ℕ) → column < length table.schema.fields → count_in (dictionary_in (heads_in table name (front_of 1 table os) (file_of_rows 1 table name os)) column) ≡ count_of os column
  count-is column lt =
      let is = spelled-is column lt in
      let limit = is.stands.at_most in
      spelled_count (dictionary_in (heads_in table name (front_of 1 table os) (file_of_rows 1 table name os)) column) (dictionary_of table os column) (omega (arith, limit)) is.spelled

  -- the nodes of a tree are the section of the head that is said to be theirs
  pub nodes-are : (t : ℕ) → t < length table.settings.trees → nodes_in table (heads_in table name (front_of 1 table os) (file_of_rows 1 table name os)) t ≡ section_of table os (parts.Nodes t)
  nodes-are t lt =
      let n : ℕ = length table.schema.fields in
      let m : ℕ = length table.settings.trees in
      let ps : List Part = map parts.Dictionary (columns_of table) in
      let ns : List Part = map parts.Nodes (trees_of table) in
      let count : length ps ≡ n = length-map (columns_of table) parts.Dictionary ∙ length-range_with_len 0 n in
      let number : length ns ≡ m = length-map (trees_of table) parts.Nodes ∙ length-range_with_len 0 m in
      let next : n + 1 + t ≡ suc (length ps + t) = omega (arith, count) in
      ap (λ heads. nodes_in table heads t) heads-are
      ∙ ap (λ i. get_or (map (section_of table os) (parts.Bounds ∷ (ps ++ ns))) i []) next
      ∙ get_or-map (section_of table os) (ps ++ ns) (length ps + t) parts.Bounds [] (omega (arith, lt, number, length-append ps ns))
      ∙ ap (section_of table os) (get_or-append-add ps ns t parts.Bounds ∙ get_or-map parts.Nodes (trees_of table) t 0 parts.Bounds (omega (arith, lt, length-range_with_len 0 m)) ∙ ap parts.Nodes (get_or-range_with_len 0 m t 0 lt ∙ zero-plus t))

  counts-are : (split : List ℕ) → list_all (is_number_of table.schema.fields) split ≡ true → map (λ c. count_in (dictionary_in (heads_in table name (front_of 1 table os) (file_of_rows 1 table name os)) c)) split ≡ map (count_of os) split
  counts-are [] known = refl
  counts-are (c ∷ split) known =
      let n : ℕ = length table.schema.fields in
      let here = count-is c (ltb-true c n (and_first (is_number_of table.schema.fields c) (list_all (is_number_of table.schema.fields) split) known)) in
      let more = counts-are split (and_second (is_number_of table.schema.fields c) (list_all (is_number_of table.schema.fields) split) known) in
      (λ i. here i ∷ more i)

  module _ (valid : IsValidTable table) (fits : All (TreeFits os) table.settings.trees) where
    pub tree-there : (t : ℕ) → t < length table.settings.trees → TreeThere table.schema.fields os table.settings.trees t
    tree-there = there table os valid (omega (arith, at_most)) each fits

    has-nodes : (t : ℕ) → t < length table.settings.trees → HasNodes table (length os) (heads_in table name (front_of 1 table os) (file_of_rows 1 table name os)) t
    has-nodes t lt =
        let heads : List (List ℕ) = heads_in table name (front_of 1 table os) (file_of_rows 1 table name os) in
        let th = tree-there t lt in
        let tree = th.tree in
        let counts : map (count_of os) tree.split ≡ split_counts heads tree = sym (counts-are tree.split th.valid.split_known) in
        let bytes : nodes_of os (Some tree) ≡ nodes_in table heads t = ap (nodes_of os) (sym th.at) ∙ sym (nodes-are t lt) in
        if_some (slice_get table.settings.trees t) tree (λ tr. AreNodes tr.shape (split_counts heads tr) (length os) (nodes_in table heads t)) th.at
        (subst (AreNodes tree.shape (split_counts heads tree) (length os)) bytes (subst (λ c. AreNodes tree.shape c (length os) (nodes_of os (Some tree))) counts th.sections.are_nodes))

    have-nodes : HaveNodes table (length os) (heads_in table name (front_of 1 table os) (file_of_rows 1 table name os)) (length table.settings.trees)
    have-nodes =
        let m : ℕ = length table.settings.trees in
        columns_all (HasNodes table (length os) (heads_in table name (front_of 1 table os) (file_of_rows 1 table name os))) 0 m m (omega arith) has-nodes

    -- a section after the head is as long as it is to be
    field-sized : (c : ℕ) (p : Part) → c < length table.schema.fields → length (section_of table os p) ≡ size_for (length os) (count_of os c) p
        → length (section_of table os p) ≡ size_for (length os) (count_in (dictionary_in (heads_in table name (front_of 1 table os) (file_of_rows 1 table name os)) c)) p
    field-sized c p lt is = is ∙ ap (λ n. size_for (length os) n p) (sym (count-is c lt))

    part-sized : (p : Part) → IsTailPart table p → length (section_of table os p) ≡ size_in table (length os) (heads_in table name (front_of 1 table os) (file_of_rows 1 table name os)) p
    part-sized parts.Table raw = absurd raw
    part-sized parts.Head raw = absurd raw
    part-sized parts.Bounds raw = absurd raw
    part-sized (parts.Dictionary c) raw = absurd raw
    part-sized (parts.Nodes t) raw = absurd raw
    part-sized (parts.Forward c) raw = field-sized c (parts.Forward c) raw (raw_size table os (parts.Forward c) refl)
    part-sized (parts.Sorted c) raw = field-sized c (parts.Sorted c) raw (raw_size table os (parts.Sorted c) refl)
    part-sized (parts.Inverted c) raw = field-sized c (parts.Inverted c) raw (raw_size table os (parts.Inverted c) refl)
    part-sized (parts.Range c) raw = field-sized c (parts.Range c) raw (raw_size table os (parts.Range c) refl)
    part-sized (parts.Star t) raw =
        let th = tree-there t raw in
        let tree = th.tree in
        let bytes : nodes_of os (Some tree) ≡ nodes_in table (heads_in table name (front_of 1 table os) (file_of_rows 1 table name os)) t = ap (nodes_of os) (sym th.at) ∙ sym (nodes-are t raw) in
        ap (λ o. length (star_of os o)) th.at
        ∙ th.sections.docs_size
        ∙ ap (λ n. n * doc_width tree.shape) (sym th.sections.documents_said)
        ∙ (λ i. star_size (bytes i) (sym th.at i))

    sized-all : (offset : ℕ) (ps : List Part) → All (IsTailPart table) ps → All (IsSized table (length os) (heads_in table name (front_of 1 table os) (file_of_rows 1 table name os))) (extents_from offset ps (map length (map (section_of table os) ps)))
    sized-all offset [] raw = All-nil (IsSized table (length os) (heads_in table name (front_of 1 table os) (file_of_rows 1 table name os)))
    sized-all offset (p ∷ ps) raw =
        let P : Extent → Type 0 = IsSized table (length os) (heads_in table name (front_of 1 table os) (file_of_rows 1 table name os)) in
        let R : Part → Type 0 = IsTailPart table in
        let size : ℕ = length (section_of table os p) in
        All-cons P (record { part = p; offset = offset; size = size }) (extents_from (offset + size) ps (map length (map (section_of table os) ps))) (part-sized p (All-head R p ps raw)) (sized-all (offset + size) ps (All-tail R p ps raw))

    sized-after : (offset : ℕ) (hs ps : List Part) → All (IsTailPart table) ps
        → All (IsSized table (length os) (heads_in table name (front_of 1 table os) (file_of_rows 1 table name os))) (drop (length hs) (extents_from offset (hs ++ ps) (map length (map (section_of table os) (hs ++ ps)))))
    sized-after offset [] ps raw = sized-all offset ps raw
    sized-after offset (h ∷ hs) ps raw = sized-after (offset + length (section_of table os h)) hs ps raw

  bounds-length : length (section_of table os parts.Bounds) ≤ 1028 * length table.schema.fields
  bounds-length =
      let heads : List (List ℕ) = heads_in table name (front_of 1 table os) (file_of_rows 1 table name os) in
      let ds : List Distinct = map (dictionary_of table os) (columns_of table) in
      let there = bounds_there table (length os) heads (bounds_bytes (bounds_of ds)) ds all-spelled refl in
      omega (arith, bounds_few (bounded (length os) table.schema.fields) (bounds_of ds) there.each, bounded_few (length os) table.schema.fields)

  pub rows_small : IsValidTable table → All (TreeFits os) table.settings.trees → length name ≤ 64 → file_end table name (front_of 1 table os) < 2 ^ 64
  rows_small valid fits short_name = image_small table os valid (omega (arith, at_most)) each fits name short_name unicode bounds-length

  has-front : IsValidTable table → All (TreeFits os) table.settings.trees → length name ≤ 64 → HasFront table name (file_of_rows 1 table name os) (front_of 1 table os)
  has-front valid fits short_name =
      let f : Front = front_of 1 table os in
      let rest : List ℕ = concat (sections_of_rows table os) in
      let sizes : length f.sizes ≡ length (sections_of table) = length-map (sections_of_rows table os) length ∙ length-map (sections_of table) (section_of table os) in
      let front : length (front_bytes table name f) ≡ front_size table name = front_bytes_size table name f sizes in
      let whole : length (front_bytes table name f ++ rest) ≡ file_end table name f = omega (arith, length-append (front_bytes table name f) rest, front, concat_length (sections_of_rows table os)) in
      let small = rows_small valid fits short_name in
      record {
        known = refl;
        at_most = at_most;
        each = sizes;
        spelled = ap (λ n. take n (front_bytes table name f ++ rest)) (sym front) ∙ take-append_seam (front_bytes table name f) rest;
        whole = whole;
        small = omega (arith, whole, small);
      }

  pub rows_keep : IsValidTable table → All (TreeFits os) table.settings.trees → length name ≤ 64 → KeepsAll table name (file_of_rows 1 table name os) (front_of 1 table os) (map (dictionary_of table os) (columns_of table))
  rows_keep valid fits short_name = record {
    front_is = has-front valid fits short_name;
    heads = record { spelled = all-spelled; bounds = ap (λ heads. get_or heads 0 []) heads-are };
    trees = have-nodes valid fits;
    sized = sized-after valid fits (front_size table name) (head_sections table) (tail_sections table) (tail_parts table valid);
  }

pub image_keeps : ImageKeeps
image_keeps table name rows valid named can =
    let os : List (List Value) = ordered table.settings.sorted rows in
    let limit = can.fit.at_most in
    rows_keep table name os (omega (arith, limit, ordered_count table.settings.sorted rows)) (ordered_all (IsRow table.schema.fields) table.settings.sorted rows can.fit.each) (ordered_all (λ row. All IsUnicode row) table.settings.sorted rows can.unicode) valid can.trees
    (leb-true (length name) 64 named.at_most)
