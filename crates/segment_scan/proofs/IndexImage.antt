-- On the image of rows, the indexes of conjuncts tell the ids of the rows.
use Rattle.std.proofs.Common.{◌≡◌, ◌∙◌, ◌<◌, ◌+◌, ◌&&◌, ◌==◌, ◌∷◌, [], ℕ, zero, suc, pos, Bool, true, false, nat_lt, All, Option, Some, None, List, length, map, get_or, slice_get, refl, sym, ap, subst, eq-eqb, arith}
use Rattle.std.specs.Prelude.{if◌then◌else◌, option_to_list}
use Rattle.std.specs.Option.{IsSome}
use Rattle.std.specs.List.{list_any}
use Rattle.std.proofs.lemmas.Bool.{eqb-true, false≢true}
use Rattle.std.proofs.lemmas.Bool.Decides.{nat_tests}
use Rattle.std.proofs.lemmas.List.{get_or-map, length-map}
use Rattle.outside.specs.Files.{Files}
use Rattle.values.specs.declared.value.Value.{Value}
use Rattle.values.specs.declared.value.Value.TheVariants.{Whole}
use Rattle.values.specs.declared.test.Test.{Test}
use Rattle.values.specs.Tests.{holds}
use Rattle.value_ids.specs.Dictionary.{distinct}
use Rattle.value_ids.specs.Ids.{has_id, matching, satisfies}
use Rattle.value_ids.proofs.DistinctLemmas.{distinct_ascends}
use Rattle.value_ids.proofs.IdLemmas.{each_matching}
use Rattle.std.specs.List.Sorted.{IsNonDecreasing}
use Rattle.index_reader.specs.Documents.{Tells, TellsRanged, is_doc_of}
use Rattle.index_reader.specs.declared.kind.ListKind.{ListKind}
use Rattle.index_reader.specs.declared.kind.ListKind.TheVariants as kinds
use Rattle.table_schema.specs.declared.query.BoundQuery.{BoundQuery}
use Rattle.table_schema.specs.declared.query.Conjunct.{Conjunct}
use Rattle.table_schema.specs.declared.query.Conjunct.TheVariants.{One, Many}
use Rattle.table_schema.specs.declared.settings.Settings.{Settings}
use Rattle.table_schema.specs.declared.table.Table.{Table}
use Rattle.table_schema.specs.Conditions.{cell, conjunct_holds}
use Rattle.table_schema.specs.NeedIds.{is_set}
use Rattle.segment_file.specs.declared.part.Part.{Part}
use Rattle.segment_file.specs.declared.part.Part.TheVariants as parts
use Rattle.segment_file.specs.declared.section.Section.{Section}
use Rattle.segment_file.specs.Front.{Front, extents_of, front_bytes, front_size}
use Rattle.segment_head.specs.Heads.{IsHeadOf, IsLoaded, Seen, bytes_in, place_in, placed}
use Rattle.segment_file.specs.Image.{count_of, dictionary_of, front_of, ids_of, image, place_of, section_of, sections_of_rows}
use Rattle.segment_file.specs.Image as segment
use Rattle.segment_file.specs.Ordered.{ordered, sorted_by, value_in}
use Rattle.segment_file.specs.Parts.{columns_of, is_same, marked, marked_from, sections_of}
use Rattle.segment_file.specs.Rules.{KeepsAll}
use Rattle.segment_file.proofs.Fronts.{front_bytes_size}
use Rattle.segment_file.proofs.ImageKeeps.{image_keeps}
use Rattle.segment_file.proofs.RuleLaws.{fronts_one}
use Rattle.segment_head.proofs.SectionBytes.{any_back, any_front, any_raw, cut_section, some_place}
use Rattle.segment_plan.specs.Choices.{are_consecutive, choice_of, is_sorted_on}
use Rattle.segment_plan.specs.Laws.{HeadTells, TellsOf}
use Rattle.segment_plan.specs.Matched.{values_in, values_of, count_in}
use Rattle.segment_plan.specs.declared.plans.IndexChoice.{IndexChoice}
use Rattle.segment_plan.specs.declared.plans.IndexChoice.TheVariants.{Unindexed, Sorted, Inverted, Range}
use Rattle.segment_scan.specs.Images.{ImagesLeave, choices_for}
use Rattle.segment_plan.specs.Named.{AreNamedLoaded, conjunct_names}
use Rattle.index_filter.specs.Indexes.{IsIndexed, IsRanged, IsReady, OfEach, OfIndex, TellsBuckets, TellsIds, all_leave, is_doc_near, is_unsure, leaves, part_of}
use Rattle.segment_plan.specs.Served.{choice_at}
use Rattle.segment_plan.specs.RowsLeft.{Chosen, all_left, indexed, is_indexed, is_near, is_row_left, is_value_near}
use Rattle.segment_scan.proofs.AgreementLemmas.{conjuncts_in_names, or_left, or_right}
use Rattle.segment_scan.proofs.ImageLemmas.{IsPlace, ids-below, ids-count, item_there, ordered_count, places}
use Rattle.segment_scan.proofs.OrderLemmas.{sorted_ids}
use Rattle.segment_scan.proofs.NearLemmas.{sure_has}

lt_true : (a b : ℕ) → a < b → nat_lt a b ≡ true
lt_true a b lt = grind (arith, nat_tests)

-- ---- where the sections are

sorted_only : (p : Part) (c : ℕ) → is_same p (parts.Sorted c) ≡ true → p ≡ parts.Sorted c
sorted_only parts.Table c e = absurd (false≢true e)
sorted_only parts.Head c e = absurd (false≢true e)
sorted_only parts.Bounds c e = absurd (false≢true e)
sorted_only (parts.Dictionary d) c e = absurd (false≢true e)
sorted_only (parts.Nodes d) c e = absurd (false≢true e)
sorted_only (parts.Forward d) c e = absurd (false≢true e)
sorted_only (parts.Sorted d) c e = ap parts.Sorted (eqb-true d c e)
sorted_only (parts.Inverted d) c e = absurd (false≢true e)
sorted_only (parts.Range d) c e = absurd (false≢true e)
sorted_only (parts.Star d) c e = absurd (false≢true e)

inverted_only : (p : Part) (c : ℕ) → is_same p (parts.Inverted c) ≡ true → p ≡ parts.Inverted c
inverted_only parts.Table c e = absurd (false≢true e)
inverted_only parts.Head c e = absurd (false≢true e)
inverted_only parts.Bounds c e = absurd (false≢true e)
inverted_only (parts.Dictionary d) c e = absurd (false≢true e)
inverted_only (parts.Nodes d) c e = absurd (false≢true e)
inverted_only (parts.Forward d) c e = absurd (false≢true e)
inverted_only (parts.Sorted d) c e = absurd (false≢true e)
inverted_only (parts.Inverted d) c e = ap parts.Inverted (eqb-true d c e)
inverted_only (parts.Range d) c e = absurd (false≢true e)
inverted_only (parts.Star d) c e = absurd (false≢true e)

range_only : (p : Part) (c : ℕ) → is_same p (parts.Range c) ≡ true → p ≡ parts.Range c
range_only parts.Table c e = absurd (false≢true e)
range_only parts.Head c e = absurd (false≢true e)
range_only parts.Bounds c e = absurd (false≢true e)
range_only (parts.Dictionary d) c e = absurd (false≢true e)
range_only (parts.Nodes d) c e = absurd (false≢true e)
range_only (parts.Forward d) c e = absurd (false≢true e)
range_only (parts.Sorted d) c e = absurd (false≢true e)
range_only (parts.Inverted d) c e = absurd (false≢true e)
range_only (parts.Range d) c e = ap parts.Range (eqb-true d c e)
range_only (parts.Star d) c e = absurd (false≢true e)

kind_only : (kind : ListKind) (c : ℕ) (p : Part) → is_same p (part_of kind c) ≡ true → p ≡ part_of kind c
kind_only kinds.Sorted c p e = sorted_only p c e
kind_only kinds.Inverted c p e = inverted_only p c e

-- the settings name an index of the kind on the column
abbrev pub NamesIndex : Settings → ListKind → ℕ → Type 0
NamesIndex settings kinds.Sorted c = is_sorted_on settings.sorted c ≡ true
NamesIndex settings kinds.Inverted c = is_set (slice_get settings.inverted c) ≡ true

-- the section of a column that is marked is among those of the marks
module _ (part : ℕ → Part) (own : (c : ℕ) → is_same (part c) (part c) ≡ true) where
  among_marked : (marks : List Bool) (from c : ℕ) → is_set (slice_get marks c) ≡ true → list_any (λ p. is_same p (part (from + c))) (map part (marked_from from marks)) ≡ true
  among_marked [] from c e = absurd (false≢true e)
  among_marked (true ∷ marks) from zero e =
      let same : from ≡ from + 0 = omega arith in
      or_left (is_same (part from) (part (from + 0))) (list_any (λ p. is_same p (part (from + 0))) (map part (marked_from (from + 1) marks))) (subst (λ m. is_same (part from) (part m) ≡ true) same (own from))
  among_marked (false ∷ marks) from zero e = absurd (false≢true e)
  among_marked (true ∷ marks) from (suc c) e =
      let next : from + 1 + c ≡ from + suc c = omega arith in
      or_right (is_same (part from) (part (from + suc c))) (list_any (λ p. is_same p (part (from + suc c))) (map part (marked_from (from + 1) marks)))
      (subst (λ m. list_any (λ p. is_same p (part m)) (map part (marked_from (from + 1) marks)) ≡ true) next (among_marked marks (from + 1) c e))
  among_marked (false ∷ marks) from (suc c) e =
      let next : from + 1 + c ≡ from + suc c = omega arith in
      subst (λ m. list_any (λ p. is_same p (part m)) (map part (marked_from (from + 1) marks)) ≡ true) next (among_marked marks (from + 1) c e)

  among_own : (marks : List Bool) (c : ℕ) → is_set (slice_get marks c) ≡ true → list_any (λ p. is_same p (part c)) (map part (marked marks)) ≡ true
  among_own marks c e =
      let plain : 0 + c ≡ c = omega arith in
      subst (λ m. list_any (λ p. is_same p (part m)) (map part (marked marks)) ≡ true) plain (among_marked marks 0 c e)

among_sorted : (sorted : Option ℕ) (c : ℕ) → is_sorted_on sorted c ≡ true → list_any (λ p. is_same p (parts.Sorted c)) (map parts.Sorted (option_to_list sorted)) ≡ true
among_sorted None c e = absurd (false≢true e)
among_sorted (Some s) c e = or_left (s == c) false e

has_index : (table : Table) (kind : ListKind) (c : ℕ) → NamesIndex table.settings kind c → list_any (λ p. is_same p (part_of kind c)) (sections_of table) ≡ true
has_index table kinds.Sorted c names =
    let p : Part → Bool = λ q. is_same q (parts.Sorted c) in
    any_raw table p (any_back p (map parts.Forward (columns_of table)) _ (any_front p (map parts.Sorted (option_to_list table.settings.sorted)) _ (among_sorted table.settings.sorted c names)))
has_index table kinds.Inverted c names =
    let p : Part → Bool = λ q. is_same q (parts.Inverted c) in
    let own : list_any p (map parts.Inverted (marked table.settings.inverted)) ≡ true = among_own parts.Inverted (λ n. eq-eqb n n refl) table.settings.inverted c names in
    any_raw table p (any_back p (map parts.Forward (columns_of table)) _ (any_back p (map parts.Sorted (option_to_list table.settings.sorted)) _ (any_front p (map parts.Inverted (marked table.settings.inverted)) _ own)))

has_range : (table : Table) (c : ℕ) → is_set (slice_get table.settings.ranged c) ≡ true → list_any (λ p. is_same p (parts.Range c)) (sections_of table) ≡ true
has_range table c names =
    let p : Part → Bool = λ q. is_same q (parts.Range c) in
    let own : list_any p (map parts.Range (marked table.settings.ranged)) ≡ true = among_own parts.Range (λ n. eq-eqb n n refl) table.settings.ranged c names in
    any_raw table p (any_back p (map parts.Forward (columns_of table)) _ (any_back p (map parts.Sorted (option_to_list table.settings.sorted)) _ (any_back p (map parts.Inverted (marked table.settings.inverted)) _ own)))

-- ---- the choice of an index

and_left : (a b : Bool) → a && b ≡ true → a ≡ true
and_left true b e = refl
and_left false b e = absurd (false≢true e)

and_right : (a b : Bool) → a && b ≡ true → b ≡ true
and_right true b e = e
and_right false b e = absurd (false≢true e)

-- the settings name a range index on the column, and the ids that satisfy the test follow one another
abbrev pub NamesRange : Settings → Seen → ℕ → Test → Type 0
NamesRange settings head c test = (is_set (slice_get settings.ranged c) ≡ true) × (are_consecutive (matching test (values_in head c)) ≡ true)

-- what an index has that the settings name, a conjunct has by its choice
of_choice : (P : ListKind → ℕ → Test → Type 0) (R : ℕ → Test → Type 0) (settings : Settings) (head : Seen) (column : ℕ) (test : Test) → ((kind : ListKind) → NamesIndex settings kind column → P kind column test)
    → (NamesRange settings head column test → R column test) → OfIndex P R (Unit {0}) (choice_of settings head (One column test)) (One column test)
of_choice P R settings head column test index range =
    by (is_set (slice_get settings.ranged column) && are_consecutive (matching test (values_in head column))) refl (is_sorted_on settings.sorted column) refl (is_set (slice_get settings.inverted column)) refl
  where
    by : (r : Bool) → is_set (slice_get settings.ranged column) && are_consecutive (matching test (values_in head column)) ≡ r → (s : Bool) → is_sorted_on settings.sorted column ≡ s → (i : Bool) → is_set (slice_get settings.inverted column) ≡ i
        → OfIndex P R (Unit {0}) (if s then Sorted else (if i then Inverted else (if r then Range else Unindexed))) (One column test)
    by r r_is true s_is i i_is = index kinds.Sorted s_is
    by r r_is false s_is true i_is = index kinds.Inverted i_is
    by true r_is false s_is false i_is =
        range (and_left (is_set (slice_get settings.ranged column)) (are_consecutive (matching test (values_in head column))) r_is, and_right (is_set (slice_get settings.ranged column)) (are_consecutive (matching test (values_in head column))) r_is)
    by false r_is false s_is false i_is = tt

of_conjunct : (P : ListKind → ℕ → Test → Type 0) (R : ℕ → Test → Type 0) (settings : Settings) (head : Seen) (conjunct : Conjunct) → ((column : ℕ) (test : Test) (kind : ListKind) → conjunct ≡ One column test → NamesIndex settings kind column → P kind column test)
    → ((column : ℕ) (test : Test) → conjunct ≡ One column test → NamesRange settings head column test → R column test) → OfIndex P R (Unit {0}) (choice_of settings head conjunct) conjunct
of_conjunct P R settings head (One column test) index range = of_choice P R settings head column test (λ kind names. index column test kind refl names) (range column test refl)
of_conjunct P R settings head (Many wide) index range = tt

choice_is : (f : Conjunct → IndexChoice) (conjuncts : List Conjunct) (at : ℕ) (conjunct : Conjunct) → slice_get conjuncts at ≡ Some conjunct → choice_at (map f conjuncts) at ≡ f conjunct
choice_is f [] at conjunct there = absurd cc
choice_is f (x ∷ xs) zero conjunct there = let same : x ≡ conjunct = cc in ap f same
choice_is f (x ∷ xs) (suc at) conjunct there = choice_is f xs at conjunct there

any_at : (p : Conjunct → Bool) (conjuncts : List Conjunct) (at : ℕ) (conjunct : Conjunct) → slice_get conjuncts at ≡ Some conjunct → p conjunct ≡ true → list_any p conjuncts ≡ true
any_at p [] at conjunct there is = absurd cc
any_at p (x ∷ xs) zero conjunct there is = let same : x ≡ conjunct = cc in or_left (p x) (list_any p xs) (ap p same ∙ is)
any_at p (x ∷ xs) (suc at) conjunct there is = or_right (p x) (list_any p xs) (any_at p xs at conjunct there is)

own_column : (conjunct : Conjunct) (column : ℕ) (test : Test) → conjunct ≡ One column test → conjunct_names column conjunct ≡ true
own_column conjunct column test is = ap (conjunct_names column) is ∙ eq-eqb column column refl

-- what an index has that the settings name, each conjunct of a query has by its choice
each_choice : (P : ListKind → ℕ → Test → Type 0) (R : ℕ → Test → Type 0) (query : BoundQuery) (table : Table) (head : Seen) → AreNamedLoaded query head
    → ((column : ℕ) (test : Test) (kind : ListKind) → IsLoaded head column → NamesIndex table.settings kind column → P kind column test)
    → ((column : ℕ) (test : Test) → IsLoaded head column → NamesRange table.settings head column test → R column test)
    → OfEach (OfIndex P R (Unit {0})) (choices_for query table head) query.conjuncts
each_choice P R query table head loaded index range at conjunct there =
    subst (λ c. OfIndex P R (Unit {0}) c conjunct) (sym (choice_is (choice_of table.settings head) query.conjuncts at conjunct there))
    (of_conjunct P R table.settings head conjunct (λ column test kind is names. index column test kind (own column test is) names) (λ column test is names. range column test (own column test is) names))
  where
    own : (column : ℕ) (test : Test) → conjunct ≡ One column test → IsLoaded head column
    own column test is = loaded column (conjuncts_in_names query column (any_at (conjunct_names column) query.conjuncts at conjunct there (own_column conjunct column test is)))

-- the indexes of conjuncts can be read
pub ready_for : (query : BoundQuery) (table : Table) (head : Seen) → IsHeadOf table head → AreNamedLoaded query head → OfEach (IsReady head) (choices_for query table head) query.conjuncts
ready_for query table head is loaded =
    each_choice (λ kind column test. IsIndexed head kind column) (λ column test. IsRanged head column test) query table head loaded
    (λ column test kind own names. record { loaded = own; placed = there (part_of kind column) (has_index table kind column names) })
    (λ column test own names. record { loaded = own; placed = there (parts.Range column) (has_range table column names.0); consecutive = names.1 })
  where
    there : (part : Part) → list_any (λ p. is_same p part) (sections_of table) ≡ true → IsSome (place_in head.sections part)
    there part among =
        subst (λ sections. IsSome (place_in sections part)) (sym is.has.sections_are)
        (some_place is.file part (front_size table is.name) (sections_of table) is.front.sizes is.each among)

-- ---- the ids of rows

same_map : {X Y Z : Type 0} (g : Y → Z) (f : X → Y) (xs : List X) → map g (map f xs) ≡ map (λ x. g (f x)) xs
same_map g f [] = refl
same_map g f (x ∷ xs) = ap (λ rest. g (f x) ∷ rest) (same_map g f xs)

module _ (os : List (List Value)) (column : ℕ) where
  abbrev vs : List Value
  vs = segment.values_in column os

  -- the place of the value of a row
  pub place_at : (k : ℕ) (row : List Value) → k < length os → get_or os k row ≡ row → IsPlace (distinct vs) (value_in column row) (place_of (distinct vs) (value_in column row))
  place_at k row lt is =
      let z : Value = Whole (pos 0) in
      let same : get_or vs k z ≡ value_in column row = get_or-map (value_in column) os k row z lt ∙ ap (value_in column) is in
      subst (λ v. IsPlace (distinct vs) v (place_of (distinct vs) v)) same (places vs k z (omega (arith, lt, length-map os (value_in column))))

  id_at_row : (k : ℕ) (row : List Value) → k < length os → get_or os k row ≡ row → get_or (ids_of os column) k 0 ≡ place_of (distinct vs) (value_in column row)
  id_at_row k row lt is =
      ap (λ (l : List ℕ). get_or l k 0) (same_map (place_of (distinct vs)) (value_in column) os) ∙ get_or-map (λ r. place_of (distinct vs) (value_in column r)) os k row 0 lt ∙ ap (λ r. place_of (distinct vs) (value_in column r)) is

pub again : (xs : List (List Value)) (k : ℕ) (row : List Value) → k < length xs → get_or xs k (get_or xs k row) ≡ get_or xs k row
again [] k row lt = absurd (omega (arith, lt))
again (x ∷ xs) zero row lt = refl
again (x ∷ xs) (suc k) row lt = again xs k row (omega (arith, lt))

sorted_rise : (rows : List (List Value)) (column : ℕ) → IsNonDecreasing (ids_of (sorted_by column rows) column)
sorted_rise rows column =
    let os : List (List Value) = sorted_by column rows in
    let d : List Value = distinct (segment.values_in column os) in
    subst IsNonDecreasing (sym (same_map (place_of d) (value_in column) os))
    (sorted_ids d (distinct_ascends (segment.values_in column os)) column (λ row. place_of d (value_in column row)) rows (λ k row lt.
    let place = place_at os column k (get_or os k row) lt (again os k row lt) in
    (place.below, place.back)))

ids_rise : (sorted : Option ℕ) (rows : List (List Value)) (column : ℕ) → is_sorted_on sorted column ≡ true → IsNonDecreasing (ids_of (ordered sorted rows) column)
ids_rise None rows column is = absurd (false≢true is)
ids_rise (Some s) rows column is =
    let same : s ≡ column = eqb-true s column is in
    subst (λ m. IsNonDecreasing (ids_of (sorted_by m rows) column)) (sym same) (sorted_rise rows column)

-- ---- the sections tell the ids

module _ (table : Table) (rows : List (List Value)) (files : Files) (head : Seen) (tells : TellsOf table (ordered table.settings.sorted rows) head)
    (bytes : (part : Part) → ((p : Part) → is_same p part ≡ true → p ≡ part) → list_any (λ p. is_same p part) (sections_of table) ≡ true → bytes_in files (place_in head.sections part) ≡ section_of table (ordered table.settings.sorted rows) part) where
  abbrev rs : List (List Value)
  rs = ordered table.settings.sorted rows

  values_are : (c : ℕ) → IsLoaded head c → values_in head c ≡ distinct (segment.values_in c rs)
  values_are c loaded = ap values_of loaded.1 ∙ ap (λ x. x.values) (tells.dictionaries_are c loaded.0 loaded.1)

  index_bytes : (kind : ListKind) (c : ℕ) → NamesIndex table.settings kind c → bytes_in files (place_in head.sections (part_of kind c)) ≡ section_of table rs (part_of kind c)
  index_bytes kind c names = bytes (part_of kind c) (kind_only kind c) (has_index table kind c names)

  index_tells : (c : ℕ) (test : Test) (kind : ListKind) → IsLoaded head c → NamesIndex table.settings kind c → TellsIds files head kind c (ids_of rs c)
  index_tells c test kinds.Sorted loaded names =
      let count : count_in head c ≡ count_of rs c = ap length (values_are c loaded) in
      subst (λ n. Tells kinds.Sorted n head.rows (bytes_in files (place_in head.sections (parts.Sorted c))) (ids_of rs c)) (sym count)
      ((ids-below rs c, ids-count rs c ∙ sym tells.rows_are), ids_rise table.settings.sorted rows c names, index_bytes kinds.Sorted c names)
  index_tells c test kinds.Inverted loaded names =
      let count : count_in head c ≡ count_of rs c = ap length (values_are c loaded) in
      subst (λ n. Tells kinds.Inverted n head.rows (bytes_in files (place_in head.sections (parts.Inverted c))) (ids_of rs c)) (sym count)
      ((ids-below rs c, ids-count rs c ∙ sym tells.rows_are), index_bytes kinds.Inverted c names)

  range_tells : (c : ℕ) (test : Test) → IsLoaded head c → NamesRange table.settings head c test → TellsBuckets files head c (ids_of rs c)
  range_tells c test loaded names =
      let count : count_in head c ≡ count_of rs c = ap length (values_are c loaded) in
      subst (λ n. TellsRanged n head.rows (bytes_in files (place_in head.sections (parts.Range c))) (ids_of rs c)) (sym count)
      ((ids-below rs c, ids-count rs c ∙ sym tells.rows_are), bytes (parts.Range c) (λ p. range_only p c) (has_range table c names.0))

  -- ---- and leave the rows

  module _ (at : ℕ) (lt : at < length rs) where
    abbrev row : List Value
    row = get_or rs at []

    once : get_or rs at row ≡ row
    once = again rs at [] lt

    inside : (c : ℕ) → nat_lt at (length (ids_of rs c)) ≡ true
    inside c = lt_true at (length (ids_of rs c)) (omega (arith, lt, ids-count rs c))

    leaf : (c : ℕ) (test : Test) → IsLoaded head c → is_doc_of (matching test (values_in head c)) (ids_of rs c) at ≡ holds (cell row c) test
    leaf c test loaded =
        let vs : List Value = segment.values_in c rs in
        let v : Value = value_in c row in
        let place = place_at rs c at row lt once in
        ap (λ b. b && has_id (matching test (values_in head c)) (get_or (ids_of rs c) at 0)) (inside c)
        ∙ (λ i. has_id (matching test (values_are c loaded i)) (id_at_row rs c at row lt once i))
        ∙ each_matching (distinct vs) test (matching test (distinct vs)) refl (place_of (distinct vs) v)
        ∙ ap (satisfies test) (item_there (Whole (pos 0)) (distinct vs) (place_of (distinct vs) v) place.below ∙ ap Some place.back)

    range_leaf : (c : ℕ) (test : Test) → IsLoaded head c → is_doc_near (count_in head c) (matching test (values_in head c)) (ids_of rs c) at ≡ is_value_near (distinct (segment.values_in c rs)) test (value_in c row)
    range_leaf c test loaded =
        ap (λ b. b && is_near (count_in head c) (matching test (values_in head c)) (get_or (ids_of rs c) at 0)) (inside c)
        ∙ (λ i. is_near (length (values_are c loaded i)) (matching test (values_are c loaded i)) (id_at_row rs c at row lt once i))

    -- a document that a range index leaves for sure satisfies the conjunct
    sure_leaf : (conjunct : Conjunct) → IsReady head Range conjunct → is_indexed Range conjunct ≡ true → leaves head (ids_of rs) at Range conjunct ≡ true → is_unsure head (ids_of rs) at Range conjunct ≡ false → conjunct_holds row conjunct ≡ true
    sure_leaf (Many wide) ready has near unsure = absurd (false≢true has)
    sure_leaf (One c test) ready has near unsure =
        let count : count_in head c ≡ count_of rs c = ap length (values_are c ready.loaded) in
        sym (leaf c test ready.loaded)
        ∙ sure_has (count_in head c) (matching test (values_in head c)) (ids_of rs c) at (subst (λ n. All (λ id. id < n) (ids_of rs c)) (sym count) (ids-below rs c)) ready.consecutive near unsure

    one_leaves : (choice : IndexChoice) (conjunct : Conjunct) → ((column : ℕ) → conjunct_names column conjunct ≡ true → IsLoaded head column) → is_indexed choice conjunct ≡ true → leaves head (ids_of rs) at choice conjunct ≡ is_row_left rs row choice conjunct
    one_leaves Sorted (One c test) loaded has = leaf c test (loaded c (eq-eqb c c refl))
    one_leaves Inverted (One c test) loaded has = leaf c test (loaded c (eq-eqb c c refl))
    one_leaves Range (One c test) loaded has = range_leaf c test (loaded c (eq-eqb c c refl))
    one_leaves Unindexed conjunct loaded has = absurd (false≢true has)
    one_leaves Sorted (Many wide) loaded has = absurd (false≢true has)
    one_leaves Inverted (Many wide) loaded has = absurd (false≢true has)
    one_leaves Range (Many wide) loaded has = absurd (false≢true has)

    next_leaves : (b : Bool) (x : Chosen) (list : List Chosen) → (b ≡ true → leaves head (ids_of rs) at x.choice x.conjunct ≡ is_row_left rs row x.choice x.conjunct) → all_leave head (ids_of rs) at list ≡ all_left rs row list
        → all_leave head (ids_of rs) at (if b then x ∷ list else list) ≡ all_left rs row (if b then x ∷ list else list)
    next_leaves true x list own rest = (λ i. own refl i && rest i)
    next_leaves false x list own rest = rest

    each_leaves : (choices : List IndexChoice) (conjuncts : List Conjunct) → ((column : ℕ) → list_any (conjunct_names column) conjuncts ≡ true → IsLoaded head column)
        → all_leave head (ids_of rs) at (indexed choices conjuncts) ≡ all_left rs row (indexed choices conjuncts)
    each_leaves [] conjuncts loaded = refl
    each_leaves (c ∷ cs) [] loaded = refl
    each_leaves (c ∷ cs) (x ∷ xs) loaded =
        next_leaves (is_indexed c x) (record { choice = c; conjunct = x }) (indexed cs xs) (one_leaves c x (λ column is. loaded column (or_left (conjunct_names column x) (list_any (conjunct_names column) xs) is)))
        (each_leaves cs xs (λ column is. loaded column (or_right (conjunct_names column x) (list_any (conjunct_names column) xs) is)))

pub images_leave : HeadTells → ImagesLeave
images_leave law query table files rows head valid is loaded of =
    let os : List (List Value) = ordered table.settings.sorted rows in
    let front : Front = front_of 1 table os in
    let tells : TellsOf table os head = law table of.name of.file rows of.whole head valid of.named of.can of.is_head of.part in
    let keeps : KeepsAll table of.name (image 1 table of.name rows) front (map (dictionary_of table os) (columns_of table)) = image_keeps table of.name rows valid of.named of.can in
    let same : of.is_head.front ≡ front = fronts_one table of.name (image 1 table of.name rows) front of.is_head.front keeps.front_is of.is_head.keeps.front_is in
    let sections : head.sections ≡ map (placed of.file) (extents_of table of.name front) = of.part.sections_same ∙ of.is_head.sections_are ∙ ap (λ (f : Front). map (placed of.file) (extents_of table of.name f)) same in
    let sizes : length front.sizes ≡ length (sections_of table) = length-map (sections_of_rows table os) length ∙ length-map (sections_of table) (section_of table os) in
    let bytes : (part : Part) → ((p : Part) → is_same p part ≡ true → p ≡ part) → list_any (λ p. is_same p part) (sections_of table) ≡ true → bytes_in files (place_in head.sections part) ≡ section_of table os part =
    (λ part only among. ap (λ (s : List Section). bytes_in files (place_in s part)) sections
    ∙ cut_section files of.file (section_of table os) part only (front_bytes table of.name front) (front_size table of.name) (sections_of table) (front_bytes_size table of.name front sizes) of.stored among) in
    record {
      size = ordered_count table.settings.sorted rows;
      ids = ids_of os;
      tells = each_choice (λ kind column test. TellsIds files head kind column (ids_of os column)) (λ column test. TellsBuckets files head column (ids_of os column)) query table head loaded
          (index_tells table rows files head tells bytes) (range_tells table rows files head tells bytes);
      sure = λ at doc conjunct there ranged has lt near unsure.
          sure_leaf table rows files head tells bytes doc (omega (arith, lt, ordered_count table.settings.sorted rows)) conjunct (subst (λ ch. IsReady head ch conjunct) ranged (ready_for query table head is loaded at conjunct there)) has near unsure;
      left = λ at lt.
          each_leaves table rows files head tells bytes at (omega (arith, lt, ordered_count table.settings.sorted rows)) (choices_for query table head) query.conjuncts (λ column named. loaded column (conjuncts_in_names query column named));
    }
