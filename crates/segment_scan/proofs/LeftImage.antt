-- What a scan of the documents that indexes leave says of the image of rows.
use Rattle.std.proofs.Common.{◌≡◌, ◌∙◌, ◌<◌, ◌≤◌, ◌+◌, ◌&&◌, ◌||◌, ◌++◌, ◌∷◌, [], ℕ, zero, suc, Bool, true, false, not, inl, inr, All, List, Option, Some, None, IfSome, length, map, get_or, slice_get, refl, sym, ap, subst, arith}
use Rattle.std.specs.Prelude.{if◌then◌else◌, IsPermutation}
use Rattle.std.specs.List.{filter, list_all, list_any}
use Rattle.std.specs.List.Sorted.{IsStrictlyIncreasing}
use Rattle.std.proofs.lemmas.Bool.{false≢true}
use Rattle.std.proofs.lemmas.List.{length-map}
use Rattle.std.proofs.lemmas.List.Elements.{All-head, All-nil, All-tail}
use Rattle.std.proofs.lemmas.List.Sorted.{IsPermutation-sym}
use Rattle.outside.specs.Files.{Files}
use Rattle.outside.specs.Reads.{Entry}
use Rattle.values.specs.declared.value.Value.{Value}
use Rattle.values.specs.Columns.{Listed}
use Rattle.values.specs.declared.test.Test.{Test}
use Rattle.value_ids.specs.Dictionary.{distinct}
use Rattle.index_reader.specs.declared.kind.ListKind.{ListKind}
use Rattle.table_schema.specs.declared.query.BoundQuery.{BoundQuery}
use Rattle.table_schema.specs.declared.query.Conjunct.{Conjunct}
use Rattle.table_schema.specs.declared.query.Conjunct.TheVariants.{One, Many}
use Rattle.table_schema.specs.declared.table.Table.{Table}
use Rattle.table_schema.specs.ValidTable.{IsValidTable}
use Rattle.table_schema.specs.Conditions.{all_hold, conjunct_holds}
use Rattle.doc_lists.specs.Docs.{has_doc}
use Rattle.group_table.proofs.GroupsLemmas.{permuted_adds as permuted_groups}
use Rattle.group_table.specs.Kept.{KeptGroups, groups_in}
use Rattle.group_table.specs.Shape.{shape_of}
use Rattle.scan_engine.specs.Places.{rows_at}
use Rattle.scan_engine.specs.Scanned.{AddsRows, IsOverfull, selected}
use Rattle.scan_engine.proofs.AddLemmas.{adds_both, overfull_more, overfull_past}
use Rattle.scan_engine.proofs.RunLemmas.{adds_as_more}
use Rattle.segment_file.specs.declared.part.Part.{Part}
use Rattle.segment_file.specs.declared.part.Part.TheVariants.{Forward}
use Rattle.segment_head.specs.Heads.{IsHeadOf, Seen}
use Rattle.segment_file.specs.Columns as segment
use Rattle.segment_file.specs.Ordered.{ordered, value_in}
use Rattle.segment_plan.specs.declared.plans.IndexChoice.{IndexChoice}
use Rattle.segment_plan.specs.declared.plans.IndexChoice.TheVariants.{Unindexed, Sorted, Inverted, Range}
use Rattle.segment_scan.specs.Agreement.{AgreeAll, AreSame}
use Rattle.segment_scan.specs.Documents.{AddsDocs, selected_docs}
use Rattle.column_reader.specs.Forward.{HasIds}
use Rattle.segment_scan.specs.Images.{AddsImage, AddsWhole, AreDocs, AreLeftFor, AreParts, HasUnsureFor, ImagesLeave, ImagesRead, IsBadForward, IsBadIn, IsBadWhole, IsImageOverfull, IsWholeOverfull, LogsPartsPartly, choices_for, indexed_for, rest_for, sure_for}
use Rattle.segment_head.specs.Stored.{IsNoImage, IsOfImage}
use Rattle.segment_plan.specs.Named.{AreNamedLoaded, names_in, agg_names, conjunct_names, is_in, query_names}
use Rattle.index_filter.specs.Indexes.{IsBadAny, IsBadIndex, LogsAt, LogsIndex, LogsRange, OfIndex, TellsIndexed, all_leave, is_unsure, leaves}
use Rattle.segment_scan.specs.Scans.{columns_read}
use Rattle.outside.specs.Series.{LogsTo}
use Rattle.segment_plan.specs.Served.{choice_at, is_served, rest_of, unserved}
use Rattle.segment_plan.specs.RowsLeft.{Chosen, all_left, indexed, is_indexed, is_row_left, rows_left, sure_choices}
use Rattle.segment_scan.proofs.AgreementLemmas.{agreeing_same}
use Rattle.segment_scan.proofs.DocLemmas.{filter_both, rows_filtered}
use Rattle.segment_scan.proofs.IndexImage.{again, place_at}
use Rattle.segment_scan.proofs.ImageLemmas.{ordered_count}
use Rattle.index_filter.proofs.MatchLemmas.{all_has}
use Rattle.index_filter.proofs.LeftLemmas.{one_chosen, part_all}
use Rattle.segment_scan.proofs.PickLemmas.{docs_few}
use Rattle.segment_scan.proofs.PartLemmas.{left_at, parts_count, parts_permuted, sure_all}
use Rattle.segment_scan.proofs.NearLemmas.{value_near}
use Rattle.segment_scan.proofs.SegmentLemmas.{mark_named, marks_are}
use Rattle.segment_scan.proofs.ServedLemmas.{unserved_names}

-- ---- all conjuncts hold just where the indexes leave and the conjuncts that are not served hold

-- each index leaves just that of which its conjunct holds, or more where the conjunct is not served
record AreExact (p : Conjunct → Bool) (q : IndexChoice → Conjunct → Bool) : Type 0 where
  served : (choice : IndexChoice) (conjunct : Conjunct) → is_served choice conjunct ≡ true → q choice conjunct ≡ p conjunct
  more : (choice : IndexChoice) (conjunct : Conjunct) → p conjunct ≡ true → q choice conjunct ≡ true

served_indexed : (choice : IndexChoice) (conjunct : Conjunct) → is_served choice conjunct ≡ true → is_indexed choice conjunct ≡ true
served_indexed Sorted (One column test) is = refl
served_indexed Inverted (One column test) is = refl
served_indexed Range conjunct is = absurd (false≢true is)
served_indexed Unindexed conjunct is = absurd (false≢true is)
served_indexed Sorted (Many wide) is = absurd (false≢true is)
served_indexed Inverted (Many wide) is = absurd (false≢true is)

module _ (p : Conjunct → Bool) (q : IndexChoice → Conjunct → Bool) (exact : AreExact p q) where
  split_one : (c : IndexChoice) (x : Conjunct) (s i : Bool) → is_served c x ≡ s → is_indexed c x ≡ i → (kept : List Chosen) (others : List Conjunct) (rest : Bool) → rest ≡ (list_all (λ y. q y.choice y.conjunct) kept && list_all p others)
      → (p x && rest) ≡ (list_all (λ y. q y.choice y.conjunct) (if i then one_chosen c x ∷ kept else kept) && list_all p (if s then others else x ∷ others))
  split_one c x true false s_is i_is kept others rest is = absurd (false≢true (sym i_is ∙ served_indexed c x s_is))
  split_one c x true true s_is i_is kept others rest is =
      ap (λ r. p x && r) is ∙ assoc (p x) (list_all (λ y. q y.choice y.conjunct) kept) (list_all p others) ∙ ap (λ b. (b && list_all (λ y. q y.choice y.conjunct) kept) && list_all p others) (sym (exact.served c x s_is))
    where
      assoc : (a b c : Bool) → (a && (b && c)) ≡ ((a && b) && c)
      assoc true b c = refl
      assoc false b c = refl
  split_one c x false false s_is i_is kept others rest is = ap (λ r. p x && r) is ∙ swap (p x) (list_all (λ y. q y.choice y.conjunct) kept) (list_all p others)
    where
      swap : (a b c : Bool) → (a && (b && c)) ≡ (b && (a && c))
      swap true b c = refl
      swap false true c = refl
      swap false false c = refl
  split_one c x false true s_is i_is kept others rest is =
      ap (λ r. p x && r) is ∙ twice (p x) (q c x) (list_all (λ y. q y.choice y.conjunct) kept) (list_all p others) (exact.more c x)
    where
      twice : (a o b c : Bool) → (a ≡ true → o ≡ true) → (a && (b && c)) ≡ ((o && b) && (a && c))
      twice true true b c more = refl
      twice true false b c more = absurd (false≢true (more refl))
      twice false o b c more = sym (none (o && b))
        where
          none : (x : Bool) → (x && false) ≡ false
          none true = refl
          none false = refl

  split_all : (choices : List IndexChoice) (conjuncts : List Conjunct) → list_all p conjuncts ≡ (list_all (λ y. q y.choice y.conjunct) (indexed choices conjuncts) && list_all p (unserved choices conjuncts))
  split_all [] conjuncts = refl
  split_all (c ∷ cs) [] = refl
  split_all (c ∷ cs) (x ∷ xs) = split_one c x (is_served c x) (is_indexed c x) refl refl (indexed cs xs) (unserved cs xs) (list_all p xs) (split_all cs xs)

-- a row of these by its place: an index leaves it where it satisfies the conjunct
row_exact : (rows : List (List Value)) (k : ℕ) → k < length rows → AreExact (conjunct_holds (get_or rows k [])) (is_row_left rows (get_or rows k []))
row_exact rows k lt = record { served = served; more = more }
  where
    served : (choice : IndexChoice) (conjunct : Conjunct) → is_served choice conjunct ≡ true → is_row_left rows (get_or rows k []) choice conjunct ≡ conjunct_holds (get_or rows k []) conjunct
    served Sorted conjunct is = refl
    served Inverted conjunct is = refl
    served Unindexed conjunct is = refl
    served Range conjunct is = absurd (false≢true is)

    more : (choice : IndexChoice) (conjunct : Conjunct) → conjunct_holds (get_or rows k []) conjunct ≡ true → is_row_left rows (get_or rows k []) choice conjunct ≡ true
    more Sorted conjunct holds = holds
    more Inverted conjunct holds = holds
    more Unindexed conjunct holds = holds
    more Range (Many wide) holds = holds
    more Range (One column test) holds = value_near (distinct (segment.values_in column rows)) test (value_in column (get_or rows k [])) (place_at rows column k (get_or rows k []) lt (again rows k [] lt)) holds

-- ---- the query that is left

rest_adds : (query : BoundQuery) (choices : List IndexChoice) (count : ℕ) (rows : List (List Value)) (old new : KeptGroups) → AddsRows query count rows old new → AddsRows (rest_of query choices) count rows old new
rest_adds query choices count rows old new by = record { of_query = record { columns = by.of_query.columns; kinds = by.of_query.kinds }; most = by.most; groups = by.groups; fits = by.fits }

adds_rest : (query : BoundQuery) (choices : List IndexChoice) (count : ℕ) (rows : List (List Value)) (old new : KeptGroups) → AddsRows (rest_of query choices) count rows old new → AddsRows query count rows old new
adds_rest query choices count rows old new by = record { of_query = record { columns = by.of_query.columns; kinds = by.of_query.kinds }; most = by.most; groups = by.groups; fits = by.fits }

pub rest_loaded : (query : BoundQuery) (choices : List IndexChoice) (head : Seen) → AreNamedLoaded query head → AreNamedLoaded (rest_of query choices) head
rest_loaded query choices head loaded column named = loaded column (unserved_names query choices column named)

-- ---- on the image of rows

-- of some documents, by any choices
module _ (law : ImagesRead) (query : BoundQuery) (table : Table) (head : Seen) (valid : IsValidTable table) (of_table : IsHeadOf table head) (loaded : AreNamedLoaded query head) (cs : List IndexChoice) (files : Files) (rows : List (List Value)) (of : IsOfImage table files rows head) where
  abbrev some_rows : List (List Value)
  some_rows = ordered table.settings.sorted rows

  abbrev some_cols : List Listed
  some_cols = columns_read files head 0 (names_in (rest_of query cs) table)

  agree_at : (ds : List ℕ) → All (λ k. k < length some_rows) ds → AgreeAll (query_names (rest_of query cs)) (rows_at some_cols ds) (map (λ k. get_or some_rows k []) ds)
  agree_at [] within = tt
  agree_at (d ∷ ds) within =
      let reads = law (rest_of query cs) table files rows head valid of_table (rest_loaded query cs head loaded) of in
      let lt : d < length some_rows = All-head (λ k. k < length some_rows) d ds within in
      (reads.each d (omega (arith, lt, ordered_count table.settings.sorted rows)), agree_at ds (All-tail (λ k. k < length some_rows) d ds within))

  same_at : (ds : List ℕ) → All (λ k. k < length some_rows) ds → AreSame (rest_of query cs) (rows_at some_cols ds) (map (λ k. get_or some_rows k []) ds)
  same_at ds within = agreeing_same (rest_of query cs) (rows_at some_cols ds) (map (λ k. get_or some_rows k []) ds) (agree_at ds within)

  part_adds : (n : ℕ) (ds : List ℕ) → All (λ k. k < length some_rows) ds → (added : List (List Value)) (old new : KeptGroups) → added ≡ selected_docs query cs files head (names_in (rest_of query cs) table) ds → AddsRows query n added old new
      → AddsRows query n (selected (rest_of query cs) (map (λ k. get_or some_rows k []) ds)) old new
  part_adds n ds within added old new is by =
      adds_rest query cs n (selected (rest_of query cs) (map (λ k. get_or some_rows k []) ds)) old new
      ((same_at ds within).adds n old new (rest_adds query cs n (selected (rest_of query cs) (rows_at some_cols ds)) old new (subst (λ (l : List (List Value)). AddsRows query n l old new) is by)))

  part_overfull : (ds : List ℕ) → All (λ k. k < length some_rows) ds → (old : KeptGroups) → IsOverfull query (selected_docs query cs files head (names_in (rest_of query cs) table) ds) old
      → IsOverfull query (selected (rest_of query cs) (map (λ k. get_or some_rows k []) ds)) old
  part_overfull ds within old over = (same_at ds within).overfull old over

-- the groups of permuted rows
permuted_adds : (query : BoundQuery) (n m : ℕ) (xs ys : List (List Value)) (old new : KeptGroups) → n ≡ m → IsPermutation xs ys → AddsRows query n ys old new → AddsRows query m xs old new
permuted_adds query n m xs ys old new same permuted by = subst (λ k. AddsRows query k xs old new) same (record {
  of_query = by.of_query;
  most = by.most;
  groups = permuted_groups (shape_of query) ys xs (groups_in old) (groups_in new) (IsPermutation-sym xs ys permuted) by.groups;
  fits = by.fits;
})

permuted_overfull : (query : BoundQuery) (xs ys : List (List Value)) (old : KeptGroups) → IsPermutation xs ys → IsOverfull query ys old → IsOverfull query xs old
permuted_overfull query xs ys old permuted over = λ new adds. over new (permuted_groups (shape_of query) xs ys (groups_in old) new permuted adds)

module _ (law : ImagesRead) (leave : ImagesLeave) (query : BoundQuery) (table : Table) (head : Seen) (valid : IsValidTable table) (of_table : IsHeadOf table head) (loaded : AreNamedLoaded query head) (docs : List ℕ) where
  abbrev choices : List IndexChoice
  choices = choices_for query table head

  abbrev rest : BoundQuery
  rest = rest_for query table head

  abbrev others : BoundQuery
  others = sure_for query table head

  module _ (files : Files) (rows : List (List Value)) (of : IsOfImage table files rows head) (left : AreLeftFor query table (Some files) head docs) where
    abbrev os : List (List Value)
    os = ordered table.settings.sorted rows

    abbrev at_doc : ℕ → List Value
    at_doc k = get_or os k []

    rows_long : head.rows ≡ length os
    rows_long = (law rest table files rows head valid of_table (rest_loaded query choices head loaded) of).count ∙ sym (ordered_count table.settings.sorted rows)

    docs_within : All (λ k. k < length os) docs
    docs_within = subst (λ n. All (λ k. k < n) docs) rows_long left.within

    rows_are : map at_doc docs ≡ rows_left query choices os
    rows_are =
        let lv = leave query table files rows head valid of_table loaded of in
        let those = left.told lv.ids lv.tells in
        rows_filtered [] (λ row. all_left os row (indexed choices query.conjuncts)) os docs those.ascend docs_within (λ k lt. those.those k ∙ lv.left k (omega (arith, lt, lv.size)))

    chosen : selected rest (map at_doc docs) ≡ selected query os
    chosen =
        ap (selected rest) rows_are
        ∙ filter_both [] (λ row. all_left os row (indexed choices query.conjuncts)) (λ row. all_hold row (unserved choices query.conjuncts)) (λ row. all_hold row query.conjuncts) os
        (λ k lt. split_all (conjunct_holds (at_doc k)) (is_row_left os (at_doc k)) (row_exact os k lt) choices query.conjuncts)

    pub left_count : length docs ≡ length (rows_left query choices os)
    left_count = sym (length-map docs at_doc) ∙ ap length rows_are

    module _ (unsure check sure : List ℕ) (has : HasUnsureFor query table (Some files) head unsure) (parts : AreParts docs unsure check sure) where
      pub check_within : All (λ k. k < length os) check
      check_within = part_all (λ k. k < length os) docs check (has_doc unsure) parts.checks docs_within

      pub sure_within : All (λ k. k < length os) sure
      sure_within = part_all (λ k. k < length os) docs sure (λ d. not (has_doc unsure d)) parts.sures docs_within

      -- a document that is sure satisfies the conjunct of each range index
      surely : (d : ℕ) → has_doc sure d ≡ true → (at : ℕ) (x : Conjunct) → slice_get query.conjuncts at ≡ Some x → choice_at choices at ≡ Range → is_indexed Range x ≡ true → conjunct_holds (at_doc d) x ≡ true
      surely d in_sure at x there ranged can =
          let lv = leave query table files rows head valid of_table loaded of in
          let both : has_doc docs d && not (has_doc unsure d) ≡ true = sym (parts.sures.those d) ∙ in_sure in
          let in_docs : has_doc docs d ≡ true = first_true (has_doc docs d) (not (has_doc unsure d)) both in
          let lt : d < length os = all_has (λ k. k < length os) docs d in_docs docs_within in
          let all : all_leave head lv.ids d (indexed choices query.conjuncts) ≡ true = sym ((left.told lv.ids lv.tells).those d) ∙ in_docs in
          let near : leaves head lv.ids d Range x ≡ true =
          subst (λ ch. leaves head lv.ids d ch x ≡ true) ranged (left_at (leaves head lv.ids d) choices query.conjuncts at x there (ap (λ ch. is_indexed ch x) ranged ∙ can) all) in
          let out : is_unsure head lv.ids d Range x ≡ false = not_unsure (is_unsure head lv.ids d Range x) (has_doc unsure d)
          (λ is. has lv.ids lv.tells at x (there_lt query.conjuncts at x there) there d (ap (λ ch. is_unsure head lv.ids d ch x) ranged ∙ is)) (second_true (has_doc docs d) (not (has_doc unsure d)) both) in
          lv.sure at d x there ranged can (omega (arith, lt, lv.size)) near out
        where
          first_true : (a b : Bool) → a && b ≡ true → a ≡ true
          first_true true b e = refl
          first_true false b e = absurd (false≢true e)

          second_true : (a b : Bool) → a && b ≡ true → b ≡ true
          second_true true b e = e
          second_true false b e = absurd (false≢true e)

          not_unsure : (a b : Bool) → (a ≡ true → b ≡ true) → not b ≡ true → a ≡ false
          not_unsure false b h e = refl
          not_unsure true true h e = absurd (false≢true e)
          not_unsure true false h e = absurd (false≢true (h refl))

          there_lt : (xs : List Conjunct) (k : ℕ) (x : Conjunct) → slice_get xs k ≡ Some x → k < length xs
          there_lt [] k x there = absurd cc
          there_lt (y ∷ ys) zero x there = omega arith
          there_lt (y ∷ ys) (suc k) x there = omega (arith, there_lt ys k x there)

      pub permuted : IsPermutation (selected query os) (selected rest (map at_doc check) ++ selected others (map at_doc sure))
      permuted =
          let lv = leave query table files rows head valid of_table loaded of in
          let those = left.told lv.ids lv.tells in
          subst (λ l. IsPermutation l (selected rest (map at_doc check) ++ selected others (map at_doc sure))) chosen
          (parts_permuted docs unsure sure check (length os) (record { ascend = those.ascend; those = λ doc. refl }) docs_within parts.sures parts.checks sure_within check_within at_doc
          (λ row. all_hold row (unserved choices query.conjuncts)) (λ row. all_hold row (unserved (sure_choices choices) query.conjuncts))
          (λ d is. sure_all (conjunct_holds (at_doc d)) choices query.conjuncts (surely d is)))

      count_parts : length check + length sure ≡ length docs
      count_parts =
          let lv = leave query table files rows head valid of_table loaded of in
          let those = left.told lv.ids lv.tells in
          parts_count docs unsure sure check (length os) (record { ascend = those.ascend; those = λ doc. refl }) docs_within parts.sures parts.checks sure_within check_within

      pub left_adds : (one two : List (List Value)) (old mid new : KeptGroups) → one ≡ selected_docs query choices files head (names_in rest table) check → two ≡ selected_docs query (sure_choices choices) files head (names_in others table) sure
          → length docs ≤ head.rows → AddsRows query (length check) one old mid → AddsRows query (length sure) two mid new → (head.rows ≡ length rows) × AddsRows query (length rows) (selected query os) old new
      left_adds one two old mid new one_is two_is at_most first second =
          let lengths : head.rows ≡ length rows = rows_long ∙ ordered_count table.settings.sorted rows in
          let a = part_adds law query table head valid of_table loaded choices files rows of (length check) check check_within one old mid one_is first in
          let b = part_adds law query table head valid of_table loaded (sure_choices choices) files rows of (length sure) sure sure_within two mid new two_is second in
          let both = adds_both query (length check) (length sure) (selected rest (map at_doc check)) (selected others (map at_doc sure)) old mid new a b in (
            lengths,
            adds_as_more query (length check + length sure) (length rows) (selected query os) old new (omega (arith, lengths, at_most, count_parts))
                (permuted_adds query (length check + length sure) (length check + length sure) (selected query os) (selected rest (map at_doc check) ++ selected others (map at_doc sure)) old new refl permuted both),
          )

      pub check_overfull : (old : KeptGroups) → IsOverfull query (selected_docs query choices files head (names_in rest table) check) old → IsOverfull query (selected query os) old
      check_overfull old over =
          permuted_overfull query (selected query os) (selected rest (map at_doc check) ++ selected others (map at_doc sure)) old permuted
          (overfull_more query (selected rest (map at_doc check)) (selected others (map at_doc sure)) old (part_overfull law query table head valid of_table loaded choices files rows of check check_within old over))

      pub sure_overfull : (one : List (List Value)) (old mid : KeptGroups) → one ≡ selected_docs query choices files head (names_in rest table) check → AddsRows query (length check) one old mid
          → IsOverfull query (selected_docs query (sure_choices choices) files head (names_in others table) sure) mid → IsOverfull query (selected query os) old
      sure_overfull one old mid one_is first over =
          let added = part_adds law query table head valid of_table loaded choices files rows of (length check) check check_within one old mid one_is first in
          permuted_overfull query (selected query os) (selected rest (map at_doc check) ++ selected others (map at_doc sure)) old permuted
          (overfull_past query (selected rest (map at_doc check)) (selected others (map at_doc sure)) old mid added.groups added.most
          (part_overfull law query table head valid of_table loaded (sure_choices choices) files rows of sure sure_within mid over))

  -- both parts were added
  pub left_image : (held : Option Files) (unsure check sure : List ℕ) → AreLeftFor query table held head docs → HasUnsureFor query table held head unsure → AreParts docs unsure check sure → length docs ≤ head.rows → length check + length sure ≡ length docs
      → (old mid new : KeptGroups) → AddsDocs query choices held head (names_in rest table) check old mid → AddsDocs query (sure_choices choices) held head (names_in others table) sure mid new → AddsImage query table held head old new
  left_image None unsure check sure left has parts at_most count old mid new one two = record {
    added = one.rows ++ two.rows;
    adds = adds_as_more query (length check + length sure) head.rows (one.rows ++ two.rows) old new (omega (arith, at_most, count)) (adds_both query (length check) (length sure) one.rows two.rows old mid new one.adds two.adds);
    read = tt;
    told = tt;
  }
  left_image (Some files) unsure check sure left has parts at_most count old mid new one two = record {
    added = one.rows ++ two.rows;
    adds = adds_as_more query (length check + length sure) head.rows (one.rows ++ two.rows) old new (omega (arith, at_most, count)) (adds_both query (length check) (length sure) one.rows two.rows old mid new one.adds two.adds);
    read = inr (record { docs = docs; unsure = unsure; check = check; sure = sure; left = left; has = has; parts = parts; rows_are = (λ i. one.told i ++ two.told i) });
    told = λ rows of. left_adds files rows of left unsure check sure has parts one.rows two.rows old mid new one.told two.told at_most one.adds two.adds;
  }

  -- there are too many groups with the documents to be checked
  pub check_full : (held : Option Files) (unsure check sure : List ℕ) → AreLeftFor query table held head docs → HasUnsureFor query table held head unsure → AreParts docs unsure check sure → (old : KeptGroups)
      → IfSome held (λ files. IsOverfull query (selected_docs query choices files head (names_in rest table) check) old) → IsImageOverfull query table held head old
  check_full None unsure check sure left has parts old over = tt
  check_full (Some files) unsure check sure left has parts old over = (
    (
      selected_docs query choices files head (names_in rest table) check ++ selected_docs query (sure_choices choices) files head (names_in others table) sure,
      inr (record { docs = docs; unsure = unsure; check = check; sure = sure; left = left; has = has; parts = parts; rows_are = refl }),
      overfull_more query (selected_docs query choices files head (names_in rest table) check) (selected_docs query (sure_choices choices) files head (names_in others table) sure) old over,
    ),
    λ rows of. check_overfull files rows of left unsure check sure has parts old over,
  )

  -- or with those that are sure
  pub sure_full : (held : Option Files) (unsure check sure : List ℕ) → AreLeftFor query table held head docs → HasUnsureFor query table held head unsure → AreParts docs unsure check sure → (old mid : KeptGroups)
      → AddsDocs query choices held head (names_in rest table) check old mid → IfSome held (λ files. IsOverfull query (selected_docs query (sure_choices choices) files head (names_in others table) sure) mid) → IsImageOverfull query table held head old
  sure_full None unsure check sure left has parts old mid one over = tt
  sure_full (Some files) unsure check sure left has parts old mid one over = (
    (
      one.rows ++ selected_docs query (sure_choices choices) files head (names_in others table) sure,
      inr (record { docs = docs; unsure = unsure; check = check; sure = sure; left = left; has = has; parts = parts; rows_are = ap (λ (l : List (List Value)). l ++ selected_docs query (sure_choices choices) files head (names_in others table) sure) one.told }),
      overfull_past query one.rows (selected_docs query (sure_choices choices) files head (names_in others table) sure) old mid one.adds.groups one.adds.most over,
    ),
    λ rows of. sure_overfull files rows of left unsure check sure has parts one.rows old mid one.told one.adds over,
  )

  pub left_docs : (held : Option Files) → AreLeftFor query table held head docs → length docs ≤ head.rows → AreDocs query table held head (length docs)
  left_docs held left at_most = record { at_most = at_most; all = λ none. absurd (let some = left.some in omega (arith, some, ap length none)); told = go held left }
    where
      go : (told : Option Files) → AreLeftFor query table told head docs → IfSome told (λ files. (rows : List (List Value)) → IsOfImage table files rows head → length docs ≡ length (rows_left query (choices_for query table head) (ordered table.settings.sorted rows)))
      go None left = tt
      go (Some files) left = λ rows of. left_count files rows of left

no_image : (law : ImagesRead) (query : BoundQuery) (table : Table) (head : Seen) → IsValidTable table → IsHeadOf table head → AreNamedLoaded query head → (held : Option Files) (column : ℕ) → query_names query column ≡ true → IfSome held (λ files. ¬ HasIds files head column) → IsNoImage table held head
no_image law query table head valid of_table loaded None column named none = tt
no_image law query table head valid of_table loaded (Some files) column named none = λ rows of. none ((law query table files rows head valid of_table loaded of).readable column named)

-- a column that cannot be read
pub bad_left : (law : ImagesRead) (query : BoundQuery) (table : Table) (held : Option Files) (head : Seen) → IsValidTable table → IsHeadOf table head → AreNamedLoaded query head → (named : List Bool) → named ≡ names_in query table → (part : Part)
    → (column : ℕ) × (get_or named column false ≡ true) × (part ≡ Forward column) × IfSome held (λ files. ¬ HasIds files head column) → IsBadForward query held head part × IsNoImage table held head
bad_left law query table held head valid of_table loaded named is part bad =
    let names : query_names query bad.0 ≡ true = mark_named query table named is bad.0 bad.1 in
    ((bad.0, names, bad.2, bad.3), no_image law query table head valid of_table loaded held bad.0 names bad.3)

-- ---- an index that tells no ids

module _ (leave : ImagesLeave) (query : BoundQuery) (table : Table) (head : Seen) (valid : IsValidTable table) (of_table : IsHeadOf table head) (loaded : AreNamedLoaded query head) where
  no_tells : (files : Files) (part : Part) (choice : IndexChoice) (conjunct : Conjunct) (ids : ℕ → List ℕ) → TellsIndexed files head ids choice conjunct → IsBadIndex (Some files) head part choice conjunct → ⊥
  no_tells files part Unindexed conjunct ids tells bad = bad
  no_tells files part Sorted (Many wide) ids tells bad = bad
  no_tells files part Inverted (Many wide) ids tells bad = bad
  no_tells files part Range (Many wide) ids tells bad = bad
  no_tells files part Sorted (One column test) ids tells bad = bad.1 (ids column) tells
  no_tells files part Inverted (One column test) ids tells bad = bad.1 (ids column) tells
  no_tells files part Range (One column test) ids tells bad = bad.1 (ids column) tells

  pub bad_index : (held : Option Files) (part : Part) → IsBadAny held head part (choices_for query table head) query.conjuncts → IsBadIn query table held head part
  bad_index held part bad = (inr bad, go held bad)
    where
      go : (told : Option Files) → IsBadAny told head part (choices_for query table head) query.conjuncts → IsNoImage table told head
      go None bad = tt
      go (Some files) bad = λ rows of.
          let lv = leave query table files rows head valid of_table loaded of in
          no_tells files part (choice_at (choices_for query table head) bad.0) bad.1 lv.ids (lv.tells bad.0 bad.1 bad.2) bad.3

-- ---- where no conjunct is indexed

nothing_indexed : (choices : List IndexChoice) (conjuncts : List Conjunct) (i : ℕ) (x : Conjunct) → indexed choices conjuncts ≡ [] → slice_get conjuncts i ≡ Some x → is_indexed (choice_at choices i) x ≡ false
nothing_indexed [] conjuncts i x none there = refl
nothing_indexed (c ∷ cs) [] i x none there = absurd cc
nothing_indexed (c ∷ cs) (y ∷ ys) i x none there = go (is_indexed c y) refl none i there (λ more. nothing_indexed cs ys)
  where
    go : (b : Bool) → is_indexed c y ≡ b → (if b then one_chosen c y ∷ indexed cs ys else indexed cs ys) ≡ [] → (i : ℕ) → slice_get (y ∷ ys) i ≡ Some x
        → (Unit {0} → (i : ℕ) (x : Conjunct) → indexed cs ys ≡ [] → slice_get ys i ≡ Some x → is_indexed (choice_at cs i) x ≡ false)
        → is_indexed (choice_at (c ∷ cs) i) x ≡ false
    go true is none i there later = absurd (let lengths : suc (length (indexed cs ys)) ≡ 0 = ap length none in omega (arith, lengths))
    go false is none zero there later = (let same : y ≡ x = cc in subst (λ z. is_indexed c z ≡ false) same is)
    go false is none (suc i) there later = later tt i x none there

not_read : (P : ListKind → ℕ → Test → Type 0) (R : ℕ → Test → Type 0) (other : Type 0) (choice : IndexChoice) (conjunct : Conjunct) → is_indexed choice conjunct ≡ false → OfIndex P R other choice conjunct → other
not_read P R other Unindexed conjunct is logs = logs
not_read P R other Sorted (Many wide) is logs = logs
not_read P R other Inverted (Many wide) is logs = logs
not_read P R other Range (Many wide) is logs = logs
not_read P R other Sorted (One column test) is logs = absurd (false≢true (sym is))
not_read P R other Inverted (One column test) is logs = absurd (false≢true (sym is))
not_read P R other Range (One column test) is logs = absurd (false≢true (sym is))

-- nothing was read for conjuncts that are not indexed
pub nothing_logged : (held : Option Files) (head : Seen) (choices : List IndexChoice) (conjuncts : List Conjunct) (n : ℕ) (old new : Option (List Entry)) → indexed choices conjuncts ≡ [] → n ≤ length conjuncts → LogsTo (LogsAt held head choices conjuncts) n old new → new ≡ old
nothing_logged held head choices conjuncts zero old new none within logs = logs
nothing_logged held head choices conjuncts (suc n) old new none within logs =
    let x = some_at conjuncts n (omega (arith, within)) in
    not_read (λ kind column test. LogsIndex held head kind column test logs.0 new) (λ column test. LogsRange held head column test logs.0 new) (new ≡ logs.0) (choice_at choices n) x.0 (nothing_indexed choices conjuncts n x.0 none x.1) (logs.2 x.0 x.1)
    ∙ nothing_logged held head choices conjuncts n old logs.0 none (omega (arith, within)) logs.1
  where
    some_at : (xs : List Conjunct) (k : ℕ) → k < length xs → (x : Conjunct) × (slice_get xs k ≡ Some x)
    some_at [] k lt = absurd (omega (arith, lt))
    some_at (x ∷ xs) zero lt = (x, refl)
    some_at (x ∷ xs) (suc k) lt = some_at xs k (omega (arith, lt))

-- ---- all rows are looked at

pub whole_image : (query : BoundQuery) (table : Table) (held : Option Files) (head : Seen) (old new : KeptGroups) → indexed_for query table head ≡ [] → AddsWhole query table held head old new → AddsImage query table held head old new
whole_image query table None head old new none by = record { added = by.added; adds = by.adds; read = tt; told = tt }
whole_image query table (Some files) head old new none by = record { added = by.added; adds = by.adds; read = inl (none, by.read); told = by.told }

pub whole_full : (query : BoundQuery) (table : Table) (held : Option Files) (head : Seen) (old : KeptGroups) → indexed_for query table head ≡ [] → IsWholeOverfull query table held head old → IsImageOverfull query table held head old
whole_full query table None head old none over = tt
whole_full query table (Some files) head old none over = ((_, inl (none, refl), over.0), over.1)

all_kept : (xs : List (List Value)) → length (filter (λ row. true) xs) ≡ length xs
all_kept [] = refl
all_kept (x ∷ xs) = ap suc (all_kept xs)

pub whole_docs : (law : ImagesRead) (leave : ImagesLeave) (query : BoundQuery) (table : Table) (held : Option Files) (head : Seen) → IsValidTable table → IsHeadOf table head → AreNamedLoaded query head → indexed_for query table head ≡ [] → (n : ℕ) → n ≡ head.rows
    → AreDocs query table held head n
whole_docs law leave query table held head valid of_table loaded none n is = record { at_most = omega (arith, is); all = λ same. is; told = go held }
  where
    go : (told : Option Files) → IfSome told (λ files. (rows : List (List Value)) → IsOfImage table files rows head → n ≡ length (rows_left query (choices_for query table head) (ordered table.settings.sorted rows)))
    go None = tt
    go (Some files) = λ rows of.
        let reads = law query table files rows head valid of_table loaded of in
        let lv = leave query table files rows head valid of_table loaded of in
        is ∙ reads.count ∙ sym lv.size ∙ sym (all_kept (ordered table.settings.sorted rows))
        ∙ ap (λ (l : List Chosen). length (filter (λ row. all_left (ordered table.settings.sorted rows) row l) (ordered table.settings.sorted rows))) (sym none)

all_unserved : (choices : List IndexChoice) (conjuncts : List Conjunct) → indexed choices conjuncts ≡ [] → unserved choices conjuncts ≡ conjuncts
all_unserved [] conjuncts none = refl
all_unserved (c ∷ cs) [] none = refl
all_unserved (c ∷ cs) (y ∷ ys) none = go (is_indexed c y) (is_served c y) refl refl none (all_unserved cs ys)
  where
    go : (b s : Bool) → is_indexed c y ≡ b → is_served c y ≡ s → (if b then one_chosen c y ∷ indexed cs ys else indexed cs ys) ≡ [] → (indexed cs ys ≡ [] → unserved cs ys ≡ ys) → (if s then unserved cs ys else y ∷ unserved cs ys) ≡ y ∷ ys
    go true s b_is s_is none later = absurd (let lengths : suc (length (indexed cs ys)) ≡ 0 = ap length none in omega (arith, lengths))
    go false true b_is s_is none later = absurd (false≢true (sym b_is ∙ served_indexed c y s_is))
    go false false b_is s_is none later = ap (λ (l : List Conjunct). y ∷ l) (later none)

rest_is : (query : BoundQuery) (choices : List IndexChoice) → indexed choices query.conjuncts ≡ [] → rest_of query choices ≡ query
rest_is query choices none = ap (λ (l : List Conjunct). record query { conjuncts = l }) (all_unserved choices query.conjuncts none)

pub whole_bad : (query : BoundQuery) (table : Table) (held : Option Files) (head : Seen) (part : Part) → indexed_for query table head ≡ [] → IsBadWhole query table held head part → IsBadIn query table held head part
whole_bad query table held head part none bad =
    (inl (subst (λ q. IsBadForward q held head part) (sym (rest_is query (choices_for query table head) none)) (bad.0, bad.1, bad.2, go held bad.3)), image held bad.3)
  where
    go : (told : Option Files) → IfSome told (λ files. (¬ HasIds files head bad.0) × ((rows : List (List Value)) → ¬ IsOfImage table files rows head)) → IfSome told (λ files. ¬ HasIds files head bad.0)
    go None told = tt
    go (Some files) told = told.0

    image : (told : Option Files) → IfSome told (λ files. (¬ HasIds files head bad.0) × ((rows : List (List Value)) → ¬ IsOfImage table files rows head)) → IsNoImage table told head
    image None told = tt
    image (Some files) told = told.1

-- ---- the marks of columns

pub marks_left : (query : BoundQuery) (table : Table) (choices : List IndexChoice) (named items : List Bool) (n : ℕ) → n ≡ length table.schema.fields → named ≡ items → length items ≡ n
    → ((column : ℕ) → column < n → get_or items column false ≡ query_names (rest_of query choices) column) → named ≡ names_in (rest_of query choices) table
marks_left query table cs named items n fields same lengths each =
    marks_are (rest_of query cs) table named n fields (ap length same ∙ lengths) (λ column lt. ap (λ (l : List Bool). get_or l column false) same ∙ each column lt)

-- ---- both parts of the documents that are left

-- parts of documents of so many rows
pub record PartsFit (rows : ℕ) (docs check sure : List ℕ) : Type 0 where
  pub count : length check + length sure ≡ length docs
  pub at_most : length docs ≤ rows
  pub check_within : All (λ doc. doc < rows) check
  pub sure_within : All (λ doc. doc < rows) sure

pub parts_fit : (docs unsure check sure : List ℕ) (rows : ℕ) → IsStrictlyIncreasing docs → All (λ doc. doc < rows) docs → AreParts docs unsure check sure → PartsFit rows docs check sure
parts_fit docs unsure check sure rows up within parts =
    let first = part_all (λ doc. doc < rows) docs check (has_doc unsure) parts.checks within in
    let second = part_all (λ doc. doc < rows) docs sure (λ d. not (has_doc unsure d)) parts.sures within in
    record {
      count = parts_count docs unsure sure check rows (record { ascend = up; those = λ doc. refl }) within parts.sures parts.checks second first;
      at_most = docs_few docs rows up within;
      check_within = first;
      sure_within = second;
    }

pub no_parts : (head : Seen) (named others : List Bool) (docs : List ℕ) (log : Option (List Entry)) → All (λ doc. doc < head.rows) docs → LogsPartsPartly head named others docs log log
no_parts head named others docs log within = record { check = []; sure = docs; count = omega arith; check_within = All-nil (λ doc. doc < head.rows); sure_within = within; some = inl (inl refl) }

any_sure : (p : Conjunct → Bool) (cs : List IndexChoice) (xs : List Conjunct) → list_any p (unserved (sure_choices cs) xs) ≡ true → list_any p (unserved cs xs) ≡ true
any_sure p [] xs is = is
any_sure p (c ∷ cs) [] is = is
any_sure p (c ∷ cs) (x ∷ xs) is = one c x is (any_sure p cs xs)
  where
    either : (a b d : Bool) → a || b ≡ true → (b ≡ true → d ≡ true) → a || d ≡ true
    either true b d is later = refl
    either false b d is later = later is

    kept : (b : Bool) (x : Conjunct) (ys zs : List Conjunct) → list_any p (if b then ys else x ∷ ys) ≡ true → (list_any p ys ≡ true → list_any p zs ≡ true) → list_any p (if b then zs else x ∷ zs) ≡ true
    kept true x ys zs is later = later is
    kept false x ys zs is later = either (p x) (list_any p ys) (list_any p zs) is later

    second : (a b : Bool) → b ≡ true → a || b ≡ true
    second true b is = refl
    second false b is = is

    one : (c : IndexChoice) (x : Conjunct) → list_any p (unserved (sure_choices (c ∷ cs)) (x ∷ xs)) ≡ true → (list_any p (unserved (sure_choices cs) xs) ≡ true → list_any p (unserved cs xs) ≡ true) → list_any p (unserved (c ∷ cs) (x ∷ xs)) ≡ true
    one Unindexed x is later = kept (is_served Unindexed x) x (unserved (sure_choices cs) xs) (unserved cs xs) is later
    one Sorted x is later = kept (is_served Sorted x) x (unserved (sure_choices cs) xs) (unserved cs xs) is later
    one Inverted x is later = kept (is_served Inverted x) x (unserved (sure_choices cs) xs) (unserved cs xs) is later
    one Range (One column test) is later = second (p (One column test)) (list_any p (unserved cs xs)) (later is)
    one Range (Many wide) is later = kept false (Many wide) (unserved (sure_choices cs) xs) (unserved cs xs) is later

-- a column that is named for the documents that are sure is named for those to be checked
pub sure_names : (query : BoundQuery) (cs : List IndexChoice) (column : ℕ) → query_names (rest_of query (sure_choices cs)) column ≡ true → query_names (rest_of query cs) column ≡ true
sure_names query cs column is = by (list_any (conjunct_names column) (unserved (sure_choices cs) query.conjuncts)) refl is
  where
    first : (a b c : Bool) → a ≡ true → ((a || b) || c) ≡ true
    first true b c is = refl
    first false b c is = absurd (false≢true is)

    more : (a b c : Bool) → (b || c) ≡ true → ((a || b) || c) ≡ true
    more true b c is = refl
    more false b c is = is

    by : (b : Bool) → list_any (conjunct_names column) (unserved (sure_choices cs) query.conjuncts) ≡ b → ((b || is_in query.groups column) || list_any (agg_names column) query.aggs) ≡ true → query_names (rest_of query cs) column ≡ true
    by true own is = first (list_any (conjunct_names column) (unserved cs query.conjuncts)) (is_in query.groups column) (list_any (agg_names column) query.aggs) (any_sure (conjunct_names column) cs query.conjuncts own)
    by false own is = more (list_any (conjunct_names column) (unserved cs query.conjuncts)) (is_in query.groups column) (list_any (agg_names column) query.aggs) is
