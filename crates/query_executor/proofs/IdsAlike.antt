-- A scan by ids of columns is one by their values.
use Rattle.std.proofs.Common.{◌≡◌, ◌≢◌, ◌∙◌, ◌<◌, ◌≤◌, ◌⊎◌, ◌+◌, ◌-◌, ◌==◌, ◌||◌, ◌&&◌, ◌++◌, not, ℕ, zero, suc, pos, Bool, true, false, cond, Option, Some, None, IfSome, All, List, [], ◌∷◌, length, map, get_or, slice_get, inl, inr, refl, sym, ap, subst, eq-eqb, arith}
use Rattle.std.specs.Prelude.{IsPermutation}
use Rattle.std.specs.FinMap as finite
use Rattle.std.specs.List.{AllZip, filter, list_any, range_with_len}
use Rattle.std.proofs.lemmas.List.Sorted.{IsPermutation-sym}
use Rattle.std.proofs.lemmas.Bool.{eqb-true, false≢true}
use Rattle.outside.specs.Files.{Files}
use Rattle.outside.specs.Reads.{Entry, LogsOn, LogsUpTo}
use Rattle.values.specs.declared.value.Value.{Value}
use Rattle.values.specs.declared.test.Test.{Test}
use Rattle.values.specs.Tests.{holds}
use Rattle.value_ids.specs.Ids.{matching, matching_from}
use Rattle.bit_column.specs.Column.{width_of}
use Rattle.bit_column.specs.Sections.{Readable, end_byte, first_byte}
use Rattle.agg_laws.specs.Merged.{join_some}
use Rattle.agg_laws.specs.Rows.{merged_rows}
use Rattle.table_schema.specs.ValidQuery.{IsValidQuery}
use Rattle.table_schema.specs.ValidTable.{IsValidTable}
use Rattle.table_schema.specs.declared.query.BoundQuery.{BoundQuery}
use Rattle.table_schema.specs.declared.query.Conjunct.{Conjunct}
use Rattle.table_schema.specs.declared.query.Conjunct.TheVariants.{Many, One}
use Rattle.table_schema.specs.declared.table.Table.{Table}
use Rattle.eligibility.specs.Rule.{picked}
use Rattle.group_table.specs.Groups.{Adds, Groups, has_key, some_states}
use Rattle.group_table.specs.Kept.{IsTableOf, KeptGroups, groups_in}
use Rattle.group_table.specs.Shape.{Shape, shape_of}
use Rattle.group_table.proofs.GroupsLemmas.{permuted_adds}
use Rattle.scan_engine.specs.Scanned.{AddsRows, IsOverfull, selected}
use Rattle.segment_file.specs.Ordered.{ordered}
use Rattle.segment_file.specs.declared.part.Part.{Part}
use Rattle.segment_file.specs.declared.part.Part.TheVariants.{Forward}
use Rattle.segment_file.specs.declared.part.Part.TheVariants as parts
use Rattle.segment_head.specs.Heads.{IsHeadOf, Seen, bytes_in, place_in}
use Rattle.segment_head.specs.Stored.{IsOfImage}
use Rattle.segment_plan.specs.Laws.{HeadTells, PlanIsOver, TellsOf}
use Rattle.segment_plan.specs.Matched.{AreLoaded, count_in, values_in}
use Rattle.value_ids.specs.Dictionary.{Distinct}
use Rattle.segment_opening.proofs.NamedLemmas.{filtered_names}
use Rattle.segment_plan.specs.Named.{AreNamedLoaded, agg_names, conjunct_names, is_in, names_in, query_names}
use Rattle.segment_plan.specs.Plan.{is_emptied, plan_of, scan_of, tree_or}
use Rattle.segment_plan.specs.Planned.{plan_over}
use Rattle.segment_plan.specs.Pruning.{is_pruned}
use Rattle.segment_plan.specs.RowsLeft.{Chosen, first_of, indexed, is_indexed, last_of, sure_choice, sure_choices}
use Rattle.segment_plan.specs.Served.{choice_at, rest_of, unserved}
use Rattle.segment_plan.specs.declared.plans.IndexChoice.{IndexChoice}
use Rattle.segment_plan.specs.declared.plans.IndexChoice.TheVariants.{Unindexed, Sorted, Inverted, Range}
use Rattle.segment_plan.specs.declared.plans.ScanPlan.{ScanPlan}
use Rattle.segment_plan.specs.declared.plans.SegmentPlan.TheVariants.{Pruned, Empty, Scan}
use Rattle.column_reader.specs.Forward.{HasIds, LogsColumns, LogsForward, LogsNamed, LogsPart, LogsPartly, LogsSome, forward_in, width_in}
use Rattle.column_reader.specs.Picked.{LogsIf, LogsIfPartly, LogsPicked, LogsPickedPartly, ids_of_run}
use Rattle.doc_lists.specs.Sets.{AreThose}
use Rattle.doc_lists.specs.declared.run.Run.{Run}
use Rattle.index_reader.specs.Buckets.{LogsBuckets, LogsBucketsPartly, is_to_check}
use Rattle.index_reader.specs.Documents.{Tells, TellsRanged, is_doc_of}
use Rattle.index_reader.specs.Logs.{LogsIds, LogsIdsPartly}
use Rattle.index_reader.specs.declared.kind.ListKind.TheVariants as kinds
use Rattle.index_filter.specs.Indexes.{AreLeft, HasUnsure, IsBadAny, IsBadIndex, LogsAt, LogsAtPartly, LogsIndexed, LogsIndexedPartly, OfEach, TellsIndexed, all_leave, is_doc_near, is_unsure, leaves, part_of}
use Rattle.outside.specs.Series.{LogsPartOf, LogsTo}
use Rattle.outside.specs.Stretches.{LogsOver, LogsPartly as OverPartly}
use Rattle.segment_scan.specs.Agreement.{AgreeAll}
use Rattle.segment_scan.specs.Documents.{LogsDocs, LogsDocsPartly, selected_docs}
use Rattle.segment_scan.specs.Images.{AreDocs, AreLeftFor, AreOfParts, AreRead, HasUnsureFor, ImagesLeave, ImagesRead, IsBadIn, LogsIndexes, LogsParts, LogsPartsPartly, LogsScan, LogsScanPartly, choices_for, indexed_for, rest_for, sure_for}
use Rattle.segment_scan.specs.Scans.{selected_read}
use Rattle.segment_scan.proofs.AgreementLemmas.{agreeing_same}
use Rattle.segment_scan.proofs.LeftImage.{check_within, left_count, permuted, sure_within, whole_docs}
use Rattle.segment_scan.proofs.ServedLemmas.{unserved_names}
use Rattle.query_executor.specs.Alike.{AreAlike, IdsAreAlike, IsAlike}
use Rattle.segment_opening.specs.Found.{SaysAlike, keeping, unfiltered, values_from}
use Rattle.query_executor.proofs.IdsConjuncts.{all_choices, indexed_long, indexed_same, marks_same, query_names_same, rest_alike, zip_at, zip_long, zip_to}
use Rattle.query_executor.proofs.IdsReads.{docs_alike, full_reads, read_alike}

-- ---- groups

adds_shape : (a b : Shape) → a.groups ≡ b.groups → a.aggs ≡ b.aggs → (rows : List (List Value)) (old new : Groups) → Adds a rows old new → Adds b rows old new
adds_shape a b g s rows old new h = record { each = λ key. h.each key ∙ (λ i. join_some merged_rows (finite.get old key) (some_states (s i) (filter (has_key (g i) key) rows))) }

kept_all : (query : BoundQuery) (rows : List (List Value)) → selected (unfiltered query) rows ≡ rows
kept_all query [] = refl
kept_all query (r ∷ rs) = let more = kept_all query rs in (λ i. r ∷ more i)

-- ---- rows that agree

agree_both : (named : ℕ → Bool) (xs ys us vs : List (List Value)) → AgreeAll named xs ys → AgreeAll named us vs → AgreeAll named (xs ++ us) (ys ++ vs)
agree_both named [] [] us vs here more = more
agree_both named [] (y ∷ ys) us vs here more = absurd here
agree_both named (x ∷ xs) [] us vs here more = absurd here
agree_both named (x ∷ xs) (y ∷ ys) us vs here more = (here.0, agree_both named xs ys us vs here.1 more)

-- a section that is no index tells no ids
never_told : (files : Files) (h : Seen) (part : Part) (ids : ℕ → List ℕ) (c : IndexChoice) (x : Conjunct) → IsBadIndex (Some files) h part c x → TellsIndexed files h ids c x → ⊥
never_told files h part ids Unindexed x bad tells = bad
never_told files h part ids Sorted (One k t) bad tells = bad.1 (ids k) tells
never_told files h part ids Sorted (Many w) bad tells = bad
never_told files h part ids Inverted (One k t) bad tells = bad.1 (ids k) tells
never_told files h part ids Inverted (Many w) bad tells = bad
never_told files h part ids Range (One k t) bad tells = bad.1 (ids k) tells
never_told files h part ids Range (Many w) bad tells = bad

-- ---- on the image of rows

module _ (read : ImagesRead) (leave : ImagesLeave) (tells_law : HeadTells) (over_law : PlanIsOver) (query asked : BoundQuery) (table : Table) (files : Files) (rows : List (List Value)) (head : Seen) (full given : List (Option Distinct)) (valid : IsValidTable table)
    (of_head : IsHeadOf table (keeping full head)) (is_loaded : AreNamedLoaded query (keeping full head)) (of_image : IsOfImage table files rows (keeping full head)) (a : AreAlike query asked full given) where
  abbrev os : List (List Value)
  os = ordered table.settings.sorted rows

  abbrev own : Seen
  own = keeping full head

  abbrev by_ids : Seen
  by_ids = keeping given head

  abbrev cs : List IndexChoice
  cs = choices_for query table own

  abbrev xs : List Conjunct
  xs = query.conjuncts

  abbrev ys : List Conjunct
  ys = asked.conjuncts

  abbrev Says : Conjunct → Conjunct → Type 0
  Says = SaysAlike full given

  -- the choices go by the ids that satisfy the tests
  given_choices : choices_for asked table by_ids ≡ cs
  given_choices = all_choices full given table head xs ys a.says

  long_same : length ys ≡ length xs
  long_same = zip_long Says xs ys a.says

  none_same : indexed_for asked table by_ids ≡ [] → indexed_for query table own ≡ []
  none_same none =
      let long = indexed_long full given cs xs ys a.says in
      let few : length (indexed cs ys) ≡ 0 = ap (λ l. length (indexed l ys)) (sym given_choices) ∙ ap length none in
      empty_so (indexed cs xs) (sym long ∙ few)
    where
      empty_so : (l : List Chosen) → length l ≡ 0 → l ≡ []
      empty_so [] e = refl
      empty_so (x ∷ l) e = absurd (omega (arith, e))

  widths_same : (c : ℕ) → width_in by_ids c ≡ width_in own c
  widths_same c = ap width_of (a.counts_same c)

  -- ---- what the indexes leave

  tells_one : (c : IndexChoice) (told : ℕ → List ℕ) (x y : Conjunct) → Says x y → TellsIndexed files own told c x → TellsIndexed files by_ids told c y
  tells_one c told (One column test) (One named by) says tells = subst (λ k. TellsIndexed files by_ids told c (One k by)) (sym says.0) (go c tells)
    where
      go : (c : IndexChoice) → TellsIndexed files own told c (One column test) → TellsIndexed files by_ids told c (One column by)
      go Unindexed tells = tells
      go Sorted tells = subst (λ n. Tells kinds.Sorted n head.rows (bytes_in files (place_in head.sections (part_of kinds.Sorted column))) (told column)) (sym (a.counts_same column)) tells
      go Inverted tells = subst (λ n. Tells kinds.Inverted n head.rows (bytes_in files (place_in head.sections (part_of kinds.Inverted column))) (told column)) (sym (a.counts_same column)) tells
      go Range tells = subst (λ n. TellsRanged n head.rows (bytes_in files (place_in head.sections (parts.Range column))) (told column)) (sym (a.counts_same column)) tells
  tells_one Unindexed told (Many wide) (Many by) says tells = tt
  tells_one Sorted told (Many wide) (Many by) says tells = tt
  tells_one Inverted told (Many wide) (Many by) says tells = tt
  tells_one Range told (Many wide) (Many by) says tells = tt
  tells_one c told (One column test) (Many by) says tells = absurd says
  tells_one c told (Many wide) (One named by) says tells = absurd says

  tells_back : (told : ℕ → List ℕ) → OfEach (TellsIndexed files own told) cs xs → OfEach (TellsIndexed files by_ids told) cs ys
  tells_back told tells at y there = let (x, here, says) = zip_at Says xs ys a.says at y there in tells_one (choice_at cs at) told x y says (tells at x here)

  leaves_same : (told : ℕ → List ℕ) (doc : ℕ) (c : IndexChoice) (x y : Conjunct) → Says x y → leaves by_ids told doc c y ≡ leaves own told doc c x
  leaves_same told doc c (One column test) (One named by) says = ap (λ k. leaves by_ids told doc c (One k by)) says.0 ∙ go c
    where
      go : (c : IndexChoice) → leaves by_ids told doc c (One column by) ≡ leaves own told doc c (One column test)
      go Unindexed = (λ i. is_doc_of (says.1 i) (told column) doc)
      go Sorted = (λ i. is_doc_of (says.1 i) (told column) doc)
      go Inverted = (λ i. is_doc_of (says.1 i) (told column) doc)
      go Range = let many = a.counts_same column in (λ i. is_doc_near (many i) (says.1 i) (told column) doc)
  leaves_same told doc Unindexed (Many wide) (Many by) says = refl
  leaves_same told doc Sorted (Many wide) (Many by) says = refl
  leaves_same told doc Inverted (Many wide) (Many by) says = refl
  leaves_same told doc Range (Many wide) (Many by) says = refl
  leaves_same told doc c (One column test) (Many by) says = absurd says
  leaves_same told doc c (Many wide) (One named by) says = absurd says

  all_leaves : (told : ℕ → List ℕ) (doc : ℕ) (cs : List IndexChoice) (xs ys : List Conjunct) → AllZip Says xs ys → all_leave by_ids told doc (indexed cs ys) ≡ all_leave own told doc (indexed cs xs)
  all_leaves told doc [] xs ys all = refl
  all_leaves told doc (c ∷ cs) [] [] all = refl
  all_leaves told doc (c ∷ cs) [] (y ∷ ys) all = absurd all
  all_leaves told doc (c ∷ cs) (x ∷ xs) [] all = absurd all
  all_leaves told doc (c ∷ cs) (x ∷ xs) (y ∷ ys) all = go (all_leaves told doc cs xs ys all.1) (is_indexed c x) (is_indexed c y) (indexed_same full given c x y all.0)
    where
      go : all_leave by_ids told doc (indexed cs ys) ≡ all_leave own told doc (indexed cs xs) → (p q : Bool) → q ≡ p → all_leave by_ids told doc (cond q (record { choice = c; conjunct = y } ∷ indexed cs ys) (indexed cs ys)) ≡ all_leave own told doc (cond p (record { choice = c; conjunct = x } ∷ indexed cs xs) (indexed cs xs))
      go later true true e = let here = leaves_same told doc c x y all.0 in (λ i. here i && later i)
      go later true false e = absurd cc
      go later false true e = absurd cc
      go later false false e = later

  unsure_same : (told : ℕ → List ℕ) (doc : ℕ) (c : IndexChoice) (x y : Conjunct) → Says x y → is_unsure by_ids told doc c y ≡ is_unsure own told doc c x
  unsure_same told doc c (One column test) (One named by) says = ap (λ k. is_unsure by_ids told doc c (One k by)) says.0 ∙ go c
    where
      go : (c : IndexChoice) → is_unsure by_ids told doc c (One column by) ≡ is_unsure own told doc c (One column test)
      go Unindexed = refl
      go Sorted = refl
      go Inverted = refl
      go Range = let many = a.counts_same column in (λ i. is_to_check (many i) (first_of (says.1 i)) (last_of (says.1 i)) (told column) doc)
  unsure_same told doc Unindexed (Many wide) (Many by) says = refl
  unsure_same told doc Sorted (Many wide) (Many by) says = refl
  unsure_same told doc Inverted (Many wide) (Many by) says = refl
  unsure_same told doc Range (Many wide) (Many by) says = refl
  unsure_same told doc c (One column test) (Many by) says = absurd says
  unsure_same told doc c (Many wide) (One named by) says = absurd says

  those_same : (p q : ℕ → Bool) (ds : List ℕ) → ((doc : ℕ) → p doc ≡ q doc) → AreThose p ds → AreThose q ds
  those_same p q ds same those = record { ascend = those.ascend; those = λ doc. those.those doc ∙ same doc }

  left_alike : (ds : List ℕ) → AreLeftFor asked table (Some files) by_ids ds → AreLeftFor query table (Some files) own ds
  left_alike ds left =
      let by = subst (λ l. AreLeft (Some files) by_ids l ys (indexed l ys) ds) given_choices left in
      let there = by.some in
      let long = indexed_long full given cs xs ys a.says in
      record {
        some = omega (arith, there, long);
        within = by.within;
        told = λ told tells. those_same _ _ ds (λ doc. all_leaves told doc cs xs ys a.says) (by.told told (tells_back told tells));
      }

  unsure_alike : (unsure : List ℕ) → HasUnsureFor asked table (Some files) by_ids unsure → HasUnsureFor query table (Some files) own unsure
  unsure_alike unsure has told tells at x lt there doc is =
      let by = subst (λ l. HasUnsure (Some files) by_ids l ys (length ys) unsure) given_choices has in
      let (y, at_y, says) = zip_to Says xs ys a.says at x there in
      by told (tells_back told tells) at y (omega (arith, lt, long_same)) at_y doc (unsure_same told doc (choice_at cs at) x y says ∙ is)

  -- ---- what is added

  of_same : (groups : KeptGroups) → IsTableOf asked groups → IsTableOf (unfiltered query) groups
  of_same groups is = record { columns = is.columns ∙ ap length a.groups_same; kinds = is.kinds ∙ ap (map (λ agg. agg.kind)) a.aggs_same }

  -- other rows that agree are added alike
  added_as : (n : ℕ) (added others : List (List Value)) (old new : KeptGroups) → AgreeAll (query_names (unfiltered query)) added others → AddsRows asked n added old new → Adds (shape_of query) others (groups_in old) (groups_in new)
  added_as n added others old new agree adds =
      let same = agreeing_same (unfiltered query) added others agree in
      let own : AddsRows (unfiltered query) n added old new = record {
        of_query = of_same new adds.of_query;
        most = adds.most;
        groups = adds_shape (shape_of asked) (shape_of (unfiltered query)) a.groups_same a.aggs_same added (groups_in old) (groups_in new) adds.groups;
        fits = adds.fits;
      } in
      let moved : AddsRows (unfiltered query) n (selected (unfiltered query) added) old new = subst (λ l. AddsRows (unfiltered query) n l old new) (sym (kept_all query added)) own in
      let all : AddsRows (unfiltered query) n others old new = subst (λ l. AddsRows (unfiltered query) n l old new) (kept_all query others) (same.adds n old new moved) in
      adds_shape (shape_of (unfiltered query)) (shape_of query) refl refl others (groups_in old) (groups_in new) all.groups

  overfull_as : (added others : List (List Value)) (old : KeptGroups) → AgreeAll (query_names (unfiltered query)) added others → IsOverfull asked added old → IsOverfull query others old
  overfull_as added others old agree over new adds =
      let same = agreeing_same (unfiltered query) added others agree in
      let own : IsOverfull (unfiltered query) added old = (λ new adds. over new (adds_shape (shape_of (unfiltered query)) (shape_of asked) (sym a.groups_same) (sym a.aggs_same) added (groups_in old) new adds)) in
      let moved : IsOverfull (unfiltered query) (selected (unfiltered query) added) old = subst (λ l. IsOverfull (unfiltered query) l old) (sym (kept_all query added)) own in
      let all : IsOverfull (unfiltered query) others old = subst (λ l. IsOverfull (unfiltered query) l old) (kept_all query others) (same.overfull old moved) in
      all new (adds_shape (shape_of query) (shape_of (unfiltered query)) refl refl others (groups_in old) new adds)

  whole_agree : (added : List (List Value)) → added ≡ selected_read asked files by_ids (names_in asked table) → AgreeAll (query_names (unfiltered query)) added (selected query os)
  whole_agree added is = subst (λ l. AgreeAll (query_names (unfiltered query)) l (selected query os)) (sym is) (read_alike read tells_law query asked table files rows head full given valid of_head is_loaded of_image a)

  -- the rows of the image in two parts of documents
  module _ (added : List (List Value)) (parts : AreOfParts asked table files by_ids added) where
    abbrev both_rows : List (List Value)
    both_rows = selected (rest_of query cs) (map (λ k. get_or os k []) parts.check) ++ selected (rest_of query (sure_choices cs)) (map (λ k. get_or os k []) parts.sure)

    own_left : AreLeftFor query table (Some files) own parts.docs
    own_left = left_alike parts.docs parts.left

    own_unsure : HasUnsureFor query table (Some files) own parts.unsure
    own_unsure = unsure_alike parts.unsure parts.has

    both_permuted : IsPermutation (selected query os) both_rows
    both_permuted = permuted read leave query table own valid of_head is_loaded parts.docs files rows of_image own_left parts.unsure parts.check parts.sure own_unsure parts.parts

    parts_agree : AgreeAll (query_names (unfiltered query)) added both_rows
    parts_agree =
        let in_check = check_within read leave query table own valid of_head is_loaded parts.docs files rows of_image own_left parts.unsure parts.check parts.sure own_unsure parts.parts in
        let in_sure = sure_within read leave query table own valid of_head is_loaded parts.docs files rows of_image own_left parts.unsure parts.check parts.sure own_unsure parts.parts in
        let first = docs_alike read tells_law query asked table files rows head full given valid of_head is_loaded of_image a cs parts.check in_check in
        let second = docs_alike read tells_law query asked table files rows head full given valid of_head is_loaded of_image a (sure_choices cs) parts.sure in_sure in
        let is : added ≡ selected_docs asked cs files by_ids (names_in (rest_of asked cs) table) parts.check ++ selected_docs asked (sure_choices cs) files by_ids (names_in (rest_of asked (sure_choices cs)) table) parts.sure =
        parts.rows_are ∙ (λ i. selected_docs asked (given_choices i) files by_ids (names_in (rest_of asked (given_choices i)) table) parts.check ++ selected_docs asked (sure_choices (given_choices i)) files by_ids (names_in (rest_of asked (sure_choices (given_choices i))) table) parts.sure) in
        subst (λ l. AgreeAll (query_names (unfiltered query)) l both_rows) (sym is) (agree_both (query_names (unfiltered query)) _ _ _ _ first second)

  alike_added : (n : ℕ) (added : List (List Value)) (old new : KeptGroups) → AreRead asked table files by_ids added → AddsRows asked n added old new → Adds (shape_of query) (selected query os) (groups_in old) (groups_in new)
  alike_added n added old new (inl is) adds = added_as n added (selected query os) old new (whole_agree added is.1) adds
  alike_added n added old new (inr parts) adds =
      permuted_adds (shape_of query) (both_rows added parts) (selected query os) (groups_in old) (groups_in new) (IsPermutation-sym (selected query os) (both_rows added parts) (both_permuted added parts))
      (added_as n added (both_rows added parts) old new (parts_agree added parts) adds)

  alike_overfull : (added : List (List Value)) (old : KeptGroups) → AreRead asked table files by_ids added → IsOverfull asked added old → IsOverfull query (selected query os) old
  alike_overfull added old (inl is) over = overfull_as added (selected query os) old (whole_agree added is.1) over
  alike_overfull added old (inr parts) over = λ new adds.
      overfull_as added (both_rows added parts) old (parts_agree added parts) over new
      (permuted_adds (shape_of query) (selected query os) (both_rows added parts) (groups_in old) new (both_permuted added parts) adds)

  -- ---- what is read

  logs_forward : (c : ℕ) (x y : Option (List Entry)) → LogsForward by_ids c x y → LogsForward own c x y
  logs_forward c x y logs =
      subst (λ w. IfSome (place_in head.sections (Forward c)) (λ place. LogsOn place.file (place.offset + first_byte w 0) (place.offset + end_byte w 0 head.rows) x y)) (widths_same c) logs

  logs_part : (c : ℕ) (x y : Option (List Entry)) → LogsPart by_ids c x y → LogsPart own c x y
  logs_part c x y logs =
      subst (λ w. IfSome (place_in head.sections (Forward c)) (λ place. LogsUpTo place.file (place.offset + first_byte w 0) (place.offset + end_byte w 0 head.rows) x y)) (widths_same c) logs

  logs_named : (c : ℕ) (named : Bool) (x y : Option (List Entry)) → LogsNamed by_ids c named x y → LogsNamed own c named x y
  logs_named c false x y logs = logs
  logs_named c true x y logs = logs_forward c x y logs

  logs_columns : (named : List Bool) (n : ℕ) (x y : Option (List Entry)) → LogsColumns by_ids named n x y → LogsColumns own named n x y
  logs_columns named zero x y logs = logs
  logs_columns named (suc n) x y (between, before, last) = (between, logs_columns named n x between before, logs_named n (get_or named n false) between y last)

  logs_partly : (c : ℕ) (named : Bool) (x y : Option (List Entry)) → LogsPartly by_ids c named x y → LogsPartly own c named x y
  logs_partly c named x y (inl same) = inl same
  logs_partly c named x y (inr (is, logs)) = inr (is, logs_part c x y logs)

  logs_some : (named : List Bool) (x y : Option (List Entry)) → LogsSome by_ids named x y → LogsSome own named x y
  logs_some named x y s = record {
    upto = s.upto;
    within = s.within;
    between = s.between;
    before = logs_columns named s.upto x s.between s.before;
    rest = logs_partly s.upto (get_or named s.upto false) s.between y s.rest;
  }

  named_same : names_in asked table ≡ names_in query table
  named_same = marks_same query asked full given a table

  -- of indexes
  module _ (x y : Option (List Entry)) where
    logs_one : (c : IndexChoice) (one other : Conjunct) → Says one other → LogsIndexed (Some files) by_ids c other x y → LogsIndexed (Some files) own c one x y
    logs_one c (One column test) (One named by) says logs = go c (subst (λ k. LogsIndexed (Some files) by_ids c (One k by) x y) says.0 logs)
      where
        moved : (P : List ℕ → ℕ → Type 0) → P (matching by (values_in by_ids column)) (count_in by_ids column) → P (matching test (values_in own column)) (count_in own column)
        moved P h = subst (P (matching test (values_in own column))) (a.counts_same column) (subst (λ l. P l (count_in by_ids column)) says.1 h)

        go : (c : IndexChoice) → LogsIndexed (Some files) by_ids c (One column by) x y → LogsIndexed (Some files) own c (One column test) x y
        go Unindexed logs = logs
        go Sorted logs = moved (λ l n. IfSome (place_in head.sections (part_of kinds.Sorted column)) (λ place. LogsIds kinds.Sorted l (Some files) place n head.rows x y)) logs
        go Inverted logs = moved (λ l n. IfSome (place_in head.sections (part_of kinds.Inverted column)) (λ place. LogsIds kinds.Inverted l (Some files) place n head.rows x y)) logs
        go Range logs = moved (λ l n. IfSome (place_in head.sections (parts.Range column)) (λ place. LogsBuckets (Some files) place n head.rows (first_of l) (last_of l) x y)) logs
    logs_one Unindexed (Many wide) (Many by) says logs = logs
    logs_one Sorted (Many wide) (Many by) says logs = logs
    logs_one Inverted (Many wide) (Many by) says logs = logs
    logs_one Range (Many wide) (Many by) says logs = logs
    logs_one c (One column test) (Many by) says logs = absurd says
    logs_one c (Many wide) (One named by) says logs = absurd says

    logs_one_partly : (c : IndexChoice) (one other : Conjunct) → Says one other → LogsIndexedPartly (Some files) by_ids c other x y → LogsIndexedPartly (Some files) own c one x y
    logs_one_partly c (One column test) (One named by) says logs = go c (subst (λ k. LogsIndexedPartly (Some files) by_ids c (One k by) x y) says.0 logs)
      where
        moved : (P : List ℕ → ℕ → Type 0) → P (matching by (values_in by_ids column)) (count_in by_ids column) → P (matching test (values_in own column)) (count_in own column)
        moved P h = subst (P (matching test (values_in own column))) (a.counts_same column) (subst (λ l. P l (count_in by_ids column)) says.1 h)

        go : (c : IndexChoice) → LogsIndexedPartly (Some files) by_ids c (One column by) x y → LogsIndexedPartly (Some files) own c (One column test) x y
        go Unindexed logs = logs
        go Sorted logs = moved (λ l n. IfSome (place_in head.sections (part_of kinds.Sorted column)) (λ place. LogsIdsPartly kinds.Sorted l (Some files) place n head.rows x y)) logs
        go Inverted logs = moved (λ l n. IfSome (place_in head.sections (part_of kinds.Inverted column)) (λ place. LogsIdsPartly kinds.Inverted l (Some files) place n head.rows x y)) logs
        go Range logs = moved (λ l n. (y ≡ x) ⊎ IfSome (place_in head.sections (parts.Range column)) (λ place. LogsBucketsPartly (Some files) place n head.rows (first_of l) (last_of l) x y)) logs
    logs_one_partly Unindexed (Many wide) (Many by) says logs = logs
    logs_one_partly Sorted (Many wide) (Many by) says logs = logs
    logs_one_partly Inverted (Many wide) (Many by) says logs = logs
    logs_one_partly Range (Many wide) (Many by) says logs = logs
    logs_one_partly c (One column test) (Many by) says logs = absurd says
    logs_one_partly c (Many wide) (One named by) says logs = absurd says

    logs_at : (at : ℕ) → LogsAt (Some files) by_ids cs ys at x y → LogsAt (Some files) own cs xs at x y
    logs_at at logs conjunct there = let (other, here, says) = zip_to Says xs ys a.says at conjunct there in logs_one (choice_at cs at) conjunct other says (logs other here)

    logs_at_partly : (at : ℕ) → LogsAtPartly (Some files) by_ids cs ys at x y → LogsAtPartly (Some files) own cs xs at x y
    logs_at_partly at logs conjunct there = let (other, here, says) = zip_to Says xs ys a.says at conjunct there in logs_one_partly (choice_at cs at) conjunct other says (logs other here)

  logs_to : (n : ℕ) (x y : Option (List Entry)) → LogsTo (LogsAt (Some files) by_ids cs ys) n x y → LogsTo (LogsAt (Some files) own cs xs) n x y
  logs_to zero x y logs = logs
  logs_to (suc n) x y (between, before, last) = (between, logs_to n x between before, logs_at between y n last)

  logs_indexes : (x y : Option (List Entry)) → LogsIndexes asked table (Some files) by_ids x y → LogsIndexes query table (Some files) own x y
  logs_indexes x y logs =
      let by_choice = subst (λ l. LogsTo (LogsAt (Some files) by_ids l ys) (length ys) x y) given_choices logs in
      subst (λ n. LogsTo (LogsAt (Some files) own cs xs) n x y) long_same (logs_to (length ys) x y by_choice)

  abbrev PartAt : List IndexChoice → List Conjunct → Seen → ℕ → Option (List Entry) → Option (List Entry) → Type 0
  PartAt cs xs h n x y = LogsPartOf (LogsAt (Some files) h cs xs) (LogsAtPartly (Some files) h cs xs) n x y

  indexes_partly : (x y : Option (List Entry)) → PartAt (choices_for asked table by_ids) ys by_ids (length ys) x y → PartAt cs xs own (length xs) x y
  indexes_partly x y logs =
      let by = subst (λ n. PartAt cs ys by_ids n x y) long_same (subst (λ l. PartAt l ys by_ids (length ys) x y) given_choices logs) in
      record {
        upto = by.upto;
        at_most = by.at_most;
        between = by.between;
        before = logs_to by.upto x by.between by.before;
        rest = later by.upto by.between by.rest;
      }
    where
      later : (n : ℕ) (between : Option (List Entry)) → (y ≡ between) ⊎ ((n < length xs) × LogsAtPartly (Some files) by_ids cs ys n between y) → (y ≡ between) ⊎ ((n < length xs) × LogsAtPartly (Some files) own cs xs n between y)
      later n between (inl same) = inl same
      later n between (inr (lt, logs)) = inr (lt, logs_at_partly between y n logs)

  -- of documents
  logs_if : (runs : List Run) (c : ℕ) (named : Bool) (x y : Option (List Entry)) → LogsIf by_ids runs c named x y → LogsIf own runs c named x y
  logs_if runs c false x y logs = logs
  logs_if runs c true x y logs = subst (λ w. IfSome (place_in head.sections (Forward c)) (λ place. LogsOver place.file (map (ids_of_run w place.offset) runs) x y)) (widths_same c) logs

  logs_if_partly : (runs : List Run) (c : ℕ) (named : Bool) (x y : Option (List Entry)) → LogsIfPartly by_ids runs c named x y → LogsIfPartly own runs c named x y
  logs_if_partly runs c false x y logs = logs
  logs_if_partly runs c true x y (inl same) = inl same
  logs_if_partly runs c true x y (inr logs) = inr (subst (λ w. IfSome (place_in head.sections (Forward c)) (λ place. OverPartly place.file (map (ids_of_run w place.offset) runs) x y)) (widths_same c) logs)

  logs_picked : (runs : List Run) (named : List Bool) (n : ℕ) (x y : Option (List Entry)) → LogsTo (LogsPicked by_ids runs named) n x y → LogsTo (LogsPicked own runs named) n x y
  logs_picked runs named zero x y logs = logs
  logs_picked runs named (suc n) x y (between, before, last) = (between, logs_picked runs named n x between before, logs_if runs n (get_or named n false) between y last)

  logs_docs : (named : List Bool) (ds : List ℕ) (x y : Option (List Entry)) → LogsDocs by_ids named ds x y → LogsDocs own named ds x y
  logs_docs named ds x y (runs, apart, are, logs, grows) = (runs, apart, are, logs_picked runs named (length named) x y logs, grows)

  logs_docs_partly : (named : List Bool) (ds : List ℕ) (x y : Option (List Entry)) → LogsDocsPartly by_ids named ds x y → LogsDocsPartly own named ds x y
  logs_docs_partly named ds x y (inl same) = inl same
  logs_docs_partly named ds x y (inr (runs, apart, are, part)) = inr (
    runs,
    apart,
    are,
    record {
      upto = part.upto;
      at_most = part.at_most;
      between = part.between;
      before = logs_picked runs named part.upto x part.between part.before;
      rest = later part.upto part.between part.rest;
    },
  )
    where
      later : (n : ℕ) (between : Option (List Entry)) → (y ≡ between) ⊎ ((n < length named) × LogsPickedPartly by_ids runs named n between y) → (y ≡ between) ⊎ ((n < length named) × LogsPickedPartly own runs named n between y)
      later n between (inl same) = inl same
      later n between (inr (lt, logs)) = inr (lt, logs_if_partly runs n (get_or named n false) between y logs)

  -- the columns of the documents to be checked, and those of the others
  check_marks : names_in (rest_for asked table by_ids) table ≡ names_in (rest_for query table own) table
  check_marks = ap (λ l. names_in (rest_of asked l) table) given_choices ∙ marks_same (rest_of query cs) (rest_of asked cs) full given (rest_alike query asked full given a cs) table

  sure_marks : names_in (sure_for asked table by_ids) table ≡ names_in (sure_for query table own) table
  sure_marks =
      ap (λ l. names_in (rest_of asked (sure_choices l)) table) given_choices ∙ marks_same (rest_of query (sure_choices cs)) (rest_of asked (sure_choices cs)) full given (rest_alike query asked full given a (sure_choices cs)) table

  logs_parts : (named others : List Bool) (ds : List ℕ) (x y : Option (List Entry)) → LogsParts by_ids named others ds x y → LogsParts own named others ds x y
  logs_parts named others ds x y p = record {
    check = p.check;
    sure = p.sure;
    count = p.count;
    check_within = p.check_within;
    sure_within = p.sure_within;
    between = p.between;
    checked = logs_docs named p.check x p.between p.checked;
    surely = logs_docs others p.sure p.between y p.surely;
  }

  logs_parts_partly : (named others : List Bool) (ds : List ℕ) (x y : Option (List Entry)) → LogsPartsPartly by_ids named others ds x y → LogsPartsPartly own named others ds x y
  logs_parts_partly named others ds x y p = record {
    check = p.check;
    sure = p.sure;
    count = p.count;
    check_within = p.check_within;
    sure_within = p.sure_within;
    some = later p.check p.sure p.some;
  }
    where
      later : (check sure : List ℕ) → LogsDocsPartly by_ids named check x y ⊎ ((between : Option (List Entry)) × LogsDocs by_ids named check x between × LogsDocsPartly by_ids others sure between y)
          → LogsDocsPartly own named check x y ⊎ ((between : Option (List Entry)) × LogsDocs own named check x between × LogsDocsPartly own others sure between y)
      later check sure (inl some) = inl (logs_docs_partly named check x y some)
      later check sure (inr (between, first, some)) = inr (between, logs_docs named check x between first, logs_docs_partly others sure between y some)

  alike_logs : (n : ℕ) (x y : Option (List Entry)) → LogsScan asked table (Some files) by_ids n x y → LogsScan query table (Some files) own n x y
  alike_logs n x y (inl (none, logs)) =
      inl (none_same none, subst (λ ms. LogsColumns own ms (length table.schema.fields) x y) named_same (logs_columns (names_in asked table) (length table.schema.fields) x y logs))
  alike_logs n x y (inr (ds, left, is, between, indexes, parts)) = inr (
    ds,
    left_alike ds left,
    is,
    between,
    logs_indexes x between indexes,
    subst (λ ms. LogsParts own ms (names_in (sure_for query table own) table) ds between y) check_marks
        (subst (λ ms. LogsParts own (names_in (rest_for asked table by_ids) table) ms ds between y) sure_marks (logs_parts (names_in (rest_for asked table by_ids) table) (names_in (sure_for asked table by_ids) table) ds between y parts)),
  )

  alike_logs_partly : (x y : Option (List Entry)) → LogsScanPartly asked table (Some files) by_ids x y → LogsScanPartly query table (Some files) own x y
  alike_logs_partly x y (inl (none, logs)) = inl (none_same none, subst (λ ms. LogsSome own ms x y) named_same (logs_some (names_in asked table) x y logs))
  alike_logs_partly x y (inr (inl part)) = inr (inl (indexes_partly x y part))
  alike_logs_partly x y (inr (inr (ds, left, between, indexes, parts))) = inr (inr (
    ds,
    left_alike ds left,
    between,
    logs_indexes x between indexes,
    subst (λ ms. LogsPartsPartly own ms (names_in (sure_for query table own) table) ds between y) check_marks
        (subst (λ ms. LogsPartsPartly own (names_in (rest_for asked table by_ids) table) ms ds between y) sure_marks (logs_parts_partly (names_in (rest_for asked table by_ids) table) (names_in (sure_for asked table by_ids) table) ds between y parts)),
  ))

  -- ---- why it is refused

  own_readable : (c : ℕ) → query_names query c ≡ true → HasIds files by_ids c
  own_readable c named =
      let readable : HasIds files own c = (full_reads read tells_law query asked table files rows head full given valid of_head is_loaded of_image a).readable c named in
      subst (λ n. Readable (width_of n) n 0 head.rows (forward_in files head c)) (sym (a.counts_same c)) readable

  alike_never_bad : (part : Part) → IsBadIn asked table (Some files) by_ids part → ⊥
  alike_never_bad part (inl (c, named, is, fails), none) =
      let rest : query_names (rest_of query cs) c ≡ true = sym (query_names_same (rest_of query cs) (rest_of asked cs) full given (rest_alike query asked full given a cs) c) ∙ sym (ap (λ l. query_names (rest_of asked l) c) given_choices) ∙ named in
      fails (own_readable c (unserved_names query cs c rest))
  alike_never_bad part (inr (at, conjunct, there, bad), none) =
      let lv = leave query table files rows own valid of_head is_loaded of_image in
      let told = tells_back lv.ids lv.tells at conjunct there in
      never_told files by_ids part lv.ids (choice_at cs at) conjunct (subst (λ l. IsBadIndex (Some files) by_ids part (choice_at l at) conjunct) given_choices bad) told

  -- ---- the plan

  full_tells : TellsOf table os own
  full_tells = let i = of_image in tells_law table i.name i.file rows i.whole own valid i.named i.can i.is_head i.part

  alike_plan : (plan : ScanPlan) → IsValidQuery table query → is_pruned query own ≡ false → is_emptied query.conjuncts table own ≡ false → picked query table.settings.trees ≡ None → plan.choices ≡ choices_for asked table by_ids → Scan plan ≡ plan_over query table os
  alike_plan plan query_valid kept some unpicked planned =
      let choices : plan.choices ≡ cs = planned ∙ given_choices in
      let made : Scan plan ≡ scan_of query table own = (λ i. Scan (record { choices = choices i })) in
      made
      ∙ (λ i. cond (sym kept i) Pruned (cond (sym some i) Empty (tree_or (scan_of query table own) (sym unpicked i))))
      ∙ over_law query table os own query_valid full_tells (inr (λ c on. is_loaded c (filtered_names query c on)))

  alike_docs : (n : ℕ) (x y : Option (List Entry)) → AreDocs asked table (Some files) by_ids n → LogsScan asked table (Some files) by_ids n x y → AreDocs query table (Some files) own n
  alike_docs n x y docs (inl (none, logs)) = whole_docs read leave query table (Some files) own valid of_head is_loaded (none_same none) n (docs.all none)
  alike_docs n x y docs (inr (ds, left, is, between, indexes, parts)) =
      let left_own = left_alike ds left in
      record {
        at_most = docs.at_most;
        all = λ none. let there = left_own.some in absurd (omega (arith, there, ap length none));
        told = λ rows of. is ∙ left_count read leave query table own valid of_head is_loaded ds files rows of left_own;
      }

  pub alike : IsAlike query asked table files rows own by_ids
  alike = record {
    adds = alike_added;
    overfull = alike_overfull;
    docs = alike_docs;
    logs = alike_logs;
    logs_partly = alike_logs_partly;
    never_bad = alike_never_bad;
    plan_is = alike_plan;
    choices_same = given_choices;
  }

pub ids_are_alike : ImagesRead → ImagesLeave → HeadTells → PlanIsOver → IdsAreAlike
ids_are_alike read leave tells_law over_law query asked table files rows head full given valid of_head is_loaded of_image a = alike read leave tells_law over_law query asked table files rows head full given valid of_head is_loaded of_image a
