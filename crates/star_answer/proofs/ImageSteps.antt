-- A tree of a segment that is walked for a query, and the image of rows that it is of.
use Rattle.std.proofs.Common.{◌≡◌, ◌∙◌, ◌<◌, ◌≤◌, ◌+◌, ◌*◌, ℕ, zero, suc, All, List, [], ◌∷◌, length, map, get_or, Option, Some, None, refl, sym, ap, subst, arith, mul-le-mul_left}
use Rattle.std.specs.Prelude.{ℤ, slice_get}
use Rattle.std.specs.List.{AllZip}
use Rattle.std.specs.Option.{option_map_or}
use Rattle.std.proofs.lemmas.List.{get_or-map, length-map}
use Rattle.outside.specs.Files.{Files}
use Rattle.values.specs.declared.value.Value.{Value}
use Rattle.agg_laws.specs.declared.aggregate_kind.AggKind.TheVariants as kinds
use Rattle.state_columns.specs.Docs.{Doc}
use Rattle.state_columns.specs.Region.{range}
use Rattle.star_tree.specs.NodeRules.{count_at}
use Rattle.table_schema.specs.declared.query.Agg.{Agg}
use Rattle.table_schema.specs.declared.query.BoundQuery.{BoundQuery}
use Rattle.table_schema.specs.declared.settings.TreeSetting.{TreeSetting}
use Rattle.table_schema.specs.declared.table.Table.{Table}
use Rattle.table_schema.specs.ValidQuery.{IsValidQuery}
use Rattle.table_schema.specs.ValidSettings.{IsValidTree}
use Rattle.table_schema.specs.ValidTable.{IsRow, IsValidTable}
use Rattle.group_table.specs.Kept.{IsTableOf, KeptGroups}
use Rattle.star_file.specs.Bytes.{doc_bytes}
use Rattle.star_file.specs.Reading.{DocsHaveIds, HasDocuments, doc_width, section}
use Rattle.star_file.specs.Rules.{KeepAll, widths}
use Rattle.star_file.proofs.DocLaws as docs
use Rattle.segment_file.specs.declared.part.Part.TheVariants.{Star}
use Rattle.segment_file.specs.declared.trees.TreeNodes.{TreeNodes}
use Rattle.segment_head.specs.Heads.{AreKept, HasCount, HaveCounts, IsHead, IsHeadOf, IsPartOf, IsSlotOf, OfWhole, Seen, bytes_in, place_in, split_of}
use Rattle.segment_file.specs.Image.{count_of}
use Rattle.segment_head.specs.Laws.{IsTold}
use Rattle.segment_file.specs.Ordered.{ordered}
use Rattle.segment_head.specs.Stored.{IsOfImage}
use Rattle.segment_file.specs.Trees.{documents, star_of, written}
use Rattle.segment_file.proofs.ImageRows.{ordered_all}
use Rattle.segment_head.proofs.ImageTrees.{head_tells_trees, image_tree}
use Rattle.segment_head.proofs.SectionBytes.{has_star, image_section, star_only}
use Rattle.segment_file.proofs.TreeChecks.{few_kinds, valid_at}
use Rattle.segment_file.proofs.TreeRows.{TreeSections}
use Rattle.segment_plan.specs.Laws.{HeadTells, TellsOf}
use Rattle.segment_plan.specs.Matched.{AreLoaded}
use Rattle.star_walk.specs.declared.task.Task.{Task}
use Rattle.star_walk.specs.Images.{read_of}
use Rattle.star_walk.specs.Walking.{HasEach, tree_picks}
use Rattle.star_reader.specs.declared.asked.Asked.{Asked}
use Rattle.star_reader.specs.declared.asked.GroupColumn.{GroupColumn}
use Rattle.star_reader.specs.declared.tree_part.TreePart.{TreePart}
use Rattle.star_reader.specs.Answers.{IsTree, asked_of, picks_of}
use Rattle.star_reader.specs.Asked.{AreAsked, IsTableFor, kinds_for}
use Rattle.star_answer.specs.DocLaws.{WalkReadsDocs}
use Rattle.segment_reads.specs.Docs.{docs_in, docs_read, row_values, field_of}
use Rattle.star_answer.specs.OfRows.{entries_of}
use Rattle.star_answer.specs.Served.{AsksFor, IsServed, IsTreeOf, flat_of, pair_of}
use Rattle.star_answer.specs.Tasks.{AreColumnsOf, ArePairsOf, split_values}
use Rattle.segment_plan.specs.Named.{AreGroupsLoaded}
use Rattle.star_answer.proofs.RowSteps.{asks_of_rows, columns_of_rows, rows_projected}
use Rattle.star_answer.proofs.TreeIds.{rows_ids, tree_ids}

-- what is known of a tree of a segment where it is walked for a query
pub record Stands (query : BoundQuery) (table : Table) (head : Seen) (t : ℕ) (setting : TreeSetting)
    (part : TreePart) (task : Task) (asked : Asked) (said : TreeNodes) : Type 0 where
  pub valid : IsValidTable table
  pub of_table : IsHeadOf table head
  pub query_valid : IsValidQuery table query
  pub at : slice_get table.settings.trees t ≡ Some setting
  pub lt : t < length table.settings.trees
  pub loaded : AreLoaded query.conjuncts head
  pub groups_loaded : AreGroupsLoaded query.groups head
  pub shape_is : part.shape.now ≡ setting.shape
  pub nodes_are : part.nodes.now ≡ said.nodes
  pub placed : place_in head.sections (Star t) ≡ Some part.documents.now
  pub kept : AreKept setting.shape part.counts.now said
  pub each : HasEach task.matched task.grouped
  pub entries : length task.matched ≡ length setting.split
  pub asks : AsksFor query setting.split (split_values head setting.split) (asked_of task)
  pub columns : AreColumnsOf query.groups setting.split (split_values head setting.split)
      asked.columns.now
  pub pairs : ArePairsOf query.aggs setting.pairs asked.pairs.now

-- ---- kinds

kind_at : (pairs : List Agg) (n : ℕ)
    → (pair_of pairs n).kind ≡ get_or (map (λ pair. pair.kind) pairs) n kinds.Count
kind_at [] n = refl
kind_at (p ∷ pairs) zero = refl
kind_at (p ∷ pairs) (suc n) = kind_at pairs n

kinds_of_pairs : (pairs : List Agg) (numbers : List ℕ)
    → map (λ agg. agg.kind) (map (pair_of pairs) numbers)
    ≡ kinds_for numbers (map (λ pair. pair.kind) pairs)
kinds_of_pairs pairs [] = refl
kinds_of_pairs pairs (n ∷ numbers) = λ i. kind_at pairs n i ∷ kinds_of_pairs pairs numbers i

-- ---- a head beside itself

slots_self : {A : Type 0} (xs : List (Option A)) → AllZip IsSlotOf xs xs
slots_self [] = tt
slots_self (None ∷ xs) = (tt, slots_self xs)
slots_self (Some x ∷ xs) = (refl, slots_self xs)

part_self : (whole : Seen) → IsPartOf whole whole
part_self whole = record {
  rows_same = refl;
  sections_same = refl;
  bounds_same = refl;
  slots = slots_self whole.dictionaries;
  tree_slots = slots_self whole.trees;
}

-- what is known of a whole head is known of that of an image
pub of_whole : (table : Table) (files : Files) (rows : List (List Value)) (head : Seen)
    (P : Seen → Type 0) → OfWhole table (Some files) head P
    → (of : IsOfImage table files rows head) → P of.whole
of_whole table files rows head P h of =
    h of.name of.file of.whole
    (subst (λ b. IsHead table of.name of.file b of.whole) (sym of.stored) of.is_head) of.part

counts_so : (table : Table) (os : List (List Value)) (whole : Seen) → TellsOf table os whole
    → (columns counts : List ℕ) → HaveCounts columns counts whole
    → counts ≡ map (count_of os) columns
counts_so table os whole tells [] [] h = refl
counts_so table os whole tells [] (n ∷ counts) h = absurd h
counts_so table os whole tells (c ∷ columns) [] h = absurd h
counts_so table os whole tells (c ∷ columns) (n ∷ counts) h =
    let one : HasCount c n whole = h.0 in
    let here : n ≡ count_of os c =
    one.many ∙ ap (λ d. length d.values) (tells.dictionaries_are c one.d one.at) in
    let more = counts_so table os whole tells columns counts h.1 in
    λ i. here i ∷ more i

module _ (query : BoundQuery) (table : Table) (head : Seen) (t : ℕ) (setting : TreeSetting)
    (part : TreePart) (task : Task) (asked : Asked) (said : TreeNodes)
    (s : Stands query table head t setting part task asked said) where
  tree-valid : IsValidTree table.schema.fields setting
  tree-valid =
      valid_at table.schema.fields table.settings.trees t setting s.valid.settings.trees_valid s.at

  dims-are : part.shape.now.dims ≡ length setting.split
  dims-are = ap (λ x. x.dims) s.shape_is ∙ tree-valid.has_dims

  -- the nodes keep all rules
  pub is_tree : IsTree part task
  is_tree =
      let v = tree-valid in
      let keep = s.kept.keep in
      let width : ℕ = 4 * setting.shape.dims + widths setting.shape.kinds in
      let wide : 1 ≤ width = omega (arith, v.has_dims, v.some_split) in
      let many = mul-le-mul_left said.documents wide in
      let bytes = keep.bytes in
      let same = ap (λ x. x.dims) s.shape_is in
      record {
        documents = said.documents;
        at_most = omega (arith, many, bytes);
        keep = subst (λ sh. KeepAll sh part.counts.now said.documents part.nodes.now) (sym s.shape_is)
            (subst (KeepAll setting.shape part.counts.now said.documents) (sym s.nodes_are) keep);
        some_dims = omega (arith, dims-are, v.some_split);
        few_dims = omega (arith, dims-are, v.few_split);
        few_kinds = subst (λ sh. length sh.kinds ≤ 16) (sym s.shape_is)
            (few_kinds table.schema.fields setting v);
        counts = s.kept.each ∙ sym same;
        each = s.each;
        entries = s.entries ∙ sym dims-are;
      }

  pub tree_documents : is_tree.documents ≡ said.documents
  unfolding is_tree
  tree_documents = refl

  columns-many : length asked.columns.now ≡ length query.groups
  columns-many =
      sym (length-map asked.columns.now (λ (c : GroupColumn). field_of setting.split c.dim))
      ∙ ap length s.columns.groups_are

  pairs-many : length asked.pairs.now ≡ length query.aggs
  pairs-many = sym (length-map asked.pairs.now (pair_of setting.pairs)) ∙ ap length s.pairs.aggs_are

  kinds-are : part.shape.now.kinds ≡ map (λ pair. pair.kind) setting.pairs
  kinds-are = ap (λ x. x.kinds) s.shape_is ∙ tree-valid.has_kinds

  -- what is asked for is among the dimensions and the pairs
  pub are_asked : AreAsked part.shape.now asked
  are_asked =
      let kinds-many : length part.shape.now.kinds ≡ length setting.pairs =
      ap length kinds-are ∙ length-map setting.pairs (λ (p : Agg). p.kind) in
      record {
        few_columns = omega (arith, columns-many, s.query_valid.few_groups);
        few_pairs = omega (arith, pairs-many, s.query_valid.few_aggs);
        dims = subst (λ n. All (λ (c : GroupColumn). c.dim < n) asked.columns.now) (sym dims-are)
            s.columns.dims;
        pairs = subst (λ n. All (λ p. p < n) asked.pairs.now) (sym kinds-many) s.pairs.among;
      }

  -- a table of the query's groups is one for what is asked
  pub for_table : (old : KeptGroups) → IsTableOf query old → IsTableFor part.shape.now asked old
  for_table old of = record {
    columns = of.columns ∙ sym columns-many;
    kinds = of.kinds
        ∙ ap (map (λ agg. agg.kind)) (sym s.pairs.aggs_are)
        ∙ kinds_of_pairs setting.pairs asked.pairs.now
        ∙ ap (kinds_for asked.pairs.now) (sym kinds-are);
  }

  -- ---- the image of rows

  module _ (law : HeadTells) (files : Files) (rows : List (List Value))
      (nodes : OfWhole table (Some files) head (λ whole. slice_get whole.trees t ≡ Some (Some said)))
      (counted : OfWhole table (Some files) head (HaveCounts (split_of table t) part.counts.now))
      (of : IsOfImage table files rows head) where
    abbrev os : List (List Value)
    os = ordered table.settings.sorted rows

    pub tells : TellsOf table (ordered table.settings.sorted rows) head
    tells = law table of.name of.file rows of.whole head s.valid of.named of.can of.is_head of.part

    tells-whole : TellsOf table os of.whole
    tells-whole = law table of.name of.file rows of.whole of.whole s.valid of.named of.can of.is_head
        (part_self of.whole)

    sections : TreeSections os setting
    sections = image_tree table files rows head t setting s.valid of s.at

    pub told : IsTold (ordered table.settings.sorted rows) setting said
    told = head_tells_trees table of.name of.file rows of.whole of.whole t setting said s.valid
        of.named of.can of.is_head (part_self of.whole) s.at
        (of_whole table files rows head (λ whole. slice_get whole.trees t ≡ Some (Some said)) nodes of)

    each-row : All (IsRow table.schema.fields) os
    each-row = ordered_all (IsRow table.schema.fields) table.settings.sorted rows of.can.fit.each

    counts-are : part.counts.now ≡ map (count_of os) setting.split
    counts-are =
        counts_so table os of.whole tells-whole (split_of table t) part.counts.now
        (of_whole table files rows head (HaveCounts (split_of table t) part.counts.now) counted of)
        ∙ ap (λ o. map (count_of os) (option_map_or (λ (x : TreeSetting). x.split) o [])) s.at

    -- the section of the documents
    pub section_is : section files part.documents.now
        ≡ star_of (ordered table.settings.sorted rows) (Some setting)
    section_is =
        ap (bytes_in files) (sym s.placed)
        ∙ image_section table files rows head (Star t) s.valid of (λ p same. star_only p t same)
        (has_star table t s.lt)
        ∙ ap (star_of os) s.at

    pub section_long : length (star_of (ordered table.settings.sorted rows) (Some setting))
        ≡ length (written (ordered table.settings.sorted rows) setting).1
        * doc_width setting.shape
    section_long = sections.docs_size

    nodes-rows : part.nodes.now ≡ (flat_of setting.shape (entries_of os setting)).0
    unfolding written
    nodes-rows = s.nodes_are ∙ told.nodes_are

    docs-rows : (from to : ℕ) → from ≤ to
        → to ≤ length (flat_of setting.shape (entries_of os setting)).1
        → HasDocuments setting.shape part.counts.now from to (section files part.documents.now)
        (range from to (flat_of setting.shape (entries_of os setting)).1)
    unfolding written
    docs-rows from to le in' =
        let ds : List Doc = (flat_of setting.shape (entries_of os setting)).1 in
        let k : ℕ = setting.shape.dims in
        let counts : List ℕ = map (count_of os) setting.split in
        let many : length counts ≡ k =
        length-map setting.split (count_of os) ∙ sym tree-valid.has_dims in
        let own : DocsHaveIds counts (documents os setting) =
        rows_ids counts k (documents os setting) many sections.ids sections.counted sections.few_ids in
        let ids : DocsHaveIds counts ds = tree_ids counts setting.shape k (documents os setting) own in
        let base : HasDocuments setting.shape counts from to (doc_bytes ds) (range from to ds) =
        docs.written setting.shape counts many ds from to sections.shaped sections.stored ids le in' in
        subst (λ b. HasDocuments setting.shape part.counts.now from to b (range from to ds))
        (sym section_is)
        (subst (λ cs. HasDocuments setting.shape cs from to (doc_bytes ds) (range from to ds))
        (sym counts-are) base)

    abbrev entries-os : List (List ℕ × List ℤ)
    entries-os = entries_of os setting

    is-tree-of : IsTreeOf part files (entries_of os setting)
    is-tree-of = record {
      nodes_are = nodes-rows ∙ ap (λ sh. (flat_of sh entries-os).0) (sym s.shape_is);
      documents_are = subst (λ sh. (from to : ℕ) → from ≤ to → to ≤ length (flat_of sh entries-os).1
          → HasDocuments sh part.counts.now from to (section files part.documents.now)
          (range from to (flat_of sh entries-os).1)) (sym s.shape_is) docs-rows;
    }

    asks-rows : AsksFor query setting.split (row_values os setting.split) (asked_of task)
    asks-rows = asks_of_rows query table os head setting.split (asked_of task) tells s.loaded s.asks

    values-many : (d : ℕ) → d < length setting.split
        → count_at (map (count_of os) setting.split) d ≡ length (row_values os setting.split d)
    values-many d lt = get_or-map (count_of os) setting.split d 0 0 lt

    -- the tree is that of the rows in their order, and serves the query
    pub served : IsServed query part (asked_of task) asked files (ordered table.settings.sorted rows)
    served =
        let columns = columns_of_rows query.groups setting.split table os head asked.columns.now tells
        s.groups_loaded s.columns in
        record {
          split = setting.split;
          pairs = setting.pairs;
          values = row_values os setting.split;
          entries = entries-os;
          dims = dims-are;
          kinds = kinds-are;
          projects = rows_projected table.schema.fields os setting each-row;
          of_rows = is-tree-of;
          asks_for = asks-rows;
          no_star = λ d lt. (let at_most = sections.few_ids d in omega (arith, values-many d lt, at_most));
          of_query = record {
            groups = columns.groups_are;
            columns = columns.values_are;
            aggs = s.pairs.aggs_are;
          };
        }

    few-rows : length os ≤ 1048576
    few-rows =
        let at_most = s.of_table.at_most in
        let many = s.of_table.has.rows_are in
        let same = tells.rows_are in
        omega (arith, at_most, many, same)

    -- as many documents are read as the query reads of the tree of the rows
    pub count_is : WalkReadsDocs
        → read_of (picks_of part task) ≡ docs_read query table (ordered table.settings.sorted rows) t
    count_is reads =
        let lengths : length task.matched ≡ setting.shape.dims = s.entries ∙ sym tree-valid.has_dims in
        (λ i. read_of (tree_picks (asked_of task) (lengths i) (nodes-rows i)))
        ∙ reads query table.schema.fields os setting (asked_of task) tree-valid few-rows asks-rows
        ∙ ap (docs_in query os) (sym s.at)
