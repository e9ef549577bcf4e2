-- The answer from the tree of a segment's rows.
use Rattle.std.proofs.Common.{◌≡◌, ◌∙◌, ℕ, zero, suc, ◌-◌, ◌<◌, ◌≤◌, Bool, true, false, cond, ◌&&◌, All, ℤ, pos, List, [], ◌∷◌, ◌++◌, Some, None, length, get_or, ◌*◌, map, drop, refl, sym, ap, subst, arith, inl, inr}
use Rattle.std.proofs.lemmas.List.{length-map}
use Rattle.std.specs.List.{filter}
use Rattle.std.specs.Option.{option_map}
use Rattle.std.specs.Ordering.{eq_by_cmp}
use Rattle.std.specs.FinMap as finite
use Rattle.std.proofs.lemmas.List.Elements.{All-head, All-tail}
use Rattle.std.proofs.lemmas.Option.{get_or_from_slice_get, slice_get_within}
use Rattle.outside.specs.Files.{Files}
use Rattle.values.specs.declared.value.Value.{Value}
use Rattle.values.specs.declared.value.Value.TheVariants.{Whole}
use Rattle.agg_laws.specs.declared.aggregate_kind.AggKind.{AggKind}
use Rattle.agg_laws.specs.declared.aggregate_kind.AggKind.TheVariants as kinds
use Rattle.agg_laws.specs.declared.states.AggState.{AggState}
use Rattle.agg_laws.specs.declared.tree_shape.TreeShape.{TreeShape}
use Rattle.state_columns.specs.Docs.{Doc, HaveIds, projected}
use Rattle.state_columns.specs.Docs as docs
use Rattle.star_tree.specs.Flat.{Flat}
use Rattle.state_columns.specs.Region.{range}
use Rattle.star_tree.specs.Groups.{groups_of, rows_that_hold}
use Rattle.agg_laws.specs.Merged.{join_some, total}
use Rattle.star_tree.specs.Picks as asks
use Rattle.star_tree.specs.Picks.{ArePartedBy, HaveDocs, holds_from}
use Rattle.agg_laws.specs.laws.Rows as rows_law
use Rattle.agg_laws.specs.Rows.{merged_rows, row_weight}
use Rattle.agg_laws.specs.Tree.{HaveNoStar, dim, star}
use Rattle.state_columns.proofs.DocLemmas.{rows_join, total-projected}
use Rattle.state_columns.proofs.MergedLemmas.{total-filter}
use Rattle.star_file.specs.Reading.{HasDocuments, SpellDocs, doc_width, section}
use Rattle.star_file.proofs.DocLaws.{only}
use Rattle.star_walk.specs.declared.pick.Pick.{Pick}
use Rattle.star_walk.specs.declared.task.Task.{Task}
use Rattle.star_walk.specs.Images.{AreWithin, bare, passing, read_of, shown}
use Rattle.star_walk.specs.Coalescing.{coalesced}
use Rattle.star_walk.specs.Walking.{tree_picks}
use Rattle.star_walk.proofs.CoalesceSteps.{coalesced_passing, coalesced_within}
use Rattle.star_walk.proofs.TreePicks.{within as walked}
use Rattle.table_schema.specs.declared.query.Agg.{Agg}
use Rattle.table_schema.specs.declared.query.BoundQuery.{BoundQuery}
use Rattle.table_schema.specs.Columns.{is_member}
use Rattle.table_schema.specs.Conditions.{all_hold, cell}
use Rattle.group_table.specs.Groups.{Adds, Groups, has_key, key_order, number_for}
use Rattle.group_table.specs.Groups.{some_states, with_entries}
use Rattle.group_table.specs.Groups as table
use Rattle.group_table.specs.Kept.{IsTableOf, KeptGroups, groups_in}
use Rattle.group_table.specs.Shape.{shape_of}
use Rattle.group_table.proofs.GroupsLemmas.{one}
use Rattle.scan_engine.specs.Scanned.{AddsRows, selected}
use Rattle.scan_engine.specs.Scanned as scan
use Rattle.star_reader.specs.declared.asked.Asked.{Asked}
use Rattle.star_reader.specs.declared.asked.GroupColumn.{GroupColumn}
use Rattle.star_reader.specs.declared.tree_part.TreePart.{TreePart}
use Rattle.star_reader.specs.Answers.{Answers, AreRead, IsOverfull, IsTree, asked_of, left_of, passed, picks_of, reads_of, selected_of, IsBad}
use Rattle.star_reader.specs.Asked.{AreAsked, entries_of, key_of, states_of, value_of, AreSound}
use Rattle.star_answer.specs.Served.{AreProjected, IsProjected, IsServed, flat_of}
use Rattle.segment_reads.specs.Docs.{field_of}
use Rattle.group_table.proofs.EntryLemmas.{entries_at, states_at}
use Rattle.star_answer.proofs.CoverLemmas.{all_below, passing_below, read_ones}
use Rattle.star_answer.proofs.KeyedSteps.{entries_weight, picks_read, rows_light, rows_many, rows_ones, selected_keyed}
use Rattle.star_answer.proofs.HoldLemmas.{holds_same}
use Rattle.star_answer.proofs.KeyLemmas.{AreGrouped, members, same_total}
use Rattle.star_answer.proofs.PickedTotals.{HaveKinds, entries_total}
use Rattle.star_answer.proofs.RowGroups.{rows_total}

-- ---- the kinds of what is read

spelled_kinds : (shape : TreeShape) (counts : List ℕ) (n : ℕ) (bytes : List ℕ) (ds : List Doc)
    → SpellDocs shape counts n bytes ds → HaveKinds shape.kinds ds
spelled_kinds shape counts zero bytes [] h = tt
spelled_kinds shape counts zero bytes (e ∷ es) h = absurd h
spelled_kinds shape counts (suc n) bytes [] h = absurd h
spelled_kinds shape counts (suc n) bytes (e ∷ es) h =
    (h.0.kinds_are, spelled_kinds shape counts n (drop (doc_width shape) bytes) es h.1)

filter_kinds : (ks : List AggKind) (p : Doc → Bool) (ds : List Doc) → HaveKinds ks ds
    → HaveKinds ks (filter p ds)
filter_kinds ks p [] h = tt
filter_kinds ks p (e ∷ es) h = by (p e) (filter_kinds ks p es h.1)
  where
    by : (b : Bool) → HaveKinds ks (filter p es)
        → HaveKinds ks (cond b (e ∷ filter p es) (filter p es))
    by true more = (h.0, more)
    by false more = more

append_kinds : (ks : List AggKind) (xs ys : List Doc) → HaveKinds ks xs → HaveKinds ks ys
    → HaveKinds ks (xs ++ ys)
append_kinds ks [] ys h k = k
append_kinds ks (x ∷ xs) ys h k = (h.0, append_kinds ks xs ys h.1 k)

passed_kinds : (shape : TreeShape) (counts bytes : List ℕ) (t : asks.Task) (k : ℕ)
    (ps : List Pick) (read : List (List Doc)) → AreRead shape counts bytes ps read
    → HaveKinds shape.kinds (passed t k ps read)
passed_kinds shape counts bytes t k [] read h = tt
passed_kinds shape counts bytes t k (p ∷ ps) [] h = absurd h
passed_kinds shape counts bytes t k (p ∷ ps) (ds ∷ rest) h =
    append_kinds shape.kinds (left_of t k p.level ds) (passed t k ps rest)
    (filter_kinds shape.kinds (λ e. holds_from t (k - p.level) p.level e.0) ds
    (spelled_kinds shape counts (p.end - p.start) (drop (p.start * doc_width shape) bytes) ds h.0.are))
    (passed_kinds shape counts bytes t k ps rest h.1)

-- ---- what is read is of the tree's documents

passed_of : (shape : TreeShape) (counts bytes : List ℕ) (all : List Doc)
    → ((from to : ℕ) → from ≤ to → to ≤ length all
    → HasDocuments shape counts from to bytes (range from to all))
    → (t : asks.Task) (k j : ℕ) (ps : List Pick) (read : List (List Doc))
    → AreWithin (length all) j ps → AreRead shape counts bytes ps read
    → passed t k ps read ≡ passing t k all ps
passed_of shape counts bytes all has t k j [] read within are = refl
passed_of shape counts bytes all has t k j (p ∷ ps) [] within are = absurd are
passed_of shape counts bytes all has t k j (p ∷ ps) (ds ∷ rest) within are =
    let same : ds ≡ range p.start p.end all =
    only shape counts (p.end - p.start) (drop (p.start * doc_width shape) bytes) ds
    (range p.start p.end all) are.0.are
    (has p.start p.end (omega (arith, within.0)) within.1).are in
    λ i. left_of t k p.level (same i)
    ++ passed_of shape counts bytes all has t k j ps rest within.3 are.1 i

-- ---- rows and their documents

module _ (split : List ℕ) (pairs : List Agg) (values : ℕ → List Value) (ks : List AggKind) where
  pub have_ids : (rows : List (List Value)) (entries : List (List ℕ × List ℤ))
      → AreProjected split pairs values rows entries → HaveIds (length split) (projected ks entries)
  have_ids [] [] h = tt
  have_ids [] (e ∷ es) h = absurd h
  have_ids (row ∷ rows) [] h = absurd h
  have_ids (row ∷ rows) (e ∷ es) h = (h.0.as_many, have_ids rows es h.1)

  pub no_star : ((d : ℕ) → d < length split → length (values d) ≤ star) → (rows : List (List Value))
      (entries : List (List ℕ × List ℤ)) → AreProjected split pairs values rows entries
      → HaveNoStar (length split) (projected ks entries)
  no_star at_most [] [] h = tt
  no_star at_most [] (e ∷ es) h = absurd h
  no_star at_most (row ∷ rows) [] h = absurd h
  no_star at_most (row ∷ rows) (e ∷ es) h = (
    λ d lt is.
        let there = slice_get_within (values d) (dim d e.0) (cell row (field_of split d))
        (h.0.ids d lt) in
        absurd (omega (arith, there, at_most d lt, is)),
    no_star at_most rows es h.1,
  )

  -- the rows that pass a test, and the entries that do
  rows_passing : (p : List ℕ → Bool) (r : List Value → Bool) → ((row : List Value)
      (entry : List ℕ × List ℤ) → IsProjected split pairs values row entry → p entry.0 ≡ r row)
      → (rows : List (List Value)) (entries : List (List ℕ × List ℤ))
      → AreProjected split pairs values rows entries
      → map (λ e. e.1) (filter (λ e. p e.0) entries)
      ≡ map (λ row. map (λ pair. number_for pair row) pairs) (filter r rows)
  rows_passing p r same [] [] h = refl
  rows_passing p r same [] (e ∷ es) h = absurd h
  rows_passing p r same (row ∷ rows) [] h = absurd h
  rows_passing p r same (row ∷ rows) (e ∷ es) h =
      ap (λ b. map (λ e. e.1) (cond b (e ∷ filter (λ e. p e.0) es) (filter (λ e. p e.0) es)))
      (same row e h.0)
      ∙ by (r row) (rows_passing p r same rows es h.1)
    where
      by : (b : Bool) → map (λ e. e.1) (filter (λ e. p e.0) es)
          ≡ map (λ row. map (λ pair. number_for pair row) pairs) (filter r rows)
          → map (λ e. e.1) (cond b (e ∷ filter (λ e. p e.0) es) (filter (λ e. p e.0) es))
          ≡ map (λ row. map (λ pair. number_for pair row) pairs)
          (cond b (row ∷ filter r rows) (filter r rows))
      by true more = λ i. h.0.numbers i ∷ more i
      by false more = more

  -- the key of a row is that of its ids
  key_same_as : (row : List Value) (entry : List ℕ × List ℤ) → IsProjected split pairs values row entry
      → (columns : List GroupColumn) → All (λ column. column.dim < length split) columns
      → All (λ column. column.values.now.values ≡ values column.dim) columns
      → key_of columns entry.0
      ≡ table.key_of (map (λ column. field_of split column.dim) columns) row
  key_same_as row entry is [] dims same = refl
  key_same_as row entry is (c ∷ cs) dims same =
      let lt = All-head (λ column. column.dim < length split) c cs dims in
      let own = All-head (λ column. column.values.now.values ≡ values column.dim) c cs same in
      let id = dim c.dim entry.0 in
      let value : value_of c id ≡ cell row (field_of split c.dim) =
      ap (λ (vs : List Value). get_or vs id (Whole (pos 0))) own
      ∙ get_or_from_slice_get (values c.dim) id (cell row (field_of split c.dim)) (Whole (pos 0))
      (is.ids c.dim lt) in
      λ i. value i ∷ key_same_as row entry is cs
      (All-tail (λ column. column.dim < length split) c cs dims)
      (All-tail (λ column. column.values.now.values ≡ values column.dim) c cs same) i

filter_both : {X : Type 0} (p q : X → Bool) (xs : List X)
    → filter (λ x. p x && q x) xs ≡ filter q (filter p xs)
filter_both p q [] = refl
filter_both p q (x ∷ xs) = by (p x) (q x) refl (filter_both p q xs)
  where
    by : (a b : Bool) → q x ≡ b
        → filter (λ y. p y && q y) xs ≡ filter q (filter p xs)
        → cond (a && b) (x ∷ filter (λ y. p y && q y) xs) (filter (λ y. p y && q y) xs)
        ≡ filter q (cond a (x ∷ filter p xs) (filter p xs))
    by true true e more = (λ i. x ∷ more i)
        ∙ ap (λ c. cond c (x ∷ filter q (filter p xs)) (filter q (filter p xs))) (sym e)
    by true false e more = more
        ∙ ap (λ c. cond c (x ∷ filter q (filter p xs)) (filter q (filter p xs))) (sym e)
    by false b e more = more

-- ---- the groups of the answer

-- the documents of the rows have ids of their own in each dimension
module _ (query : BoundQuery) (tree : TreePart) (task : Task) (asked : Asked) (files : Files)
    (rows : List (List Value)) (s : IsServed query tree (asked_of task) asked files rows) where
  pub own_ids : HaveIds tree.shape.now.dims (projected tree.shape.now.kinds s.entries)
  own_ids = subst (λ n. HaveIds n (projected tree.shape.now.kinds s.entries)) (sym s.dims)
      (have_ids s.split s.pairs s.values tree.shape.now.kinds rows s.entries s.projects)

  pub own_no_star : HaveNoStar tree.shape.now.dims (projected tree.shape.now.kinds s.entries)
  own_no_star = subst (λ n. HaveNoStar n (projected tree.shape.now.kinds s.entries)) (sym s.dims)
      (no_star s.split s.pairs s.values tree.shape.now.kinds s.no_star rows s.entries s.projects)

module _ (query : BoundQuery) (tree : TreePart) (task : Task) (asked : Asked) (files : Files)
    (rows : List (List Value)) (ok : IsTree tree task) (ask : AreAsked tree.shape.now asked)
    (s : IsServed query tree (asked_of task) asked files rows)
    (walks : groups_of merged_rows (asked_of task) tree.shape.now.dims
    (passing (asked_of task) tree.shape.now.dims (flat_of tree.shape.now s.entries).1
    (tree_picks (asked_of task) tree.shape.now.dims (flat_of tree.shape.now s.entries).0))
    ≡ groups_of merged_rows (asked_of task) tree.shape.now.dims
    (rows_that_hold (asked_of task) tree.shape.now.dims
    (projected tree.shape.now.kinds s.entries))) where
  abbrev t : asks.Task
  t = asked_of task

  abbrev k : ℕ
  k = tree.shape.now.dims

  abbrev own : List Doc
  own = projected tree.shape.now.kinds s.entries

  abbrev f : Flat (List AggState)
  f = flat_of tree.shape.now s.entries

  within : AreWithin (length (flat_of tree.shape.now s.entries).1) tree.shape.now.dims
      (tree_picks (asked_of task) tree.shape.now.dims (flat_of tree.shape.now s.entries).0)
  within = walked t tree.shape.now k own (own_ids query tree task asked files rows s)
      (own_no_star query tree task asked files rows s)

  picks_are : picks_of tree task
      ≡ tree_picks (asked_of task) tree.shape.now.dims (flat_of tree.shape.now s.entries).0
  picks_are = λ i. tree_picks t (ok.entries i) (s.of_rows.nodes_are i)

  -- the documents that are selected
  taken_are : (read : List (List Doc)) → AreRead tree.shape.now tree.counts.now
      (section files tree.documents.now) (reads_of tree task) read
      → selected_of tree task read
      ≡ passing (asked_of task) tree.shape.now.dims (flat_of tree.shape.now s.entries).1
      (tree_picks (asked_of task) tree.shape.now.dims (flat_of tree.shape.now s.entries).0)
  taken_are read are =
      let ps = tree_picks t k f.0 in
      let reads : reads_of tree task ≡ coalesced ps = ap coalesced picks_are in
      (λ i. passed t (ok.entries i) (reads i) read)
      ∙ passed_of tree.shape.now tree.counts.now (section files tree.documents.now) f.1
      s.of_rows.documents_are t k k (coalesced ps) read (coalesced_within (length f.1) k ps within)
      (subst (λ l. AreRead tree.shape.now tree.counts.now (section files tree.documents.now) l read)
      reads are)
      ∙ coalesced_passing t k f.1 ps within

  grouped : AreGrouped (asked_of task) tree.shape.now.dims asked.columns.now
  grouped i d lt =
      let c : GroupColumn = get_or asked.columns.now i d in
      let in_dims = ask.dims i d lt in (
        in_dims,
        s.asks_for.grouped c.dim (omega (arith, in_dims, s.dims))
            ∙ ap (λ gs. is_member gs (field_of s.split c.dim)) (sym s.of_query.groups)
            ∙ members (λ (column : GroupColumn). field_of s.split column.dim) asked.columns.now i d lt,
      )

  -- what a document has to pass, and what a row has to
  test_same : (q : List Value) (row : List Value) (entry : List ℕ × List ℤ)
      → IsProjected s.split s.pairs s.values row entry
      → (holds_from (asked_of task) tree.shape.now.dims 0 entry.0
      && eq_by_cmp key_order q (key_of asked.columns.now entry.0))
      ≡ (all_hold row query.conjuncts && has_key query.groups q row)
  test_same q row entry is =
      let holds : holds_from t k 0 entry.0 ≡ all_hold row query.conjuncts =
      ap (λ n. holds_from t n 0 entry.0) s.dims
      ∙ holds_same query s.split s.pairs s.values t s.asks_for row entry is in
      let key : key_of asked.columns.now entry.0 ≡ table.key_of query.groups row =
      key_same_as s.split s.pairs s.values tree.shape.now.kinds row entry is asked.columns.now
      (λ i d lt. let h = ask.dims i d lt in omega (arith, h, s.dims)) s.of_query.columns
      ∙ ap (λ gs. table.key_of gs row) s.of_query.groups in
      λ i. holds i && eq_by_cmp key_order q (key i)

  -- the states of a key among what the documents give
  states_are : (read : List (List Doc)) → AreRead tree.shape.now tree.counts.now
      (section files tree.documents.now) (reads_of tree task) read → (q : List Value)
      → states_at q (entries_of asked (selected_of tree task read))
      ≡ some_states query.aggs (filter (has_key query.groups q) (selected query rows))
  states_are read are q =
      let ks = tree.shape.now.kinds in
      let test : List ℕ → Bool = λ ids. eq_by_cmp key_order q (key_of asked.columns.now ids) in
      let held : List ℕ → Bool = λ x. holds_from t k 0 x in
      let picked = option_map (states_of asked.pairs.now) in
      let at_most : length s.pairs ≡ length ks = sym (ap length s.kinds ∙ length-map s.pairs
      (λ (pair : Agg). pair.kind)) in
      entries_total asked ks ask.pairs (selected_of tree task read)
      (passed_kinds tree.shape.now tree.counts.now (section files tree.documents.now) t
      (length task.matched) (reads_of tree task) read are) q
      ∙ ap (λ l. picked (total merged_rows test l)) (taken_are read are)
      ∙ ap picked (same_total t k (passing t k f.1 (tree_picks t k f.0)) (rows_that_hold t k own) walks
      asked.columns.now (eq_by_cmp key_order q) grouped
      ∙ total-filter merged_rows rows_join test held own
      ∙ total-projected ks (λ x. held x && test x) s.entries
      ∙ ap (docs.states_of ks) (rows_passing s.split s.pairs s.values ks (λ x. held x && test x)
      (λ row. all_hold row query.conjuncts && has_key query.groups q row) (test_same q) rows s.entries
      s.projects)
      ∙ (λ i. docs.states_of (s.kinds i) (map (λ row. map (λ pair. number_for pair row) s.pairs)
      (filter_both (λ row. all_hold row query.conjuncts) (has_key query.groups q) rows i))))
      ∙ rows_total s.pairs query.aggs (record { kind = kinds.Count; column = None }) asked.pairs.now
      (filter (has_key query.groups q) (selected query rows))
      (λ i d lt. let h = ask.pairs i d lt in omega (arith, h, at_most)) s.of_query.aggs

  -- the documents add the rows to any groups
  documents_add : (read : List (List Doc)) → AreRead tree.shape.now tree.counts.now
      (section files tree.documents.now) (reads_of tree task) read → (old : Groups)
      → Adds (shape_of query) (selected query rows) old
      (with_entries old (entries_of asked (selected_of tree task read)))
  documents_add read are old = record {
    each = λ q. entries_at old (entries_of asked (selected_of tree task read)) q
        ∙ ap (join_some merged_rows (finite.get old q)) (states_are read are q);
  }

  pub served_adds : (old new : KeptGroups) → IsTableOf query old
      → Answers tree task asked (length rows) (Some files) old new
      → AddsRows query (length rows) (selected query rows) old new
  served_adds old new of_query a = record {
    of_query = record {
      columns = a.merged.columns ∙ of_query.columns;
      kinds = a.merged.kinds ∙ of_query.kinds;
    };
    most = a.merged.most;
    groups = subst (λ g. Adds (shape_of query) (selected query rows) (groups_in old) g)
        (sym a.merged.groups) (documents_add a.read a.told (groups_in old));
    fits = a.merged.fits;
  }

  pub served_over : (old : KeptGroups) → IsOverfull tree task asked (Some files) old
      → scan.IsOverfull query (selected query rows) old
  served_over old o = λ new adds.
      let entries = entries_of asked (selected_of tree task o.read) in
      subst (λ (g : Groups). old.most < finite.len g)
      (one (shape_of query) (selected query rows) (groups_in old)
      (with_entries (groups_in old) entries) new
      (documents_add o.read o.told (groups_in old)) adds) o.over

  -- nothing is refused
  module _ (ns : List (asks.Pick (List AggState)))
      (shown_same : map (shown (flat_of tree.shape.now s.entries).1)
      (tree_picks (asked_of task) tree.shape.now.dims (flat_of tree.shape.now s.entries).0)
      ≡ map bare ns)
      (count : read_of (tree_picks (asked_of task) tree.shape.now.dims
      (flat_of tree.shape.now s.entries).0) ≡ asks.read_of ns)
      (parted : ArePartedBy (asked_of task) tree.shape.now.dims ns
      (projected tree.shape.now.kinds s.entries))
      (has : HaveDocs merged_rows tree.shape.now.dims (projected tree.shape.now.kinds s.entries) ns) where
    many : length (projected tree.shape.now.kinds s.entries) ≡ length rows
    many = rows_many s.split s.pairs s.values tree.shape.now.kinds rows s.entries s.projects

    few_read : read_of (picks_of tree task) ≤ length rows
    few_read =
        let same = ap read_of picks_are in
        let ones = read_ones ns in
        let below = all_below (λ s. 1) (λ a b. omega arith) t k ns own
        (rows_ones s.split s.pairs s.values tree.shape.now.kinds rows s.entries s.projects) parted has
        in
        omega (arith, same, count, ones, below, many)

    all_sound : (read : List (List Doc)) → AreRead tree.shape.now tree.counts.now
        (section files tree.documents.now) (reads_of tree task) read
        → AreSound asked (length rows) (selected_of tree task read)
    all_sound read are =
        let ps = tree_picks t k f.0 in
        let own_taken = passing t k f.1 ps in
        let lighter = entries_weight asked own_taken in
        let less = passing_below row_weight rows_law.row_weight_both t k f.1 ps ns shown_same in
        let below = all_below row_weight rows_law.row_weight_both t k ns own
        (rows_light s.split s.pairs s.values tree.shape.now.kinds rows s.entries s.projects) parted has
        in
        subst (AreSound asked (length rows)) (sym (taken_are read are)) (record {
          keyed = selected_keyed s.split s.pairs s.values tree.shape.now.kinds t k asked.columns.now rows
              s.entries own_taken s.projects grouped
              (λ i d lt. let h = ask.dims i d lt in omega (arith, h, s.dims)) s.of_query.columns walks;
          weight_fits = omega (arith, lighter, less, below, many);
        })

    pub served_fine : ¬ IsBad tree task asked (length rows) (Some files)
    served_fine (inl more) = omega (arith, more, few_read)
    served_fine (inr bad) =
        let ps = tree_picks t k f.0 in
        let reads : reads_of tree task ≡ coalesced ps = ap coalesced picks_are in
        let read = map (λ (p : Pick). range p.start p.end f.1) (coalesced ps) in
        let are = subst (λ l. AreRead tree.shape.now tree.counts.now
        (section files tree.documents.now) l read) (sym reads)
        (picks_read tree.shape.now tree.counts.now (section files tree.documents.now) f.1
        s.of_rows.documents_are k (coalesced ps) (coalesced_within (length f.1) k ps within)) in
        bad read are (all_sound read are)
