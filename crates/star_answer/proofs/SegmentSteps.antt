-- The answer of a segment from a star-tree of its file, by that from the tree.
use Rattle.std.proofs.Common.{◌≡◌, ◌∙◌, ◌<◌, ◌≤◌, ◌+◌, ◌*◌, ℕ, List, [], ◌∷◌, length, map, Option, suc, Bool, true, false, Some, None, IfSome, inl, inr, refl, sym, ap, subst, arith, drop, mul-le-mul_right, length-take}
use Rattle.std.specs.Prelude.{if◌then◌else◌, slice_get}
use Rattle.std.specs.List.{AllByRecursion}
use Rattle.std.proofs.lemmas.Option.{slice_get_within}
use Rattle.outside.specs.Files.{Files, bytes_of}
use Rattle.outside.specs.Reads.{Entry}
use Rattle.outside.specs.declared.place.Place.{Place}
use Rattle.values.specs.declared.value.Value.{Value}
use Rattle.table_schema.specs.declared.query.BoundQuery.{BoundQuery}
use Rattle.table_schema.specs.declared.settings.TreeSetting.{TreeSetting}
use Rattle.table_schema.specs.declared.table.Table.{Table}
use Rattle.table_schema.specs.ValidQuery.{IsValidQuery}
use Rattle.table_schema.specs.ValidSettings.{IsValidTree}
use Rattle.table_schema.specs.ValidTable.{IsValidTable}
use Rattle.group_table.specs.Kept.{IsTableOf, KeptGroups}
use Rattle.scan_engine.specs.Scanned.{AddsRows, HaveAtMost, selected}
use Rattle.scan_engine.specs.Scanned as scan
use Rattle.eligibility.specs.Rule.{is_eligible, picked, picked_from}
use Rattle.star_file.specs.Reading.{doc_width, section}
use Rattle.segment_file.specs.declared.trees.TreeNodes.{TreeNodes}
use Rattle.segment_file.specs.declared.part.Part.{Part}
use Rattle.segment_file.specs.declared.part.Part.TheVariants.{Star}
use Rattle.segment_head.specs.Calls.{IsNodesPart}
use Rattle.segment_head.specs.Heads.{AreKept, HaveCounts, IsHeadOf, LogsTree, OfWhole, Seen, place_in, split_of}
use Rattle.segment_file.specs.Ordered.{ordered}
use Rattle.segment_head.specs.Stored.{IsNoImage, IsOfImage}
use Rattle.segment_file.specs.Trees.{written}
use Rattle.segment_file.proofs.ImageRows.{ordered_count}
use Rattle.segment_plan.specs.Laws.{HeadTells}
use Rattle.segment_plan.specs.Matched.{AreLoaded}
use Rattle.segment_file.proofs.TreeChecks.{valid_at}
use Rattle.outside.specs.Stretches.{LogsOver, LogsPartly, Stretch}
use Rattle.star_walk.specs.declared.pick.Pick.{Pick}
use Rattle.star_walk.specs.declared.task.Task.{Task}
use Rattle.star_walk.specs.Images.{AreWithin, read_of}
use Rattle.star_walk.specs.Coalescing.{coalesced}
use Rattle.star_walk.specs.Walking.{HasEach}
use Rattle.star_walk.proofs.CoalesceSteps.{coalesced_same, read_numbers}
use Rattle.star_reader.specs.declared.asked.Asked.{Asked}
use Rattle.star_reader.specs.declared.asked.GroupColumn.{GroupColumn}
use Rattle.star_reader.specs.declared.tree_part.TreePart.{TreePart}
use Rattle.star_reader.specs.Answers.{Answers, IsBad, IsOverfull, IsTree, asked_of, picks_of, LogsPicks, LogsSome, reads_of, stretch_of, stretches_of}
use Rattle.star_reader.specs.Asked.{AreAsked, IsTableFor}
use Rattle.star_answer.specs.DocLaws.{WalkReadsDocs}
use Rattle.segment_reads.specs.Docs.{docs_read}
use Rattle.star_answer.specs.Segments.{AddsAnswer, AreDocsRead, IsAnswerOverfull, IsBadTree, MayServe, IsInside, LogsAnswer, LogsAnswerPartly, LogsDocs, stretches_in}
use Rattle.star_answer.specs.Served.{AsksFor, IsServed}
use Rattle.star_answer.specs.Tasks.{AreColumnsOf, ArePairsOf, split_values}
use Rattle.segment_plan.specs.Named.{AreGroupsLoaded}
use Rattle.star_answer.proofs.AnswerSteps.{PicksWithin, reads_many, reads_within}
use Rattle.star_answer.proofs.ImageSteps as image
use Rattle.star_answer.proofs.ImageSteps.{Stands}

-- ---- the tree that is picked may serve the query

-- it is among these trees, of which the first has the number n
record IsAmong (query : BoundQuery) (n t : ℕ) (trees : List TreeSetting) : Type 0 where
  place : ℕ
  number : t ≡ n + place
  there : MayServe query trees place

one-more : (query : BoundQuery) (n t : ℕ) (tree : TreeSetting) (trees : List TreeSetting) (b : Bool)
    → is_eligible query tree ≡ b → (picked_from query (n + 1) trees ≡ Some t
    → IsAmong query (n + 1) t trees)
    → (if b then Some n else picked_from query (n + 1) trees) ≡ Some t
    → IsAmong query n t (tree ∷ trees)
one-more query n t tree trees true own later e =
    let same : n ≡ t = cc in
    record {
      place = 0;
      number = omega (arith, same);
      there = record { setting = tree; at = refl; eligible = own };
    }
one-more query n t tree trees false own later e =
    let found = later e in
    let number = found.number in
    record {
      place = suc found.place;
      number = omega (arith, number);
      there = record {
        setting = found.there.setting;
        at = found.there.at;
        eligible = found.there.eligible;
      };
    }

picked-at : (query : BoundQuery) (n t : ℕ) (trees : List TreeSetting)
    → picked_from query n trees ≡ Some t → IsAmong query n t trees
picked-at query n t [] is = absurd cc
picked-at query n t (tree ∷ trees) is =
    one-more query n t tree trees (is_eligible query tree) refl (picked-at query (n + 1) t trees) is

pub picked_eligible : (query : BoundQuery) (trees : List TreeSetting) (t : ℕ)
    → picked query trees ≡ Some t → MayServe query trees t
picked_eligible query trees t is =
    let found = picked-at query 0 t trees is in
    let number = found.number in
    let same : found.place ≡ t = omega (arith, number) in
    subst (MayServe query trees) same found.there

-- ---- a tree that may serve the query

-- it is one of the trees
pub eligible_there : (query : BoundQuery) (trees : List TreeSetting) (t : ℕ)
    → MayServe query trees t → t < length trees
eligible_there query trees t e = slice_get_within trees t e.setting e.at

-- ---- the laws of answers

abbrev pub AnswerAdds : Type 0
AnswerAdds = (query : BoundQuery) (tree : TreePart) (task : Task) (asked : Asked) (files : Files)
    (rows : List (List Value)) (old new : KeptGroups) → IsTree tree task
    → AreAsked tree.shape.now asked → IsTableOf query old
    → IsServed query tree (asked_of task) asked files rows
    → Answers tree task asked (length rows) (Some files) old new
    → AddsRows query (length rows) (selected query rows) old new

abbrev pub AnswerOverfull : Type 0
AnswerOverfull = (query : BoundQuery) (tree : TreePart) (task : Task) (asked : Asked) (files : Files)
    (rows : List (List Value)) (old : KeptGroups) → IsTree tree task
    → AreAsked tree.shape.now asked → IsTableOf query old
    → IsServed query tree (asked_of task) asked files rows
    → IsOverfull tree task asked (Some files) old → scan.IsOverfull query (selected query rows) old

abbrev pub NeverBad : Type 0
NeverBad = (query : BoundQuery) (tree : TreePart) (task : Task) (asked : Asked) (files : Files)
    (rows : List (List Value)) → IsTree tree task → AreAsked tree.shape.now asked
    → IsServed query tree (asked_of task) asked files rows
    → ¬ IsBad tree task asked (length rows) (Some files)

-- ---- stretches

inside_all : (place : Place) (width documents k : ℕ) (ps : List Pick)
    → documents * width ≤ place.length → AreWithin documents k ps
    → AllByRecursion (IsInside place) (map (stretch_of place.offset width) ps)
inside_all place width documents k [] at_most w = tt
inside_all place width documents k (p ∷ ps) at_most w =
    let before = mul-le-mul_right width (less w.0) in
    let past = mul-le-mul_right width w.1 in (
      record {
        from = omega arith;
        order = omega (arith, before);
        to = omega (arith, past, at_most);
      },
      inside_all place width documents k ps at_most w.3,
    )
  where
    less : p.start < p.end → p.start ≤ p.end
    less lt = omega (arith, lt)

-- ---- the answer

module _ (query : BoundQuery) (table : Table) (head : Seen) (t : ℕ) (setting : TreeSetting)
    (part : TreePart) (task : Task) (asked : Asked) (said : TreeNodes)
    (s : Stands query table head t setting part task asked said) where
  abbrev is-tree : IsTree part task
  is-tree = image.is_tree query table head t setting part task asked said s

  abbrev are-asked : AreAsked part.shape.now asked
  are-asked = image.are_asked query table head t setting part task asked said s

  -- what is said of the nodes and the counts of a whole head
  abbrev pub Nodes : Option Files → Type 0
  Nodes held = OfWhole table held head (λ whole. slice_get whole.trees t ≡ Some (Some said))

  abbrev pub Counts : Option Files → Type 0
  Counts held = OfWhole table held head (HaveCounts (split_of table t) part.counts.now)

  module _ (law : HeadTells) where
    many-rows : (files : Files) (rows : List (List Value)) → Nodes (Some files)
        → Counts (Some files) → IsOfImage table files rows head
        → head.rows ≡ length (ordered table.settings.sorted rows)
    many-rows files rows nodes counts of =
        (image.tells query table head t setting part task asked said s law files rows nodes counts
        of).rows_are

    serves : (files : Files) (rows : List (List Value)) → Nodes (Some files) → Counts (Some files)
        → IsOfImage table files rows head
        → IsServed query part (asked_of task) asked files (ordered table.settings.sorted rows)
    serves files rows nodes counts of =
        image.served query table head t setting part task asked said s law files rows nodes counts of

    -- how many documents are read
    pub docs_are : WalkReadsDocs → (held : Option Files) → Nodes held → Counts held → (n : ℕ)
        → n ≡ read_of (picks_of part task) → n ≤ head.rows
        → AreDocsRead query table held head t n
    docs_are walk held nodes counts n is at_most = record { at_most = at_most; told = by held nodes counts }
      where
        by : (h : Option Files) → Nodes h → Counts h
            → IfSome h (λ files. (rows : List (List Value)) → IsOfImage table files rows head
            → n ≡ docs_read query table (ordered table.settings.sorted rows) t)
        by None nodes counts = tt
        by (Some files) nodes counts = λ rows of.
            is ∙ image.count_is query table head t setting part task asked said s law files rows nodes
            counts of walk

    -- what is added
    pub adds : AnswerAdds → (held : Option Files) → Nodes held → Counts held
        → (old new : KeptGroups) → IsTableOf query old → Answers part task asked head.rows held old new
        → AddsAnswer query table held head old new
    adds law-adds held nodes counts old new of-query a = record {
      grows = record {
        of_query = record {
          columns = a.merged.columns ∙ of-query.columns;
          kinds = a.merged.kinds ∙ of-query.kinds;
        };
        most = a.merged.most;
        fits = a.merged.fits;
      };
      told = by held nodes counts a;
    }
      where
        by : (h : Option Files) → Nodes h → Counts h → Answers part task asked head.rows h old new
            → IfSome h (λ files. (rows : List (List Value)) → IsOfImage table files rows head
            → (head.rows ≡ length rows) × AddsRows query (length rows)
            (selected query (ordered table.settings.sorted rows)) old new)
        by None nodes counts a = tt
        by (Some files) nodes counts a = λ rows of.
            (let os : List (List Value) = ordered table.settings.sorted rows in
            let many : head.rows ≡ length os = many-rows files rows nodes counts of in
            let count : length os ≡ length rows = ordered_count table.settings.sorted rows in (
              many ∙ count,
              subst (λ n. AddsRows query n (selected query os) old new) count
                  (law-adds query part task asked files os old new is-tree are-asked of-query
                  (serves files rows nodes counts of)
                  (subst (λ n. Answers part task asked n (Some files) old new) many a)),
            ))

    -- there are too many groups
    pub overfull : AnswerOverfull → (held : Option Files) → Nodes held → Counts held
        → (old : KeptGroups) → IsTableOf query old → IsOverfull part task asked held old
        → IsAnswerOverfull query table held head old
    overfull law-over None nodes counts old of-query over = tt
    overfull law-over (Some files) nodes counts old of-query over = λ rows of.
        law-over query part task asked files (ordered table.settings.sorted rows) old is-tree are-asked
        of-query (serves files rows nodes counts of) over

    -- documents are refused
    pub no_image : NeverBad → (held : Option Files) → Nodes held → Counts held
        → IsBad part task asked head.rows held → IsNoImage table held head
    no_image never None nodes counts bad = tt
    no_image never (Some files) nodes counts bad = λ rows of.
        (let os : List (List Value) = ordered table.settings.sorted rows in
        never query part task asked files os is-tree are-asked (serves files rows nodes counts of)
        (subst (λ n. IsBad part task asked n (Some files)) (many-rows files rows nodes counts of) bad))

    -- what is read of the section of documents
    pub logs_docs : WalkReadsDocs → PicksWithin → (held : Option Files) → Nodes held → Counts held
        → (Logs : List ℕ → List Stretch → Option (List Entry) → Option (List Entry) → Type 0)
        → (old new : Option (List Entry))
        → Logs part.documents.now.file (stretches_of part (reads_of part task)) old new
        → LogsDocs Logs query table held head t old new
    logs_docs walk picks-within held nodes counts Logs old new logs = record {
      setting = setting;
      setting_at = s.at;
      place = part.documents.now;
      place_at = s.placed;
      picks = reads_of part task;
      reads = subst (λ sh. Logs part.documents.now.file
          (map (stretch_of part.documents.now.offset (doc_width sh)) (reads_of part task)) old new)
          s.shape_is logs;
      told = by held nodes counts;
    }
      where
        within : AreWithin said.documents (length task.matched) (reads_of part task)
        within = subst (λ n. AreWithin n (length task.matched) (reads_of part task))
            (image.tree_documents query table head t setting part task asked said s)
            (reads_within part task is-tree picks-within)

        by : (h : Option Files) → Nodes h → Counts h
            → IfSome h (λ files. (rows : List (List Value)) → IsOfImage table files rows head
            → (read_of (reads_of part task) ≡ docs_read query table
            (ordered table.settings.sorted rows) t)
            × AllByRecursion (IsInside part.documents.now)
            (stretches_in part.documents.now setting (reads_of part task)))
        by None nodes counts = tt
        by (Some files) nodes counts = λ rows of.
            (let os : List (List Value) = ordered table.settings.sorted rows in
            let told = image.told query table head t setting part task asked said s law files rows nodes
            counts of in
            let cut = ap length (image.section_is query table head t setting part task asked said s law
            files rows nodes counts of) in
            let lengths = image.section_long query table head t setting part task asked said s law files
            rows nodes counts of in
            let width : ℕ = doc_width setting.shape in
            let number : said.documents * width ≡ length (written os setting).1 * width =
            ap (λ n. n * width) told.documents_are in
            let cutting = length-take part.documents.now.length
            (drop part.documents.now.offset (bytes_of (Some files) part.documents.now.file)) in
            let most : length (section files part.documents.now) ≤ part.documents.now.length =
            omega (arith, cutting) in (
              reads_many part task is-tree picks-within
                  (λ documents k ps w. read_numbers (coalesced ps)
                  ∙ ap length (coalesced_same documents k ps w) ∙ sym (read_numbers ps))
                  (reads_of part task) refl
                  ∙ image.count_is query table head t setting part task asked said s law files rows
                  nodes counts of walk,
              inside_all part.documents.now width said.documents (length task.matched)
                  (reads_of part task) (omega (arith, cut, lengths, number, most)) within,
            ))

-- ---- what is known at the call

-- the same, and what is known of the files
pub record IsReady (query : BoundQuery) (table : Table) (head : Seen) (t : ℕ)
    (setting : TreeSetting) (part : TreePart) (task : Task) (asked : Asked) (said : TreeNodes)
    (held : Option Files) : Type 0 where
  pub stands : Stands query table head t setting part task asked said
  pub nodes : OfWhole table held head (λ whole. slice_get whole.trees t ≡ Some (Some said))
  pub counts : OfWhole table held head (HaveCounts (split_of table t) part.counts.now)

pub ready_so : (query : BoundQuery) (table : Table) (head : Seen) (t : ℕ) (setting : TreeSetting)
    (part : TreePart) (task : Task) (asked : Asked) (said : TreeNodes) (counts : List ℕ)
    (place : Place) (columns : List GroupColumn) (pairs : List ℕ) (held : Option Files)
    → IsValidTable table → IsHeadOf table head → IsValidQuery table query
    → MayServe query table.settings.trees t → AreLoaded query.conjuncts head
    → AreGroupsLoaded query.groups head → slice_get table.settings.trees t ≡ Some setting
    → OfWhole table held head (λ whole. slice_get whole.trees t ≡ Some (Some said))
    → OfWhole table held head (HaveCounts (split_of table t) counts)
    → IfSome (slice_get table.settings.trees t) (λ x. AreKept x.shape counts said)
    → part.shape.now ≡ setting.shape → part.counts.now ≡ counts → part.nodes.now ≡ said.nodes
    → part.documents.now ≡ place → place_in head.sections (Star t) ≡ Some place
    → HasEach task.matched task.grouped → length task.matched ≡ length setting.split
    → AsksFor query setting.split (split_values head setting.split) (asked_of task)
    → AreColumnsOf query.groups setting.split (split_values head setting.split) columns
    → asked.columns.now ≡ columns → ArePairsOf query.aggs setting.pairs pairs
    → asked.pairs.now ≡ pairs → IsReady query table head t setting part task asked said held
ready_so query table head t setting part task asked said counts place columns pairs held valid
    of-table query-valid eligible loaded groups-loaded at nodes counted kept shape-is counts-is
    nodes-are place-is placed each entries asks columns-are columns-is pairs-are pairs-is =
    let own : AreKept setting.shape counts said =
    subst (λ o. IfSome o (λ x. AreKept x.shape counts said)) at kept in
    record {
      stands = record {
        valid = valid;
        of_table = of-table;
        query_valid = query-valid;
        at = at;
        lt = eligible_there query table.settings.trees t eligible;
        loaded = loaded;
        groups_loaded = groups-loaded;
        shape_is = shape-is;
        nodes_are = nodes-are;
        placed = placed ∙ ap Some (sym place-is);
        kept = subst (λ cs. AreKept setting.shape cs said) (sym counts-is) own;
        each = each;
        entries = entries;
        asks = asks;
        columns = subst (AreColumnsOf query.groups setting.split (split_values head setting.split))
            (sym columns-is) columns-are;
        pairs = subst (ArePairsOf query.aggs setting.pairs) (sym pairs-is) pairs-are;
      };
      nodes = nodes;
      counts = subst (λ cs. OfWhole table held head (HaveCounts (split_of table t) cs))
          (sym counts-is) counted;
    }

-- the setting of its number is eligible
pub setting_eligible : (query : BoundQuery) (trees : List TreeSetting) (t : ℕ)
    (setting : TreeSetting) → MayServe query trees t → slice_get trees t ≡ Some setting
    → is_eligible query setting ≡ true
setting_eligible query trees t setting e at =
    let same : Some e.setting ≡ Some setting = sym e.at ∙ at in
    let that : e.setting ≡ setting = cc in
    subst (λ x. is_eligible query x ≡ true) that e.eligible

-- its setting is valid
pub setting_valid : (table : Table) (t : ℕ) (setting : TreeSetting) → IsValidTable table
    → slice_get table.settings.trees t ≡ Some setting → IsValidTree table.schema.fields setting
setting_valid table t setting valid at =
    valid_at table.schema.fields table.settings.trees t setting valid.settings.trees_valid at

-- a head that is refused is of no image
none_whole : (table : Table) (head : Seen) (held : Option Files)
    → OfWhole table held head (λ _. ⊥) → IsNoImage table held head
none_whole table head None none = tt
none_whole table head (Some files) none = λ rows of.
    image.of_whole table files rows head (λ _. ⊥) none of

-- it is refused for a rule on the head
pub bad_nodes_tree : (query : BoundQuery) (table : Table) (head : Seen) (held : Option Files)
    (t : ℕ) (part : Part) → IsNodesPart table t part → OfWhole table held head (λ _. ⊥)
    → IsBadTree query table held head t part
bad_nodes_tree query table head held t part named none =
    (inl (named, none), none_whole table head held none)

module _ (query : BoundQuery) (table : Table) (head : Seen) (t : ℕ) (setting : TreeSetting)
    (part : TreePart) (task : Task) (asked : Asked) (said : TreeNodes) (held now : Option Files)
    (r : IsReady query table head t setting part task asked said held) (same : now ≡ held)
    (law : HeadTells) (rows : ℕ) (rows-are : rows ≡ head.rows) where
  pub ready_tree : IsTree part task
  ready_tree = image.is_tree query table head t setting part task asked said r.stands

  pub ready_asked : AreAsked part.shape.now asked
  ready_asked = image.are_asked query table head t setting part task asked said r.stands

  pub ready_table : (old : KeptGroups) → IsTableOf query old → IsTableFor part.shape.now asked old
  ready_table = image.for_table query table head t setting part task asked said r.stands

  pub ready_docs : WalkReadsDocs → (old new : KeptGroups) (n : ℕ) → n ≡ read_of (picks_of part task)
      → Answers part task asked rows now old new → AreDocsRead query table held head t n
  ready_docs walk old new n is a =
      docs_are query table head t setting part task asked said r.stands law walk held r.nodes r.counts
      n is (let at_most = a.at_most in omega (arith, is, at_most, rows-are))

  pub ready_adds : AnswerAdds → (old new : KeptGroups) → IsTableOf query old
      → Answers part task asked rows now old new → AddsAnswer query table held head old new
  ready_adds law-adds old new of-query a =
      adds query table head t setting part task asked said r.stands law law-adds held r.nodes r.counts
      old new of-query
      (subst (λ h. Answers part task asked head.rows h old new) same
      (subst (λ n. Answers part task asked n now old new) rows-are a))

  pub ready_full : AnswerOverfull → (old : KeptGroups) → IsTableOf query old
      → IsOverfull part task asked now old → IsAnswerOverfull query table held head old
  ready_full law-over old of-query over =
      overfull query table head t setting part task asked said r.stands law law-over held r.nodes
      r.counts old of-query (subst (λ h. IsOverfull part task asked h old) same over)

  pub ready_bad : NeverBad → IsBad part task asked rows now
      → IsBadTree query table held head t (Star t)
  ready_bad never bad =
      let own : IsBad part task asked head.rows held =
      subst (λ h. IsBad part task asked head.rows h) same
      (subst (λ n. IsBad part task asked n now) rows-are bad) in (
        inr (record {
          named = refl;
          of = part;
          task = task;
          asked = asked;
          asks = record {
            setting = setting;
            at = r.stands.at;
            shape = r.stands.shape_is;
            placed = r.stands.placed;
            nodes = said_nodes held r.nodes;
            asks = r.stands.asks;
            columns = r.stands.columns;
            pairs = r.stands.pairs;
          };
          bad = own;
        }),
        no_image query table head t setting part task asked said r.stands law never held r.nodes
            r.counts own,
      )
    where
      said_so : (o : Option (Option TreeNodes)) → o ≡ Some (Some said)
          → IfSome o (λ loaded. IfSome loaded (λ tree. part.nodes.now ≡ tree.nodes))
      said_so o is = subst
          (λ x. IfSome x (λ loaded. IfSome loaded (λ tree. part.nodes.now ≡ tree.nodes)))
          (sym is) r.stands.nodes_are

      said_nodes : (h : Option Files)
          → OfWhole table h head (λ whole. slice_get whole.trees t ≡ Some (Some said))
          → OfWhole table h head (λ whole. IfSome (slice_get whole.trees t)
          (λ loaded. IfSome loaded (λ tree. part.nodes.now ≡ tree.nodes)))
      said_nodes None nodes = tt
      said_nodes (Some files) nodes = λ name file whole is_head is_part.
          said_so (slice_get whole.trees t) (nodes name file whole is_head is_part)

  pub ready_log : WalkReadsDocs → PicksWithin → (n : ℕ) (old between new : Option (List Entry))
      → n ≡ read_of (picks_of part task) → LogsTree table head t old between
      → LogsPicks part (reads_of part task) between new
      → LogsAnswer query table held head t n old new
  unfolding logs_docs
  ready_log walk picks-within n old between new is nodes logs = record {
    between = between;
    nodes = nodes;
    documents = logs_docs query table head t setting part task asked said r.stands law walk
        picks-within held r.nodes r.counts LogsOver between new logs;
    many = reads_many part task ready_tree picks-within
        (λ documents k ps w. read_numbers (coalesced ps) ∙ ap length (coalesced_same documents k ps w)
        ∙ sym (read_numbers ps))
        (reads_of part task) refl ∙ sym is;
  }

  pub ready_partly : WalkReadsDocs → PicksWithin → (old between new : Option (List Entry))
      → LogsTree table head t old between → LogsSome part (reads_of part task) between new
      → LogsAnswerPartly query table held head t old new
  ready_partly walk picks-within old between new nodes logs = inr (record {
    between = between;
    nodes = nodes;
    documents = logs_docs query table head t setting part task asked said r.stands law walk
        picks-within held r.nodes r.counts LogsPartly between new logs;
  })
