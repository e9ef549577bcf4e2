-- A task that asks by the values of rows reads as many documents as the query does.
use Rattle.std.proofs.Common.{◌≡◌, ◌∙◌, ◌<◌, ◌≤◌, ℕ, List, length, map, sym, ap, subst, arith}
use Rattle.std.proofs.lemmas.List.{get_or-map}
use Rattle.values.specs.declared.value.Value.{Value}
use Rattle.agg_laws.specs.declared.tree_shape.TreeShape.{TreeShape}
use Rattle.state_columns.specs.Docs.{Doc, HaveIds}
use Rattle.star_tree.specs.Flat.{flat, node_at}
use Rattle.star_tree.specs.NodeRules.{AreCounted, IsRoot, KeepsRules, count_at}
use Rattle.star_tree.specs.Picks as asks
use Rattle.star_tree.specs.Picks.{picks}
use Rattle.agg_laws.specs.Rows.{merged_rows}
use Rattle.agg_laws.specs.Tree.{HaveNoStar, star, tree_of}
use Rattle.table_schema.specs.declared.field.Field.{Field}
use Rattle.table_schema.specs.declared.query.BoundQuery.{BoundQuery}
use Rattle.table_schema.specs.declared.settings.TreeSetting.{TreeSetting}
use Rattle.table_schema.specs.ValidSettings.{IsValidTree}
use Rattle.segment_file.specs.Columns.{count_of}
use Rattle.segment_file.specs.Trees.{documents}
use Rattle.segment_file.proofs.TreeRows.{tree_no_star}
use Rattle.star_walk.specs.Images.{read_of}
use Rattle.star_walk.specs.Walking.{tree_picks}
use Rattle.star_answer.specs.DocLaws.{WalkReadsDocs}
use Rattle.segment_reads.specs.Docs.{docs_of, row_values, task_over}
use Rattle.star_answer.specs.Served.{AsksFor}
use Rattle.star_answer.proofs.RowIds.{all_placed, are_counted, few_counts, have_ids}
use Rattle.star_answer.proofs.SamePicks.{AskSame, picks_same}

-- ---- the documents of a tree of rows

module _ (columns : List Field) (rows : List (List Value)) (tree : TreeSetting)
    (valid : IsValidTree columns tree) where
  pub tree_ids : HaveIds tree.shape.dims (documents rows tree)
  tree_ids = subst (λ n. HaveIds n (documents rows tree)) (sym valid.has_dims)
      (have_ids rows tree rows)

  tree_counted : AreCounted tree.shape.dims (map (count_of rows) tree.split) (documents rows tree)
  tree_counted =
      subst (λ n. AreCounted n (map (count_of rows) tree.split) (documents rows tree))
      (sym valid.has_dims) (are_counted rows tree rows (all_placed rows))

  -- the task asks what the query does
  asked_same : (query : BoundQuery) (t : asks.Task)
      → AsksFor query tree.split (row_values rows tree.split) t
      → AskSame t (task_over query rows tree.split) tree.shape.dims
      (map (count_of rows) tree.split)
  asked_same query t asked =
      let dims = valid.has_dims in
      record {
        filtered = λ d lt. asked.tested d (omega (arith, lt, dims));
        grouped = λ d lt. asked.grouped d (omega (arith, lt, dims));
        passes = λ d id lt below on.
            (let within : d < length tree.split = omega (arith, lt, dims) in
            let same = get_or-map (count_of rows) tree.split d 0 0 within in
            asked.passing d id within (omega (arith, below, same)) on);
      }

-- ---- the walk

-- what the nodes of flat trees keep, and how many documents a walk of them reads
abbrev pub NodesKeep : Type 0
NodesKeep = (shape : TreeShape) (k : ℕ) (docs : List Doc) (counts : List ℕ)
    → HaveIds k docs → HaveNoStar k docs → ((d : ℕ) → count_at counts d ≤ star)
    → AreCounted k counts docs
    → (at : ℕ) → at < length (flat merged_rows (tree_of merged_rows shape k docs)).0
    → KeepsRules shape k counts (length (flat merged_rows (tree_of merged_rows shape k docs)).1)
    (flat merged_rows (tree_of merged_rows shape k docs)).0 at

abbrev pub RootIsFirst : Type 0
RootIsFirst = (shape : TreeShape) (k : ℕ) (docs : List Doc)
    → 0 < length (flat merged_rows (tree_of merged_rows shape k docs)).0
    → IsRoot (node_at (flat merged_rows (tree_of merged_rows shape k docs)).0 0)

abbrev pub WalkCounts : Type 0
WalkCounts = (t : asks.Task) (shape : TreeShape) (k : ℕ) (docs : List Doc)
    → HaveIds k docs → HaveNoStar k docs
    → read_of (tree_picks t k (flat merged_rows (tree_of merged_rows shape k docs)).0)
    ≡ asks.read_of (picks merged_rows t k (tree_of merged_rows shape k docs))

pub walk_reads : NodesKeep → RootIsFirst → WalkCounts → WalkReadsDocs
unfolding docs_of
walk_reads keep root count query columns rows tree t valid at_most asked =
    let shape = tree.shape in
    let k = shape.dims in
    let docs : List Doc = documents rows tree in
    let counts : List ℕ = map (count_of rows) tree.split in
    let u = task_over query rows tree.split in
    let f = flat merged_rows (tree_of merged_rows shape k docs) in
    let ids = tree_ids columns rows tree valid in
    let no_star = tree_no_star columns rows tree valid at_most in
    let limit : (d : ℕ) → count_at counts d ≤ star = λ d. few_counts rows tree.split d at_most in
    ap read_of (picks_same t u k counts (asked_same columns rows tree valid query t asked) f.0
    shape (length f.1)
    (keep shape k docs counts ids no_star limit (tree_counted columns rows tree valid))
    (root shape k docs))
    ∙ count u shape k docs ids no_star
