-- The documents of the tree of some rows have ids of their dimensions, or stars.
use Rattle.std.proofs.Common.{◌≡◌, ◌<◌, ◌≤◌, ℕ, zero, suc, Bool, true, false, cond, not}
use Rattle.std.proofs.Common.{◌&&◌, ◌==◌, nat_le, nat_lt, List, [], ◌∷◌, ◌++◌, length}
use Rattle.std.proofs.Common.{inl, inr, refl, sym, subst, arith}
use Rattle.std.specs.List.{filter}
use Rattle.std.specs.declared.cmp.Ordering.TheVariants.{Less, Equal, Greater}
use Rattle.std.specs.FinMap.Entries.{by_order}
use Rattle.agg_laws.specs.declared.states.AggState.{AggState}
use Rattle.agg_laws.specs.declared.tree_shape.TreeShape.{TreeShape}
use Rattle.state_columns.specs.Docs.{Doc, HaveIds}
use Rattle.state_columns.specs.Documents.{aggregated, documents_of, star_docs, star_from, visit_of}
use Rattle.state_columns.specs.Documents.{visits_of}
use Rattle.star_tree.specs.Flat.{flat}
use Rattle.agg_laws.specs.Merged.{add, rekey}
use Rattle.star_tree.specs.NodeRules.{AreCounted, count_at}
use Rattle.agg_laws.specs.Rows.{merged_rows}
use Rattle.agg_laws.specs.Tree.{Nodes, dim, dims_order, docs_with, has_star, ids_at, child_nodes_of}
use Rattle.agg_laws.specs.Tree.{merged_docs, node, none, root_of, set_star, skips, star, star_child}
use Rattle.agg_laws.specs.Tree.{tree_of, under}
use Rattle.star_tree.proofs.FlatLemmas.{flat_docs}
use Rattle.star_file.specs.Reading.{AreIds, DocsHaveIds, IsId}

-- ---- ids

star_id : (n : ℕ) → IsId n star
star_id n = (omega arith, inl refl)

set_ids : (ns xs : List ℕ) (d : ℕ) → AreIds ns xs → AreIds ns (set_star d xs)
set_ids [] [] d h = tt
set_ids [] (x ∷ xs) d h = absurd h
set_ids (n ∷ ns) [] d h = absurd h
set_ids (n ∷ ns) (x ∷ xs) zero h = (star_id n, h.1)
set_ids (n ∷ ns) (x ∷ xs) (suc d) h = (h.0, set_ids ns xs d h.1)

from_ids : (ns xs : List ℕ) (d : ℕ) → AreIds ns xs → AreIds ns (star_from d xs)
from_ids [] [] d h = tt
from_ids [] (x ∷ xs) d h = absurd h
from_ids (n ∷ ns) [] d h = absurd h
from_ids (n ∷ ns) (x ∷ xs) zero h = (star_id n, from_ids ns xs zero h.1)
from_ids (n ∷ ns) (x ∷ xs) (suc d) h = (h.0, from_ids ns xs d h.1)

-- ids below the counts of their dimensions
below_ids : (ns xs : List ℕ) → length xs ≡ length ns
    → ((d : ℕ) → d < length ns → dim d xs < count_at ns d) → ((d : ℕ) → count_at ns d ≤ star)
    → AreIds ns xs
below_ids [] [] lengths below at_most = tt
below_ids [] (x ∷ xs) lengths below at_most = absurd (omega (arith, lengths))
below_ids (n ∷ ns) [] lengths below at_most = absurd (omega (arith, lengths))
below_ids (n ∷ ns) (x ∷ xs) lengths below at_most =
    let lt : x < n = below 0 (omega arith) in
    let small : n ≤ star = at_most 0 in (
      (omega (arith, lt, small), inr lt),
      below_ids ns xs (omega (arith, lengths)) (λ d le. below (suc d) (omega (arith, le)))
          (λ d. at_most (suc d)),
    )

pub rows_ids : (counts : List ℕ) (k : ℕ) (docs : List Doc) → length counts ≡ k → HaveIds k docs
    → AreCounted k counts docs → ((d : ℕ) → count_at counts d ≤ star) → DocsHaveIds counts docs
rows_ids counts k [] many ids counted at_most = tt
rows_ids counts k (e ∷ es) many ids counted at_most = (
  below_ids counts e.0 (omega (arith, ids.0, many))
      (λ d lt. counted.0 d (omega (arith, lt, many))) at_most,
  rows_ids counts k es many ids.1 counted.1 at_most,
)

-- ---- documents

module _ (counts : List ℕ) where
  abbrev Own : List Doc → Type 0
  Own docs = DocsHaveIds counts docs

  own_append : (xs ys : List Doc) → Own xs → Own ys → Own (xs ++ ys)
  own_append [] ys x y = y
  own_append (e ∷ xs) ys x y = (x.0, own_append xs ys x.1 y)

  own_add : (x : List ℕ) (s : List AggState) (es : List Doc) → AreIds counts x → Own es
      → Own (add dims_order merged_rows x s es)
  own_add x s [] own h = (own, tt)
  own_add x s (e ∷ es) own h =
      let more = own_add x s es own h.1 in
      elim (dims_order x e.0) as (λ r. Own (by_order r ((x, s) ∷ e ∷ es)
      ((e.0, merged_rows s e.1) ∷ es) (e ∷ add dims_order merged_rows x s es))) [
        | Less ↦ (own, h)
        | Equal ↦ (h.0, h.1)
        | Greater ↦ (h.0, more)
      ]

  own_merged : (docs : List Doc) → Own docs → Own (merged_docs merged_rows docs)
  own_merged [] h = tt
  own_merged (e ∷ es) h = own_add e.0 e.1 (merged_docs merged_rows es) h.0 (own_merged es h.1)

  own_rekey : (f : List ℕ → List ℕ) → ((xs : List ℕ) → AreIds counts xs → AreIds counts (f xs))
      → (docs : List Doc) → Own docs → Own (rekey f docs)
  own_rekey f keeps [] h = tt
  own_rekey f keeps (e ∷ es) h = (keeps e.0 h.0, own_rekey f keeps es h.1)

  own_filter : (p : Doc → Bool) (docs : List Doc) → Own docs → Own (filter p docs)
  own_filter p [] h = tt
  own_filter p (e ∷ es) h =
      let more = own_filter p es h.1 in
      elim (p e) as (λ b. Own (cond b (e ∷ filter p es) (filter p es))) [
        | true ↦ (h.0, more)
        | false ↦ more
      ]

  -- ---- nodes with such documents

  abbrev AreOwn : Nodes (List AggState) → Type 0
  AreOwn none = Unit {0}
  AreOwn (node id docs subtrees rest) = Own docs × AreOwn subtrees × AreOwn rest

  children_own : (below : List Doc → Nodes (List AggState))
      → ((docs : List Doc) → Own docs → AreOwn (below docs)) → (d : ℕ) (docs : List Doc)
      (last : Nodes (List AggState)) → Own docs → AreOwn last → (vs : List ℕ)
      → AreOwn (child_nodes_of below d docs last vs)
  children_own below each d docs last g l [] = l
  children_own below each d docs last g l (v ∷ vs) =
      let own = own_filter (λ e. dim d e.0 == v) docs g in
      (own, each (docs_with d v docs) own, children_own below each d docs last g l vs)

  star_own : (below : List Doc → Nodes (List AggState))
      → ((docs : List Doc) → Own docs → AreOwn (below docs)) → (shape : TreeShape) (d : ℕ)
      (docs : List Doc) → Own docs → AreOwn (star_child merged_rows below shape d docs)
  star_own below each shape d docs g =
      let starred : List Doc = merged_docs merged_rows (rekey (set_star d) docs) in
      let own : Own starred = own_merged (rekey (set_star d) docs)
      (own_rekey (set_star d) (λ xs. set_ids counts xs d) docs g) in
      elim (not (skips shape d) && nat_lt 1 (length (ids_at merged_rows d docs))) as
      (λ b. AreOwn (cond b (node star starred (below starred) none) none)) [
        | true ↦ (own, each starred own, tt)
        | false ↦ tt
      ]

  under_own : (shape : TreeShape) (more d : ℕ) (docs : List Doc) → Own docs
      → AreOwn (under merged_rows shape more d docs)
  under_own shape zero d docs g = tt
  under_own shape (suc more) d docs g =
      let below : List Doc → Nodes (List AggState) = under merged_rows shape more (suc d) in
      let each : (ds : List Doc) → Own ds → AreOwn (below ds) =
      (λ ds. under_own shape more (suc d) ds) in
      let all : Nodes (List AggState) =
      child_nodes_of below d docs (star_child merged_rows below shape d docs) (ids_at merged_rows d docs) in
      let split : AreOwn all =
      children_own below each d docs (star_child merged_rows below shape d docs) g
      (star_own below each shape d docs g) (ids_at merged_rows d docs) in
      elim (nat_le (length docs) shape.leaf) as (λ b. AreOwn (cond b none all)) [
        | true ↦ tt
        | false ↦ split
      ]

  root_own : (shape : TreeShape) (k : ℕ) (docs : List Doc) → Own docs
      → AreOwn (root_of merged_rows shape k docs)
  root_own shape k [] g = tt
  root_own shape k (e ∷ es) g = (g, under_own shape k 0 (e ∷ es) g, tt)

  -- ---- what their visits append

  total_own : (d : ℕ) (docs : List Doc) → Own docs → Own (aggregated merged_rows d docs)
  total_own d docs g = own_merged (rekey (star_from d) docs)
      (own_rekey (star_from d) (λ xs. from_ids counts xs d) docs g)

  stars_own : (subtrees : Nodes (List AggState)) → AreOwn subtrees → Own (star_docs subtrees)
  stars_own none g = tt
  stars_own (node id docs subtrees rest) g =
      let more = stars_own rest g.2 in
      elim (id == star) as (λ b. Own (cond b docs (star_docs rest))) [
        | true ↦ g.0
        | false ↦ more
      ]

  visit_own : (d : ℕ) (docs : List Doc) (subtrees : Nodes (List AggState)) (below : List Doc)
      → Own docs → AreOwn subtrees → Own below → Own (visit_of merged_rows d docs subtrees below)
  visit_own d docs none below g h b =
      let total = total_own d docs g in
      elim (length docs == 1) as (λ b. Own (cond b [] (aggregated merged_rows d docs))) [
        | true ↦ tt
        | false ↦ total
      ]
  visit_own d docs (node id own subtrees rest) below g h b =
      let all : Nodes (List AggState) = node id own subtrees rest in
      let total = total_own d docs g in
      let last : Own (cond (has_star all) [] (aggregated merged_rows d docs)) =
      elim (has_star all) as (λ b. Own (cond b [] (aggregated merged_rows d docs))) [
        | true ↦ tt
        | false ↦ total
      ] in
      own_append (star_docs all) (below ++ cond (has_star all) [] (aggregated merged_rows d docs))
      (stars_own all h)
      (own_append below (cond (has_star all) [] (aggregated merged_rows d docs)) b last)

  visits_own : (d : ℕ) (ns : Nodes (List AggState)) → AreOwn ns → Own (visits_of merged_rows d ns)
  visits_own d none g = tt
  visits_own d (node id docs subtrees rest) g =
      own_append (visit_of merged_rows d docs subtrees (visits_of merged_rows (suc d) subtrees))
      (visits_of merged_rows d rest)
      (visit_own d docs subtrees (visits_of merged_rows (suc d) subtrees) g.0 g.1
      (visits_own (suc d) subtrees g.1)) (visits_own d rest g.2)

  documents_own : (tree : Nodes (List AggState)) → AreOwn tree → Own (documents_of merged_rows tree)
  documents_own none g = tt
  documents_own (node id docs subtrees rest) g =
      own_append docs (visit_of merged_rows 0 docs subtrees (visits_of merged_rows 1 subtrees)) g.0
      (visit_own 0 docs subtrees (visits_of merged_rows 1 subtrees) g.0 g.1 (visits_own 1 subtrees g.1))

  -- the documents of a tree, written flat
  pub tree_ids : (shape : TreeShape) (k : ℕ) (docs : List Doc) → Own docs
      → DocsHaveIds counts (flat merged_rows (tree_of merged_rows shape k docs)).1
  tree_ids shape k docs g =
      let merged : List Doc = merged_docs merged_rows docs in
      let tree : Nodes (List AggState) = root_of merged_rows shape k merged in
      subst (DocsHaveIds counts) (sym (flat_docs merged_rows tree))
      (documents_own tree (root_own shape k merged (own_merged docs g)))
