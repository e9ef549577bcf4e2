-- The documents of the tree of some rows have the shape of these, and can be stored; so each of them takes as many bytes.
use Rattle.std.proofs.Common.{◌≡◌, ◌∙◌, ◌≤◌, ◌+◌, ◌*◌, ℕ, zero, suc, Bool, true, false, cond, not, ◌&&◌, ◌==◌, nat_le, nat_lt, List, [], ◌∷◌, ◌++◌, length, refl, sym, ap, subst, arith, length-append}
use Rattle.std.proofs.lemmas.List.{length-set}
use Rattle.std.specs.List.{filter}
use Rattle.std.specs.declared.cmp.Ordering.TheVariants.{Less, Equal, Greater}
use Rattle.std.specs.FinMap.Entries.{by_order}
use Rattle.agg_laws.specs.declared.aggregate_kind.AggKind.{AggKind}
use Rattle.agg_laws.specs.declared.states.AggState.{AggState}
use Rattle.agg_laws.specs.declared.tree_shape.TreeShape.{TreeShape}
use Rattle.agg_laws.specs.Numbers.{most_stored}
use Rattle.agg_laws.specs.Rows.{kinds_of, merged_rows, row_weight, RowStored}
use Rattle.agg_laws.specs.laws.Rows as rows
use Rattle.agg_laws.specs.Merged.{add, rekey, weights}
use Rattle.agg_laws.specs.Tree.{star, dims_order, dim, set_star, merged_docs, Nodes, none, node}
use Rattle.agg_laws.specs.Tree.{has_star, skips, docs_with, child_nodes_of, ids_at, star_child, under}
use Rattle.agg_laws.specs.Tree.{root_of, tree_of}
use Rattle.state_columns.specs.Docs.{Doc, HaveShape, AreStored}
use Rattle.state_columns.specs.Documents.{aggregated, documents_of, star_docs, star_from, visit_of}
use Rattle.state_columns.specs.Documents.{visits_of}
use Rattle.star_tree.specs.Flat.{flat}
use Rattle.state_columns.proofs.DocLemmas.{stored-merged}
use Rattle.star_tree.proofs.FlatLemmas.{flat_docs}
use Rattle.state_columns.proofs.RegionSteps.{kinds_merged}
use Rattle.state_columns.proofs.WeightLemmas.{weights-Merged, weights-filter}
use Rattle.star_file.specs.Bytes.{doc_bytes, state_bytes, words}
use Rattle.star_file.specs.Reading.{doc_width}
use Rattle.star_file.proofs.DocLaws.{length_states}
use Rattle.star_file.proofs.DocSteps.{length_words}

-- ---- documents of a shape that can be stored

abbrev pub Fine : ℕ → List AggKind → List Doc → Type 0
Fine k ks docs = HaveShape k ks docs × AreStored docs

-- documents of a shape that can be stored, together for no more values than a segment has
pub record Good (k : ℕ) (ks : List AggKind) (docs : List Doc) : Type 0 where
  pub shape : HaveShape k ks docs
  pub stored : AreStored docs
  pub weight_fits : weights row_weight docs ≤ most_stored

good_none : (k : ℕ) (ks : List AggKind) → Good k ks []
good_none k ks = record { shape = tt; stored = tt; weight_fits = omega arith }

fine_append : (k : ℕ) (ks : List AggKind) (xs ys : List Doc) → Fine k ks xs → Fine k ks ys → Fine k ks (xs ++ ys)
fine_append k ks [] ys x y = y
fine_append k ks (e ∷ xs) ys x y =
    let more = fine_append k ks xs ys (x.0.2, x.1.1) y in
    ((x.0.0, x.0.1, more.0), (x.1.0, more.1))

shape_add : (k : ℕ) (ks : List AggKind) (x : List ℕ) (s : List AggState) (es : List Doc) → length x ≡ k → kinds_of s ≡ ks → HaveShape k ks es → HaveShape k ks (add dims_order merged_rows x s es)
shape_add k ks x s [] lx kx h = (lx, kx, tt)
shape_add k ks x s (e ∷ es) lx kx h =
    let more = shape_add k ks x s es lx kx h.2 in
    let both = kinds_merged s e.1 (kx ∙ sym h.1) ∙ kx in
    elim (dims_order x e.0) as (λ r. HaveShape k ks (by_order r ((x, s) ∷ e ∷ es) ((e.0, merged_rows s e.1) ∷ es) (e ∷ add dims_order merged_rows x s es))) [
      | Less ↦ (lx, kx, h)
      | Equal ↦ (h.0, both, h.2)
      | Greater ↦ (h.0, h.1, more)
    ]

shape_merged : (k : ℕ) (ks : List AggKind) (docs : List Doc) → HaveShape k ks docs → HaveShape k ks (merged_docs merged_rows docs)
shape_merged k ks [] h = tt
shape_merged k ks (e ∷ es) h = shape_add k ks e.0 e.1 (merged_docs merged_rows es) h.0 h.1 (shape_merged k ks es h.2)

good_merged : (k : ℕ) (ks : List AggKind) (docs : List Doc) → Good k ks docs → Good k ks (merged_docs merged_rows docs)
good_merged k ks docs g =
    let weight_fits = weights-Merged row_weight dims_order merged_rows rows.row_weight_both docs in
    record { shape = shape_merged k ks docs g.shape; stored = stored-merged docs g.stored g.weight_fits; weight_fits = omega (arith, weight_fits, g.weight_fits) }

shape_rekey : (k : ℕ) (ks : List AggKind) (f : List ℕ → List ℕ) (docs : List Doc) → ((xs : List ℕ) → length (f xs) ≡ length xs) → HaveShape k ks docs → HaveShape k ks (rekey f docs)
shape_rekey k ks f [] same h = tt
shape_rekey k ks f (e ∷ es) same h = (same e.0 ∙ h.0, h.1, shape_rekey k ks f es same h.2)

stored_rekey : (f : List ℕ → List ℕ) (docs : List Doc) → AreStored docs → AreStored (rekey f docs)
stored_rekey f [] h = tt
stored_rekey f (e ∷ es) h = (h.0, stored_rekey f es h.1)

weights_rekey : (f : List ℕ → List ℕ) (docs : List Doc) → weights row_weight (rekey f docs) ≡ weights row_weight docs
weights_rekey f [] = refl
weights_rekey f (e ∷ es) = ap (λ n. row_weight e.1 + n) (weights_rekey f es)

good_rekey : (k : ℕ) (ks : List AggKind) (f : List ℕ → List ℕ) (docs : List Doc) → ((xs : List ℕ) → length (f xs) ≡ length xs) → Good k ks docs → Good k ks (rekey f docs)
good_rekey k ks f docs same g = record { shape = shape_rekey k ks f docs same g.shape; stored = stored_rekey f docs g.stored; weight_fits = omega (arith, weights_rekey f docs, g.weight_fits) }

shape_filter : (k : ℕ) (ks : List AggKind) (p : Doc → Bool) (docs : List Doc) → HaveShape k ks docs → HaveShape k ks (filter p docs)
shape_filter k ks p [] h = tt
shape_filter k ks p (e ∷ es) h =
    let more = shape_filter k ks p es h.2 in
    elim (p e) as (λ b. HaveShape k ks (cond b (e ∷ filter p es) (filter p es))) [ true ↦ (h.0, h.1, more) | false ↦ more ]

stored_filter : (p : Doc → Bool) (docs : List Doc) → AreStored docs → AreStored (filter p docs)
stored_filter p [] h = tt
stored_filter p (e ∷ es) h =
    let more = stored_filter p es h.1 in
    elim (p e) as (λ b. AreStored (cond b (e ∷ filter p es) (filter p es))) [ true ↦ (h.0, more) | false ↦ more ]

good_with : (k : ℕ) (ks : List AggKind) (d v : ℕ) (docs : List Doc) → Good k ks docs → Good k ks (docs_with d v docs)
good_with k ks d v docs g =
    let p : Doc → Bool = λ e. dim d e.0 == v in
    let weight_fits = weights-filter row_weight p docs in
    record { shape = shape_filter k ks p docs g.shape; stored = stored_filter p docs g.stored; weight_fits = omega (arith, weight_fits, g.weight_fits) }

-- ---- nodes with such documents

abbrev pub AreGood : ℕ → List AggKind → Nodes (List AggState) → Type 0
AreGood k ks none = Unit {0}
AreGood k ks (node id docs subtrees rest) = Good k ks docs × AreGood k ks subtrees × AreGood k ks rest

module _ (k : ℕ) (ks : List AggKind) where
  children_good : (below : List Doc → Nodes (List AggState)) → ((docs : List Doc) → Good k ks docs → AreGood k ks (below docs)) → (d : ℕ) (docs : List Doc) (last : Nodes (List AggState)) → Good k ks docs → AreGood k ks last → (vs : List ℕ)
      → AreGood k ks (child_nodes_of below d docs last vs)
  children_good below each d docs last g l [] = l
  children_good below each d docs last g l (v ∷ vs) =
      let own = good_with k ks d v docs g in
      (own, each (docs_with d v docs) own, children_good below each d docs last g l vs)

  starred_good : (d : ℕ) (docs : List Doc) → Good k ks docs → Good k ks (merged_docs merged_rows (rekey (set_star d) docs))
  starred_good d docs g = good_merged k ks (rekey (set_star d) docs) (good_rekey k ks (set_star d) docs (λ xs. length-set xs d star) g)

  star_good : (below : List Doc → Nodes (List AggState)) → ((docs : List Doc) → Good k ks docs → AreGood k ks (below docs)) → (shape : TreeShape) (d : ℕ) (docs : List Doc) → Good k ks docs → AreGood k ks (star_child merged_rows below shape d docs)
  star_good below each shape d docs g =
      let own = starred_good d docs g in
      let starred : List Doc = merged_docs merged_rows (rekey (set_star d) docs) in
      elim (not (skips shape d) && nat_lt 1 (length (ids_at merged_rows d docs))) as (λ b. AreGood k ks (cond b (node star starred (below starred) none) none)) [ true ↦ (own, each starred own, tt) | false ↦ tt ]

  under_good : (shape : TreeShape) (more d : ℕ) (docs : List Doc) → Good k ks docs → AreGood k ks (under merged_rows shape more d docs)
  under_good shape zero d docs g = tt
  under_good shape (suc more) d docs g =
      let below : List Doc → Nodes (List AggState) = under merged_rows shape more (suc d) in
      let each : (ds : List Doc) → Good k ks ds → AreGood k ks (below ds) = λ ds. under_good shape more (suc d) ds in
      let all : Nodes (List AggState) = child_nodes_of below d docs (star_child merged_rows below shape d docs) (ids_at merged_rows d docs) in
      let split : AreGood k ks all = children_good below each d docs (star_child merged_rows below shape d docs) g (star_good below each shape d docs g) (ids_at merged_rows d docs) in
      elim (nat_le (length docs) shape.leaf) as (λ b. AreGood k ks (cond b none all)) [ true ↦ tt | false ↦ split ]

  root_good : (shape : TreeShape) (n : ℕ) (docs : List Doc) → Good k ks docs → AreGood k ks (root_of merged_rows shape n docs)
  root_good shape n [] g = tt
  root_good shape n (e ∷ es) g = (g, under_good shape n 0 (e ∷ es) g, tt)

  -- ---- what their visits append

  level_length : (d : ℕ) (xs : List ℕ) → length (star_from d xs) ≡ length xs
  level_length d [] = refl
  level_length zero (x ∷ xs) = ap suc (level_length zero xs)
  level_length (suc d) (x ∷ xs) = ap suc (level_length d xs)

  fine : (docs : List Doc) → Good k ks docs → Fine k ks docs
  fine docs g = (g.shape, g.stored)

  total_fine : (d : ℕ) (docs : List Doc) → Good k ks docs → Fine k ks (aggregated merged_rows d docs)
  total_fine d docs g = fine (aggregated merged_rows d docs) (good_merged k ks (rekey (star_from d) docs) (good_rekey k ks (star_from d) docs (level_length d) g))

  none_fine : Fine k ks []
  none_fine = (tt, tt)

  star_fine : (subtrees : Nodes (List AggState)) → AreGood k ks subtrees → Fine k ks (star_docs subtrees)
  star_fine none g = none_fine
  star_fine (node id docs subtrees rest) g =
      let own = fine docs g.0 in
      let more = star_fine rest g.2 in
      elim (id == star) as (λ b. Fine k ks (cond b docs (star_docs rest))) [ true ↦ own | false ↦ more ]

  visit_fine : (d : ℕ) (docs : List Doc) (subtrees : Nodes (List AggState)) (below : List Doc) → Good k ks docs → AreGood k ks subtrees → Fine k ks below → Fine k ks (visit_of merged_rows d docs subtrees below)
  visit_fine d docs none below g h b =
      let total = total_fine d docs g in
      elim (length docs == 1) as (λ b. Fine k ks (cond b [] (aggregated merged_rows d docs))) [ true ↦ none_fine | false ↦ total ]
  visit_fine d docs (node id own subtrees rest) below g h b =
      let all : Nodes (List AggState) = node id own subtrees rest in
      let total = total_fine d docs g in
      let last : Fine k ks (cond (has_star all) [] (aggregated merged_rows d docs)) = elim (has_star all) as (λ b. Fine k ks (cond b [] (aggregated merged_rows d docs))) [ true ↦ none_fine | false ↦ total ] in
      fine_append k ks (star_docs all) (below ++ cond (has_star all) [] (aggregated merged_rows d docs)) (star_fine all h) (fine_append k ks below (cond (has_star all) [] (aggregated merged_rows d docs)) b last)

  visits_fine : (d : ℕ) (ns : Nodes (List AggState)) → AreGood k ks ns → Fine k ks (visits_of merged_rows d ns)
  visits_fine d none g = none_fine
  visits_fine d (node id docs subtrees rest) g =
      fine_append k ks (visit_of merged_rows d docs subtrees (visits_of merged_rows (suc d) subtrees)) (visits_of merged_rows d rest) (visit_fine d docs subtrees (visits_of merged_rows (suc d) subtrees) g.0 g.1 (visits_fine (suc d) subtrees g.1)) (visits_fine d rest g.2)

  documents_fine : (tree : Nodes (List AggState)) → AreGood k ks tree → Fine k ks (documents_of merged_rows tree)
  documents_fine none g = none_fine
  documents_fine (node id docs subtrees rest) g =
      fine_append k ks docs (visit_of merged_rows 0 docs subtrees (visits_of merged_rows 1 subtrees)) (fine docs g.0) (visit_fine 0 docs subtrees (visits_of merged_rows 1 subtrees) g.0 g.1 (visits_fine 1 subtrees g.1))

-- the documents of a tree, written flat
pub tree_fine : (shape : TreeShape) (k : ℕ) (ks : List AggKind) (docs : List Doc) → Good k ks docs → Fine k ks (flat merged_rows (tree_of merged_rows shape k docs)).1
tree_fine shape k ks docs g =
    let merged : List Doc = merged_docs merged_rows docs in
    let tree : Nodes (List AggState) = root_of merged_rows shape k merged in
    let P : List Doc → Type 0 = Fine k ks in
    subst P (sym (flat_docs merged_rows tree)) (documents_fine k ks tree (root_good k ks shape k merged (good_merged k ks docs g)))

-- ---- how many bytes they take

length_doc : (shape : TreeShape) (e : Doc) → length e.0 ≡ shape.dims → kinds_of e.1 ≡ shape.kinds → RowStored e.1 → length (words e.0 ++ state_bytes e.1) ≡ doc_width shape
length_doc shape e dims kinds stored = omega (arith, length-append (words e.0) (state_bytes e.1), length_words e.0, length_states e.1 shape.kinds kinds stored, dims)

pub docs_long : (shape : TreeShape) (docs : List Doc) → Fine shape.dims shape.kinds docs → length (doc_bytes docs) ≡ length docs * doc_width shape
docs_long shape [] f = let z : 0 ≡ 0 * doc_width shape = omega arith in z
docs_long shape (e ∷ es) f =
    let one = length_doc shape e f.0.0 f.0.1 f.1.0 in
    let more = docs_long shape es (f.0.2, f.1.1) in
    let p : suc (length es) * doc_width shape ≡ doc_width shape + length es * doc_width shape = omega arith in
    omega (arith, one, more, p, length-append (words e.0 ++ state_bytes e.1) (doc_bytes es))
