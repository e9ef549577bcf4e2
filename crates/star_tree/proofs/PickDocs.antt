-- The documents of each pick of a tree.
use Rattle.std.proofs.Common.{◌≡◌, ℕ, zero, suc, ◌+◌, ◌-◌, ◌<◌, Bool, true, false, cond, ◌&&◌, ◌==◌}
use Rattle.std.proofs.Common.{not, nat_lt, nat_le, List, [], ◌∷◌, ◌++◌, length, inl, inr, refl, sym}
use Rattle.std.proofs.Common.{ap, subst, ◌∙◌, arith}
use Rattle.agg_laws.specs.declared.tree_shape.TreeShape.{TreeShape}
use Rattle.agg_laws.specs.Merged.{IsJoin, rekey}
use Rattle.agg_laws.specs.Tree.{star, set_star, merged_docs, Nodes, none, node, has_star, skips}
use Rattle.agg_laws.specs.Tree.{ids_at, docs_with, child_nodes_of, star_child, under, root_of, tree_of}
use Rattle.agg_laws.specs.Tree.{starred, rows_at, HaveNoStar, CoversRows}
use Rattle.state_columns.specs.Docs.{HaveIds}
use Rattle.state_columns.specs.Documents.{total_doc}
use Rattle.star_tree.specs.Picks.{Task, Pick, are_unconstrained, is_selected, picks_here, picks_of, picks, IsTotal}
use Rattle.star_tree.specs.Picks.{HaveDocs}
use Rattle.star_tree.proofs.TreeLemmas.{Avoids, Avoids-ids, own_docs, star_docs, length_more}
use Rattle.star_tree.proofs.TreeLemmas.{covers_rows, all_rows}
use Rattle.star_tree.proofs.NodeLemmas.{total_is}

module _ {S : Type 0} (join : S → S → S) (j : IsJoin join) (t : Task) (k : ℕ) (shape : TreeShape)
    (rows : List (List ℕ × S)) (ids : HaveIds k rows) (no_star : HaveNoStar k rows) where
  docs-append : (ps qs : List (Pick S)) → HaveDocs join k rows ps → HaveDocs join k rows qs
      → HaveDocs join k rows (ps ++ qs)
  docs-append [] qs p q = q
  docs-append (p ∷ ps) qs h q = (h.0, docs-append ps qs h.1 q)

  here_docs : (d : ℕ) (path : List ℕ) (docs : List (List ℕ × S)) (subtrees : Nodes S)
      (below : List (Pick S)) → d ≡ length path → CoversRows join rows path docs
      → IsTotal join rows path (total_doc join d docs subtrees)
      → HaveDocs join k rows below
      → HaveDocs join k rows (picks_here join t k d path docs subtrees below)
  here_docs d path docs none below at covers whole h =
      elim (are_unconstrained t (k - d) d) as
      (λ b. HaveDocs join k rows
      (cond b (record { path = path; level = k; docs = total_doc join d docs none } ∷ [])
      (record { path = path; level = d; docs = docs } ∷ [])))
      [ true ↦ (inr (refl, whole), tt) | false ↦ (inl (at, covers), tt) ]
  here_docs d path docs (node id own subtrees rest) below at covers whole h =
      elim (are_unconstrained t (k - d) d) as
      (λ b. HaveDocs join k rows
      (cond b (record {
        path = path;
        level = k;
        docs =
            total_doc join d docs (node id own subtrees rest);
      } ∷ []) below))
      [ true ↦ (inr (refl, whole), tt) | false ↦ h ]

  taken_docs : (b : Bool) (ps qs : List (Pick S)) → HaveDocs join k rows ps
      → HaveDocs join k rows qs → HaveDocs join k rows (cond b ps [] ++ qs)
  taken_docs true ps qs p q = docs-append ps qs p q
  taken_docs false ps qs p q = q

  children_docs : (b : Bool) (d : ℕ) (path : List ℕ) (docs : List (List ℕ × S))
      (below : List (List ℕ × S) → Nodes S) (last : Nodes S)
      → ((v : ℕ) → (v == star) ≡ false
      → HaveDocs join k rows
      (picks_here join t k (suc d) (path ++ (v ∷ [])) (docs_with d v docs)
      (below (docs_with d v docs))
      (picks_of join t k (has_star (below (docs_with d v docs))) (suc d) (path ++ (v ∷ []))
      (below (docs_with d v docs)))))
      → HaveDocs join k rows (picks_of join t k b d path last) → (vs : List ℕ) → Avoids vs
      → HaveDocs join k rows (picks_of join t k b d path (child_nodes_of below d docs last vs))
  children_docs b d path docs below last each end [] av = end
  children_docs b d path docs below last each end (v ∷ vs) av =
      taken_docs (is_selected t b d v) _ _ (each v av.0)
      (children_docs b d path docs below last each end vs av.1)

  last_docs : (s b : Bool) (d : ℕ) (path : List ℕ) (sd : List (List ℕ × S)) (subtrees : Nodes S)
      → HaveDocs join k rows
      (picks_here join t k (suc d) (path ++ (star ∷ [])) sd subtrees
      (picks_of join t k (has_star subtrees) (suc d) (path ++ (star ∷ [])) subtrees))
      → HaveDocs join k rows (picks_of join t k b d path (cond s (node star sd subtrees none) none))
  last_docs true b d path sd subtrees h = taken_docs (is_selected t b d star) _ [] h tt
  last_docs false b d path sd subtrees h = tt

  node_docs : (more d : ℕ) (path : List ℕ) (docs : List (List ℕ × S)) → d ≡ length path → d + more
      ≡ k → docs ≡ merged_docs join (rekey (starred path) (rows_at path rows))
      → HaveDocs join k rows
      (picks_here join t k d path docs (under join shape more d docs)
      (picks_of join t k (has_star (under join shape more d docs)) d path
      (under join shape more d docs)))
  node_docs zero d path docs at sum is =
      here_docs d path docs none [] at (covers_rows join j path rows docs is)
      (total_is join j k shape rows ids no_star zero d path docs at sum is) tt
  node_docs (suc more) d path docs at sum is =
      let below = under join shape more (suc d) in
      let sd = merged_docs join (rekey (set_star d) docs) in
      let s = not (skips shape d) && nat_lt 1 (length (ids_at join d docs)) in
      let last = star_child join below shape d docs in
      let vs = ids_at join d docs in
      let subtrees = child_nodes_of below d docs last vs in
      let lt : length path < k = omega (arith, at, sum) in
      let av : Avoids vs = subst (λ n. Avoids (ids_at join n docs)) (sym at)
      (Avoids-ids join j path rows docs is k lt no_star) in
      let next : (v : ℕ) → suc d ≡ length (path ++ (v ∷ [])) = λ v. ap suc at
      ∙ sym (length_more path v) in
      let sum' : suc d + more ≡ k = omega arith in
      let each = λ (v : ℕ) (o : (v == star) ≡ false). node_docs more (suc d) (path ++ (v ∷ []))
      (docs_with d v docs) (next v) sum'
      (ap (λ n. docs_with n v docs) at ∙ own_docs join j path rows docs is v o) in
      let star_here = node_docs more (suc d) (path ++ (star ∷ [])) sd (next star) sum'
      (ap (λ n. merged_docs join (rekey (set_star n) docs)) at
      ∙ star_docs join j path rows docs is) in
      let all = children_docs (has_star subtrees) d path docs below last each
      (last_docs s (has_star subtrees) d path sd (below sd) star_here) vs av in
      let whole = total_is join j k shape rows ids no_star (suc more) d path docs at sum is in
      elim (nat_le (length docs) shape.leaf) as
      (λ b. IsTotal join rows path (total_doc join d docs (cond b none subtrees))
      → HaveDocs join k rows
      (picks_here join t k d path docs (cond b none subtrees)
      (picks_of join t k (has_star (cond b none subtrees)) d path (cond b none subtrees)))) [
        | true ↦ λ w. here_docs d path docs none [] at (covers_rows join j path rows docs is) w tt
        | false ↦ λ w. here_docs d path docs subtrees (picks_of join t k (has_star subtrees) d path subtrees) at
            (covers_rows join j path rows docs is) w all
      ] whole

  root_docs : (docs : List (List ℕ × S)) → docs ≡ merged_docs join rows
      → HaveDocs join k rows (picks join t k (root_of join shape k docs))
  root_docs [] is = tt
  root_docs (e ∷ es) is =
      node_docs k 0 [] (e ∷ es) refl (omega arith)
      (is ∙ ap (merged_docs join) (sym (all_rows join j rows)))

  -- the documents of each pick are those of the rows of its path
  pub tree_docs : HaveDocs join k rows (picks join t k (tree_of join shape k rows))
  tree_docs = root_docs (merged_docs join rows) refl
