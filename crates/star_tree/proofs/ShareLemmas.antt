-- The children of a split node share its rows.
use Rattle.std.proofs.Common.{◌≡◌, ℕ, zero, suc, ◌+◌, ◌<◌, Bool, true, false, cond, ◌&&◌, ◌==◌, not}
use Rattle.std.proofs.Common.{nat_lt, nat_le, List, [], ◌∷◌, ◌++◌, length, refl, sym, ap, subst}
use Rattle.std.proofs.Common.{◌∙◌, arith, append_assoc}
use Rattle.agg_laws.specs.declared.tree_shape.TreeShape.{TreeShape}
use Rattle.agg_laws.specs.Merged.{IsJoin, rekey}
use Rattle.agg_laws.specs.Tree.{star, dim, set_star, merged_docs, Nodes, none, node, skips, ids_at}
use Rattle.agg_laws.specs.Tree.{docs_with, child_nodes_of, star_child, under, root_of, tree_of, agrees}
use Rattle.agg_laws.specs.Tree.{starred, rows_at, HaveNoStar}
use Rattle.star_tree.specs.Picks.{Task}
use Rattle.star_tree.specs.Shares.{ordinary_with, AreShared, ChildrenShare, Share, ShareTree}
use Rattle.star_tree.proofs.TreeLemmas.{Avoids, Avoids-ids, own_docs, star_docs, length_more}
use Rattle.star_tree.proofs.TreeLemmas.{agrees_more, agrees_star, dim-starred, all_rows}
use Rattle.star_tree.proofs.PickLemmas.{occurs, id_once, turn}

pub star_rows : {S : Type 0} (path : List ℕ) (rows : List (List ℕ × S))
    → rows_at (path ++ (star ∷ [])) rows ≡ rows_at path rows
star_rows path [] = refl
star_rows path (e ∷ es) =
    λ i. cond (agrees_star path e.0 i) (e ∷ star_rows path es i) (star_rows path es i)

no_task : Task
no_task = record { filtered = λ _. false; passes = λ _ _. true; grouped = λ _. false }

one_child : (a b : Bool) (n c m : ℕ) → c ≡ cond a n 0 + m → cond (a && b) 1 0 + c
    ≡ cond a (cond b 1 0 + n) 0 + m
one_child true true n c m h = omega (arith, h)
one_child true false n c m h = omega (arith, h)
one_child false b n c m h = omega (arith, h)

by_agrees : (b : Bool) (n m : ℕ) → (b ≡ true → n ≡ 1) → m ≡ 0 → cond b n 0 + m ≡ cond b 1 0
by_agrees true n m h z = let one = h refl in omega (arith, one, z)
by_agrees false n m h z = omega (arith, z)

module _ {S : Type 0} where
  -- of the children with some ids those with the row's id have it
  children_with : (d : ℕ) (path x : List ℕ) (docs : List (List ℕ × S))
      (below : List (List ℕ × S) → Nodes S) (last : Nodes S) → d ≡ length path → (vs : List ℕ)
      → Avoids vs
      → ordinary_with path x (child_nodes_of below d docs last vs)
      ≡ cond (agrees path x) (occurs (dim d x) vs) 0 + ordinary_with path x last
  unfolding occurs
  children_with d path x docs below last at [] av =
      elim (agrees path x) as
      (λ b. ordinary_with path x last ≡ cond b 0 0
      + ordinary_with path x last) [ true ↦ omega arith | false ↦ omega arith ]
  children_with d path x docs below last at (v ∷ vs) av =
      let rest = ordinary_with path x (child_nodes_of below d docs last vs) in
      let id : dim (length path) (starred path x) ≡ dim d x = dim-starred path x
      ∙ ap (λ n. dim n x) (sym at) in
      (λ i. cond (not (av.0 i) && agrees_more path v av.0 x i) 1 0 + rest)
      ∙ (λ i. cond (agrees path x && (id i == v)) 1 0 + rest)
      ∙ (λ i. cond (agrees path x && turn (dim d x) v i) 1 0 + rest)
      ∙ one_child (agrees path x) (v == dim d x) (occurs (dim d x) vs) rest
      (ordinary_with path x last) (children_with d path x docs below last at vs av.1)

  no_more : (s : Bool) (path x : List ℕ) (docs : List (List ℕ × S)) (subtrees : Nodes S)
      → ordinary_with path x (cond s (node star docs subtrees none) none) ≡ 0
  no_more true path x docs subtrees = refl
  no_more false path x docs subtrees = refl

  share_chosen : (rows : List (List ℕ × S)) (path : List ℕ) (b : Bool) (x y : Nodes S)
      → Share rows path x → Share rows path y → Share rows path (cond b x y)
  share_chosen rows path true x y p q = p
  share_chosen rows path false x y p q = q

  children_share : (rows : List (List ℕ × S)) (path : List ℕ) (subtrees : Nodes S)
      → AreShared path subtrees rows → ChildrenShare rows path subtrees
  children_share rows path none h = tt
  children_share rows path (node id docs subtrees rest) h = (h, star_rows path rows)

  module _ (join : S → S → S) (j : IsJoin join) (shape : TreeShape) (k : ℕ) where
    rows_shared : (more d : ℕ) (path : List ℕ) (docs before after : List (List ℕ × S)) → d
        ≡ length path → d < k → HaveNoStar k (before ++ after)
        → docs ≡ merged_docs join (rekey (starred path) (rows_at path (before ++ after)))
        → AreShared path (child_nodes_of (under join shape more (suc d)) d docs
        (star_child join (under join shape more (suc d)) shape d docs) (ids_at join d docs)) after
    rows_shared more d path docs before [] at lt no_star is = tt
    rows_shared more d path docs before (e ∷ es) at lt no_star is =
        let below = under join shape more (suc d) in
        let sd = merged_docs join (rekey (set_star d) docs) in
        let s = not (skips shape d) && nat_lt 1 (length (ids_at join d docs)) in
        let last = star_child join below shape d docs in
        let vs = ids_at join d docs in
        let all = before ++ (e ∷ es) in
        let same = append_assoc before (e ∷ []) es in
        let av : Avoids vs = subst (λ n. Avoids (ids_at join n docs)) (sym at)
        (Avoids-ids join j path all docs is k (omega (arith, at, lt)) no_star) in (
          children_with d path e.0 docs below last at vs av
              ∙ by_agrees (agrees path e.0) (occurs (dim d e.0) vs) (ordinary_with path e.0 last)
              (λ on. id_once join j no_task k shape before es e no_star d path docs at is on)
              (no_more s path e.0 sd (below sd)),
          rows_shared more d path docs (before ++ (e ∷ [])) es at lt
              (subst (HaveNoStar k) (sym same) no_star)
              (is ∙ ap (λ r. merged_docs join (rekey (starred path) (rows_at path r))) (sym same)),
        )

    node_children_share : (more d : ℕ) (path : List ℕ) (rows docs : List (List ℕ × S)) → d ≡ length path
        → d + more ≡ k → HaveNoStar k rows → docs
        ≡ merged_docs join (rekey (starred path) (rows_at path rows))
        → ChildrenShare rows path (under join shape more d docs)
    node_children_share zero d path rows docs at sum no_star is = tt
    node_children_share (suc more) d path rows docs at sum no_star is =
        let subtrees = child_nodes_of (under join shape more (suc d)) d docs
        (star_child join (under join shape more (suc d)) shape d docs) (ids_at join d docs) in
        elim (nat_le (length docs) shape.leaf) as (λ b. ChildrenShare rows path (cond b none subtrees)) [
          | true ↦ tt
          | false ↦ children_share rows path subtrees
              (rows_shared more d path docs [] rows at (omega (arith, sum)) no_star is)
        ]

    each_shares : (path : List ℕ) (rows docs : List (List ℕ × S))
        (below : List (List ℕ × S) → Nodes S) (last : Nodes S)
        → ((v : ℕ) → (v == star) ≡ false
        → ChildrenShare rows (path ++ (v ∷ [])) (below (docs_with (length path) v docs))
        × Share rows (path ++ (v ∷ [])) (below (docs_with (length path) v docs)))
        → Share rows path last → (vs : List ℕ) → Avoids vs
        → Share rows path (child_nodes_of below (length path) docs last vs)
    each_shares path rows docs below last each end [] av = end
    each_shares path rows docs below last each end (v ∷ vs) av = let own = each v av.0
        in (own.0, own.1, each_shares path rows docs below last each end vs av.1)

    under_share : (more d : ℕ) (path : List ℕ) (rows docs : List (List ℕ × S)) → d ≡ length path → d
        + more ≡ k → HaveNoStar k rows → docs
        ≡ merged_docs join (rekey (starred path) (rows_at path rows))
        → Share rows path (under join shape more d docs)
    under_share zero d path rows docs at sum no_star is = tt
    under_share (suc more) d path rows docs at sum no_star is =
        let below = under join shape more (suc d) in
        let sd = merged_docs join (rekey (set_star d) docs) in
        let next : (v : ℕ) → suc d ≡ length (path ++ (v ∷ [])) = λ v. ap suc at
        ∙ sym (length_more path v) in
        let sum' : suc d + more ≡ k = omega arith in
        let star_is : sd ≡ merged_docs join
        (rekey (starred (path ++ (star ∷ []))) (rows_at (path ++ (star ∷ [])) rows)) =
        ap (λ n. merged_docs join (rekey (set_star n) docs)) at
        ∙ star_docs join j path rows docs is in
        let last : Share rows path (star_child join below shape d docs) =
        share_chosen rows path _ (node star sd (below sd) none) none (
          node_children_share more (suc d) (path ++ (star ∷ [])) rows sd
              (next star) sum' no_star star_is,
          under_share more (suc d) (path ++ (star ∷ [])) rows sd
              (next star) sum' no_star star_is,
          tt,
        ) tt in
        share_chosen rows path (nat_le (length docs) shape.leaf) none
        (child_nodes_of below d docs (star_child join below shape d docs) (ids_at join d docs)) tt
        (subst (λ n. Share rows path
        (child_nodes_of below n docs (star_child join below shape d docs) (ids_at join n docs))) (sym at)
        (each_shares path rows docs below (star_child join below shape d docs)
        (λ v h. let own = own_docs join j path rows docs is v h in (
          node_children_share more (suc d) (path ++ (v ∷ [])) rows _ (next v) sum' no_star own,
          under_share more (suc d) (path ++ (v ∷ [])) rows _ (next v) sum' no_star own,
        ))
        last (ids_at join (length path) docs)
        (Avoids-ids join j path rows docs is k (omega (arith, at, sum)) no_star)))

    root_shares : (rows docs : List (List ℕ × S)) → HaveNoStar k rows → docs ≡ merged_docs join rows
        → ShareTree rows (root_of join shape k docs)
    root_shares rows [] no_star is = tt
    root_shares rows (e ∷ es) no_star is =
        let whole : e ∷ es ≡ merged_docs join (rekey (starred []) (rows_at [] rows)) = is
        ∙ ap (merged_docs join) (sym (all_rows join j rows)) in (
          node_children_share k 0 [] rows (e ∷ es) refl
              (omega arith) no_star whole,
          under_share k 0 [] rows (e ∷ es) refl
              (omega arith) no_star whole,
        )

    pub tree_shares : (rows : List (List ℕ × S)) → HaveNoStar k rows
        → ShareTree rows (tree_of join shape k rows)
    tree_shares rows no_star = root_shares rows (merged_docs join rows) no_star refl
