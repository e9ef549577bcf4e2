-- Tasks that ask the same of the ids that there are pick the same nodes of a tree.
use Rattle.std.proofs.Common.{◌≡◌, ◌∙◌, ◌<◌, ◌≤◌, ◌+◌, ◌==◌, ◌&&◌, ◌++◌, ◌⊎◌, ℕ, zero, suc, Bool}
use Rattle.std.proofs.Common.{true, false}
use Rattle.std.proofs.Common.{cond, not, inl, inr, List, [], ◌∷◌, length, refl, sym, ap, subst}
use Rattle.std.proofs.Common.{arith}
use Rattle.std.proofs.lemmas.Bool.{eq-eqb, false≢true}
use Rattle.star_tree.specs.declared.node.Node.{Node}
use Rattle.agg_laws.specs.declared.tree_shape.TreeShape.{TreeShape}
use Rattle.star_tree.specs.Flat.{node_at}
use Rattle.state_columns.specs.Region.{range}
use Rattle.star_tree.specs.NodeRules.{AreKnown, HaveLevel, IsRoot, KeepsRules, count_at}
use Rattle.star_tree.specs.Picks.{Task, is_selected, are_unconstrained}
use Rattle.agg_laws.specs.Tree.{star}
use Rattle.star_walk.specs.declared.pick.Pick.{Pick}
use Rattle.star_walk.specs.Walking.{has_star_among, child_nodes_of, leaf_pick, node_picks, taken}
use Rattle.star_walk.specs.Walking.{tree_picks, whole_pick}
use Rattle.star_walk.proofs.ImageSteps.{range_front, range_no}

-- two tasks ask the same of the first k dimensions, and of ids below their counts
pub record AskSame (t u : Task) (k : ℕ) (counts : List ℕ) : Type 0 where
  pub filtered : (d : ℕ) → d < k → t.filtered d ≡ u.filtered d
  pub grouped : (d : ℕ) → d < k → t.grouped d ≡ u.grouped d
  pub passes : (d id : ℕ) → d < k → id < count_at counts d → t.filtered d ≡ true
      → t.passes d id ≡ u.passes d id

-- what is chosen by tests that agree, where the first one is looked at only where it passes
chosen : (f g p q x y : Bool) → f ≡ g → (f ≡ true → p ≡ q) → x ≡ y → cond f p x ≡ cond g q y
chosen true true p q x y e first other = first refl
chosen true false p q x y e first other = absurd (false≢true (sym e))
chosen false true p q x y e first other = absurd (false≢true e)
chosen false false p q x y e first other = other

other_same : (b : Bool) (ps qs rs : List Pick) → (b ≡ false → qs ≡ rs) → cond b ps qs ≡ cond b ps rs
other_same true ps qs rs h = refl
other_same false ps qs rs h = h refl

-- a number that is not 0
pub some_there : (n : ℕ) → (n == 0) ≡ false → 0 < n
some_there zero e = absurd (false≢true (sym e))
some_there (suc n) e = omega arith

module _ (t u : Task) (k : ℕ) (counts : List ℕ) (same : AskSame t u k counts) where
  quiet_same : (m d : ℕ) → d + m ≡ k → are_unconstrained t m d ≡ are_unconstrained u m d
  quiet_same zero d e = refl
  quiet_same (suc m) d e =
      let lt : d < k = omega (arith, e) in
      let rest = quiet_same m (suc d) (omega (arith, e)) in
      λ i. not (same.filtered d lt i) && not (same.grouped d lt i) && rest i

  passing_same : (d id : ℕ) → d < k → (id ≡ star) ⊎ (id < count_at counts d) → t.filtered d ≡ true
      → (not (id == star) && t.passes d id) ≡ (not (id == star) && u.passes d id)
  passing_same d id lt (inl is) on =
      let e : (id == star) ≡ true = eq-eqb id star is in
      ap (λ b. not b && t.passes d id) e ∙ sym (ap (λ b. not b && u.passes d id) e)
  passing_same d id lt (inr below) on =
      ap (λ b. not (id == star) && b) (same.passes d id lt below on)

  taken_same : (s : Bool) (d id : ℕ) → d < k → (id ≡ star) ⊎ (id < count_at counts d)
      → is_selected t s d id ≡ is_selected u s d id
  taken_same s d id lt known =
      chosen (t.filtered d) (u.filtered d) (not (id == star) && t.passes d id)
      (not (id == star) && u.passes d id)
      (cond (t.grouped d) (not (id == star)) (cond s (id == star) true))
      (cond (u.grouped d) (not (id == star)) (cond s (id == star) true))
      (same.filtered d lt) (passing_same d id lt known)
      (ap (λ b. cond b (not (id == star)) (cond s (id == star) true)) (same.grouped d lt))

  module _ (ns : List Node) where
    -- of children beside each other the same are taken
    children_same : (a b : Node → List Pick) (s : Bool) (d n from : ℕ) → d < k
        → from + n ≤ length ns → HaveLevel (suc d) (range from (from + n) ns)
        → AreKnown (count_at counts d) (range from (from + n) ns)
        → ((at : ℕ) → at < length ns → (node_at ns at).level ≡ suc d
        → a (node_at ns at) ≡ b (node_at ns at))
        → taken a t s d (range from (from + n) ns) ≡ taken b u s d (range from (from + n) ns)
    children_same a b s d zero from lt le levels known each =
        ap (taken a t s d) (range_no from ns) ∙ sym (ap (taken b u s d) (range_no from ns))
    children_same a b s d (suc n) from lt le levels known each =
        let front = range_front from n ns le in
        let own = subst (HaveLevel (suc d)) front levels in
        let ids = subst (AreKnown (count_at counts d)) front known in
        let first = taken_same s d (node_at ns from).id lt ids.0 in
        let here = each from (omega (arith, le)) own.0 in
        let rest = children_same a b s d n (suc from) lt (omega (arith, le)) own.1 ids.1 each in
        ap (taken a t s d) front
        ∙ (λ i. cond (first i) (here i) [] ++ rest i)
        ∙ sym (ap (taken b u s d) front)

    module _ (shape : TreeShape) (documents : ℕ)
        (rules : (at : ℕ) → at < length ns → KeepsRules shape k counts documents ns at) where
      -- at a node the same is picked
      node_same : (m d at : ℕ) → d + m ≡ k → at < length ns → (node_at ns at).level ≡ d
          → node_picks t k ns m d (node_at ns at) ≡ node_picks u k ns m d (node_at ns at)
      node_same zero d at e lt level = refl
      node_same (suc m) d at e lt level =
          let n = node_at ns at in
          let mine : List Pick = taken (node_picks t k ns m (suc d)) t
          (has_star_among (child_nodes_of ns n)) d (child_nodes_of ns n) in
          let other : List Pick = taken (node_picks u k ns m (suc d)) u
          (has_star_among (child_nodes_of ns n)) d (child_nodes_of ns n) in
          let r = rules at lt in
          ap (λ b. cond b (whole_pick k n ∷ []) (cond (n.children == 0) (leaf_pick d n ∷ []) mine))
          (quiet_same (suc m) d e)
          ∙ ap (cond (are_unconstrained u (suc m) d) (whole_pick k n ∷ []))
          (other_same (n.children == 0) (leaf_pick d n ∷ []) mine other
          (λ is.
          let some = some_there n.children is in
          children_same (node_picks t k ns m (suc d)) (node_picks u k ns m (suc d))
          (has_star_among (child_nodes_of ns n)) d n.children n.first (omega (arith, e))
          (r.split_last some)
          (subst (λ l. HaveLevel (suc l) (child_nodes_of ns n)) level (r.split_children some).levels)
          (subst (λ l. AreKnown (count_at counts l) (child_nodes_of ns n)) level
          (r.split_children some).ids_known)
          (λ i within is. node_same m (suc d) i (omega (arith, e)) within is)))

-- of a tree whose nodes keep the rules the same is picked
pub picks_same : (t u : Task) (k : ℕ) (counts : List ℕ) → AskSame t u k counts → (ns : List Node)
    (shape : TreeShape) (documents : ℕ)
    → ((at : ℕ) → at < length ns → KeepsRules shape k counts documents ns at)
    → (0 < length ns → IsRoot (node_at ns 0)) → tree_picks t k ns ≡ tree_picks u k ns
picks_same t u k counts same [] shape documents rules root = refl
picks_same t u k counts same (n ∷ ns) shape documents rules root =
    node_same t u k counts same (n ∷ ns) shape documents rules k 0 0 (omega arith) (omega arith)
    (root (omega arith)).level
