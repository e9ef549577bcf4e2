-- Picks are ranges of the documents, and what is read of them depends on these ranges alone.
use Rattle.std.proofs.Common.{◌≡◌, ℕ, zero, suc, ◌+◌, ◌-◌, ◌<◌, ◌≤◌, Bool, true, false, cond, ◌==◌}
use Rattle.std.proofs.Common.{List, [], ◌∷◌, ◌++◌, length, map, drop, refl, sym, ap, ◌∙◌, subst}
use Rattle.std.proofs.Common.{arith, length-drop}
use Rattle.std.specs.List.{filter}
use Rattle.std.proofs.lemmas.List.{length-take-le}
use Rattle.agg_laws.specs.declared.states.AggState.{AggState}
use Rattle.star_tree.specs.declared.node.Node.{Node}
use Rattle.state_columns.specs.Docs.{Doc}
use Rattle.state_columns.specs.Region.{range}
use Rattle.star_tree.specs.Flat.{node_at}
use Rattle.star_tree.specs.Picks.{Task, are_unconstrained, is_selected, holds_from}
use Rattle.star_tree.specs.Picks as nested
use Rattle.star_tree.specs.Groups as nested_groups
use Rattle.star_walk.specs.declared.pick.Pick.{Pick}
use Rattle.star_walk.specs.Walking.{whole_pick, leaf_pick, child_nodes_of, has_star_among, taken}
use Rattle.star_walk.specs.Walking.{node_picks, tree_picks}
use Rattle.star_walk.specs.Images.{bare, shown, read_of, passing, AreWithin}
use Rattle.star_walk.proofs.ImageSteps.{range_front, range_no}

-- what the picks at a node need of it
pub record InDocs (documents : ℕ) (ns : List Node) (n : Node) : Type 0 where
  pub order : n.start < n.end
  pub inside : n.end ≤ documents
  pub total_in : n.total < documents
  pub children_in : n.first + n.children ≤ length ns

module _ (t : Task) (k documents : ℕ) where
  both : (ps qs : List Pick) → AreWithin documents k ps → AreWithin documents k qs
      → AreWithin documents k (ps ++ qs)
  both [] qs h g = g
  both (p ∷ ps) qs h g = (h.0, h.1, h.2, both ps qs h.3 g)

  either : (b : Bool) (ps qs : List Pick) → AreWithin documents k ps → AreWithin documents k qs
      → AreWithin documents k (cond b ps qs)
  either true ps qs h g = h
  either false ps qs h g = g

  module _ (ns : List Node) where
    taken_in : (below : Node → List Pick) (s : Bool) (d n from : ℕ) → from + n ≤ length ns
        → ((at : ℕ) → at < length ns → AreWithin documents k (below (node_at ns at)))
        → AreWithin documents k (taken below t s d (range from (from + n) ns))
    taken_in below s d zero from le h =
        subst (λ xs. AreWithin documents k (taken below t s d xs)) (sym (range_no from ns)) tt
    taken_in below s d (suc n) from le h =
        subst (λ xs. AreWithin documents k (taken below t s d xs))
        (sym (range_front from n ns le))
        (both (cond (is_selected t s d (node_at ns from).id) (below (node_at ns from)) [])
        (taken below t s d (range (suc from) (suc from + n) ns))
        (either (is_selected t s d (node_at ns from).id) (below (node_at ns from)) []
        (h from (omega arith)) tt)
        (taken_in below s d n (suc from) (omega arith) h))

    module _ (each : (at : ℕ) → at < length ns → InDocs documents ns (node_at ns at)) where
      node_in : (m d at : ℕ) → d + m ≡ k → at < length ns
          → AreWithin documents k (node_picks t k ns m d (node_at ns at))
      node_in zero d at e lt = let i = each at lt in (omega arith, omega arith, omega arith, tt)
      node_in (suc m) d at e lt =
          let n = node_at ns at in
          let i = each at lt in
          let whole : AreWithin documents k (whole_pick k n ∷ []) =
          (omega arith, omega arith, omega arith, tt) in
          let leaf : AreWithin documents k (leaf_pick d n ∷ []) =
          (i.order, i.inside, omega arith, tt) in
          let subtrees : AreWithin documents k (taken (node_picks t k ns m (suc d)) t
          (has_star_among (child_nodes_of ns n)) d (child_nodes_of ns n)) =
          taken_in (node_picks t k ns m (suc d)) (has_star_among (child_nodes_of ns n)) d n.children
          n.first i.children_in (λ j g. node_in m (suc d) j (omega arith) g) in
          either (are_unconstrained t (suc m) d) (whole_pick k n ∷ [])
          (cond (n.children == 0) (leaf_pick d n ∷ [])
          (taken (node_picks t k ns m (suc d)) t (has_star_among (child_nodes_of ns n)) d (child_nodes_of ns n)))
          whole
          (either (n.children == 0) (leaf_pick d n ∷ [])
          (taken (node_picks t k ns m (suc d)) t (has_star_among (child_nodes_of ns n)) d (child_nodes_of ns n))
          leaf subtrees)

  pub tree_in : (ns : List Node)
      → ((at : ℕ) → at < length ns → InDocs documents ns (node_at ns at))
      → AreWithin documents k (tree_picks t k ns)
  tree_in [] each = tt
  tree_in (n ∷ ns) each = node_in (n ∷ ns) each k 0 0 (omega arith) (omega arith)

-- how many documents there are, and which pass
abbrev lengths : List (ℕ × List Doc) → ℕ
lengths [] = 0
lengths (x ∷ xs) = length x.1 + lengths xs

abbrev those : Task → ℕ → List (ℕ × List Doc) → List Doc
those t k [] = []
those t k (x ∷ xs) = filter (λ e. holds_from t (k - x.0) x.0 e.0) x.1 ++ those t k xs

pub length_range : (from to : ℕ) (docs : List Doc) → to ≤ length docs
    → length (range from to docs) ≡ to - from
length_range from to docs h =
    length-take-le (to - from) (drop from docs) (omega (arith, length-drop from docs))

shown_lengths : (docs : List Doc) (k : ℕ) (ps : List Pick) → AreWithin (length docs) k ps
    → lengths (map (shown docs) ps) ≡ read_of ps
shown_lengths docs k [] h = refl
shown_lengths docs k (p ∷ ps) h =
    λ i. length_range p.start p.end docs h.1 i + shown_lengths docs k ps h.3 i

bare_lengths : (ps : List (nested.Pick (List AggState)))
    → lengths (map bare ps) ≡ nested.read_of ps
bare_lengths [] = refl
bare_lengths (p ∷ ps) = ap (λ n. length p.docs + n) (bare_lengths ps)

pub read_same : (docs : List Doc) (k : ℕ) (ps : List Pick)
    (qs : List (nested.Pick (List AggState))) → AreWithin (length docs) k ps
    → map (shown docs) ps ≡ map bare qs → read_of ps ≡ nested.read_of qs
read_same docs k ps qs h same =
    sym (shown_lengths docs k ps h) ∙ ap lengths same ∙ bare_lengths qs

shown_those : (t : Task) (k : ℕ) (docs : List Doc) (ps : List Pick)
    → those t k (map (shown docs) ps) ≡ passing t k docs ps
shown_those t k docs [] = refl
shown_those t k docs (p ∷ ps) =
    ap (λ (ds : List Doc). filter (λ e. holds_from t (k - p.level) p.level e.0)
    (range p.start p.end docs) ++ ds) (shown_those t k docs ps)

bare_those : (t : Task) (k : ℕ) (ps : List (nested.Pick (List AggState)))
    → those t k (map bare ps) ≡ nested_groups.passing t k ps
bare_those t k [] = refl
bare_those t k (p ∷ ps) =
    ap (λ (ds : List Doc). filter (λ e. holds_from t (k - p.level) p.level e.0) p.docs ++ ds)
    (bare_those t k ps)

pub passing_same : (t : Task) (k : ℕ) (docs : List Doc) (ps : List Pick)
    (qs : List (nested.Pick (List AggState))) → map (shown docs) ps ≡ map bare qs
    → passing t k docs ps ≡ nested_groups.passing t k qs
passing_same t k docs ps qs same =
    sym (shown_those t k docs ps) ∙ ap (those t k) same ∙ bare_those t k qs
