-- The picks of a flat tree are those of the nested one.
use Rattle.std.proofs.Common.{◌≡◌, ℕ, zero, suc, ◌+◌, ◌-◌, ◌≤◌, Bool, true, false, cond, ◌==◌}
use Rattle.std.proofs.Common.{List, [], ◌∷◌, ◌++◌, length, map, take, drop, refl, sym, ap, ◌∙◌}
use Rattle.std.proofs.Common.{arith, drop-cons}
use Rattle.std.proofs.lemmas.Bool.{ne_eqb, eq-eqb}
use Rattle.std.proofs.lemmas.List.{map-append}
use Rattle.agg_laws.specs.declared.states.AggState.{AggState}
use Rattle.star_tree.specs.declared.node.Node.{Node}
use Rattle.agg_laws.specs.Rows.{merged_rows}
use Rattle.state_columns.specs.Docs.{Doc}
use Rattle.state_columns.specs.Documents.{total_doc}
use Rattle.agg_laws.specs.Tree.{star, Nodes, none, node, has_star}
use Rattle.star_tree.specs.Flat.{Flat, blank, node_at, count, ChildrenHaveDocs, IsNode, FlatAt}
use Rattle.state_columns.specs.Region.{range}
use Rattle.star_tree.specs.Picks.{Task, are_unconstrained, is_selected, picks_here, picks_of, picks}
use Rattle.star_tree.specs.Picks as nested
use Rattle.star_walk.specs.declared.pick.Pick.{Pick}
use Rattle.star_walk.specs.Walking.{whole_pick, has_star_among, taken}
use Rattle.star_walk.specs.Walking.{node_picks, tree_picks}
use Rattle.star_walk.specs.Images.{bare, shown}
use Rattle.star_walk.proofs.WalkSteps.{picks_quiet, leaf_at, split_at}

abbrev States : Type 0
States = List AggState

-- the first of some nodes beside each other
pub range_front : (at n : ℕ) (ns : List Node) → at + suc n ≤ length ns
    → range at (at + suc n) ns ≡ node_at ns at ∷ range (suc at) (suc at + n) ns
range_front at n ns h =
    let a : at + suc n - at ≡ suc n = omega arith in
    let b : suc at + n - suc at ≡ n = omega arith in
    ap (λ m. take m (drop at ns)) a
    ∙ ap (take (suc n)) (drop-cons ns at (blank 0 0 0 0) (omega arith))
    ∙ ap (λ m. node_at ns at ∷ take m (drop (suc at) ns)) (sym b)

pub range_no : (at : ℕ) (ns : List Node) → range at (at + 0) ns ≡ []
range_no at ns = let z : at + 0 - at ≡ 0 = omega arith in ap (λ m. take m (drop at ns)) z

-- a star child is among the flat nodes just where it is among the nested ones
star_same : (f : Flat States) (subtrees : Nodes States) (d at : ℕ) → ChildrenHaveDocs d at subtrees f
    → at + count subtrees ≤ length f.0
    → has_star_among (range at (at + count subtrees) f.0) ≡ has_star subtrees
star_same f none d at h le = ap has_star_among (range_no at f.0)
star_same f (node id docs subtrees rest) d at h le =
    ap has_star_among (range_front at (count rest) f.0 le)
    ∙ (λ i. cond (h.0.id_is i == star) true (star_same f rest d (suc at) h.1 (omega arith) i))

-- a pick of a nested tree, and a level with documents
abbrev nested_pick : List ℕ → ℕ → List Doc → nested.Pick States
nested_pick p l ds = record { path = p; level = l; docs = ds }

abbrev pair : ℕ → List Doc → ℕ × List Doc
pair l ds = (l, ds)

-- what is picked at a nested node
here_quiet : (t : Task) (k d : ℕ) (path : List ℕ) (docs : List Doc) (subtrees : Nodes States)
    (below : List (nested.Pick States)) → are_unconstrained t (k - d) d ≡ true
    → map bare (picks_here merged_rows t k d path docs subtrees below)
    ≡ pair k (total_doc merged_rows d docs subtrees) ∷ []
here_quiet t k d path docs none below h =
    ap (λ b. map bare (cond b (nested_pick path k (total_doc merged_rows d docs none) ∷ [])
    (nested_pick path d docs ∷ []))) h
here_quiet t k d path docs (node id own subtrees rest) below h =
    ap (λ b. map bare (cond b
    (nested_pick path k (total_doc merged_rows d docs (node id own subtrees rest)) ∷ []) below)) h

here_leaf : (t : Task) (k d : ℕ) (path : List ℕ) (docs : List Doc)
    (below : List (nested.Pick States)) → are_unconstrained t (k - d) d ≡ false
    → map bare (picks_here merged_rows t k d path docs none below) ≡ pair d docs ∷ []
here_leaf t k d path docs below h =
    ap (λ b. map bare (cond b (nested_pick path k (total_doc merged_rows d docs none) ∷ [])
    (nested_pick path d docs ∷ []))) h

here_split : (t : Task) (k d : ℕ) (path : List ℕ) (docs : List Doc) (id : ℕ) (own : List Doc)
    (subtrees rest : Nodes States) (below : List (nested.Pick States)) → are_unconstrained t (k - d) d ≡ false
    → map bare (picks_here merged_rows t k d path docs (node id own subtrees rest) below)
    ≡ map bare below
here_split t k d path docs id own subtrees rest below h =
    ap (λ b. map bare (cond b
    (nested_pick path k (total_doc merged_rows d docs (node id own subtrees rest)) ∷ []) below)) h

whole_shown : (k d at id : ℕ) (docs : List Doc) (subtrees : Nodes States) (f : Flat States)
    → IsNode merged_rows d at id docs subtrees f
    → map (shown f.1) (whole_pick k (node_at f.0 at) ∷ [])
    ≡ pair k (total_doc merged_rows d docs subtrees) ∷ []
whole_shown k d at id docs subtrees f is =
    let e : (node_at f.0 at).total + 1 ≡ suc (node_at f.0 at).total = omega arith in
    ap (λ ds. pair k ds ∷ [])
    (ap (λ m. range (node_at f.0 at).total m f.1) e ∙ is.total_is)

-- the picks at one node, where those of its children are known
module _ (t : Task) (k : ℕ) (f : Flat States) where
  abbrev ChildrenSame : ℕ → ℕ → ℕ → List ℕ → Nodes States → Type 0
  ChildrenSame m d first path subtrees =
      map (shown f.1)
      (taken (node_picks t k f.0 m (suc d)) t (has_star subtrees) d
      (range first (first + count subtrees) f.0))
      ≡ map bare (picks_of merged_rows t k (has_star subtrees) d path subtrees)

  abbrev Here : ℕ → ℕ → ℕ → List ℕ → List Doc → Nodes States → Type 0
  Here m d at path docs subtrees =
      map (shown f.1) (node_picks t k f.0 m d (node_at f.0 at))
      ≡ map bare (picks_here merged_rows t k d path docs subtrees
      (picks_of merged_rows t k (has_star subtrees) d path subtrees))

  quiet_here : (m d at : ℕ) (path : List ℕ) (id : ℕ) (docs : List Doc) (subtrees : Nodes States)
      → k - d ≡ m → IsNode merged_rows d at id docs subtrees f → are_unconstrained t m d ≡ true
      → Here m d at path docs subtrees
  quiet_here m d at path id docs subtrees e is h =
      ap (map (shown f.1)) (picks_quiet t k f.0 m d (node_at f.0 at) h)
      ∙ whole_shown k d at id docs subtrees f is
      ∙ sym (here_quiet t k d path docs subtrees (picks_of merged_rows t k (has_star subtrees) d path subtrees)
      (ap (λ j. are_unconstrained t j d) e ∙ h))

  leaf_here : (m d at : ℕ) (path : List ℕ) (id : ℕ) (docs : List Doc)
      → k - d ≡ suc m → IsNode merged_rows d at id docs none f → are_unconstrained t (suc m) d ≡ false
      → Here (suc m) d at path docs none
  leaf_here m d at path id docs e is h =
      ap (map (shown f.1)) (leaf_at t k f.0 m d (node_at f.0 at) h (eq-eqb (node_at f.0 at).children 0 is.children_are))
      ∙ ap (λ ds. pair d ds ∷ []) is.docs_are.docs_are
      ∙ sym (here_leaf t k d path docs [] (ap (λ j. are_unconstrained t j d) e ∙ h))

  split_here : (m d at : ℕ) (path : List ℕ) (id : ℕ) (docs : List Doc) (id2 : ℕ) (own : List Doc)
      (subtrees rest : Nodes States) → k - d ≡ suc m
      → IsNode merged_rows d at id docs (node id2 own subtrees rest) f → are_unconstrained t (suc m) d ≡ false
      → ChildrenSame m d (node_at f.0 at).first path (node id2 own subtrees rest)
      → Here (suc m) d at path docs (node id2 own subtrees rest)
  split_here m d at path id docs id2 own subtrees rest e is h below =
      let all : Nodes States = node id2 own subtrees rest in
      let n = node_at f.0 at in
      let some : (n.children == 0) ≡ false =
      ne_eqb n.children 0 (λ z. let c = is.children_are in omega (arith, z, c)) in
      ap (map (shown f.1)) (split_at t k f.0 m d n h some)
      ∙ ap (λ j. map (shown f.1) (taken (node_picks t k f.0 m (suc d)) t
      (has_star_among (range n.first (n.first + j) f.0)) d (range n.first (n.first + j) f.0)))
      is.children_are
      ∙ ap (λ b. map (shown f.1) (taken (node_picks t k f.0 m (suc d)) t b d
      (range n.first (n.first + count all) f.0)))
      (star_same f all (suc d) n.first is.children_docs is.children_in)
      ∙ below
      ∙ sym (here_split t k d path docs id2 own subtrees rest
      (picks_of merged_rows t k (has_star all) d path all) (ap (λ j. are_unconstrained t j d) e ∙ h))

  node_same : (m d at : ℕ) (path : List ℕ) (id : ℕ) (docs : List Doc) (subtrees : Nodes States)
      → k - d ≡ m → IsNode merged_rows d at id docs subtrees f
      → ((j : ℕ) → k - suc d ≡ j → ChildrenSame j d (node_at f.0 at).first path subtrees)
      → Here m d at path docs subtrees
  node_same zero d at path id docs subtrees e is below = quiet_here zero d at path id docs subtrees e is refl
  node_same (suc m) d at path id docs subtrees e is below =
      by_quiet (are_unconstrained t (suc m) d) refl subtrees is below
    where
      by_quiet : (b : Bool) → are_unconstrained t (suc m) d ≡ b → (subtrees : Nodes States)
          → IsNode merged_rows d at id docs subtrees f
          → ((j : ℕ) → k - suc d ≡ j → ChildrenSame j d (node_at f.0 at).first path subtrees)
          → Here (suc m) d at path docs subtrees
      by_quiet true h subtrees is below = quiet_here (suc m) d at path id docs subtrees e is h
      by_quiet false h none is below = leaf_here m d at path id docs e is h
      by_quiet false h (node id2 own subtrees rest) is below =
          split_here m d at path id docs id2 own subtrees rest e is h (below m (omega arith))

  -- the picks of nodes beside each other
  pub children_same : (subtrees : Nodes States) (m d at : ℕ) (s : Bool) (path : List ℕ)
      → k - suc d ≡ m → FlatAt merged_rows (suc d) at subtrees f → at + count subtrees ≤ length f.0
      → map (shown f.1) (taken (node_picks t k f.0 m (suc d)) t s d
      (range at (at + count subtrees) f.0))
      ≡ map bare (picks_of merged_rows t k s d path subtrees)
  children_same none m d at s path e h le =
      ap (λ ns. map (shown f.1) (taken (node_picks t k f.0 m (suc d)) t s d ns)) (range_no at f.0)
  children_same (node id docs subtrees rest) m d at s path e h le =
      let n = node_at f.0 at in
      let below = node_picks t k f.0 m (suc d) in
      let p : List ℕ = path ++ (id ∷ []) in
      let first : Here m (suc d) at p docs subtrees =
      node_same m (suc d) at p id docs subtrees e h.0
      (λ j g. children_same subtrees j (suc d) n.first (has_star subtrees) p g h.1 h.0.children_in) in
      ap (λ ns. map (shown f.1) (taken below t s d ns)) (range_front at (count rest) f.0 le)
      ∙ map-append (shown f.1) (cond (is_selected t s d n.id) (below n) [])
      (taken below t s d (range (suc at) (suc at + count rest) f.0))
      ∙ (λ i. map (shown f.1) (cond (is_selected t s d (h.0.docs_are.id_is i)) (below n) [])
      ++ children_same rest m d (suc at) s path e h.2 (omega arith) i)
      ∙ ap (λ ps. ps ++ map bare (picks_of merged_rows t k s d path rest))
      (by_taken (is_selected t s d id) (below n) (picks_here merged_rows t k (suc d) p docs subtrees
      (picks_of merged_rows t k (has_star subtrees) (suc d) p subtrees)) first)
      ∙ sym (map-append bare (cond (is_selected t s d id) (picks_here merged_rows t k (suc d) p docs
      subtrees (picks_of merged_rows t k (has_star subtrees) (suc d) p subtrees)) [])
      (picks_of merged_rows t k s d path rest))
    where
      by_taken : (b : Bool) (xs : List Pick) (ys : List (nested.Pick States))
          → map (shown f.1) xs ≡ map bare ys
          → map (shown f.1) (cond b xs []) ≡ map bare (cond b ys [])
      by_taken true xs ys h = h
      by_taken false xs ys h = refl

-- the picks of a whole tree
root_same : (t : Task) (k : ℕ) (ns : List Node) (ds : List Doc) (id : ℕ) (docs : List Doc)
    (subtrees rest : Nodes States) → FlatAt merged_rows 0 0 (node id docs subtrees rest) (ns, ds)
    → map (shown ds) (tree_picks t k ns) ≡ map bare (picks merged_rows t k (node id docs subtrees rest))
root_same t k [] ds id docs subtrees rest h = absurd (let w = h.0.docs_are.within in omega (arith, w))
root_same t k (n ∷ ns) ds id docs subtrees rest h =
    let f : Flat States = (n ∷ ns, ds) in
    node_same t k f k 0 0 [] id docs subtrees (omega arith) h.0
    (λ j g. children_same t k f subtrees j 0 n.first (has_star subtrees) [] g h.1 h.0.children_in)

pub tree_same : (t : Task) (k : ℕ) (tree : Nodes States) (f : Flat States)
    → (tree ≡ none → f.0 ≡ []) → FlatAt merged_rows 0 0 tree f
    → map (shown f.1) (tree_picks t k f.0) ≡ map bare (picks merged_rows t k tree)
tree_same t k none f empty h = ap (λ ns. map (shown f.1) (tree_picks t k ns)) (empty refl)
tree_same t k (node id docs subtrees rest) f empty h = root_same t k f.0 f.1 id docs subtrees rest h
