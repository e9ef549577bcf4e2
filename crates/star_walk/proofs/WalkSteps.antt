-- The steps of a walk.
use Rattle.std.proofs.Common.{◌≡◌, ℕ, zero, suc, ◌+◌, ◌-◌, ◌<◌, ◌≤◌, Bool, true, false, cond, not}
use Rattle.std.proofs.Common.{◌&&◌, ◌||◌, ◌==◌, List, [], ◌∷◌, ◌++◌, length, take, drop, refl}
use Rattle.std.proofs.Common.{sym, ap, ◌∙◌, arith, append_assoc, length-drop}
use Rattle.std.proofs.Common.{inl, inr}
use Rattle.std.proofs.Math.Seq.{take-suc}
use Rattle.std.proofs.lemmas.Bool.{cases_lt}
use Rattle.std.proofs.lemmas.List.{get_or-drop}
use Rattle.state_columns.proofs.ListLemmas.{append_none}
use Rattle.star_tree.specs.declared.node.Node.{Node}
use Rattle.star_tree.specs.Flat.{blank, node_at}
use Rattle.state_columns.specs.Region.{range}
use Rattle.star_tree.specs.Picks.{Task, are_unconstrained, is_selected}
use Rattle.star_walk.specs.declared.pick.Pick.{Pick}
use Rattle.star_walk.specs.Walking.{whole_pick, leaf_pick, child_nodes_of, has_star_among, taken}
use Rattle.star_walk.specs.Walking.{node_picks}

more_left : (k d : ℕ) → d < k → k - d ≡ suc (k - (d + 1))
more_left k d h = omega arith

next : (d : ℕ) → d + 1 ≡ suc d
next d = omega arith

-- no dimension is left
pub quiet_none : (t : Task) (k : ℕ) → are_unconstrained t (k - k) k ≡ true
quiet_none t k = let z : k - k ≡ 0 = omega arith in ap (λ m. are_unconstrained t m k) z

pass_quiet : (f g q : Bool) → (f || g) ≡ false → (not f && not g && q) ≡ q
pass_quiet true g q h = cc
pass_quiet false true q h = cc
pass_quiet false false q h = refl

-- a dimension that is neither tested nor grouped is passed over
pub quiet_step : (t : Task) (k d : ℕ) → d < k → (t.filtered d || t.grouped d) ≡ false
    → are_unconstrained t (k - d) d ≡ are_unconstrained t (k - (d + 1)) (d + 1)
quiet_step t k d h none =
    ap (λ m. are_unconstrained t m d) (more_left k d h)
    ∙ pass_quiet (t.filtered d) (t.grouped d) (are_unconstrained t (k - (d + 1)) (suc d)) none
    ∙ ap (are_unconstrained t (k - (d + 1))) (sym (next d))

no_quiet : (f g q : Bool) → (f || g) ≡ true → (not f && not g && q) ≡ false
no_quiet true g q h = refl
no_quiet false true q h = refl
no_quiet false false q h = cc

-- one that is tested or grouped ends that
pub quiet_ends : (t : Task) (k d : ℕ) → d < k → (t.filtered d || t.grouped d) ≡ true
    → are_unconstrained t (k - d) d ≡ false
quiet_ends t k d h some =
    ap (λ m. are_unconstrained t m d) (more_left k d h)
    ∙ no_quiet (t.filtered d) (t.grouped d) (are_unconstrained t (k - (d + 1)) (suc d)) some

-- where something is left, the level is below the last
pub level_left : (t : Task) (k d : ℕ) → are_unconstrained t (k - d) d ≡ false → d < k
level_left t k d h =
    elim (cases_lt d k) [
      | inl lt ↦ lt
      | inr ge ↦ absurd (none_left t k d ge h)
    ]
  where
    none_left : (t : Task) (k d : ℕ) → k ≤ d → are_unconstrained t (k - d) d ≡ false → ⊥
    none_left t k d ge h =
        let z : k - d ≡ 0 = omega arith in
        let yes : are_unconstrained t (k - d) d ≡ true = ap (λ m. are_unconstrained t m d) z in cc

-- the picks at a node where no dimension is tested or grouped any more
pub picks_quiet : (t : Task) (k : ℕ) (ns : List Node) (m d : ℕ) (n : Node) → are_unconstrained t m d ≡ true
    → node_picks t k ns m d n ≡ whole_pick k n ∷ []
picks_quiet t k ns zero d n h = refl
picks_quiet t k ns (suc m) d n h =
    ap (λ b. cond b (whole_pick k n ∷ []) (cond (n.children == 0) (leaf_pick d n ∷ [])
    (taken (node_picks t k ns m (suc d)) t (has_star_among (child_nodes_of ns n)) d (child_nodes_of ns n)))) h

-- the picks at a leaf
pub leaf_at : (t : Task) (k : ℕ) (ns : List Node) (m d : ℕ) (n : Node)
    → are_unconstrained t (suc m) d ≡ false → (n.children == 0) ≡ true
    → node_picks t k ns (suc m) d n ≡ leaf_pick d n ∷ []
leaf_at t k ns m d n h leaf =
    ap (λ b. cond b (whole_pick k n ∷ []) (cond (n.children == 0) (leaf_pick d n ∷ [])
    (taken (node_picks t k ns m (suc d)) t (has_star_among (child_nodes_of ns n)) d (child_nodes_of ns n)))) h
    ∙ ap (λ b. cond b (leaf_pick d n ∷ [])
    (taken (node_picks t k ns m (suc d)) t (has_star_among (child_nodes_of ns n)) d (child_nodes_of ns n))) leaf

pub picks_leaf : (t : Task) (k : ℕ) (ns : List Node) (d : ℕ) (n : Node)
    → are_unconstrained t (k - d) d ≡ false → (n.children == 0) ≡ true
    → node_picks t k ns (k - d) d n ≡ leaf_pick d n ∷ []
picks_leaf t k ns d n h leaf =
    let e = more_left k d (level_left t k d h) in
    ap (λ m. node_picks t k ns m d n) e
    ∙ leaf_at t k ns (k - (d + 1)) d n (sym (ap (λ m. are_unconstrained t m d) e) ∙ h) leaf

-- the picks at a split node
pub split_at : (t : Task) (k : ℕ) (ns : List Node) (m d : ℕ) (n : Node)
    → are_unconstrained t (suc m) d ≡ false → (n.children == 0) ≡ false
    → node_picks t k ns (suc m) d n
    ≡ taken (node_picks t k ns m (suc d)) t (has_star_among (child_nodes_of ns n)) d (child_nodes_of ns n)
split_at t k ns m d n h split =
    ap (λ b. cond b (whole_pick k n ∷ []) (cond (n.children == 0) (leaf_pick d n ∷ [])
    (taken (node_picks t k ns m (suc d)) t (has_star_among (child_nodes_of ns n)) d (child_nodes_of ns n)))) h
    ∙ ap (λ b. cond b (leaf_pick d n ∷ [])
    (taken (node_picks t k ns m (suc d)) t (has_star_among (child_nodes_of ns n)) d (child_nodes_of ns n))) split

pub picks_split : (t : Task) (k : ℕ) (ns : List Node) (d : ℕ) (n : Node)
    → are_unconstrained t (k - d) d ≡ false → (n.children == 0) ≡ false
    → node_picks t k ns (k - d) d n
    ≡ taken (node_picks t k ns (k - (d + 1)) (d + 1)) t (has_star_among (child_nodes_of ns n)) d
    (child_nodes_of ns n)
picks_split t k ns d n h split =
    let e = more_left k d (level_left t k d h) in
    ap (λ m. node_picks t k ns m d n) e
    ∙ split_at t k ns (k - (d + 1)) d n (sym (ap (λ m. are_unconstrained t m d) e) ∙ h) split
    ∙ ap (λ j. taken (node_picks t k ns (k - (d + 1)) j) t (has_star_among (child_nodes_of ns n)) d
    (child_nodes_of ns n)) (sym (next d))

-- one node more
pub range_more : (from to : ℕ) (ns : List Node) → from ≤ to → to < length ns
    → range from (to + 1) ns ≡ range from to ns ++ node_at ns to ∷ []
range_more from to ns le lt =
    let n : to + 1 - from ≡ suc (to - from) = omega arith in
    let l = length-drop from ns in
    let at : from + (to - from) ≡ to = omega arith in
    ap (λ m. take m (drop from ns)) n
    ∙ take-suc (drop from ns) (to - from) (blank 0 0 0 0) (omega (arith, l))
    ∙ ap (λ x. range from to ns ++ x ∷ [])
    (get_or-drop from ns (to - from) (blank 0 0 0 0) ∙ ap (node_at ns) at)

pub range_none : (from : ℕ) (ns : List Node) → range from from ns ≡ []
range_none from ns = let z : from - from ≡ 0 = omega arith in ap (λ m. take m (drop from ns)) z

taken_append : (below : Node → List Pick) (t : Task) (s : Bool) (d : ℕ) (xs : List Node) (n : Node)
    → taken below t s d (xs ++ n ∷ [])
    ≡ taken below t s d xs ++ cond (is_selected t s d n.id) (below n) []
taken_append below t s d [] n = append_none (cond (is_selected t s d n.id) (below n) [])
taken_append below t s d (x ∷ xs) n =
    ap (λ ps. cond (is_selected t s d x.id) (below x) [] ++ ps) (taken_append below t s d xs n)
    ∙ sym (append_assoc (cond (is_selected t s d x.id) (below x) []) (taken below t s d xs)
    (cond (is_selected t s d n.id) (below n) []))

-- the picks of the children up to one more
module _ (below : Node → List Pick) (t : Task) (s : Bool) (d from to : ℕ) (ns : List Node)
    (le : from ≤ to) (lt : to < length ns) where
  step : taken below t s d (range from (to + 1) ns)
      ≡ taken below t s d (range from to ns)
      ++ cond (is_selected t s d (node_at ns to).id) (below (node_at ns to)) []
  step = ap (taken below t s d) (range_more from to ns le lt)
      ∙ taken_append below t s d (range from to ns) (node_at ns to)

  pub child_passed : is_selected t s d (node_at ns to).id ≡ false
      → taken below t s d (range from (to + 1) ns) ≡ taken below t s d (range from to ns)
  child_passed passed =
      step
      ∙ ap (λ b. taken below t s d (range from to ns) ++ cond b (below (node_at ns to)) []) passed
      ∙ append_none (taken below t s d (range from to ns))

  pub child_taken : is_selected t s d (node_at ns to).id ≡ true
      → taken below t s d (range from (to + 1) ns)
      ≡ taken below t s d (range from to ns) ++ below (node_at ns to)
  child_taken took =
      step
      ∙ ap (λ b. taken below t s d (range from to ns) ++ cond b (below (node_at ns to)) []) took
