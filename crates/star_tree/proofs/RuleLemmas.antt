-- The nodes of the flat tree keep the rules.
use Rattle.std.proofs.Common.{◌≡◌, ℕ, zero, suc, ◌+◌, ◌-◌, ◌<◌, ◌≤◌, Bool, true, false, cond, ◌&&◌}
use Rattle.std.proofs.Common.{◌==◌, not, nat_lt, nat_le, List, [], ◌∷◌, map, length, take, drop}
use Rattle.std.proofs.Common.{inl, inr, ◌⊎◌, refl, sym, ap, subst, ◌∙◌, arith, length-append}
use Rattle.std.proofs.Common.{MatchBool}
use Rattle.std.specs.Ordering.{nat_cmp, is_lt}
use Rattle.std.specs.declared.cmp.Ordering.{Ordering}
use Rattle.std.specs.declared.cmp.Ordering.TheVariants.{Less, Equal, Greater}
use Rattle.std.specs.FinMap.Entries.{by_order}
use Rattle.std.proofs.lemmas.Bool.{eq-eqb}
use Rattle.std.proofs.lemmas.Bool.Decides.{nat_tests}
use Rattle.std.proofs.lemmas.Cmp.{nat_list_cmp_total, tied_itself}
use Rattle.std.proofs.Math.Seq.{take-length}
use Rattle.star_tree.specs.declared.node.Node.{Node}
use Rattle.agg_laws.specs.declared.tree_shape.TreeShape.{TreeShape}
use Rattle.agg_laws.specs.Merged.{IsJoin, rekey, add, Merged}
use Rattle.agg_laws.specs.Tree.{star, dims_order, dim, set_star, merged_docs, Nodes, none, node}
use Rattle.agg_laws.specs.Tree.{skips, ids_at, docs_with, child_nodes_of, star_child, under, tree_of, agrees}
use Rattle.agg_laws.specs.Tree.{starred, rows_at, HaveNoStar}
use Rattle.state_columns.specs.Docs.{HaveIds}
use Rattle.state_columns.specs.Region.{range}
use Rattle.star_tree.specs.Flat.{blank, unvisited, node_at, count, child_nodes, Flat, flat, IsNode}
use Rattle.star_tree.specs.NodeRules.{count_at, AreCounted, HaveLevel, AreAbove, Ascend, AreKnown}
use Rattle.star_tree.specs.NodeRules.{StarIsLast, Cover, KeepChildrenRules, KeepsRules}
use Rattle.star_tree.proofs.TreeLemmas.{Avoids, Avoids-ids}
use Rattle.star_tree.proofs.NodeLemmas.{docs_at, dim-after}
use Rattle.star_tree.proofs.ReadLemmas.{Above, Ascending, ids_ascend}
use Rattle.star_tree.proofs.Runs.{joined, joined_all}
use Rattle.star_tree.proofs.FlatNodes.{rising_docs, count_children}
use Rattle.state_columns.proofs.ListLemmas.{merged_fewer, length-rekey, range_length}
use Rattle.star_tree.proofs.FlatTrees.{sorted_at, nodes_of_tree}

-- rules look at level, id and range alone
map-take : {X Y : Type 0} (f : X → Y) (n : ℕ) (xs : List X) → map f (take n xs) ≡ take n (map f xs)
map-take f zero xs = refl
map-take f (suc n) [] = refl
map-take f (suc n) (x ∷ xs) = ap (λ t. f x ∷ t) (map-take f n xs)

map-drop : {X Y : Type 0} (f : X → Y) (n : ℕ) (xs : List X) → map f (drop n xs) ≡ drop n (map f xs)
map-drop f zero xs = refl
map-drop f (suc n) [] = refl
map-drop f (suc n) (x ∷ xs) = map-drop f n xs

map-range : {X Y : Type 0} (f : X → Y) (from to : ℕ) (xs : List X) → map f (range from to xs)
    ≡ range from to (map f xs)
map-range f from to xs = map-take f (to - from) (drop from xs)
    ∙ ap (take (to - from)) (map-drop f from xs)

levels_back : (d : ℕ) (ns : List Node) → HaveLevel d (map unvisited ns) → HaveLevel d ns
levels_back d [] h = tt
levels_back d (n ∷ ns) h = (h.0, levels_back d ns h.1)

above_back : (v : ℕ) (ns : List Node) → AreAbove v (map unvisited ns) → AreAbove v ns
above_back v [] h = tt
above_back v (n ∷ ns) h = (h.0, above_back v ns h.1)

ascend_back : (ns : List Node) → Ascend (map unvisited ns) → Ascend ns
ascend_back [] h = tt
ascend_back (n ∷ ns) h = (above_back n.id ns h.0, ascend_back ns h.1)

known_back : (c : ℕ) (ns : List Node) → AreKnown c (map unvisited ns) → AreKnown c ns
known_back c [] h = tt
known_back c (n ∷ ns) h = (h.0, known_back c ns h.1)

none_back : (ns : List Node) → map unvisited ns ≡ [] → ns ≡ []
none_back [] h = refl
none_back (n ∷ ns) h = cc

last_back : (s : Bool) (m b : ℕ) (ns : List Node) → StarIsLast s m b (map unvisited ns)
    → StarIsLast s m b ns
last_back s m b [] h = tt
last_back s m b (n ∷ ns) h =
    ((λ e. let x = h.0 e in (none_back ns x.0, x.1, x.2, x.3)), last_back s m (suc b) ns h.1)

cover_back : (from to : ℕ) (ns : List Node) → Cover from to (map unvisited ns) → Cover from to ns
cover_back from to [] h = h
cover_back from to (n ∷ ns) h =
    elim (n.id == star) as
    (λ b. MatchBool b (Cover from to (map unvisited ns))
    ((n.start ≡ from) × Cover n.end to (map unvisited ns))
    → MatchBool b (Cover from to ns) ((n.start ≡ from) × Cover n.end to ns)) [
      | true ↦ λ h. cover_back from to ns h
      | false ↦ λ h. (h.0, cover_back n.end to ns h.1)
    ] h

rules_back : (shape : TreeShape) (counts : List ℕ) (d from to : ℕ) (ns : List Node)
    → KeepChildrenRules shape counts d from to (map unvisited ns)
    → KeepChildrenRules shape counts d from to ns
rules_back shape counts d from to ns h = record {
  levels = levels_back (suc d) ns h.levels;
  ids_ascend = ascend_back ns h.ids_ascend;
  ids_known = known_back (count_at counts d) ns h.ids_known;
  star_last = last_back (skips shape d) (to - from) 0 ns h.star_last;
  ranges_cover = cover_back from to ns h.ranges_cover;
}

-- ids below a number
abbrev AllBelow : ℕ → List ℕ → Type 0
AllBelow c [] = Unit {0}
AllBelow c (v ∷ vs) = (v < c) × AllBelow c vs

abbrev KeysBelow : {S : Type 0} → ℕ → List (ℕ × S) → Type 0
KeysBelow c [] = Unit {0}
KeysBelow c (e ∷ es) = (e.0 < c) × KeysBelow c es

abbrev DimsBelow : {S : Type 0} → ℕ → ℕ → List (List ℕ × S) → Type 0
DimsBelow d c [] = Unit {0}
DimsBelow d c (e ∷ es) = (dim d e.0 < c) × DimsBelow d c es

module _ {S : Type 0} (join : S → S → S) where
  add_below : (c v : ℕ) (s : S) (es : List (ℕ × S)) → v < c → KeysBelow c es
      → KeysBelow c (add nat_cmp join v s es)
  add_below c v s [] lt h = (lt, tt)
  add_below c v s (e ∷ es) lt h =
      elim (nat_cmp v e.0) as
      (λ r. KeysBelow c (by_order r ((v, s) ∷ e ∷ es) ((e.0, join s e.1) ∷ es)
      (e ∷ add nat_cmp join v s es))) [
        | Less ↦ (lt, h)
        | Equal ↦ h
        | Greater ↦
            (h.0, add_below c v s es lt h.1)
      ]

  merged_below : (c d : ℕ) (es : List (List ℕ × S)) → DimsBelow d c es
      → KeysBelow c (Merged nat_cmp join (rekey (dim d) es))
  merged_below c d [] h = tt
  merged_below c d (e ∷ es) h =
      add_below c (dim d e.0) e.1 (Merged nat_cmp join (rekey (dim d) es)) h.0
      (merged_below c d es h.1)

  keys_below : (c : ℕ) (es : List (ℕ × S)) → KeysBelow c es → AllBelow c (map (λ e. e.0) es)
  keys_below c [] h = tt
  keys_below c (e ∷ es) h = (h.0, keys_below c es h.1)

  add_dims : (d c : ℕ) (x : List ℕ) (s : S) (es : List (List ℕ × S)) → dim d x < c
      → DimsBelow d c es → DimsBelow d c (add dims_order join x s es)
  add_dims d c x s [] lt h = (lt, tt)
  add_dims d c x s (e ∷ es) lt h =
      elim (dims_order x e.0) as
      (λ r. DimsBelow d c (by_order r ((x, s) ∷ e ∷ es) ((e.0, join s e.1) ∷ es)
      (e ∷ add dims_order join x s es))) [
        | Less ↦ (lt, h)
        | Equal ↦ h
        | Greater ↦
            (h.0, add_dims d c x s es lt h.1)
      ]

  merged_dims : (d c : ℕ) (es : List (List ℕ × S)) → DimsBelow d c es
      → DimsBelow d c (merged_docs join es)
  merged_dims d c [] h = tt
  merged_dims d c (e ∷ es) h =
      add_dims d c e.0 e.1 (merged_docs join es) h.0 (merged_dims d c es h.1)

  rows_dims : (k : ℕ) (counts path : List ℕ) (rows : List (List ℕ × S)) → length path < k
      → AreCounted k counts rows
      → DimsBelow (length path) (count_at counts (length path))
      (rekey (starred path) (rows_at path rows))
  rows_dims k counts path [] lt h = tt
  rows_dims k counts path (e ∷ es) lt h =
      let more = rows_dims k counts path es lt h.1 in
      let d = length path in
      elim (agrees path e.0) as
      (λ b. DimsBelow d (count_at counts d)
      (rekey (starred path) (cond b (e ∷ rows_at path es) (rows_at path es)))) [
        | true ↦ (
          subst (λ n. n < count_at counts d) (sym (dim-after path e.0 d (omega arith)))
              (h.0 d lt),
          more,
        )
        | false ↦ more
      ]

  -- the children of a node
  module _ (shape : TreeShape) (d : ℕ) (docs : List (List ℕ × S))
      (below : List (List ℕ × S) → Nodes S) (s : Bool) (sd : List (List ℕ × S)) where
    abbrev last : Nodes S
    last = cond s (node star sd (below sd) none) none

    child_levels : (e from to : ℕ) (subtrees : Nodes S) → HaveLevel e (child_nodes e from to subtrees)
    child_levels e from to none = tt
    child_levels e from to (node id own subtrees rest) = (
      elim (id == star) as
          (λ b. (cond b (blank e id to (to + length own))
          (blank e id from (from + length own))).level
          ≡ e) [ true ↦ refl | false ↦ refl ],
      child_levels e
          (cond (id == star) from (from + length own)) to rest,
    )

    -- an ordinary child is first
    ordinary : (v : ℕ) (vs : List ℕ) (e from to : ℕ) → (v == star) ≡ false
        → let own = docs_with d v docs in
        child_nodes e from to (child_nodes_of below d docs last (v ∷ vs))
        ≡ blank e v from (from + length own)
        ∷ child_nodes e (from + length own) to (child_nodes_of below d docs last vs)
    ordinary v vs e from to av =
        let own = docs_with d v docs in
        ap (λ b. cond b (blank e v to (to + length own)) (blank e v from (from + length own))
        ∷ child_nodes e (cond b from (from + length own)) to (child_nodes_of below d docs last vs)) av

    last_above : (e v from to : ℕ) → v < star → AreAbove v (child_nodes e from to last)
    last_above e v from to lt =
        elim s as (λ b. AreAbove v
        (child_nodes e from to (cond b (node star sd (below sd) none) none))) [
          | true ↦
              (lt, tt)
          | false ↦ tt
        ]

    children_above : (e v : ℕ) (vs : List ℕ) (from to : ℕ) → Avoids vs → v < star → Above v vs
        → AreAbove v (child_nodes e from to (child_nodes_of below d docs last vs))
    children_above e v [] from to av lt h = last_above e v from to lt
    children_above e v (w ∷ ws) from to av lt h =
        subst (AreAbove v) (sym (ordinary w ws e from to av.0))
        (h.0, children_above e v ws (from + length (docs_with d w docs)) to av.1 lt h.1)

    children_ascend : (e c : ℕ) (vs : List ℕ) (from to : ℕ) → Avoids vs → c ≤ star → AllBelow c vs
        → Ascending vs → Ascend (child_nodes e from to (child_nodes_of below d docs last vs))
    children_ascend e c [] from to av le b h =
        elim s as (λ b. Ascend
        (child_nodes e from to (cond b (node star sd (below sd) none) none))) [
          | true ↦
              (tt, tt)
          | false ↦ tt
        ]
    children_ascend e c (v ∷ vs) from to av le b h =
        let next = from + length (docs_with d v docs) in
        subst Ascend (sym (ordinary v vs e from to av.0)) (
          children_above e v vs next to av.1
              (omega (arith, b.0, le)) h.0,
          children_ascend e c vs next to av.1 le b.1 h.1,
        )

    children_known : (e c : ℕ) (vs : List ℕ) (from to : ℕ) → Avoids vs → AllBelow c vs
        → AreKnown c (child_nodes e from to (child_nodes_of below d docs last vs))
    children_known e c [] from to av b =
        elim s as (λ b. AreKnown c
        (child_nodes e from to (cond b (node star sd (below sd) none) none))) [
          | true ↦
              (inl refl, tt)
          | false ↦ tt
        ]
    children_known e c (v ∷ vs) from to av b =
        subst (AreKnown c) (sym (ordinary v vs e from to av.0))
        (inr b.0, children_known e c vs (from + length (docs_with d v docs)) to av.1 b.1)

    star_absurd : {P : Type 0} (v : ℕ) → (v == star) ≡ false → v ≡ star → P
    star_absurd v f e = absurd (clash (sym f ∙ eq-eqb v star e))
      where
        clash : false ≡ true → ⊥
        clash h = cc

    children_last : (e most : ℕ) (skipped : Bool) (vs : List ℕ) (before from to : ℕ) → Avoids vs
        → (s ≡ true → (skipped ≡ false) × (2 ≤ before + length vs) × (length sd ≤ most))
        → StarIsLast skipped most before (child_nodes e from to (child_nodes_of below d docs last vs))
    children_last e most skipped [] before from to av h =
        elim s as (λ b. (b ≡ true → (skipped ≡ false) × (2 ≤ before + 0) × (length sd ≤ most))
        → StarIsLast skipped most before
        (child_nodes e from to (cond b (node star sd (below sd) none) none))) [
          | true ↦ λ h. let x = h refl
              in ((λ _. (refl, x.0, omega (arith, x.1), omega (arith, x.2))), tt)
          | false ↦ λ h. tt
        ] h
    children_last e most skipped (v ∷ vs) before from to av h =
        subst (StarIsLast skipped most before) (sym (ordinary v vs e from to av.0)) (
          star_absurd v av.0,
          children_last e most skipped vs (suc before)
              (from + length (docs_with d v docs)) to av.1
              (λ q. let x = h q in (x.0, omega (arith, x.1), x.2)),
        )

    children_cover : (e : ℕ) (vs : List ℕ) (from to end : ℕ) → Avoids vs → from
        + length (joined join d docs vs) ≡ end
        → Cover from end (child_nodes e from to (child_nodes_of below d docs last vs))
    children_cover e [] from to end av h =
        elim s as (λ b. Cover from end
        (child_nodes e from to (cond b (node star sd (below sd) none) none))) [
          | true ↦ omega
              (arith, h)
          | false ↦ omega (arith, h)
        ]
    children_cover e (v ∷ vs) from to end av h =
        let own = docs_with d v docs in
        let rest = child_nodes e (from + length own) to (child_nodes_of below d docs last vs) in
        let more = children_cover e vs (from + length own) to end av.1
        (omega (arith, h, length-append own (joined join d docs vs))) in
        let pick : Cover from end (blank e v from (from + length own) ∷ rest) =
        one (v == star) av.0 from end (from + length own) rest more in
        subst (Cover from end) (sym (ordinary v vs e from to av.0)) pick
      where
        one : (b : Bool) → b ≡ false → (from end next : ℕ) (ns : List Node) → Cover next end ns
            → MatchBool b (Cover from end ns) ((from ≡ from) × Cover next end ns)
        one true e from end next ns h = cc
        one false e from end next ns h = (refl, h)

    not_skipped : (a b : Bool) → (not a && b) ≡ true → (a ≡ false) × (b ≡ true)
    not_skipped true b h = cc
    not_skipped false b h = (refl, h)

module _ {S : Type 0} (join : S → S → S) (j : IsJoin join) (shape : TreeShape) (k : ℕ)
    (rows : List (List ℕ × S)) (ids : HaveIds k rows) (no_star : HaveNoStar k rows)
    (counts : List ℕ) (at_most : (d : ℕ) → count_at counts d ≤ star)
    (counted : AreCounted k counts rows) where
  -- the children of a split node
  children_rules : (m : ℕ) (path : List ℕ) (docs : List (List ℕ × S)) (from to end : ℕ) → docs
      ≡ merged_docs join (rekey (starred path) (rows_at path rows)) → length path < k → from
      + length docs ≡ end
      → let d = length path
      in KeepChildrenRules shape counts d from end
      (child_nodes (suc d) from to
      (child_nodes_of (under join shape m (suc d)) d docs
      (star_child join (under join shape m (suc d)) shape d docs) (ids_at join d docs)))
  children_rules m path docs from to end is lt size =
      let d = length path in
      let below = under join shape m (suc d) in
      let sd = merged_docs join (rekey (set_star d) docs) in
      let vs = ids_at join d docs in
      let s = not (skips shape d) && nat_lt 1 (length vs) in
      let c = count_at counts d in
      let av : Avoids vs = Avoids-ids join j path rows docs is k lt no_star in
      let dims : DimsBelow d c docs =
      subst (DimsBelow d c) (sym is)
      (merged_dims join d c (rekey (starred path) (rows_at path rows))
      (rows_dims join k counts path rows lt counted)) in
      let fits : AllBelow c vs =
      keys_below join c (Merged nat_cmp join (rekey (dim d) docs))
      (merged_below join c d docs dims) in
      let all : joined join d docs vs
      ≡ docs = joined_all join (length docs) d docs (omega arith)
      (rising_docs k path docs lt (docs_at join j k path rows docs (omega arith) ids no_star is)
      (sorted_at join j shape k rows ids no_star path docs is)) in
      let few_docs : length sd ≤ end - from = let le = merged_fewer join (rekey (set_star d) docs)
      in let l = length-rekey join (set_star d) docs in omega (arith, le, l, size) in
      record {
        levels = child_levels join shape d docs below s sd (suc d) from to
            (child_nodes_of below d docs (star_child join below shape d docs) vs);
        ids_ascend = children_ascend join shape d docs below s sd (suc d) c vs from to av (at_most d) fits
            (ids_ascend join j d docs);
        ids_known = children_known join shape d docs below s sd (suc d) c vs from to av fits;
        star_last = children_last join shape d docs below s sd (suc d) (end - from)
            (skips shape d) vs 0 from to av
            (λ e. let x = not_skipped join shape d docs below s sd (skips shape d)
            (nat_lt 1 (length vs)) e in (x.0, more_than_one (length vs) x.1, few_docs));
        ranges_cover = children_cover join shape d docs below s sd (suc d) vs from to end av
            (ap (λ l. from + length l) all ∙ size);
      }
    where
      more_than_one : (n : ℕ) → nat_lt 1 n ≡ true → 2 ≤ 0 + n
      more_than_one n h = let lt : 1 < n = grind (arith, nat_tests) in omega arith

  leaf_rules : (d at id : ℕ) (docs : List (List ℕ × S)) (f : Flat S) → d ≤ k
      → IsNode join d at id docs none f → (length docs ≤ shape.leaf) ⊎ ((d ≡ k) × (length docs ≡ 1))
      → KeepsRules shape k counts (length f.1) f.0 at
  leaf_rules d at id docs f le w size =
      let h = w.docs_are in
      let n : length docs ≡ (node_at f.0 at).end - (node_at f.0 at).start =
      ap length (sym h.docs_are)
      ∙ range_length join (node_at f.0 at).start (node_at f.0 at).end f.1
      (omega (arith, h.order)) h.inside in
      record {
        level = omega (arith, h.level_is, le);
        order = h.order;
        inside = h.inside;
        total = w.total_in;
        leaf_first = λ _. w.leaf refl;
        leaf_size = λ _. elim size as
            (λ _. ((node_at f.0 at).end - (node_at f.0 at).start ≤ shape.leaf)
            ⊎ (((node_at f.0 at).level ≡ k)
            × ((node_at f.0 at).end - (node_at f.0 at).start ≡ 1))) [
              | inl at_most ↦ inl (omega (arith, at_most, n))
              | inr one ↦ inr (h.level_is ∙ one.0, omega (arith, one.1, n))
            ];
        split_level = λ z. absurd (omega (arith, z, w.children_are));
        split_first = λ z. absurd (omega (arith, z, w.children_are));
        split_last = λ z. absurd (omega (arith, z, w.children_are));
        split_children = λ z. absurd (omega (arith, z, w.children_are));
      }

  split_rules : (d at id : ℕ) (docs : List (List ℕ × S)) (subtrees : Nodes S) (f : Flat S) → d < k
      → 0 < count subtrees → IsNode join d at id docs subtrees f
      → ((from to end : ℕ) → from + length docs ≡ end
      → KeepChildrenRules shape counts d from end (child_nodes (suc d) from to subtrees))
      → KeepsRules shape k counts (length f.1) f.0 at
  split_rules d at id docs subtrees f lt some w rules =
      let h = w.docs_are in
      let from = (node_at f.0 at).start in
      let end = (node_at f.0 at).end in
      let first = (node_at f.0 at).first in
      let n : length docs ≡ end - from = ap length (sym h.docs_are)
      ∙ range_length join from end f.1 (omega (arith, h.order)) h.inside in
      let nodes_are : map unvisited (range first (first + (node_at f.0 at).children) f.0)
      ≡ child_nodes (suc d) from w.star_from subtrees =
      map-range unvisited first (first + (node_at f.0 at).children) f.0
      ∙ ap (λ c. range first (first + c) (map unvisited f.0)) w.children_are ∙ w.nodes_are in
      record {
        level = omega (arith, h.level_is, lt);
        order = h.order;
        inside = h.inside;
        total = w.total_in;
        leaf_first = λ z. absurd (omega (arith, z, w.children_are, some));
        leaf_size = λ z. absurd (omega (arith, z, w.children_are, some));
        split_level = λ _. omega (arith, h.level_is, lt);
        split_first = λ _. w.later some;
        split_last = λ _. omega (arith, w.children_are, w.children_in);
        split_children = λ _. rules_back shape counts (node_at f.0 at).level from end
            (range first (first + (node_at f.0 at).children) f.0)
            (subst (λ l. KeepChildrenRules shape counts l from end
            (map unvisited (range first (first + (node_at f.0 at).children) f.0)))
            (sym h.level_is)
            (subst (KeepChildrenRules shape counts d from end) (sym nodes_are)
            (rules from w.star_from end (omega (arith, n, h.order)))));
      }

  -- at the last level a node has one document
  no_less : {A : Type 0} → Equal ≡ Less → A
  no_less e = cc

  front : (a b : Bool) → (a && b) ≡ true → a ≡ true
  front true b h = refl
  front false b h = cc

  is_less : (o : Ordering) → is_lt o ≡ true → o ≡ Less
  is_less Less h = refl
  is_less Equal h = cc
  is_less Greater h = cc

  one_doc : (path : List ℕ) (docs : List (List ℕ × S)) → length path ≡ k → docs
      ≡ merged_docs join (rekey (starred path) (rows_at path rows)) → 0 < length docs → length docs
      ≡ 1
  one_doc path [] l is some = absurd (omega arith)
  one_doc path (e ∷ []) l is some = refl
  one_doc path (e ∷ f ∷ es) l is some =
      let at = docs_at join j k path rows (e ∷ f ∷ es) (omega (arith, l)) ids no_star is in
      let up = sorted_at join j shape k rows ids no_star path (e ∷ f ∷ es) is in
      let whole : (x : List ℕ) → length x ≡ k → take (length path) x ≡ path → x
      ≡ path = λ x n t. sym (take-length x) ∙ ap (λ m. take m x) (n ∙ sym l) ∙ t in
      let same : e.0 ≡ f.0 = whole e.0 at.0.0 at.0.1 ∙ sym (whole f.0 at.1.0.0 at.1.0.1) in
      let less : dims_order e.0 f.0
      ≡ Less = is_less (dims_order e.0 f.0) (front _ _ (front _ _ up)) in
      no_less (sym (tied_itself nat_list_cmp_total f.0) ∙ ap (λ x. dims_order x f.0) (sym same)
      ∙ less)

  node_rules : (levels at id : ℕ) (path : List ℕ) (docs : List (List ℕ × S)) (f : Flat S)
      → length path + levels ≡ k → docs
      ≡ merged_docs join (rekey (starred path) (rows_at path rows))
      → IsNode join (length path) at id docs (under join shape levels (length path) docs) f
      → KeepsRules shape k counts (length f.1) f.0 at
  node_rules zero at id path docs f sum is w =
      let h = w.docs_are in
      let n : length docs ≡ (node_at f.0 at).end - (node_at f.0 at).start =
      ap length (sym h.docs_are)
      ∙ range_length join (node_at f.0 at).start (node_at f.0 at).end f.1
      (omega (arith, h.order)) h.inside in
      leaf_rules (length path) at id docs f (omega (arith, sum)) w
      (inr (
        omega (arith, sum),
        one_doc path docs (omega (arith, sum)) is
            (omega (arith, n, h.order)),
      ))
  node_rules (suc m) at id path docs f sum is w =
      let d = length path in
      let below = under join shape m (suc d) in
      let vs = ids_at join d docs in
      let subtrees = child_nodes_of below d docs (star_child join below shape d docs) vs in
      let h = w.docs_are in
      let lt : d < k = omega (arith, sum) in
      let n : length docs ≡ (node_at f.0 at).end - (node_at f.0 at).start =
      ap length (sym h.docs_are)
      ∙ range_length join (node_at f.0 at).start (node_at f.0 at).end f.1
      (omega (arith, h.order)) h.inside in
      let all : joined join d docs vs
      ≡ docs = joined_all join (length docs) d docs (omega arith)
      (rising_docs k path docs lt (docs_at join j k path rows docs (omega arith) ids no_star is)
      (sorted_at join j shape k rows ids no_star path docs is)) in
      let some : 0 < count subtrees = let c =
      count_children join below d docs (star_child join below shape d docs) vs
      in let v = some_ids vs (omega (arith, ap length all, n, h.order))
      in omega (arith, c, v) in
      elim (nat_le (length docs) shape.leaf) as
      (λ b. nat_le (length docs) shape.leaf ≡ b → IsNode join d at id docs (cond b none subtrees) f
      → KeepsRules shape k counts (length f.1) f.0 at) [
        | true ↦ λ e w. leaf_rules d at id docs f (omega (arith, lt)) w
            (inl (fits (length docs) shape.leaf e))
        | false ↦ λ e w. split_rules d at id docs subtrees f lt some w
            (λ from to end size. children_rules m path docs from to end is lt size)
      ] refl w
    where
      fits : (n l : ℕ) → nat_le n l ≡ true → n ≤ l
      fits n l h = grind (arith, nat_tests)

      some_ids : (vs : List ℕ) → 0 < length (joined join (length path) docs vs) → 0 < length vs
      some_ids [] h = absurd (omega arith)
      some_ids (v ∷ vs) h = omega arith

  pub rules_kept : (at : ℕ) → at < length (flat join (tree_of join shape k rows)).0
      → KeepsRules shape k counts (length (flat join (tree_of join shape k rows)).1)
      (flat join (tree_of join shape k rows)).0 at
  rules_kept at lt =
      let o = nodes_of_tree join j shape k rows ids no_star at lt in
      node_rules o.levels at (dim (length o.path - 1) o.path) o.path o.docs
      (flat join (tree_of join shape k rows)) o.levels_are o.covers.docs_are o.is
