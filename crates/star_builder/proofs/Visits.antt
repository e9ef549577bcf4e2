-- A visit of a node, from its parts.
use Rattle.agg_laws.specs.declared.states.AggState.{AggState}
use Rattle.agg_laws.specs.Rows.{merged_rows}
use Rattle.state_columns.specs.Docs.{Doc}
use Rattle.std.proofs.Common.{◌≡◌, ℕ, zero, suc, ◌+◌, ◌-◌, ◌<◌, ◌≤◌, Bool, true, false, cond, ◌||◌}
use Rattle.std.proofs.Common.{◌==◌, nat_le, List, [], ◌∷◌, length, drop, refl, sym, ap, subst, ◌∙◌}
use Rattle.std.proofs.Common.{arith, length-append, length-drop, inl, inr, ◌↔◌, ◌≢◌}
use Rattle.std.proofs.lemmas.List.{length-take-le}
use Rattle.std.proofs.lemmas.Bool.{ne_eqb, eqb-false, cases_lt}
use Rattle.star_tree.specs.declared.node.Node.{Node}
use Rattle.agg_laws.specs.declared.tree_shape.TreeShape.{TreeShape}
use Rattle.agg_laws.specs.Tree.{dim, Nodes, none, node, has_star, child_nodes_of, star_child, under}
use Rattle.star_tree.specs.Flat.{Flat, node_at, count, child_nodes, opened, filled, with_total}
use Rattle.star_tree.specs.Flat.{closed, visited, visited_one}
use Rattle.state_columns.specs.Region.{range}
use Rattle.star_builder.specs.Building.{bytes_of, Proper, drop_children, Rising, Standing, split_children}
use Rattle.star_builder.specs.Building.{docs_at, children_at, children_in, NodeStands, leaf_closed}
use Rattle.star_builder.specs.Building.{split_closed, is_leaf, visit_node}
use Rattle.star_tree.proofs.FlatLemmas.{Grows, Grows-trans, Outside, closed_grows, visited_grows}
use Rattle.star_tree.proofs.FlatLemmas.{visit_grows, opened_grows, length-child_nodes, range-append}
use Rattle.state_columns.proofs.ListLemmas.{append_none}
use Rattle.star_builder.proofs.Bytes.{bytes_grow}
use Rattle.star_builder.proofs.Standing.{First, first_of_rest, none_left, bytes_later}
use Rattle.star_builder.proofs.Runs.{run_ids}
use Rattle.star_tree.proofs.Runs.{find_run}
use Rattle.star_builder.proofs.Open.{children_stand, rising_at}

left_part : (a b : Bool) → (a || b) ≡ true → b ≡ false → a ≡ true
left_part true b h k = refl
left_part false b h k = cc

no_part : (a b : Bool) → (a || b) ≡ false → a ≡ false
no_part true b h = h
no_part false b h = refl

under_leaf : (sh : TreeShape) (dims more d : ℕ) (docs : List Doc) → more ≡ dims - d
    → (nat_le (length docs) sh.leaf || (d == dims)) ≡ true → under merged_rows sh more d docs ≡ none
under_leaf sh dims zero d docs e h = refl
under_leaf sh dims (suc more) d docs e h =
    ap (λ b. cond b none (split_children sh more d docs)) (left_part (nat_le (length docs) sh.leaf) (d
    == dims) h (ne_eqb d dims (λ k. omega arith)))

under_split : (sh : TreeShape) (more n d : ℕ) (docs : List Doc) → n ≡ suc more
    → nat_le (length docs) sh.leaf ≡ false → under merged_rows sh n d docs
    ≡ split_children sh more d docs
under_split sh more n d docs e h = ap (λ m. under merged_rows sh m d docs) e
    ∙ ap (λ b. cond b none (split_children sh more d docs)) h

some_children : (sh : TreeShape) (more d : ℕ) (docs : List Doc) → 0 < length docs → Rising d docs
    → 0 < count (split_children sh more d docs)
some_children sh more d [] h up = absurd (omega arith)
some_children sh more d (e ∷ es) h up =
    let found = find_run merged_rows d (dim d e.0) es in
    subst (λ vs. 0 < count (child_nodes_of (under merged_rows sh more (suc d)) d (e ∷ es) (star_child
    merged_rows (under merged_rows sh more (suc d)) sh d (e ∷ es)) vs))
    (sym (run_ids merged_rows d (dim d e.0) found.0 e es refl up.0 up.1 found.1)) (omega arith)

closed_split : (d at first children : ℕ) (docs : List Doc) (subtrees : Nodes (List AggState)) (f : Flat
    (List AggState)) → children ≡ count subtrees → 0 < children → docs_at at f ≡ docs
    → split_closed d at first children (has_star subtrees) f ≡ closed merged_rows d at first docs subtrees f
closed_split d at first children docs none f e some is = absurd (omega (arith, e))
closed_split d at first children docs (node id own below rest) f e some is =
    let k : children - 1 ≡ count rest = omega (arith, e) in
    (λ i. cond (has_star (node id own below rest)) (
      filled at (node_at f.0 (first + k i)).total
          first (e i) f.0,
      f.1,
    ) (with_total merged_rows d at first (e i) (is i) f))

-- what is known once the children are visited
pub record After (s : TreeShape) (d at : ℕ) (f g : Flat (List AggState)) (first children : ℕ)
    (starred : Bool) : Type 0 where
  pub within : at < length g.0
  pub inside : (node_at g.0 at).end ≤ length g.1
  pub known : first + children ≤ length g.0
  pub stands : NodeStands s d at g
  pub is : split_closed d at first children starred g ≡ visit_node s d at f

-- what is known once a node is opened
pub record Split (s : TreeShape) (d at start end : ℕ) (f g : Flat (List AggState)) (first children
    : ℕ) (starred : Bool) : Type 0 where
  pub some : 0 < children
  pub known : first + children ≤ length g.0
  pub order : start ≤ end
  pub inside : end ≤ length g.1
  pub children_is : children ≡ count (children_in s d start end g)
  pub stand : Standing s (s.dims - (d + 1)) (d + 1) first (children_in s d start end g) g
  pub bytes : (width : TreeShape) → bytes_of width g ≤ bytes_of width (visit_node s d at f)
  pub bytes_after : (width : TreeShape) → bytes_of width (visited merged_rows (d + 1) first
      (children_in s d start end g) g) ≤ bytes_of width (visit_node s d at f)
  pub after : (h : Flat (List AggState)) → h ≡ visited merged_rows (d + 1) first (children_in s d start
      end g) g → After s d at f h first children starred

module _ (s : TreeShape) (d at start end : ℕ) (f : Flat (List AggState)) (stands : NodeStands s d
    at f) (start_is : start ≡ (node_at f.0 at).start) (end_is : end ≡ (node_at f.0 at).end) where
  size : length (docs_at at f) ≡ end - start
  size = length-take-le ((node_at f.0 at).end - (node_at f.0 at).start) (drop (node_at f.0
      at).start f.1) (omega (arith, length-drop (node_at f.0 at).start f.1, stands.inside))
      ∙ (λ i. sym end_is i - sym start_is i)

  pub leaf_visit : is_leaf s d (end - start) ≡ true → leaf_closed d at f ≡ visit_node s d at f
  leaf_visit h =
      let docs = docs_at at f in
      let subtrees : under merged_rows s (s.dims - d) d docs
      ≡ none = under_leaf s s.dims (s.dims - d) d docs refl (ap (λ n. nat_le n s.leaf || (d ==
      s.dims)) size ∙ h) in
      (λ i. closed merged_rows d at (length f.0) docs none (
        sym (append_none f.0) i,
        sym
            (append_none f.1) i,
      )) ∙ ap (λ k. visited_one merged_rows d at docs k f) (sym subtrees)

  module _ (lt : d < s.dims) (splits : is_leaf s d (end - start)
      ≡ false) (g : Flat (List AggState)) (g_is : g ≡ opened d at (children_at s d at f) f) (starred :
      Bool) (star_is : starred ≡ has_star (children_at s d at f)) where
    nodes_are : under merged_rows s (s.dims - d) d (docs_at at f) ≡ children_at s d at f
    nodes_are = under_split s (s.dims - (d + 1)) (s.dims - d) d (docs_at at f) (omega arith) (ap (λ
        n. nat_le n s.leaf) size ∙ no_part (nat_le (end - start) s.leaf) (d == s.dims) splits)

    visit_is : visit_node s d at f ≡ closed merged_rows d at (length f.0) (docs_at at f) (children_at s
        d at f) (visited merged_rows (suc d) (length f.0) (children_at s d at f) (opened d at (children_at
        s d at f) f))
    visit_is = ap (λ k. visited_one merged_rows d at (docs_at at f) k f) nodes_are

    g_grows : Grows (λ _. Unit {0}) f g
    g_grows = subst (Grows (λ _. Unit {0}) f) (sym g_is) (opened_grows (λ _. Unit {0}) d at
        (children_at s d at f) f)

    same_docs : range start end g.1 ≡ docs_at at f
    same_docs = (λ i. range (start_is i) (end_is i) (g_grows.docs_are i))
        ∙ range-append (node_at f.0 at).start (node_at f.0 at).end f.1 g_grows.docs (omega (
          arith,
          stands.some,
        )) stands.inside

    same_children : children_in s d start end g ≡ children_at s d at f
    same_children = ap (λ l. split_children s (s.dims - (d + 1)) d l) same_docs

    longer : length g.0 ≡ length f.0 + count (children_at s d at f)
    longer = ap (λ h. length h.0) g_is ∙ length-append f.0 (child_nodes (suc d) (node_at f.0
        at).start (length f.1) (children_at s d at f))
        ∙ ap (λ n. length f.0 + n) (length-child_nodes (suc d) (node_at f.0 at).start (length f.1)
        (children_at s d at f))

    after_visits : Flat (List AggState)
    after_visits = visited merged_rows (d + 1) (length f.0) (children_in s d start end g) g

    visits_are : visited merged_rows (d + 1) (length f.0) (children_in s d start end g) g
        ≡ visited merged_rows (suc d) (length f.0) (children_at s d at f) (opened d at (children_at s d at
        f) f)
    visits_are = let n : d + 1 ≡ suc d = omega arith in
        (λ i. visited merged_rows (n i) (length f.0) (same_children i) (g_is i))

    later : Grows (Outside (length f.0) (count (children_at s d at f))) g (visited merged_rows (d + 1)
        (length f.0) (children_in s d start end g) g)
    later = subst (λ k. Grows (Outside (length f.0) (count (children_at s d at f))) g (visited
        merged_rows (d + 1) (length f.0) k g)) (sym same_children) (visited_grows merged_rows (d + 1)
        (length f.0) (children_at s d at f) g (omega (arith, longer)))

    last : (h : Flat (List AggState)) → h ≡ visited merged_rows (d + 1) (length f.0) (children_in s d
        start end g) g → Grows (Outside at 1) h (visit_node s d at f)
    last h is = subst (Grows (Outside at 1) h) (ap (closed merged_rows d at (length f.0) (docs_at
        at f) (children_at s d at f)) (is ∙ visits_are) ∙ sym visit_is) (closed_grows merged_rows d at
        (length f.0) (docs_at at f) (children_at s d at f) h)

    done : (children : ℕ) → children ≡ length g.0 - length f.0 → (h : Flat (List AggState)) → h
        ≡ visited merged_rows (d + 1) (length f.0) (children_in s d start end g) g
        → After s d at f h (length f.0) children starred
    done children children_is h is =
        let grown : Grows (Outside (length f.0) (count (children_at s d at f))) g h = subst (Grows
        (Outside (length f.0) (count (children_at s d at f))) g) (sym is) later in
        let all : Grows (Outside (length f.0) (count (children_at s d at f))) f h = Grows-trans
        (Outside (length f.0) (count (children_at s d at f))) (Outside (length f.0) (count (children_at
        s d at f))) f g h
        (record {
          docs = g_grows.docs;
          docs_are = g_grows.docs_are;
          nodes = g_grows.nodes;
          nodes_are = g_grows.nodes_are;
          longer = g_grows.longer;
          stay = λ i p l. g_grows.stay i
              tt l;
        }) grown (λ i p l. p) in
        let same : node_at h.0 at ≡ node_at f.0 at = all.stay at (inl stands.within) stands.within
        in
        let docs : docs_at at h ≡ docs_at at f = (λ i. range (same i).start (same i).end
        (all.docs_are i)) ∙ range-append (node_at f.0 at).start (node_at f.0 at).end f.1
        all.docs (omega (arith, stands.some)) stands.inside in
        let n : children ≡ count (children_at s d at f) = omega (arith, children_is, longer) in
        let some : 0 < count (children_at s d at f) = some_children s (s.dims - (d + 1)) d (docs_at at f)
        (omega (arith, size, stands.some, start_is, end_is)) (rising_at s d at f stands lt) in
        record {
          within = omega (arith, all.longer, stands.within);
          inside = subst (λ (m : Node). m.end ≤ length h.1) (sym same) (omega (
            arith,
            stands.inside,
            ap length all.docs_are,
            length-append f.1 all.docs,
          ));
          known = omega (arith, longer, grown.longer, n);
          stands = record {
            within = omega (arith, all.longer, stands.within);
            some = subst (λ (m : Node). m.start < m.end) (sym same) stands.some;
            inside = subst (λ (m : Node). m.end ≤ length h.1) (sym same) (omega (
              arith,
              stands.inside,
              ap length all.docs_are,
              length-append f.1 all.docs,
            ));
            proper = subst (Proper s.dims d) (sym docs) stands.proper;
          };
          is = ap (λ b. split_closed d at (length f.0) children b h) star_is
              ∙ closed_split d at (length f.0) children (docs_at at f) (children_at s d at f) h n
              (omega (arith, n, some)) docs
              ∙ ap (closed merged_rows d at (length f.0) (docs_at at f) (children_at s d at f)) (is
              ∙ visits_are) ∙ sym visit_is;
        }

    pub split_visit : (children : ℕ) → children ≡ length g.0 - length f.0
        → Split s d at start end f g (length f.0) children starred
    split_visit children children_is =
        let n : children ≡ count (children_at s d at f) = omega (arith, children_is, longer) in
        let some : 0 < count (children_at s d at f) = some_children s (s.dims - (d + 1)) d (docs_at at f)
        (omega (arith, size, stands.some, start_is, end_is)) (rising_at s d at f stands lt) in
        record {
          some = omega (arith, n, some);
          known = omega (arith, longer, n);
          order = omega (arith, start_is, end_is, stands.some);
          inside = omega (
            arith,
            end_is,
            stands.inside,
            ap length g_grows.docs_are,
            length-append
                f.1 g_grows.docs,
          );
          children_is = n ∙ ap count (sym same_children);
          stand = subst (λ k. Standing s (s.dims - (d + 1)) (d + 1) (length f.0) k g) (sym
              same_children) (children_stand s d at f stands lt g g_is);
          bytes = λ width. let a = bytes_grow _ width g _ later in
              let b = bytes_grow _ width _ _ (last (visited merged_rows (d + 1) (length f.0)
              (children_in s d start end g) g) refl) in omega (arith, a, b);
          bytes_after = λ width. bytes_grow _ width _ _ (last (visited merged_rows (d + 1) (length
              f.0) (children_in s d start end g) g) refl);
          after = done children children_is;
        }

pub over_limit : (b : Bool) (x limit : ℕ) → ((b ≡ true) ↔ (x ≤ limit)) → b ≡ false → limit < x
over_limit b x limit iff e = elim (cases_lt limit x) as (λ _. limit < x) [
  | inl h ↦ h
  | inr h ↦
      clash (sym e ∙ iff.1 h)
]
  where
    clash : {A : Type 0} → false ≡ true → A
    clash k = cc

pub below_dims : (s : TreeShape) (d n : ℕ) → d ≤ s.dims → is_leaf s d n ≡ false → d < s.dims
below_dims s d n le h = let k : d ≢ s.dims = eqb-false d s.dims (right_part (nat_le n s.leaf) (d ==
    s.dims) h) in omega arith
  where
    right_part : (a b : Bool) → (a || b) ≡ false → b ≡ false
    right_part true b h = cc
    right_part false b h = h

pub facts : (s : TreeShape) (d at start end : ℕ) (f : Flat (List AggState)) (stands : NodeStands s
    d at f) (start_is : start ≡ (node_at f.0 at).start) (end_is : end
    ≡ (node_at f.0 at).end) (le : d ≤ s.dims) (splits : is_leaf s d (end - start) ≡ false)
    (g : Flat (List AggState)) (g_is : g ≡ opened d at (children_at s d at f) f) (starred : Bool)
    (star_is : starred ≡ has_star (children_at s d at f)) (first children : ℕ) → first
    ≡ length f.0 → children ≡ length g.0 - first → Split s d at start end f g first children
    starred
facts s d at start end f stands start_is end_is le splits g g_is starred star_is first children
    first_is children_is =
    subst (λ n. Split s d at start end f g n children starred) (sym first_is)
    (split_visit s d at start end f stands start_is end_is (below_dims s d (end - start) le splits)
    splits g g_is starred star_is children (children_is ∙ ap (λ n. length g.0 - n) first_is))

-- one of the children is visited
pub record ChildStep (s : TreeShape) (d first i : ℕ) (subtrees : Nodes (List AggState)) (f : Flat (List
    AggState)) : Type 0 where
  pub stands : NodeStands s (d + 1) (first + i) f
  pub bytes : (width : TreeShape) → bytes_of width (visit_node s (d + 1) (first + i) f) ≤ bytes_of
      width (visited merged_rows (d + 1) (first + i) (drop_children i subtrees) f)
  pub is : (g : Flat (List AggState)) → g ≡ visit_node s (d + 1) (first + i) f
      → visited merged_rows (d + 1) (first + (i + 1)) (drop_children (i + 1) subtrees) g
      ≡ visited merged_rows (d + 1) (first + i) (drop_children i subtrees) f
  pub stand : (g : Flat (List AggState)) → g ≡ visit_node s (d + 1) (first + i) f
      → Standing s (s.dims - (d + 1)) (d + 1) (first + (i + 1)) (drop_children (i + 1) subtrees) g
  pub longer : (g : Flat (List AggState)) → g ≡ visit_node s (d + 1) (first + i) f
      → length f.0 ≤ length g.0

pub child_step : (s : TreeShape) (d first i : ℕ) (subtrees : Nodes (List AggState)) (f : Flat (List
    AggState)) → d < s.dims → i < count subtrees → Standing s (s.dims - (d + 1)) (d + 1) (first + i)
    (drop_children i subtrees) f → ChildStep s d first i subtrees f
child_step s d first i subtrees f lt more stand =
    let sh = s in
    let m = s.dims - (d + 1) in
    let one : First sh m (d + 1) (first + i) (drop_children i subtrees) (drop_children (suc i) subtrees) f =
    first_of_rest sh m (d + 1) (first + i) i subtrees f more stand in
    let k : (d + 1) + m ≡ s.dims = omega arith in
    let at : suc (first + i) ≡ first + (i + 1) = omega arith in
    let n : suc i ≡ i + 1 = omega arith in
    let grown = visit_grows merged_rows (d + 1) (first + i) (docs_at (first + i) f) (under
    merged_rows sh m (d + 1) (docs_at (first + i) f)) f one.within in
    record {
      stands = record {
        within = one.within;
        some = one.some;
        inside = one.inside;
        proper = subst
            (λ q. Proper q (d + 1) (docs_at (first + i) f)) k one.proper;
      };
      bytes = λ width. subst (λ h. bytes_of width (visit_node s (d + 1) (first + i) f) ≤ bytes_of
          width h) (sym one.is)
          (bytes_later sh m (d + 1) (suc (first + i)) width (drop_children (suc i) subtrees) (visit_node s
          (d + 1) (first + i) f) (omega (arith, one.within, grown.longer)) one.others);
      is = λ g e. (λ j. visited merged_rows (d + 1) (sym at j) (drop_children (sym n j) subtrees) (e j))
          ∙ sym one.is;
      stand = λ g e. subst (λ h. Standing sh m (d + 1) (first + (i + 1)) (drop_children (i + 1) subtrees)
          h) (sym e)
          (subst (λ q. Standing sh m (d + 1) q (drop_children (i + 1) subtrees) (visit_node s (d + 1)
          (first + i) f)) at
          (subst (λ q. Standing sh m (d + 1) (suc (first + i)) (drop_children q subtrees) (visit_node s (d
          + 1) (first + i) f)) n one.others));
      longer = λ g e. subst (λ h. length f.0 ≤ length h.0) (sym e) grown.longer;
    }

pub children_done : (d first i : ℕ) (subtrees : Nodes (List AggState)) (f g : Flat (List AggState))
    → count subtrees ≤ i → visited merged_rows d (first + i) (drop_children i subtrees) f ≡ g → f ≡ g
children_done d first i subtrees f g le e = ap (λ k. visited merged_rows d (first + i) k f) (sym (none_left
    i subtrees le)) ∙ e
