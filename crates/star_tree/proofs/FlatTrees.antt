-- The flat tree of some rows is their nested tree.
use Rattle.std.proofs.Common.{◌≡◌, ℕ, zero, suc, ◌+◌, ◌-◌, ◌<◌, ◌≤◌, Bool, true, false, cond, ◌&&◌}
use Rattle.std.proofs.Common.{◌==◌, not, nat_lt, nat_le, List, [], ◌∷◌, ◌++◌, map, length, take}
use Rattle.std.proofs.Common.{drop, inl, inr, refl, sym, ap, subst, ◌∙◌, arith, append_assoc}
use Rattle.std.proofs.lemmas.List.{take-append-drop, length-take-le, length-map, map-append}
use Rattle.std.proofs.lemmas.Bool.Decides.{nat_tests}
use Rattle.std.proofs.lemmas.Cmp.{nat_list_cmp_total}
use Rattle.std.proofs.Math.Seq.{take-length}
use Rattle.agg_laws.specs.declared.tree_shape.TreeShape.{TreeShape}
use Rattle.agg_laws.specs.Merged.{IsJoin, rekey}
use Rattle.agg_laws.specs.Tree.{star, dims_order, dim, set_star, merged_docs, Nodes, none, node}
use Rattle.agg_laws.specs.Tree.{skips, ids_at, docs_with, child_nodes_of, star_child, under, root_of}
use Rattle.agg_laws.specs.Tree.{tree_of, starred, rows_at, HaveNoStar}
use Rattle.state_columns.specs.Docs.{HaveIds}
use Rattle.state_columns.specs.Documents.{aggregated, star_docs, total_doc, total_below}
use Rattle.state_columns.specs.Documents.{one_document}
use Rattle.state_columns.specs.Region.{range}
use Rattle.star_tree.specs.Flat.{blank, unvisited, node_at, count, child_nodes, Flat, opened, closed}
use Rattle.star_tree.specs.Flat.{visited, visited_one, flat, HasDocs, ChildrenHaveDocs, IsNode, FlatAt}
use Rattle.star_tree.specs.FlatNodes.{IsOfTree}
use Rattle.state_columns.proofs.MergedLemmas.{is_sorted-Merged}
use Rattle.star_tree.proofs.TreeLemmas as trees
use Rattle.state_columns.proofs.ListLemmas.{same_dims, append_none, as_true, merged_some}
use Rattle.state_columns.proofs.ListLemmas.{length-rekey, range_length}
use Rattle.star_tree.proofs.TreeLemmas.{Avoids, Avoids-ids, own_docs, length_more, covers_rows}
use Rattle.star_tree.proofs.TreeLemmas.{all_rows}
use Rattle.star_tree.proofs.NodeLemmas.{docs_at, below_children, merged_total}
use Rattle.star_tree.proofs.Runs.{joined, joined_all, all_filled}
use Rattle.star_tree.proofs.PickLemmas.{has_star-subtrees, star_flag}
use Rattle.star_tree.proofs.FlatLemmas.{Outside, Grows, Grows-trans, same_unvisited, opened_grows}
use Rattle.star_tree.proofs.FlatLemmas.{opened_length, closed_grows, closed_length, visited_grows}
use Rattle.star_tree.proofs.FlatLemmas.{visit_grows, length-child_nodes, unvisited_children}
use Rattle.star_tree.proofs.FlatNodes.{rising_docs, range_is, last_id, HasDocs-grows}
use Rattle.star_tree.proofs.FlatNodes.{ChildrenHaveDocs-grows, children_range_grows, IsNode-grows}
use Rattle.star_tree.proofs.FlatNodes.{StarTotal, split_total, close_is, children_opened, last_opened}
use Rattle.star_tree.proofs.FlatNodes.{star_docs_children, count_children, star_child_docs, last_has}
use Rattle.star_tree.proofs.FlatNodes.{some_total}
use Rattle.std.specs.FinMap.{is_sorted}

ChildrenHaveDocs-none : {S : Type 0} (s : Bool) (d at : ℕ) (docs : List (List ℕ × S)) (subtrees : Nodes S)
    (f : Flat S) → s ≡ true → ChildrenHaveDocs d at (cond s (node star docs subtrees none) none) f
    → HasDocs d at star docs f
ChildrenHaveDocs-none true d at docs subtrees f e h = h.0
ChildrenHaveDocs-none false d at docs subtrees f e h = cc

module _ {S : Type 0} (join : S → S → S) (j : IsJoin join) (shape : TreeShape) (k : ℕ)
    (rows : List (List ℕ × S)) (ids : HaveIds k rows) (no_star : HaveNoStar k rows) where
  -- the documents at a path
  abbrev At : List ℕ → List (List ℕ × S) → Type 0
  At path docs = docs ≡ merged_docs join (rekey (starred path) (rows_at path rows))

  pub sorted_at : (path : List ℕ) (docs : List (List ℕ × S)) → At path docs
      → is_sorted dims_order docs ≡ true
  sorted_at path docs is =
      subst (λ l. is_sorted dims_order l ≡ true) (sym is)
      (as_true _ (is_sorted-Merged dims_order nat_list_cmp_total same_dims join j
      (rekey (starred path) (rows_at path rows))))

  one_aggregated : (path : List ℕ) (docs : List (List ℕ × S)) → length path ≤ k → At path docs
      → 0 < length docs → length (aggregated join (length path) docs) ≡ 1
  one_aggregated path docs short is some =
      let t = merged_total join j k shape rows ids no_star path docs short is in
      let found = some_total join docs some in
      ap length (t.docs_are
      ∙ ap (one_document t.ids) (sym (covers_rows join j path rows docs is).total_is ∙ found.1))

  -- the children of a node have their documents once they have their numbers
  node_opened : (levels at id : ℕ) (path : List ℕ) (docs : List (List ℕ × S)) (f : Flat S)
      → length path + levels ≡ k → At path docs → HasDocs (length path) at id docs f
      → ChildrenHaveDocs (suc (length path)) (length f.0) (under join shape levels (length path) docs)
      (opened (length path) at (under join shape levels (length path) docs) f)
  node_opened zero at id path docs f sum is h = tt
  node_opened (suc m) at id path docs f sum is h =
      let d = length path in
      let below = under join shape m (suc d) in
      let sd = merged_docs join (rekey (set_star d) docs) in
      let s = not (skips shape d) && nat_lt 1 (length (ids_at join d docs)) in
      let last = star_child join below shape d docs in
      let vs = ids_at join d docs in
      let subtrees = child_nodes_of below d docs last vs in
      let g = opened d at subtrees f in
      let lt : d < k = omega (arith, sum) in
      let av : Avoids vs = Avoids-ids join j path rows docs is k lt no_star in
      let start = (node_at f.0 at).start in
      let end = (node_at f.0 at).end in
      let front = take start f.1 in
      let back = drop (end - start) (drop start f.1) in
      let some : 0 < length docs = let w =
      range_length join start end f.1 (omega (arith, h.order)) h.inside
      in let l = ap length h.docs_are in omega (arith, w, l, h.order) in
      let parts : f.1 ≡ front ++ (docs ++ back) = sym (take-append-drop start f.1)
      ∙ ap (λ l. front ++ l)
      (sym (take-append-drop (end - start) (drop start f.1))
      ∙ ap (λ l. l ++ back) h.docs_are) in
      let all : joined join d docs vs
      ≡ docs = joined_all join (length docs) d docs (omega arith)
      (rising_docs k path docs lt
      (docs_at join j k path rows docs (omega (arith, sum)) ids no_star is)
      (sorted_at path docs is)) in
      let ds : g.1 ≡ front ++ (joined join d docs vs ++ (back ++ star_docs subtrees)) =
      ap (λ l. l ++ star_docs subtrees) parts ∙ append_assoc front (docs ++ back) (star_docs subtrees)
      ∙ ap (λ l. front ++ l) (append_assoc docs back (star_docs subtrees))
      ∙ ap (λ l. front ++ (l ++ (back ++ star_docs subtrees))) (sym all) in
      let front_is : length front
      ≡ start = length-take-le start f.1 (omega (arith, h.order, h.inside)) in
      let more : 0 < length sd =
      merged_some join (rekey (set_star d) docs)
      (omega (arith, some, length-rekey join (set_star d) docs)) in
      let last_ds : s ≡ true → g.1 ≡ f.1
      ++ sd = λ e. ap (λ l. f.1 ++ l)
      (star_docs_children join below d docs last vs av ∙ star_child_docs join s sd (below sd) e) in
      elim (nat_le (length docs) shape.leaf) as
      (λ b. ChildrenHaveDocs (suc d) (length f.0) (cond b none subtrees)
      (opened d at (cond b none subtrees) f)) [
        | true ↦ tt
        | false ↦ children_opened join d (length f.1) docs below last g vs av
            (all_filled join d docs) f.0 start front (back ++ star_docs subtrees) refl front_is ds
            (λ pre from is. last_opened join s d (length f.1) sd
            (below sd) g f.1 more last_ds refl pre from is)
      ]

  -- a node of the flat tree that has these documents is the node with them
  is_node : (levels at id : ℕ) (path : List ℕ) (docs : List (List ℕ × S)) (f : Flat S) → length path
      + levels ≡ k → dim (length path - 1) path ≡ id → HasDocs (length path) at id docs f
      → IsOfTree join shape k rows at f
      → IsNode join (length path) at id docs (under join shape levels (length path) docs) f
  is_node levels at id path docs f sum last h o =
      let d : length o.path ≡ length path = sym o.is.docs_are.level_is ∙ h.level_is in
      let same_id : dim (length o.path - 1) o.path ≡ id = sym o.is.docs_are.id_is ∙ h.id_is in
      let same_docs : o.docs ≡ docs = sym o.is.docs_are.docs_are ∙ h.docs_are in
      let same_levels : o.levels ≡ levels = omega (arith, d, sum, o.levels_are) in
      subst (λ n. IsNode join (length path) at id docs
      (under join shape n (length path) docs) f) same_levels
      (subst (λ l. IsNode join (length path) at id l
      (under join shape o.levels (length path) l) f) same_docs
      (subst (λ i. IsNode join (length path) at i o.docs
      (under join shape o.levels (length path) o.docs) f) same_id
      (subst (λ n. IsNode join n at (dim (length o.path - 1) o.path) o.docs
      (under join shape o.levels n o.docs) f) d o.is)))

  OfTree-grows : (P : ℕ → Type 0) (at : ℕ) (f g : Flat S) → Grows P f g → P at
      → IsOfTree join shape k rows at f → IsOfTree join shape k rows at g
  OfTree-grows P at f g grows p o = record {
    path = o.path;
    levels = o.levels;
    levels_are = o.levels_are;
    docs = o.docs;
    covers = o.covers;
    is = IsNode-grows join P (length o.path) at (dim (length o.path - 1) o.path) o.docs
        (under join shape o.levels (length o.path) o.docs) f g grows p o.is;
  }

  -- the nodes from `at` on, of which there are c, and those added by their visits
  abbrev Done : ℕ → ℕ → Flat S → Flat S → Type 0
  Done at c f g =
      ((i : ℕ) → at ≤ i → i < at + c → IsOfTree join shape k rows i g)
      × ((i : ℕ) → length f.0 ≤ i → i < length g.0 → IsOfTree join shape k rows i g)

  -- what a visit of one node makes
  record Visited (d at : ℕ) (docs : List (List ℕ × S)) (subtrees : Nodes S) (f : Flat S) : Type 0 where
    itself : IsOfTree join shape k rows at (visited_one join d at docs subtrees f)
    added : (i : ℕ) → length f.0 ≤ i → i < length (visited_one join d at docs subtrees f).0
        → IsOfTree join shape k rows i (visited_one join d at docs subtrees f)

  is_node_at : (d levels at id : ℕ) (path : List ℕ) (docs : List (List ℕ × S)) (f : Flat S) → d
      ≡ length path → d + levels ≡ k → dim (length path - 1) path ≡ id → HasDocs d at id docs f
      → IsOfTree join shape k rows at f
      → IsNode join d at id docs (under join shape levels d docs) f
  is_node_at d levels at id path docs f e sum last h o =
      subst (λ n. IsNode join n at id docs (under join shape levels n docs) f) (sym e)
      (is_node levels at id path docs f (omega (arith, e, sum)) last
      (subst (λ n. HasDocs n at id docs f) e h) o)

  above : (n i : ℕ) → nat_lt i n ≡ true → i < n
  above n i h = grind (arith, nat_tests)

  not_above : (n i : ℕ) → nat_lt i n ≡ false → n ≤ i
  not_above n i h = grind (arith, nat_tests)

  by_number : (P : ℕ → Type 0) (at i : ℕ) → at ≤ i → P at → (suc at ≤ i → P i) → P i
  by_number P at i le own more =
      elim (nat_lt at i) as (λ b. nat_lt at i ≡ b → P i) [
        | true ↦ λ e. let lt = above i at e in more (omega arith)
        | false ↦ λ e. let ge = not_above i at e in let same : at ≡ i = omega arith
            in subst P same own
      ] refl

  children_visited : (d e : ℕ) (docs : List (List ℕ × S)) (below : List (List ℕ × S) → Nodes S)
      (last : Nodes S)
      → ((v : ℕ) → (v == star) ≡ false → (at : ℕ) (f : Flat S) → at < length f.0
      → HasDocs d at v (docs_with e v docs) f
      → Visited d at (docs_with e v docs) (below (docs_with e v docs)) f)
      → ((at : ℕ) (f : Flat S) → at + count last ≤ length f.0 → ChildrenHaveDocs d at last f
      → Done at (count last) f (visited join d at last f))
      → (vs : List ℕ) → Avoids vs → (at : ℕ) (f : Flat S) → at
      + count (child_nodes_of below e docs last vs) ≤ length f.0
      → ChildrenHaveDocs d at (child_nodes_of below e docs last vs) f
      → Done at (count (child_nodes_of below e docs last vs)) f
      (visited join d at (child_nodes_of below e docs last vs) f)
  children_visited d e docs below last each end [] av at f in' has = end at f in' has
  children_visited d e docs below last each end (v ∷ vs) av at f in' has =
      let own = docs_with e v docs in
      let rest = child_nodes_of below e docs last vs in
      let lt : at < length f.0 = omega (arith, in') in
      let one = each v av.0 at f lt has.0 in
      let c = visited_one join d at own (below own) f in
      let g = visited join d (suc at) rest c in
      let grows = visit_grows join d at own (below own) f lt in
      let room : suc at + count rest ≤ length c.0 = omega (arith, in', grows.longer) in
      let more = children_visited d e docs below last each end vs av.1 (suc at) c room
      (ChildrenHaveDocs-grows (Outside at 1) d (suc at) rest f c grows has.1) in
      let rest_grows = visited_grows join d (suc at) rest c room in (
        λ i le l. by_number (λ n. IsOfTree join shape k rows n g) at i le
            (OfTree-grows (Outside (suc at) (count rest)) at c g rest_grows
            (inl (omega arith)) one.itself) (λ h. more.0 i h (omega (arith, l))),
        λ i le l. elim (nat_lt i (length c.0)) as
            (λ b. nat_lt i (length c.0) ≡ b → IsOfTree join shape k rows i g) [
              | true ↦ λ q. OfTree-grows (Outside (suc at) (count rest)) i c g rest_grows
                  (inr (omega (arith, in', le))) (one.added i le (above (length c.0) i q))
              | false ↦ λ q. more.1 i (not_above (length c.0) i q) l
            ] refl,
      )

  last_visited : (s : Bool) (d : ℕ) (sd : List (List ℕ × S)) (subtrees : Nodes S)
      → ((at : ℕ) (f : Flat S) → at < length f.0 → HasDocs d at star sd f → Visited d at sd subtrees f)
      → (at : ℕ) (f : Flat S) → at + count (cond s (node star sd subtrees none) none) ≤ length f.0
      → ChildrenHaveDocs d at (cond s (node star sd subtrees none) none) f
      → Done at (count (cond s (node star sd subtrees none) none)) f
      (visited join d at (cond s (node star sd subtrees none) none) f)
  last_visited false d sd subtrees one at f in' has =
      (λ i le l. absurd (omega arith), λ i le l. absurd (omega arith))
  last_visited true d sd subtrees one at f in' has =
      let v = one at f (omega (arith, in')) has.0 in (
        λ i le l. by_number
            (λ n. IsOfTree join shape k rows n (visited_one join d at sd subtrees f)) at i le v.itself
            (λ h. absurd (omega arith)),
        v.added,
      )

  -- a node is visited once its children are
  node_closed : (levels at : ℕ) (path : List ℕ) (docs : List (List ℕ × S)) (f : Flat S)
      (subtrees : Nodes S) → length path + levels ≡ k → At path docs → at < length f.0
      → HasDocs (length path) at (dim (length path - 1) path) docs f → subtrees
      ≡ under join shape levels (length path) docs
      → ChildrenHaveDocs (suc (length path)) (length f.0) subtrees (opened (length path) at subtrees f)
      → Done (length f.0) (count subtrees) (opened (length path) at subtrees f)
      (visited join (suc (length path)) (length f.0) subtrees (opened (length path) at subtrees f))
      → StarTotal join (length path) (length f.0) docs subtrees
      (visited join (suc (length path)) (length f.0) subtrees (opened (length path) at subtrees f))
      → Visited (length path) at docs subtrees f
  node_closed levels at path docs f subtrees sum is lt has subtrees_is opened_docs done star_total =
      let d = length path in
      let n = length f.0 in
      let id = dim (length path - 1) path in
      let f1 = opened d at subtrees f in
      let h = visited join (suc d) n subtrees f1 in
      let c = closed join d at n docs subtrees h in
      let start = (node_at f.0 at).start in
      let kn = child_nodes (suc d) start (length f.1) subtrees in
      let len1 = opened_length d at subtrees f in
      let opens : Grows (Outside n (count subtrees)) f f1 =
      opened_grows (Outside n (count subtrees)) d at subtrees f in
      let visits : Grows (Outside n (count subtrees)) f1 h =
      visited_grows join (suc d) n subtrees f1 (omega (arith, len1)) in
      let upto : Grows (Outside n (count subtrees)) f h =
      Grows-trans (Outside n (count subtrees)) (Outside n (count subtrees)) f f1 h opens visits
      (λ i p l. p) in
      let close : Grows (Outside at 1) h c = closed_grows join d at n docs subtrees h in
      let has_h : HasDocs d at id docs h =
      HasDocs-grows (Outside n (count subtrees)) d at id docs f h upto has in
      let some : 0 < length docs = let w =
      range_length join start (node_at f.0 at).end f.1 (omega (arith, has.order)) has.inside
      in let l = ap length has.docs_are in omega (arith, w, l, has.order) in
      let same_start : (node_at h.0 at).start
      ≡ start = ap (λ m. m.start) (same_unvisited (Outside n (count subtrees)) f h upto at lt) in
      let un : map unvisited f1.0 ≡ map unvisited f.0 ++ (kn ++ []) = map-append unvisited f.0 kn
      ∙ ap (λ l. map unvisited f.0 ++ l)
      (unvisited_children (suc d) start (length f.1) subtrees ∙ sym (append_none kn)) in
      let kn_len = length-child_nodes (suc d) start (length f.1) subtrees in
      let are : range n (n + count subtrees) (map unvisited h.0)
      ≡ child_nodes (suc d) (node_at h.0 at).start (length f.1) subtrees =
      children_range_grows (Outside n (count subtrees)) f1 h n (n + count subtrees) visits (omega arith)
      (omega (arith, len1))
      ∙ range_is n (n + count subtrees) (map unvisited f.0) kn [] (map unvisited f1.0)
      (length-map f.0 unvisited) (ap (λ m. n + m) kn_len) un
      ∙ ap (λ m. child_nodes (suc d) m (length f.1) subtrees) (sym same_start) in
      let node_is : IsNode join d at id docs subtrees c =
      close_is join d at id n docs subtrees h (length f.1) has_h lt
      (omega (arith, len1, visits.longer)) are
      (ChildrenHaveDocs-grows (Outside n (count subtrees))
      (suc d) n subtrees f1 h visits opened_docs) star_total
      (one_aggregated path docs (omega (arith, sum)) is some) in
      let close_len = closed_length join d at n docs subtrees h in
      record {
        itself = record {
          path = path;
          levels = levels;
          levels_are = sum;
          docs = docs;
          covers = covers_rows join j path rows docs is;
          is = subst (λ t. IsNode join d at id docs t c) subtrees_is node_is;
        };
        added = λ i le l. OfTree-grows (Outside at 1) i h c close (inr (omega arith))
            (elim (nat_lt i (n + count subtrees)) as
            (λ b. nat_lt i (n + count subtrees) ≡ b → IsOfTree join shape k rows i h) [
              | true ↦ λ q. done.0 i le (above (n + count subtrees) i q)
              | false ↦ λ q. done.1 i (omega (arith, len1, not_above (n + count subtrees) i q))
                  (omega (arith, l, close_len))
            ] refl);
      }

  no_star_none : (d n : ℕ) (docs : List (List ℕ × S)) (h : Flat S) → StarTotal join d n docs none h
  no_star_none d n docs h = λ e. cc

  last_total : (s : Bool) (d : ℕ) (docs sd : List (List ℕ × S)) (subtrees : Nodes S) → s ≡ true
      → total_below join d docs (cond s (node star sd subtrees none) none)
      ≡ total_doc join (suc d) sd subtrees
  last_total true d docs sd subtrees e = refl
  last_total false d docs sd subtrees e = cc

  last_count : (s : Bool) (sd : List (List ℕ × S)) (subtrees : Nodes S) → s ≡ true
      → count (cond s (node star sd subtrees none) none) ≡ 1
  last_count true sd subtrees e = refl
  last_count false sd subtrees e = cc

  node_visited : (levels at id : ℕ) (path : List ℕ) (docs : List (List ℕ × S)) (f : Flat S)
      → length path + levels ≡ k → dim (length path - 1) path ≡ id → At path docs → at < length f.0
      → HasDocs (length path) at id docs f
      → Visited (length path) at docs (under join shape levels (length path) docs) f
  node_visited zero at id path docs f sum last is lt has =
      node_closed zero at path docs f none sum is lt
      (subst (λ i. HasDocs (length path) at i docs f) (sym last) has) refl tt (
        λ i le l. absurd (omega arith),
        λ i le l. absurd
            (omega (arith, opened_length (length path) at none f)),
      )
      (no_star_none (length path) (length f.0) docs _)
  node_visited (suc m) at id path docs f sum last is lt has =
      let d = length path in
      let n = length f.0 in
      let below = under join shape m (suc d) in
      let sd = merged_docs join (rekey (set_star d) docs) in
      let s = not (skips shape d) && nat_lt 1 (length (ids_at join d docs)) in
      let end = star_child join below shape d docs in
      let vs = ids_at join d docs in
      let subtrees = child_nodes_of below d docs end vs in
      let f1 = opened d at subtrees f in
      let h = visited join (suc d) n subtrees f1 in
      let lt' : d < k = omega (arith, sum) in
      let av : Avoids vs = Avoids-ids join j path rows docs is k lt' no_star in
      let next : (v : ℕ) → length (path ++ (v ∷ [])) ≡ suc d = λ v. length_more path v in
      let has' : HasDocs d at (dim (length path - 1) path) docs f =
      subst (λ i. HasDocs d at i docs f) (sym last) has in
      let star_is : At (path ++ (star ∷ [])) sd = trees.star_docs join j path rows docs is in
      let visit = λ (v : ℕ) (ds : List (List ℕ × S)) (p : At (path ++ (v ∷ [])) ds) (a : ℕ)
      (g : Flat S) (l : a < length g.0) (hd : HasDocs (suc d) a v ds g).
      subst (λ e. Visited e a ds (under join shape m e ds) g) (next v)
      (node_visited m a v (path ++ (v ∷ [])) ds g (omega (arith, next v, sum)) (last_id path v) p l
      (subst (λ e. HasDocs e a v ds g) (sym (next v)) hd)) in
      let len1 = opened_length d at subtrees f in
      let opened_docs = node_opened (suc m) at
      (dim (length path - 1) path) path docs f sum is has' in
      elim (nat_le (length docs) shape.leaf) as
      (λ b. nat_le (length docs) shape.leaf ≡ b
      → ChildrenHaveDocs (suc d) n (cond b none subtrees) (opened d at (cond b none subtrees) f)
      → Visited d at docs (cond b none subtrees) f) [
        | true ↦ λ e o. node_closed (suc m) at path docs f none sum is lt has'
            (ap (λ b. cond b none subtrees) (sym e)) tt (
              λ i le l. absurd (omega arith),
              λ i le l. absurd
                  (omega (arith, opened_length (length path) at none f)),
            ) (no_star_none d n docs _)
        | false ↦ λ e o.
            let done = children_visited (suc d) d docs below end
            (λ v q a g l hd. visit v (docs_with d v docs)
            (own_docs join j path rows docs is v q) a g l hd)
            (last_visited s (suc d) sd (below sd)
            (λ a g l hd. visit star sd star_is a g l hd)) vs av n f1 (omega (arith, len1)) o in
            let visits = visited_grows join (suc d) n subtrees f1 (omega (arith, len1)) in
            let star_total : StarTotal join d n docs subtrees h = λ q.
            let yes : s ≡ true = sym
            (has_star-subtrees below d docs end vs av ∙ star_flag s sd (below sd)) ∙ q in
            let c = count_children join below d docs end vs in
            let one = last_count s sd (below sd) yes in
            let i : n + length vs ≡ n + (count subtrees - 1) = omega (arith, c, one) in
            let hd : HasDocs (suc d) (n + length vs) star sd h =
            HasDocs-grows (Outside n (count subtrees)) (suc d) (n + length vs) star sd f1 h visits
            (ChildrenHaveDocs-none s (suc d) (n + length vs) sd (below sd) f1 yes
            (last_has join d (suc d) docs below end f1 vs n o)) in
            let of_tree = done.0 (n + length vs) (omega arith) (omega (arith, c, one)) in
            let w = is_node_at (suc d) m (n + length vs) star (path ++ (star ∷ [])) sd h
            (sym (next star)) (omega (arith, sum)) (last_id path star) hd of_tree in
            let same : total_doc join (suc d) sd (below sd) ≡ total_doc join d docs subtrees =
            sym (split_total join d docs subtrees q ∙ below_children join j below d docs docs end vs av
            ∙ last_total s d docs sd (below sd) yes) in (
              subst (λ x. (node_at h.0 x).total < length h.1) i w.total_in,
              subst (λ x. range (node_at h.0 x).total (suc (node_at h.0 x).total) h.1
                  ≡ total_doc join d docs subtrees) i (w.total_is ∙ same),
            ) in
            node_closed (suc m) at path docs f subtrees sum is lt has'
            (ap (λ b. cond b none subtrees) (sym e)) o done star_total
      ] refl opened_docs

  -- every node of the flat tree is one of the nested tree
  root_flat : (docs : List (List ℕ × S)) → docs ≡ merged_docs join rows → (i : ℕ)
      → i < length (flat join (root_of join shape k docs)).0
      → IsOfTree join shape k rows i (flat join (root_of join shape k docs))
  root_flat [] is i lt = absurd (omega arith)
  root_flat (e ∷ es) is i lt =
      let docs = e ∷ es in
      let f : Flat S = (blank 0 star 0 (length docs) ∷ [], docs) in
      let whole : length docs - 0 ≡ length docs = omega arith in
      let has : HasDocs 0 0 star docs f = record {
        within = omega arith;
        level_is = refl;
        id_is = refl;
        order = omega arith;
        inside = omega arith;
        docs_are = ap (λ n. take n docs) whole ∙ take-length docs;
      } in
      let v = node_visited k 0 star [] docs f (omega arith) refl
      (is ∙ ap (merged_docs join) (sym (all_rows join j rows))) (omega arith) has in
      by_number (λ n. IsOfTree join shape k rows n (flat join (root_of join shape k docs))) 0 i
      (omega arith) v.itself (λ h. v.added i (omega arith) lt)

  pub nodes_of_tree : (i : ℕ) → i < length (flat join (tree_of join shape k rows)).0
      → IsOfTree join shape k rows i (flat join (tree_of join shape k rows))
  nodes_of_tree i lt = root_flat (merged_docs join rows) refl i lt

  -- and the nested tree is laid out from the root on
  module _ (f : Flat S) (all : (i : ℕ) → i < length f.0 → IsOfTree join shape k rows i f) where
    children_flat : (d e : ℕ) (docs : List (List ℕ × S)) (below : List (List ℕ × S) → Nodes S)
        (last : Nodes S)
        → ((v : ℕ) → (v == star) ≡ false → (at : ℕ) → HasDocs d at v (docs_with e v docs) f
        → IsNode join d at v (docs_with e v docs) (below (docs_with e v docs)) f
        × FlatAt join (suc d) (node_at f.0 at).first (below (docs_with e v docs)) f)
        → ((at : ℕ) → ChildrenHaveDocs d at last f → FlatAt join d at last f)
        → (vs : List ℕ) → Avoids vs → (at : ℕ) → ChildrenHaveDocs d at (child_nodes_of below e docs last vs) f
        → FlatAt join d at (child_nodes_of below e docs last vs) f
    children_flat d e docs below last each end [] av at has = end at has
    children_flat d e docs below last each end (v ∷ vs) av at has =
        let one = each v av.0 at has.0
        in (one.0, one.1, children_flat d e docs below last each end vs av.1 (suc at) has.1)

    last_flat : (s : Bool) (d : ℕ) (sd : List (List ℕ × S)) (subtrees : Nodes S)
        → ((at : ℕ) → HasDocs d at star sd f → IsNode join d at star sd subtrees f
        × FlatAt join (suc d) (node_at f.0 at).first subtrees f)
        → (at : ℕ) → ChildrenHaveDocs d at (cond s (node star sd subtrees none) none) f
        → FlatAt join d at (cond s (node star sd subtrees none) none) f
    last_flat false d sd subtrees one at has = tt
    last_flat true d sd subtrees one at has = let o = one at has.0 in (o.0, o.1, tt)

    node_flat : (d levels at id : ℕ) (path : List ℕ) (docs : List (List ℕ × S)) → d ≡ length path
        → d + levels ≡ k → dim (length path - 1) path ≡ id → At path docs → HasDocs d at id docs f
        → IsNode join d at id docs (under join shape levels d docs) f
        × FlatAt join (suc d) (node_at f.0 at).first (under join shape levels d docs) f
    node_flat d zero at id path docs e sum last is has =
        (is_node_at d zero at id path docs f e sum last has (all at has.within), tt)
    node_flat d (suc m) at id path docs e sum last is has =
        let below = under join shape m (suc d) in
        let sd = merged_docs join (rekey (set_star d) docs) in
        let s = not (skips shape d) && nat_lt 1 (length (ids_at join d docs)) in
        let end = star_child join below shape d docs in
        let vs = ids_at join d docs in
        let subtrees = child_nodes_of below d docs end vs in
        let lt : length path < k = omega (arith, e, sum) in
        let av : Avoids vs = subst (λ n. Avoids (ids_at join n docs)) (sym e)
        (Avoids-ids join j path rows docs is k lt no_star) in
        let next : (v : ℕ) → suc d ≡ length (path ++ (v ∷ [])) = λ v. ap suc e
        ∙ sym (length_more path v) in
        let here = is_node_at d (suc m) at id path docs f e sum last has (all at has.within) in
        let first = (node_at f.0 at).first in
        let star_is : At (path ++ (star ∷ [])) sd =
        ap (λ n. merged_docs join (rekey (set_star n) docs)) e
        ∙ trees.star_docs join j path rows docs is in (
          here,
          elim (nat_le (length docs) shape.leaf) as
              (λ b. ChildrenHaveDocs (suc d) first (cond b none subtrees) f
              → FlatAt join (suc d) first (cond b none subtrees) f) [
                | true ↦ λ _. tt
                | false ↦ λ has'. children_flat (suc d) d docs below end
                    (λ v q a h. node_flat (suc d) m a v (path ++ (v ∷ [])) (docs_with d v docs) (next v)
                    (omega arith) (last_id path v)
                    (ap (λ n. docs_with n v docs) e ∙ own_docs join j path rows docs is v q) h)
                    (last_flat s (suc d) sd (below sd)
                    (λ a h. node_flat (suc d) m a star (path ++ (star ∷ [])) sd (next star)
                    (omega arith) (last_id path star) star_is h)) vs av first has'
              ] here.children_docs,
        )

  -- the first node of a tree is the root
  root_docs : (docs : List (List ℕ × S)) → docs ≡ merged_docs join rows
      → FlatAt join 0 0 (root_of join shape k docs) (flat join (root_of join shape k docs))
  root_docs [] is = tt
  root_docs (e ∷ es) is =
      let docs = e ∷ es in
      let g = flat join (root_of join shape k docs) in
      let f : Flat S = (blank 0 star 0 (length docs) ∷ [], docs) in
      let whole : length docs - 0 ≡ length docs = omega arith in
      let has : HasDocs 0 0 star docs f = record {
        within = omega arith;
        level_is = refl;
        id_is = refl;
        order = omega arith;
        inside = omega arith;
        docs_are = ap (λ n. take n docs) whole ∙ take-length docs;
      } in
      let has_g = HasDocs-grows (Outside 0 1) 0 0 star docs f g
      (visit_grows join 0 0 docs (under join shape k 0 docs) f (omega arith)) has in
      let both = node_flat g (root_flat docs is) 0 k 0 star [] docs refl (omega arith) refl
      (is ∙ ap (merged_docs join) (sym (all_rows join j rows))) has_g in
      (both.0, both.1, tt)

  pub tree_flat : FlatAt join 0 0 (tree_of join shape k rows)
      (flat join (tree_of join shape k rows))
  tree_flat = root_docs (merged_docs join rows) refl
