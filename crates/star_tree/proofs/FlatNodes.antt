-- Each node of the flat tree is a node of the nested one.
use Rattle.std.proofs.Common.{◌≡◌, ℕ, zero, suc, ◌+◌, ◌-◌, ◌<◌, ◌≤◌, Bool, true, false, cond, ◌&&◌}
use Rattle.std.proofs.Common.{◌==◌, List, [], ◌∷◌, ◌++◌, map, length, take, Option, Some}
use Rattle.std.proofs.Common.{None, inl, inr, refl, sym, ap, subst, ◌∙◌, arith, append_assoc}
use Rattle.std.proofs.Common.{length-append}
use Rattle.std.specs.declared.cmp.Ordering.{Ordering}
use Rattle.std.specs.declared.cmp.Ordering.TheVariants.{Less, Equal, Greater}
use Rattle.std.specs.Ordering.{nat_cmp, is_lt, ordering_then}
use Rattle.std.specs.Cmp.Lexicographic.{slice_cmp}
use Rattle.std.specs.FinMap.{is_sorted}
use Rattle.std.specs.FinMap.Entries.{below_all}
use Rattle.std.proofs.lemmas.Bool.{cases_order, eqb-true}
use Rattle.std.proofs.lemmas.List.{get_or_at, get_or-set_same, length-map}
use Rattle.std.proofs.Math.Seq.{take-append_seam, drop-append_seam}
use Rattle.star_tree.specs.declared.node.Node.{Node}
use Rattle.agg_laws.specs.Merged.{join_some, total}
use Rattle.agg_laws.specs.Tree.{star, dims_order, dim, Nodes, none, node, has_star}
use Rattle.agg_laws.specs.Tree.{docs_with, child_nodes_of}
use Rattle.state_columns.specs.Documents.{aggregated, star_docs, total_here, total_below, total_doc}
use Rattle.state_columns.specs.Region.{range}
use Rattle.star_tree.specs.Flat.{blank, unvisited, node_at, count, child_nodes, Flat, filled}
use Rattle.star_tree.specs.Flat.{with_total, closed, HasDocs, ChildrenHaveDocs, IsNode}
use Rattle.star_tree.proofs.TreeLemmas.{Avoids, length_more}
use Rattle.star_tree.proofs.NodeLemmas.{DocsAt}
use Rattle.star_tree.proofs.Runs.{AtLeast, Rising, equal_is, greater_is, joined, Filled}
use Rattle.star_tree.proofs.FlatLemmas.{Outside, Grows, range-append, same_unvisited, more_docs}
use Rattle.star_tree.proofs.FlatLemmas.{closed_grows}
use Rattle.state_columns.proofs.ListLemmas.{append_none}
use Rattle.state_columns.proofs.ListLemmas.{range_length}

first : (a b : Bool) → (a && b) ≡ true → a ≡ true
first true b p = refl
first false b p = p

second : (a b : Bool) → (a && b) ≡ true → b ≡ true
second true b p = p
second false b p = cc

less : (o : Ordering) → is_lt o ≡ true → o ≡ Less
less Less p = refl
less Equal p = cc
less Greater p = cc

clash : {A : Type 0} → Greater ≡ Less → A
clash e = cc

head_is : (a b : ℕ) (xs ys : List ℕ) → a ∷ xs ≡ b ∷ ys → a ≡ b
head_is a b xs ys e = cc

tail_is : (a b : ℕ) (xs ys : List ℕ) → a ∷ xs ≡ b ∷ ys → xs ≡ ys
tail_is a b xs ys e = cc

lex_head : (a b : ℕ) (o : Ordering) → ordering_then (nat_cmp a b) o ≡ Less → a ≤ b
lex_head a b o e = elim (cases_order a b) as (λ _. a ≤ b) [
  | inl is ↦ omega (arith, is)
  | inr h ↦ elim h as (λ _. a ≤ b) [
    | inl lt ↦ omega (arith, lt)
    | inr gt ↦ clash
        (ap (λ r. ordering_then r o) (sym (greater_is a b gt)) ∙ e)
  ]
]

lex_le : (d : ℕ) (x y : List ℕ) → take d x ≡ take d y → slice_cmp nat_cmp x y ≡ Less → d < length x
    → d < length y → dim d x ≤ dim d y
lex_le d [] y t e h k = absurd (omega arith)
lex_le d (a ∷ as') [] t e h k = absurd (omega arith)
lex_le zero (a ∷ as') (b ∷ bs) t e h k = lex_head a b (slice_cmp nat_cmp as' bs) e
lex_le (suc d) (a ∷ as') (b ∷ bs) t e h k =
    lex_le d as' bs (tail_is a b (take d as') (take d bs) t)
    (ap (λ r. ordering_then r (slice_cmp nat_cmp as' bs))
    (sym (equal_is a b (head_is a b (take d as') (take d bs) t))) ∙ e) (omega arith)
    (omega arith)

at_least_of : {S : Type 0} (k : ℕ) (path x : List ℕ) (es : List (List ℕ × S)) → length path < k
    → length x ≡ k → take (length path) x ≡ path → DocsAt k path es → below_all dims_order x es
    ≡ true → AtLeast (length path) (dim (length path) x) es
at_least_of k path x [] lt l t h b = tt
at_least_of k path x (e ∷ es) lt l t h b = (
  lex_le (length path) x e.0 (t ∙ sym h.0.1) (less _ (first _ _ b)) (omega (arith, l))
      (omega (arith, h.0.0)),
  at_least_of k path x es lt l t h.1 (second _ _ b),
)

pub rising_docs : {S : Type 0} (k : ℕ) (path : List ℕ) (es : List (List ℕ × S)) → length path < k
    → DocsAt k path es → is_sorted dims_order es ≡ true → Rising (length path) es
rising_docs k path [] lt h s = tt
rising_docs k path (e ∷ es) lt h s = (
  at_least_of k path e.0 es lt h.0.0 h.0.1 h.1 (first _ _ s),
  rising_docs k path es lt h.1
      (second _ _ s),
)

-- a range in the middle
range_middle : {X : Type 0} (front own back : List X)
    → range (length front) (length front + length own) (front ++ (own ++ back)) ≡ own
range_middle front own back =
    let n : length front + length own - length front ≡ length own = omega arith in
    (λ i. take (n i) (drop-append_seam front (own ++ back) i)) ∙ take-append_seam own back

pub range_is : {X : Type 0} (from to : ℕ) (front own back all : List X) → length front ≡ from → from
    + length own ≡ to → all ≡ front ++ (own ++ back) → range from to all ≡ own
range_is from to front own back all f t is =
    (λ i. range (sym f i) (sym t i) (is i))
    ∙ ap (λ m. range (length front) (m + length own) (front ++ (own ++ back))) (sym f)
    ∙ range_middle front own back

pub last_id : (path : List ℕ) (v : ℕ) → dim (length (path ++ (v ∷ [])) - 1) (path ++ (v ∷ [])) ≡ v
last_id path v = let n : length (path ++ (v ∷ [])) - 1
    ≡ length path = omega (arith, length_more path v) in ap (λ m. dim m (path ++ (v ∷ []))) n
    ∙ get_or_at path v [] star (length path) refl

-- what is known of a node stays known
pub HasDocs-grows : {S : Type 0} (P : ℕ → Type 0) (d at id : ℕ) (docs : List (List ℕ × S))
    (f g : Flat S) → Grows P f g → HasDocs d at id docs f → HasDocs d at id docs g
HasDocs-grows P d at id docs f g grows s =
    let same = same_unvisited P f g grows at s.within in
    let from : (node_at g.0 at).start ≡ (node_at f.0 at).start = ap (λ n. n.start) same in
    let to : (node_at g.0 at).end ≡ (node_at f.0 at).end = ap (λ n. n.end) same in
    let more = more_docs P f g grows in
    record {
      within = omega (arith, grows.longer, s.within);
      level_is = ap (λ n. n.level) same ∙ s.level_is;
      id_is = ap (λ n. n.id) same ∙ s.id_is;
      order = omega (arith, from, to, s.order);
      inside = omega (arith, to, s.inside, more);
      docs_are = (λ i. range (from i) (to i) (grows.docs_are i))
          ∙ range-append (node_at f.0 at).start (node_at f.0 at).end f.1 grows.docs
          (omega (arith, s.order)) s.inside ∙ s.docs_are;
    }

pub ChildrenHaveDocs-grows : {S : Type 0} (P : ℕ → Type 0) (d at : ℕ) (subtrees : Nodes S) (f g : Flat S)
    → Grows P f g → ChildrenHaveDocs d at subtrees f → ChildrenHaveDocs d at subtrees g
ChildrenHaveDocs-grows P d at none f g grows s = tt
ChildrenHaveDocs-grows P d at (node id docs subtrees rest) f g grows s =
    (HasDocs-grows P d at id docs f g grows s.0, ChildrenHaveDocs-grows P d (suc at) rest f g grows s.1)

pub children_range_grows : {S : Type 0} (P : ℕ → Type 0) (f g : Flat S) (from to : ℕ) → Grows P f g
    → from ≤ to → to ≤ length f.0 → range from to (map unvisited g.0)
    ≡ range from to (map unvisited f.0)
children_range_grows P f g from to grows le in' =
    ap (range from to) grows.nodes_are
    ∙ range-append from to (map unvisited f.0) grows.nodes le
    (omega (arith, in', length-map f.0 unvisited))

module _ {S : Type 0} (join : S → S → S) where
  pub IsNode-grows : (P : ℕ → Type 0) (d at id : ℕ) (docs : List (List ℕ × S)) (subtrees : Nodes S)
      (f g : Flat S) → Grows P f g → P at → IsNode join d at id docs subtrees f
      → IsNode join d at id docs subtrees g
  IsNode-grows P d at id docs subtrees f g grows p s =
      let same : node_at g.0 at ≡ node_at f.0 at = grows.stay at p s.docs_are.within in
      let total : (node_at g.0 at).total ≡ (node_at f.0 at).total = ap (λ n. n.total) same in
      let first : (node_at g.0 at).first ≡ (node_at f.0 at).first = ap (λ n. n.first) same in
      let start : (node_at g.0 at).start ≡ (node_at f.0 at).start = ap (λ n. n.start) same in
      let more = more_docs P f g grows in
      record {
        docs_are = HasDocs-grows P d at id docs f g grows s.docs_are;
        total_in = omega (arith, total, s.total_in, more);
        total_is = (λ i. range (total i) (suc (total i)) (grows.docs_are i))
            ∙ range-append (node_at f.0 at).total (suc (node_at f.0 at).total) f.1 grows.docs
            (omega arith) s.total_in ∙ s.total_is;
        children_are = ap (λ n. n.children) same ∙ s.children_are;
        leaf = λ z. first ∙ s.leaf z;
        later = λ z. let l = s.later z in omega (arith, l, first);
        children_in = omega (arith, s.children_in, first, grows.longer);
        star_from = s.star_from;
        nodes_are = (λ i. range (first i) (first i + count subtrees) (map unvisited g.0))
            ∙ children_range_grows P f g (node_at f.0 at).first
            ((node_at f.0 at).first + count subtrees) grows (omega arith) s.children_in
            ∙ s.nodes_are ∙ ap (λ n. child_nodes (suc d) n s.star_from subtrees) (sym start);
        children_docs = subst (λ n. ChildrenHaveDocs (suc d) n subtrees g) (sym first)
            (ChildrenHaveDocs-grows P (suc d) (node_at f.0 at).first subtrees f g grows s.children_docs);
      }

  -- a node once its total and children are known
  as_node : (d at id : ℕ) (docs : List (List ℕ × S)) (subtrees : Nodes S) (h : Flat S)
      (total first children to : ℕ) (all : List (List ℕ × S))
      → HasDocs d at id docs h → Grows (Outside at 1) h (filled at total first children h.0, all)
      → total < length all → range total (suc total) all ≡ total_doc join d docs subtrees
      → children ≡ count subtrees → (count subtrees ≡ 0 → first ≡ 0) → (0 < count subtrees → at < first) → first
      + count subtrees ≤ length h.0
      → range first (first + count subtrees) (map unvisited h.0)
      ≡ child_nodes (suc d) (node_at h.0 at).start to subtrees → ChildrenHaveDocs (suc d) first subtrees h
      → IsNode join d at id docs subtrees (filled at total first children h.0, all)
  as_node d at id docs subtrees h total first children to all s grows total_in total_is c leaf later
      children_in nodes_are children_docs =
      let lt : at < length h.0 = s.within in
      let here : node_at (filled at total first children h.0) at
      ≡ record (node_at h.0 at) { total = total; first = first; children = children } =
      rw get_or-set_same refl in
      let f' : (node_at (filled at total first children h.0) at).first
      ≡ first = ap (λ n. n.first) here in
      let t' : (node_at (filled at total first children h.0) at).total
      ≡ total = ap (λ n. n.total) here in
      record {
        docs_are = HasDocs-grows (Outside at 1) d at id docs h
            (filled at total first children h.0, all) grows s;
        total_in = omega (arith, t', total_in);
        total_is = ap (λ n. range n (suc n) all) t' ∙ total_is;
        children_are = ap (λ n. n.children) here ∙ c;
        leaf = λ z. f' ∙ leaf z;
        later = λ z. let l = later z in omega (arith, l, f');
        children_in = omega (arith, children_in, f', grows.longer);
        star_from = to;
        nodes_are = ap (λ n. range n (n + count subtrees)
            (map unvisited (filled at total first children h.0))) f'
            ∙ children_range_grows (Outside at 1) h (filled at total first children h.0, all) first
            (first + count subtrees) grows (omega arith) children_in
            ∙ nodes_are ∙ ap (λ n. child_nodes (suc d) n.start to subtrees) (sym here);
        children_docs = subst (λ n. ChildrenHaveDocs (suc d) n subtrees
            (filled at total first children h.0, all)) (sym f')
            (ChildrenHaveDocs-grows (Outside at 1) (suc d) first subtrees h
            (filled at total first children h.0, all) grows children_docs);
      }

  -- the total of a star child is that of its parent
  abbrev pub StarTotal : ℕ → ℕ → List (List ℕ × S) → Nodes S → Flat S → Type 0
  StarTotal d n docs subtrees h = has_star subtrees ≡ true
      → ((node_at h.0 (n + (count subtrees - 1))).total < length h.1)
      × (range (node_at h.0 (n + (count subtrees - 1))).total
      (suc (node_at h.0 (n + (count subtrees - 1))).total) h.1 ≡ total_doc join d docs subtrees)

  end_total : (h : Flat S) (own : List (List ℕ × S)) → length own ≡ 1
      → range (length h.1) (suc (length h.1)) (h.1 ++ own) ≡ own
  end_total h own one = range_is (length h.1) (suc (length h.1)) h.1 own [] (h.1 ++ own) refl
      (omega (arith, one)) (ap (λ l. h.1 ++ l) (sym (append_none own)))

  end_in : (h : Flat S) (own : List (List ℕ × S)) → length own ≡ 1
      → length h.1 < length (h.1 ++ own)
  end_in h own one = omega (arith, one, length-append h.1 own)

  pub split_total : (d : ℕ) (docs : List (List ℕ × S)) (subtrees : Nodes S) → has_star subtrees ≡ true
      → total_doc join d docs subtrees ≡ total_below join d docs subtrees
  split_total d docs none e = cc
  split_total d docs (node id own subtrees rest) e = refl

  no_star_total : (d : ℕ) (docs : List (List ℕ × S)) (subtrees : Nodes S) → has_star subtrees ≡ false
      → total_below join d docs subtrees ≡ aggregated join d docs
  no_star_total d docs none e = refl
  no_star_total d docs (node id own subtrees rest) e =
      elim (id == star) as
      (λ b. cond b true (has_star rest) ≡ false
      → cond b (total_here join (suc d) own subtrees (total_below join (suc d) own subtrees))
      (total_below join d docs rest) ≡ aggregated join d docs) [
        | true ↦ λ e. cc
        | false ↦ λ e. no_star_total d docs rest e
      ] e

  -- a node is closed
  pub close_is : (d at id n : ℕ) (docs : List (List ℕ × S)) (subtrees : Nodes S) (h : Flat S) (to : ℕ)
      → HasDocs d at id docs h → at < n → n + count subtrees ≤ length h.0
      → range n (n + count subtrees) (map unvisited h.0)
      ≡ child_nodes (suc d) (node_at h.0 at).start to subtrees → ChildrenHaveDocs (suc d) n subtrees h
      → StarTotal d n docs subtrees h
      → length (aggregated join d docs) ≡ 1
      → IsNode join d at id docs subtrees (closed join d at n docs subtrees h)
  close_is d at id n docs none h to s lt in' are has star_total one =
      let start = (node_at h.0 at).start in
      let own : Flat S = (filled at start 0 0 h.0, h.1) in
      let more : Flat S = with_total join d at 0 0 docs h in
      elim (length docs == 1) as
      (λ b. (length docs == 1) ≡ b → Grows (Outside at 1) h (cond b own more)
      → IsNode join d at id docs none (cond b own more)) [
        | true ↦ λ e grows.
            let l : length docs ≡ 1 = eqb-true (length docs) 1 e in
            let w : length docs ≡ (node_at h.0 at).end - start = ap length (sym s.docs_are)
            ∙ range_length join start (node_at h.0 at).end h.1 (omega (arith, s.order)) s.inside in
            let next : suc start ≡ (node_at h.0 at).end = omega (arith, l, w, s.order) in
            as_node d at id docs none h start 0 0 to h.1 s grows (omega (arith, s.order, s.inside))
            (ap (λ n. range start n h.1) next ∙ s.docs_are
            ∙ ap (λ b. cond b docs (aggregated join d docs)) (sym e)) refl (λ _. refl)
            (λ z. absurd (omega (arith, z))) (omega arith) refl tt
        | false ↦ λ e grows.
            let agg = aggregated join d docs in
            as_node d at id docs none h (length h.1) 0 0 to (h.1 ++ agg) s grows (end_in h agg one)
            (end_total h agg one ∙ ap (λ b. cond b docs agg) (sym e)) refl (λ _. refl)
            (λ z. absurd (omega (arith, z))) (omega arith) refl tt
      ] refl (closed_grows join d at n docs none h)
  close_is d at id n docs (node id' own below rest) h to s lt in' are has star_total one =
      let subtrees = node id' own below rest in
      let m = n + count rest in
      let old : Flat S = (filled at (node_at h.0 m).total n (suc (count rest)) h.0, h.1) in
      let more : Flat S = with_total join d at n (suc (count rest)) docs h in
      elim (has_star subtrees) as
      (λ b. has_star subtrees ≡ b → Grows (Outside at 1) h (cond b old more)
      → IsNode join d at id docs subtrees (cond b old more)) [
        | true ↦ λ e grows.
            let i : n + (suc (count rest) - 1) ≡ m = omega arith in
            let t = star_total e in
            as_node d at id docs subtrees h (node_at h.0 m).total n (suc (count rest)) to h.1 s grows
            (subst (λ j. (node_at h.0 j).total < length h.1) i t.0)
            (subst (λ j. range (node_at h.0 j).total (suc (node_at h.0 j).total) h.1
            ≡ total_doc join d docs subtrees) i t.1) refl (λ z. absurd (omega (arith, z)))
            (λ _. lt) in' are has
        | false ↦ λ e grows.
            let agg = aggregated join d docs in
            as_node d at id docs subtrees h (length h.1) n (suc (count rest)) to (h.1 ++ agg) s grows
            (end_in h agg one) (end_total h agg one ∙ sym (no_star_total d docs subtrees e)) refl
            (λ z. absurd (omega (arith, z))) (λ _. lt) in' are has
      ] refl (closed_grows join d at n docs subtrees h)

  -- children that get their numbers
  module _ (d to : ℕ) (docs : List (List ℕ × S)) (below : List (List ℕ × S) → Nodes S)
      (last : Nodes S) (g : Flat S) where
    pub children_opened : (vs : List ℕ) → Avoids vs → Filled join d docs vs
        → (pre : List Node) (from : ℕ) (front back : List (List ℕ × S)) → g.0 ≡ pre
        ++ child_nodes (suc d) from to (child_nodes_of below d docs last vs)
        → length front ≡ from → g.1 ≡ front ++ (joined join d docs vs ++ back)
        → ((pre' : List Node) (from' : ℕ) → g.0 ≡ pre' ++ child_nodes (suc d) from' to last
        → ChildrenHaveDocs (suc d) (length pre') last g)
        → ChildrenHaveDocs (suc d) (length pre) (child_nodes_of below d docs last vs) g
    children_opened [] av fill pre from front back is f ds end = end pre from is
    children_opened (v ∷ vs) av fill pre from front back is f ds end =
        let own = docs_with d v docs in
        let here = blank (suc d) v from (from + length own) in
        let rest = child_nodes_of below d docs last vs in
        let next = child_nodes (suc d) (from + length own) to rest in
        let is' : g.0 ≡ pre ++ (here ∷ next) = is
        ∙ ap (λ b. pre ++ (cond b (blank (suc d) v to (to + length own)) here
        ∷ child_nodes (suc d) (cond b from (from + length own)) to rest)) av.0 in
        let at : node_at g.0 (length pre) ≡ here = ap (λ l. node_at l (length pre)) is'
        ∙ get_or_at pre here next (blank 0 0 0 0) (length pre) refl in
        let n : length (pre ++ (here ∷ [])) ≡ suc (length pre) = length-append pre (here ∷ [])
        ∙ (let k : length pre + 1 ≡ suc (length pre) = omega arith in k) in
        let after = joined join d docs vs ++ back in
        let ds' : g.1 ≡ front ++ (own ++ after) = ds
        ∙ ap (λ l. front ++ l) (append_assoc own (joined join d docs vs) back) in
        let total : length g.1 ≡ length front + (length own + length after) = ap length ds'
        ∙ length-append front (own ++ after)
        ∙ ap (λ m. length front + m) (length-append own after) in (
          record {
            within = omega (arith, ap length is', length-append pre (here ∷ next));
            level_is = ap (λ m. m.level) at;
            id_is = ap (λ m. m.id) at;
            order = subst (λ m. m.start < m.end) (sym at) (omega (arith, fill.0));
            inside = subst (λ m. m.end ≤ length g.1) (sym at) (omega (arith, total, f));
            docs_are = ap (λ m. range m.start m.end g.1) at
                ∙ range_is from (from + length own) front own after g.1 f refl ds';
          },
          subst (λ m. ChildrenHaveDocs (suc d) m rest g) n
              (children_opened vs av.1 fill.1 (pre ++ (here ∷ [])) (from + length own)
              (front ++ own) back
              (is' ∙ sym (append_assoc pre (here ∷ []) next))
              (length-append front own ∙ ap (λ m. m + length own) f)
              (ds' ∙ sym (append_assoc front own after)) end),
        )

  pub last_opened : (s : Bool) (d to : ℕ) (sd : List (List ℕ × S)) (subtrees : Nodes S) (g : Flat S)
      (front : List (List ℕ × S)) → 0 < length sd → (s ≡ true → g.1 ≡ front ++ sd) → length front
      ≡ to
      → (pre : List Node) (from : ℕ) → g.0 ≡ pre
      ++ child_nodes (suc d) from to (cond s (node star sd subtrees none) none)
      → ChildrenHaveDocs (suc d) (length pre) (cond s (node star sd subtrees none) none) g
  last_opened false d to sd subtrees g front some ds f pre from is = tt
  last_opened true d to sd subtrees g front some ds f pre from is =
      let here = blank (suc d) star to (to + length sd) in
      let at : node_at g.0 (length pre) ≡ here = ap (λ l. node_at l (length pre)) is
      ∙ get_or_at pre here [] (blank 0 0 0 0) (length pre) refl in
      let ds' : g.1 ≡ front ++ (sd ++ []) = ds refl ∙ ap (λ l. front ++ l) (sym (append_none sd)) in
      let total : length g.1 ≡ length front + length sd = ap length (ds refl)
      ∙ length-append front sd in (
        record {
          within = omega (arith, ap length is, length-append pre (here ∷ []));
          level_is = ap (λ m. m.level) at;
          id_is = ap (λ m. m.id) at;
          order = subst (λ m. m.start < m.end) (sym at) (omega (arith, some));
          inside = subst (λ m. m.end ≤ length g.1) (sym at) (omega (arith, total, f));
          docs_are = ap (λ m. range m.start m.end g.1) at
              ∙ range_is to (to + length sd) front sd [] g.1 f refl ds';
        },
        tt,
      )

  pub star_docs_children : (below : List (List ℕ × S) → Nodes S) (d : ℕ) (docs : List (List ℕ × S))
      (last : Nodes S) (vs : List ℕ) → Avoids vs → star_docs (child_nodes_of below d docs last vs)
      ≡ star_docs last
  star_docs_children below d docs last [] av = refl
  star_docs_children below d docs last (v ∷ vs) av =
      ap (λ b. cond b (docs_with d v docs) (star_docs (child_nodes_of below d docs last vs))) av.0
      ∙ star_docs_children below d docs last vs av.1

  pub count_children : (below : List (List ℕ × S) → Nodes S) (d : ℕ) (docs : List (List ℕ × S))
      (last : Nodes S) (vs : List ℕ) → count (child_nodes_of below d docs last vs) ≡ length vs + count last
  count_children below d docs last [] = omega arith
  count_children below d docs last (v ∷ vs) = let more = count_children below d docs last vs
      in omega (arith, more)

  pub star_child_docs : (s : Bool) (sd : List (List ℕ × S)) (subtrees : Nodes S) → s ≡ true
      → star_docs (cond s (node star sd subtrees none) none) ≡ sd
  star_child_docs true sd subtrees e = refl
  star_child_docs false sd subtrees e = cc

  pub last_has : (d e : ℕ) (docs : List (List ℕ × S)) (below : List (List ℕ × S) → Nodes S)
      (last : Nodes S) (f : Flat S) (vs : List ℕ) (at : ℕ)
      → ChildrenHaveDocs e at (child_nodes_of below d docs last vs) f → ChildrenHaveDocs e (at + length vs) last f
  last_has d e docs below last f [] at h = let n : at ≡ at + 0 = omega arith
      in subst (λ m. ChildrenHaveDocs e m last f) n h
  last_has d e docs below last f (v ∷ vs) at h = let n : suc at + length vs ≡ at
      + suc (length vs) = omega arith
      in subst (λ m. ChildrenHaveDocs e m last f) n (last_has d e docs below last f vs (suc at) h.1)

  pub some_total : (es : List (List ℕ × S)) → 0 < length es → (s : S)
      × (total join (λ _. true) es ≡ Some s)
  some_total [] h = absurd (omega arith)
  some_total (e ∷ es) h = step (total join (λ _. true) es)
    where
      step : (o : Option S) → (s : S) × (join_some join (Some e.1) o ≡ Some s)
      step None = (e.1, refl)
      step (Some u) = (join e.1 u, refl)
