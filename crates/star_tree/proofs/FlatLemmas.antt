-- What a visit changes: documents and nodes are only added, and of the nodes only those visited
-- change.
use Rattle.std.proofs.Common.{◌≡◌, ◌≢◌, ℕ, zero, suc, ◌+◌, ◌-◌, ◌<◌, ◌≤◌, Bool, true, false, cond}
use Rattle.std.proofs.Common.{◌==◌, List, [], ◌∷◌, ◌++◌, map, length, take, drop, set, inl, inr}
use Rattle.std.proofs.Common.{◌⊎◌, refl, sym, ap, ◌∙◌, arith, append_assoc, length-append}
use Rattle.std.proofs.Common.{length-drop}
use Rattle.star_tree.specs.declared.node.Node.{Node}
use Rattle.agg_laws.specs.Tree.{star, Nodes, none, node, has_star}
use Rattle.state_columns.specs.Documents.{aggregated, star_docs, visit_of, visits_of, documents_of}
use Rattle.state_columns.specs.Region.{range}
use Rattle.star_tree.specs.Flat.{blank, unvisited, node_at, count, child_nodes, Flat, opened, filled}
use Rattle.star_tree.specs.Flat.{with_total, closed, visited, visited_one, flat, nodes_in}
use Rattle.std.proofs.lemmas.List.{get_or_append_left, get_or-set_other, length-set, length-map}
use Rattle.std.proofs.lemmas.List.{map-append, take-append-le, drop-append-le}
use Rattle.state_columns.proofs.ListLemmas.{append_none}

-- no number from `at` on, of which there are c
abbrev pub Outside : ℕ → ℕ → ℕ → Type 0
Outside at c i = (i < at) ⊎ (at + c ≤ i)

pub range-append : {X : Type 0} (from to : ℕ) (ds es : List X) → from ≤ to → to ≤ length ds
    → range from to (ds ++ es) ≡ range from to ds
range-append from to ds es le in' =
    ap (take (to - from)) (drop-append-le from ds es (omega arith))
    ∙ take-append-le (to - from) (drop from ds) es (omega (arith, length-drop from ds))

-- nodes as they were before their visits
pub unvisited_at : (ns : List Node) (i : ℕ) → node_at (map unvisited ns) i
    ≡ unvisited (node_at ns i)
unvisited_at [] i = refl
unvisited_at (n ∷ ns) zero = refl
unvisited_at (n ∷ ns) (suc i) = unvisited_at ns i

unvisited_set : (ns : List Node) (at : ℕ) (x : Node) → unvisited x ≡ unvisited (node_at ns at)
    → map unvisited (set ns at x) ≡ map unvisited ns
unvisited_set [] at x h = refl
unvisited_set (n ∷ ns) zero x h = ap (λ y. y ∷ map unvisited ns) h
unvisited_set (n ∷ ns) (suc at) x h = ap (λ t. unvisited n ∷ t) (unvisited_set ns at x h)

filled_unvisited : (at total first children : ℕ) (ns : List Node)
    → map unvisited (filled at total first children ns) ≡ map unvisited ns
filled_unvisited at total first children ns =
    unvisited_set ns at (record
    (node_at ns at) { total = total; first = first; children = children }) refl

filled_stays : (at total first children : ℕ) (ns : List Node) (i : ℕ) → i ≢ at
    → node_at (filled at total first children ns) i ≡ node_at ns i
filled_stays at total first children ns i ne = rw get_or-set_other refl

within : (at c i : ℕ) → Outside at (suc c) i → Outside at 1 i
within at c i (inl h) = inl h
within at c i (inr h) = inr (omega arith)

after : (at c i : ℕ) → Outside at (suc c) i → Outside (suc at) c i
after at c i (inl h) = inl (omega arith)
after at c i (inr h) = inr (omega arith)

pub length-child_nodes : {S : Type 0} (d from to : ℕ) (subtrees : Nodes S)
    → length (child_nodes d from to subtrees) ≡ count subtrees
length-child_nodes d from to none = refl
length-child_nodes d from to (node id docs subtrees rest) =
    ap suc (length-child_nodes d (cond (id == star) from (from + length docs)) to rest)

pub unvisited_children : {S : Type 0} (d from to : ℕ) (subtrees : Nodes S)
    → map unvisited (child_nodes d from to subtrees) ≡ child_nodes d from to subtrees
unvisited_children d from to none = refl
unvisited_children d from to (node id docs subtrees rest) =
    (λ i. one (id == star) d id from to (length docs) i
    ∷ unvisited_children d (cond (id == star) from (from + length docs)) to rest i)
  where
    one : (b : Bool) (d id from to n : ℕ)
        → unvisited (cond b (blank d id to (to + n)) (blank d id from (from + n)))
        ≡ cond b (blank d id to (to + n)) (blank d id from (from + n))
    one true d id from to n = refl
    one false d id from to n = refl

-- documents and nodes are added, and the old nodes of which P speaks stay
pub record Grows {S : Type 0} (P : ℕ → Type 0) (f g : Flat S) : Type 0 where
  pub docs : List (List ℕ × S)
  pub docs_are : g.1 ≡ f.1 ++ docs
  pub nodes : List Node
  pub nodes_are : map unvisited g.0 ≡ map unvisited f.0 ++ nodes
  pub longer : length f.0 ≤ length g.0
  pub stay : (i : ℕ) → P i → i < length f.0 → node_at g.0 i ≡ node_at f.0 i

module _ {S : Type 0} where
  -- level, id and range of an old node stay
  pub same_unvisited : (P : ℕ → Type 0) (f g : Flat S) → Grows P f g → (i : ℕ) → i < length f.0
      → unvisited (node_at g.0 i) ≡ unvisited (node_at f.0 i)
  same_unvisited P f g a i lt =
      sym (unvisited_at g.0 i) ∙ ap (λ ns. node_at ns i) a.nodes_are
      ∙ get_or_append_left (map unvisited f.0) a.nodes (blank 0 0 0 0) i
      (omega (arith, length-map f.0 unvisited)) ∙ unvisited_at f.0 i

  pub more_docs : (P : ℕ → Type 0) (f g : Flat S) → Grows P f g → length f.1 ≤ length g.1
  more_docs P f g a = omega (arith, ap length a.docs_are, length-append f.1 a.docs)

  pub Grows-none : (P : ℕ → Type 0) (f : Flat S) → Grows P f f
  Grows-none P f = record {
    docs = [];
    docs_are = sym (append_none f.1);
    nodes = [];
    nodes_are =
        sym (append_none (map unvisited f.0));
    longer = omega arith;
    stay = λ i h k. refl;
  }

  pub Grows-trans : (P Q : ℕ → Type 0) (f g h : Flat S) → Grows P f g → Grows Q g h
      → ((i : ℕ) → P i → i < length f.0 → Q i) → Grows P f h
  Grows-trans P Q f g h a b to = record {
    docs = a.docs ++ b.docs;
    docs_are = b.docs_are ∙ ap (λ l. l ++ b.docs) a.docs_are ∙ append_assoc f.1 a.docs b.docs;
    nodes = a.nodes ++ b.nodes;
    nodes_are = b.nodes_are ∙ ap (λ l. l ++ b.nodes) a.nodes_are
        ∙ append_assoc (map unvisited f.0) a.nodes b.nodes;
    longer = omega (arith, a.longer, b.longer);
    stay = λ i p l. b.stay i (to i p l) (omega (arith, a.longer)) ∙ a.stay i p l;
  }

  filled_grows : (at total first children : ℕ) (f : Flat S) (docs : List (List ℕ × S))
      → Grows (Outside at 1) f (filled at total first children f.0, f.1 ++ docs)
  filled_grows at total first children f docs = record {
    docs = docs;
    docs_are = refl;
    nodes = [];
    nodes_are = filled_unvisited at total first children f.0
        ∙ sym (append_none (map unvisited f.0));
    longer = omega (arith, length-set {A = Node});
    stay = λ i p l. filled_stays at total first children f.0 i (omega arith);
  }

  filled_alone : (at total first children : ℕ) (f : Flat S)
      → Grows (Outside at 1) f (filled at total first children f.0, f.1)
  filled_alone at total first children f = record {
    docs = [];
    docs_are = sym (append_none f.1);
    nodes = [];
    nodes_are = filled_unvisited at total first children f.0
        ∙ sym (append_none (map unvisited f.0));
    longer = omega (arith, length-set {A = Node});
    stay = λ i p l. filled_stays at total first children f.0 i (omega arith);
  }

  pub opened_grows : (P : ℕ → Type 0) (d at : ℕ) (subtrees : Nodes S) (f : Flat S)
      → Grows P f (opened d at subtrees f)
  opened_grows P d at subtrees f =
      let more = child_nodes (suc d) (node_at f.0 at).start (length f.1) subtrees in
      record {
        docs = star_docs subtrees;
        docs_are = refl;
        nodes = map unvisited more;
        nodes_are = map-append unvisited f.0 more;
        longer = omega (arith, length-append f.0 more);
        stay = λ i p l. get_or_append_left f.0 more (blank 0 0 0 0) i l;
      }

  pub opened_length : (d at : ℕ) (subtrees : Nodes S) (f : Flat S) → length (opened d at subtrees f).0
      ≡ length f.0 + count subtrees
  opened_length d at subtrees f =
      let more = child_nodes (suc d) (node_at f.0 at).start (length f.1) subtrees in
      length-append f.0 more
      ∙ ap (λ m. length f.0 + m)
      (length-child_nodes (suc d) (node_at f.0 at).start (length f.1) subtrees)

  module _ (join : S → S → S) where
    chosen_grows : (P : ℕ → Type 0) (b : Bool) (f g h : Flat S) → Grows P f g → Grows P f h
        → Grows P f (cond b g h)
    chosen_grows P true f g h x y = x
    chosen_grows P false f g h x y = y

    pub closed_grows : (d at first : ℕ) (docs : List (List ℕ × S)) (subtrees : Nodes S) (f : Flat S)
        → Grows (Outside at 1) f (closed join d at first docs subtrees f)
    closed_grows d at first docs none f =
        chosen_grows (Outside at 1) (length docs == 1) f _ _ (filled_alone at _ 0 0 f)
        (filled_grows at (length f.1) 0 0 f (aggregated join d docs))
    closed_grows d at first docs (node id own below rest) f =
        chosen_grows (Outside at 1) (has_star (node id own below rest)) f _ _
        (filled_alone at _ first _ f)
        (filled_grows at (length f.1) first _ f (aggregated join d docs))

    pub visit_step : (d at : ℕ) (docs : List (List ℕ × S)) (subtrees : Nodes S) (f g : Flat S)
        → at < length f.0 → Grows (Outside (length f.0) (count subtrees)) (opened d at subtrees f) g
        → Grows (Outside at 1) f (closed join d at (length f.0) docs subtrees g)
    visit_step d at docs subtrees f g lt more =
        Grows-trans (Outside at 1) (Outside at 1) f g _
        (Grows-trans (Outside at 1) (Outside (length f.0) (count subtrees)) f (opened d at subtrees f) g
        (opened_grows (Outside at 1) d at subtrees f) more (λ i p l. inl l))
        (closed_grows d at (length f.0) docs subtrees g) (λ i p l. p)

    pub visited_grows : (d at : ℕ) (subtrees : Nodes S) (f : Flat S) → at + count subtrees ≤ length f.0
        → Grows (Outside at (count subtrees)) f (visited join d at subtrees f)
    visited_grows d at none f lt = Grows-none (Outside at 0) f
    visited_grows d at (node id docs subtrees rest) f lt =
        let one = visit_step d at docs subtrees f
        (visited join (suc d) (length f.0) subtrees (opened d at subtrees f)) (omega arith)
        (visited_grows (suc d) (length f.0) subtrees (opened d at subtrees f)
        (omega (arith, opened_length d at subtrees f))) in
        Grows-trans (Outside at (suc (count rest))) (Outside (suc at) (count rest)) f _ _
        (Grows-trans (Outside at (suc (count rest))) (Outside at 1) f f _ (Grows-none _ f) one
        (λ i p l. within at (count rest) i p))
        (visited_grows d (suc at) rest (visited_one join d at docs subtrees f)
        (omega (arith, one.longer))) (λ i p l. after at (count rest) i p)

    pub visit_grows : (d at : ℕ) (docs : List (List ℕ × S)) (subtrees : Nodes S) (f : Flat S)
        → at < length f.0 → Grows (Outside at 1) f (visited_one join d at docs subtrees f)
    visit_grows d at docs subtrees f lt =
        visit_step d at docs subtrees f (visited join (suc d) (length f.0) subtrees (opened d at subtrees f)) lt
        (visited_grows (suc d) (length f.0) subtrees (opened d at subtrees f)
        (omega (arith, opened_length d at subtrees f)))

    -- the documents are those of the definition, in its order
    closed_docs : (d at first : ℕ) (docs below : List (List ℕ × S)) (subtrees : Nodes S) (f g : Flat S)
        → g.1 ≡ (f.1 ++ star_docs subtrees) ++ below → (subtrees ≡ none → below ≡ [])
        → (closed join d at first docs subtrees g).1 ≡ f.1 ++ visit_of join d docs subtrees below
    closed_docs d at first docs below none f g is nothing =
        let g1 : g.1 ≡ f.1 = is ∙ (λ i. append_none f.1 i ++ nothing refl i) ∙ append_none f.1 in
        elim (length docs == 1) as
        (λ b. (cond b (filled at (node_at g.0 at).start 0 0 g.0, g.1)
        (with_total join d at 0 0 docs g)).1 ≡ f.1 ++ cond b [] (aggregated join d docs))
        [ true ↦ g1 ∙ sym (append_none f.1) | false ↦ ap (λ l. l ++ aggregated join d docs) g1 ]
    closed_docs d at first docs below (node id own subtrees rest) f g is nothing =
        let sd = star_docs (node id own subtrees rest) in
        elim (has_star (node id own subtrees rest)) as
        (λ b. (cond b (
          filled at (node_at g.0 (first + count rest)).total first
              (suc (count rest)) g.0,
          g.1,
        ) (with_total join d at first (suc (count rest)) docs g)).1
        ≡ f.1 ++ (sd ++ (below ++ cond b [] (aggregated join d docs)))) [
          | true ↦ is ∙ append_assoc f.1 sd below
              ∙ ap (λ l. f.1 ++ (sd ++ l)) (sym (append_none below))
          | false ↦ ap (λ l. l ++ aggregated join d docs) is
              ∙ append_assoc (f.1 ++ sd) below (aggregated join d docs)
              ∙ append_assoc f.1 sd (below ++ aggregated join d docs)
        ]

    none_below : (d : ℕ) (subtrees : Nodes S) → subtrees ≡ none → visits_of join d subtrees ≡ []
    none_below d subtrees e = ap (visits_of join d) e

    visited_docs : (d at : ℕ) (subtrees : Nodes S) (f : Flat S) → (visited join d at subtrees f).1 ≡ f.1
        ++ visits_of join d subtrees
    visited_docs d at none f = sym (append_none f.1)
    visited_docs d at (node id docs subtrees rest) f =
        visited_docs d (suc at) rest (visited_one join d at docs subtrees f)
        ∙ ap (λ l. l ++ visits_of join d rest)
        (closed_docs d at (length f.0) docs (visits_of join (suc d) subtrees) subtrees f
        (visited join (suc d) (length f.0) subtrees (opened d at subtrees f))
        (visited_docs (suc d) (length f.0) subtrees (opened d at subtrees f)) (none_below (suc d) subtrees))
        ∙ append_assoc f.1 (visit_of join d docs subtrees (visits_of join (suc d) subtrees))
        (visits_of join d rest)

    one_docs : (d at : ℕ) (docs : List (List ℕ × S)) (subtrees : Nodes S) (f : Flat S)
        → (visited_one join d at docs subtrees f).1 ≡ f.1
        ++ visit_of join d docs subtrees (visits_of join (suc d) subtrees)
    one_docs d at docs subtrees f =
        closed_docs d at (length f.0) docs (visits_of join (suc d) subtrees) subtrees f
        (visited join (suc d) (length f.0) subtrees (opened d at subtrees f))
        (visited_docs (suc d) (length f.0) subtrees (opened d at subtrees f)) (none_below (suc d) subtrees)

    pub flat_docs : (tree : Nodes S) → (flat join tree).1 ≡ documents_of join tree
    flat_docs none = refl
    flat_docs (node id docs subtrees rest) =
        one_docs 0 0 docs subtrees (blank 0 star 0 (length docs) ∷ [], docs)

    -- and the nodes are as many as the tree has
    chosen_length : (b : Bool) (f g : Flat S) (n : ℕ) → length f.0 ≡ n → length g.0 ≡ n
        → length (cond b f g).0 ≡ n
    chosen_length true f g n p q = p
    chosen_length false f g n p q = q

    filled_length : (at total first children : ℕ) (ns : List Node)
        → length (filled at total first children ns) ≡ length ns
    filled_length at total first children ns = omega (arith, length-set {A = Node})

    pub closed_length : (d at first : ℕ) (docs : List (List ℕ × S)) (subtrees : Nodes S) (f : Flat S)
        → length (closed join d at first docs subtrees f).0 ≡ length f.0
    closed_length d at first docs none f =
        chosen_length (length docs == 1) (filled at (node_at f.0 at).start 0 0 f.0, f.1)
        (with_total join d at 0 0 docs f) (length f.0)
        (filled_length at (node_at f.0 at).start 0 0 f.0)
        (filled_length at (length f.1) 0 0 f.0)
    closed_length d at first docs (node id own below rest) f =
        let last = (node_at f.0 (first + count rest)).total in
        chosen_length (has_star (node id own below rest))
        (filled at last first (suc (count rest)) f.0, f.1)
        (with_total join d at first (suc (count rest)) docs f) (length f.0)
        (filled_length at last first (suc (count rest)) f.0)
        (filled_length at (length f.1) first (suc (count rest)) f.0)

    visited_length : (d at : ℕ) (subtrees : Nodes S) (f : Flat S) → length (visited join d at subtrees f).0
        + count subtrees ≡ length f.0 + nodes_in subtrees
    visited_length d at none f = refl
    visited_length d at (node id docs subtrees rest) f =
        let h = visited join (suc d) (length f.0) subtrees (opened d at subtrees f) in
        let c = closed join d at (length f.0) docs subtrees h in
        let below = visited_length (suc d) (length f.0) subtrees (opened d at subtrees f) in
        let close = closed_length d at (length f.0) docs subtrees h in
        let opens = opened_length d at subtrees f in
        let more = visited_length d (suc at) rest c in
        omega (arith, below, close, opens, more)

    pub flat_count : (id : ℕ) (docs : List (List ℕ × S)) (subtrees : Nodes S)
        → length (flat join (node id docs subtrees none)).0 ≡ nodes_in (node id docs subtrees none)
    flat_count id docs subtrees =
        let f : Flat S = (blank 0 star 0 (length docs) ∷ [], docs) in
        let h = visited join 1 1 subtrees (opened 0 0 subtrees f) in
        let below = visited_length 1 1 subtrees (opened 0 0 subtrees f) in
        let close = closed_length 0 0 1 docs subtrees h in
        let opens = opened_length 0 0 subtrees f in
        omega (arith, below, close, opens)
