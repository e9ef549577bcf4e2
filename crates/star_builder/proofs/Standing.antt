-- Nodes that stand unvisited, and their visits one by one.
use Rattle.agg_laws.specs.declared.states.AggState.{AggState}
use Rattle.agg_laws.specs.Rows.{merged_rows}
use Rattle.state_columns.specs.Docs.{Doc}
use Rattle.std.proofs.Common.{◌≡◌, ℕ, zero, suc, ◌+◌, ◌<◌, ◌≤◌, List, length, refl, sym, ap, subst}
use Rattle.std.proofs.Common.{◌∙◌, arith, inr, length-append}
use Rattle.agg_laws.specs.Tree.{Nodes, none, node, under}
use Rattle.agg_laws.specs.declared.tree_shape.TreeShape.{TreeShape}
use Rattle.star_tree.specs.Flat.{Flat, node_at, count, visited, visited_one}
use Rattle.state_columns.specs.Region.{range}
use Rattle.star_builder.specs.Building.{bytes_of, Proper, StandsAt, Standing, visit_at, drop_children}
use Rattle.star_tree.proofs.FlatLemmas.{Grows, Outside, visit_grows, visited_grows, range-append}
use Rattle.star_builder.proofs.Bytes.{bytes_grow}

pub StandsAt-grows : (at i : ℕ) (docs : List Doc) (f g : Flat (List AggState))
    → Grows (Outside at 1) f g → at < i → StandsAt i docs f → StandsAt i docs g
StandsAt-grows at i docs f g grows lt s =
    let same : node_at g.0 i ≡ node_at f.0 i = grows.stay i (inr (omega arith)) s.within in
    let more : length f.1 ≤ length g.1 = omega (
      arith,
      ap length grows.docs_are,
      length-append f.1
          grows.docs,
    ) in
    record {
      within = omega (arith, grows.longer, s.within);
      some = subst (λ n. n.start < n.end) (sym same) s.some;
      inside = subst (λ n. n.end ≤ length g.1) (sym same) (omega (arith, s.inside));
      docs_are = (λ k. range (same k).start (same k).end (grows.docs_are k))
          ∙ range-append (node_at f.0 i).start (node_at f.0 i).end f.1 grows.docs (omega (
            arith,
            s.some,
          )) s.inside ∙ s.docs_are;
    }

pub Standing-grows : (shape : TreeShape) (more d at i : ℕ) (subtrees : Nodes (List AggState)) (f g :
    Flat (List AggState)) → Grows (Outside at 1) f g → at < i → Standing shape more d i subtrees f
    → Standing shape more d i subtrees g
Standing-grows shape more d at i none f g grows lt s = tt
Standing-grows shape more d at i (node id docs subtrees rest) f g grows lt s = (
  StandsAt-grows at i docs f g grows lt s.0,
  s.1,
  s.2,
  Standing-grows shape more d at (suc i)
      rest f g grows (omega arith) s.3,
)

-- the first of some nodes is visited
pub record First (shape : TreeShape) (more d at : ℕ) (subtrees rest : Nodes (List AggState)) (f : Flat
    (List AggState)) : Type 0 where
  pub within : at < length f.0
  pub some : (node_at f.0 at).start < (node_at f.0 at).end
  pub inside : (node_at f.0 at).end ≤ length f.1
  pub proper : Proper (d + more) d (range (node_at f.0 at).start (node_at f.0 at).end f.1)
  pub is : visited merged_rows d at subtrees f ≡ visited merged_rows d (suc at) rest (visit_at shape
      more d at f)
  pub others : Standing shape more d (suc at) rest (visit_at shape more d at f)

of_first : (shape : TreeShape) (more d at id : ℕ) (docs : List Doc) (subtrees rest : Nodes (List
    AggState)) (f : Flat (List AggState)) → Standing shape more d at (node id docs subtrees rest) f
    → First shape more d at (node id docs subtrees rest) rest f
of_first shape more d at id docs subtrees rest f s =
    let at' = s.0 in
    let here : visited_one merged_rows d at docs subtrees f ≡ visit_at shape more d at f =
    ap (λ k. visited_one merged_rows d at docs k f) s.2
    ∙ ap (λ l. visited_one merged_rows d at l (under merged_rows shape more d l) f) (sym
    at'.docs_are) in
    record {
      within = at'.within;
      some = at'.some;
      inside = at'.inside;
      proper = subst (Proper (d + more) d) (sym at'.docs_are) s.1;
      is = ap (visited merged_rows d (suc at) rest) here;
      others = subst (Standing shape more d (suc at) rest) here (Standing-grows shape more d at
          (suc at) rest f (visited_one merged_rows d at docs subtrees f) (visit_grows merged_rows d at
          docs subtrees f at'.within) (omega arith) s.3);
    }

pub first_of_rest : (shape : TreeShape) (more d at n : ℕ) (subtrees : Nodes (List AggState)) (f : Flat
    (List AggState)) → n < count subtrees → Standing shape more d at (drop_children n subtrees) f
    → First shape more d at (drop_children n subtrees) (drop_children (suc n) subtrees) f
first_of_rest shape more d at n none f lt s = absurd (omega arith)
first_of_rest shape more d at zero (node id docs subtrees rest) f lt s = of_first shape more d at id
    docs subtrees rest f s
first_of_rest shape more d at (suc n) (node id docs subtrees rest) f lt s = first_of_rest shape more d
    at n rest f (omega arith) s

pub none_left : (n : ℕ) (subtrees : Nodes (List AggState)) → count subtrees ≤ n → drop_children n subtrees ≡ none
none_left zero none h = refl
none_left zero (node id docs subtrees rest) h = absurd (omega arith)
none_left (suc n) none h = refl
none_left (suc n) (node id docs subtrees rest) h = none_left n rest (omega arith)

-- nodes that stand are within
pub standing_within : (shape : TreeShape) (more d at : ℕ) (subtrees : Nodes (List AggState)) (f : Flat
    (List AggState)) → at ≤ length f.0 → Standing shape more d at subtrees f
    → at + count subtrees ≤ length f.0
standing_within shape more d at none f le s = omega arith
standing_within shape more d at (node id docs subtrees rest) f le s = let w = standing_within shape
    more d (suc at) rest f s.0.within s.3 in omega arith

-- later visits only add bytes
pub bytes_later : (shape : TreeShape) (more d at : ℕ) (width : TreeShape) (subtrees : Nodes (List
    AggState)) (f : Flat (List AggState)) → at ≤ length f.0 → Standing shape more d at subtrees f
    → bytes_of width f ≤ bytes_of width (visited merged_rows d at subtrees f)
bytes_later shape more d at width subtrees f le s = bytes_grow (Outside at (count subtrees)) width f
    (visited merged_rows d at subtrees f) (visited_grows merged_rows d at subtrees f (standing_within shape
    more d at subtrees f le s))
