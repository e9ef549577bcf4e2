-- What the code that opens a node makes is `opened`.
use Rattle.agg_laws.specs.declared.states.AggState.{AggState}
use Rattle.agg_laws.specs.Rows.{merged_rows}
use Rattle.state_columns.specs.Docs.{Doc}
use Rattle.std.proofs.Common.{◌≡◌, ℕ, suc, ◌+◌, ◌-◌, ◌<◌, Bool, true, false, ◌&&◌, not, nat_lt}
use Rattle.std.proofs.Common.{List, [], ◌∷◌, ◌++◌, length, refl, sym, ap, subst, ◌∙◌, arith}
use Rattle.std.proofs.Common.{length-append, append_assoc}
use Rattle.star_tree.specs.declared.node.Node.{Node}
use Rattle.agg_laws.specs.declared.tree_shape.TreeShape.{TreeShape}
use Rattle.agg_laws.specs.Tree.{star, set_star, merged_docs, ids_at, skips, has_star}
use Rattle.agg_laws.specs.Merged.{rekey}
use Rattle.star_tree.specs.Flat.{Flat, blank, node_at, opened}
use Rattle.state_columns.specs.Region.{range}
use Rattle.state_columns.proofs.ListLemmas.{append_none}
use Rattle.star_builder.specs.Building.{Proper, Rising, Ordinary, Standing, group_nodes, docs_at}
use Rattle.star_builder.specs.Building.{children_at, NodeStands}
use Rattle.star_builder.proofs.Children.{rising_of, ordinary_of}
use Rattle.star_builder.proofs.Opened.{starred_docs, OpenedAs, opened_as, opened_stands}
use Rattle.star_builder.proofs.Opened.{length-groups}

pub record OpenedTo (s : TreeShape) (d at : ℕ) (f g : Flat (List AggState)) (b : Bool) : Type 0
  where
    pub is : g ≡ opened d at (children_at s d at f) f
    pub has : b ≡ has_star (children_at s d at f)

module _ (s : TreeShape) (d at : ℕ) (f : Flat (List AggState)) (stands : NodeStands s d at f) (lt :
    d < s.dims) where
  pub rising_at : Rising d (docs_at at f)
  rising_at = rising_of s.dims d (docs_at at f) lt stands.proper

  pub ordinary_at : Ordinary d (docs_at at f)
  ordinary_at = ordinary_of s.dims d (docs_at at f) lt stands.proper

  module _ (start end groups : ℕ) (ns : List Node) (start_is : start
      ≡ (node_at f.0 at).start) (end_is : end ≡ (node_at f.0 at).end) (ns_is : ns
      ≡ f.0 ++ group_nodes d start (range start end f.1)) (groups_is : groups
      ≡ length ns - length f.0) where
    nodes_are : ns ≡ f.0 ++ group_nodes d (node_at f.0 at).start (docs_at at f)
    nodes_are = ns_is ∙ (λ i. f.0 ++ group_nodes d (start_is i) (range (start_is i) (end_is i) f.1))

    groups_are : groups ≡ length (ids_at merged_rows d (docs_at at f))
    groups_are = omega (
      arith,
      groups_is,
      ap length nodes_are,
      length-append f.0 (group_nodes d
          (node_at f.0 at).start (docs_at at f)),
      length-groups d (node_at f.0 at).start (docs_at at
          f),
    )

    as_opened : (b : Bool) → (not (skips s d) && nat_lt 1 groups) ≡ b
        → OpenedAs s (s.dims - (d + 1)) d at (docs_at at f) f b
    as_opened b e = opened_as s (s.dims - (d + 1)) d at (docs_at at f) f rising_at ordinary_at b
        (ap (λ n. not (skips s d) && nat_lt 1 n) (sym groups_are) ∙ e)

    pub open_plain : (not (skips s d) && nat_lt 1 groups) ≡ false
        → OpenedTo s d at f (ns, f.1) false
    open_plain e = let o = as_opened false e in record {
      is = (λ i. (nodes_are i, sym (append_none f.1) i))
          ∙ ap (λ l. (f.0 ++ l, f.1 ++ [])) (sym (append_none (group_nodes d (node_at f.0 at).start
          (docs_at at f)))) ∙ sym o.is;
      has = sym o.has;
    }

    pub open_star : (not (skips s d) && nat_lt 1 groups) ≡ true
        → (from to id : ℕ) (ns2 : List Node) (ds : List Doc) → ds
        ≡ f.1 ++ merged_docs merged_rows (rekey (set_star d) (range start end f.1))
        → from ≡ length f.1 → to ≡ length ds → ns2 ≡ ns ++ (blank (d + 1) star from to ∷ [])
        → OpenedTo s d at f (ns2, ds) true
    open_star e from to id ns2 ds ds_is from_is to_is ns2_is =
        let o = as_opened true e in
        let docs_are : ds ≡ f.1 ++ starred_docs d (docs_at at f) = ds_is
        ∙ (λ i. f.1 ++ starred_docs d (range (start_is i) (end_is i) f.1)) in
        let to' : to ≡ length f.1 + length (starred_docs d (docs_at at f)) = to_is
        ∙ ap length docs_are ∙ length-append f.1 (starred_docs d (docs_at at f)) in
        record {
          is = (λ i. (ns2_is i, docs_are i)) ∙ (λ i. (
            nodes_are i ++ (blank (d + 1) star (from_is
                i) (to' i) ∷ []),
            f.1 ++ starred_docs d (docs_at at f),
          ))
              ∙ ap (λ l. (l, f.1 ++ starred_docs d (docs_at at f))) (append_assoc f.0 (group_nodes
              d (node_at f.0 at).start (docs_at at f)) (blank (d + 1) star (length f.1) (length
              f.1 + length (starred_docs d (docs_at at f))) ∷ [])) ∙ sym o.is;
          has = sym o.has;
        }

  -- the children then stand unvisited
  pub children_stand : (g : Flat (List AggState)) → g ≡ opened d at (children_at s d at f) f
      → Standing s (s.dims - (d + 1)) (d + 1) (length f.0) (children_at s d at f) g
  children_stand g is =
      let n : suc d ≡ d + 1 = omega arith in
      let k : s.dims ≡ suc d + (s.dims - (d + 1)) = omega arith in
      let at_suc : Standing s (s.dims - (d + 1)) (suc d) (length f.0) (children_at s d at f) (opened d
      at (children_at s d at f) f) =
      opened_stands s (s.dims - (d + 1)) d at f stands.some stands.inside (docs_at at f) refl
      (subst (λ m. Proper m d (docs_at at f)) k stands.proper) rising_at ordinary_at in
      subst (λ h. Standing s (s.dims - (d + 1)) (d + 1) (length f.0) (children_at s d at f) h) (sym is)
      (subst (λ m. Standing s (s.dims - (d + 1)) m (length f.0) (children_at s d at f) (opened d at
      (children_at s d at f) f)) n at_suc)
