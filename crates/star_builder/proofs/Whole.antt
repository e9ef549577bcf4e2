-- The visit of the root.
use Rattle.agg_laws.specs.declared.states.AggState.{AggState}
use Rattle.agg_laws.specs.Rows.{merged_rows}
use Rattle.state_columns.specs.Docs.{Doc}
use Rattle.std.proofs.Common.{◌≡◌, ◌-◌, ◌<◌, ◌≤◌, List, [], ◌∷◌, length, take, refl, sym, ap, subst}
use Rattle.std.proofs.Common.{◌∙◌, arith}
use Rattle.std.proofs.Math.Seq.{take-length}
use Rattle.agg_laws.specs.declared.tree_shape.TreeShape.{TreeShape}
use Rattle.agg_laws.specs.Tree.{star, under, root_of}
use Rattle.star_tree.specs.Flat.{Flat, blank, flat, visited_one}
use Rattle.star_builder.specs.Building.{bytes_of, Proper, docs_at, NodeStands, visit_node}
use Rattle.star_tree.proofs.FlatLemmas.{visit_grows}
use Rattle.star_builder.proofs.Bytes.{bytes_grow}

pub record Root (s : TreeShape) (docs : List Doc) (f : Flat (List AggState)) : Type 0 where
  pub stands : NodeStands s 0 0 f
  pub is : visit_node s 0 0 f ≡ flat merged_rows (root_of merged_rows s s.dims docs)
  pub bytes : (width : TreeShape) → bytes_of width f ≤ bytes_of width (flat merged_rows (root_of
      merged_rows s s.dims docs))

pub root : (s : TreeShape) (docs : List Doc) (f : Flat (List AggState)) → 0 < length docs
    → Proper s.dims 0 docs → f ≡ (blank 0 star 0 (length docs) ∷ [], docs) → Root s docs f
root s [] f some proper is = absurd (omega arith)
root s (e ∷ es) f some proper is =
    let docs = e ∷ es in
    let start : Flat (List AggState) = (blank 0 star 0 (length docs) ∷ [], docs) in
    let n : length docs - 0 ≡ length docs = omega arith in
    let k : s.dims - 0 ≡ s.dims = omega arith in
    let whole : docs_at 0 start ≡ docs = ap (λ m. take m docs) n ∙ take-length docs in
    let visit : visit_node s 0 0 start ≡ flat merged_rows (root_of merged_rows s s.dims docs) =
    ap (λ l. visited_one merged_rows 0 0 l (under merged_rows s (s.dims - 0) 0 l) start) whole
    ∙ ap (λ m. visited_one merged_rows 0 0 docs (under merged_rows s m 0 docs) start) k in
    let stands : NodeStands s 0 0 start = record {
      within = omega arith;
      some = omega arith;
      inside
          = omega arith;
      proper = subst (Proper s.dims 0) (sym whole) proper;
    } in
    record {
      stands = subst (NodeStands s 0 0) (sym is) stands;
      is = ap (visit_node s 0 0) is ∙ visit;
      bytes = λ width. subst (λ h. bytes_of width h ≤ bytes_of width (flat merged_rows (root_of
          merged_rows s s.dims docs))) (sym is)
          (bytes_grow _ width start _ (visit_grows merged_rows 0 0 docs (under merged_rows s s.dims
          0 docs) start (omega arith)));
    }

pub none_built : (s : TreeShape) (docs : List Doc) → length docs ≡ 0
    → ◌≡◌ {A = Flat (List AggState)} ([], docs) (flat merged_rows (root_of merged_rows s s.dims
    docs))
none_built s [] h = refl
none_built s (e ∷ es) h = absurd (omega arith)
