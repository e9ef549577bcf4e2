use Rattle.std.proofs.Common.{◌≡◌, ℕ, ◌<◌, List, [], ◌∷◌, length, refl, sym, ap, ◌∙◌, arith}
use Rattle.std.specs.Prelude.{◌↔◌}
use Rattle.agg_laws.specs.declared.tree_shape.TreeShape.{TreeShape}
use Rattle.agg_laws.specs.declared.states.AggState.{AggState}
use Rattle.agg_laws.specs.Rows.{merged_rows}
use Rattle.agg_laws.specs.Tree.{star, merged_docs, root_of, under}
use Rattle.state_columns.specs.Docs.{Doc}
use Rattle.star_tree.specs.Flat.{Flat, blank, node_at, flat}
use Rattle.star_tree.specs.NodeRules.{IsRoot}
use Rattle.star_tree.proofs.TreeLemmas.{none_merged}
use Rattle.star_tree.proofs.FlatLemmas.{Outside, same_unvisited, more_docs, visit_grows}
use Rattle.star_tree.proofs.RuleLemmas.{rules_kept}
use Rattle.state_columns.proofs.DocLemmas.{rows_join}
use Rattle.star_tree.proofs.laws.node_rules_law.Goals as goal

root_is : (shape : TreeShape) (k : ℕ) (docs : List Doc)
    → 0 < length (flat merged_rows (root_of merged_rows shape k docs)).0
    → IsRoot (node_at (flat merged_rows (root_of merged_rows shape k docs)).0 0)
root_is shape k [] h = absurd (omega (arith, h))
root_is shape k (e ∷ es) h =
    let docs = e ∷ es in
    let f : Flat (List AggState) = (blank 0 star 0 (length docs) ∷ [], docs) in
    let g = flat merged_rows (root_of merged_rows shape k docs) in
    let same = same_unvisited (Outside 0 1) f g
    (visit_grows merged_rows 0 0 docs (under merged_rows shape k 0 docs) f (omega arith)) 0
    (omega arith) in
    record {
      level = ap (λ n. n.level) same;
      id = ap (λ n. n.id) same;
      start =
          ap (λ n. n.start) same;
    }

empty_nodes : (shape : TreeShape) (k : ℕ) (docs merged : List Doc) → merged
    ≡ merged_docs merged_rows docs
    → ((flat merged_rows (root_of merged_rows shape k merged)).0 ≡ []) ↔ (docs ≡ [])
empty_nodes shape k docs [] is =
    ((λ _. none_merged merged_rows rows_join docs (sym is)), (λ _. refl))
empty_nodes shape k docs (e ∷ es) is =
    let f : Flat (List AggState) = (blank 0 star 0 (length (e ∷ es)) ∷ [], e ∷ es) in
    let grows = visit_grows merged_rows 0 0 (e ∷ es) (under merged_rows shape k 0 (e ∷ es)) f
    (omega arith) in (
      (λ h. absurd (let l = ap length h in omega (arith, l, grows.longer))),
      (λ h. absurd (no (is ∙ ap (merged_docs merged_rows) h))),
    )
  where
    no : e ∷ es ≡ [] → ⊥
    no q = cc

empty_docs : (shape : TreeShape) (k : ℕ) (docs merged : List Doc) → merged
    ≡ merged_docs merged_rows docs
    → ((flat merged_rows (root_of merged_rows shape k merged)).1 ≡ []) ↔ (docs ≡ [])
empty_docs shape k docs [] is =
    ((λ _. none_merged merged_rows rows_join docs (sym is)), (λ _. refl))
empty_docs shape k docs (e ∷ es) is =
    let f : Flat (List AggState) = (blank 0 star 0 (length (e ∷ es)) ∷ [], e ∷ es) in
    let grows = visit_grows merged_rows 0 0 (e ∷ es) (under merged_rows shape k 0 (e ∷ es)) f
    (omega arith) in
    let more = more_docs (Outside 0 1) f
    (flat merged_rows (root_of merged_rows shape k (e ∷ es))) grows in (
      (λ h. absurd (let l = ap length h in omega (arith, l, more))),
      (λ h. absurd (no (is ∙ ap (merged_docs merged_rows) h))),
    )
  where
    no : e ∷ es ≡ [] → ⊥
    no q = cc

pub returns : goal.returns
returns c = record {
  rules = λ shape k docs counts ids no_star at_most counted. rules_kept merged_rows rows_join shape k
      docs ids no_star counts at_most counted;
  root = λ shape k docs. root_is shape k (merged_docs merged_rows docs);
  no_nodes = λ shape k docs. empty_nodes shape k docs (merged_docs merged_rows docs) refl;
  no_documents = λ shape k docs. empty_docs shape k docs (merged_docs merged_rows docs) refl;
}
