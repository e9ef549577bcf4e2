-- The ids and the documents of the children, where the documents rise by the dimension.
use Rattle.std.proofs.Common.{◌≡◌, ℕ, suc, List, [], ◌∷◌, take, drop, length, refl, arith}
use Rattle.agg_laws.specs.declared.states.AggState.{AggState}
use Rattle.agg_laws.specs.Tree.{dim, node, ids_at, docs_with, child_nodes_of}
use Rattle.state_columns.specs.Docs.{Doc}
use Rattle.star_tree.proofs.Runs as runs
use Rattle.star_tree.proofs.Runs.{RunOf, NoneBelow, other_docs}
use Rattle.star_builder.specs.Building.{AtLeast, Rising, Tree}

abbrev Join : Type 0
Join = List AggState → List AggState → List AggState

least : (d v : ℕ) (es : List Doc) → AtLeast d v es → runs.AtLeast d v es
least d v [] h = tt
least d v (e ∷ es) h = (h.0, least d v es h.1)

rising : (d : ℕ) (es : List Doc) → Rising d es → runs.Rising d es
rising d [] h = tt
rising d (e ∷ es) h = (least d (dim d e.0) es h.0, rising d es h.1)

pub run_ids : (join : Join) (d v n : ℕ) (e : Doc) (es : List Doc) → dim d e.0 ≡ v
    → AtLeast d v es → Rising d es → RunOf d v n es → ids_at join d (e ∷ es)
    ≡ v ∷ ids_at join d (drop n es)
run_ids join d v n e es is low up run =
    runs.run_ids join d v n e es is (least d v es low) (rising d es up) run

pub run_docs : (d v n : ℕ) (es : List Doc) → AtLeast d v es → Rising d es → RunOf d v n es
    → docs_with d v es ≡ take n es
run_docs d v n es low up run = runs.run_docs d v n es (least d v es low) (rising d es up) run

-- after a run the documents have greater ids
pub none_after : (join : Join) (d v n : ℕ) (es : List Doc) → AtLeast d v es → Rising d es
    → RunOf d v n es → NoneBelow (suc v) (ids_at join d (drop n es))
none_after join d v n es low up run =
    runs.none_below join d (suc v) (drop n es)
    (runs.after_run join d v n es (least d v es low) (rising d es up) run)

pub joined_all : (join : Join) (fuel d : ℕ) (docs : List Doc) → Rising d docs
    → runs.joined join d docs (ids_at join d docs) ≡ docs
joined_all join fuel d docs up = runs.joined_all join (length docs) d docs (omega arith) (rising d
    docs up)

-- the nodes of the ids above v are those of the documents after the run
pub children_after : (below : List Doc → Tree) (d v n : ℕ) (es : List Doc) (last : Tree)
    → RunOf d v n es
    → (vs : List ℕ) → NoneBelow (suc v) vs
    → child_nodes_of below d es last vs ≡ child_nodes_of below d (drop n es) last vs
children_after below d v n es last run [] h = refl
children_after below d v n es last run (u ∷ us) h =
    let own = other_docs d v u n es (λ k. omega (arith, h.0, k)) run in
    λ i. node u (own i) (below (own i)) (children_after below d v n es last run us h.1 i)
