-- The children of a node that is split stand unvisited.
use Rattle.agg_laws.specs.declared.states.AggState.{AggState}
use Rattle.agg_laws.specs.Rows.{merged_rows}
use Rattle.state_columns.specs.Docs.{Doc}
use Rattle.std.proofs.Common.{◌≡◌, ◌≢◌, ℕ, zero, suc, ◌+◌, ◌-◌, ◌<◌, ◌≤◌, Bool, true, false, cond}
use Rattle.std.proofs.Common.{◌==◌, ◌&&◌, List, [], ◌∷◌, ◌++◌, length, take, drop, refl, sym, ap}
use Rattle.std.proofs.Common.{subst, ◌∙◌, arith, length-append, length-drop, append_assoc, not}
use Rattle.std.proofs.Common.{nat_lt, if◌then◌else◌}
use Rattle.std.proofs.lemmas.List.{drop-drop, take-take, get_or_at, length-take-le}
use Rattle.std.proofs.Math.Seq.{take-append_seam, drop-append_seam, take-length}
use Rattle.std.proofs.lemmas.List.{take-append-le, drop-append-le}
use Rattle.std.proofs.lemmas.Bool.{ne_eqb}
use Rattle.star_tree.specs.declared.node.Node.{Node}
use Rattle.agg_laws.specs.Tree.{star, dim, set_star, merged_docs, Nodes, none, node, skips, ids_at}
use Rattle.agg_laws.specs.Tree.{docs_with, child_nodes_of, star_child, under, has_star}
use Rattle.agg_laws.specs.Merged.{rekey}
use Rattle.star_tree.specs.Flat.{Flat, blank, node_at, child_nodes, opened}
use Rattle.state_columns.specs.Region.{range}
use Rattle.state_columns.specs.Documents.{star_docs}
use Rattle.agg_laws.specs.declared.tree_shape.TreeShape.{TreeShape}
use Rattle.star_builder.specs.Building.{Proper, Rising, Ordinary, StandsAt, Standing, split_children}
use Rattle.star_builder.specs.Building.{group_nodes}
use Rattle.star_builder.proofs.Runs.{run_ids, none_after, joined_all}
use Rattle.star_tree.proofs.Runs.{RunOf, passing, other_docs, NoneBelow, joined, find_run}
use Rattle.state_columns.proofs.ListLemmas.{length-rekey, merged_some}
use Rattle.star_builder.proofs.Children.{own_proper, star_proper}

rising_after : (d n : ℕ) (es : List Doc) → Rising d es → Rising d (drop n es)
rising_after d zero es h = h
rising_after d (suc n) [] h = tt
rising_after d (suc n) (e ∷ es) h = rising_after d n es h.1

-- each id has documents, and is no star
abbrev Filled : ℕ → List Doc → List ℕ → Type 0
Filled d docs [] = Unit {0}
Filled d docs (v ∷ vs) = (v ≢ star) × (0 < length (docs_with d v docs)) × Filled d docs vs

filled_after : (d v n : ℕ) (es : List Doc) → RunOf d v n es → (vs : List ℕ)
    → NoneBelow (suc v) vs → Filled d (drop n es) vs → Filled d es vs
filled_after d v n es run [] h f = tt
filled_after d v n es run (u ∷ us) h f = (
  f.0,
  subst (λ l. 0 < length l) (sym (other_docs d v u n
      es (λ k. omega (arith, h.0, k)) run)) f.1,
  filled_after d v n es run us h.1 f.2,
)

ordinary_after : (d n : ℕ) (es : List Doc) → Ordinary d es → Ordinary d (drop n es)
ordinary_after d zero es h = h
ordinary_after d (suc n) [] h = tt
ordinary_after d (suc n) (e ∷ es) h = ordinary_after d n es h.1

filled_all : (fuel d : ℕ) (docs : List Doc) → length docs ≤ fuel → Rising d docs
    → Ordinary d docs → Filled d docs (ids_at merged_rows d docs)
filled_all fuel d [] le up ord = tt
filled_all zero d (e ∷ es) le up ord = absurd (omega arith)
filled_all (suc fuel) d (e ∷ es) le up ord =
    let v = dim d e.0 in
    let found = find_run merged_rows d v es in
    let n = found.0 in
    let rest = filled_all fuel d (drop n es) (omega (arith, length-drop n es)) (rising_after d n es
    up.1) (ordinary_after d n es ord.1) in
    let some : 0 < length (docs_with d v (e ∷ es)) = subst (λ l. 0 < length l) (sym (passing d v e
    es refl)) (omega arith) in
    subst (Filled d (e ∷ es)) (sym (run_ids merged_rows d v n e es refl up.0 up.1 found.1)) (
      ord.0,
      some,
      filled_after d v (suc n) (e ∷ es) (refl, found.1) (ids_at merged_rows d (drop n
          es)) (none_after merged_rows d v n es up.0 up.1 found.1) rest,
    )

-- records of the ordinary children, and then those of the last
pub child_nodes-split : (below : List Doc → Nodes (List AggState)) (d from to : ℕ) (docs : List Doc)
    (last : Nodes (List AggState)) (vs : List ℕ) → Filled d docs vs
    → (n : ℕ) × (child_nodes (suc d) from to (child_nodes_of below d docs last vs)
    ≡ child_nodes (suc d) from 0 (child_nodes_of (λ _. none) d docs none vs) ++ child_nodes (suc d) n to
    last)
child_nodes-split below d from to docs last [] f = (from, refl)
child_nodes-split below d from to docs last (v ∷ vs) f =
    let own = docs_with d v docs in
    let more = child_nodes-split below d (from + length own) to docs last vs f.2 in (
      more.0,
      ap (λ b. cond b (blank (suc d) v to (to + length own)) (blank (suc d) v from (from + length
          own)) ∷ child_nodes (suc d) (cond b from (from + length own)) to (child_nodes_of below d docs last
          vs)) (ne_eqb v star f.0)
          ∙ ap (λ t. blank (suc d) v from (from + length own) ∷ t) more.1
          ∙ ap (λ b. (cond b (blank (suc d) v 0 (0 + length own)) (blank (suc d) v from (from +
          length own)) ∷ child_nodes (suc d) (cond b from (from + length own)) 0 (child_nodes_of (λ _.
          none) d docs none vs)) ++ child_nodes (suc d) more.0 to last) (sym (ne_eqb v star f.0)),
    )

seam : {X : Type 0} (from : ℕ) (xs ys all : List X) → take (length (xs ++ ys)) (drop from all)
    ≡ xs ++ ys → take (length xs) (drop from all) ≡ xs
seam from xs ys all h = sym (take-take (length xs) (length (xs ++ ys)) (drop from all) (omega
    (arith, length-append xs ys))) ∙ ap (take (length xs)) h ∙ take-append_seam xs ys

past : {X : Type 0} (xs ys zs : List X) → take (length (xs ++ ys)) zs ≡ xs ++ ys
    → take (length ys) (drop (length xs) zs) ≡ ys
past [] ys zs h = h
past (x ∷ xs) ys [] h = absurd (nothing x (xs ++ ys) h)
  where
    nothing : {X : Type 0} (x : X) (xs : List X) → [] ≡ x ∷ xs → ⊥
    nothing x xs e = cc
past (x ∷ xs) ys (z ∷ zs) h = past xs ys zs (rest z x (take (length (xs ++ ys)) zs) (xs ++ ys) h)
  where
    rest : {X : Type 0} (z x : X) (xs ys : List X) → z ∷ xs ≡ x ∷ ys → xs ≡ ys
    rest z x xs ys e = cc

module _ (shape : TreeShape) (more d : ℕ) (docs : List Doc) (proper : (v : ℕ)
    → Proper (suc d + more) (suc d) (docs_with d v docs)) (g : Flat (List AggState)) (last : Nodes
    (List AggState)) (to : ℕ)
    (ends : (from : ℕ) (pre : List Node) → g.0 ≡ pre ++ child_nodes (suc d) from to last
    → Standing shape more (suc d) (length pre) last g) where
  below : List Doc → Nodes (List AggState)
  below = under merged_rows shape more (suc d)

  stands_ids : (vs : List ℕ) (from : ℕ) (pre : List Node) → Filled d docs vs → g.0
      ≡ pre ++ child_nodes (suc d) from to (child_nodes_of (under merged_rows shape more (suc d)) d docs
      last vs)
      → take (length (joined merged_rows d docs vs)) (drop from g.1)
      ≡ joined merged_rows d docs vs → from + length (joined merged_rows d docs vs) ≤ length
      g.1 → Standing shape more (suc d) (length pre) (child_nodes_of (under merged_rows shape more
      (suc d)) d docs last vs) g
  stands_ids [] from pre f is whole in' = ends from pre is
  stands_ids (v ∷ vs) from pre f is whole in' =
      let own = docs_with d v docs in
      let rec' = child_nodes_of (under merged_rows shape more (suc d)) d docs last vs in
      let here = blank (suc d) v from (from + length own) in
      let nodes : g.0 ≡ pre ++ (here ∷ child_nodes (suc d) (from + length own) to rec') =
      is ∙ ap (λ b. pre ++ (cond b (blank (suc d) v to (to + length own)) here ∷ child_nodes (suc d)
      (cond b from (from + length own)) to rec')) (ne_eqb v star f.0) in
      let at : node_at g.0 (length pre) ≡ here = ap (λ l. node_at l (length pre)) nodes
      ∙ get_or_at pre here (child_nodes (suc d) (from + length own) to rec') (blank 0 0 0 0)
      (length pre) refl in
      let len : length g.0 ≡ length pre + suc (length (child_nodes (suc d) (from + length own) to
      rec')) = ap length nodes ∙ length-append pre (here ∷ child_nodes (suc d) (from + length
      own) to rec') in
      let sum : length (own ++ joined merged_rows d docs vs)
      ≡ length own + length (joined merged_rows d docs vs) = length-append own (joined
      merged_rows d docs vs) in
      let stands : StandsAt (length pre) own g = record {
        within = omega (arith, len);
        some = subst (λ (n : Node). n.start < n.end) (sym at) (omega (arith, f.1));
        inside = subst (λ (n : Node). n.end ≤ length g.1) (sym at) (omega (arith, sum, in'));
        docs_are = ap (λ (n : Node). range n.start n.end g.1) at
            ∙ ap (λ k. take k (drop from g.1)) (let k : from + length own - from
            ≡ length own = omega arith in k) ∙ seam from own (joined merged_rows d docs vs) g.1
            whole;
      } in
      let next : length (pre ++ (here ∷ [])) ≡ suc (length pre) = length-append pre (here ∷ [])
      ∙ (let k : length pre + 1 ≡ suc (length pre) = omega arith in k) in
      let rest = stands_ids vs (from + length own) (pre ++ (here ∷ [])) f.2 (nodes
      ∙ sym (append_assoc pre (here ∷ []) (child_nodes (suc d) (from + length own) to rec')))
      (ap (take (length (joined merged_rows d docs vs))) (sym (drop-drop (length own) from g.1))
      ∙ past own (joined merged_rows d docs vs) (drop from g.1) whole) (omega (
        arith,
        sum,
        in',
      )) in
      (stands, proper v, refl, subst (λ n. Standing shape more (suc d) n rec' g) next rest)

-- what the records of the children are, without and with a star child
star_docs-subtrees : (below : List Doc → Nodes (List AggState)) (d : ℕ) (docs : List Doc) (last : Nodes
    (List AggState)) (vs : List ℕ) → Filled d docs vs → star_docs (child_nodes_of below d docs last vs)
    ≡ star_docs last
star_docs-subtrees below d docs last [] f = refl
star_docs-subtrees below d docs last (v ∷ vs) f = ap (λ b. cond b (docs_with d v docs) (star_docs
    (child_nodes_of below d docs last vs))) (ne_eqb v star f.0) ∙ star_docs-subtrees below d docs last vs f.2

has_star-subtrees : (below : List Doc → Nodes (List AggState)) (d : ℕ) (docs : List Doc) (last : Nodes
    (List AggState)) (vs : List ℕ) → Filled d docs vs → has_star (child_nodes_of below d docs last vs)
    ≡ has_star last
has_star-subtrees below d docs last [] f = refl
has_star-subtrees below d docs last (v ∷ vs) f = ap (λ b. cond b true (has_star (child_nodes_of below d docs
    last vs))) (ne_eqb v star f.0) ∙ has_star-subtrees below d docs last vs f.2

count-groups : (below : List Doc → Nodes (List AggState)) (d from to : ℕ) (docs : List Doc) (vs :
    List ℕ) → length (child_nodes (suc d) from to (child_nodes_of below d docs none vs)) ≡ length vs
count-groups below d from to docs [] = refl
count-groups below d from to docs (v ∷ vs) = ap suc (count-groups below d (cond (v == star) from
    (from + length (docs_with d v docs))) to docs vs)

-- whether a star child comes
abbrev pub stars : TreeShape → ℕ → List Doc → Bool
stars shape d docs = not (skips shape d) && nat_lt 1 (length (ids_at merged_rows d docs))

abbrev pub starred_docs : ℕ → List Doc → List Doc
starred_docs d docs = merged_docs merged_rows (rekey (set_star d) docs)

pub record OpenedAs (shape : TreeShape) (more d at : ℕ) (docs : List Doc) (f : Flat (List
    AggState)) (b : Bool) : Type 0 where
  pub is : opened d at (split_children shape more d docs) f
      ≡ (
        f.0 ++ (group_nodes d (node_at f.0 at).start docs ++ (if b then blank (d + 1) star (length
            f.1) (length f.1 + length (starred_docs d docs)) ∷ [] else [])),
        f.1 ++ (if b then
            starred_docs d docs else []),
      )
  pub has : has_star (split_children shape more d docs) ≡ b

pub length-groups : (d from : ℕ) (docs : List Doc) → length (group_nodes d from docs)
    ≡ length (ids_at merged_rows d docs)
length-groups d from docs = count-groups (λ _. none) d from 0 docs (ids_at merged_rows d docs)

opened_by : (shape : TreeShape) (more d at : ℕ) (docs : List Doc) (f : Flat (List AggState))
    → Filled d docs (ids_at merged_rows d docs) → (b : Bool) → stars shape d docs ≡ b
    → OpenedAs shape more d at docs f b
opened_by shape more d at docs f filled true e =
    let below = under merged_rows shape more (suc d) in
    let sd = starred_docs d docs in
    let last : star_child merged_rows below shape d docs
    ≡ node star sd (below sd) none = ap (λ b. cond b (node star sd (below sd) none) none) e in
    let vs = ids_at merged_rows d docs in
    let split = child_nodes-split below d (node_at f.0 at).start (length f.1) docs (node star sd
    (below sd) none) vs filled in
    let subtrees : split_children shape more d docs ≡ child_nodes_of below d docs (node star sd (below sd) none)
    vs = ap (λ l. child_nodes_of below d docs l vs) last in
    let d1 : suc d ≡ d + 1 = omega arith in
    record {
      is = ap (λ k. opened d at k f) subtrees ∙ (λ i. (
        f.0 ++ split.1 i,
        f.1 ++ star_docs-subtrees below d
            docs (node star sd (below sd) none) vs filled i,
      ))
          ∙ ap (λ k. (
            f.0 ++ (group_nodes d (node_at f.0 at).start docs ++ (blank k star (length
                f.1) (length f.1 + length sd) ∷ [])),
            f.1 ++ sd,
          )) d1;
      has = ap has_star subtrees ∙ has_star-subtrees below d docs (node star sd (below sd) none) vs filled;
    }
opened_by shape more d at docs f filled false e =
    let below = under merged_rows shape more (suc d) in
    let sd = starred_docs d docs in
    let last : star_child merged_rows below shape d docs
    ≡ none = ap (λ b. cond b (node star sd (below sd) none) none) e in
    let vs = ids_at merged_rows d docs in
    let split = child_nodes-split below d (node_at f.0 at).start (length f.1) docs none vs filled in
    let subtrees : split_children shape more d docs ≡ child_nodes_of below d docs none vs = ap (λ l. child_nodes_of below
    d docs l vs) last in
    record {
      is = ap (λ k. opened d at k f) subtrees ∙ (λ i. (
        f.0 ++ split.1 i,
        f.1 ++ star_docs-subtrees below d
            docs none vs filled i,
      ));
      has = ap has_star subtrees ∙ has_star-subtrees below d docs none vs filled;
    }

pub opened_as : (shape : TreeShape) (more d at : ℕ) (docs : List Doc) (f : Flat (List AggState))
    → Rising d docs → Ordinary d docs → (b : Bool) → stars shape d docs ≡ b
    → OpenedAs shape more d at docs f b
opened_as shape more d at docs f up ord b e = opened_by shape more d at docs f (filled_all (length
    docs) d docs (omega arith) up ord) b e

-- the star child stands
last_stands : (shape : TreeShape) (more d : ℕ) (f : Flat (List AggState)) (docs : List Doc) (b :
    Bool) → Proper (suc d + more) (suc d) (starred_docs d docs) → 0 < length docs
    → (g : Flat (List AggState))
    → g.1 ≡ f.1 ++ (if b then starred_docs d docs else [])
    → (from : ℕ) (pre : List Node) → g.0 ≡ pre ++ child_nodes (suc d) from (length f.1) (if b then
    node star (starred_docs d docs) (under merged_rows shape more (suc d) (starred_docs d
    docs)) none else none)
    → Standing shape more (suc d) (length pre) (if b then node star (starred_docs d docs) (under
    merged_rows shape more (suc d) (starred_docs d docs)) none else none) g
last_stands shape more d f docs false proper some g g1 from pre is = tt
last_stands shape more d f docs true proper some g g1 from pre is =
    let sd = starred_docs d docs in
    let to = length f.1 in
    let here = blank (suc d) star to (to + length sd) in
    let at : node_at g.0 (length pre) ≡ here = ap (λ l. node_at l (length pre)) is
    ∙ get_or_at pre here [] (blank 0 0 0 0) (length pre) refl in
    let n : 0 < length sd = merged_some merged_rows (rekey (set_star d) docs) (subst (λ m. 0 < m)
    (sym (length-rekey merged_rows (set_star d) docs)) some) in (
      record {
        within = omega (arith, ap length is, length-append pre (here ∷ []));
        some = subst (λ (m : Node). m.start < m.end) (sym at) (omega (arith, n));
        inside = subst (λ (m : Node). m.end ≤ length g.1) (sym at) (omega (
          arith,
          ap length g1,
          length-append f.1 sd,
        ));
        docs_are = ap (λ (m : Node). range m.start m.end g.1) at
            ∙ (λ i. range to (to + length sd) (g1 i)) ∙ ap (λ k. take k (drop to (f.1 ++ sd))) (let
            k : to + length sd - to ≡ length sd = omega arith in k)
            ∙ ap (take (length sd)) (drop-append_seam f.1 sd) ∙ take-length sd;
      },
      proper,
      refl,
      tt,
    )

pub opened_stands : (shape : TreeShape) (more d at : ℕ) (f : Flat (List AggState))
    → (node_at f.0 at).start < (node_at f.0 at).end → (node_at f.0 at).end ≤ length f.1
    → (docs : List Doc) → docs ≡ range (node_at f.0 at).start (node_at f.0 at).end f.1
    → Proper (suc d + more) d docs → Rising d docs → Ordinary d docs
    → Standing shape more (suc d) (length f.0) (split_children shape more d docs) (opened d at
    (split_children shape more d docs) f)
opened_stands shape more d at f lt le docs is proper up ord =
    let start = (node_at f.0 at).start in
    let end = (node_at f.0 at).end in
    let vs = ids_at merged_rows d docs in
    let filled = filled_all (length docs) d docs (omega arith) up ord in
    let all = joined_all merged_rows (length docs) d docs up in
    let subtrees = split_children shape more d docs in
    let g = opened d at subtrees f in
    let b = stars shape d docs in
    let len : length docs ≡ end - start = ap length is
    ∙ length-take-le (end - start) (drop start f.1) (omega (arith, length-drop start f.1)) in
    let g1 : g.1 ≡ f.1 ++ (if b then starred_docs d docs else []) = ap (λ l. f.1 ++ l)
    (star_docs-subtrees (under merged_rows shape more (suc d)) d docs (star_child merged_rows (under
    merged_rows shape more (suc d)) shape d docs) vs filled ∙ by_b b) in
    stands_ids shape more d docs (λ v. own_proper (suc d + more) d v docs (omega arith) proper) g
    (star_child merged_rows (under merged_rows shape more (suc d)) shape d docs) (length f.1)
    (last_stands shape more d f docs b (star_proper (suc d + more) d docs (omega arith) proper)
    (omega (arith, len)) g g1)
    vs start f.0 filled refl
    (ap (λ l. take (length l) (drop start g.1)) all ∙ ap (λ l. take (length docs) (drop start l)) g1
    ∙ ap (take (length docs)) (drop-append-le start f.1 (if b then starred_docs d docs else [])
    (omega arith))
    ∙ take-append-le (length docs) (drop start f.1) (if b then starred_docs d docs else []) (omega
    (arith, len, length-drop start f.1))
    ∙ ap (λ k. take k (drop start f.1)) len ∙ sym is ∙ sym all) (omega (
      arith,
      ap length all,
      len,
      ap length g1,
      length-append f.1 (if b then starred_docs d docs else []),
    ))
  where
    by_b : (b : Bool) → star_docs (if b then node star (starred_docs d docs) (under merged_rows
        shape more (suc d) (starred_docs d docs)) none else none)
        ≡ (if b then starred_docs d docs else [])
    by_b true = refl
    by_b false = refl
