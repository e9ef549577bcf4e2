-- The documents of a node: their ids, and the one that stands for all of them.
use Rattle.std.proofs.Common.{◌≡◌, ◌≢◌, ℕ, zero, suc, ◌+◌, ◌-◌, ◌<◌, ◌≤◌, Bool, true, false, cond}
use Rattle.std.proofs.Common.{◌&&◌, ◌||◌, ◌==◌, not, nat_lt, nat_le, List, [], ◌∷◌, ◌++◌, length}
use Rattle.std.proofs.Common.{replicate, take, refl, sym, ap, subst, ◌∙◌, arith}
use Rattle.std.specs.declared.cmp.Ordering.TheVariants.{Less, Equal, Greater}
use Rattle.std.specs.FinMap.Entries.{by_order}
use Rattle.std.proofs.lemmas.Bool.{eqb-true}
use Rattle.agg_laws.specs.declared.tree_shape.TreeShape.{TreeShape}
use Rattle.agg_laws.specs.Merged.{IsJoin, total, add, rekey}
use Rattle.agg_laws.specs.Tree.{star, dims_order, dim, set_star, merged_docs, Nodes, none, node}
use Rattle.agg_laws.specs.Tree.{skips, ids_at, docs_with, child_nodes_of, star_child, under, agrees, starred}
use Rattle.agg_laws.specs.Tree.{rows_at, HaveNoStar}
use Rattle.state_columns.specs.Docs.{HaveIds}
use Rattle.state_columns.specs.Documents.{aggregated, total_here, total_below, total_doc}
use Rattle.state_columns.specs.Documents.{one_document}
use Rattle.star_tree.specs.Picks.{IsTotal}
use Rattle.star_tree.proofs.TreeLemmas.{Avoids, Avoids-ids, star_docs, length_more, agrees_star}
use Rattle.star_tree.proofs.TreeLemmas.{covers_rows}
use Rattle.state_columns.proofs.AggregatedLemmas.{aggregated_is}

-- what is known of the ids of each document at a path: there are k, which begin as the path, and
-- none further on is a star
abbrev pub DocAt : ℕ → List ℕ → List ℕ → Type 0
DocAt k path x = (length x ≡ k) × (take (length path) x ≡ path)
    × ((i : ℕ) → length path ≤ i → i < k → dim i x ≢ star)

abbrev pub DocsAt : {S : Type 0} → ℕ → List ℕ → List (List ℕ × S) → Type 0
DocsAt k path [] = Unit {0}
DocsAt k path (e ∷ es) = DocAt k path e.0 × DocsAt k path es

length-starred : (path x : List ℕ) → length path ≤ length x → length (starred path x) ≡ length x
length-starred [] x h = refl
length-starred (p ∷ ps) [] h = absurd (omega arith)
length-starred (p ∷ ps) (x ∷ xs) h = ap suc (length-starred ps xs (omega arith))

second : (a b c : Bool) → ((a || b) && c) ≡ true → c ≡ true
second true b true h = refl
second false true true h = refl
second false false c h = cc
second true b false h = cc
second false true false h = cc

same_id : (p x : ℕ) (c : Bool) → (((p == star) || (x == p)) && c) ≡ true → cond (p == star) star x
    ≡ p
same_id p x c h =
    elim (p == star) as (λ b. (p == star) ≡ b → ((b || (x == p)) && c) ≡ true → cond b star x ≡ p) [
      | true ↦ λ e _. sym (eqb-true p star e)
      | false ↦ λ e g. eqb-true x p (front (x == p) c g)
    ] refl h
  where
    front : (a b : Bool) → (a && b) ≡ true → a ≡ true
    front true b g = refl
    front false b g = cc

pub take-starred : (path x : List ℕ) → length path ≤ length x → agrees path x ≡ true
    → take (length path) (starred path x) ≡ path
take-starred [] x h on = refl
take-starred (p ∷ ps) [] h on = absurd (omega arith)
take-starred (p ∷ ps) (x ∷ xs) h on = λ i. same_id p x (agrees ps xs) on i
    ∷ take-starred ps xs (omega arith) (second (p == star) (x == p) (agrees ps xs) on) i

-- the path says nothing of the dimensions after it
pub dim-after : (path x : List ℕ) (i : ℕ) → length path ≤ i → dim i (starred path x) ≡ dim i x
dim-after [] x i h = refl
dim-after (p ∷ ps) [] i h = refl
dim-after (p ∷ ps) (x ∷ xs) zero h = absurd (omega arith)
dim-after (p ∷ ps) (x ∷ xs) (suc i) h = dim-after ps xs i (omega arith)

take-prefix : (path : List ℕ) (v : ℕ) (x : List ℕ) → take (length (path ++ (v ∷ []))) x ≡ path
    ++ (v ∷ []) → take (length path) x ≡ path
take-prefix [] v x h = refl
take-prefix (p ∷ ps) v [] h = cc
take-prefix (p ∷ ps) v (x ∷ xs) h =
    λ i. first x p (take (length (ps ++ (v ∷ []))) xs) (ps ++ (v ∷ [])) h i
    ∷ take-prefix ps v xs (rest x p (take (length (ps ++ (v ∷ []))) xs) (ps ++ (v ∷ [])) h) i
  where
    first : (a b : ℕ) (xs ys : List ℕ) → a ∷ xs ≡ b ∷ ys → a ≡ b
    first a b xs ys e = cc

    rest : (a b : ℕ) (xs ys : List ℕ) → a ∷ xs ≡ b ∷ ys → xs ≡ ys
    rest a b xs ys e = cc

take-own : (path ys : List ℕ) → take (length path) (path ++ ys) ≡ path
take-own [] ys = refl
take-own (p ∷ ps) ys = ap (λ t. p ∷ t) (take-own ps ys)

module _ {S : Type 0} (join : S → S → S) (j : IsJoin join) where
  add_docs_at : (k : ℕ) (path x : List ℕ) (s : S) (es : List (List ℕ × S)) → DocAt k path x
      → DocsAt k path es → DocsAt k path (add dims_order join x s es)
  add_docs_at k path x s [] p h = (p, tt)
  add_docs_at k path x s (e ∷ es) p h =
      elim (dims_order x e.0) as
      (λ r. DocsAt k path (by_order r ((x, s) ∷ e ∷ es) ((e.0, join s e.1) ∷ es)
      (e ∷ add dims_order join x s es))) [
        | Less ↦ (p, h)
        | Equal ↦ h
        | Greater ↦ (h.0, add_docs_at k path x s es p h.1)
      ]

  merged_docs_at : (k : ℕ) (path : List ℕ) (es : List (List ℕ × S)) → DocsAt k path es
      → DocsAt k path (merged_docs join es)
  merged_docs_at k path [] h = tt
  merged_docs_at k path (e ∷ es) h =
      add_docs_at k path e.0 e.1 (merged_docs join es) h.0 (merged_docs_at k path es h.1)

  rows_docs_at : (k : ℕ) (path : List ℕ) (rows : List (List ℕ × S)) → length path ≤ k
      → HaveIds k rows → HaveNoStar k rows
      → DocsAt k path (rekey (starred path) (rows_at path rows))
  rows_docs_at k path [] short ids no_star = tt
  rows_docs_at k path (e ∷ es) short ids no_star =
      let more = rows_docs_at k path es short ids.1 no_star.1 in
      elim (agrees path e.0) as
      (λ b. agrees path e.0 ≡ b
      → DocsAt k path (rekey (starred path) (cond b (e ∷ rows_at path es) (rows_at path es)))) [
        | true ↦ λ on. (
          (
            length-starred path e.0 (omega (arith, ids.0)) ∙ ids.0,
            take-starred path e.0 (omega (arith, ids.0)) on,
            λ i le lt is. no_star.0 i lt (sym (dim-after path e.0 i le) ∙ is),
          ),
          more,
        )
        | false ↦ λ _. more
      ] refl

  -- the documents at a path have its ids
  pub docs_at : (k : ℕ) (path : List ℕ) (rows docs : List (List ℕ × S)) → length path ≤ k
      → HaveIds k rows → HaveNoStar k rows → docs
      ≡ merged_docs join (rekey (starred path) (rows_at path rows)) → DocsAt k path docs
  docs_at k path rows docs short ids no_star is =
      subst (DocsAt k path) (sym is)
      (merged_docs_at k path (rekey (starred path) (rows_at path rows))
      (rows_docs_at k path rows short ids no_star))

  -- the star child of some nodes alone matters
  pub below_children : (below : List (List ℕ × S) → Nodes S) (d : ℕ) (docs all : List (List ℕ × S))
      (last : Nodes S) (vs : List ℕ) → Avoids vs
      → total_below join d all (child_nodes_of below d docs last vs) ≡ total_below join d all last
  below_children below d docs all last [] av = refl
  below_children below d docs all last (v ∷ vs) av =
      let own = docs_with d v docs in
      ap (λ b. cond b (total_here join (suc d) own (below own)
      (total_below join (suc d) own (below own)))
      (total_below join d all (child_nodes_of below d docs last vs))) av.0
      ∙ below_children below d docs all last vs av.1

  module _ (k : ℕ) (shape : TreeShape) (rows : List (List ℕ × S)) (ids : HaveIds k rows)
      (no_star : HaveNoStar k rows) where
    pub merged_total : (path : List ℕ) (docs : List (List ℕ × S)) → length path ≤ k → docs
        ≡ merged_docs join (rekey (starred path) (rows_at path rows))
        → IsTotal join rows path (aggregated join (length path) docs)
    merged_total path docs short is = record {
      ids = path ++ replicate (k - length path) star;
      path_is = take-own path (replicate (k - length path) star);
      docs_are = aggregated_is join j k rows docs path ids short is;
    }

    one_total : (path : List ℕ) (docs : List (List ℕ × S)) → length path ≤ k → docs
        ≡ merged_docs join (rekey (starred path) (rows_at path rows)) → (length docs == 1) ≡ true
        → IsTotal join rows path docs
    one_total path [] short is one = cc
    one_total path (e ∷ f ∷ es) short is one = let n : length (e ∷ f ∷ es)
        ≡ 1 = eqb-true (length (e ∷ f ∷ es)) 1 one in absurd (omega (arith, n))
    one_total path (e ∷ []) short is one = record {
      ids = e.0;
      path_is = (docs_at k path rows (e ∷ []) short ids no_star is).0.1;
      docs_are = ap (one_document e.0) (covers_rows join j path rows (e ∷ []) is).total_is;
    }

    leaf_total : (d : ℕ) (path : List ℕ) (docs : List (List ℕ × S)) → d ≡ length path
        → length path ≤ k → docs ≡ merged_docs join (rekey (starred path) (rows_at path rows))
        → IsTotal join rows path (total_doc join d docs none)
    leaf_total d path docs at short is =
        elim (length docs == 1) as
        (λ b. (length docs == 1) ≡ b
        → IsTotal join rows path (cond b docs (aggregated join d docs))) [
          | true ↦ λ e. one_total path docs short is e
          | false ↦ λ _. subst (λ n. IsTotal join rows path (aggregated join n docs)) (sym at)
              (merged_total path docs short is)
        ] refl

    -- one more star on the path
    total_star : (path : List ℕ) (docs : List (List ℕ × S))
        → IsTotal join rows (path ++ (star ∷ [])) docs → IsTotal join rows path docs
    total_star path docs h = record {
      ids = h.ids;
      path_is = take-prefix path star h.ids h.path_is;
      docs_are = h.docs_are
          ∙ ap (λ r. one_document h.ids (total join (λ _. true) r)) (same_rows path rows);
    }
      where
        same_rows : (path : List ℕ) (rows : List (List ℕ × S)) → rows_at (path ++ (star ∷ [])) rows
            ≡ rows_at path rows
        same_rows path [] = refl
        same_rows path (e ∷ es) =
            λ i. cond (agrees_star path e.0 i) (e ∷ same_rows path es i) (same_rows path es i)

    -- where a node is split, whatever its last child
    children_total : (d : ℕ) (path : List ℕ) (docs : List (List ℕ × S)) (subtrees : Nodes S) → d
        ≡ length path → length path ≤ k → docs
        ≡ merged_docs join (rekey (starred path) (rows_at path rows))
        → IsTotal join rows path (total_below join d docs subtrees)
        → IsTotal join rows path (total_doc join d docs subtrees)
    children_total d path docs none at short is h = leaf_total d path docs at short is
    children_total d path docs (node id own below rest) at short is h = h

    last_total : (s : Bool) (d : ℕ) (path : List ℕ) (docs sd : List (List ℕ × S)) (subtrees : Nodes S)
        → d ≡ length path → length path ≤ k → docs
        ≡ merged_docs join (rekey (starred path) (rows_at path rows))
        → IsTotal join rows (path ++ (star ∷ [])) (total_doc join (suc d) sd subtrees)
        → IsTotal join rows path
        (total_below join d docs (cond s (node star sd subtrees none) none))
    last_total true d path docs sd subtrees at short is h =
        total_star path (total_doc join (suc d) sd subtrees) h
    last_total false d path docs sd subtrees at short is h =
        subst (λ n. IsTotal join rows path (aggregated join n docs)) (sym at)
        (merged_total path docs short is)

    pub total_is : (more d : ℕ) (path : List ℕ) (docs : List (List ℕ × S)) → d ≡ length path → d
        + more ≡ k → docs ≡ merged_docs join (rekey (starred path) (rows_at path rows))
        → IsTotal join rows path (total_doc join d docs (under join shape more d docs))
    total_is zero d path docs at sum is = leaf_total d path docs at (omega (arith, at, sum)) is
    total_is (suc more) d path docs at sum is =
        let below = under join shape more (suc d) in
        let sd = merged_docs join (rekey (set_star d) docs) in
        let s = not (skips shape d) && nat_lt 1 (length (ids_at join d docs)) in
        let last = star_child join below shape d docs in
        let vs = ids_at join d docs in
        let short : length path ≤ k = omega (arith, at, sum) in
        let lt : length path < k = omega (arith, at, sum) in
        let av : Avoids vs = subst (λ n. Avoids (ids_at join n docs)) (sym at)
        (Avoids-ids join j path rows docs is k lt no_star) in
        let next : suc d ≡ length (path ++ (star ∷ [])) = ap suc at ∙ sym (length_more path star) in
        let sum' : suc d + more ≡ k = omega arith in
        let star_is = ap (λ n. merged_docs join (rekey (set_star n) docs)) at
        ∙ star_docs join j path rows docs is in
        let star_total = total_is more (suc d) (path ++ (star ∷ [])) sd next sum' star_is in
        let split : IsTotal join rows path
        (total_below join d docs (child_nodes_of below d docs last vs)) =
        subst (IsTotal join rows path) (sym (below_children below d docs docs last vs av))
        (last_total s d path docs sd (below sd) at short is star_total) in
        elim (nat_le (length docs) shape.leaf) as
        (λ b. IsTotal join rows path
        (total_doc join d docs (cond b none (child_nodes_of below d docs last vs)))) [
          | true ↦ leaf_total d path docs at short is
          | false ↦ children_total d path docs (child_nodes_of below d docs last vs) at short is split
        ]
