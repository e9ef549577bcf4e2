-- A query reads no more documents of a tree than there are rows.
use Rattle.std.proofs.Common.{◌≡◌, ◌∙◌, ◌<◌, ◌≤◌, ◌+◌, ◌-◌, ◌==◌, ◌&&◌, ◌||◌, ◌++◌, ℕ, zero, suc}
use Rattle.std.proofs.Common.{Bool}
use Rattle.std.proofs.Common.{true, false, cond, not, nat_le, nat_lt, List, [], ◌∷◌, length, refl}
use Rattle.std.proofs.Common.{sym, ap, subst, arith}
use Rattle.std.proofs.lemmas.Bool.{eqb-true}
use Rattle.agg_laws.specs.declared.tree_shape.TreeShape.{TreeShape}
use Rattle.state_columns.specs.Docs.{HaveIds}
use Rattle.state_columns.specs.Documents.{total_doc}
use Rattle.agg_laws.specs.Merged.{IsJoin, rekey}
use Rattle.star_tree.specs.Picks.{Pick, Task, is_selected, picks, picks_here, picks_of, are_unconstrained, read_of}
use Rattle.agg_laws.specs.Tree.{HaveNoStar, Nodes, dim, docs_with, has_star, ids_at, child_nodes_of}
use Rattle.agg_laws.specs.Tree.{merged_docs, node, none, root_of, rows_at, set_star, skips, star}
use Rattle.agg_laws.specs.Tree.{star_child, starred, tree_of, under}
use Rattle.state_columns.proofs.ListLemmas.{length-rekey, merged_fewer, merged_some}
use Rattle.star_tree.proofs.NodeLemmas.{total_is}
use Rattle.star_tree.proofs.PickLemmas.{has_star-subtrees, star_flag}
use Rattle.star_tree.proofs.ReadLemmas.{Above, Ascending, ids_ascend, one_whole}
use Rattle.star_tree.proofs.Runs.{Filled, all_filled}
use Rattle.star_tree.proofs.TreeLemmas.{Avoids, Avoids-ids, all_rows, length_more, own_docs}
use Rattle.star_tree.proofs.TreeLemmas.{star_docs}

-- ---- documents of some ids are no more than all

-- how many documents have one of these ids
abbrev with_ids : {S : Type 0} → ℕ → List (List ℕ × S) → List ℕ → ℕ
with_ids d docs [] = 0
with_ids d docs (v ∷ vs) = length (docs_with d v docs) + with_ids d docs vs

-- how many of these ids are this one
abbrev hits : ℕ → List ℕ → ℕ
hits id [] = 0
hits id (v ∷ vs) = cond (id == v) 1 0 + hits id vs

no_hit : (id v : ℕ) (vs : List ℕ) → id ≤ v → Above v vs → hits id vs ≡ 0
no_hit id v [] le above = refl
no_hit id v (w ∷ ws) le above =
    let rest = no_hit id v ws le above.1 in
    by (id == w) refl rest
  where
    by : (b : Bool) → (id == w) ≡ b → hits id ws ≡ 0 → cond b 1 0 + hits id ws ≡ 0
    by true e rest =
        let same : id ≡ w = eqb-true id w e in
        absurd (omega (arith, le, above.0, same))
    by false e rest = omega (arith, rest)

one_hit : (id : ℕ) (vs : List ℕ) → Ascending vs → hits id vs ≤ 1
one_hit id [] up = omega arith
one_hit id (v ∷ vs) up = by (id == v) refl (one_hit id vs up.1)
  where
    by : (b : Bool) → (id == v) ≡ b → hits id vs ≤ 1 → cond b 1 0 + hits id vs ≤ 1
    by true e at_most =
        let same : id ≡ v = eqb-true id v e in
        let rest = no_hit id v vs (omega (arith, same)) up.0 in
        omega (arith, rest)
    by false e at_most = omega (arith, at_most)

one_longer : {X : Type 0} (b : Bool) (x : X) (xs : List X)
    → length (cond b (x ∷ xs) xs) ≡ cond b 1 0 + length xs
one_longer true x xs = omega arith
one_longer false x xs = omega arith

more_with : {S : Type 0} (d : ℕ) (e : List ℕ × S) (es : List (List ℕ × S)) (vs : List ℕ)
    → with_ids d (e ∷ es) vs ≡ hits (dim d e.0) vs + with_ids d es vs
more_with d e es [] = omega arith
more_with d e es (v ∷ vs) =
    let own = one_longer (dim d e.0 == v) e (docs_with d v es) in
    omega (arith, own, more_with d e es vs)

module _ {S : Type 0} (d : ℕ) where
  none_with : (vs : List ℕ) (docs : List (List ℕ × S)) → docs ≡ [] → with_ids d docs vs ≡ 0
  none_with [] docs is = refl
  none_with (v ∷ vs) docs is =
      let own : length (docs_with d v docs) ≡ 0 = ap (λ es. length (docs_with d v es)) is in
      omega (arith, own, none_with vs docs is)

  few_with : (docs : List (List ℕ × S)) (vs : List ℕ) → Ascending vs
      → with_ids d docs vs ≤ length docs
  few_with [] vs up = let none = none_with vs [] refl in omega (arith, none)
  few_with (e ∷ es) vs up =
      omega (arith, more_with d e es vs, one_hit (dim d e.0) vs up, few_with es vs up)

-- ---- what is read at a node

read_both : {S : Type 0} (ps qs : List (Pick S)) → read_of (ps ++ qs) ≡ read_of ps + read_of qs
read_both [] qs = omega arith
read_both (p ∷ ps) qs = omega (arith, read_both ps qs)

-- an ordinary child may be taken
abbrev is_open : Task → Bool → ℕ → Bool
is_open t s d = t.filtered d || t.grouped d || not s

-- an ordinary child is taken only where one may be, and the star child only where none may be
open_taken : (f g s p : Bool) (r n m : ℕ) → r ≤ n
    → cond (cond f (true && p) (cond g true (cond s false true))) r 0 + cond (f || g || not s) m 0
    ≤ cond (f || g || not s) (n + m) 0
open_taken true g s true r n m h = omega (arith, h)
open_taken true g s false r n m h = omega (arith, h)
open_taken false true s p r n m h = omega (arith, h)
open_taken false false true p r n m h = omega (arith, h)
open_taken false false false p r n m h = omega (arith, h)

star_taken : (f g p : Bool) (r n : ℕ) → r ≤ n
    → cond (cond f (false && p) (cond g false true)) r 0 + 0 ≤ cond (f || g || false) 0 n
star_taken true g p r n h = omega arith
star_taken false true p r n h = omega arith
star_taken false false p r n h = omega (arith, h)

-- together no more than all documents of the node
both_few : (o : Bool) (n m r : ℕ) → m ≤ n → r ≤ cond o m 0 + cond o 0 n → r ≤ n
both_few true n m r h k = omega (arith, h, k)
both_few false n m r h k = omega (arith, k)

module _ {S : Type 0} (join : S → S → S) (j : IsJoin join) (t : Task) (k : ℕ) (shape : TreeShape)
    (rows : List (List ℕ × S)) (ids : HaveIds k rows) (no_star : HaveNoStar k rows) where
  here_few : (d : ℕ) (path : List ℕ) (docs : List (List ℕ × S)) (subtrees : Nodes S)
      (below : List (Pick S)) (n : ℕ) → length (total_doc join d docs subtrees) ≤ n
      → (subtrees ≡ none → length docs ≤ n) → read_of below ≤ n
      → read_of (picks_here join t k d path docs subtrees below) ≤ n
  here_few d path docs none below n one leaf more =
      elim (are_unconstrained t (k - d) d) as (λ b. read_of (cond b
      (record { path = path; level = k; docs = total_doc join d docs none } ∷ [])
      (record { path = path; level = d; docs = docs } ∷ [])) ≤ n) [
        | true ↦ omega (arith, one)
        | false ↦ omega (arith, leaf refl)
      ]
  here_few d path docs (node id own subtrees rest) below n one leaf more =
      elim (are_unconstrained t (k - d) d) as (λ b. read_of (cond b
      (record { path = path; level = k; docs = total_doc join d docs (node id own subtrees rest) } ∷ [])
      below) ≤ n) [ true ↦ omega (arith, one) | false ↦ more ]

  taken_read : (b : Bool) (ps : List (Pick S)) → read_of (cond b ps []) ≡ cond b (read_of ps) 0
  taken_read true ps = refl
  taken_read false ps = refl

  children_few : (s : Bool) (d : ℕ) (path : List ℕ) (docs : List (List ℕ × S))
      (below : List (List ℕ × S) → Nodes S) (last : Nodes S)
      → ((v : ℕ) → (v == star) ≡ false → 0 < length (docs_with d v docs)
      → read_of (picks_here join t k (suc d) (path ++ (v ∷ [])) (docs_with d v docs)
      (below (docs_with d v docs))
      (picks_of join t k (has_star (below (docs_with d v docs))) (suc d) (path ++ (v ∷ []))
      (below (docs_with d v docs)))) ≤ length (docs_with d v docs))
      → (vs : List ℕ) → Avoids vs → Filled join d docs vs
      → read_of (picks_of join t k s d path (child_nodes_of below d docs last vs))
      ≤ cond (is_open t s d) (with_ids d docs vs) 0 + read_of (picks_of join t k s d path last)
  children_few s d path docs below last each [] av fill =
      elim (is_open t s d) as (λ b. read_of (picks_of join t k s d path last)
      ≤ cond b 0 0 + read_of (picks_of join t k s d path last))
      [ true ↦ omega arith | false ↦ omega arith ]
  children_few s d path docs below last each (v ∷ vs) av fill =
      let own = below (docs_with d v docs) in
      let here = picks_here join t k (suc d) (path ++ (v ∷ [])) (docs_with d v docs) own
      (picks_of join t k (has_star own) (suc d) (path ++ (v ∷ [])) own) in
      let rest = picks_of join t k s d path (child_nodes_of below d docs last vs) in
      let parts = read_both (cond (is_selected t s d v) here []) rest in
      let first = taken_read (is_selected t s d v) here in
      let step : cond (is_selected t s d v) (read_of here) 0
      + cond (is_open t s d) (with_ids d docs vs) 0
      ≤ cond (is_open t s d) (length (docs_with d v docs) + with_ids d docs vs) 0 =
      subst (λ b. cond (cond (t.filtered d) (not b && t.passes d v)
      (cond (t.grouped d) (not b) (cond s b true))) (read_of here) 0
      + cond (is_open t s d) (with_ids d docs vs) 0
      ≤ cond (is_open t s d) (length (docs_with d v docs) + with_ids d docs vs) 0) (sym av.0)
      (open_taken (t.filtered d) (t.grouped d) s (t.passes d v) (read_of here)
      (length (docs_with d v docs)) (with_ids d docs vs) (each v av.0 fill.0)) in
      omega (arith, parts, first, step, children_few s d path docs below last each vs av.1 fill.1)

  star_few : (s : Bool) (d : ℕ) (path : List ℕ) (n : ℕ) (sd : List (List ℕ × S)) (subtrees : Nodes S)
      → read_of (picks_here join t k (suc d) (path ++ (star ∷ [])) sd subtrees
      (picks_of join t k (has_star subtrees) (suc d) (path ++ (star ∷ [])) subtrees)) ≤ n
      → read_of (picks_of join t k s d path (cond s (node star sd subtrees none) none))
      ≤ cond (is_open t s d) 0 n
  star_few false d path n sd subtrees h = none_read (is_open t false d)
    where
      none_read : (b : Bool) → 0 ≤ cond b 0 n
      none_read true = omega arith
      none_read false = omega arith
  star_few true d path n sd subtrees h =
      let here = picks_here join t k (suc d) (path ++ (star ∷ [])) sd subtrees
      (picks_of join t k (has_star subtrees) (suc d) (path ++ (star ∷ [])) subtrees) in
      let parts = read_both (cond (is_selected t true d star) here []) [] in
      let first = taken_read (is_selected t true d star) here in
      let step = star_taken (t.filtered d) (t.grouped d) (t.passes d star) (read_of here) n h in
      omega (arith, parts, first, step)

  node_few : (more d : ℕ) (path : List ℕ) (docs : List (List ℕ × S)) → d ≡ length path
      → d + more ≡ k → docs ≡ merged_docs join (rekey (starred path) (rows_at path rows))
      → 0 < length docs
      → read_of (picks_here join t k d path docs (under join shape more d docs)
      (picks_of join t k (has_star (under join shape more d docs)) d path
      (under join shape more d docs))) ≤ length docs
  node_few zero d path docs at sum is some =
      let w = one_whole join t k rows path (total_doc join d docs none)
      (total_is join j k shape rows ids no_star zero d path docs at sum is) in
      here_few d path docs none [] (length docs) (omega (arith, w, some)) (λ _. omega arith)
      (omega arith)
  node_few (suc more) d path docs at sum is some =
      let below = under join shape more (suc d) in
      let sd = merged_docs join (rekey (set_star d) docs) in
      let s = not (skips shape d) && nat_lt 1 (length (ids_at join d docs)) in
      let last = star_child join below shape d docs in
      let vs = ids_at join d docs in
      let subtrees = child_nodes_of below d docs last vs in
      let lt : length path < k = omega (arith, at, sum) in
      let av : Avoids vs = subst (λ n. Avoids (ids_at join n docs)) (sym at)
      (Avoids-ids join j path rows docs is k lt no_star) in
      let next : (v : ℕ) → suc d ≡ length (path ++ (v ∷ [])) = λ v. ap suc at
      ∙ sym (length_more path v) in
      let sum' : suc d + more ≡ k = omega arith in
      let each = λ (v : ℕ) (o : (v == star) ≡ false) (there : 0 < length (docs_with d v docs)).
      node_few more (suc d) (path ++ (v ∷ [])) (docs_with d v docs) (next v) sum'
      (ap (λ n. docs_with n v docs) at ∙ own_docs join j path rows docs is v o) there in
      let size = length-rekey join (set_star d) docs in
      let fewer = merged_fewer join (rekey (set_star d) docs) in
      let starry = node_few more (suc d) (path ++ (star ∷ [])) sd (next star) sum'
      (ap (λ n. merged_docs join (rekey (set_star n) docs)) at
      ∙ star_docs join j path rows docs is)
      (merged_some join (rekey (set_star d) docs) (omega (arith, size, some))) in
      let flag : has_star subtrees ≡ s = has_star-subtrees below d docs last vs av
      ∙ star_flag s sd (below sd) in
      let ordinary = children_few s d path docs below last each vs av (all_filled join d docs) in
      let end = star_few s d path (length docs) sd (below sd)
      (omega (arith, starry, size, fewer)) in
      let both : read_of (picks_of join t k s d path subtrees) ≤ length docs =
      both_few (is_open t s d) (length docs) (with_ids d docs vs)
      (read_of (picks_of join t k s d path subtrees))
      (few_with d docs vs (ids_ascend join j d docs)) (omega (arith, ordinary, end)) in
      let all : read_of (picks_of join t k (has_star subtrees) d path subtrees) ≤ length docs =
      subst (λ b. read_of (picks_of join t k b d path subtrees) ≤ length docs) (sym flag) both in
      let w : length (total_doc join d docs (under join shape (suc more) d docs)) ≤ 1 =
      one_whole join t k rows path _
      (total_is join j k shape rows ids no_star (suc more) d path docs at sum is) in
      elim (nat_le (length docs) shape.leaf) as
      (λ b. length (total_doc join d docs (cond b none subtrees)) ≤ 1
      → read_of (picks_here join t k d path docs (cond b none subtrees)
      (picks_of join t k (has_star (cond b none subtrees)) d path (cond b none subtrees)))
      ≤ length docs) [
        | true ↦ λ w. here_few d path docs none [] (length docs) (omega (arith, w, some))
            (λ _. omega arith) (omega arith)
        | false ↦ λ w. here_few d path docs subtrees
            (picks_of join t k (has_star subtrees) d path subtrees) (length docs)
            (omega (arith, w, some)) (λ _. omega arith) all
      ] w

  root_few : (docs : List (List ℕ × S)) → docs ≡ merged_docs join rows
      → read_of (picks join t k (root_of join shape k docs)) ≤ length docs
  root_few [] is = omega arith
  root_few (e ∷ es) is =
      node_few k 0 [] (e ∷ es) refl (omega arith)
      (is ∙ ap (merged_docs join) (sym (all_rows join j rows))) (omega arith)

  -- no more documents are read of a tree than there are rows
  pub few_read : read_of (picks join t k (tree_of join shape k rows)) ≤ length rows
  few_read =
      let own = root_few (merged_docs join rows) refl in
      let fewer = merged_fewer join rows in
      omega (arith, own, fewer)
