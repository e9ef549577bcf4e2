-- Each node of the tree covers the rows that agree with its path.
use Rattle.std.proofs.Common.{◌≡◌, ◌≢◌, ℕ, zero, suc, ◌+◌, ◌<◌, Bool, true, false, cond, ◌&&◌, ◌||◌}
use Rattle.std.proofs.Common.{◌==◌, List, [], ◌∷◌, ◌++◌, map, length, Option, Some, None, refl, sym}
use Rattle.std.proofs.Common.{ap, subst, ◌∙◌, arith, nat_le}
use Rattle.std.proofs.lemmas.Bool.Decides.{nat_tests}
use Rattle.std.specs.Ordering.{nat_cmp, eq_by_cmp}
use Rattle.std.specs.FinMap.{nat_cmp-IsAntisymmetric}
use Rattle.std.specs.FinMap.Entries.{by_order}
use Rattle.std.specs.declared.cmp.Ordering.{Ordering}
use Rattle.std.specs.declared.cmp.Ordering.TheVariants.{Less, Equal, Greater}
use Rattle.std.proofs.lemmas.Cmp.{nat_list_cmp_total, nat_cmp_total}
use Rattle.agg_laws.specs.declared.tree_shape.TreeShape.{TreeShape}
use Rattle.agg_laws.specs.Merged.{IsJoin, join_some, total, rekey, add, Merged}
use Rattle.agg_laws.specs.Tree.{star, dims_order, dim, set_star, merged_docs, Nodes, none, node}
use Rattle.agg_laws.specs.Tree.{ids_at, docs_with, child_nodes_of, star_child, under, root_of, tree_of}
use Rattle.agg_laws.specs.Tree.{agrees, starred, rows_at, HaveNoStar, CoversRows, Covers}
use Rattle.agg_laws.specs.Tree.{CoversTree}
use Rattle.state_columns.proofs.MergedLemmas.{total-filter, total-rekey, total-Merged, total_agree}
use Rattle.state_columns.proofs.MergedLemmas.{Merged_same, filter-Merged, Merged-rekey}
use Rattle.state_columns.proofs.ListLemmas.{same_dims}

pub and_assoc : (a b c : Bool) → (a && (b && c)) ≡ ((a && b) && c)
and_assoc true b c = refl
and_assoc false b c = refl

and_true : (a : Bool) → (a && true) ≡ a
and_true true = refl
and_true false = refl

turned : (v w : ℕ) → (v == w) ≡ (w == v)
turned v w = grind (arith, nat_tests)

starred_nil : (path : List ℕ) → starred path [] ≡ []
starred_nil [] = refl
starred_nil (p ∷ ps) = refl

-- one more id on the path, which is no star
pub agrees_more : (path : List ℕ) (v : ℕ) → (v == star) ≡ false → (x : List ℕ)
    → agrees (path ++ (v ∷ [])) x ≡ (agrees path x && (dim (length path) (starred path x) == v))
agrees_more [] v h [] = ap (λ b. b && true) h ∙ sym (turned star v ∙ h)
agrees_more [] v h (x ∷ xs) = ap (λ b. (b || (x == v)) && true) h ∙ and_true (x == v)
agrees_more (p ∷ ps) v h [] =
    ap (λ b. (p == star) && b)
    (agrees_more ps v h [] ∙ ap (λ t. agrees ps [] && (dim (length ps) t == v)) (starred_nil ps))
    ∙ and_assoc (p == star) (agrees ps []) (star == v)
agrees_more (p ∷ ps) v h (x ∷ xs) = ap (λ b. ((p == star) || (x == p)) && b) (agrees_more ps v h xs)
    ∙ and_assoc ((p == star) || (x == p)) (agrees ps xs) (dim (length ps) (starred ps xs) == v)

pub starred_more : (path : List ℕ) (v : ℕ) → (v == star) ≡ false → (x : List ℕ)
    → starred (path ++ (v ∷ [])) x ≡ starred path x
starred_more [] v h [] = refl
starred_more [] v h (x ∷ xs) = ap (λ b. cond b star x ∷ xs) h
starred_more (p ∷ ps) v h [] = refl
starred_more (p ∷ ps) v h (x ∷ xs) = ap (λ t. cond (p == star) star x ∷ t) (starred_more ps v h xs)

pub agrees_star : (path : List ℕ) (x : List ℕ) → agrees (path ++ (star ∷ [])) x ≡ agrees path x
agrees_star [] [] = refl
agrees_star [] (x ∷ xs) = refl
agrees_star (p ∷ ps) [] = ap (λ b. (p == star) && b) (agrees_star ps [])
agrees_star (p ∷ ps) (x ∷ xs) = ap (λ b. ((p == star) || (x == p)) && b) (agrees_star ps xs)

pub starred_star : (path : List ℕ) (x : List ℕ) → starred (path ++ (star ∷ [])) x
    ≡ set_star (length path) (starred path x)
starred_star [] [] = refl
starred_star [] (x ∷ xs) = refl
starred_star (p ∷ ps) [] = refl
starred_star (p ∷ ps) (x ∷ xs) = ap (λ t. cond (p == star) star x ∷ t) (starred_star ps xs)

pub length_more : (path : List ℕ) (v : ℕ) → length (path ++ (v ∷ [])) ≡ suc (length path)
length_more [] v = refl
length_more (p ∷ ps) v = ap suc (length_more ps v)

-- the path says nothing of its next dimension
pub dim-starred : (path x : List ℕ) → dim (length path) (starred path x) ≡ dim (length path) x
dim-starred [] x = refl
dim-starred (p ∷ ps) [] = refl
dim-starred (p ∷ ps) (x ∷ xs) = dim-starred ps xs

-- ids of which none is the star
abbrev pub Avoids : List ℕ → Type 0
Avoids [] = Unit {0}
Avoids (v ∷ vs) = ((v == star) ≡ false) × Avoids vs

no_star_eq : (v : ℕ) → eq_by_cmp nat_cmp star v ≡ false → (v == star) ≡ false
no_star_eq v h = grind (arith, nat_tests)

pub eq_no_star : (v : ℕ) → v ≢ star → eq_by_cmp nat_cmp star v ≡ false
eq_no_star v h = grind (arith, nat_tests)

by_cases : {A : Type 0} {S : Type 0} (r : Ordering) (v : S) (k : List ℕ) (t : S) (x : List ℕ × S)
    (es more : List (List ℕ × S)) → by_order r ((k, t) ∷ x ∷ es) ((x.0, v) ∷ es) (x ∷ more) ≡ [] → A
by_cases Less v k t x es more e = cc
by_cases Equal v k t x es more e = cc
by_cases Greater v k t x es more e = cc

module _ {S : Type 0} (join : S → S → S) (j : IsJoin join) where
  avoiding : (b : Bool) (s : S) (t : Option S) → join_some join (cond b (Some s) None) t ≡ None
      → (b ≡ false) × (t ≡ None)
  avoiding true s None h = cc
  avoiding true s (Some t) h = cc
  avoiding false s t h = (refl, h)

  pub Avoids-keys : (es : List (ℕ × S)) → total join (eq_by_cmp nat_cmp star) es ≡ None
      → Avoids (map (λ e. e.0) es)
  Avoids-keys [] h = tt
  Avoids-keys (e ∷ es) h = let both =
      avoiding (eq_by_cmp nat_cmp star e.0) e.1 (total join (eq_by_cmp nat_cmp star) es) h
      in (no_star_eq e.0 both.0, Avoids-keys es both.1)

  no_total : (b c : Bool) (s : S) (t : Option S) → c ≡ false → t ≡ None
      → join_some join (cond (b && c) (Some s) None) t ≡ None
  no_total true c s t h k = ap (λ x. join_some join (cond x (Some s) None) t) h ∙ k
  no_total false c s t h k = k

  pub total_rows : (q : List ℕ → Bool) (path : List ℕ) (rows : List (List ℕ × S))
      → total join q (rekey (starred path) (rows_at path rows))
      ≡ total join (λ x. agrees path x && q (starred path x)) rows
  total_rows q path rows = total-rekey join j (starred path) q (rows_at path rows)
      ∙ total-filter join j (λ x. q (starred path x)) (agrees path) rows

  module _ (path : List ℕ) (rows docs : List (List ℕ × S))
      (is : docs ≡ merged_docs join (rekey (starred path) (rows_at path rows))) where
    pub covers_rows : CoversRows join rows path docs
    covers_rows = record {
      docs_are = is;
      total_is = ap (total join (λ _. true)) is
          ∙ total-Merged dims_order nat_list_cmp_total same_dims join j (λ _. true)
          (rekey (starred path) (rows_at path rows))
          ∙ total-rekey join j (starred path) (λ _. true) (rows_at path rows);
    }

    -- a child has the rows with its id
    pub own_docs : (v : ℕ) → (v == star) ≡ false → docs_with (length path) v docs
        ≡ merged_docs join (rekey (starred (path ++ (v ∷ []))) (rows_at (path ++ (v ∷ [])) rows))
    own_docs v h =
        let d = length path in
        let all = rekey (starred path) (rows_at path rows) in
        ap (docs_with d v) is
        ∙ filter-Merged dims_order nat_list_cmp_total same_dims join j (λ k. dim d k == v) all
        ∙ Merged_same dims_order nat_list_cmp_total same_dims join j (docs_with d v all)
        (rekey (starred (path ++ (v ∷ []))) (rows_at (path ++ (v ∷ [])) rows)) (λ q.
        total-filter join j (eq_by_cmp dims_order q) (λ k. dim d k == v) all
        ∙ total_rows (λ k. (dim d k == v) && eq_by_cmp dims_order q k) path rows
        ∙ total_agree join j
        (λ x. agrees path x &&
        ((dim d (starred path x) == v) && eq_by_cmp dims_order q (starred path x)))
        (λ x. agrees (path ++ (v ∷ [])) x
        && eq_by_cmp dims_order q (starred (path ++ (v ∷ [])) x))
        (λ x. and_assoc (agrees path x) (dim d (starred path x) == v)
        (eq_by_cmp dims_order q (starred path x))
        ∙ (λ i. sym (agrees_more path v h x) i
        && eq_by_cmp dims_order q (sym (starred_more path v h x) i))) rows
        ∙ sym (total_rows (eq_by_cmp dims_order q) (path ++ (v ∷ [])) rows))

    -- a star child has all of them
    pub star_docs : merged_docs join (rekey (set_star (length path)) docs)
        ≡ merged_docs join (rekey (starred (path ++ (star ∷ [])))
        (rows_at (path ++ (star ∷ [])) rows))
    star_docs =
        let d = length path in
        let all = rekey (starred path) (rows_at path rows) in
        ap (λ t. merged_docs join (rekey (set_star d) t)) is
        ∙ Merged-rekey dims_order nat_list_cmp_total same_dims dims_order nat_list_cmp_total
        same_dims join j (set_star d) all
        ∙ Merged_same dims_order nat_list_cmp_total same_dims join j (rekey (set_star d) all)
        (rekey (starred (path ++ (star ∷ []))) (rows_at (path ++ (star ∷ [])) rows)) (λ q.
        total-rekey join j (set_star d) (eq_by_cmp dims_order q) all
        ∙ total_rows (λ k. eq_by_cmp dims_order q (set_star d k)) path rows
        ∙ total_agree join j
        (λ x. agrees path x && eq_by_cmp dims_order q (set_star d (starred path x)))
        (λ x. agrees (path ++ (star ∷ [])) x
        && eq_by_cmp dims_order q (starred (path ++ (star ∷ [])) x))
        (λ x. λ i. sym (agrees_star path x) i
        && eq_by_cmp dims_order q (sym (starred_star path x) i)) rows
        ∙ sym (total_rows (eq_by_cmp dims_order q) (path ++ (star ∷ [])) rows))

    no_star_total : (some : List (List ℕ × S)) (k : ℕ) → length path < k → HaveNoStar k some
        → total join (λ x. agrees path x
        && eq_by_cmp nat_cmp star (dim (length path) (starred path x))) some ≡ None
    no_star_total [] k lt h = refl
    no_star_total (e ∷ es) k lt h =
        no_total (agrees path e.0) _ e.1 _
        (eq_no_star (dim (length path) (starred path e.0))
        (λ s. h.0 (length path) lt (sym (dim-starred path e.0) ∙ s))) (no_star_total es k lt h.1)

    pub Avoids-ids : (k : ℕ) → length path < k → HaveNoStar k rows
        → Avoids (ids_at join (length path) docs)
    Avoids-ids k lt h =
        let d = length path in
        Avoids-keys (Merged nat_cmp join (rekey (dim d) docs))
        (total-Merged nat_cmp nat_cmp_total nat_cmp-IsAntisymmetric join j (eq_by_cmp nat_cmp star)
        (rekey (dim d) docs)
        ∙ total-rekey join j (dim d) (eq_by_cmp nat_cmp star) docs
        ∙ ap (total join (λ x. eq_by_cmp nat_cmp star (dim d x))) is
        ∙ total-Merged dims_order nat_list_cmp_total same_dims join j
        (λ x. eq_by_cmp nat_cmp star (dim d x)) (rekey (starred path) (rows_at path rows))
        ∙ total_rows (λ x. eq_by_cmp nat_cmp star (dim d x)) path rows
        ∙ no_star_total rows k lt h)

  children_cover : (path : List ℕ) (rows docs : List (List ℕ × S)) (below : List (List ℕ × S) → Nodes S)
      (last : Nodes S)
      → ((v : ℕ) → (v == star) ≡ false
      → CoversRows join rows (path ++ (v ∷ [])) (docs_with (length path) v docs)
      × Covers join rows (path ++ (v ∷ [])) (below (docs_with (length path) v docs)))
      → Covers join rows path last → (vs : List ℕ) → Avoids vs
      → Covers join rows path (child_nodes_of below (length path) docs last vs)
  children_cover path rows docs below last each end [] h = end
  children_cover path rows docs below last each end (v ∷ vs) h = let own = each v h.0
      in (own.0, own.1, children_cover path rows docs below last each end vs h.1)

  pub chosen : (path : List ℕ) (rows : List (List ℕ × S)) (b : Bool) (x y : Nodes S)
      → Covers join rows path x → Covers join rows path y → Covers join rows path (cond b x y)
  chosen path rows true x y p q = p
  chosen path rows false x y p q = q

  pub under_covers : (shape : TreeShape) (k : ℕ) (rows : List (List ℕ × S)) → HaveNoStar k rows
      → (more d : ℕ) (path : List ℕ) (docs : List (List ℕ × S)) → d ≡ length path → d + more ≡ k
      → docs ≡ merged_docs join (rekey (starred path) (rows_at path rows))
      → Covers join rows path (under join shape more d docs)
  under_covers shape k rows no_star zero d path docs at sum is = tt
  under_covers shape k rows no_star (suc more) d path docs at sum is =
      let below = under join shape more (suc d) in
      let next : (v : ℕ) → suc d ≡ length (path ++ (v ∷ [])) = λ v. ap suc at
      ∙ sym (length_more path v) in
      let sum' : suc d + more ≡ k = omega arith in
      let sd : merged_docs join (rekey (set_star d) docs)
      ≡ merged_docs join (rekey (starred (path ++ (star ∷ [])))
      (rows_at (path ++ (star ∷ [])) rows)) =
      ap (λ n. merged_docs join (rekey (set_star n) docs)) at ∙ star_docs path rows docs is in
      let last : Covers join rows path (star_child join below shape d docs) =
      chosen path rows _ (node star (merged_docs join (rekey (set_star d) docs))
      (below (merged_docs join (rekey (set_star d) docs))) none) none (
        covers_rows (path ++ (star ∷ [])) rows
            (merged_docs join (rekey (set_star d) docs)) sd,
        under_covers shape k rows no_star more
            (suc d) (path ++ (star ∷ [])) (merged_docs join (rekey (set_star d) docs))
            (next star) sum' sd,
        tt,
      ) tt in
      chosen path rows (nat_le (length docs) shape.leaf) none
      (child_nodes_of below d docs (star_child join below shape d docs) (ids_at join d docs)) tt
      (subst (λ n. Covers join rows path
      (child_nodes_of below n docs (star_child join below shape d docs) (ids_at join n docs))) (sym at)
      (children_cover path rows docs below (star_child join below shape d docs)
      (λ v h. let own = own_docs path rows docs is v h
      in (
        covers_rows (path ++ (v ∷ [])) rows _ own,
        under_covers shape k rows no_star more
            (suc d) (path ++ (v ∷ [])) _ (next v) sum' own,
      ))
      last (ids_at join (length path) docs) (Avoids-ids path rows docs is k (omega arith) no_star)))

  add_some : {A : Type 0} (k : List ℕ) (t : S) (es : List (List ℕ × S)) → add dims_order join k t es
      ≡ [] → A
  add_some k t [] e = cc
  add_some {A} k t (x ∷ es) e =
      by_cases (dims_order k x.0) (join t x.1) k t x es (add dims_order join k t es) e

  pub none_merged : (rows : List (List ℕ × S)) → merged_docs join rows ≡ [] → rows ≡ []
  none_merged [] e = refl
  none_merged (x ∷ es) e = add_some x.0 x.1 (merged_docs join es) e

  pub all_rows : (rows : List (List ℕ × S)) → rekey (starred []) (rows_at [] rows) ≡ rows
  all_rows [] = refl
  all_rows (e ∷ es) = ap (λ t. e ∷ t) (all_rows es)

  pub root_covers : (shape : TreeShape) (k : ℕ) (rows docs : List (List ℕ × S)) → HaveNoStar k rows
      → docs ≡ merged_docs join rows → CoversTree join rows (root_of join shape k docs)
  root_covers shape k rows [] h is = none_merged rows (sym is)
  root_covers shape k rows (e ∷ es) h is =
      let whole : e ∷ es ≡ merged_docs join (rekey (starred []) (rows_at [] rows)) = is
      ∙ ap (merged_docs join) (sym (all_rows rows)) in (
        covers_rows [] rows (e ∷ es) whole,
        under_covers shape k rows h k 0 [] (e ∷ es) refl
            (omega arith) whole,
      )

  pub tree_covers : (shape : TreeShape) (k : ℕ) (rows : List (List ℕ × S)) → HaveNoStar k rows
      → CoversTree join rows (tree_of join shape k rows)
  tree_covers shape k rows h = root_covers shape k rows (merged_docs join rows) h refl
