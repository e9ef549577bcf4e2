-- A query reads of a tree at most as many documents as its bound says.
use Rattle.std.proofs.Common.{◌≡◌, ℕ, zero, suc, ◌+◌, ◌-◌, ◌*◌, ◌<◌, ◌≤◌, Bool, true, false, cond}
use Rattle.std.proofs.Common.{◌&&◌, ◌||◌, ◌==◌, not, T, List, [], ◌∷◌, ◌++◌, map, length, Option}
use Rattle.std.proofs.Common.{Some, None, refl, sym, ap, subst, ◌∙◌, arith, nat_le, nat_lt}
use Rattle.std.proofs.Common.{if◌then◌else◌}
use Rattle.std.specs.Prelude.{is_some}
use Rattle.std.specs.List.{filter}
use Rattle.std.proofs.lemmas.Bool.{eqb-true, eq-eqb}
use Rattle.std.proofs.lemmas.Bool.Decides.{nat_tests}
use Rattle.std.proofs.Math.Nat.{mul-le-mul_right, mul-le-mul_left}
use Rattle.std.specs.declared.cmp.Ordering.{Ordering}
use Rattle.std.specs.declared.cmp.Ordering.TheVariants.{Less, Equal, Greater}
use Rattle.std.specs.Ordering.{nat_cmp, eq_by_cmp, is_lt, MatchOrdering}
use Rattle.std.specs.FinMap.{is_sorted, find, nat_cmp-IsAntisymmetric}
use Rattle.std.specs.FinMap.Entries.{below_all}
use Rattle.std.proofs.lemmas.Cmp.{nat_list_cmp_total, nat_cmp_total, ranked}
use Rattle.agg_laws.specs.declared.tree_shape.TreeShape.{TreeShape}
use Rattle.agg_laws.specs.Merged.{IsJoin, join_some, total, rekey, Merged}
use Rattle.agg_laws.specs.Tree.{star, dims_order, dim, set_star, merged_docs, Nodes, none, node}
use Rattle.agg_laws.specs.Tree.{has_star, skips, ids_at, docs_with, child_nodes_of, star_child, under}
use Rattle.agg_laws.specs.Tree.{agrees, starred, rows_at, HaveNoStar, root_of, tree_of}
use Rattle.state_columns.specs.Docs.{HaveIds}
use Rattle.state_columns.specs.Documents.{total_doc, one_document}
use Rattle.star_tree.specs.Picks.{Task, Pick, are_unconstrained, is_selected, picks_here, picks_of, picks, IsTotal}
use Rattle.star_tree.specs.Picks.{read_of}
use Rattle.star_tree.specs.Reads.{cardinality, matched, factor, factors_from, bound}
use Rattle.state_columns.proofs.MergedLemmas.{total-rekey, total-Merged, total_agree, find_total}
use Rattle.state_columns.proofs.MergedLemmas.{is_sorted-Merged}
use Rattle.state_columns.proofs.ListLemmas.{same_dims}
use Rattle.star_tree.proofs.TreeLemmas.{dim-starred, total_rows, Avoids, own_docs, star_docs}
use Rattle.star_tree.proofs.TreeLemmas.{Avoids-ids, length_more, all_rows}
use Rattle.star_tree.proofs.NodeLemmas.{total_is}
use Rattle.star_tree.proofs.PickLemmas.{key_eq, has_star-subtrees, star_flag}

-- what is read, without the paths
module _ {S : Type 0} (join : S → S → S) where
  abbrev read_here : Task → ℕ → ℕ → List (List ℕ × S) → Nodes S → ℕ → ℕ
  read_here t k d docs none below =
      cond (are_unconstrained t (k - d) d) (length (total_doc join d docs none)) (length docs)
  read_here t k d docs (node id own subtrees rest) below =
      cond (are_unconstrained t (k - d) d) (length (total_doc join d docs (node id own subtrees rest))) below

  abbrev reads_of : Task → ℕ → Bool → ℕ → Nodes S → ℕ
  reads_of t k starred d none = 0
  reads_of t k starred d (node id docs subtrees rest) =
      cond (is_selected t starred d id)
      (read_here t k (suc d) docs subtrees (reads_of t k (has_star subtrees) (suc d) subtrees)) 0
      + reads_of t k starred d rest

  read_of-append : (ps qs : List (Pick S)) → read_of (ps ++ qs) ≡ read_of ps + read_of qs
  read_of-append [] qs = omega arith
  read_of-append (p ∷ ps) qs = let more = read_of-append ps qs in omega (arith, more)

  one_read : (n : ℕ) → n + 0 ≡ n
  one_read n = omega arith

  module _ (t : Task) (k : ℕ) where
    here_read : (d : ℕ) (path : List ℕ) (docs : List (List ℕ × S)) (subtrees : Nodes S)
        (below : List (Pick S)) (n : ℕ) → read_of below ≡ n
        → read_of (picks_here join t k d path docs subtrees below) ≡ read_here t k d docs subtrees n
    here_read d path docs none below n e =
        elim (are_unconstrained t (k - d) d) as
        (λ b. read_of (cond b
        (record { path = path; level = k; docs = total_doc join d docs none } ∷ [])
        (record { path = path; level = d; docs = docs } ∷ []))
        ≡ cond b (length (total_doc join d docs none)) (length docs)) [
          | true ↦ one_read
              (length (total_doc join d docs none))
          | false ↦ one_read (length docs)
        ]
    here_read d path docs (node id own subtrees rest) below n e =
        let whole = total_doc join d docs (node id own subtrees rest) in
        elim (are_unconstrained t (k - d) d) as
        (λ b. read_of (cond b (record { path = path; level = k; docs = whole } ∷ []) below)
        ≡ cond b (length whole) n) [ true ↦ one_read (length whole) | false ↦ e ]

    taken_read : (b : Bool) (ps : List (Pick S)) (n : ℕ) → read_of ps ≡ n → read_of (cond b ps [])
        ≡ cond b n 0
    taken_read true ps n e = e
    taken_read false ps n e = refl

    children_are_read : (b : Bool) (d : ℕ) (path : List ℕ) (subtrees : Nodes S)
        → read_of (picks_of join t k b d path subtrees) ≡ reads_of t k b d subtrees
    children_are_read b d path none = refl
    children_are_read b d path (node id docs subtrees rest) =
        let here = picks_here join t k (suc d) (path ++ (id ∷ [])) docs subtrees
        (picks_of join t k (has_star subtrees) (suc d) (path ++ (id ∷ [])) subtrees) in
        let n = read_here t k (suc d) docs subtrees (reads_of t k (has_star subtrees) (suc d) subtrees) in
        read_of-append (cond (is_selected t b d id) here []) (picks_of join t k b d path rest)
        ∙ (λ i. taken_read (is_selected t b d id) here n
        (here_read (suc d) (path ++ (id ∷ [])) docs subtrees _ _
        (children_are_read (has_star subtrees) (suc d) (path ++ (id ∷ [])) subtrees)) i
        + children_are_read b d path rest i)

    node_is_read : (docs : List (List ℕ × S)) (subtrees : Nodes S)
        → read_of (picks_here join t k 0 [] docs subtrees (picks_of join t k (has_star subtrees) 0 [] subtrees))
        ≡ read_here t k 0 docs subtrees (reads_of t k (has_star subtrees) 0 subtrees)
    node_is_read docs subtrees = here_read 0 [] docs subtrees _ _ (children_are_read (has_star subtrees) 0 [] subtrees)

    -- a document that stands for rows is one at most
    few_documents : (ids : List ℕ) (o : Option S) → length (one_document ids o) ≤ 1
    few_documents ids None = omega arith
    few_documents ids (Some s) = omega arith

    pub one_whole : (rows : List (List ℕ × S)) (path : List ℕ) (docs : List (List ℕ × S))
        → IsTotal join rows path docs → length docs ≤ 1
    one_whole rows path docs h =
        subst (λ l. length l ≤ 1) (sym h.docs_are)
        (few_documents h.ids (total join (λ _. true) (rows_at path rows)))

-- an id is among some
abbrev has : ℕ → List ℕ → Bool
has v [] = false
has v (w ∷ ws) = if w == v then true else has v ws

-- ids that ascend, each once
abbrev pub Above : ℕ → List ℕ → Type 0
Above v [] = Unit {0}
Above v (w ∷ ws) = (v < w) × Above v ws

abbrev pub Ascending : List ℕ → Type 0
Ascending [] = Unit {0}
Ascending (v ∷ vs) = Above v vs × Ascending vs

lower : (v w : ℕ) (ws : List ℕ) → v ≤ w → Above w ws → Above v ws
lower v w [] h a = tt
lower v w (x ∷ xs) h a = (omega (arith, a.0), lower v w xs h a.1)

-- an id below all is not among them
has_above : (v : ℕ) (ws : List ℕ) → Above v ws → has v ws ≡ false
has_above v [] a = refl
has_above v (w ∷ ws) a = let off : (w == v) ≡ false = grind (arith, nat_tests, a.0)
    in ap (λ b. cond b true (has v ws)) off ∙ has_above v ws a.1

has_first : (v : ℕ) (ws : List ℕ) → has v (v ∷ ws) ≡ true
has_first v ws = ap (λ b. cond b true (has v ws)) (eq-eqb v v refl)

filter_less : (p : ℕ → Bool) (w : ℕ) (ws : List ℕ)
    → length (filter p ws) ≤ length (filter p (w ∷ ws))
filter_less p w ws = elim (p w) as
    (λ b. length (filter p ws) ≤ length
    (cond b (w ∷ filter p ws) (filter p ws))) [ true ↦ omega arith | false ↦ omega arith ]

filter_same : (p : ℕ → Bool) (v w : ℕ) (vs ws : List ℕ) → v ≡ w
    → length (filter p vs) ≤ length (filter p ws)
    → length (filter p (v ∷ vs)) ≤ length (filter p (w ∷ ws))
filter_same p v w vs ws is h =
    subst (λ u. length (filter p (v ∷ vs)) ≤ length (filter p (u ∷ ws))) is
    (elim (p v) as (λ b. length (cond b (v ∷ filter p vs) (filter p vs)) ≤ length
    (cond b (v ∷ filter p ws) (filter p ws))) [ true ↦ omega arith | false ↦ omega arith ])

-- what is among the rest where the first is another
has_rest : (u w : ℕ) (ws : List ℕ) → (w == u) ≡ false → has u (w ∷ ws) ≡ true → has u ws ≡ true
has_rest u w ws off h = ap (λ b. cond b true (has u ws)) (sym off) ∙ h

has_more : (u w : ℕ) (ws : List ℕ) → has u ws ≡ true → has u (w ∷ ws) ≡ true
has_more u w ws h = elim (w == u) as
    (λ b. cond b true (has u ws) ≡ true) [ true ↦ refl | false ↦ h ]

is_above : (v : ℕ) (ws : List ℕ) (u : ℕ) → Above v ws → has u ws ≡ true → v < u
is_above v [] u a h = cc
is_above v (w ∷ ws) u a h =
    elim (w == u) as (λ b. (w == u) ≡ b → cond b true (has u ws) ≡ true → v < u) [
      | true ↦ λ q g. let same : w ≡ u = eqb-true w u q in omega (arith, a.0, same)
      | false ↦ λ q g. is_above v ws u a.1 g
    ] refl h

apart : (v u : ℕ) → v < u → (v == u) ≡ false
apart v u h = grind (arith, nat_tests)

-- of ascending ids that are among others, no more pass a test
fewer_pass : (p : ℕ → Bool) (ws vs : List ℕ) → Ascending vs → Ascending ws
    → ((u : ℕ) → has u vs ≡ true → has u ws ≡ true) → length (filter p vs) ≤ length (filter p ws)
fewer_pass p [] [] a b sub = omega arith
fewer_pass p [] (v ∷ vs) a b sub = let no : has v [] ≡ true = sub v (has_first v vs) in cc
fewer_pass p (w ∷ ws) [] a b sub = omega arith
fewer_pass p (w ∷ ws) (v ∷ vs) a b sub =
    elim (w == v) as (λ q. (w == v) ≡ q → length (filter p (v ∷ vs)) ≤ length (filter p (w ∷ ws))) [
      | true ↦ λ q.
          let same : w ≡ v = eqb-true w v q in
          filter_same p v w vs ws (sym same) (fewer_pass p ws vs a.1 b.1
          (λ u h. has_rest u w ws
          (subst (λ x. (x == u) ≡ false) (sym same) (apart v u (is_above v vs u a.0 h)))
          (sub u (has_more u v vs h))))
      | false ↦ λ q.
          let lt : w < v = is_above w ws v b.0 (has_rest v w ws q (sub v (has_first v vs))) in
          let above : Above w (v ∷ vs) = (lt, lower w v vs (omega arith) a.0) in
          let more = fewer_pass p ws (v ∷ vs) a b.1
          (λ u h. has_rest u w ws (apart w u (is_above w (v ∷ vs) u above h)) (sub u h)) in
          let less = filter_less p w ws in
          omega (arith, more, less)
    ] refl

first : (a b : Bool) → T (a && b) → T a
first true b p = tt
first false b p = p

second : (a b : Bool) → T (a && b) → T b
second true b p = p
second false b p = absurd p

by_less : (o : Ordering) (P Q R : Type 0) → MatchOrdering o P Q R → T (is_lt o) → P
by_less Less P Q R m h = m
by_less Equal P Q R m h = absurd h
by_less Greater P Q R m h = absurd h

less : (v w : ℕ) → T (is_lt (nat_cmp v w)) → v < w
less v w h = by_less (nat_cmp v w) (v < w) (v ≡ w) (w < v) (ranked v w (nat_cmp v w) refl) h

-- the keys of a strictly ascending list
below_above : {S : Type 0} (v : ℕ) (es : List (ℕ × S)) → T (below_all nat_cmp v es)
    → Above v (map (λ e. e.0) es)
below_above v [] h = tt
below_above v (e ∷ es) h = (less v e.0 (first _ _ h), below_above v es (second _ _ h))

keys_ascend : {S : Type 0} (es : List (ℕ × S)) → T (is_sorted nat_cmp es)
    → Ascending (map (λ e. e.0) es)
keys_ascend [] h = tt
keys_ascend (e ∷ es) h = (below_above e.0 es (first _ _ h), keys_ascend es (second _ _ h))

found_step : {S : Type 0} (b : Bool) (s : S) (o : Option S) → cond b true (is_some o)
    ≡ is_some (cond b (Some s) o)
found_step true s o = refl
found_step false s o = refl

has_found : {S : Type 0} (v : ℕ) (es : List (ℕ × S)) → has v (map (λ e. e.0) es)
    ≡ is_some (find nat_cmp v es)
has_found v [] = refl
has_found v (e ∷ es) =
    ap (λ h. cond (e.0 == v) true h) (has_found v es)
    ∙ found_step (e.0 == v) e.1 (find nat_cmp v es)
    ∙ ap (λ b. is_some (cond b (Some e.1) (find nat_cmp v es))) (sym (key_eq v e.0))

-- some entry passes
abbrev any_key : {K S : Type 0} → (K → Bool) → List (K × S) → Bool
any_key p [] = false
any_key p (e ∷ es) = p e.0 || any_key p es

module _ {S : Type 0} (join : S → S → S) (j : IsJoin join) where
  some_joined : (b : Bool) (s : S) (t : Option S)
      → is_some (join_some join (cond b (Some s) None) t) ≡ (b || is_some t)
  some_joined true s None = refl
  some_joined true s (Some u) = refl
  some_joined false s t = refl

  some_total : {K : Type 0} (p : K → Bool) (es : List (K × S)) → is_some (total join p es)
      ≡ any_key p es
  some_total p [] = refl
  some_total p (e ∷ es) = some_joined (p e.0) e.1 (total join p es)
      ∙ ap (λ b. p e.0 || b) (some_total p es)

  weaker : {K : Type 0} (p q : K → Bool) (es : List (K × S)) → any_key (λ x. p x && q x) es ≡ true
      → any_key q es ≡ true
  weaker p q [] h = cc
  weaker p q (e ∷ es) h =
      step (p e.0) (q e.0) (any_key (λ x. p x && q x) es) (any_key q es) h (weaker p q es)
    where
      step : (a b c d : Bool) → ((a && b) || c) ≡ true → (c ≡ true → d ≡ true) → (b || d) ≡ true
      step a true c d h f = refl
      step true false c d h f = f h
      step false false c d h f = f h

  -- an id of a dimension
  has_id : (d v : ℕ) (docs : List (List ℕ × S)) → has v (ids_at join d docs)
      ≡ any_key (λ x. eq_by_cmp nat_cmp v (dim d x)) docs
  has_id d v docs =
      has_found v (Merged nat_cmp join (rekey (dim d) docs))
      ∙ ap is_some (find_total nat_cmp nat_cmp_total nat_cmp-IsAntisymmetric join j v
      (Merged nat_cmp join (rekey (dim d) docs))
      (is_sorted-Merged nat_cmp nat_cmp_total nat_cmp-IsAntisymmetric join j
      (rekey (dim d) docs))
      ∙ total-Merged nat_cmp nat_cmp_total nat_cmp-IsAntisymmetric join j (eq_by_cmp nat_cmp v)
      (rekey (dim d) docs)
      ∙ total-rekey join j (dim d) (eq_by_cmp nat_cmp v) docs)
      ∙ some_total (λ x. eq_by_cmp nat_cmp v (dim d x)) docs

  pub ids_ascend : (d : ℕ) (docs : List (List ℕ × S)) → Ascending (ids_at join d docs)
  ids_ascend d docs = keys_ascend (Merged nat_cmp join (rekey (dim d) docs))
      (is_sorted-Merged nat_cmp nat_cmp_total nat_cmp-IsAntisymmetric join j (rekey (dim d) docs))

  -- the ids of a node's documents are ids of the rows
  ids_within : (path : List ℕ) (rows docs : List (List ℕ × S)) → docs
      ≡ merged_docs join (rekey (starred path) (rows_at path rows)) → (v : ℕ)
      → has v (ids_at join (length path) docs) ≡ true → has v (ids_at join (length path) rows)
      ≡ true
  ids_within path rows docs is v h =
      let d = length path in
      let there : has v (ids_at join d docs)
      ≡ any_key (λ x. agrees path x && eq_by_cmp nat_cmp v (dim d x)) rows =
      has_id d v docs ∙ sym (some_total (λ x. eq_by_cmp nat_cmp v (dim d x)) docs)
      ∙ ap is_some (ap (total join (λ x. eq_by_cmp nat_cmp v (dim d x))) is
      ∙ total-Merged dims_order nat_list_cmp_total same_dims join j
      (λ x. eq_by_cmp nat_cmp v (dim d x)) (rekey (starred path) (rows_at path rows))
      ∙ total_rows join j (λ x. eq_by_cmp nat_cmp v (dim d x)) path rows
      ∙ total_agree join j (λ x. agrees path x && eq_by_cmp nat_cmp v (dim d (starred path x)))
      (λ x. agrees path x && eq_by_cmp nat_cmp v (dim d x))
      (λ x i. agrees path x && eq_by_cmp nat_cmp v (dim-starred path x i)) rows)
      ∙ some_total (λ x. agrees path x && eq_by_cmp nat_cmp v (dim d x)) rows in
      has_id d v rows ∙ weaker (agrees path) (λ x. eq_by_cmp nat_cmp v (dim d x)) rows
      (sym there ∙ h)

  -- no more of them pass a test
  pass_within : (p : ℕ → Bool) (path : List ℕ) (rows docs : List (List ℕ × S)) → docs
      ≡ merged_docs join (rekey (starred path) (rows_at path rows))
      → length (filter p (ids_at join (length path) docs)) ≤ length
      (filter p (ids_at join (length path) rows))
  pass_within p path rows docs is =
      fewer_pass p (ids_at join (length path) rows) (ids_at join (length path) docs)
      (ids_ascend (length path) docs) (ids_ascend (length path) rows) (ids_within path rows docs is)

-- a test that passes each
filter_all : (vs : List ℕ) → length (filter (λ _. true) vs) ≡ length vs
filter_all [] = refl
filter_all (v ∷ vs) = ap suc (filter_all vs)

-- how many ordinary children are taken, by whether ids are tested, the dimension is grouped, and
-- there is a star child
abbrev taken_of : Bool → Bool → Bool → ℕ → ℕ → ℕ
taken_of f g s a c = cond f a (cond g c (cond s 0 c))

one_child : (f g s p : Bool) (r a c n rest last : ℕ) → r ≤ n → rest ≤ taken_of f g s a c * n + last
    → cond (cond f (true && p) (cond g true (cond s false true))) r 0
    + rest ≤ taken_of f g s (cond p (suc a) a) (suc c) * n + last
one_child true g s true r a c n rest last h k = omega (arith, h, k)
one_child true g s false r a c n rest last h k = omega (arith, h, k)
one_child false true s p r a c n rest last h k = omega (arith, h, k)
one_child false false true p r a c n rest last h k = omega (arith, h, k)
one_child false false false p r a c n rest last h k = omega (arith, h, k)

pass_length : (p : Bool) (v : ℕ) (vs : List ℕ) → length (cond p (v ∷ vs) vs)
    ≡ cond p (suc (length vs)) (length vs)
pass_length true v vs = refl
pass_length false v vs = refl

-- the star child is taken where ids are neither tested nor grouped
star_read : (f g s q : Bool) (r n : ℕ) → r ≤ n
    → cond (cond f (false && q) (cond g false (cond s true true))) r 0 + 0 ≤ cond f 0 (cond g 0 n)
star_read true g s q r n h = omega arith
star_read false true s q r n h = omega arith
star_read false false true q r n h = omega (arith, h)
star_read false false false q r n h = omega (arith, h)

-- what all children read together, against the factor of their dimension
by_factor : (f g k m : Bool) (a c b e n r : ℕ) → a ≤ b → c ≤ e → (m ≡ false → c ≤ 1)
    → r ≤ taken_of f g (not k && m) a c * n + cond (not k && m) (cond f 0 (cond g 0 n)) 0
    → r ≤ cond f b (cond (g || k) e 1) * n
by_factor true g k m a c b e n r p q o h = let le = mul-le-mul_right n p
    in elim (not k && m) as
    (λ s. r ≤ a * n + cond s 0 0
    → r ≤ b * n) [ true ↦ λ h. omega (arith, le, h) | false ↦ λ h. omega (arith, le, h) ] h
by_factor false true k m a c b e n r p q o h = let le = mul-le-mul_right n q
    in elim (not k && m) as
    (λ s. r ≤ c * n + cond s 0 0
    → r ≤ e * n) [ true ↦ λ h. omega (arith, le, h) | false ↦ λ h. omega (arith, le, h) ] h
by_factor false false true m a c b e n r p q o h = let le = mul-le-mul_right n q
    in omega (arith, le, h)
by_factor false false false true a c b e n r p q o h = omega (arith, h)
by_factor false false false false a c b e n r p q o h = let le = mul-le-mul_right n (o refl)
    in omega (arith, le, h)

at_most : (c : ℕ) → nat_lt 1 c ≡ false → c ≤ 1
at_most c h = grind (arith, nat_tests)

fits : (n l m : ℕ) → nat_le n l ≡ true → l ≤ m → n ≤ m
fits n l m h k = grind (arith, nat_tests)

turned : (l f q : ℕ) → f * (l * q) ≡ l * (f * q)
turned l f q = omega arith

no_children : {S : Type 0} (below : List (List ℕ × S) → Nodes S) (d : ℕ) (docs : List (List ℕ × S))
    (last : Nodes S) (vs : List ℕ) → child_nodes_of below d docs last vs ≡ none → vs ≡ []
no_children below d docs last [] h = refl
no_children below d docs last (v ∷ vs) h = cc

pub no_docs : {S : Type 0} (join : S → S → S) (j : IsJoin join) (d : ℕ) (docs : List (List ℕ × S))
    → ids_at join d docs ≡ [] → docs ≡ []
no_docs join j d [] h = refl
no_docs join j d (e ∷ es) h =
    let v = dim d e.0 in
    let yes : has v (ids_at join d (e ∷ es)) ≡ true = has_id join j d v (e ∷ es)
    ∙ ap (λ b. b || any_key (λ x. eq_by_cmp nat_cmp v (dim d x)) es)
    (key_eq v v ∙ eq-eqb v v refl) in
    let no : has v (ids_at join d (e ∷ es)) ≡ false = ap (has v) h in
    cc

module _ {S : Type 0} (join : S → S → S) (j : IsJoin join) (t : Task) (k : ℕ) (shape : TreeShape)
    (rows : List (List ℕ × S)) (ids : HaveIds k rows) (no_star : HaveNoStar k rows)
    (some_leaf : 1 ≤ shape.leaf)
    (some : (i : ℕ) → i < k → 1 ≤ factor join t shape rows i) where
  -- what the ordinary children read
  children_read : (s : Bool) (d n : ℕ) (docs : List (List ℕ × S)) (below : List (List ℕ × S) → Nodes S)
      (last : Nodes S)
      → ((v : ℕ) → (v == star) ≡ false
      → read_here join t k (suc d) (docs_with d v docs) (below (docs_with d v docs))
      (reads_of join t k (has_star (below (docs_with d v docs))) (suc d)
      (below (docs_with d v docs))) ≤ n)
      → (vs : List ℕ) → Avoids vs
      → reads_of join t k s d (child_nodes_of below d docs last vs) ≤ taken_of (t.filtered d)
      (t.grouped d) s (length (filter (t.passes d) vs)) (length vs) * n
      + reads_of join t k s d last
  children_read s d n docs below last each [] av = omega arith
  children_read s d n docs below last each (v ∷ vs) av =
      let own = below (docs_with d v docs) in
      let r = read_here join t k (suc d) (docs_with d v docs) own
      (reads_of join t k (has_star own) (suc d) own) in
      let rest = reads_of join t k s d (child_nodes_of below d docs last vs) in
      let end = reads_of join t k s d last in
      let passing = filter (t.passes d) vs in
      let step = one_child (t.filtered d) (t.grouped d) s (t.passes d v) r (length passing)
      (length vs) n rest end (each v av.0) (children_read s d n docs below last each vs av.1) in
      subst (λ b. cond (cond (t.filtered d) (not b && t.passes d v)
      (cond (t.grouped d) (not b) (cond s b true))) r 0 + rest
      ≤ taken_of (t.filtered d) (t.grouped d) s (length (cond (t.passes d v) (v ∷ passing) passing))
      (suc (length vs)) * n + end) (sym av.0)
      (subst (λ m. cond (cond (t.filtered d) (true && t.passes d v)
      (cond (t.grouped d) true (cond s false true))) r 0 + rest
      ≤ taken_of (t.filtered d) (t.grouped d) s m (suc (length vs)) * n + end)
      (sym (pass_length (t.passes d v) v passing)) step)

  -- what the star child reads
  star_child_read : (s : Bool) (d n : ℕ) (docs : List (List ℕ × S)) (subtrees : Nodes S)
      → read_here join t k (suc d) docs subtrees (reads_of join t k (has_star subtrees) (suc d) subtrees) ≤ n
      → reads_of join t k s d (cond s (node star docs subtrees none) none) ≤ cond s
      (cond (t.filtered d) 0 (cond (t.grouped d) 0 n)) 0
  star_child_read true d n docs subtrees h =
      star_read (t.filtered d) (t.grouped d) true (t.passes d star)
      (read_here join t k (suc d) docs subtrees (reads_of join t k (has_star subtrees) (suc d) subtrees)) n h
  star_child_read false d n docs subtrees h = omega arith

  -- the factors that are left come to one at least
  some_left : (more d : ℕ) → d + more ≡ k → 1 ≤ factors_from join t shape rows more d
  some_left zero d sum = omega arith
  some_left (suc more) d sum =
      let own = some d (omega arith) in
      let rest = some_left more (suc d) (omega arith) in
      both (factor join t shape rows d) (factors_from join t shape rows more (suc d)) own rest
    where
      both : (a b : ℕ) → 1 ≤ a → 1 ≤ b → 1 ≤ a * b
      both a b h l = let le = mul-le-mul_right b h in omega (arith, le, l)

  at_least : (more d : ℕ) → d + more ≡ k
      → shape.leaf ≤ shape.leaf * factors_from join t shape rows more d
  at_least more d sum = let le = mul-le-mul_left shape.leaf (some_left more d sum)
      in omega (arith, le)

  here_bound : (d : ℕ) (docs : List (List ℕ × S)) (subtrees : Nodes S) (below n : ℕ) → 1 ≤ n
      → length (total_doc join d docs subtrees) ≤ 1
      → (subtrees ≡ none → are_unconstrained t (k - d) d ≡ false → length docs ≤ n) → below ≤ n
      → read_here join t k d docs subtrees below ≤ n
  here_bound d docs none below n p w q r =
      elim (are_unconstrained t (k - d) d) as
      (λ b. are_unconstrained t (k - d) d ≡ b
      → cond b (length (total_doc join d docs none)) (length docs) ≤ n) [
        | true ↦ λ _. omega
            (arith, p, w)
        | false ↦ λ e. q refl e
      ] refl
  here_bound d docs (node id own subtrees rest) below n p w q r =
      elim (are_unconstrained t (k - d) d) as
      (λ b. cond b (length
      (total_doc join d docs (node id own subtrees rest))) below ≤ n) [
        | true ↦ omega
            (arith, p, w)
        | false ↦ r
      ]

  -- what a node of level d reads
  pub node_read : (more d : ℕ) (path : List ℕ) (docs : List (List ℕ × S)) → d ≡ length path → d
      + more ≡ k → docs ≡ merged_docs join (rekey (starred path) (rows_at path rows))
      → read_here join t k d docs (under join shape more d docs)
      (reads_of join t k (has_star (under join shape more d docs)) d
      (under join shape more d docs)) ≤ shape.leaf * factors_from join t shape rows more d
  node_read zero d path docs at sum is =
      let z : k - d ≡ 0 = omega arith in
      let le : 1 ≤ shape.leaf * 1 = omega (arith, some_leaf) in
      let w : length (total_doc join d docs none) ≤ 1 =
      one_whole join t k rows path (total_doc join d docs none)
      (total_is join j k shape rows ids no_star zero d path docs at sum is) in
      subst (λ m. cond (are_unconstrained t m d) (length (total_doc join d docs none))
      (length docs) ≤ shape.leaf * 1) (sym z) (omega (arith, le, w))
  node_read (suc more) d path docs at sum is =
      let below = under join shape more (suc d) in
      let sd = merged_docs join (rekey (set_star d) docs) in
      let s = not (skips shape d) && nat_lt 1 (length (ids_at join d docs)) in
      let last = star_child join below shape d docs in
      let vs = ids_at join d docs in
      let subtrees = child_nodes_of below d docs last vs in
      let lt : d < k = omega arith in
      let lt' : length path < k = omega (arith, at) in
      let av : Avoids vs = subst (λ n. Avoids (ids_at join n docs)) (sym at)
      (Avoids-ids join j path rows docs is k lt' no_star) in
      let next : (v : ℕ) → suc d ≡ length (path ++ (v ∷ [])) = λ v. ap suc at
      ∙ sym (length_more path v) in
      let sum' : suc d + more ≡ k = omega arith in
      let q = factors_from join t shape rows more (suc d) in
      let n = shape.leaf * q in
      let each = λ (v : ℕ) (o : (v == star) ≡ false). node_read more (suc d) (path ++ (v ∷ []))
      (docs_with d v docs) (next v) sum'
      (ap (λ n. docs_with n v docs) at ∙ own_docs join j path rows docs is v o) in
      let star_here = node_read more (suc d) (path ++ (star ∷ [])) sd (next star) sum'
      (ap (λ n. merged_docs join (rekey (set_star n) docs)) at
      ∙ star_docs join j path rows docs is) in
      let flag : has_star subtrees ≡ s = has_star-subtrees below d docs last vs av
      ∙ star_flag s sd (below sd) in
      let ordinary = children_read s d n docs below last each vs av in
      let star_part = star_child_read s d n sd (below sd) star_here in
      let passing = subst (λ m. length (filter (t.passes d) (ids_at join m docs)) ≤ length
      (filter (t.passes d) (ids_at join m rows))) (sym at)
      (pass_within join j (t.passes d) path rows docs is) in
      let every = subst (λ m. length (filter (λ _. true) (ids_at join m docs)) ≤ length
      (filter (λ _. true) (ids_at join m rows))) (sym at)
      (pass_within join j (λ _. true) path rows docs is) in
      let most : length vs ≤ cardinality join t shape rows d =
      omega (arith, every, filter_all vs, filter_all (ids_at join d rows)) in
      let all : reads_of join t k s d subtrees ≤ factor join t shape rows d * n =
      by_factor (t.filtered d) (t.grouped d) (skips shape d) (nat_lt 1 (length vs))
      (length (filter (t.passes d) vs)) (length vs) (matched join t shape rows d)
      (cardinality join t shape rows d) n (reads_of join t k s d subtrees)
      passing most (at_most (length vs)) (omega (arith, ordinary, star_part)) in
      let whole : reads_of join t k (has_star subtrees) d subtrees ≤ shape.leaf *
      (factor join t shape rows d * q) =
      subst (λ b. reads_of join t k b d subtrees ≤ shape.leaf * (factor join t shape rows d * q))
      (sym flag) (subst (λ m. reads_of join t k s d subtrees ≤ m)
      (turned shape.leaf (factor join t shape rows d) q) all) in
      let enough : shape.leaf ≤ shape.leaf * (factor join t shape rows d * q) =
      at_least (suc more) d sum in
      let one : 1 ≤ shape.leaf * (factor join t shape rows d * q) =
      omega (arith, enough, some_leaf) in
      let w : length (total_doc join d docs (under join shape (suc more) d docs)) ≤ 1 =
      one_whole join t k rows path _
      (total_is join j k shape rows ids no_star (suc more) d path docs at sum is) in
      elim (nat_le (length docs) shape.leaf) as
      (λ b. nat_le (length docs) shape.leaf ≡ b
      → length (total_doc join d docs (cond b none subtrees)) ≤ 1
      → read_here join t k d docs (cond b none subtrees)
      (reads_of join t k (has_star (cond b none subtrees)) d (cond b none subtrees)) ≤ shape.leaf *
      (factor join t shape rows d * q)) [
        | true ↦ λ e w. here_bound d docs none 0
            (shape.leaf * (factor join t shape rows d * q)) one w
            (λ _ _. fits (length docs) shape.leaf
            (shape.leaf * (factor join t shape rows d * q)) e enough) (omega arith)
        | false ↦ λ e w. here_bound d docs subtrees (reads_of join t k (has_star subtrees) d subtrees)
            (shape.leaf * (factor join t shape rows d * q)) one w
            (λ h _. let empty = ap length (no_docs join j d docs (no_children below d docs last vs h))
            in omega (arith, empty)) whole
      ] refl w

  -- what a tree reads
  root_read : (docs : List (List ℕ × S)) → docs ≡ merged_docs join rows
      → read_of (picks join t k (root_of join shape k docs)) ≤ bound join t shape rows k
  root_read [] is = omega arith
  root_read (e ∷ es) is =
      subst (λ n. n ≤ bound join t shape rows k)
      (sym (node_is_read join t k (e ∷ es) (under join shape k 0 (e ∷ es))))
      (node_read k 0 [] (e ∷ es) refl (omega arith)
      (is ∙ ap (merged_docs join) (sym (all_rows join j rows))))

  pub tree_read : read_of (picks join t k (tree_of join shape k rows)) ≤ bound join t shape rows k
  tree_read = root_read (merged_docs join rows) refl
