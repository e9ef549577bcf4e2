-- Each row that passes the tests is counted by exactly one pick, and each other row by none.
use Rattle.std.proofs.Common.{◌≡◌, ◌≢◌, ℕ, zero, suc, ◌+◌, ◌-◌, ◌<◌, ◌≤◌, Bool, true, false, cond}
use Rattle.std.proofs.Common.{MatchBool, ◌&&◌, ◌||◌, ◌==◌, not, T, List, [], ◌∷◌, ◌++◌, map, length}
use Rattle.std.proofs.Common.{Option, Some, None, refl, sym, ap, subst, ◌∙◌, arith, nat_le, nat_lt}
use Rattle.std.proofs.Common.{if◌then◌else◌}
use Rattle.std.specs.Prelude.{is_some}
use Rattle.std.proofs.lemmas.Bool.{ne_eqb, eq-eqb, eqb-true}
use Rattle.std.specs.Ordering.{nat_cmp, eq_by_cmp, is_lt}
use Rattle.std.specs.declared.cmp.Ordering.TheVariants.{Less, Equal, Greater}
use Rattle.state_columns.proofs.ListLemmas.{same_dims}
use Rattle.star_tree.proofs.TreeLemmas.{dim-starred, total_rows, Avoids, agrees_more, agrees_star}
use Rattle.star_tree.proofs.TreeLemmas.{own_docs, star_docs, Avoids-ids, length_more, none_merged}
use Rattle.star_tree.proofs.TreeLemmas.{all_rows}
use Rattle.std.specs.FinMap.{is_sorted, find, nat_cmp-IsAntisymmetric}
use Rattle.std.specs.FinMap.Entries.{below_all}
use Rattle.std.proofs.lemmas.Cmp.{nat_list_cmp_total, nat_cmp_total}
use Rattle.std.proofs.lemmas.Bool.Decides.{nat_tests}
use Rattle.agg_laws.specs.declared.tree_shape.TreeShape.{TreeShape}
use Rattle.agg_laws.specs.Merged.{IsJoin, join_some, total, rekey, Merged}
use Rattle.agg_laws.specs.Tree.{star, dims_order, dim, set_star, merged_docs, Nodes, none, node}
use Rattle.agg_laws.specs.Tree.{has_star, skips, ids_at, docs_with, child_nodes_of, star_child, under}
use Rattle.agg_laws.specs.Tree.{agrees, starred, rows_at, HaveNoStar, root_of, tree_of}
use Rattle.state_columns.specs.Documents.{total_doc}
use Rattle.star_tree.specs.Picks.{Task, Pick, are_unconstrained, holds_from, is_selected, picks_here, picks_of}
use Rattle.star_tree.specs.Picks.{picks, times, times_covered, times_counted, IsPartedBy}
use Rattle.state_columns.proofs.MergedLemmas.{total-rekey, total-Merged, total-append, find_total}
use Rattle.state_columns.proofs.MergedLemmas.{is_sorted-Merged}

times-append : {S : Type 0} (g : ℕ → Bool) (x : List ℕ) (ps qs : List (Pick S))
    → times g x (ps ++ qs) ≡ times g x ps + times g x qs
times-append g x [] qs = omega arith
times-append g x (p ∷ ps) qs = omega (arith, times-append g x ps qs)

and_false : (a b c : Bool) → (a && b) ≡ false → (b ≡ false → c ≡ false) → (a && c) ≡ false
and_false true b c h f = f h
and_false false b c h f = refl

-- a path that is not agreed with is not agreed with further on
agrees_prefix : (path ys x : List ℕ) → agrees path x ≡ false → agrees (path ++ ys) x ≡ false
agrees_prefix [] ys x h = cc
agrees_prefix (p ∷ ps) ys [] h =
    and_false (p == star) (agrees ps []) (agrees (ps ++ ys) []) h (agrees_prefix ps ys [])
agrees_prefix (p ∷ ps) ys (x ∷ xs) h =
    and_false ((p == star) || (x == p)) (agrees ps xs) (agrees (ps ++ ys) xs) h
    (agrees_prefix ps ys xs)

by_test : (f g p q h : Bool) → (not f && not g && q) ≡ true → (q ≡ true → h ≡ true)
    → (cond f p true && h) ≡ true
by_test true g p q h e i = cc
by_test false true p q h e i = cc
by_test false false p q h e i = i e

plus_none : (n : ℕ) → n + 0 ≡ n
plus_none n = omega arith

-- picks on one path
module _ {S : Type 0} (g : ℕ → Bool) (x : List ℕ) where
  one_off : (path : List ℕ) (level : ℕ) (docs : List (List ℕ × S)) → agrees path x ≡ false
      → times g x (record { path = path; level = level; docs = docs } ∷ []) ≡ 0
  one_off path level docs h = ap (λ b. cond (b && g level) 1 0 + 0) h

  pub one_on : (path : List ℕ) (level : ℕ) (docs : List (List ℕ × S)) → agrees path x ≡ true
      → times g x (record { path = path; level = level; docs = docs } ∷ []) ≡ cond (g level) 1 0
  one_on path level docs h = ap (λ b. cond (b && g level) 1 0 + 0) h
      ∙ plus_none (cond (g level) 1 0)

  one_at_most : (path : List ℕ) (level : ℕ) (docs : List (List ℕ × S))
      → times g x (record { path = path; level = level; docs = docs } ∷ []) ≤ 1
  one_at_most path level docs =
      elim (agrees path x && g level) as
      (λ b. cond b 1 0 + 0 ≤ 1) [ true ↦ omega arith | false ↦ omega arith ]

  module _ (join : S → S → S) (t : Task) (k : ℕ) where
    here_off : (d : ℕ) (path : List ℕ) (docs : List (List ℕ × S)) (subtrees : Nodes S)
        (below : List (Pick S)) → agrees path x ≡ false → times g x below ≡ 0
        → times g x (picks_here join t k d path docs subtrees below) ≡ 0
    here_off d path docs none below h e =
        let whole = total_doc join d docs none in
        elim (are_unconstrained t (k - d) d) as
        (λ b. times g x (cond b (record { path = path; level = k; docs = whole } ∷ [])
        (record { path = path; level = d; docs = docs } ∷ [])) ≡ 0)
        [ true ↦ one_off path k whole h | false ↦ one_off path d docs h ]
    here_off d path docs (node id own subtrees rest) below h e =
        let whole = total_doc join d docs (node id own subtrees rest) in
        elim (are_unconstrained t (k - d) d) as
        (λ b. times g x (cond b (record { path = path; level = k; docs = whole } ∷ []) below)
        ≡ 0) [ true ↦ one_off path k whole h | false ↦ e ]

    here_at_most : (d : ℕ) (path : List ℕ) (docs : List (List ℕ × S)) (subtrees : Nodes S)
        (below : List (Pick S)) → times g x below ≤ 1
        → times g x (picks_here join t k d path docs subtrees below) ≤ 1
    here_at_most d path docs none below e =
        let whole = total_doc join d docs none in
        elim (are_unconstrained t (k - d) d) as
        (λ b. times g x (cond b (record { path = path; level = k; docs = whole } ∷ [])
        (record { path = path; level = d; docs = docs } ∷ [])) ≤ 1)
        [ true ↦ one_at_most path k whole | false ↦ one_at_most path d docs ]
    here_at_most d path docs (node id own subtrees rest) below e =
        let whole = total_doc join d docs (node id own subtrees rest) in
        elim (are_unconstrained t (k - d) d) as
        (λ b. times g x (cond b
        (record { path = path; level = k; docs = whole }
        ∷ []) below) ≤ 1) [ true ↦ one_at_most path k whole | false ↦ e ]

    -- picks below a path that a row does not agree with do not count it
    off_path : (b : Bool) (d : ℕ) (path : List ℕ) (subtrees : Nodes S) → agrees path x ≡ false
        → times g x (picks_of join t k b d path subtrees) ≡ 0
    off_path b d path none h = refl
    off_path b d path (node id docs subtrees rest) h =
        let off = agrees_prefix path (id ∷ []) x h in
        let here = picks_here join t k (suc d) (path ++ (id ∷ [])) docs subtrees
        (picks_of join t k (has_star subtrees) (suc d) (path ++ (id ∷ [])) subtrees) in
        times-append g x (cond (is_selected t b d id) here []) (picks_of join t k b d path rest)
        ∙ (λ i. elim (is_selected t b d id) as (λ c. times g x (cond c here []) ≡ 0) [
          | true ↦ here_off (suc d) (path ++ (id ∷ [])) docs subtrees
              (picks_of join t k (has_star subtrees) (suc d) (path ++ (id ∷ [])) subtrees) off
              (off_path (has_star subtrees) (suc d) (path ++ (id ∷ [])) subtrees off)
          | false ↦ refl
        ] i
        + off_path b d path rest h i)

module _ (t : Task) (k : ℕ) (x : List ℕ) where
  -- where no dimension is tested any more, each row passes
  quiet_holds : (more d : ℕ) → are_unconstrained t more d ≡ true → holds_from t more d x ≡ true
  quiet_holds zero d h = refl
  quiet_holds (suc more) d h =
      by_test (t.filtered d) (t.grouped d) (t.passes d (dim d x)) (are_unconstrained t more (suc d))
      (holds_from t more (suc d) x) h (quiet_holds more (suc d))

  module _ {S : Type 0} (join : S → S → S) where
    by_quiet : (more d : ℕ) (path : List ℕ) (whole : List (List ℕ × S)) (below : List (Pick S)) → d
        + more ≡ k → agrees path x ≡ true → times_counted t k x below
        ≡ cond (holds_from t more d x) 1 0
        → times_counted t k x
        (cond (are_unconstrained t (k - d) d) (record { path = path; level = k; docs = whole } ∷ []) below)
        ≡ cond (holds_from t more d x) 1 0
    by_quiet more d path whole below sum on e =
        let m : k - d ≡ more = omega arith in
        let z : k - k ≡ 0 = omega arith in
        elim (are_unconstrained t (k - d) d) as
        (λ b. are_unconstrained t (k - d) d ≡ b
        → times_counted t k x
        (cond b (record { path = path; level = k; docs = whole } ∷ []) below)
        ≡ cond (holds_from t more d x) 1 0) [
          | true ↦ λ q. one_on (λ level. holds_from t (k - level) level x) x path k whole on
              ∙ ap (λ n. cond (holds_from t n k x) 1 0) z
              ∙ ap (λ b. cond b 1 0) (sym (quiet_holds more d (ap (λ n. are_unconstrained t n d) (sym m) ∙ q)))
          | false ↦ λ q. e
        ] refl

    here_leaf : (more d : ℕ) (path : List ℕ) (docs : List (List ℕ × S)) (below : List (Pick S)) → d
        + more ≡ k → agrees path x ≡ true
        → times_counted t k x (picks_here join t k d path docs none below)
        ≡ cond (holds_from t more d x) 1 0
    here_leaf more d path docs below sum on =
        let m : k - d ≡ more = omega arith in
        by_quiet more d path (total_doc join d docs none)
        (record { path = path; level = d; docs = docs } ∷ []) sum on
        (one_on (λ level. holds_from t (k - level) level x) x path d docs on
        ∙ ap (λ n. cond (holds_from t n d x) 1 0) m)

    here_on : (more d : ℕ) (path : List ℕ) (docs : List (List ℕ × S)) (subtrees : Nodes S)
        (below : List (Pick S)) → d + more ≡ k → agrees path x ≡ true → times_counted t k x below
        ≡ cond (holds_from t more d x) 1 0
        → times_counted t k x (picks_here join t k d path docs subtrees below)
        ≡ cond (holds_from t more d x) 1 0
    here_on more d path docs none below sum on e = here_leaf more d path docs below sum on
    here_on more d path docs (node id own subtrees rest) below sum on e =
        by_quiet more d path (total_doc join d docs (node id own subtrees rest)) below sum on e

none_and : (a : Bool) → (a && false) ≡ false
none_and true = refl
none_and false = refl

pub turn : (v w : ℕ) → (v == w) ≡ (w == v)
turn v w = grind (arith, nat_tests)

none_plus : (n : ℕ) → 0 + n ≡ n
none_plus n = omega arith

drop_zero : (n : ℕ) {m : ℕ} → 0 + n ≡ m → n ≡ m
drop_zero n h = omega arith

drop_one : (n : ℕ) → 1 + n ≡ 1 → n ≡ 0
drop_one n h = omega arith

of_chosen : {S : Type 0} (g : ℕ → Bool) (x : List ℕ) (b : Bool) (ps : List (Pick S)) (c : ℕ)
    → times g x ps ≡ c → times g x (cond b ps []) ≡ cond b c 0
of_chosen g x true ps c e = e
of_chosen g x false ps c e = refl

of_chosen_at_most : {S : Type 0} (g : ℕ → Bool) (x : List ℕ) (b : Bool) (ps : List (Pick S))
    → times g x ps ≤ 1 → times g x (cond b ps []) ≤ cond b 1 0
of_chosen_at_most g x true ps e = e
of_chosen_at_most g x false ps e = omega arith

without_star : (f g p h : Bool) → cond (cond f (true && p) (cond g true true)) (cond h 1 0) 0 + 0
    ≡ cond (cond f p true && h) 1 0
without_star true g true h = plus_none _
without_star true g false h = refl
without_star false true p h = plus_none _
without_star false false p h = plus_none _

with_star : (f g p q h : Bool) → cond (cond f (true && p) (cond g true false)) (cond h 1 0) 0
    + cond (cond f (false && q) (cond g false true)) (cond h 1 0) 0 ≡ cond (cond f p true && h) 1 0
with_star true g true q h = plus_none _
with_star true g false q h = refl
with_star false true p q h = plus_none _
with_star false false p q h = none_plus _

not_both : (f g p q : Bool) → cond (cond f (true && p) (cond g true false)) 1 0
    + cond (cond f (false && q) (cond g false true)) 1 0 ≤ 1
not_both true g true q = omega arith
not_both true g false q = omega arith
not_both false true p q = omega arith
not_both false false p q = omega arith

one_or_none : (b : Bool) → cond b 1 0 + 0 ≤ 1
one_or_none true = omega arith
one_or_none false = omega arith

-- a stricter test counts no more
fewer : (a b : Bool) → cond (a && b) 1 0 ≤ cond (a && true) 1 0
fewer true true = omega arith
fewer true false = omega arith
fewer false b = omega arith

times_fewer : {S : Type 0} (g : ℕ → Bool) (x : List ℕ) (ps : List (Pick S))
    → times g x ps ≤ times (λ _. true) x ps
times_fewer g x [] = omega arith
times_fewer g x (p ∷ ps) = let own = fewer (agrees p.path x) (g p.level)
    in let more = times_fewer g x ps in omega (arith, own, more)

parted : (h : Bool) (covered counted : ℕ) → counted ≤ covered → covered ≤ 1 → counted ≡ cond h 1 0
    → MatchBool h ((covered ≡ 1) × (counted ≡ 1)) ((covered ≤ 1) × (counted ≡ 0))
parted true covered counted less at_most is = (omega arith, is)
parted false covered counted less at_most is = (at_most, is)

no_star_in : {S : Type 0} (k : ℕ) (after : List (List ℕ × S)) (e : List ℕ × S)
    (before : List (List ℕ × S)) (d : ℕ) → d < k → HaveNoStar k (before ++ (e ∷ after))
    → dim d e.0 ≢ star
no_star_in k after e [] d lt h = h.0 d lt
no_star_in k after e (b ∷ bs) d lt h = no_star_in k after e bs d lt h.1

-- ordinary children have no star among them
pub has_star-subtrees : {S : Type 0} (below : List (List ℕ × S) → Nodes S) (d : ℕ)
    (docs : List (List ℕ × S)) (last : Nodes S) (vs : List ℕ) → Avoids vs
    → has_star (child_nodes_of below d docs last vs) ≡ has_star last
has_star-subtrees below d docs last [] av = refl
has_star-subtrees below d docs last (v ∷ vs) av =
    ap (λ b. cond b true (has_star (child_nodes_of below d docs last vs))) av.0
    ∙ has_star-subtrees below d docs last vs av.1

pub star_flag : {S : Type 0} (s : Bool) (docs : List (List ℕ × S)) (subtrees : Nodes S)
    → has_star (cond s (node star docs subtrees none) none) ≡ s
star_flag true docs subtrees = refl
star_flag false docs subtrees = refl

-- how often an id stands among some
unfoldable pub occurs : ℕ → List ℕ → ℕ
occurs v [] = 0
occurs v (w ∷ ws) = (if w == v then 1 else 0) + occurs v ws

pub key_eq : (v w : ℕ) → eq_by_cmp nat_cmp v w ≡ (w == v)
key_eq v w = grind (arith, nat_tests)

and_first : (a b : Bool) → T (a && b) → T a
and_first true b p = tt
and_first false b p = p

and_second : (a b : Bool) → T (a && b) → T b
and_second true b p = p
and_second false b p = absurd p

pub not_same : (v w : ℕ) → T (is_lt (nat_cmp v w)) → (w == v) ≡ false
not_same v w h = by_lt v w (nat_lt v w) refl h
  where
    by_lt : (v w : ℕ) (b : Bool) → nat_lt v w ≡ b
        → T (is_lt (cond b Less (cond (v == w) Equal Greater))) → (w == v) ≡ false
    by_lt v w true e h = grind (arith, nat_tests)
    by_lt v w false e h = absurd (no (v == w) h)
      where
        no : (b : Bool) → T (is_lt (cond b Equal Greater)) → ⊥
        no true q = q
        no false q = q

none_occurs : {S : Type 0} (v : ℕ) (es : List (ℕ × S)) → T (below_all nat_cmp v es)
    → occurs v (map (λ e. e.0) es) ≡ 0
unfolding occurs
none_occurs v [] h = refl
none_occurs v (e ∷ es) h =
    (λ i. (cond (not_same v e.0 (and_first _ _ h) i) 1 0) + none_occurs v es (and_second _ _ h) i)

-- in strictly ascending keys an id that is found stands once
occurs_once : {S : Type 0} (v : ℕ) (es : List (ℕ × S)) → T (is_sorted nat_cmp es)
    → is_some (find nat_cmp v es) ≡ true → occurs v (map (λ e. e.0) es) ≡ 1
unfolding occurs
occurs_once v [] up h = cc
occurs_once v (e ∷ es) up h =
    elim (e.0 == v) as (λ b. (e.0 == v) ≡ b → is_some (cond b (Some e.1) (find nat_cmp v es)) ≡ true
    → (cond b 1 0) + occurs v (map (λ e. e.0) es) ≡ 1) [
      | true ↦ λ q _. let is : e.0 ≡ v = eqb-true e.0 v q
          in ap (λ n. 1 + n) (subst (λ w. occurs w (map (λ e. e.0) es) ≡ 0) is
          (none_occurs e.0 es (and_first _ _ up)))
      | false ↦ λ q g. ap (λ n. 0 + n) (occurs_once v es (and_second _ _ up) g)
    ] refl (ap (λ b. is_some (cond b (Some e.1) (find nat_cmp v es))) (sym (key_eq v e.0)) ∙ h)

module _ {S : Type 0} (join : S → S → S) (j : IsJoin join) where
  some_joined : (a : Option S) (s : S) (b : Option S)
      → is_some (join_some join a (join_some join (Some s) b)) ≡ true
  some_joined None s None = refl
  some_joined None s (Some u) = refl
  some_joined (Some r) s None = refl
  some_joined (Some r) s (Some u) = refl

  -- a row that passes is in the total
  found : {K : Type 0} (p : K → Bool) (before after : List (K × S)) (e : K × S) → p e.0 ≡ true
      → is_some (total join p (before ++ (e ∷ after))) ≡ true
  found p before after e h =
      ap is_some (total-append join j p before (e ∷ after)
      ∙ ap (λ b. join_some join (total join p before)
      (join_some join (cond b (Some e.1) None) (total join p after))) h)
      ∙ some_joined (total join p before) e.1 (total join p after)

  module _ (t : Task) (k : ℕ) (shape : TreeShape) (before after : List (List ℕ × S))
      (e : List ℕ × S) (no_star : HaveNoStar k (before ++ (e ∷ after))) where
    rows : List (List ℕ × S)
    rows = before ++ (e ∷ after)

    -- its id is among the ids of its node
    pub id_once : (d : ℕ) (path : List ℕ) (docs : List (List ℕ × S)) → d ≡ length path → docs
        ≡ merged_docs join (rekey (starred path) (rows_at path (before ++ (e ∷ after))))
        → agrees path e.0 ≡ true → occurs (dim d e.0) (ids_at join d docs) ≡ 1
    id_once d path docs at is on =
        let x = e.0 in
        let v = dim d x in
        let here : dim d (starred path x) ≡ v = ap (λ n. dim n (starred path x)) at
        ∙ dim-starred path x ∙ ap (λ n. dim n x) (sym at) in
        let up = is_sorted-Merged nat_cmp nat_cmp_total nat_cmp-IsAntisymmetric join j
        (rekey (dim d) docs) in
        occurs_once v (Merged nat_cmp join (rekey (dim d) docs)) up
        (ap is_some (find_total nat_cmp nat_cmp_total nat_cmp-IsAntisymmetric join j v
        (Merged nat_cmp join (rekey (dim d) docs)) up
        ∙ total-Merged nat_cmp nat_cmp_total nat_cmp-IsAntisymmetric join j (eq_by_cmp nat_cmp v)
        (rekey (dim d) docs)
        ∙ total-rekey join j (dim d) (eq_by_cmp nat_cmp v) docs
        ∙ ap (total join (λ y. eq_by_cmp nat_cmp v (dim d y))) is
        ∙ total-Merged dims_order nat_list_cmp_total same_dims join j
        (λ y. eq_by_cmp nat_cmp v (dim d y))
        (rekey (starred path) (rows_at path (before ++ (e ∷ after))))
        ∙ total_rows join j (λ y. eq_by_cmp nat_cmp v (dim d y)) path (before ++ (e ∷ after)))
        ∙ found (λ y. agrees path y && eq_by_cmp nat_cmp v (dim d (starred path y))) before after e
        ((λ i. on i && eq_by_cmp nat_cmp v (here i)) ∙ key_eq v v ∙ eq-eqb v v refl))

    -- a child with another id does not count the row
    child_off : (g : ℕ → Bool) (b : Bool) (d : ℕ) (path : List ℕ) (docs : List (List ℕ × S))
        (subtrees : Nodes S) → d ≡ length path → (w : ℕ) → (w == star) ≡ false → (w == dim d e.0)
        ≡ false
        → times g e.0 (if is_selected t b d w
        then picks_here join t k (suc d) (path ++ (w ∷ [])) docs subtrees
        (picks_of join t k (has_star subtrees) (suc d) (path ++ (w ∷ [])) subtrees) else []) ≡ 0
    child_off g b d path docs subtrees at w ordinary ne =
        let x = e.0 in
        let here : dim (length path) (starred path x) ≡ dim d x = dim-starred path x
        ∙ ap (λ n. dim n x) (sym at) in
        let off : agrees (path ++ (w ∷ [])) x ≡ false = agrees_more path w ordinary x
        ∙ (λ i. agrees path x && (here i == w))
        ∙ ap (λ c. agrees path x && c) (turn (dim d x) w ∙ ne) ∙ none_and (agrees path x) in
        elim (is_selected t b d w) as
        (λ c. times g x (cond c
        (picks_here join t k (suc d) (path ++ (w ∷ [])) docs subtrees
        (picks_of join t k (has_star subtrees) (suc d) (path ++ (w ∷ [])) subtrees)) []) ≡ 0) [
          | true ↦ here_off g x join t k (suc d) (path ++ (w ∷ [])) docs subtrees
              (picks_of join t k (has_star subtrees) (suc d) (path ++ (w ∷ [])) subtrees) off
              (off_path g x join t k (has_star subtrees) (suc d)
              (path ++ (w ∷ [])) subtrees off)
          | false ↦ refl
        ]

    -- what the children of a node count
    children_none : (g : ℕ → Bool) (b : Bool) (d : ℕ) (path : List ℕ) (docs : List (List ℕ × S))
        (below : List (List ℕ × S) → Nodes S) (last : Nodes S) → d ≡ length path → (vs : List ℕ)
        → Avoids vs → occurs (dim d e.0) vs ≡ 0
        → times g e.0 (picks_of join t k b d path (child_nodes_of below d docs last vs))
        ≡ times g e.0 (picks_of join t k b d path last)
    unfolding occurs
    children_none g b d path docs below last at [] av o = refl
    children_none g b d path docs below last at (w ∷ ws) av o =
        let own = below (docs_with d w docs) in
        elim (w == dim d e.0) as
        (λ q. (w == dim d e.0) ≡ q → (cond q 1 0) + occurs (dim d e.0) ws ≡ 0
        → times g e.0 (picks_of join t k b d path (child_nodes_of below d docs last (w ∷ ws)))
        ≡ times g e.0 (picks_of join t k b d path last)) [
          | true ↦ λ q o. absurd (omega arith)
          | false ↦ λ q o. times-append g e.0
              (cond (is_selected t b d w)
              (picks_here join t k (suc d) (path ++ (w ∷ [])) (docs_with d w docs) own
              (picks_of join t k (has_star own) (suc d) (path ++ (w ∷ [])) own)) [])
              (picks_of join t k b d path (child_nodes_of below d docs last ws))
              ∙ (λ i. child_off g b d path (docs_with d w docs) own at w av.0 q i
              + children_none g b d path docs below last at ws av.1 (drop_zero _ o) i) ∙ none_plus _
        ] refl o

    children_one : (g : ℕ → Bool) (b : Bool) (d c : ℕ) (path : List ℕ) (docs : List (List ℕ × S))
        (below : List (List ℕ × S) → Nodes S) (last : Nodes S) → d ≡ length path → agrees path e.0
        ≡ true
        → (each : (w : ℕ) → w ≡ dim d e.0 → (w == star) ≡ false
        → times g e.0 (picks_here join t k (suc d) (path ++ (w ∷ [])) (docs_with d w docs)
        (below (docs_with d w docs))
        (picks_of join t k (has_star (below (docs_with d w docs))) (suc d) (path ++ (w ∷ []))
        (below (docs_with d w docs)))) ≡ c)
        → (vs : List ℕ) → Avoids vs → occurs (dim d e.0) vs ≡ 1
        → times g e.0 (picks_of join t k b d path (child_nodes_of below d docs last vs))
        ≡ cond (is_selected t b d (dim d e.0)) c 0 + times g e.0 (picks_of join t k b d path last)
    unfolding occurs
    children_one g b d c path docs below last at on each [] av o = absurd (omega (arith, o))
    children_one g b d c path docs below last at on each (w ∷ ws) av o =
        let own = below (docs_with d w docs) in
        let x = e.0 in
        let rest = picks_of join t k b d path (child_nodes_of below d docs last ws) in
        let here = picks_here join t k (suc d) (path ++ (w ∷ [])) (docs_with d w docs) own
        (picks_of join t k (has_star own) (suc d) (path ++ (w ∷ [])) own) in
        elim (w == dim d x) as
        (λ q. (w == dim d x) ≡ q → (cond q 1 0) + occurs (dim d x) ws ≡ 1
        → times g x (picks_of join t k b d path (child_nodes_of below d docs last (w ∷ ws)))
        ≡ cond (is_selected t b d (dim d x)) c 0 + times g x (picks_of join t k b d path last)) [
          | true ↦ λ q o. let same : w ≡ dim d x = eqb-true w (dim d x) q in
              times-append g x (cond (is_selected t b d w) here []) rest
              ∙ (λ i. of_chosen g x (is_selected t b d w) here c (each w same av.0) i
              + children_none g b d path docs below last at ws av.1 (drop_one _ o) i)
              ∙ ap (λ v. cond (is_selected t b d v) c 0
              + times g x (picks_of join t k b d path last)) same
          | false ↦ λ q o. times-append g x (cond (is_selected t b d w) here []) rest
              ∙ (λ i. child_off g b d path (docs_with d w docs) own at w av.0 q i
              + children_one g b d c path docs below last at on each ws av.1 (drop_zero _ o) i)
              ∙ none_plus _
        ] refl o

    -- the child with its id counts it at most once
    subtrees_at_most : (g : ℕ → Bool) (b : Bool) (d : ℕ) (path : List ℕ) (docs : List (List ℕ × S))
        (below : List (List ℕ × S) → Nodes S) (last : Nodes S) → d ≡ length path
        → (each : (w : ℕ) → w ≡ dim d e.0 → (w == star) ≡ false
        → times g e.0 (picks_here join t k (suc d) (path ++ (w ∷ [])) (docs_with d w docs)
        (below (docs_with d w docs))
        (picks_of join t k (has_star (below (docs_with d w docs))) (suc d) (path ++ (w ∷ []))
        (below (docs_with d w docs)))) ≤ 1)
        → (vs : List ℕ) → Avoids vs → occurs (dim d e.0) vs ≡ 1
        → times g e.0 (picks_of join t k b d path (child_nodes_of below d docs last vs)) ≤ cond
        (is_selected t b d (dim d e.0)) 1 0 + times g e.0 (picks_of join t k b d path last)
    unfolding occurs
    subtrees_at_most g b d path docs below last at each [] av o = absurd (omega (arith, o))
    subtrees_at_most g b d path docs below last at each (w ∷ ws) av o =
        let own = below (docs_with d w docs) in
        let x = e.0 in
        let rest = picks_of join t k b d path (child_nodes_of below d docs last ws) in
        let here = picks_here join t k (suc d) (path ++ (w ∷ [])) (docs_with d w docs) own
        (picks_of join t k (has_star own) (suc d) (path ++ (w ∷ [])) own) in
        let both = times-append g x (cond (is_selected t b d w) here []) rest in
        elim (w == dim d x) as
        (λ q. (w == dim d x) ≡ q → (cond q 1 0) + occurs (dim d x) ws ≡ 1
        → times g x (picks_of join t k b d path (child_nodes_of below d docs last (w ∷ ws))) ≤ cond
        (is_selected t b d (dim d x)) 1 0 + times g x (picks_of join t k b d path last)) [
          | true ↦ λ q o.
              let same : w ≡ dim d x = eqb-true w (dim d x) q in
              let own_part = subst
              (λ v. times g x (cond (is_selected t b d w) here []) ≤ cond
              (is_selected t b d v) 1 0) same
              (of_chosen_at_most g x (is_selected t b d w) here (each w same av.0)) in
              let none_left = children_none g b d path docs below last at ws av.1 (drop_one _ o) in
              omega (arith, both, own_part, none_left)
          | false ↦ λ q o.
              let nothing = child_off g b d path (docs_with d w docs) own at w av.0 q in
              let more = subtrees_at_most g b d path docs below last at each ws av.1 (drop_zero _ o) in
              omega (arith, both, nothing, more)
        ] refl o

    -- the children that are taken count the row once, where it passes
    children_count : (s : Bool) (more d : ℕ) (path : List ℕ) (sd : List (List ℕ × S))
        (subtrees : Nodes S) → (dim d e.0 == star) ≡ false
        → times_counted t k e.0
        (picks_here join t k (suc d) (path ++ (star ∷ [])) sd subtrees
        (picks_of join t k (has_star subtrees) (suc d) (path ++ (star ∷ [])) subtrees))
        ≡ cond (holds_from t more (suc d) e.0) 1 0
        → cond (is_selected t s d (dim d e.0)) (cond (holds_from t more (suc d) e.0) 1 0) 0
        + times_counted t k e.0
        (picks_of join t k s d path (cond s (node star sd subtrees none) none))
        ≡ cond (holds_from t (suc more) d e.0) 1 0
    children_count false more d path sd subtrees ordinary whole =
        ap (λ b. cond (cond (t.filtered d) (not b && t.passes d (dim d e.0))
        (cond (t.grouped d) (not b) true)) (cond (holds_from t more (suc d) e.0) 1 0) 0
        + 0) ordinary
        ∙ without_star (t.filtered d) (t.grouped d) (t.passes d (dim d e.0))
        (holds_from t more (suc d) e.0)
    children_count true more d path sd subtrees ordinary whole =
        let here = picks_here join t k (suc d) (path ++ (star ∷ [])) sd subtrees
        (picks_of join t k (has_star subtrees) (suc d) (path ++ (star ∷ [])) subtrees) in
        let h = holds_from t more (suc d) e.0 in
        ap (λ n. cond (is_selected t true d (dim d e.0)) (cond h 1 0) 0 + n)
        (times-append (λ level. holds_from t (k - level) level e.0) e.0
        (cond (is_selected t true d star) here []) [] ∙ plus_none _
        ∙ of_chosen (λ level. holds_from t (k - level) level e.0) e.0
        (is_selected t true d star) here (cond h 1 0) whole)
        ∙ ap (λ b. cond (cond (t.filtered d) (not b && t.passes d (dim d e.0))
        (cond (t.grouped d) (not b) b)) (cond h 1 0) 0
        + cond (is_selected t true d star) (cond h 1 0) 0) ordinary
        ∙ with_star (t.filtered d) (t.grouped d) (t.passes d (dim d e.0)) (t.passes d star) h

    -- picks at a node count a row that agrees with its path once, where it passes the tests from
    -- the node's level on
    pub counted_once : (more d : ℕ) (path : List ℕ) (docs : List (List ℕ × S)) → d ≡ length path → d
        + more ≡ k → docs ≡ merged_docs join
        (rekey (starred path) (rows_at path (before ++ (e ∷ after)))) → agrees path e.0 ≡ true
        → times_counted t k e.0
        (picks_here join t k d path docs (under join shape more d docs)
        (picks_of join t k (has_star (under join shape more d docs)) d path
        (under join shape more d docs))) ≡ cond (holds_from t more d e.0) 1 0
    counted_once zero d path docs at sum is on = here_leaf t k e.0 join zero d path docs [] sum on
    counted_once (suc more) d path docs at sum is on =
        let x = e.0 in
        let all = before ++ (e ∷ after) in
        let below = under join shape more (suc d) in
        let sd = merged_docs join (rekey (set_star d) docs) in
        let s = not (skips shape d) && nat_lt 1 (length (ids_at join d docs)) in
        let last = star_child join below shape d docs in
        let vs = ids_at join d docs in
        let lt : d < k = omega arith in
        let lt' : length path < k = omega (arith, at) in
        let av : Avoids vs = subst (λ n. Avoids (ids_at join n docs)) (sym at)
        (Avoids-ids join j path all docs is k lt' no_star) in
        let next : (v : ℕ) → suc d ≡ length (path ++ (v ∷ [])) = λ v. ap suc at
        ∙ sym (length_more path v) in
        let sum' : suc d + more ≡ k = omega arith in
        let ordinary : (dim d x == star)
        ≡ false = ne_eqb (dim d x) star (no_star_in k after e before d lt no_star) in
        let each = λ (w : ℕ) (same : w ≡ dim d x) (o : (w == star) ≡ false). counted_once more
        (suc d) (path ++ (w ∷ [])) (docs_with d w docs) (next w) sum'
        (ap (λ n. docs_with n w docs) at ∙ own_docs join j path all docs is w o)
        (agrees_more path w o x ∙ (λ i. on i && (dim-starred path x i == w))
        ∙ eq-eqb (dim (length path) x) w (ap (λ n. dim n x) (sym at) ∙ sym same)) in
        let star_here = counted_once more (suc d) (path ++ (star ∷ [])) sd (next star) sum'
        (ap (λ n. merged_docs join (rekey (set_star n) docs)) at
        ∙ star_docs join j path all docs is) (agrees_star path x ∙ on) in
        let flag : has_star (child_nodes_of below d docs last vs)
        ≡ s = has_star-subtrees below d docs last vs av ∙ star_flag s sd (below sd) in
        let split : times_counted t k x
        (picks_of join t k (has_star (child_nodes_of below d docs last vs)) d path
        (child_nodes_of below d docs last vs)) ≡ cond (holds_from t (suc more) d x) 1 0 =
        ap (λ b. times_counted t k x
        (picks_of join t k b d path (child_nodes_of below d docs last vs))) flag
        ∙ children_one (λ level. holds_from t (k - level) level x) s d
        (cond (holds_from t more (suc d) x) 1 0) path docs below last at on each vs av
        (id_once d path docs at is on)
        ∙ children_count s more d path sd (below sd) ordinary star_here in
        elim (nat_le (length docs) shape.leaf) as
        (λ b. times_counted t k x
        (picks_here join t k d path docs (cond b none (child_nodes_of below d docs last vs))
        (picks_of join t k (has_star (cond b none (child_nodes_of below d docs last vs))) d path
        (cond b none (child_nodes_of below d docs last vs))))
        ≡ cond (holds_from t (suc more) d x) 1 0) [
          | true ↦ here_leaf t k x join (suc more) d path docs [] sum on
          | false ↦ here_on t k x join (suc more) d path docs (child_nodes_of below d docs last vs)
              (picks_of join t k (has_star (child_nodes_of below d docs last vs)) d path
              (child_nodes_of below d docs last vs)) sum on split
        ]

    -- of the children that are taken at most one covers the row
    children_at_most : (g : ℕ → Bool) (s : Bool) (d : ℕ) (path : List ℕ) (sd : List (List ℕ × S))
        (subtrees : Nodes S) → (dim d e.0 == star) ≡ false
        → times g e.0 (picks_here join t k (suc d) (path ++ (star ∷ [])) sd subtrees
        (picks_of join t k (has_star subtrees) (suc d) (path ++ (star ∷ [])) subtrees)) ≤ 1
        → cond (is_selected t s d (dim d e.0)) 1 0
        + times g e.0 (picks_of join t k s d path (cond s (node star sd subtrees none) none)) ≤ 1
    children_at_most g false d path sd subtrees ordinary whole =
        one_or_none (is_selected t false d (dim d e.0))
    children_at_most g true d path sd subtrees ordinary whole =
        let x = e.0 in
        let here = picks_here join t k (suc d) (path ++ (star ∷ [])) sd subtrees
        (picks_of join t k (has_star subtrees) (suc d) (path ++ (star ∷ [])) subtrees) in
        let both = times-append g x (cond (is_selected t true d star) here []) [] in
        let own = of_chosen_at_most g x (is_selected t true d star) here whole in
        let apart = subst (λ b. cond
        (cond (t.filtered d) (not b && t.passes d (dim d x)) (cond (t.grouped d) (not b) b)) 1 0
        + cond (is_selected t true d star) 1 0 ≤ 1) (sym ordinary)
        (not_both (t.filtered d) (t.grouped d) (t.passes d (dim d x)) (t.passes d star)) in
        omega (arith, both, own, apart)

    -- picks at a node cover a row at most once
    pub covered_once : (g : ℕ → Bool) (more d : ℕ) (path : List ℕ) (docs : List (List ℕ × S)) → d
        ≡ length path → d + more ≡ k → docs
        ≡ merged_docs join (rekey (starred path) (rows_at path (before ++ (e ∷ after))))
        → agrees path e.0 ≡ true
        → times g e.0 (picks_here join t k d path docs (under join shape more d docs)
        (picks_of join t k (has_star (under join shape more d docs)) d path
        (under join shape more d docs))) ≤ 1
    covered_once g zero d path docs at sum is on =
        here_at_most g e.0 join t k d path docs none [] (omega arith)
    covered_once g (suc more) d path docs at sum is on =
        let x = e.0 in
        let all = before ++ (e ∷ after) in
        let below = under join shape more (suc d) in
        let sd = merged_docs join (rekey (set_star d) docs) in
        let s = not (skips shape d) && nat_lt 1 (length (ids_at join d docs)) in
        let last = star_child join below shape d docs in
        let vs = ids_at join d docs in
        let lt : d < k = omega arith in
        let lt' : length path < k = omega (arith, at) in
        let av : Avoids vs = subst (λ n. Avoids (ids_at join n docs)) (sym at)
        (Avoids-ids join j path all docs is k lt' no_star) in
        let next : (v : ℕ) → suc d ≡ length (path ++ (v ∷ [])) = λ v. ap suc at
        ∙ sym (length_more path v) in
        let sum' : suc d + more ≡ k = omega arith in
        let ordinary : (dim d x == star)
        ≡ false = ne_eqb (dim d x) star (no_star_in k after e before d lt no_star) in
        let each = λ (w : ℕ) (same : w ≡ dim d x) (o : (w == star) ≡ false). covered_once g more
        (suc d) (path ++ (w ∷ [])) (docs_with d w docs) (next w) sum'
        (ap (λ n. docs_with n w docs) at ∙ own_docs join j path all docs is w o)
        (agrees_more path w o x ∙ (λ i. on i && (dim-starred path x i == w))
        ∙ eq-eqb (dim (length path) x) w (ap (λ n. dim n x) (sym at) ∙ sym same)) in
        let star_here = covered_once g more (suc d) (path ++ (star ∷ [])) sd (next star) sum'
        (ap (λ n. merged_docs join (rekey (set_star n) docs)) at
        ∙ star_docs join j path all docs is) (agrees_star path x ∙ on) in
        let flag : has_star (child_nodes_of below d docs last vs)
        ≡ s = has_star-subtrees below d docs last vs av ∙ star_flag s sd (below sd) in
        let ordinary_part = subtrees_at_most g s d path docs below last at each vs av
        (id_once d path docs at is on) in
        let star_part = children_at_most g s d path sd (below sd) ordinary star_here in
        let split : times g x
        (picks_of join t k (has_star (child_nodes_of below d docs last vs)) d path
        (child_nodes_of below d docs last vs)) ≤ 1 =
        subst (λ b. times g x (picks_of join t k b d path (child_nodes_of below d docs last vs)) ≤ 1)
        (sym flag) (omega (arith, ordinary_part, star_part)) in
        elim (nat_le (length docs) shape.leaf) as
        (λ b. times g x (picks_here join t k d path docs
        (cond b none (child_nodes_of below d docs last vs))
        (picks_of join t k (has_star (cond b none (child_nodes_of below d docs last vs))) d path
        (cond b none (child_nodes_of below d docs last vs)))) ≤ 1) [
          | true ↦ here_at_most g x join t k d path docs none [] (omega arith)
          | false ↦ here_at_most g x join t k d path docs (child_nodes_of below d docs last vs)
              (picks_of join t k (has_star (child_nodes_of below d docs last vs)) d path
              (child_nodes_of below d docs last vs)) split
        ]

    root_covered : (docs : List (List ℕ × S)) → docs ≡ merged_docs join (before ++ (e ∷ after))
        → times_covered e.0 (picks join t k (root_of join shape k docs)) ≤ 1
    root_covered [] is = omega arith
    root_covered (x ∷ xs) is =
        covered_once (λ _. true) k 0 [] (x ∷ xs) refl (omega arith)
        (is ∙ ap (merged_docs join) (sym (all_rows join j (before ++ (e ∷ after))))) refl

    root_counted : (docs : List (List ℕ × S)) → docs ≡ merged_docs join (before ++ (e ∷ after))
        → times_counted t k e.0 (picks join t k (root_of join shape k docs))
        ≡ cond (holds_from t k 0 e.0) 1 0
    root_counted [] is = absurd
        (no_rows before (none_merged join j (before ++ (e ∷ after)) (sym is)))
      where
        no_rows : (bs : List (List ℕ × S)) → bs ++ (e ∷ after) ≡ [] → ⊥
        no_rows [] q = cc
        no_rows (b ∷ bs) q = cc
    root_counted (x ∷ xs) is =
        counted_once k 0 [] (x ∷ xs) refl (omega arith)
        (is ∙ ap (merged_docs join) (sym (all_rows join j (before ++ (e ∷ after))))) refl

    pub tree_counted : times_counted t k e.0
        (picks join t k (tree_of join shape k (before ++ (e ∷ after))))
        ≡ cond (holds_from t k 0 e.0) 1 0
    tree_counted = root_counted (merged_docs join (before ++ (e ∷ after))) refl

    -- the picks part the rows
    pub tree_parted : IsPartedBy t k
        (picks join t k (tree_of join shape k (before ++ (e ∷ after)))) e.0
    tree_parted =
        let ps = picks join t k (tree_of join shape k (before ++ (e ∷ after))) in
        parted (holds_from t k 0 e.0) (times_covered e.0 ps) (times_counted t k e.0 ps)
        (times_fewer (λ level. holds_from t (k - level) level e.0) e.0 ps)
        (root_covered (merged_docs join (before ++ (e ∷ after))) refl) tree_counted
