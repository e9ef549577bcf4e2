-- The groups of what is read of a tree are those of the rows that hold.
use Rattle.std.proofs.Common.{◌≡◌, ◌≢◌, ℕ, zero, suc, ◌+◌, ◌-◌, ◌<◌, ◌≤◌, Bool, true, false, cond}
use Rattle.std.proofs.Common.{MatchBool, ◌&&◌, ◌||◌, ◌==◌, nat_lt, List, [], ◌∷◌, length, take}
use Rattle.std.proofs.Common.{Option, Some, None, inl, inr, refl, sym, ap, ◌∙◌, arith}
use Rattle.std.specs.List.{filter}
use Rattle.std.specs.Ordering.{eq_by_cmp}
use Rattle.std.proofs.lemmas.Bool.{eqb-true}
use Rattle.std.proofs.lemmas.Bool.Decides.{nat_tests}
use Rattle.std.proofs.lemmas.Cmp.{nat_list_cmp_total}
use Rattle.agg_laws.specs.declared.tree_shape.TreeShape.{TreeShape}
use Rattle.agg_laws.specs.Merged.{IsJoin, join_some, part, total, rekey}
use Rattle.agg_laws.specs.Tree.{star, dims_order, dim, tree_of, agrees, starred, rows_at}
use Rattle.agg_laws.specs.Tree.{HaveNoStar}
use Rattle.state_columns.specs.Docs.{HaveIds}
use Rattle.state_columns.specs.Documents.{one_document}
use Rattle.star_tree.specs.Picks.{Task, Pick, holds_from, picks, times, HasDocs, HaveDocs}
use Rattle.star_tree.specs.Picks.{KeepGroups, ArePartedBy}
use Rattle.star_tree.specs.Groups.{key_from, groups_of, rows_that_hold, passing}
use Rattle.state_columns.proofs.MergedLemmas.{join_none, join_assoc, join_swap, total-append}
use Rattle.state_columns.proofs.MergedLemmas.{total-filter, total-rekey, total-Merged, total_agree}
use Rattle.state_columns.proofs.MergedLemmas.{Merged_same}
use Rattle.state_columns.proofs.ListLemmas.{same_dims}
use Rattle.star_tree.proofs.TreeLemmas.{total_rows}
use Rattle.star_tree.proofs.NodeLemmas.{dim-after}
use Rattle.star_tree.proofs.GroupLemmas.{rows_parted, groups_kept}
use Rattle.star_tree.proofs.PickDocs.{tree_docs}

-- a path says nothing of a dimension in which it has no id of its own
past : (path : List ℕ) (d : ℕ) → length path ≤ d → dim d path ≡ star
past [] d h = refl
past (p ∷ ps) zero h = absurd (omega arith)
past (p ∷ ps) (suc d) h = past ps d (omega arith)

within : (path : List ℕ) (d : ℕ) → dim d path ≢ star → d < length path
within path d own =
    elim (nat_lt d (length path)) as (λ b. nat_lt d (length path) ≡ b → d < length path) [
      | true ↦ λ e. grind (arith, nat_tests, e)
      | false ↦ λ e. let le : length path ≤ d = grind (arith, nat_tests, e)
          in absurd (own (past path d le))
    ] refl

-- the ids that a path has, and those after it, are kept
not_star : (p : ℕ) → p ≢ star → (p == star) ≡ false
not_star p h = elim (p == star) as
    (λ b. (p == star) ≡ b → b
    ≡ false) [ true ↦ λ e. absurd (h (eqb-true p star e)) | false ↦ λ _. refl ] refl

dim-kept : (path x : List ℕ) (d : ℕ) → (d < length path → dim d path ≢ star)
    → dim d (starred path x) ≡ dim d x
dim-kept [] x d own = refl
dim-kept (p ∷ ps) [] d own = refl
dim-kept (p ∷ ps) (x ∷ xs) zero own = ap (λ b. cond b star x) (not_star p (own (omega arith)))
dim-kept (p ∷ ps) (x ∷ xs) (suc d) own = dim-kept ps xs d (λ h. own (omega arith))

and_both : (a b : Bool) → (a && b) ≡ true → (a ≡ true) × (b ≡ true)
and_both true b h = (refl, h)
and_both false b h = cc

-- a row that agrees with a path has its ids
dim-agrees : (path x : List ℕ) (d : ℕ) → agrees path x ≡ true → dim d path ≢ star → dim d x
    ≡ dim d path
dim-agrees [] x d on own = absurd (own refl)
dim-agrees (p ∷ ps) [] zero on own =
    absurd (own (eqb-true p star (and_both (p == star) (agrees ps []) on).0))
dim-agrees (p ∷ ps) [] (suc d) on own =
    dim-agrees ps [] d (and_both (p == star) (agrees ps []) on).1 own
dim-agrees (p ∷ ps) (x ∷ xs) zero on own =
    eqb-true x p (ap (λ b. b || (x == p)) (sym (not_star p own))
    ∙ (and_both ((p == star) || (x == p)) (agrees ps xs) on).0)
dim-agrees (p ∷ ps) (x ∷ xs) (suc d) on own =
    dim-agrees ps xs d (and_both ((p == star) || (x == p)) (agrees ps xs) on).1 own

dim-take : (path x : List ℕ) (d : ℕ) → take (length path) x ≡ path → d < length path → dim d x
    ≡ dim d path
dim-take [] x d h lt = absurd (omega arith)
dim-take (p ∷ ps) [] d h lt = cc
dim-take (p ∷ ps) (x ∷ xs) zero h lt = first x p (take (length ps) xs) ps h
  where
    first : (a b : ℕ) (xs ys : List ℕ) → a ∷ xs ≡ b ∷ ys → a ≡ b
    first a b xs ys e = cc
dim-take (p ∷ ps) (x ∷ xs) (suc d) h lt =
    dim-take ps xs d (rest x p (take (length ps) xs) ps h) (omega arith)
  where
    rest : (a b : ℕ) (xs ys : List ℕ) → a ∷ xs ≡ b ∷ ys → xs ≡ ys
    rest a b xs ys e = cc

module _ (t : Task) where
  -- tests of later dimensions, and keys, go by the ids
  holds_kept : (path x : List ℕ) (more d : ℕ) → length path ≤ d
      → holds_from t more d (starred path x) ≡ holds_from t more d x
  holds_kept path x zero d le = refl
  holds_kept path x (suc more) d le =
      λ i. (cond (t.filtered d) (t.passes d (dim-after path x d le i)) true)
      && holds_kept path x more (suc d) (omega arith) i

  key_same : (x y : List ℕ) (more d : ℕ)
      → ((i : ℕ) → d ≤ i → i < d + more → t.grouped i ≡ true → dim i x ≡ dim i y)
      → key_from t more d x ≡ key_from t more d y
  key_same x y zero d is = refl
  key_same x y (suc more) d is =
      let rest = key_same x y more (suc d) (λ i le lt g. is i (omega arith) (omega arith) g) in
      elim (t.grouped d) as
      (λ b. t.grouped d ≡ b
      → cond b (dim d x ∷ key_from t more (suc d) x) (key_from t more (suc d) x)
      ≡ cond b (dim d y ∷ key_from t more (suc d) y) (key_from t more (suc d) y)) [
        | true ↦ λ g. λ i. is d (omega arith) (omega arith) g i ∷ rest i
        | false ↦ λ _. rest
      ] refl

none_left : (n : ℕ) → 0 + n ≡ 0 → n ≡ 0
none_left n h = omega arith

none_more : (n : ℕ) → 1 + n ≡ 1 → n ≡ 0
none_more n h = omega arith

one_more : (n : ℕ) → 0 + n ≡ 1 → n ≡ 1
one_more n h = omega arith

module _ {S : Type 0} (join : S → S → S) (j : IsJoin join) (t : Task) (k : ℕ)
    (c : List ℕ → Bool) where
  -- a row is counted by a pick, and its key passes
  abbrev counts_row : Pick S → List ℕ → Bool
  counts_row p x = agrees p.path x && (holds_from t (k - p.level) p.level x && c (key_from t k 0 x))

  abbrev test_of : Pick S → List ℕ → Bool
  test_of p x = holds_from t (k - p.level) p.level x && c (key_from t k 0 x)

  -- what the picks count of some rows
  abbrev counted_of : List (Pick S) → List (List ℕ × S) → Option S
  counted_of [] rows = None
  counted_of (p ∷ ps) rows = join_some join (total join (counts_row p) rows) (counted_of ps rows)

  total_none : (p : List ℕ → Bool) → ((x : List ℕ) → p x ≡ false) → (rows : List (List ℕ × S))
      → total join p rows ≡ None
  total_none p off [] = refl
  total_none p off (e ∷ es) =
      (λ i. join_some join (cond (off e.0 i) (Some e.1) None) (total_none p off es i))

  one_total : (q : List ℕ → Bool) (ids : List ℕ) (o : Option S) → total join q (one_document ids o)
      ≡ cond (q ids) o None
  one_total q ids None = nothing (q ids)
    where
      nothing : (b : Bool) → ◌≡◌ {A = Option S} None (cond b None None)
      nothing true = refl
      nothing false = refl
  one_total q ids (Some s) = join_none join j (cond (q ids) (Some s) None)

  by_agrees : (a b d : Bool) → (a ≡ true → b ≡ d) → (a && b) ≡ (a && d)
  by_agrees true b d h = h refl
  by_agrees false b d h = refl

  whole_rows : (o : Option S) (a : Option S) (b : Bool) (r : Bool → Option S) → o ≡ r true → None
      ≡ r false → cond b o None ≡ r b
  whole_rows o a true r p q = p
  whole_rows o a false r p q = q

  -- the documents of a pick that pass are the rows that it counts
  pick_total : (rows : List (List ℕ × S)) (p : Pick S) → HasDocs join k rows p
      → ((d : ℕ) → d < k → t.grouped d ≡ true → d < p.level → dim d p.path ≢ star)
      → total join (test_of p) p.docs ≡ total join (counts_row p) rows
  pick_total rows p (inl h) own =
      let covers = h.1 in
      ap (total join (test_of p)) covers.docs_are
      ∙ total-Merged dims_order nat_list_cmp_total same_dims join j (test_of p)
      (rekey (starred p.path) (rows_at p.path rows))
      ∙ total_rows join j (test_of p) p.path rows
      ∙ total_agree join j (λ x. agrees p.path x && test_of p (starred p.path x)) (counts_row p)
      (λ x. λ i. agrees p.path x
      && (holds_kept t p.path x (k - p.level) p.level (omega (arith, h.0)) i
      && c (key_same t (starred p.path x) x k 0
      (λ d le lt g. dim-kept p.path x d
      (λ l. own d (omega arith) g (omega (arith, l, h.0)))) i))) rows
  pick_total rows p (inr h) own =
      let w = h.1 in
      let z : k - p.level ≡ 0 = omega (arith, h.0) in
      let own' : (d : ℕ) → d < k → t.grouped d ≡ true
      → dim d p.path ≢ star = λ d lt g. own d lt g (omega (arith, lt, h.0)) in
      let b = c (key_from t k 0 w.ids) in
      let o = total join (λ _. true) (rows_at p.path rows) in
      let all : o ≡ total join (λ x. agrees p.path x && (true && true)) rows =
      total-filter join j (λ _. true) (agrees p.path) rows in
      let off : None ≡ total join (λ x. agrees p.path x && (true && false)) rows =
      sym (total_none (λ x. agrees p.path x && (true && false))
      (λ x. none_and (agrees p.path x)) rows) in
      ap (total join (test_of p)) w.docs_are
      ∙ one_total (test_of p) w.ids o
      ∙ ap (λ n. cond (holds_from t n p.level w.ids && b) o None) z
      ∙ whole_rows o o b (λ b. total join (λ x. agrees p.path x && (true && b)) rows) all off
      ∙ total_agree join j (λ x. agrees p.path x && (true && b)) (counts_row p)
      (λ x. by_agrees (agrees p.path x) (true && b) (test_of p x)
      (λ on. λ i. holds_from t (sym z i) p.level x
      && c (key_same t w.ids x k 0
      (λ d le lt g. dim-take p.path w.ids d w.path_is (within p.path d (own' d (omega arith) g))
      ∙ sym (dim-agrees p.path x d on (own' d (omega arith) g))) i))) rows
    where
      none_and : (a : Bool) → (a && false) ≡ false
      none_and true = refl
      none_and false = refl

  passing_total : (rows : List (List ℕ × S)) (ps : List (Pick S)) → HaveDocs join k rows ps
      → KeepGroups t k ps → total join (λ x. c (key_from t k 0 x)) (passing t k ps)
      ≡ counted_of ps rows
  passing_total rows [] h g = refl
  passing_total rows (p ∷ ps) h g =
      let own = filter (λ e. holds_from t (k - p.level) p.level e.0) p.docs in
      total-append join j (λ x. c (key_from t k 0 x)) own (passing t k ps)
      ∙ (λ i. join_some join
      ((total-filter join j (λ x. c (key_from t k 0 x))
      (holds_from t (k - p.level) p.level) p.docs ∙ pick_total rows p h.0 g.0) i)
      (passing_total rows ps h.1 g.1 i))

  -- what the picks count of one row
  abbrev counted_row : List (Pick S) → List ℕ × S → Option S
  counted_row [] e = None
  counted_row (p ∷ ps) e = join_some join (part (counts_row p) e) (counted_row ps e)

  pair_up : (a b d e : Option S) → join_some join (join_some join a b) (join_some join d e)
      ≡ join_some join (join_some join a d) (join_some join b e)
  pair_up a b d e = join_assoc join j a b (join_some join d e)
      ∙ ap (join_some join a) (join_swap join j b d e)
      ∙ sym (join_assoc join j a d (join_some join b e))

  row_by_row : (ps : List (Pick S)) (e : List ℕ × S) (es : List (List ℕ × S))
      → counted_of ps (e ∷ es) ≡ join_some join (counted_row ps e) (counted_of ps es)
  row_by_row [] e es = refl
  row_by_row (p ∷ ps) e es =
      ap (join_some join (join_some join (part (counts_row p) e) (total join (counts_row p) es)))
      (row_by_row ps e es)
      ∙ pair_up (part (counts_row p) e) (total join (counts_row p) es) (counted_row ps e)
      (counted_of ps es)

  no_rows : (ps : List (Pick S)) → counted_of ps [] ≡ None
  no_rows [] = refl
  no_rows (p ∷ ps) = no_rows ps

  -- by how many picks a row is counted
  abbrev g : List ℕ → ℕ → Bool
  g x level = holds_from t (k - level) level x

  none_step : (a b d : Bool) (n : ℕ) (s : S) (rest : Option S) → (n ≡ 0 → rest ≡ None)
      → cond (a && b) 1 0 + n ≡ 0 → join_some join (cond (a && (b && d)) (Some s) None) rest ≡ None
  none_step true true d n s rest f h = absurd (omega (arith, h))
  none_step true false d n s rest f h = f (none_left n h)
  none_step false b d n s rest f h = f (none_left n h)

  one_step : (a b d : Bool) (n : ℕ) (s : S) (rest : Option S) → (n ≡ 0 → rest ≡ None)
      → (n ≡ 1 → rest ≡ cond d (Some s) None) → cond (a && b) 1 0 + n ≡ 1
      → join_some join (cond (a && (b && d)) (Some s) None) rest ≡ cond d (Some s) None
  one_step true true d n s rest f r h =
      ap (join_some join (cond d (Some s) None)) (f (none_more n h))
      ∙ join_none join j (cond d (Some s) None)
  one_step true false d n s rest f r h = r (one_more n h)
  one_step false b d n s rest f r h = r (one_more n h)

  counted_none : (ps : List (Pick S)) (e : List ℕ × S) → times (g e.0) e.0 ps ≡ 0 → counted_row ps e
      ≡ None
  counted_none [] e h = refl
  counted_none (p ∷ ps) e h =
      none_step (agrees p.path e.0) (g e.0 p.level) (c (key_from t k 0 e.0))
      (times (g e.0) e.0 ps) e.1 (counted_row ps e) (counted_none ps e) h

  counted_one : (ps : List (Pick S)) (e : List ℕ × S) → times (g e.0) e.0 ps ≡ 1 → counted_row ps e
      ≡ cond (c (key_from t k 0 e.0)) (Some e.1) None
  counted_one [] e h = absurd (omega (arith, h))
  counted_one (p ∷ ps) e h =
      one_step (agrees p.path e.0) (g e.0 p.level) (c (key_from t k 0 e.0))
      (times (g e.0) e.0 ps) e.1 (counted_row ps e) (counted_none ps e) (counted_one ps e) h

  -- a row is counted once where it holds
  row_counted : (b : Bool) (ps : List (Pick S)) (e : List ℕ × S) → holds_from t k 0 e.0 ≡ b
      → MatchBool b ((times (λ _. true) e.0 ps ≡ 1) × (times (g e.0) e.0 ps ≡ 1))
      ((times (λ _. true) e.0 ps ≤ 1) × (times (g e.0) e.0 ps ≡ 0))
      → counted_row ps e ≡ cond (b && c (key_from t k 0 e.0)) (Some e.1) None
  row_counted true ps e q h = counted_one ps e h.1
  row_counted false ps e q h = counted_none ps e h.1

  rows_counted : (ps : List (Pick S)) (rows : List (List ℕ × S)) → ArePartedBy t k ps rows
      → counted_of ps rows ≡ total join (λ x. holds_from t k 0 x && c (key_from t k 0 x)) rows
  rows_counted ps [] h = no_rows ps
  rows_counted ps (e ∷ es) h =
      row_by_row ps e es ∙
      (λ i. join_some join (row_counted (holds_from t k 0 e.0) ps e refl h.0 i)
      (rows_counted ps es h.1 i))

  pub answer_total : (shape : TreeShape) (rows : List (List ℕ × S)) → HaveIds k rows
      → HaveNoStar k rows
      → total join (λ x. c (key_from t k 0 x))
      (passing t k (picks join t k (tree_of join shape k rows)))
      ≡ total join (λ x. holds_from t k 0 x && c (key_from t k 0 x)) rows
  answer_total shape rows ids no_star =
      let ps = picks join t k (tree_of join shape k rows) in
      passing_total rows ps (tree_docs join j t k shape rows ids no_star)
      (groups_kept t k join (tree_of join shape k rows))
      ∙ rows_counted ps rows (rows_parted join j t k shape rows no_star)

module _ {S : Type 0} (join : S → S → S) (j : IsJoin join) (t : Task) (k : ℕ) (shape : TreeShape)
    (rows : List (List ℕ × S)) (ids : HaveIds k rows) (no_star : HaveNoStar k rows) where
  pub same_groups : groups_of join t k (passing t k (picks join t k (tree_of join shape k rows)))
      ≡ groups_of join t k (rows_that_hold t k rows)
  same_groups =
      let read = passing t k (picks join t k (tree_of join shape k rows)) in
      Merged_same dims_order nat_list_cmp_total same_dims join j (rekey (key_from t k 0) read)
      (rekey (key_from t k 0) (rows_that_hold t k rows)) (λ q.
      total-rekey join j (key_from t k 0) (eq_by_cmp dims_order q) read
      ∙ answer_total join j t k (eq_by_cmp dims_order q) shape rows ids no_star
      ∙ sym (total-filter join j (λ x. eq_by_cmp dims_order q (key_from t k 0 x))
      (holds_from t k 0) rows)
      ∙ sym (total-rekey join j (key_from t k 0) (eq_by_cmp dims_order q)
      (rows_that_hold t k rows)))
