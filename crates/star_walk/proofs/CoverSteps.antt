-- Each pick of a nested tree covers just the rows of the path of its node.
use Rattle.std.proofs.Common.{◌≡◌, ◌≢◌, ℕ, zero, suc, ◌+◌, ◌-◌, ◌<◌, ◌≤◌, Bool, true, false, cond}
use Rattle.std.proofs.Common.{MatchBool, ◌&&◌, ◌==◌, ◌⊎◌, inl, inr, nat_lt, List, [], ◌∷◌}
use Rattle.std.proofs.Common.{◌++◌, map, length, drop, get_or, refl, sym, ap, subst, ◌∙◌}
use Rattle.std.proofs.Common.{arith, All}
use Rattle.std.specs.List.{count_by}
use Rattle.std.proofs.lemmas.Bool.{eqb-true}
use Rattle.std.proofs.lemmas.Bool.Decides.{nat_tests}
use Rattle.std.proofs.lemmas.List.{get_or-take, get_or-drop}
use Rattle.std.proofs.lemmas.List.Sums.{sum_by-cons}
use Rattle.agg_laws.specs.declared.states.AggState.{AggState}
use Rattle.agg_laws.specs.Rows.{merged_rows}
use Rattle.state_columns.specs.Docs.{Doc, HaveIds}
use Rattle.state_columns.specs.Documents.{total_below, total_doc}
use Rattle.agg_laws.specs.Tree.{star, dim, Nodes, none, node, has_star, agrees, CoversRows, Covers}
use Rattle.agg_laws.specs.Tree.{CoversTree, HaveNoStar}
use Rattle.state_columns.specs.Region.{range}
use Rattle.star_tree.specs.Picks.{Task, are_unconstrained, is_selected, holds_from, picks_here, picks_of, picks}
use Rattle.star_tree.specs.Picks.{times, KeepGroups, IsPartedBy, ArePartedBy}
use Rattle.star_tree.specs.Picks as nested
use Rattle.star_tree.proofs.TreeLemmas.{length_more}
use Rattle.star_walk.specs.declared.pick.Pick.{Pick}
use Rattle.star_walk.specs.Images.{bare, shown, AreWithin}
use Rattle.star_walk.specs.Covering.{covers, counts, IsCovered, AreCovered, HaveValues, has_number}
use Rattle.star_walk.proofs.WithinSteps.{length_range}
use Rattle.star_walk.proofs.CoverLemmas.{Among, among_at, any_of, Stand, docs_stand}
use Rattle.star_walk.proofs.CoverLemmas.{aggregated_stand, star_stand, stand_any, stand_own}
use Rattle.star_walk.proofs.CoverLemmas.{docs_after, same_dim}

abbrev States : Type 0
States = List AggState

abbrev pub NestedPick : Type 0
NestedPick = nested.Pick (List AggState)

module _ (t : Task) (k : ℕ) (rows : List Doc) (no_star : HaveNoStar k rows) where
  -- what is known of a pick: its documents stand for just the rows of its path, and have ids on the
  -- dimensions from its level on
  pub record IsPick (p : NestedPick) : Type 0 where
    pub stand : Stand p.path rows p.docs
    pub after : (q : List ℕ) → Among q p.docs → (d : ℕ) → p.level ≤ d → d < k → dim d q ≢ star

  abbrev pub ArePicks : List NestedPick → Type 0
  ArePicks [] = Unit {0}
  ArePicks (p ∷ ps) = IsPick p × ArePicks ps

  both : (ps qs : List NestedPick) → ArePicks ps → ArePicks qs → ArePicks (ps ++ qs)
  both [] qs h g = g
  both (p ∷ ps) qs h g = (h.0, both ps qs h.1 g)

  -- the one document of a node stands for the rows of its path
  here_total : (d : ℕ) (path : List ℕ) (docs : List Doc) (subtrees : Nodes States) → d ≡ length path
      → CoversRows merged_rows rows path docs → Stand path rows (total_below merged_rows d docs subtrees)
      → Stand path rows (total_doc merged_rows d docs subtrees)
  here_total d path docs none at own h =
      elim (length docs == 1) as
      (λ b. Stand path rows (cond b docs (total_below merged_rows d docs none)))
      [ true ↦ docs_stand merged_rows rows path docs own | false ↦ h ]
  here_total d path docs (node id child subtrees rest) at own h = h

  below_total : (d : ℕ) (path : List ℕ) (docs : List Doc) (subtrees : Nodes States) → d ≡ length path
      → CoversRows merged_rows rows path docs → Covers merged_rows rows path subtrees
      → Stand path rows (total_below merged_rows d docs subtrees)
  below_total d path docs none at own h = aggregated_stand merged_rows rows d path docs at own
  below_total d path docs (node id child subtrees rest) at own h =
      let next : suc d ≡ length (path ++ (id ∷ [])) = ap suc at ∙ sym (length_more path id) in
      let child_total = here_total (suc d) (path ++ (id ∷ [])) child subtrees next h.0
      (below_total (suc d) (path ++ (id ∷ [])) child subtrees next h.0 h.1) in
      let more = below_total d path docs rest at own h.2 in
      elim (id == star) as
      (λ b. (id == star) ≡ b → Stand path rows
      (cond b (total_doc merged_rows (suc d) child subtrees) (total_below merged_rows d docs rest))) [
        | true ↦ λ e. star_stand merged_rows rows path (total_doc merged_rows (suc d) child subtrees)
            (subst (λ v. Stand (path ++ (v ∷ [])) rows (total_doc merged_rows (suc d) child subtrees))
            (eqb-true id star e) child_total)
        | false ↦ λ _. more
      ] refl

  whole_pick : (path : List ℕ) (docs : List Doc) → Stand path rows docs
      → IsPick (record { path = path; level = k; docs = docs })
  whole_pick path docs h = record {
    stand = h;
    after = λ q among d le lt. absurd (omega (arith, le, lt));
  }

  leaf_pick : (d : ℕ) (path : List ℕ) (docs : List Doc) → d ≡ length path
      → CoversRows merged_rows rows path docs
      → IsPick (record { path = path; level = d; docs = docs })
  leaf_pick d path docs at own = record {
    stand = docs_stand merged_rows rows path docs own;
    after = λ q among i le lt. docs_after merged_rows rows k path docs no_star own q among i
        (omega (arith, at, le)) lt;
  }

  here_picks : (d : ℕ) (path : List ℕ) (docs : List Doc) (subtrees : Nodes States)
      (below : List NestedPick) → d ≡ length path → CoversRows merged_rows rows path docs
      → Covers merged_rows rows path subtrees → ArePicks below
      → ArePicks (picks_here merged_rows t k d path docs subtrees below)
  here_picks d path docs none below at own h g =
      let whole = here_total d path docs none at own (below_total d path docs none at own h) in
      elim (are_unconstrained t (k - d) d) as
      (λ b. ArePicks
      (cond b (record { path = path; level = k; docs = total_doc merged_rows d docs none } ∷ [])
      (record { path = path; level = d; docs = docs } ∷ []))) [
        | true ↦ (whole_pick path (total_doc merged_rows d docs none) whole, tt)
        | false ↦ (leaf_pick d path docs at own, tt)
      ]
  here_picks d path docs (node id child subtrees rest) below at own h g =
      let all : Nodes States = node id child subtrees rest in
      let whole = here_total d path docs all at own (below_total d path docs all at own h) in
      elim (are_unconstrained t (k - d) d) as
      (λ b. ArePicks
      (cond b (record { path = path; level = k; docs = total_doc merged_rows d docs all } ∷ [])
      below)) [
        | true ↦ (whole_pick path (total_doc merged_rows d docs all) whole, tt)
        | false ↦ g
      ]

  children_picks : (b : Bool) (d : ℕ) (path : List ℕ) (subtrees : Nodes States) → d ≡ length path
      → Covers merged_rows rows path subtrees → ArePicks (picks_of merged_rows t k b d path subtrees)
  children_picks b d path none at h = tt
  children_picks b d path (node id docs subtrees rest) at h =
      let p = path ++ (id ∷ []) in
      let next : suc d ≡ length p = ap suc at ∙ sym (length_more path id) in
      let below = picks_of merged_rows t k (has_star subtrees) (suc d) p subtrees in
      let here = here_picks (suc d) p docs subtrees below next h.0 h.1
      (children_picks (has_star subtrees) (suc d) p subtrees next h.1) in
      both (cond (is_selected t b d id) (picks_here merged_rows t k (suc d) p docs subtrees below) [])
      (picks_of merged_rows t k b d path rest)
      (elim (is_selected t b d id) as
      (λ c. ArePicks (cond c (picks_here merged_rows t k (suc d) p docs subtrees below) []))
      [ true ↦ here | false ↦ tt ])
      (children_picks b d path rest at h.2)

  pub tree_are : (tree : Nodes States) → CoversTree merged_rows rows tree
      → ArePicks (picks merged_rows t k tree)
  tree_are none h = tt
  tree_are (node id docs subtrees rest) h =
      here_picks 0 [] docs subtrees (picks_of merged_rows t k (has_star subtrees) 0 [] subtrees) refl h.0 h.1
      (children_picks (has_star subtrees) 0 [] subtrees refl h.1)

  module _ (ids : HaveIds k rows) where
    -- a pick covers just the rows of its path
    covers_path : (p : NestedPick) → IsPick p → (x : List ℕ) → Among x rows
        → covers x (bare p) ≡ agrees p.path x
    covers_path p h x among = stand_any merged_rows rows k p.path p.docs ids h.stand x among

    pub paths_covered : (ps : List NestedPick) → ArePicks ps
        → All (λ p. All (λ row. covers row.0 (bare p) ≡ agrees p.path row.0) rows) ps
    paths_covered [] h i d lt = absurd (omega arith)
    paths_covered (p ∷ ps) h zero d lt =
        λ j e lt. covers_path p h.0 (get_or rows j e).0 (among_at rows j e lt)
    paths_covered (p ∷ ps) h (suc i) d lt = paths_covered ps h.1 i d (omega arith)

    -- so many picks do
    times_is : (g : ℕ → Bool) (c : ℕ × List Doc → Bool) (x : List ℕ)
        → ((p : NestedPick) → IsPick p → c (bare p) ≡ (agrees p.path x && g p.level))
        → (ps : List NestedPick) → ArePicks ps → count_by c (map bare ps) ≡ times g x ps
    times_is g c x same [] h = refl
    times_is g c x same (p ∷ ps) h =
        sum_by-cons (λ q. cond (c q) 1 0) (bare p) (map bare ps)
        ∙ (λ i. cond (same p h.0 i) 1 0 + times_is g c x same ps h.1 i)

    and_true : (a : Bool) → a ≡ (a && true)
    and_true true = refl
    and_true false = refl

    row_covered : (ps : List NestedPick) → ArePicks ps → (x : List ℕ) → Among x rows
        → IsPartedBy t k ps x → IsCovered t k (map bare ps) x
    row_covered ps h x among is =
        let a = times_is (λ _. true) (covers x) x
        (λ p own. covers_path p own x among ∙ and_true (agrees p.path x)) ps h in
        let b = times_is (λ level. holds_from t (k - level) level x) (counts t k x) x
        (λ p own. ap (λ c. c && holds_from t (k - p.level) p.level x)
        (covers_path p own x among)) ps h in
        subst (λ n. MatchBool (holds_from t k 0 x)
        ((count_by (covers x) (map bare ps) ≡ 1) × (n ≡ 1))
        ((count_by (covers x) (map bare ps) ≤ 1) × (n ≡ 0))) (sym b)
        (subst (λ n. MatchBool (holds_from t k 0 x)
        ((n ≡ 1) × (nested.times_counted t k x ps ≡ 1))
        ((n ≤ 1) × (nested.times_counted t k x ps ≡ 0))) (sym a) is)

    parted_at : (ps : List NestedPick) (some : List Doc) → ArePartedBy t k ps some → (i : ℕ)
        (d : Doc) → i < length some → IsPartedBy t k ps (get_or some i d).0
    parted_at ps [] h i d lt = absurd (omega arith)
    parted_at ps (e ∷ es) h zero d lt = h.0
    parted_at ps (e ∷ es) h (suc i) d lt = parted_at ps es h.1 i d (omega arith)

    pub rows_covered : (ps : List NestedPick) → ArePicks ps → ArePartedBy t k ps rows
        → AreCovered t k (map bare ps) rows
    rows_covered ps h parted i d lt =
        row_covered ps h (get_or rows i d).0 (among_at rows i d lt)
        (parted_at ps rows parted i d lt)

  -- the documents of a pick have an id on each grouped dimension
  has_id : (p : NestedPick) → IsPick p
      → ((d : ℕ) → d < k → t.grouped d ≡ true → d < p.level → dim d p.path ≢ star)
      → (q : List ℕ) → Among q p.docs → (d : ℕ) → d < k → t.grouped d ≡ true → dim d q ≢ star
  has_id p h own q among d lt g =
      elim (nat_lt d p.level) as (λ b. nat_lt d p.level ≡ b → dim d q ≡ star → ⊥) [
        | true ↦ λ e. stand_own merged_rows rows k p.path p.docs no_star h.stand q among d lt
            (own d lt g (grind (arith, nat_tests, e)))
        | false ↦ λ e. h.after q among d (grind (arith, nat_tests, e)) lt
      ] refl

  values_in : (p : NestedPick) → IsPick p
      → ((d : ℕ) → d < k → t.grouped d ≡ true → d < p.level → dim d p.path ≢ star)
      → HaveValues t k rows p.docs
  values_in p h own i e lt j row some on d below g =
      let q = (get_or p.docs i e).0 in
      same_dim q (get_or rows j row).0 d on (has_id p h own q (among_at p.docs i e lt) d below g)

  pub have_values : (ps : List NestedPick) → ArePicks ps → KeepGroups t k ps
      → All (λ p. HaveValues t k rows p.1) (map bare ps)
  have_values [] h g i d lt = absurd (omega arith)
  have_values (p ∷ ps) h g zero d lt = values_in p h.0 g.0
  have_values (p ∷ ps) h g (suc i) d lt = have_values ps h.1 g.1 i d (omega arith)

  -- each document of a pick stands for a row
  abbrev pub HaveRows : List (ℕ × List Doc) → Type 0
  HaveRows [] = Unit {0}
  HaveRows (p ∷ ps) = ((q : List ℕ) → Among q p.1 → (x : List ℕ) × Among x rows × (agrees q x ≡ true))
      × HaveRows ps

  pub have_rows : (ps : List NestedPick) → ArePicks ps → HaveRows (map bare ps)
  have_rows [] h = tt
  have_rows (p ∷ ps) h = (
    λ q among. let of = h.0.stand.of_row q among in (of.row, of.among, of.own),
    have_rows ps h.1,
  )

  -- so no document is in two picks, where no row is covered by two
  module _ (docs : List Doc) (at : ℕ) where
    abbrev its : List ℕ
    its = (get_or docs at ([], [])).0

    in_pick : (p : Pick) → p.end ≤ length docs → has_number at p ≡ true
        → Among its (range p.start p.end docs)
    in_pick p le h =
        let lo : p.start ≤ at = grind (arith, nat_tests, h) in
        let hi : at < p.end = grind (arith, nat_tests, h) in
        let n = length_range p.start p.end docs le in
        let back : p.start + (at - p.start) ≡ at = omega arith in
        let blank : Doc = ([], []) in
        subst (λ e. Among e.0 (range p.start p.end docs))
        (get_or-take (p.end - p.start) (drop p.start docs) (at - p.start) blank (omega arith)
        ∙ get_or-drop p.start docs (at - p.start) blank ∙ ap (λ i. get_or docs i blank) back)
        (among_at (range p.start p.end docs) (at - p.start) blank (omega (arith, n)))

    picked_covers : (x : List ℕ) → agrees its x ≡ true → (ps : List Pick)
        → AreWithin (length docs) k ps
        → count_by (has_number at) ps ≤ count_by (covers x) (map (shown docs) ps)
    picked_covers x on [] h = omega arith
    picked_covers x on (p ∷ ps) h =
        let more = picked_covers x on ps h.3 in
        let a = sum_by-cons (λ q. cond (has_number at q) 1 0) p ps in
        let b = sum_by-cons (λ q. cond (covers x q) 1 0) (shown docs p) (map (shown docs) ps) in
        let one = as_many (has_number at p) (covers x (shown docs p))
        (λ e. any_of (λ q. agrees q x) (range p.start p.end docs) its (in_pick p h.1 e) on) in
        omega (arith, more, a, b, one)
      where
        as_many : (a b : Bool) → (a ≡ true → b ≡ true) → cond a 1 0 ≤ cond b 1 0
        as_many true b f = subst (λ c. 1 ≤ cond c 1 0) (sym (f refl)) (omega arith)
        as_many false true f = omega arith
        as_many false false f = omega arith

    its_row : (ps : List Pick) → AreWithin (length docs) k ps → HaveRows (map (shown docs) ps)
        → (count_by (has_number at) ps ≡ 0) ⊎ ((x : List ℕ) × Among x rows × (agrees its x ≡ true))
    its_row [] h g = inl refl
    its_row (p ∷ ps) h g =
        elim (has_number at p) as
        (λ b. has_number at p ≡ b → (count_by (has_number at) (p ∷ ps) ≡ 0)
        ⊎ ((x : List ℕ) × Among x rows × (agrees its x ≡ true))) [
          | true ↦ λ e. inr (g.0 its (in_pick p h.1 e))
          | false ↦ λ e. elim (its_row ps h.3 g.1) [
            | inl zeros ↦ inl (sum_by-cons (λ q. cond (has_number at q) 1 0) p ps
                ∙ (λ i. cond (e i) 1 0 + zeros i))
            | inr row ↦ inr row
          ]
        ] refl

    at_most : (b : Bool) (n m : ℕ) → MatchBool b ((n ≡ 1) × (m ≡ 1)) ((n ≤ 1) × (m ≡ 0)) → n ≤ 1
    at_most true n m h = omega (arith, h.0)
    at_most false n m h = h.0

    of_among : (ps : List (ℕ × List Doc)) (some : List Doc) → AreCovered t k ps some
        → (x : List ℕ) → Among x some → IsCovered t k ps x
    of_among ps [] h x among = absurd among
    of_among ps (e ∷ es) h x among =
        elim among [
          | inl is ↦ subst (IsCovered t k ps) is (h 0 e (omega arith))
          | inr more ↦ of_among ps es (λ i d lt. h (suc i) d (omega arith)) x more
        ]

    pub picked_once : (ps : List Pick) → AreWithin (length docs) k ps
        → HaveRows (map (shown docs) ps) → AreCovered t k (map (shown docs) ps) rows
        → count_by (has_number at) ps ≤ 1
    picked_once ps h g covered =
        elim (its_row ps h g) [
          | inl zeros ↦ omega (arith, zeros)
          | inr row ↦
              let all = map (shown docs) ps in
              let few = picked_covers row.0 row.2 ps h in
              let one = at_most (holds_from t k 0 row.0) (count_by (covers row.0) all)
              (count_by (counts t k row.0) all) (of_among all rows covered row.0 row.1) in
              omega (arith, few, one)
        ]
