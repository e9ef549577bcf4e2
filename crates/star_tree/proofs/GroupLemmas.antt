-- The documents of a pick have an id of their own on each grouped dimension, and the picks part the
-- rows.
use Rattle.std.proofs.Common.{◌≡◌, ◌≢◌, ℕ, zero, suc, ◌+◌, ◌-◌, ◌<◌, ◌≤◌, Bool, true, false, cond}
use Rattle.std.proofs.Common.{◌&&◌, ◌==◌, not, nat_lt, List, [], ◌∷◌, ◌++◌, length, refl, sym, ap}
use Rattle.std.proofs.Common.{subst, ◌∙◌, arith, append_assoc}
use Rattle.std.proofs.lemmas.Bool.{eq-eqb, eqb-true}
use Rattle.std.proofs.lemmas.Bool.Decides.{nat_tests}
use Rattle.std.proofs.lemmas.List.{get_or_append_left, get_or_at}
use Rattle.agg_laws.specs.declared.tree_shape.TreeShape.{TreeShape}
use Rattle.agg_laws.specs.Merged.{IsJoin}
use Rattle.agg_laws.specs.Tree.{star, dim, Nodes, none, node, has_star, HaveNoStar, tree_of}
use Rattle.state_columns.specs.Documents.{total_doc}
use Rattle.star_tree.specs.Picks.{Task, Pick, are_unconstrained, is_selected, picks_here, picks_of, picks}
use Rattle.star_tree.specs.Picks.{KeepGroups, ArePartedBy}
use Rattle.star_tree.proofs.TreeLemmas.{length_more}
use Rattle.star_tree.proofs.PickLemmas.{tree_parted}

parts : (f g q : Bool) → (not f && not g && q) ≡ true → (g ≡ true → ⊥) × (q ≡ true)
parts true g q h = cc
parts false true q h = cc
parts false false q h = ((λ e. let no : false ≡ true = e in cc), h)

-- the star is no child of a grouped dimension
not_taken : (f g p r : Bool) → g ≡ true → cond f (false && p) (cond g false r) ≡ true → ⊥
not_taken true g p r e h = cc
not_taken false true p r e h = cc
not_taken false false p r e h = cc

same_or_above : (d i : ℕ) → d ≤ i → (i == d) ≡ false → suc d ≤ i
same_or_above d i h e = grind (arith, nat_tests)

below_or : (d i : ℕ) → nat_lt i d ≡ true → i < d
below_or d i h = grind (arith, nat_tests)

not_below : (d i : ℕ) → nat_lt i d ≡ false → d ≤ i
not_below d i h = grind (arith, nat_tests)

module _ (t : Task) (k : ℕ) where
  -- the path has an id of its own on each grouped dimension below d
  abbrev Own : ℕ → List ℕ → Type 0
  Own d path = (i : ℕ) → i < d → t.grouped i ≡ true → dim i path ≢ star

  -- where no dimension is grouped any more
  quiet_at : (more d i : ℕ) → are_unconstrained t more d ≡ true → d ≤ i → i < d + more → t.grouped i ≡ true → ⊥
  quiet_at zero d i q lo hi g = absurd (omega arith)
  quiet_at (suc more) d i q lo hi g =
      let both = parts (t.filtered d) (t.grouped d) (are_unconstrained t more (suc d)) q in
      elim (i == d) as (λ b. (i == d) ≡ b → ⊥) [
        | true ↦ λ e. both.0 (ap t.grouped (sym (eqb-true i d e)) ∙ g)
        | false ↦ λ e. quiet_at more (suc d) i both.1 (same_or_above d i lo e) (omega arith) g
      ] refl

  groups-append : {S : Type 0} (ps qs : List (Pick S)) → KeepGroups t k ps → KeepGroups t k qs
      → KeepGroups t k (ps ++ qs)
  groups-append [] qs p q = q
  groups-append (p ∷ ps) qs h q = (h.0, groups-append ps qs h.1 q)

  one_kept : {S : Type 0} (d : ℕ) (path : List ℕ) (docs : List (List ℕ × S)) → Own d path
      → are_unconstrained t (k - d) d ≡ true
      → KeepGroups t k (record { path = path; level = k; docs = docs } ∷ [])
  one_kept d path docs own q = (
    (λ i below g _. elim (nat_lt i d) as (λ b. nat_lt i d ≡ b → dim i path ≡ star → ⊥) [
      | true ↦ λ e. own i (below_or d i e) g
      | false ↦ λ e _. quiet_at (k - d) d i q (not_below d i e) (omega arith) g
    ] refl),
    tt,
  )

  module _ {S : Type 0} (join : S → S → S) where
    here_kept : (d : ℕ) (path : List ℕ) (docs : List (List ℕ × S)) (subtrees : Nodes S)
        (below : List (Pick S)) → Own d path → KeepGroups t k below
        → KeepGroups t k (picks_here join t k d path docs subtrees below)
    here_kept d path docs none below own h =
        let whole = total_doc join d docs none in
        elim (are_unconstrained t (k - d) d) as
        (λ b. are_unconstrained t (k - d) d ≡ b
        → KeepGroups t k (cond b (record { path = path; level = k; docs = whole } ∷ [])
        (record { path = path; level = d; docs = docs } ∷ []))) [
          | true ↦ λ q. one_kept d path whole own q
          | false ↦ λ q. ((λ i _ g at. own i at g), tt)
        ] refl
    here_kept d path docs (node id own_docs subtrees rest) below own h =
        let whole = total_doc join d docs (node id own_docs subtrees rest) in
        elim (are_unconstrained t (k - d) d) as
        (λ b. are_unconstrained t (k - d) d ≡ b
        → KeepGroups t k (cond b
        (record { path = path; level = k; docs = whole } ∷ []) below)) [
          | true ↦ λ q. one_kept d path whole own q
          | false ↦ λ q. h
        ] refl

  -- a child that is taken has an id of its own, where the dimension is grouped
  own_more : (d : ℕ) (path : List ℕ) (b : Bool) (id : ℕ) → d ≡ length path → is_selected t b d id
      ≡ true → Own d path → Own (suc d) (path ++ (id ∷ []))
  own_more d path b id at taken own i lt g =
      elim (nat_lt i d) as (λ b. nat_lt i d ≡ b → dim i (path ++ (id ∷ [])) ≡ star → ⊥) [
        | true ↦ λ e is. own i (below_or d i e) g
            (sym (get_or_append_left path (id ∷ []) star i (omega (arith, below_or d i e))) ∙ is)
        | false ↦ λ e is.
            let same : i ≡ d = let le = not_below d i e in omega arith in
            let here : id ≡ star = sym (get_or_at path id [] star i (sym (same ∙ at))) ∙ is in
            not_taken (t.filtered d) (t.grouped d) (t.passes d id) (cond b true true)
            (ap t.grouped (sym same) ∙ g)
            (ap (λ x. cond (t.filtered d) (not x && t.passes d id)
            (cond (t.grouped d) (not x) (cond b x true))) (sym (eq-eqb id star here)) ∙ taken)
      ] refl

  module _ {S : Type 0} (join : S → S → S) where
    children_kept : (b : Bool) (d : ℕ) (path : List ℕ) (subtrees : Nodes S) → d ≡ length path → Own d path
        → KeepGroups t k (picks_of join t k b d path subtrees)
    children_kept b d path none at own = tt
    children_kept b d path (node id docs subtrees rest) at own =
        let next = path ++ (id ∷ []) in
        let more = children_kept (has_star subtrees) (suc d) next subtrees
        (ap suc at ∙ sym (length_more path id)) in
        let here = picks_here join t k (suc d) next docs subtrees
        (picks_of join t k (has_star subtrees) (suc d) next subtrees) in
        groups-append (cond (is_selected t b d id) here []) (picks_of join t k b d path rest)
        (elim (is_selected t b d id) as
        (λ c. is_selected t b d id ≡ c → KeepGroups t k (cond c here [])) [
          | true ↦ λ e. let own' = own_more d path b id at e own
              in here_kept join (suc d) next docs subtrees
              (picks_of join t k (has_star subtrees) (suc d) next subtrees) own' (more own')
          | false ↦ λ _. tt
        ] refl)
        (children_kept b d path rest at own)

    -- on each grouped dimension the picks of a tree have ids of their own
    pub groups_kept : (tree : Nodes S) → KeepGroups t k (picks join t k tree)
    groups_kept none = tt
    groups_kept (node id docs subtrees rest) =
        let root : Own 0 [] = λ i lt g at. omega arith in
        here_kept join 0 [] docs subtrees (picks_of join t k (has_star subtrees) 0 [] subtrees) root
        (children_kept (has_star subtrees) 0 [] subtrees refl root)

-- each row of a tree is parted by its picks
module _ {S : Type 0} (join : S → S → S) (j : IsJoin join) (t : Task) (k : ℕ)
    (shape : TreeShape) where
  all_parted : (before after : List (List ℕ × S)) → HaveNoStar k (before ++ after)
      → ArePartedBy t k (picks join t k (tree_of join shape k (before ++ after))) after
  all_parted before [] h = tt
  all_parted before (e ∷ es) h =
      let same = append_assoc before (e ∷ []) es in (
        tree_parted join j t k shape before es e h,
        subst (λ rows. ArePartedBy t k (picks join t k (tree_of join shape k rows)) es) same
            (all_parted (before ++ (e ∷ [])) es (subst (HaveNoStar k) (sym same) h)),
      )

  pub rows_parted : (rows : List (List ℕ × S)) → HaveNoStar k rows
      → ArePartedBy t k (picks join t k (tree_of join shape k rows)) rows
  rows_parted rows h = all_parted [] rows h
