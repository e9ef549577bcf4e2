-- The ids and the documents of children, where the documents rise by the dimension.
use Rattle.std.proofs.Common.{◌≡◌, ◌≢◌, ℕ, zero, suc, ◌<◌, ◌≤◌, ◌==◌, true, false, cond, inl, inr}
use Rattle.std.proofs.Common.{List, [], ◌∷◌, ◌++◌, length, length-drop, map, take, drop, refl, sym}
use Rattle.std.proofs.Common.{ap, subst, ◌∙◌, arith}
use Rattle.std.specs.declared.cmp.Ordering.TheVariants.{Less, Equal, Greater}
use Rattle.std.specs.Ordering.{nat_cmp}
use Rattle.std.specs.FinMap.Entries.{by_order}
use Rattle.std.proofs.lemmas.Bool.{ne_eqb, eq-eqb, cases_eq}
use Rattle.std.proofs.lemmas.Bool.Decides.{nat_tests}
use Rattle.agg_laws.specs.Merged.{rekey, add, Merged}
use Rattle.agg_laws.specs.Tree.{dim, ids_at, docs_with}
use Rattle.state_columns.proofs.ListLemmas.{less_is}

-- no id of a dimension is below v
abbrev pub AtLeast : {S : Type 0} → ℕ → ℕ → List (List ℕ × S) → Type 0
AtLeast d v [] = Unit {0}
AtLeast d v (e ∷ es) = (v ≤ dim d e.0) × AtLeast d v es

-- the ids of a dimension do not fall
abbrev pub Rising : {S : Type 0} → ℕ → List (List ℕ × S) → Type 0
Rising d [] = Unit {0}
Rising d (e ∷ es) = AtLeast d (dim d e.0) es × Rising d es

pub equal_is : (v w : ℕ) → v ≡ w → nat_cmp v w ≡ Equal
equal_is v w h = grind (arith, nat_tests)

pub greater_is : (v w : ℕ) → w < v → nat_cmp v w ≡ Greater
greater_is v w h = grind (arith, nat_tests)

-- an id among ascending ids
abbrev pub add_id : ℕ → List ℕ → List ℕ
add_id v [] = v ∷ []
add_id v (w ∷ ws) = by_order (nat_cmp v w) (v ∷ w ∷ ws) (w ∷ ws) (w ∷ add_id v ws)

-- no id below v
abbrev pub NoneBelow : ℕ → List ℕ → Type 0
NoneBelow v [] = Unit {0}
NoneBelow v (w ∷ ws) = (v ≤ w) × NoneBelow v ws

module _ {S : Type 0} where
  -- the first n have the id v, and the next one has not
  abbrev pub RunOf : ℕ → ℕ → ℕ → List (List ℕ × S) → Type 0
  RunOf d v zero [] = Unit {0}
  RunOf d v zero (e ∷ es) = dim d e.0 ≢ v
  RunOf d v (suc n) [] = ⊥
  RunOf d v (suc n) (e ∷ es) = (dim d e.0 ≡ v) × RunOf d v n es

  module _ (join : S → S → S) where
    keys-add : (v : ℕ) (s : S) (es : List (ℕ × S)) → map (λ e. e.0) (add nat_cmp join v s es)
        ≡ add_id v (map (λ e. e.0) es)
    keys-add v s [] = refl
    keys-add v s (e ∷ es) =
        elim (nat_cmp v e.0) as
        (λ r. map (λ e. e.0)
        (by_order r ((v, s) ∷ e ∷ es) ((e.0, join s e.1) ∷ es) (e ∷ add nat_cmp join v s es))
        ≡ by_order r (v ∷ e.0 ∷ map (λ e. e.0) es) (e.0 ∷ map (λ e. e.0) es)
        (e.0 ∷ add_id v (map (λ e. e.0) es))) [
          | Less ↦ refl
          | Equal ↦ refl
          | Greater ↦ ap (λ t. e.0 ∷ t) (keys-add v s es)
        ]

    ids_cons : (d : ℕ) (e : List ℕ × S) (es : List (List ℕ × S)) → ids_at join d (e ∷ es)
        ≡ add_id (dim d e.0) (ids_at join d es)
    ids_cons d e es = keys-add (dim d e.0) e.1 (Merged nat_cmp join (rekey (dim d) es))

    none_below_add : (v u : ℕ) (ws : List ℕ) → v ≤ u → NoneBelow v ws → NoneBelow v (add_id u ws)
    none_below_add v u [] h k = (h, tt)
    none_below_add v u (w ∷ ws) h k =
        elim (nat_cmp u w) as
        (λ r. NoneBelow v (by_order r (u ∷ w ∷ ws) (w ∷ ws) (w ∷ add_id u ws))) [
          | Less ↦
              (h, k)
          | Equal ↦ k
          | Greater ↦ (k.0, none_below_add v u ws h k.1)
        ]

    pub none_below : (d v : ℕ) (es : List (List ℕ × S)) → AtLeast d v es
        → NoneBelow v (ids_at join d es)
    none_below d v [] h = tt
    none_below d v (e ∷ es) h =
        subst (NoneBelow v) (sym (ids_cons d e es))
        (none_below_add v (dim d e.0) (ids_at join d es) h.0 (none_below d v es h.1))

    add_first : (v : ℕ) (ws : List ℕ) → NoneBelow (suc v) ws → add_id v ws ≡ v ∷ ws
    add_first v [] h = refl
    add_first v (w ∷ ws) h =
        ap (λ r. by_order r (v ∷ w ∷ ws) (w ∷ ws) (w ∷ add_id v ws)) (less_is v w h.0)

    add_again : (v : ℕ) (ws : List ℕ) → add_id v (v ∷ ws) ≡ v ∷ ws
    add_again v ws = ap (λ r. by_order r (v ∷ v ∷ ws) (v ∷ ws) (v ∷ add_id v ws))
        (equal_is v v refl)

    at_least_more : (d v w : ℕ) (es : List (List ℕ × S)) → v ≤ w → AtLeast d w es → AtLeast d v es
    at_least_more d v w [] h k = tt
    at_least_more d v w (e ∷ es) h k = (omega (arith, h, k.0), at_least_more d v w es h k.1)

    -- after a run the documents have greater ids
    pub after_run : (d v n : ℕ) (es : List (List ℕ × S)) → AtLeast d v es → Rising d es
        → RunOf d v n es → AtLeast d (suc v) (drop n es)
    after_run d v zero [] least up run = tt
    after_run d v zero (e ∷ es) least up run = (
      omega (arith, least.0, run),
      at_least_more d (suc v) (dim d e.0) es
          (omega (arith, least.0, run)) up.0,
    )
    after_run d v (suc n) [] least up run = absurd run
    after_run d v (suc n) (e ∷ es) least up run = after_run d v n es least.1 up.1 run.1

    pub run_ids : (d v n : ℕ) (e : List ℕ × S) (es : List (List ℕ × S)) → dim d e.0 ≡ v
        → AtLeast d v es → Rising d es → RunOf d v n es → ids_at join d (e ∷ es) ≡ v
        ∷ ids_at join d (drop n es)
    run_ids d v zero e es is least up run = ids_cons d e es
        ∙ ap (λ u. add_id u (ids_at join d es)) is
        ∙ add_first v (ids_at join d es)
        (none_below d (suc v) es (after_run d v zero es least up run))
    run_ids d v (suc n) e [] is least up run = absurd run
    run_ids d v (suc n) e (f ∷ fs) is least up run =
        ids_cons d e (f ∷ fs) ∙ (λ i. add_id (is i) (run_ids d v n f fs run.0 least.1 up.1 run.1 i))
        ∙ add_again v (ids_at join d (drop n fs))

  more_at_least : (d v w : ℕ) (es : List (List ℕ × S)) → v ≤ w → AtLeast d w es → AtLeast d v es
  more_at_least d v w [] h k = tt
  more_at_least d v w (e ∷ es) h k = (omega (arith, h, k.0), more_at_least d v w es h k.1)

  after_start : (d v : ℕ) (es : List (List ℕ × S)) → AtLeast d v es → Rising d es
      → RunOf d v zero es → AtLeast d (suc v) es
  after_start d v [] least up run = tt
  after_start d v (e ∷ es) least up run = (
    omega (arith, least.0, run),
    more_at_least d (suc v) (dim d e.0) es
        (omega (arith, least.0, run)) up.0,
  )

  pub passing : (d v : ℕ) (e : List ℕ × S) (es : List (List ℕ × S)) → dim d e.0 ≡ v
      → docs_with d v (e ∷ es) ≡ e ∷ docs_with d v es
  passing d v e es h = ap (λ b. cond b (e ∷ docs_with d v es) (docs_with d v es))
      (eq-eqb (dim d e.0) v h)

  failing : (d v : ℕ) (e : List ℕ × S) (es : List (List ℕ × S)) → dim d e.0 ≢ v
      → docs_with d v (e ∷ es) ≡ docs_with d v es
  failing d v e es h = ap (λ b. cond b (e ∷ docs_with d v es) (docs_with d v es))
      (ne_eqb (dim d e.0) v h)

  pub none_with : (d v : ℕ) (es : List (List ℕ × S)) → AtLeast d (suc v) es → docs_with d v es ≡ []
  none_with d v [] h = refl
  none_with d v (e ∷ es) h = failing d v e es (λ k. omega (arith, h.0, k)) ∙ none_with d v es h.1

  pub run_docs : (d v n : ℕ) (es : List (List ℕ × S)) → AtLeast d v es → Rising d es
      → RunOf d v n es → docs_with d v es ≡ take n es
  run_docs d v zero es least up run = none_with d v es (after_start d v es least up run)
  run_docs d v (suc n) [] least up run = absurd run
  run_docs d v (suc n) (e ∷ es) least up run = passing d v e es run.0
      ∙ ap (λ t. e ∷ t) (run_docs d v n es least.1 up.1 run.1)

  pub other_docs : (d v u n : ℕ) (es : List (List ℕ × S)) → u ≢ v → RunOf d v n es
      → docs_with d u es ≡ docs_with d u (drop n es)
  other_docs d v u zero es ne run = refl
  other_docs d v u (suc n) [] ne run = absurd run
  other_docs d v u (suc n) (e ∷ es) ne run = failing d u e es (λ k. ne (sym k ∙ run.0))
      ∙ other_docs d v u n es ne run.1

module _ {S : Type 0} (join : S → S → S) where
  -- the documents of some ids, one id after the other
  abbrev pub joined : ℕ → List (List ℕ × S) → List ℕ → List (List ℕ × S)
  joined d docs [] = []
  joined d docs (v ∷ vs) = docs_with d v docs ++ joined d docs vs

  pub find_run : (d v : ℕ) (es : List (List ℕ × S)) → (n : ℕ) × RunOf d v n es
  find_run d v [] = (0, tt)
  find_run d v (e ∷ es) = elim (cases_eq (dim d e.0) v) as (λ _. (n : ℕ) × RunOf d v n (e ∷ es)) [
    | inl is ↦ let more = find_run d v es in (suc more.0, (is, more.1))
    | inr ne ↦ (0, ne)
  ]

  joined_after : (d v n : ℕ) (es : List (List ℕ × S)) → RunOf d v n es → (vs : List ℕ)
      → NoneBelow (suc v) vs → joined d es vs ≡ joined d (drop n es) vs
  joined_after d v n es run [] h = refl
  joined_after d v n es run (u ∷ us) h =
      λ i. other_docs d v u n es (λ k. omega (arith, h.0, k)) run i
      ++ joined_after d v n es run us h.1 i

  rising_after : (d n : ℕ) (es : List (List ℕ × S)) → Rising d es → Rising d (drop n es)
  rising_after d zero es h = h
  rising_after d (suc n) [] h = tt
  rising_after d (suc n) (e ∷ es) h = rising_after d n es h.1

  taken : {X : Type 0} (n : ℕ) (xs : List X) → take n xs ++ drop n xs ≡ xs
  taken zero xs = refl
  taken (suc n) [] = refl
  taken (suc n) (x ∷ xs) = ap (λ t. x ∷ t) (taken n xs)

  -- the documents of all ids are all documents
  pub joined_all : (fuel d : ℕ) (docs : List (List ℕ × S)) → length docs ≤ fuel → Rising d docs
      → joined d docs (ids_at join d docs) ≡ docs
  joined_all fuel d [] le up = refl
  joined_all zero d (e ∷ es) le up = absurd (omega arith)
  joined_all (suc fuel) d (e ∷ es) le up =
      let v = dim d e.0 in
      let found = find_run d v es in
      let n = found.0 in
      let rest = joined_all fuel d (drop n es) (omega (arith, length-drop n es))
      (rising_after d n es up.1) in
      ap (joined d (e ∷ es)) (run_ids join d v n e es refl up.0 up.1 found.1)
      ∙ (λ i. passing d v e es refl i
      ++ joined_after d v (suc n) (e ∷ es) (refl, found.1) (ids_at join d (drop n es))
      (none_below join d (suc v) (drop n es) (after_run join d v n es up.0 up.1 found.1)) i)
      ∙ (λ i. e ∷ (run_docs d v n es up.0 up.1 found.1 i ++ rest i))
      ∙ ap (λ t. e ∷ t) (taken n es)

  -- each id has documents
  abbrev pub Filled : ℕ → List (List ℕ × S) → List ℕ → Type 0
  Filled d docs [] = Unit {0}
  Filled d docs (v ∷ vs) = (0 < length (docs_with d v docs)) × Filled d docs vs

  more_docs : (d v : ℕ) (e : List ℕ × S) (es : List (List ℕ × S)) → 0 < length (docs_with d v es)
      → 0 < length (docs_with d v (e ∷ es))
  more_docs d v e es h =
      elim (dim d e.0 == v) as
      (λ b. 0 < length (cond b (e ∷ docs_with d v es)
      (docs_with d v es))) [ true ↦ omega arith | false ↦ h ]

  more_filled : (d : ℕ) (e : List ℕ × S) (es : List (List ℕ × S)) (vs : List ℕ) → Filled d es vs
      → Filled d (e ∷ es) vs
  more_filled d e es [] h = tt
  more_filled d e es (v ∷ vs) h = (more_docs d v e es h.0, more_filled d e es vs h.1)

  own_filled : (d : ℕ) (e : List ℕ × S) (es : List (List ℕ × S))
      → 0 < length (docs_with d (dim d e.0) (e ∷ es))
  own_filled d e es = subst (λ l. 0 < length l) (sym (passing d (dim d e.0) e es refl))
      (omega arith)

  add_filled : (d : ℕ) (e : List ℕ × S) (es : List (List ℕ × S)) (vs : List ℕ) → Filled d es vs
      → Filled d (e ∷ es) (add_id (dim d e.0) vs)
  add_filled d e es [] h = (own_filled d e es, tt)
  add_filled d e es (w ∷ ws) h =
      elim (nat_cmp (dim d e.0) w) as
      (λ r. Filled d (e ∷ es)
      (by_order r (dim d e.0 ∷ w ∷ ws) (w ∷ ws) (w ∷ add_id (dim d e.0) ws))) [
        | Less ↦ (own_filled d e es, more_filled d e es (w ∷ ws) h)
        | Equal ↦ more_filled d e es (w ∷ ws) h
        | Greater ↦ (more_docs d w e es h.0, add_filled d e es ws h.1)
      ]

  pub all_filled : (d : ℕ) (docs : List (List ℕ × S)) → Filled d docs (ids_at join d docs)
  all_filled d [] = tt
  all_filled d (e ∷ es) =
      subst (Filled d (e ∷ es)) (sym (ids_cons join d e es))
      (add_filled d e es (ids_at join d es) (all_filled d es))
