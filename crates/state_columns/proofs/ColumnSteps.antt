-- A column of one kind, whose states are kept as that kind needs.
use Rattle.std.proofs.Common.{◌≡◌, ℕ, ℤ, ◌<◌, List, [], ◌∷◌, map, length, drop, get_or, set, sym, ap}
use Rattle.std.proofs.Common.{◌∙◌, subst, arith}
use Rattle.std.proofs.lemmas.List.{map-set, get_or-map, length-map, drop-map}
use Rattle.agg_laws.specs.declared.aggregate_kind.AggKind.{AggKind}
use Rattle.agg_laws.specs.declared.states.AggState.{AggState}
use Rattle.agg_laws.specs.States.{unit_of, state_of, merged, Fits}
use Rattle.state_columns.specs.Columns.{Column, state_at, replaced, column_tail, all_added, with_values}
use Rattle.state_columns.proofs.AddedSteps.{added-map}

module _ {X : Type 0} (f : X → AggState) (k : AggKind) where
  abbrev pub kept : List X → ℕ → Column
  kept xs n = record { kind = k; states = map f xs; spare = n }

  module _ (xs : List X) (n : ℕ) (col : Column) (is : kept xs n ≡ col) where
    pub there : (i : ℕ) → i < length col.states → i < length xs
    there i lt = let e = ap (λ (c : Column). length c.states) is in let l = length-map xs f
        in omega (arith, lt, e, l)

    pub item_is : (i : ℕ) (d : X) → i < length col.states
        → state_at (kept xs n) i ≡ f (get_or xs i d)
    item_is i d lt = get_or-map f xs i d (unit_of k) (there i lt)

    -- another state in a place, made of the column
    pub put_back : (i : ℕ) (ys : List X) (w : X) → ys ≡ set xs i w → (made : Column → AggState)
        → made (kept xs n) ≡ f w → kept ys n ≡ replaced i col (made col)
    put_back i ys w are made h =
        (λ j. record {
          kind = k;
          states = (ap (map f) are ∙ map-set f xs i w ∙ ap (set (map f xs) i) (sym h)) j;
          spare = n;
        })
        ∙ ap (λ c. replaced i c (made c)) is

    pub tail_is : (from : ℕ) (ys : List X) → ys ≡ drop from xs → kept ys 0 ≡ column_tail from col
    tail_is from ys h =
        (λ j. record {
          kind = k;
          states = (ap (map f) h ∙ sym (drop-map f from xs)) j;
          spare = 0;
        })
        ∙ ap (column_tail from) is

    -- each state fits so many values
    pub fits_in : (d : X) (m : ℕ) → ((i : ℕ) → i < length col.states → Fits (state_at col i) m)
        → (i : ℕ) → i < length xs → Fits (f (get_or xs i d)) m
    fits_in d m h i lt =
        let e = ap (λ (c : Column). length c.states) is in
        let l = length-map xs f in
        let in_column : i < length col.states = omega (arith, lt, e, l) in
        subst (λ s. Fits s m) (item_is i d in_column)
        (subst (λ (c : Column). Fits (state_at c i) m) (sym is) (h i in_column))

    -- with values added to the states in their places
    pub added_back : (d : X) (add : X → ℤ → X)
        → ((x : X) (v : ℤ) → f (add x v) ≡ merged (f x) (state_of k (v ∷ []))) → f d ≡ unit_of k
        → (places : List ℕ) (values : List ℤ) (ys : List X) → ys ≡ all_added add d places values xs
        → kept ys n ≡ with_values places values col
    added_back d add same unit places values ys are =
        (λ j. record {
          kind = k;
          states = (ap (map f) are
              ∙ added-map f add (λ s v. merged s (state_of k (v ∷ []))) d same places values xs
              ∙ (λ i. all_added (λ s v. merged s (state_of k (v ∷ []))) (unit i) places values
              (map f xs))) j;
          spare = n;
        })
        ∙ ap (λ c. with_values places values c) is
