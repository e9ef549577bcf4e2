-- Values that are added to states, one after another.
use Rattle.std.proofs.Common.{◌≡◌, ◌≤◌, ◌<◌, ◌+◌, ◌∷◌, [], ℕ, ℤ, pos, List, length, get_or, set, map, drop, ap, sym, ◌∙◌, refl, subst, arith, inl, inr, zero, suc}
use Rattle.std.proofs.lemmas.Bool.{cases_eq}
use Rattle.std.proofs.lemmas.List.{drop_more, drop_all, get_or-set_same, get_or-set_other, map-set}
use Rattle.agg_laws.specs.Aggregates.{IsAggregate}
use Rattle.agg_laws.specs.Numbers.{IsWhole, most_values}
use Rattle.state_columns.specs.Columns.{all_added}

module _ {S : Type 0} (add : S → ℤ → S) (unit : S) where
  -- of those that are left the first is added
  pub added-next : (places : List ℕ) (values : List ℤ) (states all : List S) (k : ℕ) (new : S)
      → k < length places → length values ≡ length places
      → new ≡ add (get_or states (get_or places k 0) unit) (get_or values k (pos 0))
      → all_added add unit (drop k places) (drop k values) states ≡ all
      → all_added add unit (drop (k + 1) places) (drop (k + 1) values)
      (set states (get_or places k 0) new) ≡ all
  added-next places values states all k new lt same is so_far =
      ap (λ s. all_added add unit (drop (k + 1) places) (drop (k + 1) values)
      (set states (get_or places k 0) s)) is
      ∙ (λ i. all_added add unit (sym (drop_more places k 0 lt) i)
      (sym (drop_more values k (pos 0) (omega (arith, lt, same))) i) states)
      ∙ so_far

  -- none is left
  pub added-none : (places : List ℕ) (values : List ℤ) (states : List S) (k : ℕ) → length places ≤ k
      → all_added add unit (drop k places) values states ≡ states
  added-none places values states k le =
      ap (λ (ps : List ℕ). all_added add unit ps values states) (drop_all k places le)

-- states of one kind are added to as what is kept of them is
module _ {S T : Type 0} (f : S → T) (add : S → ℤ → S) (more : T → ℤ → T) (unit : S)
    (same : (s : S) (v : ℤ) → f (add s v) ≡ more (f s) v) where
  at : (states : List S) (i : ℕ) → f (get_or states i unit) ≡ get_or (map f states) i (f unit)
  at [] i = refl
  at (s ∷ states) zero = refl
  at (s ∷ states) (suc i) = at states i

  pub added-map : (places : List ℕ) (values : List ℤ) (states : List S)
      → map f (all_added add unit places values states)
      ≡ all_added more (f unit) places values (map f states)
  added-map [] values states = refl
  added-map (p ∷ places) [] states = refl
  added-map (p ∷ places) (v ∷ values) states =
      added-map places values (set states p (add (get_or states p unit) v))
      ∙ ap (λ (ts : List T). all_added more (f unit) places values ts)
      (map-set f states p (add (get_or states p unit) v)
      ∙ ap (set (map f states) p) (same (get_or states p unit) v ∙ ap (λ t. more t v) (at states p)))

module _ {S : Type 0} {of : List ℤ → S} {empty : S} {merged : S → S → S} {fits : S → ℕ → Type 0}
    (laws : IsAggregate S of empty merged fits) where
  -- a state fits the values so far, and one more
  pub one-fits : (s : S) (n : ℕ) (x : ℤ) → fits s n → IsWhole x → n + 1 ≤ most_values
      → fits (merged s (of (x ∷ []))) most_values
  one-fits s n x h whole le =
      laws.fits_more _ (n + 1) most_values
      (laws.fits_both s (of (x ∷ [])) n 1 h (laws.fits_of (x ∷ []) (whole, tt))) le

  -- each state fits one value more
  pub fit-next : (states : List S) (place n : ℕ) (x : ℤ) → place < length states → IsWhole x
      → ((i : ℕ) → i < length states → fits (get_or states i empty) n) → (i : ℕ) → i < length states
      → fits (get_or (set states place (merged (get_or states place empty) (of (x ∷ [])))) i empty)
      (n + 1)
  fit-next states place n x within whole h i lt =
      let s : S = get_or states place empty in
      let v : S = merged s (of (x ∷ [])) in
      elim (cases_eq i place) [
        | inl e ↦
            subst (λ (w : S). fits w (n + 1))
            (sym (ap (λ j. get_or (set states place v) j empty) e
            ∙ get_or-set_same states place v empty within))
            (laws.fits_both s (of (x ∷ [])) n 1 (h place within) (laws.fits_of (x ∷ []) (whole, tt)))
        | inr ne ↦
            subst (λ (w : S). fits w (n + 1)) (sym (get_or-set_other states place i v empty ne))
            (laws.fits_more (get_or states i empty) n (n + 1) (h i lt) (omega arith))
      ]
