-- Ascending lists, by any total order.
use Rattle.std.proofs.Common.{◌≡◌, ◌∙◌, ◌<◌, ◌+◌, ◌-◌, ℕ, List, [], ◌∷◌, ◌++◌, length, get_or, Some, sym, ap, subst, arith, inl, inr}
use Rattle.std.proofs.Math.Seq.{get_or-append_seam}
use Rattle.std.proofs.lemmas.List.{get_or_append_left, length-append}
use Rattle.std.proofs.lemmas.Bool.{cases_lt}
use Rattle.std.proofs.lemmas.Option.{slice_get-get_or}
use Rattle.std.proofs.lemmas.Map.Keys.{Less-from_sorted, sorted_from_all_adjacent}
use Rattle.std.specs.Cmp.{IsTotalOrder}
use Rattle.std.specs.List.{slice_get}
use Rattle.std.specs.List.Sorted.{IsStrictlySortedBy}
use Rattle.std.specs.Option.{IfSome}
use Rattle.std.specs.declared.cmp.Ordering.{Ordering}
use Rattle.std.specs.declared.cmp.Ordering.TheVariants.{Less}

-- an item that the last one, if there is one, is less than
abbrev pub IsAbove : {K : Type 0} → (K → K → Ordering) → List K → K → Type 0
IsAbove R xs x = IfSome (slice_get xs (length xs - 1)) (λ last. R last x ≡ Less)

pub none_ascends : {K : Type 0} (R : K → K → Ordering) → IsStrictlySortedBy R []
unfolding IsStrictlySortedBy
none_ascends R = tt

-- the last item, read at its place
last_below : {K : Type 0} (R : K → K → Ordering) (xs : List K) (x d : K) → 0 < length xs → IsAbove R xs x → R (get_or xs (length xs - 1) d) x ≡ Less
last_below R xs x d some above =
    let at : slice_get xs (length xs - 1) ≡ Some (get_or xs (length xs - 1) d) = slice_get-get_or xs (length xs - 1) d (omega arith) in
    subst (λ o. IfSome o (λ last. R last x ≡ Less)) at above

-- one more item
pub push_ascends : {K : Type 0} {R : K → K → Ordering} (o : IsTotalOrder R) (xs : List K) (x : K) → IsStrictlySortedBy R xs → IsAbove R xs x → IsStrictlySortedBy R (xs ++ x ∷ [])
push_ascends {K} {R} o xs x up above = sorted_from_all_adjacent o (xs ++ x ∷ []) x (λ k below.
    elim (cases_lt (k + 1) (length xs)) [
      | inl lt ↦
          let first : get_or (xs ++ x ∷ []) k x ≡ get_or xs k x = get_or_append_left xs (x ∷ []) x k (omega arith) in
          let second : get_or (xs ++ x ∷ []) (k + 1) x ≡ get_or xs (k + 1) x = get_or_append_left xs (x ∷ []) x (k + 1) lt in
          (λ i. R (first i) (second i)) ∙ Less-from_sorted R xs k (k + 1) x up (omega arith) lt
      | inr le ↦
          let size : length (xs ++ x ∷ []) ≡ length xs + 1 = length-append xs (x ∷ []) in
          let last : k ≡ length xs - 1 = omega arith in
          let next : k + 1 ≡ length xs = omega arith in
          let first : get_or (xs ++ x ∷ []) k x ≡ get_or xs (length xs - 1) x = get_or_append_left xs (x ∷ []) x k (omega arith) ∙ ap (λ n. get_or xs n x) last in
          let second : get_or (xs ++ x ∷ []) (k + 1) x ≡ x = ap (λ n. get_or (xs ++ x ∷ []) n x) next ∙ get_or-append_seam xs x [] x in
          (λ i. R (first i) (second i)) ∙ last_below R xs x x (omega arith) above
    ])

-- an item that follows in an ascending list is above the last one before it
pub follows_above : {K : Type 0} (R : K → K → Ordering) (xs : List K) (x : K) (more : List K) → IsStrictlySortedBy R (xs ++ x ∷ more) → IsAbove R xs x
follows_above R [] x more up = tt
follows_above R (y ∷ ys) x more up =
    let n : ℕ = length ys in
    let size : length (y ∷ ys ++ x ∷ more) ≡ length (y ∷ ys) + length (x ∷ more) = length-append (y ∷ ys) (x ∷ more) in
    let last : slice_get (y ∷ ys) (length (y ∷ ys) - 1) ≡ Some (get_or (y ∷ ys) (length (y ∷ ys) - 1) x) = slice_get-get_or (y ∷ ys) (length (y ∷ ys) - 1) x (omega arith) in
    let first : get_or (y ∷ ys ++ x ∷ more) (length (y ∷ ys) - 1) x ≡ get_or (y ∷ ys) (length (y ∷ ys) - 1) x = get_or_append_left (y ∷ ys) (x ∷ more) x (length (y ∷ ys) - 1) (omega arith) in
    let second : get_or (y ∷ ys ++ x ∷ more) (length (y ∷ ys)) x ≡ x = get_or-append_seam (y ∷ ys) x more x in
    let less : R (get_or (y ∷ ys) (length (y ∷ ys) - 1) x) x ≡ Less =
    (λ i. R (sym first i) (sym second i)) ∙ Less-from_sorted R (y ∷ ys ++ x ∷ more) (length (y ∷ ys) - 1) (length (y ∷ ys)) x up (omega arith) (omega arith) in
    subst (λ o. IfSome o (λ l. R l x ≡ Less)) (sym last) less
