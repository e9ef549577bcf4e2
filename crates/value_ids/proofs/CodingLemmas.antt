-- One more number of a column.
use Rattle.std.proofs.Common.{◌≡◌, ◌∙◌, ◌<◌, ◌+◌, ◌++◌, ◌∷◌, [], ℕ, ℤ, pos, zero, suc, List, length, map, get_or, set, take, drop, slice_get, Some, refl, ap, ap₂, sym, subst, arith, length-append, append_assoc}
use Rattle.std.specs.List.{Contains}
use Rattle.std.proofs.lemmas.List.{get_or_append_left, get_or_default, get_or_at, length-map, map-append, set_at, take_more, drop_more, length-take-le}
use Rattle.std.proofs.lemmas.List.Elements.{All-append, All-head, All-push, All-tail, All-weaker}
use Rattle.value_ids.specs.Coding.{numbers_at, AreBelow, AreNumbersOf, Grows}

numbers-more : (seen more : List ℤ) (ids : List ℕ) → AreBelow (length seen) ids → numbers_at (seen ++ more) ids ≡ numbers_at seen ids
numbers-more seen more [] below = refl
numbers-more seen more (id ∷ ids) below =
    ap (λ n. n ∷ numbers_at (seen ++ more) ids) (get_or_append_left seen more (pos 0) id (All-head (λ i. i < length seen) id ids below))
    ∙ ap (λ ns. get_or seen id (pos 0) ∷ ns) (numbers-more seen more ids (All-tail (λ i. i < length seen) id ids below))

below-more : (seen more : List ℤ) (ids : List ℕ) → AreBelow (length seen) ids → AreBelow (length (seen ++ more)) ids
below-more seen more ids below = All-weaker (λ id. id < length seen) (λ id. id < length (seen ++ more)) (λ id lt. omega (arith, length-append seen more, lt)) ids below

place-at : (seen : List ℤ) (id : ℕ) (n : ℤ) → slice_get seen id ≡ Some n → (id < length seen) × (get_or seen id (pos 0) ≡ n)
place-at [] id n is = absurd cc
place-at (x ∷ xs) zero n is = (omega arith, cc)
place-at (x ∷ xs) (suc id) n is =
    let rest = place-at xs id n is in
    (omega (arith, rest.0), rest.1)

module _ (numbers : List ℤ) (i : ℕ) (seen new : List ℤ) (ids ids' : List ℕ) (id : ℕ) (lt : i < length numbers) (at : slice_get new id ≡ Some (get_or numbers i (pos 0))) (grows : Grows (get_or numbers i (pos 0)) seen new) (is : ids' ≡ ids ++ id ∷ []) (below : AreBelow (length seen) ids) where
  pub reads-more : numbers_at seen ids ≡ take i numbers → numbers_at new ids' ≡ take (i + 1) numbers
  reads-more so_far =
      ap (numbers_at new) is ∙ map-append (λ k. get_or new k (pos 0)) ids (id ∷ [])
      ∙ ap₂ ◌++◌ (ap (λ s. numbers_at s ids) grows.new_is ∙ numbers-more seen grows.more ids below ∙ so_far) (ap (λ n. n ∷ []) (place-at new id (get_or numbers i (pos 0)) at).1)
      ∙ sym (take_more numbers i (pos 0) lt)

  pub below-one : AreBelow (length new) ids'
  below-one =
      subst (AreBelow (length new)) (sym is)
      (All-push (λ k. k < length new) ids id (subst (λ s. AreBelow (length s) ids) (sym grows.new_is) (below-more seen grows.more ids below)) (place-at new id (get_or numbers i (pos 0)) at).0)

  pub among-more : AreNumbersOf numbers seen → AreNumbersOf numbers new
  among-more among =
      let here : Contains numbers (get_or numbers i (pos 0)) = (i, lt, get_or_default numbers i (get_or numbers i (pos 0)) (pos 0) lt) in
      subst (AreNumbersOf numbers) (sym grows.new_is)
      (All-append (Contains numbers) seen grows.more among
      (All-weaker (λ other. other ≡ get_or numbers i (pos 0)) (Contains numbers) (λ x e. subst (Contains numbers) (sym e) here) grows.more grows.each))

-- the next place is renumbered
pub renumber-one : (f : ℕ → ℕ) (old now : List ℕ) (i : ℕ) → i < length old → now ≡ map f (take i old) ++ drop i old → set now i (f (get_or now i 0)) ≡ map f (take (i + 1) old) ++ drop (i + 1) old
renumber-one f old now i lt is =
    let x : ℕ = get_or old i 0 in
    let split : now ≡ map f (take i old) ++ x ∷ drop (i + 1) old = is ∙ ap (λ rest. map f (take i old) ++ rest) (drop_more old i 0 lt) in
    let count : length (map f (take i old)) ≡ i = length-map (take i old) f ∙ length-take-le i old (omega (arith, lt)) in
    let read : get_or now i 0 ≡ x = ap (λ xs. get_or xs i 0) split ∙ get_or_at (map f (take i old)) x (drop (i + 1) old) 0 i count in
    ap₂ (λ xs y. set xs i (f y)) split read
    ∙ set_at (map f (take i old)) x (drop (i + 1) old) (f x) i count
    ∙ sym (append_assoc (map f (take i old)) (f x ∷ []) (drop (i + 1) old))
    ∙ ap (λ xs. xs ++ drop (i + 1) old) (sym (map-append f (take i old) (x ∷ [])) ∙ ap (map f) (sym (take_more old i 0 lt)))
