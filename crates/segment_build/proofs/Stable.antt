-- Rows by the places of ascending ids are in the stable order of their column.
use Rattle.std.proofs.Common.{◌≡◌, ◌∙◌, ◌<◌, ◌≤◌, ◌+◌, ◌==◌, ◌⊎◌, inl, inr, cond, if◌then◌else◌, Bool, true, false, ◌||◌, ℕ, zero, suc, List, [], ◌∷◌, ◌++◌, length, map, get_or, drop, Option, Some, None, refl, sym, ap, ap₂, subst, arith, append_assoc, append-nil, pos, eq-eqb}
use Rattle.std.proofs.lemmas.Bool.{cases_lt, eqb-true, false≢true, ne_eqb}
use Rattle.std.proofs.lemmas.List.{length-append, length-map, map-append}
use Rattle.std.proofs.lemmas.List.Elements.{All-append, All-cons, All-head, All-nil, All-tail, All-weaker}
use Rattle.std.proofs.lemmas.Map.Keys.{sorted_head, sorted_tail}
use Rattle.std.proofs.Math.Seq.{get_or-append_seam}
use Rattle.std.specs.List.{All}
use Rattle.std.specs.List.Sorted.{IsNonDecreasing}
use Rattle.std.specs.Ordering.{match_ordering, ordering_reverse}
use Rattle.std.specs.declared.cmp.Ordering.{Ordering}
use Rattle.std.specs.declared.cmp.Ordering.TheVariants as order
use Rattle.values.specs.declared.value.Value.{Value}
use Rattle.values.specs.declared.value.Value.TheVariants.{Whole}
use Rattle.values.specs.Order.{value_eq, value_order}
use Rattle.values.specs.Order.Laws.{value_eq-equiv, value_order-total}
use Rattle.values.specs.Tests.{is_member}
use Rattle.value_ids.specs.Coding.{AreBelow, Codes, values_at}
use Rattle.value_ids.specs.Dictionary.{Ascends, distinct}
use Rattle.value_ids.proofs.DistinctLemmas.{distinct_ascends, distinct_members, same_ascending}
use Rattle.bit_column.specs.Postings.{entries, places_from, places_of}
use Rattle.inverted_lists.proofs.CountLemmas.{places_cons}
use Rattle.segment_file.specs.Image.{count_of, ids_of, place_of, values_in}
use Rattle.segment_file.specs.Ordered.{ordered, placed, sorted_by, value_in}
use Rattle.segment_build.proofs.ColumnLemmas.{below_at}

-- ---- items by their ids

-- the items that have the id beside them
abbrev pub picked : {A : Type 0} → ℕ → List ℕ → List A → List A
picked key [] xs = []
picked key (id ∷ ids) [] = []
picked key (id ∷ ids) (x ∷ xs) = cond (id == key) (x ∷ []) [] ++ picked key ids xs

-- the items of the ids below a number, id by id
abbrev pub grouped : {A : Type 0} → ℕ → List ℕ → List A → List A
grouped zero ids xs = []
grouped (suc key) ids xs = grouped key ids xs ++ picked key ids xs

one_gathered : {A : Type 0} (d x : A) (front xs : List A) (b : Bool) → map (λ p. get_or (front ++ x ∷ xs) p d) (cond b (length front ∷ []) []) ≡ cond b (x ∷ []) []
one_gathered d x front xs true = ap (λ y. y ∷ []) (get_or-append_seam front x xs d)
one_gathered d x front xs false = refl

picked_places : {A : Type 0} (d : A) (key : ℕ) (front : List A) (ids : List ℕ) (xs : List A) → length ids ≡ length xs
    → map (λ p. get_or (front ++ xs) p d) (places_from (length front) key ids) ≡ picked key ids xs
picked_places d key front [] xs e = refl
picked_places d key front (id ∷ ids) [] e = absurd (omega (arith, e))
picked_places {A} d key front (id ∷ ids) (x ∷ xs) e =
    let f : ℕ → A = λ p. get_or (front ++ x ∷ xs) p d in
    let own : List ℕ = cond (id == key) (length front ∷ []) [] in
    let more : List A = front ++ x ∷ [] in
    let all : more ++ xs ≡ front ++ x ∷ xs = append_assoc front (x ∷ []) xs in
    let size : length more ≡ length front + 1 = length-append front (x ∷ []) in
    ap (map f) (places_cons (length front) key id ids)
    ∙ map-append f own (places_from (length front + 1) key ids)
    ∙ ap₂ ◌++◌ (one_gathered d x front xs (id == key))
    ((λ i. map (λ p. get_or (sym all i) p d) (places_from (sym size i) key ids)) ∙ picked_places d key more ids xs (omega (arith, e)))

-- the places of ascending ids give the items id by id
pub grouped_entries : {A : Type 0} (d : A) (count : ℕ) (ids : List ℕ) (xs : List A) → length ids ≡ length xs → map (λ p. get_or xs p d) (entries count ids) ≡ grouped count ids xs
grouped_entries d zero ids xs e = refl
grouped_entries d (suc key) ids xs e =
    map-append (λ p. get_or xs p d) (entries key ids) (places_of key ids) ∙ ap₂ ◌++◌ (grouped_entries d key ids xs e) (picked_places d key [] ids xs e)

none_grouped : {A : Type 0} (count : ℕ) (xs : List A) → grouped count [] xs ≡ []
none_grouped zero xs = refl
none_grouped (suc key) xs = append-nil (grouped key [] xs) ∙ none_grouped key xs

-- ---- a row in its place

abbrev IsAfter : ℕ → List Value → List Value → Type 0
IsAfter column row other = value_order (value_in column row) (value_in column other) ≡ order.Greater

abbrev IsNotAfter : ℕ → List Value → List Value → Type 0
IsNotAfter column row other = (value_order (value_in column row) (value_in column other) ≡ order.Less) ⊎ (value_order (value_in column row) (value_in column other) ≡ order.Equal)

placed_past : (column : ℕ) (row : List Value) (xs ys : List (List Value)) → All (IsAfter column row) xs → placed column row (xs ++ ys) ≡ xs ++ placed column row ys
placed_past column row [] ys all = refl
placed_past column row (x ∷ xs) ys all =
    ap (λ o. match_ordering o (row ∷ x ∷ (xs ++ ys)) (row ∷ x ∷ (xs ++ ys)) (x ∷ placed column row (xs ++ ys))) (All-head (IsAfter column row) x xs all)
    ∙ ap (λ rest. x ∷ rest) (placed_past column row xs ys (All-tail (IsAfter column row) x xs all))

placed_first : (column : ℕ) (row y : List Value) (ys : List (List Value)) → IsNotAfter column row y → placed column row (y ∷ ys) ≡ row ∷ y ∷ ys
placed_first column row y ys (inl e) = ap (λ o. match_ordering o (row ∷ y ∷ ys) (row ∷ y ∷ ys) (y ∷ placed column row ys)) e
placed_first column row y ys (inr e) = ap (λ o. match_ordering o (row ∷ y ∷ ys) (row ∷ y ∷ ys) (y ∷ placed column row ys)) e

placed_front : (column : ℕ) (row : List Value) (ys : List (List Value)) → All (IsNotAfter column row) ys → placed column row ys ≡ row ∷ ys
placed_front column row [] all = refl
placed_front column row (y ∷ ys) all = placed_first column row y ys (All-head (IsNotAfter column row) y ys all)

placed_before : (column : ℕ) (row : List Value) (xs ys : List (List Value)) → All (IsNotAfter column row) ys → placed column row (xs ++ ys) ≡ placed column row xs ++ ys
placed_before column row [] ys all = placed_front column row ys all
placed_before column row (x ∷ xs) ys all =
    let rest = placed_before column row xs ys all in
    elim (value_order (value_in column row) (value_in column x)) as (λ o. match_ordering o (row ∷ x ∷ (xs ++ ys)) (row ∷ x ∷ (xs ++ ys)) (x ∷ placed column row (xs ++ ys)) ≡ match_ordering o (row ∷ x ∷ xs) (row ∷ x ∷ xs) (x ∷ placed column row xs) ++ ys) [
      | order.Less ↦ refl
      | order.Equal ↦ refl
      | order.Greater ↦ ap (λ zs. x ∷ zs) rest
    ]

-- ---- rows and the ids of their values

no_value : Value
no_value = Whole (pos 0)

abbrev HasValue : List Value → ℕ → ℕ → List Value → Type 0
HasValue d column id row = value_in column row ≡ get_or d id (Whole (pos 0))

-- each row has the value of the id beside it
abbrev Keyed : List Value → ℕ → List ℕ → List (List Value) → Type 0
Keyed d column [] [] = Unit {0}
Keyed d column [] (row ∷ rows) = ⊥
Keyed d column (id ∷ ids) [] = ⊥
Keyed d column (id ∷ ids) (row ∷ rows) = ((id < length d) × HasValue d column id row) × Keyed d column ids rows

keyed : (d : List Value) (column : ℕ) (ids : List ℕ) (rows : List (List Value)) → values_at d ids ≡ values_in column rows → AreBelow (length d) ids → Keyed d column ids rows
keyed d column [] [] e below = tt
keyed d column [] (row ∷ rows) e below = absurd cc
keyed d column (id ∷ ids) [] e below = absurd cc
keyed d column (id ∷ ids) (row ∷ rows) e below =
    let P : ℕ → Type 0 = λ n. n < length d in
    ((All-head P id ids below, sym (ap (λ vs. get_or vs 0 (Whole (pos 0))) e)), keyed d column ids rows (ap (drop 1) e) (All-tail P id ids below))

apart : (d : List Value) (i j : ℕ) (z : Value) → Ascends d → i < j → j < length d → value_order (get_or d i z) (get_or d j z) ≡ order.Less
apart [] i j z up lt within = absurd (omega (arith, within))
apart (w ∷ ws) zero zero z up lt within = absurd (omega (arith, lt))
apart (w ∷ ws) zero (suc j) z up lt within = below_at w ws j z (sorted_head value_order w ws up) (omega (arith, within))
apart (w ∷ ws) (suc i) zero z up lt within = absurd (omega (arith, lt))
apart (w ∷ ws) (suc i) (suc j) z up lt within = apart ws i j z (sorted_tail value_order w ws up) (omega (arith, lt)) (omega (arith, within))

after_less : (d : List Value) (column i n : ℕ) (row other : List Value) → Ascends d → i < length d → HasValue d column i row → HasValue d column n other → n < i → IsAfter column row other
after_less d column i n row other up within own its lt =
    let z : Value = Whole (pos 0) in
    (λ k. value_order (own k) (its k)) ∙ value_order-total.antisymm (get_or d i z) (get_or d n z) ∙ ap ordering_reverse (apart d n i z up lt within)

own_order : (o : Ordering) → o ≡ ordering_reverse o → o ≡ order.Equal
own_order order.Less e = absurd cc
own_order order.Equal e = refl
own_order order.Greater e = absurd cc

not_after : (d : List Value) (column i n : ℕ) (row other : List Value) → Ascends d → n < length d → HasValue d column i row → HasValue d column n other → i ≤ n → IsNotAfter column row other
not_after d column i n row other up within own its le =
    let z : Value = Whole (pos 0) in
    elim (cases_lt i n) [
      | inl lt ↦ inl ((λ k. value_order (own k) (its k)) ∙ apart d i n z up lt within)
      | inr ge ↦ inr (
          let same : i ≡ n = omega (arith, le, ge) in
          (λ k. value_order (own k) (its k)) ∙ ap (λ m. value_order (get_or d m z) (get_or d n z)) same ∙ own_order (value_order (get_or d n z) (get_or d n z)) (value_order-total.antisymm (get_or d n z) (get_or d n z))
          )
    ]

pub picked_one : {A : Type 0} (P : A → Type 0) (b : Bool) (x : A) → (b ≡ true → P x) → All P (cond b (x ∷ []) [])
picked_one P true x h = All-cons P x [] (h refl) (All-nil P)
picked_one P false x h = All-nil P

picked_values : (d : List Value) (column key : ℕ) (ids : List ℕ) (rows : List (List Value)) → Keyed d column ids rows → All (HasValue d column key) (picked key ids rows)
picked_values d column key [] rows k = All-nil (HasValue d column key)
picked_values d column key (id ∷ ids) [] k = All-nil (HasValue d column key)
picked_values d column key (id ∷ ids) (row ∷ rows) k =
    let P : List Value → Type 0 = HasValue d column key in
    All-append P (cond (id == key) (row ∷ []) []) (picked key ids rows)
    (picked_one P (id == key) row (λ e. subst (λ n. HasValue d column n row) (eqb-true id key e) k.0.1))
    (picked_values d column key ids rows k.1)

grouped_after : (d : List Value) (column i n : ℕ) (row : List Value) (ids : List ℕ) (rows : List (List Value)) → Ascends d → Keyed d column ids rows → i < length d → HasValue d column i row → n ≤ i
    → All (IsAfter column row) (grouped n ids rows)
grouped_after d column i zero row ids rows up k within own le = All-nil (IsAfter column row)
grouped_after d column i (suc n) row ids rows up k within own le =
    All-append (IsAfter column row) (grouped n ids rows) (picked n ids rows) (grouped_after d column i n row ids rows up k within own (omega (arith, le)))
    (All-weaker (HasValue d column n) (IsAfter column row) (λ other its. after_less d column i n row other up within own its (omega (arith, le))) (picked n ids rows) (picked_values d column n ids rows k))

picked_not_after : (d : List Value) (column i n : ℕ) (row : List Value) (ids : List ℕ) (rows : List (List Value)) → Ascends d → Keyed d column ids rows → n < length d → HasValue d column i row → i ≤ n
    → All (IsNotAfter column row) (picked n ids rows)
picked_not_after d column i n row ids rows up k within own le =
    All-weaker (HasValue d column n) (IsNotAfter column row) (λ other its. not_after d column i n row other up within own its le) (picked n ids rows) (picked_values d column n ids rows k)

-- ---- one more row in front

head_above : {A : Type 0} (n i : ℕ) (row : A) (ids : List ℕ) (rows : List A) → n ≤ i → grouped n (i ∷ ids) (row ∷ rows) ≡ grouped n ids rows
head_above zero i row ids rows le = refl
head_above (suc n) i row ids rows le =
    ap₂ ◌++◌ (head_above n i row ids rows (omega (arith, le))) (ap (λ b. cond b (row ∷ []) [] ++ picked n ids rows) (ne_eqb i n (λ e. omega (arith, e, le))))

head_placed : (d : List Value) (column i n : ℕ) (row : List Value) (ids : List ℕ) (rows : List (List Value)) → Ascends d → Keyed d column ids rows → HasValue d column i row → i < n → n ≤ length d
    → grouped n (i ∷ ids) (row ∷ rows) ≡ placed column row (grouped n ids rows)
head_placed d column i zero row ids rows up k own lt at_most = absurd (omega (arith, lt))
head_placed d column i (suc n) row ids rows up k own lt at_most =
    let here : List (List Value) = picked n ids rows in
    let lower : List (List Value) = grouped n ids rows in
    let follow : All (IsNotAfter column row) here = picked_not_after d column i n row ids rows up k (omega (arith, at_most)) own (omega (arith, lt)) in
    elim (cases_lt i n) [
      | inl less ↦
          ap₂ ◌++◌ (head_placed d column i n row ids rows up k own less (omega (arith, at_most))) (ap (λ b. cond b (row ∷ []) [] ++ here) (ne_eqb i n (λ e. omega (arith, e, less))))
          ∙ sym (placed_before column row lower here follow)
      | inr ge ↦
          let same : i ≡ n = omega (arith, lt, ge) in
          ap₂ ◌++◌ (head_above n i row ids rows ge) (ap (λ b. cond b (row ∷ []) [] ++ here) (eq-eqb i n same))
          ∙ ap (λ rest. lower ++ rest) (sym (placed_front column row here follow))
          ∙ sym (placed_past column row lower here (grouped_after d column i n row ids rows up k (omega (arith, at_most, lt)) own ge))
    ]

sorted_grouped : (d : List Value) (column : ℕ) (ids : List ℕ) (rows : List (List Value)) → Ascends d → Keyed d column ids rows → sorted_by column rows ≡ grouped (length d) ids rows
sorted_grouped d column [] [] up k = sym (none_grouped (length d) [])
sorted_grouped d column [] (row ∷ rows) up k = absurd k
sorted_grouped d column (id ∷ ids) [] up k = absurd k
sorted_grouped d column (id ∷ ids) (row ∷ rows) up k =
    ap (placed column row) (sorted_grouped d column ids rows up k.1)
    ∙ sym (head_placed d column id (length d) row ids rows up k.1 k.0.1 k.0.0 (omega arith))

coded_length : (d : List Value) (column : ℕ) (ids : List ℕ) (rows : List (List Value)) → values_at d ids ≡ values_in column rows → length ids ≡ length rows
coded_length d column ids rows e = sym (length-map ids (λ id. get_or d id (Whole (pos 0)))) ∙ ap length e ∙ length-map rows (value_in column)

-- rows by the places of their ids, id by id, are in the stable order
pub stable : (d : List Value) (column : ℕ) (ids : List ℕ) (rows : List (List Value)) → Ascends d → Codes d ids (values_in column rows)
    → sorted_by column rows ≡ map (λ p. get_or rows p []) (entries (length d) ids)
stable d column ids rows up codes =
    sorted_grouped d column ids rows up (keyed d column ids rows codes.each codes.below)
    ∙ sym (grouped_entries [] (length d) ids rows (coded_length d column ids rows codes.each))

-- rows whose ids ascend are in order
given_order : (d : List Value) (column : ℕ) (ids : List ℕ) (rows : List (List Value)) → Ascends d → Keyed d column ids rows → IsNonDecreasing ids → sorted_by column rows ≡ rows
given_order d column [] [] up k rise = refl
given_order d column [] (row ∷ rows) up k rise = absurd k
given_order d column (id ∷ ids) [] up k rise = absurd k
given_order d column (id ∷ []) (row ∷ []) up k rise = refl
given_order d column (id ∷ []) (row ∷ other ∷ rows) up k rise = absurd k.1
given_order d column (id ∷ next ∷ ids) (row ∷ []) up k rise = absurd k.1
given_order d column (id ∷ next ∷ ids) (row ∷ other ∷ rows) up k rise =
    let le : id ≤ next = rise 0 1 0 (omega arith) (omega arith) in
    ap (placed column row) (given_order d column (next ∷ ids) (other ∷ rows) up k.1 (λ i j z le lt. rise (suc i) (suc j) z (omega (arith, le)) (omega (arith, lt))))
    ∙ placed_first column row other rows (not_after d column id next row other up k.1.0.0 k.0.1 k.1.0.1 le)

pub stable_given : (d : List Value) (column : ℕ) (ids : List ℕ) (rows : List (List Value)) → Ascends d → Codes d ids (values_in column rows) → IsNonDecreasing ids → sorted_by column rows ≡ rows
stable_given d column ids rows up codes rise = given_order d column ids rows up (keyed d column ids rows codes.each codes.below) rise

-- ---- ids in their order ascend

at_least : (k : ℕ) (ks : List ℕ) → IsNonDecreasing (k ∷ ks) → All (λ o. k ≤ o) ks
at_least k ks up = λ j d lt. up 0 (suc j) d (omega arith) (omega (arith, lt))

rest_up : (k : ℕ) (ks : List ℕ) → IsNonDecreasing (k ∷ ks) → IsNonDecreasing ks
rest_up k ks up = λ i j d le lt. up (suc i) (suc j) d (omega (arith, le)) (omega (arith, lt))

up_cons : (k : ℕ) (ks : List ℕ) → All (λ o. k ≤ o) ks → IsNonDecreasing ks → IsNonDecreasing (k ∷ ks)
up_cons k ks all up zero zero d le lt = omega arith
up_cons k ks all up zero (suc j) d le lt = all j d (omega (arith, lt))
up_cons k ks all up (suc i) zero d le lt = absurd (omega (arith, le))
up_cons k ks all up (suc i) (suc j) d le lt = up i j d (omega (arith, le)) (omega (arith, lt))

up_nil : IsNonDecreasing []
up_nil i j d le lt = absurd (omega (arith, lt))

up_append : (n : ℕ) (xs ys : List ℕ) → IsNonDecreasing xs → IsNonDecreasing ys → All (λ x. x < n) xs → All (λ y. y ≡ n) ys → IsNonDecreasing (xs ++ ys)
up_append n [] ys ups upy below same = upy
up_append n (x ∷ xs) ys ups upy below same =
    let lt : x < n = All-head (λ o. o < n) x xs below in
    up_cons x (xs ++ ys) (All-append (λ o. x ≤ o) xs ys (at_least x xs ups) (All-weaker (λ o. o ≡ n) (λ o. x ≤ o) (λ o e. omega (arith, e, lt)) ys same))
    (up_append n xs ys (rest_up x xs ups) upy (All-tail (λ o. o < n) x xs below) same)

up_same : (n : ℕ) (xs : List ℕ) → All (λ x. x ≡ n) xs → IsNonDecreasing xs
up_same n [] all = up_nil
up_same n (x ∷ xs) all =
    let own : x ≡ n = All-head (λ o. o ≡ n) x xs all in
    let rest = All-tail (λ o. o ≡ n) x xs all in
    up_cons x xs (All-weaker (λ o. o ≡ n) (λ o. x ≤ o) (λ o e. omega (arith, e, own)) xs rest) (up_same n xs rest)

picked_same : (key : ℕ) (ids : List ℕ) → All (λ x. x ≡ key) (picked key ids ids)
picked_same key [] = All-nil (λ x. x ≡ key)
picked_same key (id ∷ ids) =
    All-append (λ x. x ≡ key) (cond (id == key) (id ∷ []) []) (picked key ids ids) (picked_one (λ x. x ≡ key) (id == key) id (λ e. eqb-true id key e)) (picked_same key ids)

grouped_below : (n : ℕ) (ids : List ℕ) → All (λ x. x < n) (grouped n ids ids)
grouped_below zero ids = All-nil (λ x. x < 0)
grouped_below (suc n) ids =
    All-append (λ x. x < suc n) (grouped n ids ids) (picked n ids ids)
    (All-weaker (λ x. x < n) (λ x. x < suc n) (λ x lt. omega (arith, lt)) (grouped n ids ids) (grouped_below n ids))
    (All-weaker (λ x. x ≡ n) (λ x. x < suc n) (λ x e. omega (arith, e)) (picked n ids ids) (picked_same n ids))

grouped_up : (n : ℕ) (ids : List ℕ) → IsNonDecreasing (grouped n ids ids)
grouped_up zero ids = up_nil
grouped_up (suc n) ids = up_append n (grouped n ids ids) (picked n ids ids) (grouped_up n ids) (up_same n (picked n ids ids) (picked_same n ids)) (grouped_below n ids) (picked_same n ids)

-- the ids by the places of the ids, id by id, ascend
pub gathered_up : (count : ℕ) (ids : List ℕ) → IsNonDecreasing (map (λ p. get_or ids p 0) (entries count ids))
gathered_up count ids = subst IsNonDecreasing (sym (grouped_entries 0 count ids ids refl)) (grouped_up count ids)

-- ---- the order leaves no value out

or_turn : (a b c : Bool) → a || (b || c) ≡ b || (a || c)
or_turn true true c = refl
or_turn true false c = refl
or_turn false true c = refl
or_turn false false c = refl

placed_members : (q : Value) (of column : ℕ) (row : List Value) (rows : List (List Value)) → is_member (values_in of (placed column row rows)) q ≡ value_eq q (value_in of row) || is_member (values_in of rows) q
placed_members q of column row [] = refl
placed_members q of column row (x ∷ xs) =
    let rest = placed_members q of column row xs in
    elim (value_order (value_in column row) (value_in column x)) as (λ o. is_member (values_in of (match_ordering o (row ∷ x ∷ xs) (row ∷ x ∷ xs) (x ∷ placed column row xs))) q ≡ value_eq q (value_in of row) || is_member (values_in of (x ∷ xs)) q) [
      | order.Less ↦ refl
      | order.Equal ↦ refl
      | order.Greater ↦ ap (λ b. value_eq q (value_in of x) || b) rest ∙ or_turn (value_eq q (value_in of x)) (value_eq q (value_in of row)) (is_member (values_in of xs) q)
    ]

sorted_members : (q : Value) (of column : ℕ) (rows : List (List Value)) → is_member (values_in of (sorted_by column rows)) q ≡ is_member (values_in of rows) q
sorted_members q of column [] = refl
sorted_members q of column (row ∷ rows) = placed_members q of column row (sorted_by column rows) ∙ ap (λ b. value_eq q (value_in of row) || b) (sorted_members q of column rows)

ordered_members : (q : Value) (of : ℕ) (sorted : Option ℕ) (rows : List (List Value)) → is_member (values_in of (ordered sorted rows)) q ≡ is_member (values_in of rows) q
ordered_members q of None rows = refl
ordered_members q of (Some column) rows = sorted_members q of column rows

-- rows in their order have the dictionaries of the rows as they came
pub same_distinct : (of : ℕ) (sorted : Option ℕ) (rows : List (List Value)) → distinct (values_in of (ordered sorted rows)) ≡ distinct (values_in of rows)
same_distinct of sorted rows =
    let os : List Value = values_in of (ordered sorted rows) in
    let vs : List Value = values_in of rows in
    same_ascending (distinct os) (distinct vs) (distinct_ascends os) (distinct_ascends vs) (λ q. distinct_members q os ∙ ordered_members q of sorted rows ∙ sym (distinct_members q vs))

-- ---- how many rows and ids there are, and which ids

placed_count : (column : ℕ) (row : List Value) (rows : List (List Value)) → length (placed column row rows) ≡ suc (length rows)
placed_count column row [] = refl
placed_count column row (x ∷ xs) =
    elim (value_order (value_in column row) (value_in column x)) as (λ o. length (match_ordering o (row ∷ x ∷ xs) (row ∷ x ∷ xs) (x ∷ placed column row xs)) ≡ suc (length (x ∷ xs))) [
      | order.Less ↦ refl
      | order.Equal ↦ refl
      | order.Greater ↦ ap suc (placed_count column row xs)
    ]

sorted_count : (column : ℕ) (rows : List (List Value)) → length (sorted_by column rows) ≡ length rows
sorted_count column [] = refl
sorted_count column (row ∷ rows) = placed_count column row (sorted_by column rows) ∙ ap suc (sorted_count column rows)

pub ordered_count : (sorted : Option ℕ) (rows : List (List Value)) → length (ordered sorted rows) ≡ length rows
ordered_count None rows = refl
ordered_count (Some column) rows = sorted_count column rows

pub ids_count : (rows : List (List Value)) (column : ℕ) → length (ids_of rows column) ≡ length rows
ids_count rows column = length-map (values_in column rows) (place_of (distinct (values_in column rows))) ∙ length-map rows (value_in column)

place_found : (w : Value) (ws : List Value) (v : Value) (same : Bool) → (value_eq v w ≡ true → same ≡ true) → (b : Bool) → value_eq v w ≡ b → b || is_member ws v ≡ true → (is_member ws v ≡ true → place_of ws v < length ws)
    → (if same then 0 else suc (place_of ws v)) < suc (length ws)
place_found w ws v true turn b e is rest = omega arith
place_found w ws v false turn true e is rest = absurd (false≢true (turn e))
place_found w ws v false turn false e is rest = let lt = rest is in omega (arith, lt)

place_below : (vs : List Value) (v : Value) → is_member vs v ≡ true → place_of vs v < length vs
place_below [] v is = absurd (false≢true is)
place_below (w ∷ ws) v is = place_found w ws v (value_eq w v) (λ e. sym (value_eq-equiv.symm v w) ∙ e) (value_eq v w) refl is (place_below ws v)

places_within : (all vs : List Value) → All (λ v. is_member all v ≡ true) vs → All (λ id. id < length (distinct all)) (map (place_of (distinct all)) vs)
places_within all [] those = All-nil (λ id. id < length (distinct all))
places_within all (v ∷ vs) those =
    let P : Value → Type 0 = λ v. is_member all v ≡ true in
    All-cons (λ id. id < length (distinct all)) (place_of (distinct all) v) (map (place_of (distinct all)) vs)
    (place_below (distinct all) v (distinct_members v all ∙ All-head P v vs those)) (places_within all vs (All-tail P v vs those))

or_true : (b : Bool) → (b || true) ≡ true
or_true true = refl
or_true false = refl

own_members : (vs : List Value) → All (λ v. is_member vs v ≡ true) vs
own_members [] = All-nil (λ v. is_member [] v ≡ true)
own_members (v ∷ vs) =
    All-cons (λ w. is_member (v ∷ vs) w ≡ true) v vs (ap (λ b. b || is_member vs v) (value_eq-equiv.refl v))
    (All-weaker (λ w. is_member vs w ≡ true) (λ w. is_member (v ∷ vs) w ≡ true) (λ w is. ap (λ b. value_eq w v || b) is ∙ or_true (value_eq w v)) vs (own_members vs))

pub ids_below : (rows : List (List Value)) (column : ℕ) → All (λ id. id < count_of rows column) (ids_of rows column)
ids_below rows column = places_within (values_in column rows) (values_in column rows) (own_members (values_in column rows))
