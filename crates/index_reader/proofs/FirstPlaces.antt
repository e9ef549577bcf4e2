-- In ascending ids the documents of runs of ids follow one another.
use Rattle.std.proofs.Common.{◌≡◌, ◌∙◌, ℕ, zero, suc, ◌+◌, ◌-◌, ◌*◌, ◌<◌, ◌≤◌, Bool, true, false, cond, nat_lt, List, [], ◌∷◌, ◌++◌, length, get_or, refl, sym, ap, subst, arith, length-append}
use Rattle.std.specs.List.{All, filter}
use Rattle.std.specs.List.Sorted.{IsNonDecreasing}
use Rattle.std.proofs.lemmas.Bool.{ltb-true, ltb-false, lt-ltb, le-ltb}
use Rattle.std.proofs.lemmas.List.{get_or-append-add, get_or_append_left}
use Rattle.std.proofs.lemmas.List.Elements.{All-nil, All-cons, All-head, All-tail, All-append}
use Rattle.bit_column.specs.SortedRuns.{first_place, runs}
use Rattle.bit_column.proofs.PostingLaws.{less_few}

at_least : (k : ℕ) (ks : List ℕ) → IsNonDecreasing (k ∷ ks) → All (λ o. k ≤ o) ks
at_least k ks up = λ j d lt. up 0 (suc j) d (omega arith) (omega (arith, lt))

rest_up : (k : ℕ) (ks : List ℕ) → IsNonDecreasing (k ∷ ks) → IsNonDecreasing ks
rest_up k ks up = λ i j d le lt. up (suc i) (suc j) d (omega (arith, le)) (omega (arith, lt))

none_less : (n : ℕ) (keys : List ℕ) → All (λ o. n ≤ o) keys → (m : ℕ) → m ≤ n → first_place keys m ≡ 0
none_less n [] all m le = refl
none_less n (k ∷ ks) all m le =
    let own : n ≤ k = All-head (λ o. n ≤ o) k ks all in
    let no : nat_lt k m ≡ false = le-ltb k m (omega (arith, own, le)) in
    ap (λ b. length (cond b (k ∷ filter (λ o. nat_lt o m) ks) (filter (λ o. nat_lt o m) ks))) no ∙ none_less n ks (All-tail (λ o. n ≤ o) k ks all) m le

-- ---- the first place of a key parts the places of lesser keys from the others

lt_suc : (d n : ℕ) (b : Bool) → nat_lt d n ≡ b → nat_lt (suc d) (suc n) ≡ b
lt_suc d n true e = lt-ltb (suc d) (suc n) (omega (arith, ltb-true d n e))
lt_suc d n false e = le-ltb (suc d) (suc n) (omega (arith, ltb-false d n e))

parted_by : (b : Bool) (k key doc : ℕ) (ks : List ℕ) → nat_lt k key ≡ b → All (λ o. k ≤ o) ks → doc < length (k ∷ ks)
    → ((d : ℕ) → d < length ks → nat_lt d (first_place ks key) ≡ nat_lt (get_or ks d 0) key)
    → nat_lt doc (length (cond b (k ∷ filter (λ o. nat_lt o key) ks) (filter (λ o. nat_lt o key) ks))) ≡ nat_lt (get_or (k ∷ ks) doc 0) key
parted_by true k key zero ks e all lt later = lt-ltb 0 (suc (first_place ks key)) (omega arith) ∙ sym e
parted_by true k key (suc d) ks e all lt later = lt_suc d (first_place ks key) (nat_lt (get_or ks d 0) key) (later d (omega (arith, lt)))
parted_by false k key zero ks e all lt later =
    let none = none_less k ks all key (ltb-false k key e) in
    let never : nat_lt 0 0 ≡ false = le-ltb 0 0 (omega arith) in
    ap (nat_lt 0) none ∙ never ∙ sym e
parted_by false k key (suc d) ks e all lt later =
    let none = none_less k ks all key (ltb-false k key e) in
    let own : k ≤ get_or ks d 0 = all d 0 (omega (arith, lt)) in
    let over : key ≤ get_or ks d 0 = omega (arith, ltb-false k key e, own) in
    let no : nat_lt (get_or ks d 0) key ≡ false = le-ltb (get_or ks d 0) key over in
    let never : nat_lt (suc d) 0 ≡ false = le-ltb (suc d) 0 (omega arith) in
    ap (nat_lt (suc d)) none ∙ never ∙ sym no

pub parted : (keys : List ℕ) (key doc : ℕ) → IsNonDecreasing keys → doc < length keys → nat_lt doc (first_place keys key) ≡ nat_lt (get_or keys doc 0) key
parted [] key doc up lt = absurd (omega (arith, lt))
parted (k ∷ ks) key doc up lt = parted_by (nat_lt k key) k key doc ks refl (at_least k ks up) lt (λ d less. parted ks key d (rest_up k ks up) less)

-- ---- the first places ascend

count_by : (a b : Bool) (k low high : ℕ) (xs ys : List ℕ) → nat_lt k low ≡ a → nat_lt k high ≡ b → low ≤ high → length xs ≤ length ys → length (cond a (k ∷ xs) xs) ≤ length (cond b (k ∷ ys) ys)
count_by true true k low high xs ys p q more le = omega (arith, le)
count_by true false k low high xs ys p q more le = absurd (omega (arith, ltb-true k low p, ltb-false k high q, more))
count_by false true k low high xs ys p q more le = omega (arith, le)
count_by false false k low high xs ys p q more le = le

pub firsts_ascend : (keys : List ℕ) (low high : ℕ) → low ≤ high → first_place keys low ≤ first_place keys high
firsts_ascend [] low high le = omega arith
firsts_ascend (k ∷ ks) low high le =
    count_by (nat_lt k low) (nat_lt k high) k low high (filter (λ o. nat_lt o low) ks) (filter (λ o. nat_lt o high) ks) refl refl le (firsts_ascend ks low high le)

-- ---- the numbers of the section

runs_long : (count : ℕ) (keys : List ℕ) → length (runs count keys) ≡ 2 * count
runs_long zero keys = refl
runs_long (suc key) keys = omega (arith, length-append (runs key keys) (first_place keys key ∷ first_place keys (key + 1) ∷ []), runs_long key keys)

pub runs_reach : (count : ℕ) (keys : List ℕ) (key : ℕ) → key < count → 2 * key + 2 ≤ length (runs count keys)
runs_reach count keys key lt = omega (arith, runs_long count keys, lt)

pub runs_below : (keys : List ℕ) (limit : ℕ) → length keys < limit → (count : ℕ) → All (λ p. p < limit) (runs count keys)
runs_below keys limit at_most zero = All-nil (λ p. p < limit)
runs_below keys limit at_most (suc key) = All-append (λ p. p < limit) (runs key keys) (first_place keys key ∷ first_place keys (key + 1) ∷ []) (runs_below keys limit at_most key)
    (All-cons (λ p. p < limit) (first_place keys key) (first_place keys (key + 1) ∷ []) (omega (arith, less_few key keys, at_most))
    (All-cons (λ p. p < limit) (first_place keys (key + 1)) [] (omega (arith, less_few (key + 1) keys, at_most)) (All-nil (λ p. p < limit))))

-- the first place of a key, and the place after its last
abbrev BothAt : List ℕ → ℕ → ℕ → Type 0
BothAt keys key count = (get_or (runs count keys) (2 * key) 0 ≡ first_place keys key) × (get_or (runs count keys) (2 * key + 1) 0 ≡ first_place keys (key + 1))

module _ (keys : List ℕ) where
  both_by : (key last : ℕ) → key < last → BothAt keys key last → BothAt keys key (suc last)
  both_by key last lt have =
      let more = first_place keys last ∷ first_place keys (last + 1) ∷ [] in (
        get_or_append_left (runs last keys) more 0 (2 * key) (omega (arith, runs_long last keys, lt)) ∙ have.0,
        get_or_append_left (runs last keys) more 0 (2 * key + 1) (omega (arith, runs_long last keys, lt)) ∙ have.1,
      )

  both_last : (key : ℕ) → BothAt keys key (suc key)
  both_last key =
      let more = first_place keys key ∷ first_place keys (key + 1) ∷ [] in
      let at : 2 * key ≡ length (runs key keys) + 0 = omega (arith, runs_long key keys) in
      let next : 2 * key + 1 ≡ length (runs key keys) + 1 = omega (arith, runs_long key keys) in (
        ap (λ n. get_or (runs key keys ++ more) n 0) at ∙ get_or-append-add (runs key keys) more 0 0,
        ap (λ n. get_or (runs key keys ++ more) n 0) next ∙ get_or-append-add (runs key keys) more 1 0,
      )

  both_more : (key more : ℕ) → BothAt keys key (suc (key + more))
  both_more key zero = let same : key ≡ key + 0 = omega arith in subst (λ n. BothAt keys key (suc n)) same (both_last key)
  both_more key (suc more) =
      let up : suc (key + more) ≡ key + suc more = omega arith in
      subst (λ n. BothAt keys key (suc n)) up (both_by key (suc (key + more)) (omega arith) (both_more key more))

  pub both_at : (key count : ℕ) → key < count → (get_or (runs count keys) (2 * key) 0 ≡ first_place keys key) × (get_or (runs count keys) (2 * key + 1) 0 ≡ first_place keys (key + 1))
  both_at key count lt =
      let whole : suc (key + (count - suc key)) ≡ count = omega (arith, lt) in
      subst (BothAt keys key) whole (both_more key (count - suc key))
