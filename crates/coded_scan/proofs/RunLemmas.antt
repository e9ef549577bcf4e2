-- Ids that ascend one by one.
use Rattle.std.proofs.Common.{◌≡◌, ◌∙◌, ◌<◌, ◌≤◌, ◌+◌, ◌∷◌, [], ◌||◌, ℕ, zero, suc, List, length, get_or, drop, take, nat_eq, ap, sym, arith, length-drop}
use Rattle.std.specs.List.Sorted.{IsStrictlySortedBy}
use Rattle.std.specs.Ordering.{nat_cmp}
use Rattle.std.proofs.Math.Seq.{take-add}
use Rattle.std.proofs.lemmas.List.{get_or-drop}
use Rattle.std.proofs.lemmas.List.Folds.{list_any-append}
use Rattle.std.proofs.lemmas.Map.Keys.{below_from_sorted, sorted_tail}
use Rattle.std.proofs.lemmas.Bool.Decides.{nat_tests}
use Rattle.value_ids.specs.Ids.{has_id}
use Rattle.coded_scan.specs.Marks.{is_between}

grows : (k x : ℕ) (xs : List ℕ) → IsStrictlySortedBy nat_cmp (x ∷ xs) → k ≤ length xs → x + k ≤ get_or (x ∷ xs) k 0
grows zero x xs up le = omega arith
grows (suc k) x [] up le = absurd (omega (arith, le))
grows (suc k) x (y ∷ ys) up le =
    let less : x < y = below_from_sorted (x ∷ y ∷ ys) 0 1 0 up (omega arith) (omega arith) in
    let more : y + k ≤ get_or (y ∷ ys) k 0 = grows k y ys (sorted_tail nat_cmp x (y ∷ ys) up) (omega (arith, le)) in
    omega (arith, less, more)

-- the first ids, where the last of them is as far from the first as they are apart
run-first : (k x : ℕ) (xs : List ℕ) → IsStrictlySortedBy nat_cmp (x ∷ xs) → k ≤ length xs → get_or (x ∷ xs) k 0 ≡ x + k → (id : ℕ) → has_id (take (suc k) (x ∷ xs)) id ≡ is_between x (x + k) id
run-first zero x xs up le last id = grind (arith, nat_tests)
run-first (suc k) x [] up le last id = absurd (omega (arith, le))
run-first (suc k) x (y ∷ ys) up le last id =
    let tail = sorted_tail nat_cmp x (y ∷ ys) up in
    let less : x < y = below_from_sorted (x ∷ y ∷ ys) 0 1 0 up (omega arith) (omega arith) in
    let most : y + k ≤ get_or (y ∷ ys) k 0 = grows k y ys tail (omega (arith, le)) in
    let end : get_or (y ∷ ys) k 0 ≡ x + suc k = last in
    let next : y ≡ x + 1 = omega (arith, less, most, end) in
    let more : has_id (take (suc k) (y ∷ ys)) id ≡ is_between y (y + k) id = run-first k y ys tail (omega (arith, le)) (omega (arith, end, next)) id in
    ap (λ b. nat_eq id x || b) more ∙ grind (arith, nat_tests)

ascends-from : (n : ℕ) (xs : List ℕ) → IsStrictlySortedBy nat_cmp xs → IsStrictlySortedBy nat_cmp (drop n xs)
ascends-from zero xs up = up
ascends-from (suc n) [] up = up
ascends-from (suc n) (x ∷ xs) up = ascends-from n xs (sorted_tail nat_cmp x xs up)

run-of : (k : ℕ) (ys : List ℕ) → IsStrictlySortedBy nat_cmp ys → k < length ys → get_or ys k 0 ≡ get_or ys 0 0 + k → (id : ℕ) → has_id (take (suc k) ys) id ≡ is_between (get_or ys 0 0) (get_or ys 0 0 + k) id
run-of k [] up lt last id = absurd (omega (arith, lt))
run-of k (x ∷ xs) up lt last id = run-first k x xs up (omega (arith, lt)) last id

-- with the ids from one up to another that is as far from it as they are apart
pub run-more : (ids : List ℕ) (start k : ℕ) → IsStrictlySortedBy nat_cmp ids → start + k < length ids → get_or ids (start + k) 0 ≡ get_or ids start 0 + k
    → (id : ℕ) → has_id (take (start + k + 1) ids) id ≡ (has_id (take start ids) id || is_between (get_or ids start 0) (get_or ids start 0 + k) id)
run-more ids start k up within last id =
    let rest : List ℕ = drop start ids in
    let e : start + k + 1 ≡ start + suc k = omega arith in
    let z : start + 0 ≡ start = omega arith in
    let first : get_or rest 0 0 ≡ get_or ids start 0 = get_or-drop start ids 0 0 ∙ ap (λ n. get_or ids n 0) z in
    let there : k < length rest = omega (arith, within, length-drop start ids) in
    let far : get_or rest k 0 ≡ get_or rest 0 0 + k = get_or-drop start ids k 0 ∙ last ∙ ap (λ n. n + k) (sym first) in
    ap (λ n. has_id (take n ids) id) e
    ∙ ap (λ (l : List ℕ). has_id l id) (take-add start (suc k) ids)
    ∙ list_any-append (nat_eq id) (take start ids) (take (suc k) rest)
    ∙ ap (λ b. has_id (take start ids) id || b) (run-of k rest (ascends-from start ids up) there far id ∙ ap (λ n. is_between n (n + k) id) first)
