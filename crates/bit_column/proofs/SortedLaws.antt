-- The section of a sorted column gives the places of each key; places ascend.
use Rattle.std.proofs.Common.{◌≡◌, ℕ, zero, suc, ◌+◌, ◌-◌, ◌*◌, ◌^◌, ◌<◌, ◌≤◌, ◌==◌, nat_lt, Bool, true, false, cond, List, [], ◌∷◌, ◌++◌, length, map, get_or, refl, sym, ap, ◌∙◌, subst, arith, rules, tests, length-append}
use Rattle.std.specs.List.{All, filter, enumerate_from, range_with_len}
use Rattle.std.specs.List.Sorted.{IsNonDecreasing, IsStrictlyIncreasing}
use Rattle.std.proofs.lemmas.Bool.{eqb-true, eqb-false, ltb-true, ltb-false}
use Rattle.std.proofs.lemmas.List.{get_or-append-add, get_or_append_left}
use Rattle.std.proofs.lemmas.List.Elements.{All-nil, All-cons, All-head, All-tail, All-append}
use Rattle.bit_column.specs.Column.{bytes_for, id_at}
use Rattle.bit_column.specs.Postings.{places_from, places_of}
use Rattle.bit_column.specs.SortedRuns.{first_place, runs, sorted_runs, run_at}
use Rattle.bit_column.proofs.Spelling.{length-spelled, id-written}
use Rattle.bit_column.proofs.PostingLaws.{less_few}

-- ---- places ascend

above_by : (b : Bool) (low place k : ℕ) (rest : List (ℕ × ℕ)) → low < place → All (λ p. low < p) (map (λ e. e.0) rest) → All (λ p. low < p) (map (λ e. e.0) (cond b ((place, k) ∷ rest) rest))
above_by true low place k rest own all = All-cons (λ p. low < p) place (map (λ e. e.0) rest) own all
above_by false low place k rest own all = all

above : (low place key : ℕ) (keys : List ℕ) → low < place → All (λ p. low < p) (places_from place key keys)
above low place key [] lt = All-nil (λ p. low < p)
above low place key (k ∷ ks) lt = above_by (k == key) low place k (filter (λ e. e.1 == key) (enumerate_from (place + 1) ks)) lt (above low (place + 1) key ks (omega (arith, lt)))

in_front : (x : ℕ) (xs : List ℕ) → All (λ p. x < p) xs → IsStrictlyIncreasing xs → IsStrictlyIncreasing (x ∷ xs)
in_front x xs all up zero lt = all 0 0 (omega (arith, lt))
in_front x xs all up (suc k) lt =
    let next : suc k + 1 ≡ suc (k + 1) = omega arith in
    subst (λ n. get_or xs k 0 < get_or (x ∷ xs) n 0) (sym next) (up k (omega (arith, lt)))

up_by : (b : Bool) (place k : ℕ) (rest : List (ℕ × ℕ)) → All (λ p. place < p) (map (λ e. e.0) rest) → IsStrictlyIncreasing (map (λ e. e.0) rest) → IsStrictlyIncreasing (map (λ e. e.0) (cond b ((place, k) ∷ rest) rest))
up_by true place k rest all up = in_front place (map (λ e. e.0) rest) all up
up_by false place k rest all up = up

ascend_from : (place key : ℕ) (keys : List ℕ) → IsStrictlyIncreasing (places_from place key keys)
ascend_from place key [] = λ k lt. absurd (omega (arith, lt))
ascend_from place key (k ∷ ks) = up_by (k == key) place k (filter (λ e. e.1 == key) (enumerate_from (place + 1) ks)) (above place (place + 1) key ks (omega arith)) (ascend_from (place + 1) key ks)

pub places_ascend : (key : ℕ) (keys : List ℕ) → IsStrictlyIncreasing (places_of key keys)
places_ascend key keys = ascend_from 0 key keys

-- ---- in ascending keys the places of one key are a range

at_least : (k : ℕ) (ks : List ℕ) → IsNonDecreasing (k ∷ ks) → All (λ o. k ≤ o) ks
at_least k ks up = λ j d lt. up 0 (suc j) d (omega arith) (omega (arith, lt))

rest_up : (k : ℕ) (ks : List ℕ) → IsNonDecreasing (k ∷ ks) → IsNonDecreasing ks
rest_up k ks up = λ i j d le lt. up (suc i) (suc j) d (omega (arith, le)) (omega (arith, lt))

-- where all keys are at least a number, none is less than one that is no greater
none_less : (n : ℕ) (keys : List ℕ) → All (λ o. n ≤ o) keys → (m : ℕ) → m ≤ n → first_place keys m ≡ 0
none_less n [] all m le = refl
none_less n (k ∷ ks) all m le =
    let own : n ≤ k = All-head (λ o. n ≤ o) k ks all in
    let no : nat_lt k m ≡ false = search (rules, tests) in
    ap (λ b. length (cond b (k ∷ filter (λ o. nat_lt o m) ks) (filter (λ o. nat_lt o m) ks))) no ∙ none_less n ks (All-tail (λ o. n ≤ o) k ks all) m le

none_here : (place key : ℕ) (keys : List ℕ) → All (λ o. suc key ≤ o) keys → places_from place key keys ≡ []
none_here place key [] all = refl
none_here place key (k ∷ ks) all =
    let own : suc key ≤ k = All-head (λ o. suc key ≤ o) k ks all in
    let no : (k == key) ≡ false = search (rules, tests) in
    ap (λ b. map (λ e. e.0) (cond b ((place, k) ∷ filter (λ e. e.1 == key) (enumerate_from (place + 1) ks)) (filter (λ e. e.1 == key) (enumerate_from (place + 1) ks)))) no
    ∙ none_here (place + 1) key ks (All-tail (λ o. suc key ≤ o) k ks all)

raised : (n m : ℕ) (ks : List ℕ) → m ≤ n → All (λ o. n ≤ o) ks → All (λ o. m ≤ o) ks
raised n m ks le all = λ j d lt. let own = all j d lt in omega (arith, own, le)

-- the places of a key, from the keys that are less to those that are no greater
abbrev IsRun : ℕ → ℕ → List ℕ → Type 0
IsRun place key keys = places_from place key keys ≡ range_with_len (place + first_place keys key) (first_place keys (suc key) - first_place keys key)

counted : (b : Bool) (k : ℕ) (rest : List ℕ) → length (cond b (k ∷ rest) rest) ≡ cond b 1 0 + length rest
counted true k rest = omega arith
counted false k rest = omega arith

placed : (b : Bool) (place k key : ℕ) (ks : List ℕ) → (k == key) ≡ b
    → places_from place key (k ∷ ks) ≡ map (λ e. e.0) (cond b ((place, k) ∷ filter (λ e. e.1 == key) (enumerate_from (place + 1) ks)) (filter (λ e. e.1 == key) (enumerate_from (place + 1) ks)))
placed b place k key ks e = ap (λ c. map (λ e. e.0) (cond c ((place, k) ∷ filter (λ e. e.1 == key) (enumerate_from (place + 1) ks)) (filter (λ e. e.1 == key) (enumerate_from (place + 1) ks)))) e

run_by : (place k key : ℕ) (ks : List ℕ) (lt eq up : Bool) → nat_lt k key ≡ lt → (k == key) ≡ eq → nat_lt k (suc key) ≡ up → All (λ o. k ≤ o) ks → IsRun (place + 1) key ks → IsRun place key (k ∷ ks)
run_by place k key ks true true up l e u all later = absurd (omega (arith, ltb-true k key l, eqb-true k key e))
run_by place k key ks true false false l e u all later = absurd (omega (arith, ltb-true k key l, ltb-false k (suc key) u))
run_by place k key ks true false true l e u all later =
    let low = counted (nat_lt k key) k (filter (λ o. nat_lt o key) ks) ∙ ap (λ b. cond b 1 0 + first_place ks key) l in
    let high = counted (nat_lt k (suc key)) k (filter (λ o. nat_lt o (suc key)) ks) ∙ ap (λ b. cond b 1 0 + first_place ks (suc key)) u in
    let start : place + 1 + first_place ks key ≡ place + first_place (k ∷ ks) key = omega (arith, low) in
    let size : first_place ks (suc key) - first_place ks key ≡ first_place (k ∷ ks) (suc key) - first_place (k ∷ ks) key = omega (arith, low, high) in
    placed false place k key ks e ∙ later ∙ ap (λ n. range_with_len n (first_place ks (suc key) - first_place ks key)) start ∙ ap (range_with_len (place + first_place (k ∷ ks) key)) size
run_by place k key ks false true false l e u all later = absurd (omega (arith, eqb-true k key e, ltb-false k (suc key) u))
run_by place k key ks false true true l e u all later =
    let same = eqb-true k key e in
    let none = none_less k ks all key (omega (arith, same)) in
    let low = counted (nat_lt k key) k (filter (λ o. nat_lt o key) ks) ∙ ap (λ b. cond b 1 0 + first_place ks key) l in
    let high = counted (nat_lt k (suc key)) k (filter (λ o. nat_lt o (suc key)) ks) ∙ ap (λ b. cond b 1 0 + first_place ks (suc key)) u in
    let start : place + first_place (k ∷ ks) key ≡ place = omega (arith, low, none) in
    let next : place + 1 + first_place ks key ≡ place + 1 = omega (arith, none) in
    let size : first_place (k ∷ ks) (suc key) - first_place (k ∷ ks) key ≡ suc (first_place ks (suc key) - first_place ks key) = omega (arith, low, high, none) in
    placed true place k key ks e ∙ ap (λ ps. place ∷ ps) (later ∙ ap (λ n. range_with_len n (first_place ks (suc key) - first_place ks key)) next)
    ∙ sym (ap (range_with_len (place + first_place (k ∷ ks) key)) size ∙ ap (λ n. range_with_len n (suc (first_place ks (suc key) - first_place ks key))) start)
run_by place k key ks false false true l e u all later = absurd (eqb-false k key e (omega (arith, ltb-false k key l, ltb-true k (suc key) u)))
run_by place k key ks false false false l e u all later =
    let over : suc key ≤ k = ltb-false k (suc key) u in
    let more = raised k (suc key) ks over all in
    let low = counted (nat_lt k key) k (filter (λ o. nat_lt o key) ks) ∙ ap (λ b. cond b 1 0 + first_place ks key) l in
    let high = counted (nat_lt k (suc key)) k (filter (λ o. nat_lt o (suc key)) ks) ∙ ap (λ b. cond b 1 0 + first_place ks (suc key)) u in
    let none = none_less (suc key) ks more (suc key) (omega arith) in
    let size : first_place (k ∷ ks) (suc key) - first_place (k ∷ ks) key ≡ 0 = omega (arith, high, none) in
    placed false place k key ks e ∙ none_here (place + 1) key ks more ∙ sym (ap (range_with_len (place + first_place (k ∷ ks) key)) size)

is_run : (place key : ℕ) (keys : List ℕ) → IsNonDecreasing keys → IsRun place key keys
is_run place key [] up = refl
is_run place key (k ∷ ks) up = run_by place k key ks (nat_lt k key) (k == key) (nat_lt k (suc key)) refl refl refl (at_least k ks up) (is_run (place + 1) key ks (rest_up k ks up))

-- ---- the section

runs_long : (count : ℕ) (keys : List ℕ) → length (runs count keys) ≡ 2 * count
runs_long zero keys = refl
runs_long (suc key) keys = omega (arith, length-append (runs key keys) (first_place keys key ∷ first_place keys (key + 1) ∷ []), runs_long key keys)

eight : (n : ℕ) → bytes_for (2 * n * 32) ≡ 8 * n
eight n = omega arith

pub sorted_length : (count : ℕ) (keys : List ℕ) → length (sorted_runs count keys) ≡ 8 * count
sorted_length count keys = length-spelled 32 (runs count keys) ∙ ap (λ n. bytes_for (n * 32)) (runs_long count keys) ∙ eight count

module _ (keys : List ℕ) (at_most : length keys < 2 ^ 32) where
  runs_small : (count : ℕ) → All (λ p. p < 2 ^ 32) (runs count keys)
  runs_small zero = All-nil (λ p. p < 2 ^ 32)
  runs_small (suc key) = All-append (λ p. p < 2 ^ 32) (runs key keys) (first_place keys key ∷ first_place keys (key + 1) ∷ []) (runs_small key)
      (All-cons (λ p. p < 2 ^ 32) (first_place keys key) (first_place keys (key + 1) ∷ []) (omega (arith, less_few key keys, at_most))
      (All-cons (λ p. p < 2 ^ 32) (first_place keys (key + 1)) [] (omega (arith, less_few (key + 1) keys, at_most)) (All-nil (λ p. p < 2 ^ 32))))

  -- the first place of a key, and the place after its last
  stands_by : (key last : ℕ) → key < last → (get_or (runs last keys) (2 * key) 0 ≡ first_place keys key) × (get_or (runs last keys) (2 * key + 1) 0 ≡ first_place keys (key + 1))
      → (get_or (runs (suc last) keys) (2 * key) 0 ≡ first_place keys key) × (get_or (runs (suc last) keys) (2 * key + 1) 0 ≡ first_place keys (key + 1))
  stands_by key last lt have =
      let more = first_place keys last ∷ first_place keys (last + 1) ∷ [] in (
        get_or_append_left (runs last keys) more 0 (2 * key) (omega (arith, runs_long last keys, lt)) ∙ have.0,
        get_or_append_left (runs last keys) more 0 (2 * key + 1) (omega (arith, runs_long last keys, lt)) ∙ have.1,
      )

  stands_last : (key : ℕ) → (get_or (runs (suc key) keys) (2 * key) 0 ≡ first_place keys key) × (get_or (runs (suc key) keys) (2 * key + 1) 0 ≡ first_place keys (key + 1))
  stands_last key =
      let more = first_place keys key ∷ first_place keys (key + 1) ∷ [] in
      let at : 2 * key ≡ length (runs key keys) + 0 = omega (arith, runs_long key keys) in
      let next : 2 * key + 1 ≡ length (runs key keys) + 1 = omega (arith, runs_long key keys) in (
        ap (λ n. get_or (runs key keys ++ more) n 0) at ∙ get_or-append-add (runs key keys) more 0 0,
        ap (λ n. get_or (runs key keys ++ more) n 0) next ∙ get_or-append-add (runs key keys) more 1 0,
      )

  stands : (key more : ℕ) → (get_or (runs (suc (key + more)) keys) (2 * key) 0 ≡ first_place keys key) × (get_or (runs (suc (key + more)) keys) (2 * key + 1) 0 ≡ first_place keys (key + 1))
  stands key zero =
      let same : key ≡ key + 0 = omega arith in
      subst (λ n. (get_or (runs (suc n) keys) (2 * key) 0 ≡ first_place keys key) × (get_or (runs (suc n) keys) (2 * key + 1) 0 ≡ first_place keys (key + 1))) same (stands_last key)
  stands key (suc more) =
      let up : suc (key + more) ≡ key + suc more = omega arith in
      subst (λ n. (get_or (runs (suc n) keys) (2 * key) 0 ≡ first_place keys key) × (get_or (runs (suc n) keys) (2 * key + 1) 0 ≡ first_place keys (key + 1))) up
      (stands_by key (suc (key + more)) (omega arith) (stands key more))

  pub run_read : (count key : ℕ) → IsNonDecreasing keys → key < count → run_at key (sorted_runs count keys) ≡ places_of key keys
  run_read count key up lt =
      let whole : suc (key + (count - suc key)) ≡ count = omega (arith, lt) in
      let have = subst (λ n. (get_or (runs n keys) (2 * key) 0 ≡ first_place keys key) × (get_or (runs n keys) (2 * key + 1) 0 ≡ first_place keys (key + 1))) whole (stands key (count - suc key)) in
      let from = id-written 32 (2 * key) (runs count keys) (runs_small count) (omega (arith, runs_long count keys, lt)) ∙ have.0 in
      let to = id-written 32 (2 * key + 1) (runs count keys) (runs_small count) (omega (arith, runs_long count keys, lt)) ∙ have.1 in
      let next : key + 1 ≡ suc key = omega arith in
      let start : first_place keys key ≡ 0 + first_place keys key = omega arith in
      ap (λ n. range_with_len n (id_at 32 (2 * key + 1) (sorted_runs count keys) - n)) from
      ∙ ap (λ n. range_with_len (first_place keys key) (n - first_place keys key)) (to ∙ ap (first_place keys) next)
      ∙ ap (λ n. range_with_len n (first_place keys (suc key) - first_place keys key)) start
      ∙ sym (is_run 0 key keys up)
