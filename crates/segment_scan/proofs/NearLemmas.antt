-- Ids between the ends of others, the buckets of such ids, and the values and documents in these.
use Rattle.std.proofs.Common.{◌≡◌, ◌∙◌, ◌<◌, ◌≤◌, ◌+◌, ◌-◌, ◌*◌, ◌&&◌, ◌||◌, ◌==◌, ◌∷◌, [], ℕ, suc, pos, Bool, true, false, not, cond, min, nat_eq, nat_le, nat_lt, All, List, Some, length, get_or, refl, sym, ap, subst, inl, inr, eq-eqb, arith}
use Rattle.std.proofs.lemmas.Bool.{cases_lt, eqb-true, false≢true, le-leb, leb-true, ltb-true}
use Rattle.values.specs.declared.test.Test.{Test}
use Rattle.values.specs.declared.value.Value.{Value}
use Rattle.values.specs.declared.value.Value.TheVariants.{Whole}
use Rattle.values.specs.Tests.{holds}
use Rattle.value_ids.specs.Ids.{has_id, matching, matching_from, satisfies}
use Rattle.value_ids.proofs.IdLemmas.{each_matching}
use Rattle.bit_column.specs.Postings.{bucket_of}
use Rattle.doc_lists.specs.Sets.{Up}
use Rattle.index_reader.specs.Buckets.{is_to_check, lies_within, overlaps}
use Rattle.index_reader.specs.Documents.{is_doc_of}
use Rattle.segment_file.specs.Columns.{place_of}
use Rattle.segment_plan.specs.Choices.{are_consecutive, follow}
use Rattle.index_filter.specs.Indexes.{is_doc_near}
use Rattle.segment_plan.specs.RowsLeft.{first_of, is_value_near, last_of}
use Rattle.segment_scan.proofs.ImageLemmas.{IsPlace, item_there}
use Rattle.index_filter.proofs.RangeLemmas.{both_true, in_bucket, left_true, right_true}

-- ---- ids between the ends of a set

ids_up : (from first : ℕ) (test : Test) (vs : List Value) → from ≤ first → Up from (matching_from first test vs)
ids_up from first test [] le = tt
ids_up from first test (v ∷ vs) le =
    elim (holds v test) as (λ b. Up from (cond b (first ∷ matching_from (first + 1) test vs) (matching_from (first + 1) test vs))) [
      | true ↦ (le, ids_up (first + 1) (first + 1) test vs (omega arith))
      | false ↦ ids_up from (first + 1) test vs (omega (arith, le))
    ]

-- an id is between the first of some and the last
record IsBetween (ids : List ℕ) (id : ℕ) : Type 0 where
  some : 0 < length ids
  from : first_of ids ≤ id
  to : id ≤ last_of ids

last_up : (from : ℕ) (x : ℕ) (xs : List ℕ) → Up from (x ∷ xs) → x ≤ get_or (x ∷ xs) (length xs) 0
last_up from x [] up = omega arith
last_up from x (y ∷ ys) up = let more : y ≤ get_or (y ∷ ys) (length ys) 0 = last_up (x + 1) y ys up.1 in omega (arith, more, up.1.0)

first_up : (from : ℕ) (xs : List ℕ) → 0 < length xs → Up from xs → from ≤ first_of xs
first_up from [] some up = absurd (omega (arith, some))
first_up from (x ∷ xs) some up = up.0

last_is : (x : ℕ) (xs : List ℕ) → 0 < length xs → last_of (x ∷ xs) ≡ last_of xs
last_is x [] some = absurd (omega (arith, some))
last_is x (y ∷ ys) some =
    let one : length (x ∷ y ∷ ys) - 1 ≡ suc (length ys) = omega arith in
    let two : length (y ∷ ys) - 1 ≡ length ys = omega arith in
    ap (λ n. get_or (x ∷ y ∷ ys) n 0) one ∙ ap (λ n. get_or (y ∷ ys) n 0) (sym two)

between : (from : ℕ) (ids : List ℕ) (id : ℕ) → Up from ids → has_id ids id ≡ true → IsBetween ids id
between from [] id up has = absurd (false≢true has)
between from (x ∷ xs) id up has = go (nat_eq id x) refl has (between (x + 1) xs id up.1)
  where
    go : (b : Bool) → nat_eq id x ≡ b → b || has_id xs id ≡ true → (has_id xs id ≡ true → IsBetween xs id) → IsBetween (x ∷ xs) id
    go true same has later =
        let is : id ≡ x = eqb-true id x same in
        let n : length (x ∷ xs) - 1 ≡ length xs = omega arith in
        let top : x ≤ get_or (x ∷ xs) (length xs) 0 = last_up from x xs up in
        record { some = omega arith; from = omega (arith, is); to = subst (λ m. id ≤ get_or (x ∷ xs) m 0) (sym n) (omega (arith, is, top)) }
    go false same has later =
        let more = later has in
        let least : x + 1 ≤ first_of xs = first_up (x + 1) xs more.some up.1 in
        record { some = omega arith; from = omega (arith, least, more.from); to = subst (λ m. id ≤ m) (sym (last_is x xs more.some)) more.to }

-- ---- buckets

-- the bucket of an id within bounds overlaps them
within_overlaps : (count low high id : ℕ) → id < count → low ≤ id → id ≤ high → overlaps count low high (bucket_of id) ≡ true
within_overlaps count low high id lt from to =
    let among = in_bucket count id lt in
    let top : ℕ = min (16 * bucket_of id + 15) (count - 1) in
    both_true (nat_le low top) (nat_le (16 * bucket_of id) high) (le-leb low top (omega (arith, from, among.1))) (le-leb (16 * bucket_of id) high (omega (arith, to, among.0)))

-- ids that follow one another have each id between the first of them and the last
follow_has : (x : ℕ) (xs : List ℕ) (id : ℕ) → follow x xs ≡ true → x ≤ id → id ≤ last_of (x ∷ xs) → has_id (x ∷ xs) id ≡ true
follow_has x [] id f from to = let is : id ≡ x = omega (arith, from, to) in ap (λ b. b || false) (eq-eqb id x is)
follow_has x (y ∷ ys) id f from to = go (nat_eq id x) refl (follow_has y ys id (right_true (y == x + 1) (follow y ys) f))
  where
    go : (b : Bool) → nat_eq id x ≡ b → (y ≤ id → id ≤ last_of (y ∷ ys) → has_id (y ∷ ys) id ≡ true) → has_id (x ∷ y ∷ ys) id ≡ true
    go true is rest = ap (λ b. b || has_id (y ∷ ys) id) is
    go false is rest =
        let next : y ≡ x + 1 = eqb-true y (x + 1) (left_true (y == x + 1) (follow y ys) f) in
        let other : (id ≡ x) → ⊥ = (λ e. false≢true (sym is ∙ eq-eqb id x e)) in
        let later : x + 1 ≤ id = elim (cases_lt x id) [
          | inl lt ↦ omega (arith, lt)
          | inr ge ↦ absurd (other (omega (arith, ge, from)))
        ] in
        ap (λ b. b || has_id (y ∷ ys) id) is ∙ rest (omega (arith, next, later)) (subst (λ m. id ≤ m) (last_is x (y ∷ ys) (omega arith)) to)

-- a document in a bucket that overlaps consecutive ids, and that is not to be checked, has one of them
pub sure_has : (count : ℕ) (set ids : List ℕ) (doc : ℕ) → All (λ id. id < count) ids → are_consecutive set ≡ true → is_doc_near count set ids doc ≡ true → is_to_check count (first_of set) (last_of set) ids doc ≡ false → is_doc_of set ids doc ≡ true
sure_has count [] ids doc all consecutive near unsure = absurd (false≢true consecutive)
sure_has count (x ∷ xs) ids doc all consecutive near unsure =
    let id : ℕ = get_or ids doc 0 in
    let low : ℕ = first_of (x ∷ xs) in
    let high : ℕ = last_of (x ∷ xs) in
    let there : nat_lt doc (length ids) ≡ true = left_true (nat_lt doc (length ids)) (overlaps count low high (bucket_of id)) near in
    let over : overlaps count low high (bucket_of id) ≡ true = right_true (nat_lt doc (length ids)) (overlaps count low high (bucket_of id)) near in
    let lies : lies_within count low high (bucket_of id) ≡ true = by (nat_lt doc (length ids)) (overlaps count low high (bucket_of id)) (lies_within count low high (bucket_of id)) there over unsure in
    let among = in_bucket count id (all doc 0 (ltb-true doc (length ids) there)) in
    let top : ℕ = min (16 * bucket_of id + 15) (count - 1) in
    let from : low ≤ 16 * bucket_of id = leb-true low (16 * bucket_of id) (left_true (nat_le low (16 * bucket_of id)) (nat_le top high) lies) in
    let to : top ≤ high = leb-true top high (right_true (nat_le low (16 * bucket_of id)) (nat_le top high) lies) in
    both_true (nat_lt doc (length ids)) (has_id (x ∷ xs) id) there (follow_has x xs id consecutive (omega (arith, from, among.0)) (omega (arith, to, among.1)))
  where
    by : (t o l : Bool) → t ≡ true → o ≡ true → (t && (o && not l)) ≡ false → l ≡ true
    by true true true t o is = refl
    by true true false t o is = absurd (false≢true (sym is))
    by true false l t o is = absurd (false≢true o)
    by false o l t e is = absurd (false≢true t)

-- a value that satisfies the test is in a bucket that overlaps the ids of such values
pub value_near : (values : List Value) (test : Test) (value : Value) → IsPlace values value (place_of values value) → holds value test ≡ true → is_value_near values test value ≡ true
value_near values test value place satisfied =
    let id : ℕ = place_of values value in
    let there : has_id (matching test values) id ≡ true =
    each_matching values test (matching test values) refl id ∙ ap (satisfies test) (item_there (Whole (pos 0)) values id place.below ∙ ap Some place.back) ∙ satisfied in
    let ends = between 0 (matching test values) id (ids_up 0 0 test values (omega arith)) there in
    within_overlaps (length values) (first_of (matching test values)) (last_of (matching test values)) id place.below ends.from ends.to
