-- Postings are as long as their offsets and their entries, and give the places of each key.
use Rattle.std.proofs.Common.{◌≡◌, ℕ, zero, suc, ◌+◌, ◌-◌, ◌*◌, ◌^◌, ◌<◌, ◌≤◌, ◌==◌, nat_lt, Bool, true, false, cond, List, [], ◌∷◌, ◌++◌, length, map, take, drop, refl, sym, ap, ◌∙◌, arith, rules, tests, length-append, append_assoc}
use Rattle.std.specs.List.{All, filter, enumerate_from, range_with_len}
use Rattle.std.proofs.lemmas.Bool.{eqb-true, eqb-false, ltb-true, ltb-false}
use Rattle.std.proofs.lemmas.List.{append-nil, get_or_append_left}
use Rattle.std.proofs.lemmas.List.Elements.{All-nil, All-cons, All-head, All-tail, All-append}
use Rattle.std.proofs.lemmas.List.FromFn.{length-map-range_with_len, get_or-map-range_with_len}
use Rattle.bit_column.specs.Column.{bytes_for, id_at, ids_between}
use Rattle.bit_column.specs.Postings.{places_from, places_of, entries, offset, offsets, postings, entry_at, bucket_of, buckets_for}
use Rattle.bit_column.proofs.Spelling.{length-spelled, id-written, ids-written}

-- ---- how many places and entries there are

-- how many of these keys are less
abbrev less : ℕ → List ℕ → ℕ
less n keys = length (filter (λ k. nat_lt k n) keys)

kept_by : (b : Bool) (x : ℕ × ℕ) (rest : List (ℕ × ℕ)) → length (map (λ e. e.0) (cond b (x ∷ rest) rest)) ≡ cond b 1 0 + length (map (λ e. e.0) rest)
kept_by true x rest = omega arith
kept_by false x rest = omega arith

less_by : (b : Bool) (k : ℕ) (rest : List ℕ) → length (cond b (k ∷ rest) rest) ≡ cond b 1 0 + length rest
less_by true k rest = omega arith
less_by false k rest = omega arith

tests_add : (a b c : Bool) (k n : ℕ) → nat_lt k n ≡ a → (k == n) ≡ b → nat_lt k (suc n) ≡ c → cond a 1 0 + cond b 1 0 ≡ cond c 1 0
tests_add true true c k n lt eq up = absurd (omega (arith, ltb-true k n lt, eqb-true k n eq))
tests_add true false true k n lt eq up = refl
tests_add true false false k n lt eq up = absurd (omega (arith, ltb-true k n lt, ltb-false k (suc n) up))
tests_add false true true k n lt eq up = refl
tests_add false true false k n lt eq up = absurd (omega (arith, eqb-true k n eq, ltb-false k (suc n) up))
tests_add false false true k n lt eq up = absurd (eqb-false k n eq (omega (arith, ltb-false k n lt, ltb-true k (suc n) up)))
tests_add false false false k n lt eq up = refl

-- the keys below the next number are those below it, and it
less_more : (place n : ℕ) (keys : List ℕ) → less n keys + length (places_from place n keys) ≡ less (suc n) keys
less_more place n [] = refl
less_more place n (k ∷ ks) =
    let own = tests_add (nat_lt k n) (k == n) (nat_lt k (suc n)) k n refl refl refl in
    let one = less_by (nat_lt k n) k (filter (λ k. nat_lt k n) ks) in
    let two = kept_by (k == n) (place, k) (filter (λ e. e.1 == n) (enumerate_from (place + 1) ks)) in
    let all = less_by (nat_lt k (suc n)) k (filter (λ k. nat_lt k (suc n)) ks) in
    let rest = less_more (place + 1) n ks in
    omega (arith, own, one, two, all, rest)

none_less : (keys : List ℕ) → less 0 keys ≡ 0
none_less [] = refl
none_less (k ∷ ks) =
    let no : nat_lt k 0 ≡ false = search (rules, tests) in
    ap (λ b. length (cond b (k ∷ filter (λ k. nat_lt k 0) ks) (filter (λ k. nat_lt k 0) ks))) no ∙ none_less ks

offset_is : (keys : List ℕ) (key : ℕ) → offset keys key ≡ less key keys
offset_is keys zero = sym (none_less keys)
offset_is keys (suc key) =
    let add = length-append (entries key keys) (places_of key keys) in
    omega (arith, add, offset_is keys key, less_more 0 key keys)

few_by : (b : Bool) (k : ℕ) (rest : List ℕ) (n : ℕ) → length rest ≤ n → length (cond b (k ∷ rest) rest) ≤ suc n
few_by true k rest n le = omega (arith, le)
few_by false k rest n le = omega (arith, le)

pub less_few : (n : ℕ) (keys : List ℕ) → less n keys ≤ length keys
less_few n [] = omega arith
less_few n (k ∷ ks) = few_by (nat_lt k n) k (filter (λ k. nat_lt k n) ks) (length ks) (less_few n ks)

all_less : (n : ℕ) (keys : List ℕ) → All (λ k. k < n) keys → less n keys ≡ length keys
all_less n [] all = refl
all_less n (k ∷ ks) all =
    let own : k < n = All-head (λ k. k < n) k ks all in
    let yes : nat_lt k n ≡ true = search (rules, tests) in
    ap (λ b. length (cond b (k ∷ filter (λ k. nat_lt k n) ks) (filter (λ k. nat_lt k n) ks))) yes
    ∙ ap suc (all_less n ks (All-tail (λ k. k < n) k ks all))

pub offset_few : (keys : List ℕ) (key : ℕ) → offset keys key ≤ length keys
offset_few keys key = omega (arith, offset_is keys key, less_few key keys)

pub all_entries : (count : ℕ) (keys : List ℕ) → All (λ k. k < count) keys → length (entries count keys) ≡ length keys
all_entries count keys all = offset_is keys count ∙ all_less count keys all

-- ---- the length

four : (n : ℕ) → bytes_for (n * 32) ≡ 4 * n
four n = omega arith

pub posting_length : (count : ℕ) (keys : List ℕ) → All (λ k. k < count) keys → length (postings count keys) ≡ 4 * (count + 1 + length keys)
posting_length count keys all =
    let front : length (offsets count keys) ≡ count + 1 = length-map-range_with_len (offset keys) 0 (count + 1) in
    let both : length (offsets count keys ++ entries count keys) ≡ count + 1 + length keys = omega (arith, length-append (offsets count keys) (entries count keys), front, all_entries count keys all) in
    length-spelled 32 (offsets count keys ++ entries count keys) ∙ ap (λ n. bytes_for (n * 32)) both ∙ four (count + 1 + length keys)

-- ---- each number has 32 bits at most

below_by : (b : Bool) (place k limit : ℕ) (rest : List (ℕ × ℕ)) → place < limit → All (λ p. p < limit) (map (λ e. e.0) rest) → All (λ p. p < limit) (map (λ e. e.0) (cond b ((place, k) ∷ rest) rest))
below_by true place k limit rest own all = All-cons (λ p. p < limit) place (map (λ e. e.0) rest) own all
below_by false place k limit rest own all = all

places_below : (place key limit : ℕ) (keys : List ℕ) → place + length keys ≤ limit → All (λ p. p < limit) (places_from place key keys)
places_below place key limit [] le = All-nil (λ p. p < limit)
places_below place key limit (k ∷ ks) le = below_by (k == key) place k limit (filter (λ e. e.1 == key) (enumerate_from (place + 1) ks)) (omega (arith, le))
    (places_below (place + 1) key limit ks (omega (arith, le)))

entries_below : (count limit : ℕ) (keys : List ℕ) → length keys ≤ limit → All (λ p. p < limit) (entries count keys)
entries_below zero limit keys le = All-nil (λ p. p < limit)
entries_below (suc key) limit keys le = All-append (λ p. p < limit) (entries key keys) (places_of key keys) (entries_below key limit keys le) (places_below 0 key limit keys (omega (arith, le)))

offsets_below : (limit : ℕ) (keys : List ℕ) → length keys < limit → (a n : ℕ) → All (λ p. p < limit) (map (offset keys) (range_with_len a n))
offsets_below limit keys lt a zero = All-nil (λ p. p < limit)
offsets_below limit keys lt a (suc n) = All-cons (λ p. p < limit) (offset keys a) (map (offset keys) (range_with_len (a + 1) n)) (omega (arith, offset_few keys a, lt)) (offsets_below limit keys lt (a + 1) n)

-- ---- the entries of a key

-- the entries from a key on
abbrev tail : ℕ → ℕ → List ℕ → List ℕ
tail key zero keys = []
tail key (suc more) keys = tail key more keys ++ places_of (key + more) keys

split : (key more : ℕ) (keys : List ℕ) → entries (key + more) keys ≡ entries key keys ++ tail key more keys
split key zero keys =
    let same : key + 0 ≡ key = omega arith in
    ap (λ n. entries n keys) same ∙ sym (append-nil (entries key keys))
split key (suc more) keys =
    let up : key + suc more ≡ suc (key + more) = omega arith in
    ap (λ n. entries n keys) up ∙ ap (λ es. es ++ places_of (key + more) keys) (split key more keys) ∙ append_assoc (entries key keys) (tail key more keys) (places_of (key + more) keys)

dropped : (xs ys : List ℕ) → drop (length xs) (xs ++ ys) ≡ ys
dropped [] ys = refl
dropped (x ∷ xs) ys = dropped xs ys

taken : (xs ys : List ℕ) → take (length xs) (xs ++ ys) ≡ xs
taken [] ys = refl
taken (x ∷ xs) ys = ap (λ zs. x ∷ zs) (taken xs ys)

dropped_more : (xs ys : List ℕ) (n : ℕ) → drop (length xs + n) (xs ++ ys) ≡ drop n ys
dropped_more [] ys n = let zero_plus : 0 + n ≡ n = omega arith in ap (λ m. drop m ys) zero_plus
dropped_more (x ∷ xs) ys n = let up : length (x ∷ xs) + n ≡ suc (length xs + n) = omega arith in ap (λ m. drop m (x ∷ xs ++ ys)) up ∙ dropped_more xs ys n

-- between the offsets of a key and of the next one stand its places
between_offsets : (count key : ℕ) (keys : List ℕ) → key < count → take (offset keys (key + 1) - offset keys key) (drop (offset keys key) (entries count keys)) ≡ places_of key keys
between_offsets count key keys lt =
    let own = places_of key keys in
    let before = entries key keys in
    let up : key + 1 ≡ suc key = omega arith in
    let whole : suc key + (count - suc key) ≡ count = omega (arith, lt) in
    let after = tail (suc key) (count - suc key) keys in
    let all : entries count keys ≡ before ++ (own ++ after) = ap (λ n. entries n keys) (sym whole) ∙ split (suc key) (count - suc key) keys ∙ append_assoc before own after in
    let size : offset keys (key + 1) - offset keys key ≡ length own = ap (λ n. offset keys n - offset keys key) up ∙ omega (arith, length-append before own) in
    ap (λ n. take n (drop (offset keys key) (entries count keys))) size
    ∙ ap (λ es. take (length own) (drop (length before) es)) all
    ∙ ap (take (length own)) (dropped before (own ++ after)) ∙ taken own after

module _ (count key : ℕ) (keys : List ℕ) (all : All (λ k. k < count) keys) (at_most : length keys < 2 ^ 32) (known : key < count) where
  abbrev words : List ℕ
  words = offsets count keys ++ entries count keys

  front : length (offsets count keys) ≡ count + 1
  front = length-map-range_with_len (offset keys) 0 (count + 1)

  small : All (λ p. p < 2 ^ 32) words
  small = All-append (λ p. p < 2 ^ 32) (offsets count keys) (entries count keys) (offsets_below (2 ^ 32) keys at_most 0 (count + 1)) (entries_below count (2 ^ 32) keys (omega (arith, at_most)))

  offset_read : (n : ℕ) → n < count + 1 → id_at 32 n (postings count keys) ≡ offset keys n
  offset_read n lt =
      let within : n < length words = omega (arith, length-append (offsets count keys) (entries count keys), front, lt) in
      let inside : n < length (offsets count keys) = omega (arith, front, lt) in
      let zero_plus : 0 + n ≡ n = omega arith in
      id-written 32 n words small within ∙ get_or_append_left (offsets count keys) (entries count keys) 0 n inside
      ∙ get_or-map-range_with_len (offset keys) 0 (count + 1) n n 0 lt zero_plus

  order : offset keys key ≤ offset keys (key + 1)
  order =
      let up : key + 1 ≡ suc key = omega arith in
      omega (arith, ap (offset keys) up, length-append (entries key keys) (places_of key keys))

  bound : offset keys (key + 1) ≤ length (entries count keys)
  bound = omega (arith, all_entries count keys all, offset_few keys (key + 1))

  pub entry_read : entry_at count key (postings count keys) ≡ places_of key keys
  entry_read =
      let from = offset keys key in
      let to = offset keys (key + 1) in
      let total : length words ≡ count + 1 + length (entries count keys) = omega (arith, length-append (offsets count keys) (entries count keys), front) in
      let size : count + 1 + to - (count + 1 + from) ≡ to - from = omega arith in
      let start : length (offsets count keys) + from ≡ count + 1 + from = omega (arith, front) in
      ap (λ n. ids_between 32 (count + 1 + n) (count + 1 + id_at 32 (key + 1) (postings count keys)) (postings count keys)) (offset_read key (omega (arith, known)))
      ∙ ap (λ n. ids_between 32 (count + 1 + from) (count + 1 + n) (postings count keys)) (offset_read (key + 1) (omega (arith, known)))
      ∙ ids-written 32 (count + 1 + from) (count + 1 + to) words small (omega (arith, order)) (omega (arith, total, bound))
      ∙ ap (λ n. take n (drop (count + 1 + from) words)) size
      ∙ ap (λ n. take (to - from) (drop n words)) (sym start)
      ∙ ap (take (to - from)) (dropped_more (offsets count keys) (entries count keys) from)
      ∙ between_offsets count key keys known

-- ---- buckets

bucket_in : (count id : ℕ) → id < count → bucket_of id < buckets_for count
bucket_in count id lt = omega (arith, lt)

pub buckets_in : (count : ℕ) (ids : List ℕ) → All (λ id. id < count) ids → All (λ b. b < buckets_for count) (map bucket_of ids)
buckets_in count [] all = All-nil (λ b. b < buckets_for count)
buckets_in count (id ∷ ids) all = All-cons (λ b. b < buckets_for count) (bucket_of id) (map bucket_of ids) (bucket_in count id (All-head (λ id. id < count) id ids all)) (buckets_in count ids (All-tail (λ id. id < count) id ids all))
