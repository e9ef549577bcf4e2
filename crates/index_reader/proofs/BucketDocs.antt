-- The documents of the buckets that overlap bounds.
use Rattle.std.proofs.Common.{◌≡◌, ◌∙◌, ℕ, zero, suc, ◌+◌, ◌-◌, ◌*◌, ◌<◌, ◌≤◌, Bool, true, false, not, min, ◌&&◌, ◌||◌, nat_eq, nat_le, nat_lt, List, [], ◌∷◌, ◌++◌, All, length, map, get_or, refl, sym, ap, arith}
use Rattle.std.proofs.Math.Bool.{and-false, or-false}
use Rattle.std.proofs.lemmas.Bool.{leb-true, leb-false, lt-ltb, le-ltb, le-leb, lt-leb, ltb-true, ltb-false}
use Rattle.std.proofs.lemmas.List.{length-map}
use Rattle.std.proofs.lemmas.List.Folds.{list_any-append}
use Rattle.bit_column.specs.Postings.{bucket_of, buckets_for}
use Rattle.doc_lists.specs.Docs.{has_doc}
use Rattle.doc_lists.specs.Sets.{AreThose}
use Rattle.index_reader.specs.Buckets.{IsOverlap, NoneLeft, NoneTwice, SureWithin, is_from_to, is_sure, is_to_check, lies_within, overlaps, parts_of}
use Rattle.index_reader.specs.Entries.{entries_in, entries_of, part_between}
use Rattle.index_reader.specs.declared.buckets.Overlap.{Overlap}
use Rattle.index_reader.proofs.PostingEntries.{between_places}

-- ---- laws

twice_by : (t l o : Bool) → t && l ≡ true → t && (o && not l) ≡ false
twice_by true true o e = and-false o
twice_by true false o e = absurd cc
twice_by false l o e = refl

pub none_twice : NoneTwice
none_twice count low high ids doc sure =
    let bucket = bucket_of (get_or ids doc 0) in
    twice_by (nat_lt doc (length ids)) (lies_within count low high bucket) (overlaps count low high bucket) sure

left_true : (a b : Bool) → a && b ≡ true → a ≡ true
left_true true b e = refl
left_true false b e = absurd cc

right_true : (a b : Bool) → a && b ≡ true → b ≡ true
right_true true b e = e
right_true false b e = absurd cc

-- an id is one of its bucket
within_bucket : (count id : ℕ) → id < count → (16 * bucket_of id ≤ id) × (id ≤ min (16 * bucket_of id + 15) (count - 1))
within_bucket count id lt = (omega arith, omega (arith, lt))

pub sure_within : SureWithin
sure_within count low high ids doc all sure =
    let id = get_or ids doc 0 in
    let lies = right_true (nat_lt doc (length ids)) (lies_within count low high (bucket_of id)) sure in
    let there = ltb-true doc (length ids) (left_true (nat_lt doc (length ids)) (lies_within count low high (bucket_of id)) sure) in
    let from = leb-true low (16 * bucket_of id) (left_true (nat_le low (16 * bucket_of id)) (nat_le (min (16 * bucket_of id + 15) (count - 1)) high) lies) in
    let to = leb-true (min (16 * bucket_of id + 15) (count - 1)) high (right_true (nat_le low (16 * bucket_of id)) (nat_le (min (16 * bucket_of id + 15) (count - 1)) high) lies) in
    let own : id < count = all doc 0 there in
    let among = within_bucket count id own in
    (omega (arith, from, among.0), omega (arith, to, among.1))

left_by : (t l o : Bool) → t ≡ true → o ≡ true → (t && l) || (t && (o && not l)) ≡ true
left_by true true true e f = refl
left_by true false true e f = refl
left_by true l false e f = absurd cc
left_by false l o e f = absurd cc

both_true : (a b : Bool) → a ≡ true → b ≡ true → a && b ≡ true
both_true true b e f = f
both_true false b e f = absurd cc

pub none_left : NoneLeft
none_left count low high ids doc all there from to =
    let id = get_or ids doc 0 in
    let own : id < count = all doc 0 there in
    let among = within_bucket count id own in
    let top = min (16 * bucket_of id + 15) (count - 1) in
    left_by (nat_lt doc (length ids)) (lies_within count low high (bucket_of id)) (overlaps count low high (bucket_of id)) (lt-ltb doc (length ids) there)
    (both_true (nat_le low top) (nat_le (16 * bucket_of id) high) (le-leb low top (omega (arith, from, among.1))) (le-leb (16 * bucket_of id) high (omega (arith, to, among.0))))

-- ---- the documents of buckets

-- the bucket of a document
bucket_at : (ids : List ℕ) (doc : ℕ) → get_or (map bucket_of ids) doc 0 ≡ bucket_of (get_or ids doc 0)
bucket_at [] doc = omega arith
bucket_at (id ∷ ids) zero = refl
bucket_at (id ∷ ids) (suc doc) = bucket_at ids doc

in_rows : (t a b : Bool) → (t ≡ true → a ≡ b) → t && a ≡ t && b
in_rows true a b same = same refl
in_rows false a b same = refl

-- whether a document is among the entries of the buckets from one up to another
bucket_places : (count from to : ℕ) (ids : List ℕ) (doc : ℕ) → from ≤ to → to ≤ buckets_for count
    → has_doc (entries_of (buckets_for count) (map bucket_of ids) (part_between (map bucket_of ids) from to)) doc ≡ nat_lt doc (length ids) && is_from_to from to (bucket_of (get_or ids doc 0))
bucket_places count from to ids doc order within =
    between_places (buckets_for count) from to (map bucket_of ids) doc order within
    ∙ ap (λ n. nat_lt doc n && is_from_to from to (get_or (map bucket_of ids) doc 0)) (length-map ids bucket_of)
    ∙ ap (λ n. nat_lt doc (length ids) && is_from_to from to n) (bucket_at ids doc)

bucket_below : (count : ℕ) (ids : List ℕ) (doc : ℕ) → All (λ id. id < count) ids → nat_lt doc (length ids) ≡ true → bucket_of (get_or ids doc 0) < buckets_for count
bucket_below count ids doc all there =
    let own : get_or ids doc 0 < count = all doc 0 (ltb-true doc (length ids) there) in
    omega (arith, own)

pub sure_those : (count low high : ℕ) (o : Overlap) (ids docs : List ℕ) → IsOverlap count low high o → All (λ id. id < count) ids
    → AreThose (has_doc (entries_in (buckets_for count) (map bucket_of ids) ((parts_of (map bucket_of ids) o).sure ∷ []))) docs → AreThose (is_sure count low high ids) docs
sure_those count low high o ids docs is all those = record {
  ascend = those.ascend;
  those = λ doc.
      let bucket = bucket_of (get_or ids doc 0) in
      let keys = map bucket_of ids in
      let own = entries_of (buckets_for count) keys (part_between keys o.sure_from o.sure_to) in
      let inside = nat_lt doc (length ids) in
      those.those doc ∙ list_any-append (nat_eq doc) own [] ∙ or-false (has_doc own doc)
      ∙ bucket_places count o.sure_from o.sure_to ids doc is.sure (omega (arith, is.after, is.at_most))
      ∙ in_rows inside (is_from_to o.sure_from o.sure_to bucket) (lies_within count low high bucket) (λ there. sym (is.inside bucket (bucket_below count ids doc all there)));
}

-- ---- those to be checked

spread : (t a b : Bool) → (t && a) || (t && b) ≡ t && (a || b)
spread true a b = refl
spread false a b = refl

outer_by : (a b c d : Bool) → (b ≡ true → d ≡ true) → (b ≡ true → c ≡ false) → (c ≡ true → a ≡ true) → (a && b) || (c && d) ≡ (a && d) && not (not b && not c)
outer_by true true false true p q r = refl
outer_by false true false true p q r = refl
outer_by a true true d p q r = let no : true ≡ false = q refl in absurd cc
outer_by a true false false p q r = let no : false ≡ true = p refl in absurd cc
outer_by true false true true p q r = refl
outer_by true false true false p q r = refl
outer_by false false true d p q r = let no : false ≡ true = r refl in absurd cc
outer_by true false false true p q r = refl
outer_by true false false false p q r = refl
outer_by false false false d p q r = refl

le_by : (a x : ℕ) (t : Bool) → nat_lt x a ≡ t → nat_le a x ≡ not t
le_by a x true e = let less = ltb-true x a e in lt-leb a x less
le_by a x false e = let least = ltb-false x a e in le-leb a x least

lt_by : (a x : ℕ) (t : Bool) → nat_le a x ≡ t → nat_lt x a ≡ not t
lt_by a x true e = let least = leb-true a x e in le-ltb x a least
lt_by a x false e = let less = leb-false a x e in lt-ltb x a less

-- the numbers of a range that are not in the middle of it are before that or after it
outer : (first from to end x : ℕ) → first ≤ from → from ≤ to → to ≤ end → is_from_to first from x || is_from_to to end x ≡ is_from_to first end x && not (is_from_to from to x)
outer first from to end x p q r =
    outer_by (nat_le first x) (nat_lt x from) (nat_le to x) (nat_lt x end)
    (λ e. let less = ltb-true x from e in lt-ltb x end (omega (arith, less, q, r)))
    (λ e. let less = ltb-true x from e in lt-leb to x (omega (arith, less, q)))
    (λ e. let least = leb-true to x e in le-leb first x (omega (arith, least, p, q)))
    ∙ ap (λ t. is_from_to first end x && not (t && not (nat_le to x))) (sym (le_by from x (nat_lt x from) refl))
    ∙ ap (λ t. is_from_to first end x && not (nat_le from x && t)) (sym (lt_by to x (nat_le to x) refl))

pub check_those : (count low high : ℕ) (o : Overlap) (ids docs : List ℕ) → IsOverlap count low high o → All (λ id. id < count) ids
    → AreThose (has_doc (entries_in (buckets_for count) (map bucket_of ids) ((parts_of (map bucket_of ids) o).before ∷ (parts_of (map bucket_of ids) o).after ∷ []))) docs → AreThose (is_to_check count low high ids) docs
check_those count low high o ids docs is all those = record {
  ascend = those.ascend;
  those = λ doc.
      let bucket = bucket_of (get_or ids doc 0) in
      let keys = map bucket_of ids in
      let one = entries_of (buckets_for count) keys (part_between keys o.first o.sure_from) in
      let two = entries_of (buckets_for count) keys (part_between keys o.sure_to o.end) in
      let inside = nat_lt doc (length ids) in
      those.those doc ∙ list_any-append (nat_eq doc) one (two ++ []) ∙ ap (λ t. has_doc one doc || t) (list_any-append (nat_eq doc) two [] ∙ or-false (has_doc two doc))
      ∙ ap (λ t. t || has_doc two doc) (bucket_places count o.first o.sure_from ids doc is.before (omega (arith, is.sure, is.after, is.at_most)))
      ∙ ap (λ t. (inside && is_from_to o.first o.sure_from bucket) || t) (bucket_places count o.sure_to o.end ids doc is.after is.at_most)
      ∙ spread inside (is_from_to o.first o.sure_from bucket) (is_from_to o.sure_to o.end bucket)
      ∙ ap (λ t. inside && t) (outer o.first o.sure_from o.sure_to o.end bucket is.before is.sure is.after)
      ∙ in_rows inside (is_from_to o.first o.end bucket && not (is_from_to o.sure_from o.sure_to bucket)) (overlaps count low high bucket && not (lies_within count low high bucket))
      (λ there.
      let below = bucket_below count ids doc all there in
      ap (λ t. t && not (is_from_to o.sure_from o.sure_to bucket)) (sym (is.outer bucket below)) ∙ ap (λ t. overlaps count low high bucket && not t) (sym (is.inside bucket below)));
}
