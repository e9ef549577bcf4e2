-- The documents in the buckets that overlap the ids of a test.
use Rattle.std.proofs.Common.{◌≡◌, ◌∙◌, ◌<◌, ◌≤◌, ◌+◌, ◌-◌, ◌*◌, ◌&&◌, ◌||◌, ◌∷◌, [], ℕ, Bool, true, false, not, min, nat_le, nat_lt, All, List, Option, Some, None, IfSome, length, map, get_or, refl, sym, subst, inr, arith}
use Rattle.std.proofs.lemmas.Bool.{false≢true, le-leb, leb-true, ltb-true}
use Rattle.std.proofs.lemmas.List.Elements.{All-from_get_or}
use Rattle.outside.specs.Files.{Files}
use Rattle.outside.specs.Reads.{Entry}
use Rattle.outside.specs.declared.place.Place.{Place}
use Rattle.values.specs.declared.test.Test.{Test}
use Rattle.value_ids.specs.Ids.{matching}
use Rattle.bit_column.specs.Postings.{bucket_of, buckets_for}
use Rattle.bit_column.specs.Sections.{section}
use Rattle.doc_lists.specs.Docs.{has_doc}
use Rattle.doc_lists.specs.Sets.{AreThose}
use Rattle.index_reader.specs.Buckets.{LogsBuckets, LogsBucketsPartly, bucket_offsets, in_turn, is_sure, is_to_check, lies_within, overlaps}
use Rattle.index_reader.specs.Documents.{TellsRanged}
use Rattle.index_reader.specs.Entries.{entries_at}
use Rattle.outside.specs.Stretches.{LogsOver, LogsPartly, Stretch}
use Rattle.segment_file.specs.Columns.{place_of}
use Rattle.segment_head.specs.Heads.{Seen, bytes_in, place_in}
use Rattle.segment_file.specs.declared.part.Part.TheVariants as parts
use Rattle.segment_plan.specs.Matched.{values_in, count_in}
use Rattle.index_filter.specs.Indexes.{IsLeftNear, LogsRange, LogsRangePartly, TellsBuckets, is_doc_near}
use Rattle.segment_plan.specs.RowsLeft.{first_of, last_of}
use Rattle.index_filter.proofs.MatchLemmas.{all_has, has_own}
use Rattle.outside.proofs.SeriesLemmas.{over_partly}

-- ---- buckets

pub both_true : (a b : Bool) → a ≡ true → b ≡ true → a && b ≡ true
both_true true b e f = f
both_true false b e f = absurd (false≢true e)

pub left_true : (a b : Bool) → a && b ≡ true → a ≡ true
left_true true b e = refl
left_true false b e = absurd (false≢true e)

pub right_true : (a b : Bool) → a && b ≡ true → b ≡ true
right_true true b e = e
right_true false b e = absurd (false≢true e)

and_true : (x : Bool) → (x && true) ≡ x
and_true true = refl
and_true false = refl

-- an id is one of its bucket
pub in_bucket : (count id : ℕ) → id < count → (16 * bucket_of id ≤ id) × (id ≤ min (16 * bucket_of id + 15) (count - 1))
in_bucket count id lt = (omega arith, omega (arith, lt))

-- a bucket that lies within bounds and has an id overlaps them
lies_overlaps : (count low high id : ℕ) → id < count → lies_within count low high (bucket_of id) ≡ true → overlaps count low high (bucket_of id) ≡ true
lies_overlaps count low high id lt lies =
    let among = in_bucket count id lt in
    let top : ℕ = min (16 * bucket_of id + 15) (count - 1) in
    let from : low ≤ 16 * bucket_of id = leb-true low (16 * bucket_of id) (left_true (nat_le low (16 * bucket_of id)) (nat_le top high) lies) in
    let to : top ≤ high = leb-true top high (right_true (nat_le low (16 * bucket_of id)) (nat_le top high) lies) in
    both_true (nat_le low top) (nat_le (16 * bucket_of id) high) (le-leb low top (omega (arith, from, among.0, among.1))) (le-leb (16 * bucket_of id) high (omega (arith, to, among.0, among.1)))

-- ---- the documents that are sure, and those to be checked

near_by : (count low high : ℕ) (ids : List ℕ) (doc : ℕ) → All (λ id. id < count) ids → (is_sure count low high ids doc || is_to_check count low high ids doc) ≡ (nat_lt doc (length ids) && overlaps count low high (bucket_of (get_or ids doc 0)))
near_by count low high ids doc all = by (nat_lt doc (length ids)) refl (lies_within count low high (bucket_of (get_or ids doc 0))) refl (overlaps count low high (bucket_of (get_or ids doc 0))) refl
  where
    by : (t : Bool) → nat_lt doc (length ids) ≡ t → (l : Bool) → lies_within count low high (bucket_of (get_or ids doc 0)) ≡ l → (o : Bool) → overlaps count low high (bucket_of (get_or ids doc 0)) ≡ o
        → ((t && l) || (t && (o && not l))) ≡ (t && o)
    by false there l is o o_is = refl
    by true there false is o o_is = and_true o
    by true there true is o o_is = sym (lies_overlaps count low high (get_or ids doc 0) (all doc 0 (ltb-true doc (length ids) there)) is) ∙ o_is

in_either_all : (P : ℕ → Type 0) (a b c : List ℕ) → AreThose (λ doc. has_doc a doc || has_doc b doc) c → All P a → All P b → All P c
in_either_all P a b c those first second = All-from_get_or P c 0 (λ j lt.
    let doc : ℕ = get_or c j 0 in
    by doc (has_doc a doc) refl (sym (those.those doc) ∙ has_own c j lt))
  where
    by : (doc : ℕ) (t : Bool) → has_doc a doc ≡ t → t || has_doc b doc ≡ true → P doc
    by doc true is has = all_has P a doc is first
    by doc false is has = all_has P b doc has second

module _ (head : Seen) (column : ℕ) (test : Test) (place : Place) (count rows low high : ℕ) (at : Some place ≡ place_in head.sections (parts.Range column)) (count_is : count ≡ count_in head column) (rows_is : rows ≡ head.rows)
    (low_is : low ≡ first_of (matching test (values_in head column))) (high_is : high ≡ last_of (matching test (values_in head column))) where
  -- the section is told where that of the head is
  told_here : (files : Files) (ids : List ℕ) → TellsBuckets files head column ids → TellsRanged count rows (section files place) ids
  told_here files ids tells =
      subst (λ n. TellsRanged n rows (section files place) ids) (sym count_is)
      (subst (λ n. TellsRanged (count_in head column) n (section files place) ids) (sym rows_is)
      (subst (λ o. TellsRanged (count_in head column) head.rows (bytes_in files o) ids) (sym at) tells))

  -- the documents that are sure and those to be checked are those in the buckets that overlap
  pub near_docs : (held : Option Files) (sure check docs : List ℕ)
      → IfSome held (λ files. (told : List ℕ) → TellsRanged count rows (section files place) told → AreThose (is_sure count low high told) sure)
      → IfSome held (λ files. (told : List ℕ) → TellsRanged count rows (section files place) told → AreThose (is_to_check count low high told) check)
      → All (λ doc. doc < rows) sure × All (λ doc. doc < rows) check → AreThose (λ doc. has_doc sure doc || has_doc check doc) docs → IsLeftNear held head column test docs
  near_docs held sure check docs sures checks within both = record {
    within = subst (λ n. All (λ doc. doc < n) docs) rows_is (in_either_all (λ doc. doc < rows) sure check docs both within.0 within.1);
    told = go held sures checks;
  }
    where
      go : (h : Option Files) → IfSome h (λ files. (told : List ℕ) → TellsRanged count rows (section files place) told → AreThose (is_sure count low high told) sure)
          → IfSome h (λ files. (told : List ℕ) → TellsRanged count rows (section files place) told → AreThose (is_to_check count low high told) check)
          → IfSome h (λ files. (ids : List ℕ) → TellsBuckets files head column ids → AreThose (is_doc_near (count_in head column) (matching test (values_in head column)) ids) docs)
      go None s c = tt
      go (Some files) s c = λ ids tells.
          let told = told_here files ids tells in
          let one = s ids told in
          let two = c ids told in
          record {
            ascend = both.ascend;
            those = λ doc. both.those doc ∙ (λ i. one.those doc i || two.those doc i) ∙ near_by count low high ids doc told.0.0
                ∙ (λ i. nat_lt doc (length ids) && overlaps (count_is i) (low_is i) (high_is i) (bucket_of (get_or ids doc 0)));
          }

  -- what was read of the section is what was to be
  pub range_logs : (held : Option Files) (old new : Option (List Entry)) → LogsBuckets held place count rows low high old new → LogsRange held head column test old new
  range_logs held old new logs =
      let least : ℕ = first_of (matching test (values_in head column)) in
      let most : ℕ = last_of (matching test (values_in head column)) in
      subst (λ o. IfSome o (λ p. LogsBuckets held p (count_in head column) head.rows least most old new)) at
      (subst (λ n. LogsBuckets held place n head.rows least most old new) count_is (subst (λ n. LogsBuckets held place count n least most old new) rows_is
      (subst (λ n. LogsBuckets held place count rows n most old new) low_is (subst (λ n. LogsBuckets held place count rows low n old new) high_is logs))))

  pub range_partly : (held : Option Files) (old new : Option (List Entry)) → LogsBucketsPartly held place count rows low high old new → LogsRangePartly held head column test old new
  range_partly held old new logs =
      let least : ℕ = first_of (matching test (values_in head column)) in
      let most : ℕ = last_of (matching test (values_in head column)) in
      inr (subst (λ o. IfSome o (λ p. LogsBucketsPartly held p (count_in head column) head.rows least most old new)) at
      (subst (λ n. LogsBucketsPartly held place n head.rows least most old new) count_is (subst (λ n. LogsBucketsPartly held place count n least most old new) rows_is
      (subst (λ n. LogsBucketsPartly held place count rows n most old new) low_is (subst (λ n. LogsBucketsPartly held place count rows low n old new) high_is logs)))))

-- ---- what was read

-- all of it was read
pub buckets_partly : (held : Option Files) (place : Place) (count rows low high : ℕ) (old new : Option (List Entry)) → LogsBuckets held place count rows low high old new → LogsBucketsPartly held place count rows low high old new
buckets_partly held place count rows low high old new (parts, are, over) =
    inr (parts, are, over_partly place.file (bucket_offsets place.offset low high ∷ map (entries_at place.offset (buckets_for count)) (in_turn parts)) old new over)
