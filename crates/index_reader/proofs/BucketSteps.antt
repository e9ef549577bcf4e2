-- The offsets of the buckets that overlap bounds are read at once, and then their entries.
use Rattle.std.proofs.Common.{◌≡◌, ◌∙◌, ℕ, ◌+◌, ◌-◌, ◌*◌, ◌/◌, ◌<◌, ◌≤◌, ◌^◌, Bool, true, false, ◌&&◌, nat_le, List, [], ◌∷◌, Option, Some, None, IfSome, length, map, take, drop, get_or, inr, refl, ap, subst, arith}
use Rattle.std.proofs.lemmas.Bool.{le-leb}
use Rattle.std.proofs.lemmas.List.{get_or-drop, get_or-take, length-map}
use Rattle.std.proofs.lemmas.List.Elements.{All-drop, All-take}
use Rattle.outside.specs.Files.{Files}
use Rattle.outside.specs.Reads.{Entry, LogsOn}
use Rattle.outside.specs.declared.place.Place.{Place}
use Rattle.bit_column.specs.Postings.{bucket_of, buckets_for, offset}
use Rattle.bit_column.specs.Sections.{section}
use Rattle.bit_column.proofs.PostingLaws.{buckets_in}
use Rattle.doc_lists.specs.Docs.{has_doc}
use Rattle.doc_lists.specs.Sets.{AreThose}
use Rattle.index_reader.specs.Buckets.{AreBucketParts, IsOverlap, LogsBuckets, LogsBucketsPartly, bucket_offsets, in_place, in_turn, is_sure, is_to_check, parts_in, parts_of}
use Rattle.index_reader.specs.Documents.{TellsRanged}
use Rattle.index_reader.specs.Entries.{Rising, entries_at, entries_in}
use Rattle.outside.specs.Stretches.{LogsOver, LogsPartly}
use Rattle.index_reader.specs.declared.buckets.BucketParts.{BucketParts}
use Rattle.index_reader.specs.declared.buckets.Overlap.{Overlap}
use Rattle.index_reader.proofs.BucketDocs.{check_those, sure_those}
use Rattle.index_reader.proofs.PostingEntries.{offsets_ascend}
use Rattle.index_reader.proofs.PostingSteps.{Told, WordsBad, WordsRead, numbers, numbers_below, numbers_long, offset_at, over_join, partly_join, partly_more}

-- the buckets of an overlap are in order, and there are so many
pub record InOrder (count : ℕ) (o : Overlap) : Type 0 where
  pub before : o.first ≤ o.sure_from
  pub sure : o.sure_from ≤ o.sure_to
  pub after : o.sure_to ≤ o.end
  pub within : o.end ≤ count

-- ---- the offsets

-- a number that was read is the offset of a key
word_at : (count from to k : ℕ) (keys words : List ℕ) → from + k ≤ to → to ≤ count → words ≡ take (to + 1 - from) (drop from (numbers count keys)) → get_or words k 0 ≡ offset keys (from + k)
word_at count from to k keys words le within is =
    ap (λ ws. get_or ws k 0) is ∙ get_or-take (to + 1 - from) (drop from (numbers count keys)) k 0 (omega (arith, le))
    ∙ get_or-drop from (numbers count keys) k 0 ∙ offset_at count keys (from + k) (omega (arith, le, within))

word_of : (count from to key : ℕ) (keys words : List ℕ) → from ≤ key → key ≤ to → to ≤ count → words ≡ take (to + 1 - from) (drop from (numbers count keys)) → get_or words (key - from) 0 ≡ offset keys key
word_of count from to key keys words more le within is =
    let same : from + (key - from) ≡ key = omega (arith, more) in
    word_at count from to (key - from) keys words (omega (arith, same, le)) within is ∙ ap (offset keys) same

parts_same : (count : ℕ) (o : Overlap) (keys words : List ℕ) → InOrder count o → words ≡ take (o.end + 1 - o.first) (drop o.first (numbers count keys)) → parts_in words o ≡ parts_of keys o
parts_same count o keys words order is =
    let none : o.first + 0 ≡ o.first = omega arith in
    let a = word_at count o.first o.end 0 keys words (omega (arith, order.before, order.sure, order.after)) order.within is ∙ ap (offset keys) none in
    let b = word_of count o.first o.end o.sure_from keys words order.before (omega (arith, order.sure, order.after)) order.within is in
    let c = word_of count o.first o.end o.sure_to keys words (omega (arith, order.before, order.sure)) order.after order.within is in
    let d = word_of count o.first o.end o.end keys words (omega (arith, order.before, order.sure, order.after)) (omega arith) order.within is in
    (λ i. record { before = record { first = a i; last = b i }; sure = record { first = b i; last = c i }; after = record { first = c i; last = d i } })

pub parts_told : (held : Option Files) (place : Place) (count rows : ℕ) (o : Overlap) (words : List ℕ) → InOrder count o → rows ≤ 1048576 → WordsRead held place o.first (o.end + 1) words
    → Told held place count rows (λ keys. parts_in words o ≡ parts_of keys o)
parts_told None place count rows o words order at_most read = tt
parts_told (Some files) place count rows o words order at_most read = λ keys tells.
    let small : length keys < 2 ^ 32 = omega (arith, tells.0.1, at_most) in
    parts_same count o keys words order (read (numbers count keys) (numbers_below count (2 ^ 32) keys small) (omega (arith, numbers_long count keys tells.0.0, order.within)) tells.1)

pub offsets_bad : (held : Option Files) (place : Place) (count rows : ℕ) (o : Overlap) → InOrder count o → rows ≤ 1048576 → WordsBad held place (rows + 1) o.first (o.end + 1) → Told held place count rows (λ keys. ⊥)
offsets_bad None place count rows o order at_most bad = tt
offsets_bad (Some files) place count rows o order at_most bad = λ keys tells.
    let small : length keys < 2 ^ 32 = omega (arith, tells.0.1, at_most) in
    let fits : length keys < rows + 1 = omega (arith, tells.0.1) in
    let all = numbers_below count (rows + 1) keys fits in
    bad (numbers count keys) (numbers_below count (2 ^ 32) keys small)
    (All-take (λ n. n < rows + 1) (o.end + 1 - o.first) (drop o.first (numbers count keys)) (All-drop (λ n. n < rows + 1) o.first (numbers count keys) all))
    (omega (arith, numbers_long count keys tells.0.0, order.within)) tells.1

-- ---- parts that ascend

-- whether no part ends before it begins
abbrev pub rises : BucketParts → Bool
rises parts = nat_le parts.before.first parts.before.last && nat_le parts.sure.first parts.sure.last && nat_le parts.after.first parts.after.last

all_true : (a b c : Bool) → a ≡ true → b ≡ true → c ≡ true → a && b && c ≡ true
all_true true true c p q r = r
all_true true false c p q r = absurd cc
all_true false b c p q r = absurd cc

keys_rise : (count : ℕ) (o : Overlap) (keys : List ℕ) → InOrder count o → rises (parts_of keys o) ≡ true
keys_rise count o keys order =
    all_true (nat_le (offset keys o.first) (offset keys o.sure_from)) (nat_le (offset keys o.sure_from) (offset keys o.sure_to)) (nat_le (offset keys o.sure_to) (offset keys o.end))
    (le-leb (offset keys o.first) (offset keys o.sure_from) (offsets_ascend keys o.first o.sure_from order.before))
    (le-leb (offset keys o.sure_from) (offset keys o.sure_to) (offsets_ascend keys o.sure_from o.sure_to order.sure))
    (le-leb (offset keys o.sure_to) (offset keys o.end) (offsets_ascend keys o.sure_to o.end order.after))

pub order_bad : (held : Option Files) (place : Place) (count rows : ℕ) (o : Overlap) (parts : BucketParts) → InOrder count o → rises parts ≡ false → Told held place count rows (λ keys. parts ≡ parts_of keys o) → Told held place count rows (λ keys. ⊥)
order_bad None place count rows o parts order falls told = tt
order_bad (Some files) place count rows o parts order falls told = λ keys tells.
    let yes : rises parts ≡ true = ap rises (told keys tells) ∙ keys_rise count o keys order in
    absurd (cc (yes, falls))

-- ---- what a range index tells

-- what holds of the buckets of ids where the section is told
pub told_buckets : (held : Option Files) (place : Place) (count rows : ℕ) (P : List ℕ → Type 0) → Told held place (buckets_for count) rows P
    → IfSome held (λ files. (ids : List ℕ) → TellsRanged count rows (section files place) ids → P (map bucket_of ids))
told_buckets None place count rows P told = tt
told_buckets (Some files) place count rows P told = λ ids tells. told (map bucket_of ids) ((buckets_in count ids tells.0.0, length-map ids bucket_of ∙ tells.0.1), tells.1)

-- what is known of parts whose offsets were read
pub record PartsRead (held : Option Files) (place : Place) (count rows low high n : ℕ) (o : Overlap) (parts : BucketParts) (old now : Option (List Entry)) : Type 0 where
  pub overlap : IsOverlap count low high o
  pub number : n ≡ buckets_for count
  pub rising : Rising 0 rows (in_place parts)
  pub joined : (parts.before.last ≡ parts.sure.first) × (parts.sure.last ≡ parts.after.first)
  pub told : Told held place n rows (λ keys. parts ≡ parts_of keys o)
  pub log : LogsOn place.file (place.offset + 4 * o.first) (place.offset + 4 * (o.end + 1)) old now

-- the same of equal devices
pub told_at : (held now : Option Files) (place : Place) (count rows : ℕ) (P : List ℕ → Type 0) → now ≡ held → Told now place count rows P → Told held place count rows P
told_at held now place count rows P same told = subst (λ h. Told h place count rows P) same told

-- the section does not tell a range index
pub ranged_bad : (held : Option Files) (place : Place) (count rows n : ℕ) → n ≡ buckets_for count → Told held place n rows (λ keys. ⊥) → IfSome held (λ files. (ids : List ℕ) → TellsRanged count rows (section files place) ids → ⊥)
ranged_bad held place count rows n number told = told_buckets held place count rows (λ keys. ⊥) (subst (λ m. Told held place m rows (λ keys. ⊥)) number told)

module _ (held : Option Files) (place : Place) (count rows low high n : ℕ) (o : Overlap) (parts : BucketParts) (old now : Option (List Entry)) (read : PartsRead held place count rows low high n o parts old now) where
  parted : Told held place (buckets_for count) rows (λ keys. parts ≡ parts_of keys o)
  parted = subst (λ m. Told held place m rows (λ keys. parts ≡ parts_of keys o)) read.number read.told

  ends_told : (h : Option Files) → Told h place (buckets_for count) rows (λ keys. parts ≡ parts_of keys o)
      → IfSome h (λ files. (ids : List ℕ) → TellsRanged count rows (section files place) ids → (parts.before.first ≡ offset (map bucket_of ids) (low / 16)) × (parts.after.last ≡ offset (map bucket_of ids) (high / 16 + 1)))
  ends_told None told = tt
  ends_told (Some files) told = λ ids tells.
      let keys = map bucket_of ids in
      let same : parts ≡ parts_of keys o = told_buckets (Some files) place count rows (λ keys. parts ≡ parts_of keys o) told ids tells in (
        ap (λ (p : BucketParts). p.before.first) same ∙ ap (offset keys) read.overlap.first,
        ap (λ (p : BucketParts). p.after.last) same ∙ ap (offset keys) read.overlap.end,
      )

  bucket_parts : AreBucketParts held place count rows low high parts
  bucket_parts = (read.rising, read.joined.0, read.joined.1, ends_told held parted)

  -- the documents of the parts
  sure_at : (docs : List ℕ) (h : Option Files) → Told h place (buckets_for count) rows (λ keys. parts ≡ parts_of keys o)
      → Told h place (buckets_for count) rows (λ keys. AreThose (has_doc (entries_in (buckets_for count) keys (parts.sure ∷ []))) docs)
      → IfSome h (λ files. (ids : List ℕ) → TellsRanged count rows (section files place) ids → AreThose (is_sure count low high ids) docs)
  sure_at docs None told those = tt
  sure_at docs (Some files) told those = λ ids tells.
      let keys = map bucket_of ids in
      let same = told_buckets (Some files) place count rows (λ keys. parts ≡ parts_of keys o) told ids tells in
      let are = told_buckets (Some files) place count rows (λ keys. AreThose (has_doc (entries_in (buckets_for count) keys (parts.sure ∷ []))) docs) those ids tells in
      sure_those count low high o ids docs read.overlap tells.0.0 (subst (λ (p : BucketParts). AreThose (has_doc (entries_in (buckets_for count) keys (p.sure ∷ []))) docs) same are)

  pub sure_told : (h : Option Files) (docs : List ℕ) → h ≡ held → Told h place n rows (λ keys. AreThose (has_doc (entries_in n keys (parts.sure ∷ []))) docs)
      → IfSome held (λ files. (ids : List ℕ) → TellsRanged count rows (section files place) ids → AreThose (is_sure count low high ids) docs)
  sure_told h docs same those =
      sure_at docs held parted
      (subst (λ m. Told held place m rows (λ keys. AreThose (has_doc (entries_in m keys (parts.sure ∷ []))) docs)) read.number
      (subst (λ f. Told f place n rows (λ keys. AreThose (has_doc (entries_in n keys (parts.sure ∷ []))) docs)) same those))

  check_at : (docs : List ℕ) (h : Option Files) → Told h place (buckets_for count) rows (λ keys. parts ≡ parts_of keys o)
      → Told h place (buckets_for count) rows (λ keys. AreThose (has_doc (entries_in (buckets_for count) keys (parts.before ∷ parts.after ∷ []))) docs)
      → IfSome h (λ files. (ids : List ℕ) → TellsRanged count rows (section files place) ids → AreThose (is_to_check count low high ids) docs)
  check_at docs None told those = tt
  check_at docs (Some files) told those = λ ids tells.
      let keys = map bucket_of ids in
      let same = told_buckets (Some files) place count rows (λ keys. parts ≡ parts_of keys o) told ids tells in
      let are = told_buckets (Some files) place count rows (λ keys. AreThose (has_doc (entries_in (buckets_for count) keys (parts.before ∷ parts.after ∷ []))) docs) those ids tells in
      check_those count low high o ids docs read.overlap tells.0.0 (subst (λ (p : BucketParts). AreThose (has_doc (entries_in (buckets_for count) keys (p.before ∷ p.after ∷ []))) docs) same are)

  pub check_told : (h : Option Files) (docs : List ℕ) → h ≡ held → Told h place n rows (λ keys. AreThose (has_doc (entries_in n keys (parts.before ∷ parts.after ∷ []))) docs)
      → IfSome held (λ files. (ids : List ℕ) → TellsRanged count rows (section files place) ids → AreThose (is_to_check count low high ids) docs)
  check_told h docs same those =
      check_at docs held parted
      (subst (λ m. Told held place m rows (λ keys. AreThose (has_doc (entries_in m keys (parts.before ∷ parts.after ∷ []))) docs)) read.number
      (subst (λ f. Told f place n rows (λ keys. AreThose (has_doc (entries_in n keys (parts.before ∷ parts.after ∷ []))) docs)) same those))

  -- what was read
  offsets_log : LogsOver place.file (bucket_offsets place.offset low high ∷ []) old now
  offsets_log =
      let from : place.offset + 4 * o.first ≡ place.offset + 4 * (low / 16) = omega (arith, read.overlap.first) in
      let to : place.offset + 4 * (o.end + 1) ≡ place.offset + 4 * (high / 16 + 2) = omega (arith, read.overlap.end) in
      (now, subst (λ k. LogsOn place.file (place.offset + 4 * (low / 16)) k old now) to (subst (λ k. LogsOn place.file k (place.offset + 4 * (o.end + 1)) old now) from read.log), refl)

  pub sure_partly : (new : Option (List Entry)) → LogsPartly place.file (map (entries_at place.offset n) (parts.sure ∷ [])) now new → LogsBucketsPartly held place count rows low high old new
  sure_partly new logs =
      let own = subst (λ m. LogsPartly place.file (map (entries_at place.offset m) (parts.sure ∷ [])) now new) read.number logs in
      let at = entries_at place.offset (buckets_for count) in
      inr (
        parts,
        bucket_parts,
        partly_join place.file (bucket_offsets place.offset low high ∷ []) (map at (in_turn parts)) old now new offsets_log
            (partly_more place.file (at parts.sure) (at parts.before ∷ at parts.after ∷ []) now new own),
      )

  pub outer_partly : (next new : Option (List Entry)) → LogsOver place.file (map (entries_at place.offset n) (parts.sure ∷ [])) now next
      → LogsPartly place.file (map (entries_at place.offset n) (parts.before ∷ parts.after ∷ [])) next new → LogsBucketsPartly held place count rows low high old new
  outer_partly next new sure logs =
      let own = subst (λ m. LogsOver place.file (map (entries_at place.offset m) (parts.sure ∷ [])) now next) read.number sure in
      let rest = subst (λ m. LogsPartly place.file (map (entries_at place.offset m) (parts.before ∷ parts.after ∷ [])) next new) read.number logs in
      let at = entries_at place.offset (buckets_for count) in
      inr (
        parts,
        bucket_parts,
        partly_join place.file (bucket_offsets place.offset low high ∷ []) (map at (in_turn parts)) old now new offsets_log
            (partly_join place.file (at parts.sure ∷ []) (at parts.before ∷ at parts.after ∷ []) now next new own rest),
      )

  pub all_logs : (next new : Option (List Entry)) → LogsOver place.file (map (entries_at place.offset n) (parts.sure ∷ [])) now next
      → LogsOver place.file (map (entries_at place.offset n) (parts.before ∷ parts.after ∷ [])) next new → LogsBuckets held place count rows low high old new
  all_logs next new sure logs =
      let own = subst (λ m. LogsOver place.file (map (entries_at place.offset m) (parts.sure ∷ [])) now next) read.number sure in
      let rest = subst (λ m. LogsOver place.file (map (entries_at place.offset m) (parts.before ∷ parts.after ∷ [])) next new) read.number logs in
      let at = entries_at place.offset (buckets_for count) in (
        parts,
        bucket_parts,
        over_join place.file (bucket_offsets place.offset low high ∷ []) (map at (in_turn parts)) old now new offsets_log
            (over_join place.file (at parts.sure ∷ []) (at parts.before ∷ at parts.after ∷ []) now next new own rest),
      )
