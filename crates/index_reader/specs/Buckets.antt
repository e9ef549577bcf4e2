-- Buckets of ids that lie within bounds or overlap them in part, and what is read of a range index
-- for them.
use Rattle.std.specs.Prelude.{◌≡◌, ◌≤◌, ◌<◌, ◌⊎◌, ℕ, Bool, true, false, ◌+◌, ◌-◌, ◌*◌, ◌/◌, min, not, ◌&&◌, ◌||◌, nat_le, nat_lt, List, [], ◌∷◌, Option, All, IfSome, length, map, get_or}
use Rattle.outside.specs.Files.{Files}
use Rattle.outside.specs.Reads.{Entry}
use Rattle.outside.specs.declared.place.Place.{Place}
use Rattle.bit_column.specs.Postings.{bucket_of, buckets_for, offset}
use Rattle.bit_column.specs.Sections.{section}
use Rattle.index_reader.specs.Documents.{TellsRanged}
use Rattle.index_reader.specs.Entries.{Rising, entries_at, part_between}
use Rattle.outside.specs.Stretches.{LogsOver, LogsPartly, Stretch}
use Rattle.index_reader.specs.declared.buckets.Overlap.{Overlap}
use Rattle.index_reader.specs.declared.buckets.BucketParts.{BucketParts}
use Rattle.index_reader.specs.declared.ends.Ends.{Ends}

-- the least id of a bucket, and the greatest one that there is
abbrev pub least_id : ℕ → ℕ
least_id bucket = 16 * bucket

-- the greatest id of a bucket; the last bucket may have fewer than sixteen
abbrev pub greatest_id : ℕ → ℕ → ℕ
greatest_id count bucket = min (16 * bucket + 15) (count - 1)

-- whether all ids of a bucket are within bounds
abbrev pub lies_within : ℕ → ℕ → ℕ → ℕ → Bool
lies_within count low high bucket = nat_le low (least_id bucket)
    && nat_le (greatest_id count bucket) high

-- whether some id of a bucket is
abbrev pub overlaps : ℕ → ℕ → ℕ → ℕ → Bool
overlaps count low high bucket = nat_le low (greatest_id count bucket)
    && nat_le (least_id bucket) high

-- whether a document is one of the rows, whose ids these are, and its id is within bounds for sure:
-- all ids of its bucket are
abbrev pub is_sure : ℕ → ℕ → ℕ → List ℕ → ℕ → Bool
is_sure count low high ids doc = nat_lt doc (length ids) && lies_within count low high
    (bucket_of (get_or ids doc 0))

-- whether its id is to be checked: some ids of its bucket are within bounds, and some are not
abbrev pub is_to_check : ℕ → ℕ → ℕ → List ℕ → ℕ → Bool
is_to_check count low high ids doc =
    let bucket = bucket_of (get_or ids doc 0) in
    nat_lt doc (length ids) && (overlaps count low high bucket
    && not (lies_within count low high bucket))

-- ---- laws

-- no document that is sure is to be checked
abbrev pub NoneTwice : Type 0
NoneTwice = (count low high : ℕ) (ids : List ℕ) (doc : ℕ) → is_sure count low high ids doc ≡ true
    → is_to_check count low high ids doc ≡ false

-- a document that is sure has an id within the bounds
abbrev pub SureWithin : Type 0
SureWithin = (count low high : ℕ) (ids : List ℕ) (doc : ℕ) → All (λ id. id < count) ids
    → is_sure count low high ids doc ≡ true →
    (low ≤ get_or ids doc 0) × (get_or ids doc 0 ≤ high)

-- a document whose id is within the bounds is sure or to be checked
abbrev pub NoneLeft : Type 0
NoneLeft = (count low high : ℕ) (ids : List ℕ) (doc : ℕ) → All (λ id. id < count) ids
    → doc < length ids → low ≤ get_or ids doc 0 → get_or ids doc 0 ≤ high →
    is_sure count low high ids doc || is_to_check count low high ids doc ≡ true

-- ---- the buckets that overlap bounds, and their entries

-- whether a bucket is one from one up to another
abbrev pub is_from_to : ℕ → ℕ → ℕ → Bool
is_from_to from to bucket = nat_le from bucket && nat_lt bucket to

-- the buckets that overlap bounds follow one another, and those that lie within them do
pub record IsOverlap (count low high : ℕ) (o : Overlap) : Type 0 where
  pub first : o.first ≡ low / 16
  pub end : o.end ≡ high / 16 + 1
  pub before : o.first ≤ o.sure_from
  pub sure : o.sure_from ≤ o.sure_to
  pub after : o.sure_to ≤ o.end
  pub at_most : o.end ≤ buckets_for count
  pub inside : (bucket : ℕ) → bucket < buckets_for count → lies_within count low high bucket
      ≡ is_from_to o.sure_from o.sure_to bucket
  pub outer : (bucket : ℕ) → bucket < buckets_for count → overlaps count low high bucket
      ≡ is_from_to o.first o.end bucket

-- numbers that were read, as the places where parts of entries begin and end
abbrev pub parts_in : List ℕ → Overlap → BucketParts
parts_in words o =
    let from = get_or words 0 0 in
    let sure = get_or words (o.sure_from - o.first) 0 in
    let after = get_or words (o.sure_to - o.first) 0 in
    let end = get_or words (o.end - o.first) 0 in
    record {
      before = record { first = from; last = sure };
      sure = record { first = sure; last = after };
      after = record { first = after; last = end };
    }

-- the parts of the entries of buckets
abbrev pub parts_of : List ℕ → Overlap → BucketParts
parts_of keys o = record {
  before = part_between keys o.first o.sure_from;
  sure = part_between keys o.sure_from o.sure_to;
  after = part_between keys o.sure_to o.end;
}

-- the parts in the order of the entries
abbrev pub in_place : BucketParts → List Ends
in_place parts = parts.before ∷ parts.sure ∷ parts.after ∷ []

-- the parts in the order in which they are read
abbrev pub in_turn : BucketParts → List Ends
in_turn parts = parts.sure ∷ parts.before ∷ parts.after ∷ []

-- where postings at an offset have the offsets of the buckets from that of an id to that of
-- another, and the one after these
abbrev pub bucket_offsets : ℕ → ℕ → ℕ → Stretch
bucket_offsets start low high = record {
  from = start + 4 * (low / 16);
  to = start + 4 * (high / 16 + 2);
}

-- parts that follow one another, which where the section is told are the entries of the buckets
-- from that of an id to that of another
abbrev pub AreBucketParts : Option Files → Place → ℕ → ℕ → ℕ → ℕ → BucketParts → Type 0
AreBucketParts held place count rows low high parts =
    Rising 0 rows (in_place parts) × (parts.before.last ≡ parts.sure.first)
    × (parts.sure.last ≡ parts.after.first)
    × IfSome held (λ files. (ids : List ℕ) → TellsRanged count rows (section files place) ids →
    (parts.before.first ≡ offset (map bucket_of ids) (low / 16))
    × (parts.after.last ≡ offset (map bucket_of ids) (high / 16 + 1)))

-- of a range index the offsets of the buckets that overlap bounds were read, and then the entries
-- of these buckets, with one read each: those of the buckets within the bounds, those before them
-- and those after them
abbrev pub LogsBuckets : Option Files → Place → ℕ → ℕ → ℕ → ℕ → Option (List Entry)
    → Option (List Entry) → Type 0
LogsBuckets held place count rows low high old new =
    (parts : BucketParts) × AreBucketParts held place count rows low high parts
    × LogsOver place.file (bucket_offsets place.offset low high
    ∷ map (entries_at place.offset (buckets_for count)) (in_turn parts)) old new

-- none or some of them were read
abbrev pub LogsBucketsPartly : Option Files → Place → ℕ → ℕ → ℕ → ℕ → Option (List Entry)
    → Option (List Entry) → Type 0
LogsBucketsPartly held place count rows low high old new =
    LogsPartly place.file (bucket_offsets place.offset low high ∷ []) old new
    ⊎ ((parts : BucketParts) × AreBucketParts held place count rows low high parts
    × LogsPartly place.file (bucket_offsets place.offset low high
    ∷ map (entries_at place.offset (buckets_for count)) (in_turn parts)) old new)
