-- Postings: the places of each key in a column, as a section has them. The keys of an inverted
-- index are ids, and those of a range index buckets of ids.
use Rattle.std.specs.Prelude.{ℕ, zero, suc, ◌+◌, ◌/◌, ◌==◌, List, [], ◌++◌, length, map}
use Rattle.std.specs.List.{filter, enumerate_from, range_with_len}
use Rattle.bit_column.specs.Column.{spelled, id_at, ids_between}

-- the places of a key, ascending, where the first of the keys has that place
abbrev pub places_from : ℕ → ℕ → List ℕ → List ℕ
places_from place key keys = map (λ e. e.0) (filter (λ e. e.1 == key) (enumerate_from place keys))

-- the places of a key in a list
abbrev pub places_of : ℕ → List ℕ → List ℕ
places_of key keys = places_from 0 key keys

-- the places of the keys below a number, key by key
abbrev pub entries : ℕ → List ℕ → List ℕ
entries zero keys = []
entries (suc key) keys = entries key keys ++ places_of key keys

-- how many entries stand before those of a key
abbrev pub offset : List ℕ → ℕ → ℕ
offset keys key = length (entries key keys)

-- where the entries of each key begin, and where the last ones end
abbrev pub offsets : ℕ → List ℕ → List ℕ
offsets count keys = map (offset keys) (range_with_len 0 (count + 1))

-- the offsets and the entries, in 32 bits each
abbrev pub postings : ℕ → List ℕ → List ℕ
postings count keys = spelled 32 (offsets count keys ++ entries count keys)

-- what the bytes of postings by so many keys say of one
abbrev pub entry_at : ℕ → ℕ → List ℕ → List ℕ
entry_at count key bytes = ids_between 32 (count + 1 + id_at 32 key bytes)
    (count + 1 + id_at 32 (key + 1) bytes) bytes

-- ---- the two indexes

-- the documents of each id, for a column of so many distinct values
abbrev pub inverted : ℕ → List ℕ → List ℕ
inverted count ids = postings count ids

-- sixteen ids are one bucket
abbrev pub bucket_of : ℕ → ℕ
bucket_of id = id / 16

-- how many buckets so many ids have
abbrev pub buckets_for : ℕ → ℕ
buckets_for count = (count + 15) / 16

-- the documents of each bucket of ids, for a column of so many distinct values
abbrev pub ranged : ℕ → List ℕ → List ℕ
ranged count ids = postings (buckets_for count) (map bucket_of ids)
