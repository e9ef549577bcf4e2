-- The sections of a segment's file as they are made, a column after the other.
use Rattle.std.specs.Prelude.{◌≡◌, ℕ, Bool, true, false, nat_lt, List, [], ◌∷◌, ◌++◌, length, map, take, Option, Some, None}
use Rattle.std.specs.List.{range_with_len}
use Rattle.values.specs.declared.value.Value.{Value}
use Rattle.table_schema.specs.declared.table.Table.{Table}
use Rattle.value_ids.specs.Dictionary.{Distinct, distinct}
use Rattle.dictionary.specs.Spelling.{spelling}
use Rattle.bit_column.specs.Column.{spelled, width_of}
use Rattle.bit_column.specs.Postings.{inverted, ranged}
use Rattle.bit_column.specs.SortedRuns.{sorted_runs}
use Rattle.segment_file.specs.declared.part.Part.TheVariants as parts
use Rattle.segment_file.specs.Bounds.{bounds_bytes, bounds_of, ends_of}
use Rattle.segment_file.specs.Image.{dictionary_of, place_of, section_of}
use Rattle.segment_file.specs.Parts.{marked}
use Rattle.segment_build.specs.declared.indexes.Indexes.{Indexes}

-- sections by their kinds: the bounds, of each column the dictionary and the forward index, where
-- ids are in the sorted and the inverted columns, and where buckets of ids are in those with a
-- range index
pub record Made : Type 0 where
  pub bounds : List ℕ
  pub dictionaries : List (List ℕ)
  pub forwards : List (List ℕ)
  pub runs : List (List ℕ)
  pub lists : List (List ℕ)
  pub ranges : List (List ℕ)

-- the ids of the values of a column
abbrev pub ids_in : List Value → List ℕ
ids_in values = map (place_of (distinct values)) values

-- one item, or none
abbrev pub only : {A : Type 0} → Bool → A → List A
only true item = item ∷ []
only false item = []

-- the sections with those of one more column, which has that dictionary, these ids and these
-- indexes
abbrev pub with_column : Distinct → List ℕ → Indexes → Made → Made
with_column d ids indexes made = record {
  bounds = made.bounds ++ bounds_bytes (ends_of d.values);
  dictionaries = made.dictionaries ++ spelling d ∷ [];
  forwards = made.forwards ++ spelled (width_of (length d.values)) ids ∷ [];
  runs = made.runs ++ only indexes.sorted (sorted_runs (length d.values) ids);
  lists = made.lists ++ only indexes.inverted (inverted (length d.values) ids);
  ranges = made.ranges ++ only indexes.ranged (ranged (length d.values) ids);
}

-- the sections with those that each column has: of one more column the bounds, the dictionary and
-- this forward index
abbrev pub with_plain : Distinct → List ℕ → Made → Made
with_plain d forward made = record {
  bounds = made.bounds ++ bounds_bytes (ends_of d.values);
  dictionaries = made.dictionaries ++ spelling d ∷ [];
  forwards = made.forwards ++ forward ∷ [];
  runs = made.runs;
  lists = made.lists;
  ranges = made.ranges;
}

-- a column has a dictionary and a forward index alone
pub record HasNone (indexes : Indexes) : Type 0 where
  pub sorted : indexes.sorted ≡ false
  pub inverted : indexes.inverted ≡ false
  pub ranged : indexes.ranged ≡ false

-- all sections in their order, with the nodes and the documents of the trees
abbrev pub in_order : Made → List (List ℕ) → List (List ℕ) → List (List ℕ)
in_order made nodes stars = made.bounds ∷ ((made.dictionaries ++ nodes)
    ++ ((made.forwards ++ (made.runs ++ (made.lists ++ made.ranges))) ++ stars))

-- the sorted column, if it is among the first so many
abbrev pub sorted_among : ℕ → Option ℕ → List ℕ
sorted_among count None = []
sorted_among count (Some column) = only (nat_lt column count) column

-- the sections of the first so many columns of rows
abbrev pub made_of : Table → List (List Value) → ℕ → Made
made_of table rows count =
    let columns = range_with_len 0 count in
    record {
      bounds = bounds_bytes (bounds_of (map (dictionary_of table rows) columns));
      dictionaries = map (λ c. section_of table rows (parts.Dictionary c)) columns;
      forwards = map (λ c. section_of table rows (parts.Forward c)) columns;
      runs = map (λ c. section_of table rows (parts.Sorted c))
          (sorted_among count table.settings.sorted);
      lists = map (λ c. section_of table rows (parts.Inverted c))
          (marked (take count table.settings.inverted));
      ranges = map (λ c. section_of table rows (parts.Range c))
          (marked (take count table.settings.ranged));
    }
