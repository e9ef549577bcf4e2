-- The settings of star-trees.
use Rattle.std.specs.Prelude.{ℕ, ◌+◌, ◌*◌, Bool, false, nat_le, List, [], ◌∷◌, map, length, codes, Option, Some, None, if◌then◌else◌}
use Rattle.serde_json.specs.Data.{Data}
use Rattle.agg_laws.specs.declared.tree_shape.TreeShape.{TreeShape}
use Rattle.table_schema.specs.declared.field.Field.{Field}
use Rattle.table_schema.specs.declared.query.Agg.{Agg}
use Rattle.table_schema.specs.declared.settings.TreeSetting.{TreeSetting}
use Rattle.json_keys.specs.declared.fault.KeyKind.TheVariants.{MissingKey, WrongKind, UnknownColumn, DuplicateColumn, TooMany}
use Rattle.json_keys.specs.declared.fault.TextFault.TheVariants.{At}
use Rattle.table_schema.specs.Names.{Text}
use Rattle.json_keys.specs.Json.{key_of, array_of}
use Rattle.json_keys.specs.Faults.{Finding, below, at_place, fault_unless, fault_if}
use Rattle.json_keys.specs.Keys.{required, object_finding, text_finding, unused_key, optional_array, items_at}
use Rattle.table_schema.specs.Columns.{number_of, is_member}
use Rattle.json_keys.specs.NamedColumns.{text_of, numbers_of, column_finding}
use Rattle.json_keys.specs.Leaf.{leaf_finding, leaf_of}
use Rattle.settings_parts.specs.Pairs.{pairs_of, pairs_finding}
use Rattle.table_schema.specs.Firsts.{first_of, by_place}

-- ---- arrays that are not empty

-- the value has to be an array with one item or more
abbrev pub some_items : Text → Option (List Data) → Finding
some_items path None = Some (At WrongKind path)
some_items path (Some []) = Some (At MissingKey path)
some_items path (Some (d ∷ ds)) = None

-- the key has to be there, with such an array
abbrev pub needed_array : Text → Text → Data → Finding
needed_array base key d = required (below base key) (λ v. some_items (below base key) (array_of v))
    (key_of key d)

-- ---- the split order

-- there is a number, and it is in the list
abbrev pub has_number : List ℕ → Option ℕ → Bool
has_number ns None = false
has_number ns (Some n) = is_member ns n

-- the field of that name is in this split order
abbrev pub is_taken : List Field → List ℕ → Text → Bool
is_taken fields split name = has_number split (number_of fields name)

-- a place has the name of a field that no place before it has
abbrev pub split_place : List Field → Text → List ℕ → Data → Finding
split_place fields path split d = first_of (
    column_finding fields path d
    ∷ fault_if (is_taken fields split (text_of d)) DuplicateColumn path
    ∷ [])

-- each place of the split order is so
abbrev pub split_places : List Field → Text → List Data → Finding
split_places fields path ds = by_place (λ before d. split_place fields
    (at_place path (length before)) (numbers_of fields before) d) [] ds

-- the key of the dimensions of a star-tree, from the root of the tree down
abbrev pub SPLIT_KEY : Text
SPLIT_KEY = codes "dimensionsSplitOrder"

-- the split order is there and has 1 to 16 fields, none of them twice
abbrev pub split_finding : List Field → Text → Data → Finding
split_finding fields base d = first_of (
    needed_array base SPLIT_KEY d
    ∷ fault_unless (nat_le (length (items_at SPLIT_KEY d)) 16) TooMany (below base SPLIT_KEY)
    ∷ split_places fields (below base SPLIT_KEY) (items_at SPLIT_KEY d)
    ∷ [])

-- the numbers of the split dimensions, in their order
abbrev pub split_of : List Field → Data → List ℕ
split_of fields d = numbers_of fields (items_at SPLIT_KEY d)

-- ---- the dimensions for which no star child is made

-- a place has the name of a split dimension of the same tree
abbrev pub skip_place : List Field → Text → List ℕ → Data → Finding
skip_place fields path split d = first_of (
    text_finding path d
    ∷ fault_unless (is_taken fields split (text_of d)) UnknownColumn path
    ∷ [])

-- each place of the array is so
abbrev pub skip_places : List Field → Text → List ℕ → List Data → Finding
skip_places fields path split ds = by_place (λ before d. skip_place fields
    (at_place path (length before)) split d) [] ds

-- the key of the split dimensions on which nodes have no star child
abbrev pub SKIP_KEY : Text
SKIP_KEY = codes "skipStarNodeCreationForDimensions"

-- where the key is there, it has an array of names of split dimensions
abbrev pub skip_finding : List Field → Text → List ℕ → Data → Finding
skip_finding fields base split d = first_of (
    optional_array base SKIP_KEY d
    ∷ skip_places fields (below base SKIP_KEY) split (items_at SKIP_KEY d)
    ∷ [])

-- the numbers of the fields that it names
abbrev pub skips_of : List Field → Data → List ℕ
skips_of fields d = numbers_of fields (items_at SKIP_KEY d)

-- bit i says whether split dimension i is named
abbrev pub bits_of : List ℕ → List ℕ → ℕ
bits_of skipped [] = 0
bits_of skipped (n ∷ split) = (if is_member skipped n then 1 else 0) + 2 * bits_of skipped split

-- ---- the pairs

-- the key of the aggregates that a star-tree keeps, such as `SUM__clicks`
abbrev pub PAIRS_KEY : Text
PAIRS_KEY = codes "functionColumnPairs"

-- the key is there and each item is a pair; at most 16 of them differ
abbrev pub tree_pairs_finding : List Field → Text → Data → Finding
tree_pairs_finding fields base d = first_of (
    needed_array base PAIRS_KEY d
    ∷ pairs_finding fields (below base PAIRS_KEY) (items_at PAIRS_KEY d)
    ∷ [])

-- the pairs of a tree, each once
abbrev pub tree_pairs_of : List Field → Data → List Agg
tree_pairs_of fields d = pairs_of fields (items_at PAIRS_KEY d)

-- ---- the tree

-- the checks of one star-tree, whose aggregates are given by pairs and not by `aggregationConfigs`
abbrev pub tree_finding : List Field → Text → Data → Finding
tree_finding fields base d = first_of (
    object_finding base d
    ∷ unused_key base (codes "aggregationConfigs") d
    ∷ split_finding fields base d
    ∷ skip_finding fields base (split_of fields d) d
    ∷ tree_pairs_finding fields base d
    ∷ leaf_finding base d
    ∷ [])

-- how many dimensions a tree has, which have no star children, its leaf size and its functions
abbrev pub shape_of : List Field → Data → TreeShape
shape_of fields d = record {
  dims = length (split_of fields d);
  skipped = bits_of (skips_of fields d) (split_of fields d);
  leaf = leaf_of d;
  kinds = map (λ p. p.kind) (tree_pairs_of fields d);
}

-- the star-tree that an object describes
abbrev pub tree_of : List Field → Data → TreeSetting
tree_of fields d = record {
  split = split_of fields d;
  pairs = tree_pairs_of fields d;
  shape = shape_of fields d;
}

-- the key of the array of star-trees
abbrev pub TREES_KEY : Text
TREES_KEY = codes "starTreeIndexConfigs"

-- each item of the array describes a star-tree
abbrev pub tree_places : List Field → Text → List Data → Finding
tree_places fields path ds = by_place (λ before d. tree_finding fields
    (at_place path (length before)) d) [] ds

-- where the key is there, it has an array of at most 8 star-trees
abbrev pub trees_finding : List Field → Text → Data → Finding
trees_finding fields base d = first_of (
    optional_array base TREES_KEY d
    ∷ fault_unless (nat_le (length (items_at TREES_KEY d)) 8) TooMany (below base TREES_KEY)
    ∷ tree_places fields (below base TREES_KEY) (items_at TREES_KEY d)
    ∷ [])

-- the star-trees in their order, none where the key is absent
abbrev pub trees_of : List Field → Data → List TreeSetting
trees_of fields d = map (tree_of fields) (items_at TREES_KEY d)
