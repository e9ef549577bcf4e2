-- The segments whose files are published.
use Rattle.std.specs.Prelude.{◌≡◌, ◌<◌, ◌≤◌, ◌-◌, ℕ, Bool, ◌&&◌, Option, Some, None, IfSome, List, [], ◌∷◌, ◌++◌, take, is_some, if◌then◌else◌, length}
use Rattle.std.specs.FinMap as map
use Rattle.std.specs.List.{list_any}
use Rattle.std.specs.List.Sorted.{IsStrictlySortedBy}
use Rattle.std.specs.Ordering.{eq_by_cmp}
use Rattle.outside.specs.Files.{Files, name_order}
use Rattle.segment_file.specs.Names.{file_of, is_segment_name}

-- the most segments of a store
abbrev pub most_segments : ℕ
most_segments = 512

-- whether there is a segment of this name: its file is there
abbrev pub has_segment : Files → List ℕ → Bool
has_segment files name = is_segment_name name && is_some (map.get files (file_of name))

-- where files are told, that of a segment of this name is there
abbrev pub HasSegment : Option Files → List ℕ → Type 0
HasSegment told name = IfSome told (λ files. (bytes : List ℕ)
    × (map.get files (file_of name) ≡ Some bytes))

-- where files are told, there is no such file
abbrev pub LacksSegment : Option Files → List ℕ → Type 0
LacksSegment told name = IfSome told (λ files. map.get files (file_of name) ≡ None)

-- the names of all segments, ascending
pub record AreNames (files : Files) (names : List (List ℕ)) : Type 0 where
  pub ascend : IsStrictlySortedBy name_order names
  pub those : (name : List ℕ) → list_any (eq_by_cmp name_order name) names ≡ has_segment files name

-- the first of them, where there are more than the most
abbrev pub AreFirstNames : Files → List (List ℕ) → Type 0
AreFirstNames files names = (all : List (List ℕ)) × AreNames files all
    × (names ≡ take most_segments all)

-- there are fewer segments than the most
abbrev pub HasRoom : Files → Type 0
HasRoom files = (all : List (List ℕ)) × AreNames files all × (length all < most_segments)

-- there are as many segments as there may be, or more
abbrev pub IsFull : Files → Type 0
IsFull files = (all : List (List ℕ)) × AreNames files all × (most_segments ≤ length all)

-- ---- files by their names

-- a name without its last four bytes
abbrev pub stem : List ℕ → List ℕ
stem name = take (length name - 4) name

-- whether a file has a segment's name, and its ending
abbrev pub is_segment_file : List ℕ → Bool
is_segment_file file = eq_by_cmp name_order file (file_of (stem file))
    && is_segment_name (stem file)

-- the name of the segment whose file has this name, if it is one's
abbrev pub name_in : List ℕ → List (List ℕ)
name_in file = if is_segment_file file then stem file ∷ [] else []

-- the names of the segments that have these files
abbrev pub names_among : List (List ℕ) → List (List ℕ)
names_among [] = []
names_among (file ∷ files) = name_in file ++ names_among files
