-- Files by their names, where a device tells them.
use Rattle.std.specs.Prelude.{◌≡◌, ◌≢◌, ◌<◌, ℕ, List, [], length, take, drop, Option, Some, None, option_map, IfSome, IsSomeAnd, MatchOption, fold, unwrap_or}
use Rattle.std.specs.Option.{option_and_then}
use Rattle.std.specs.Ordering.{nat_cmp}
use Rattle.std.specs.declared.cmp.Ordering.{Ordering}
use Rattle.std.specs.Cmp.Lexicographic.{slice_cmp}
use Rattle.std.specs.FinMap as map

-- names ascend by their bytes
abbrev pub name_order : List ℕ → List ℕ → Ordering
name_order = slice_cmp nat_cmp

-- the bytes of files, by name
abbrev pub Files : Type 0
Files = map.FinMap name_order (List ℕ)

-- where files are told, one has this name, and its bytes have P
abbrev pub OfFile : Option Files → List ℕ → (List ℕ → Type 0) → Type 0
OfFile told name P = IfSome told (λ files. (bytes : List ℕ) × (map.get files name ≡ Some bytes)
    × P bytes)

-- where files are told, one has this name
abbrev pub Has : Option Files → List ℕ → Type 0
Has told name = IfSome told (λ files. (bytes : List ℕ) × (map.get files name ≡ Some bytes))

-- where files are told, none has this name
abbrev pub Lacks : Option Files → List ℕ → Type 0
Lacks told name = IfSome told (λ files. map.get files name ≡ None)

-- where files are told, these are their names, which ascend
abbrev pub IsNames : Option Files → List (List ℕ) → Type 0
IsNames told names = IfSome told (λ files. names ≡ map.keys files)

-- where files are told, one has this name and so many bytes
abbrev pub IsLengthOf : Option Files → List ℕ → ℕ → Type 0
IsLengthOf told name n = OfFile told name (λ bytes. n ≡ length bytes)

-- the bytes that are told under this name, and none where there is no such file
abbrev pub bytes_of : Option Files → List ℕ → List ℕ
bytes_of told name = unwrap_or (option_and_then (λ files. map.get files name) told) []

-- the bytes of a file from an offset on, so many or up to its end; a file that is not there has
-- none
abbrev pub bytes_at : Files → List ℕ → ℕ → ℕ → List ℕ
bytes_at files name offset count = take count (drop offset (bytes_of (Some files) name))

-- where files are told, the one of this name ends before this offset
abbrev pub EndsBefore : Option Files → List ℕ → ℕ → Type 0
EndsBefore told name to = IfSome told (λ files. length (bytes_of (Some files) name) < to)

-- the told files with these bytes under this name
abbrev pub with_file : List ℕ → List ℕ → Option Files → Option Files
with_file name bytes told = option_map (λ files. map.insert files name bytes) told

-- the told files with nothing under this name
abbrev pub without_file : List ℕ → Option Files → Option Files
without_file name told = option_map (λ files. map.remove files name) told

-- the told files are as they were but for what is under this name
abbrev pub SameBut : List ℕ → Option Files → Option Files → Type 0
SameBut name before now =
    MatchOption before (now ≡ None) (λ old. IsSomeAnd now (λ new. (other : List ℕ) → other ≢ name
    → map.get new other ≡ map.get old other))

-- these files by name; of two with one name the last
abbrev pub files_of : List (List ℕ × List ℕ) → Files
files_of files = fold (λ before file. map.insert before file.0 file.1) map.empty files
