-- Marks of the rows of a block, a bit for each, of 64 rows a word, and the places of the rows that
-- are marked.
use Rattle.std.specs.Prelude.{◌≡◌, ◌≤◌, ◌<◌, ◌+◌, ◌*◌, ◌^◌, ◌/◌, ◌%◌, ◌&&◌, ◌||◌, ◌==◌, ℕ, zero, suc, Bool, List, [], ◌∷◌, ◌++◌, cond, length, get_or, take, nat_le, nat_lt}
use Rattle.std.specs.Int.{bit_at}
use Rattle.value_ids.specs.Ids.{has_id}
use Rattle.coded_scan.specs.declared.id_run.IdRun.{IdRun}

-- an id is one of a run of ids, from its first to its last
abbrev pub is_between : ℕ → ℕ → ℕ → Bool
is_between first last id = nat_le first id && nat_le id last

-- from one of some ids on they are those of a run, each of which follows the one before
pub record IsRunAt (ids : List ℕ) (start : ℕ) (run : IdRun) : Type 0 where
  pub within : start + run.more < length ids
  pub fits : run.first + run.more < 2 ^ 32
  pub each : (id : ℕ) → has_id (take (start + run.more + 1) ids) id
      ≡ (has_id (take start ids) id || is_between run.first (run.first + run.more) id)

-- a row is one of so many of which it holds
abbrev pub is_marked : ℕ → (ℕ → Bool) → ℕ → Bool
is_marked many holds row = nat_lt row many && holds row

-- the bits of a word say of 64 rows from one on whether it holds
pub record HasMarks (holds : ℕ → Bool) (from word : ℕ) : Type 0 where
  pub each : (i : ℕ) → i < 64 → bit_at word i ≡ cond (holds (from + i)) 1 0

-- a word of so many marks has one more
pub record IsWithMark (at : ℕ) (mark : Bool) (old new : ℕ) : Type 0 where
  pub small : new < 2 ^ (at + 1)
  pub same : (i : ℕ) → i < at → bit_at new i ≡ bit_at old i
  pub last : bit_at new at ≡ cond mark 1 0

-- there are words for the marks of so many rows
pub record HasWords (many : ℕ) (words : List ℕ) : Type 0 where
  pub enough : many ≤ 64 * length words
  pub few : 64 * length words < 2 ^ 32

-- the words have the marks of so many rows, and no others
pub record AreMarks (many : ℕ) (holds : ℕ → Bool) (words : List ℕ) : Type 0 where
  pub enough : many ≤ 64 * length words
  pub each : (j : ℕ) → j < length words → HasMarks (is_marked many holds) (64 * j)
      (get_or words j 0)

-- the words have marks of so many rows
pub record HaveMarks (many : ℕ) (words : List ℕ) : Type 0 where
  pub holds : ℕ → Bool
  pub are : AreMarks many holds words

-- the places of the ones among so many digits of a number, the least digit first, from one on
unfoldable pub ones : ℕ → ℕ → ℕ → List ℕ
ones from zero number = []
ones from (suc count) number = cond (number % 2 == 1) (from ∷ []) []
    ++ ones (from + 1) count (number / 2)

-- those of so many words, of which the first begins with this place
abbrev pub ones_in : ℕ → List ℕ → ℕ → List ℕ
ones_in from words zero = []
ones_in from words (suc count) = ones_in from words count
    ++ ones (from + 64 * count) 64 (get_or words count 0)
