-- What steps of the machine of cursors leave of its live and of its kept lists.
use Rattle.std.proofs.Common.{◌≡◌, ◌+◌, ◌-◌, ◌<◌, ◌++◌, ℕ, Bool, true, false, cond, nat_eq, nat_le, List, [], ◌∷◌, filter, length, Option, Some, None, Ok, Err, refl, sym, subst, take, arith, is_some}
use Rattle.std.specs.FinMap as finite
use Rattle.std.specs.List.{AllByRecursion}
use Rattle.values.specs.declared.value.Value.{Value}
use Rattle.table_schema.specs.declared.query.BoundQuery.{BoundQuery}
use Rattle.broker_merge.specs.Reply as groups
use Rattle.cursor_serve.specs.Machine as machine
use Rattle.cursor_serve.specs.Machine.{After, Cursor, KeptList, Machine, Refusal, Version, built, closed, closed_by, cursor_reply, dropped, dropped_by, fetched, fetched_as, fetched_by, is_awaited, is_held, is_over, kept_with, left_of, lists_of, most_cursors, most_segments, moved, opened, refused, replaced, replaced_by, rows_of, stepped, stepped_by, with_list}
use Rattle.cursor_serve.proofs.SoundLemmas.{all_joined, all_so}
use Rattle.serve_lines.specs.Kept.{AreBefore}

-- the same lists are live, and the same kept
abbrev pub IsStill : Machine → Machine → Type 0
IsStill m n = (n.live ≡ m.live) × (n.kept ≡ m.kept)

-- ---- a cursor

abbrev with_new : List ℕ → BoundQuery → Machine → After ℕ
with_new name query m = record {
  answer = Ok (length (lists_of m.live));
  machine = record m {
    cursors = finite.insert m.cursors name (record { query = query; lists = lists_of m.live; answered = 0 });
  };
}

opens_by : (name : List ℕ) (query : BoundQuery) (m : Machine) (a b : Bool) → IsStill m (cond a (refused machine.CursorTaken m) (cond b (refused machine.TooManyCursors m) (with_new name query m))).machine
opens_by name query m true b = (refl, refl)
opens_by name query m false true = (refl, refl)
opens_by name query m false false = (refl, refl)

pub opened_still : (name : List ℕ) (query : BoundQuery) (m : Machine) → IsStill m (opened name query m).machine
opened_still name query m = opens_by name query m (is_some (finite.get m.cursors name)) (nat_le most_cursors (finite.len m.cursors))

abbrev with_next : List ℕ → Cursor → Machine → After ℕ
with_next name cursor m = record {
  answer = Ok (left_of cursor - 1);
  machine = moved name cursor (cursor.answered + 1) m;
}

steps_on : (name : List ℕ) (cursor : Cursor) (m : Machine) (a b : Bool) → IsStill m (cond a (record { answer = Ok 0; machine = m }) (cond b (refused machine.TooManyGroups m) (with_next name cursor m))).machine
steps_on name cursor m true b = (refl, refl)
steps_on name cursor m false true = (refl, refl)
steps_on name cursor m false false = (refl, refl)

steps_by : (name : List ℕ) (m : Machine) (o : Option Cursor) → IsStill m (stepped_by name o m).machine
steps_by name m None = (refl, refl)
steps_by name m (Some cursor) = steps_on name cursor m (nat_eq (left_of cursor) 0) (is_over cursor.query (rows_of (take (cursor.answered + 1) cursor.lists)))

pub stepped_still : (name : List ℕ) (m : Machine) → IsStill m (stepped name m).machine
stepped_still name m = steps_by name m (finite.get m.cursors name)

fetches_as : (name : List ℕ) (cursor : Cursor) (m : Machine) (reply : groups.Reply) → IsStill m (fetched_as name cursor m reply).machine
fetches_as name cursor m groups.TooManyGroups = (refl, refl)
fetches_as name cursor m (groups.Answers text) = (refl, refl)

fetches_by : (name : List ℕ) (m : Machine) (o : Option Cursor) → IsStill m (fetched_by name o m).machine
fetches_by name m None = (refl, refl)
fetches_by name m (Some cursor) = fetches_as name cursor m (cursor_reply cursor.query (rows_of cursor.lists))

pub fetched_still : (name : List ℕ) (m : Machine) → IsStill m (fetched name m).machine
fetched_still name m = fetches_by name m (finite.get m.cursors name)

closes_live : (name : List ℕ) (m : Machine) (o : Option Cursor) → (closed_by name o m).machine.live ≡ m.live
closes_live name m None = refl
closes_live name m (Some cursor) = refl

pub closed_live : (name : List ℕ) (m : Machine) → (closed name m).machine.live ≡ m.live
closed_live name m = closes_live name m (finite.get m.cursors name)

-- ---- lines before

pub before_next : (number : ℕ) (kept : List KeptList) → AllByRecursion (λ k. k.line < number) kept → AllByRecursion (λ k. k.line < number + 1) kept
before_next number kept all = all_so (λ (k : KeptList). k.line < number) (λ (k : KeptList). k.line < number + 1) (λ k lt. omega (arith, lt)) kept all

pub before_still : (number : ℕ) (m n : Machine) → IsStill m n → AreBefore number m → AreBefore (number + 1) n
before_still number m n still all = subst (AllByRecursion (λ k. k.line < number + 1)) (sym still.1) (before_next number m.kept all)

all_filtered : {X : Type 0} (p : X → Bool) (P : X → Type 0) (xs : List X) → AllByRecursion P xs → AllByRecursion P (filter p xs)
all_filtered p P [] all = tt
all_filtered p P (x ∷ xs) all = by (p x) (all_filtered p P xs all.1)
  where
    by : (b : Bool) → AllByRecursion P (filter p xs) → AllByRecursion P (cond b (x ∷ filter p xs) (filter p xs))
    by true rest = (all.0, rest)
    by false rest = rest

closes_before : (number : ℕ) (name : List ℕ) (m : Machine) (o : Option Cursor) → AreBefore number m → AreBefore (number + 1) (closed_by name o m).machine
closes_before number name m None all = before_next number m.kept all
closes_before number name m (Some cursor) all = all_filtered (λ k. is_held k.listed.version.number (finite.remove m.cursors name)) (λ k. k.line < number + 1) m.kept (before_next number m.kept all)

pub closed_before : (number : ℕ) (name : List ℕ) (m : Machine) → AreBefore number m → AreBefore (number + 1) (closed name m).machine
closed_before number name m all = closes_before number name m (finite.get m.cursors name) all

-- one list more is kept at the line of this number, or none
kept_before : (number : ℕ) (name : List ℕ) (version : Version) (m : Machine) (b : Bool) → AreBefore number m
    → AllByRecursion (λ k. k.line < number + 1) (cond b (m.kept ++ record { listed = record { name = name; version = version }; line = number } ∷ []) m.kept)
kept_before number name version m true all = all_joined (λ k. k.line < number + 1) m.kept (record { listed = record { name = name; version = version }; line = number } ∷ []) (before_next number m.kept all) (omega arith, tt)
kept_before number name version m false all = before_next number m.kept all

drops_before : (number : ℕ) (name : List ℕ) (m : Machine) (o : Option Version) → AreBefore number m → AreBefore (number + 1) (dropped_by number name o m).machine
drops_before number name m None all = before_next number m.kept all
drops_before number name m (Some version) all = kept_before number name version m (is_awaited version.number m.cursors) all

pub dropped_before : (number : ℕ) (name : List ℕ) (m : Machine) → AreBefore number m → AreBefore (number + 1) (dropped number name m).machine
dropped_before number name m all = drops_before number name m (finite.get m.live name) all

drops_still : (number : ℕ) (name : List ℕ) (m : Machine) (why : Refusal) (o : Option Version) → (dropped_by number name o m).answer ≡ Err why → (dropped_by number name o m).machine.live ≡ m.live
drops_still number name m why None is = refl
drops_still number name m why (Some version) is = absurd cc

pub dropped_still : (number : ℕ) (name : List ℕ) (m : Machine) (why : Refusal) → (dropped number name m).answer ≡ Err why → (dropped number name m).machine.live ≡ m.live
dropped_still number name m why is = drops_still number name m why (finite.get m.live name) is

replaces_before : (number : ℕ) (name : List ℕ) (rows : List (List Value)) (m : Machine) (o : Option Version) → AreBefore number m → AreBefore (number + 1) (replaced_by number name rows o m).machine
replaces_before number name rows m None all = before_next number m.kept all
replaces_before number name rows m (Some version) all = kept_before number name version m (is_awaited version.number m.cursors) all

pub replaced_before : (number : ℕ) (name : List ℕ) (rows : List (List Value)) (m : Machine) → AreBefore number m → AreBefore (number + 1) (replaced number name rows m).machine
replaced_before number name rows m all = replaces_before number name rows m (finite.get m.live name) all

replaces_still : (number : ℕ) (name : List ℕ) (rows : List (List Value)) (m : Machine) (why : Refusal) (o : Option Version) → (replaced_by number name rows o m).answer ≡ Err why → (replaced_by number name rows o m).machine.live ≡ m.live
replaces_still number name rows m why None is = refl
replaces_still number name rows m why (Some version) is = absurd cc

pub replaced_still : (number : ℕ) (name : List ℕ) (rows : List (List Value)) (m : Machine) (why : Refusal) → (replaced number name rows m).answer ≡ Err why → (replaced number name rows m).machine.live ≡ m.live
replaced_still number name rows m why is = replaces_still number name rows m why (finite.get m.live name) is
