-- A machine of cursors over lists of rows. There is no file, no pool and no plan in it: names stand
-- for lists of rows, each of which has a number of its own.
use Rattle.std.specs.Prelude.{ℕ, Bool, true, false, nat_eq, nat_le, nat_lt, ◌+◌, ◌-◌, List, [], ◌∷◌, ◌++◌, drop, filter, flat_map, length, map, take, Option, Some, None, is_some, Result, Ok, Err, if◌then◌else◌}
use Rattle.std.specs.FinMap as finite
use Rattle.std.specs.List.{list_any}
use Rattle.outside.specs.Files.{name_order}
use Rattle.values.specs.declared.value.Value.{Value}
use Rattle.table_schema.specs.Conditions.{all_hold}
use Rattle.table_schema.specs.declared.query.BoundQuery.{BoundQuery}
use Rattle.group_table.specs.Groups.{groups_of}
use Rattle.group_table.specs.Shape.{shape_of}
use Rattle.broker_merge.specs.Reply as groups

-- the most cursors that are open at once
abbrev pub most_cursors : ℕ
most_cursors = 16

-- the most groups of one cursor
abbrev pub most_cursor_groups : ℕ
most_cursor_groups = 10000

-- the most lists that are live at once
abbrev pub most_segments : ℕ
most_segments = 512

-- ---- what there is

-- a list of rows, with the number that it got as it was put in
pub record Version : Type 0 where
  pub number : ℕ
  pub rows : List (List Value)

-- a list under its name
pub record Listed : Type 0 where
  pub name : List ℕ
  pub version : Version

-- the lists that are live, by their names
abbrev pub Live : Type 0
Live = finite.FinMap name_order Version

-- a cursor: its query, the lists that were live at its open, by name, and how many of them it has
-- answered
pub record Cursor : Type 0 where
  pub query : BoundQuery
  pub lists : List Listed
  pub answered : ℕ

-- cursors by their names
abbrev pub Cursors : Type 0
Cursors = finite.FinMap name_order Cursor

-- a list that is kept, and the line that dropped or replaced it: some cursor had still to answer it
-- then, and some cursor was opened over it and is open still
pub record KeptList : Type 0 where
  pub listed : Listed
  pub line : ℕ

-- the live lists, the number that the next list gets, the cursors, and the lists that are kept
pub record Machine : Type 0 where
  pub live : Live
  pub next : ℕ
  pub cursors : Cursors
  pub kept : List KeptList

-- ---- the start

-- lists of rows with their names, numbered one after the other
abbrev pub numbered : ℕ → List (List ℕ × List (List Value)) → List (List ℕ × Version)
numbered number [] = []
numbered number (list ∷ lists) = (list.0, record { number = number; rows = list.1 })
    ∷ numbered (number + 1) lists

-- these lists, by their names, are live, and there is no cursor so far
abbrev pub started : List (List ℕ × List (List Value)) → Machine
started lists = record {
  live = finite.from_entries (numbered 0 lists);
  next = length lists;
  cursors = finite.empty;
  kept = [];
}

-- ---- what a cursor prints

-- the rows of lists, one list after the other
abbrev pub rows_of : List Listed → List (List Value)
rows_of lists = flat_map (λ listed. listed.version.rows) lists

-- the reply to a query over these rows, with the most groups of a cursor
abbrev pub cursor_reply : BoundQuery → List (List Value) → groups.Reply
cursor_reply query rows = groups.reply most_cursor_groups (λ row. all_hold row query.conjuncts)
    (shape_of query) rows

-- whether a query has more groups over these rows than a cursor may
abbrev pub is_over : BoundQuery → List (List Value) → Bool
is_over query rows = nat_lt most_cursor_groups (finite.len (groups_of (shape_of query)
    (filter (λ row. all_hold row query.conjuncts) rows)))

-- ---- steps

-- why a step is refused; nothing has changed then
pub data Refusal : Type 0 where
  CursorTaken : Refusal
  TooManyCursors : Refusal
  NoCursor : Refusal
  TooManyGroups : Refusal
  NameTaken : Refusal
  TooManySegments : Refusal
  NoSegment : Refusal

-- what a step answers, and the machine after it
pub record After (A : Type 0) : Type 0 where
  pub answer : Result A Refusal
  pub machine : Machine

-- nothing has changed
abbrev pub refused : {A : Type 0} → Refusal → Machine → After A
refused why m = record { answer = Err why; machine = m }

-- the lists that are live, by their names
abbrev pub lists_of : Live → List Listed
lists_of live = map (λ entry. record { name = entry.0; version = entry.1 }) (finite.entries live)

-- a cursor is opened over the lists that are live: it is answered how many there are
abbrev pub opened : List ℕ → BoundQuery → Machine → After ℕ
opened name query m =
    if is_some (finite.get m.cursors name) then refused CursorTaken m
    else if nat_le most_cursors (finite.len m.cursors) then refused TooManyCursors m
    else record {
      answer = Ok (length (lists_of m.live));
      machine = record m {
        cursors = finite.insert m.cursors name
            (record { query = query; lists = lists_of m.live; answered = 0 });
      };
    }

-- the machine where a cursor has answered so many lists
abbrev pub moved : List ℕ → Cursor → ℕ → Machine → Machine
moved name cursor count m = record m {
  cursors = finite.insert m.cursors name
      (record cursor { answered = count });
}

-- how many lists a cursor has still to answer
abbrev pub left_of : Cursor → ℕ
left_of cursor = length cursor.lists - cursor.answered

-- a cursor answers its next list, and says how many are left; with none left it changes nothing
abbrev pub stepped_by : List ℕ → Option Cursor → Machine → After ℕ
stepped_by name None m = refused NoCursor m
stepped_by name (Some cursor) m =
    if nat_eq (left_of cursor) 0 then record { answer = Ok 0; machine = m }
    else if is_over cursor.query (rows_of (take (cursor.answered + 1) cursor.lists))
    then refused TooManyGroups m
    else record {
      answer = Ok (left_of cursor - 1);
      machine = moved name cursor (cursor.answered + 1) m;
    }

abbrev pub stepped : List ℕ → Machine → After ℕ
stepped name m = stepped_by name (finite.get m.cursors name) m

-- a cursor answers the lists that are left, and prints its reply over all
abbrev pub fetched_as : List ℕ → Cursor → Machine → groups.Reply → After (List ℕ)
fetched_as name cursor m groups.TooManyGroups = refused TooManyGroups m
fetched_as name cursor m (groups.Answers text) = record {
  answer = Ok text;
  machine = moved name cursor (length cursor.lists) m;
}

abbrev pub fetched_by : List ℕ → Option Cursor → Machine → After (List ℕ)
fetched_by name None m = refused NoCursor m
fetched_by name (Some cursor) m = fetched_as name cursor m
    (cursor_reply cursor.query (rows_of cursor.lists))

abbrev pub fetched : List ℕ → Machine → After (List ℕ)
fetched name m = fetched_by name (finite.get m.cursors name) m

-- whether one of these lists has this number
abbrev pub has_number : ℕ → List Listed → Bool
has_number number lists = list_any (λ listed. nat_eq listed.version.number number) lists

-- whether some cursor was opened over the list of this number, or has still to answer it
abbrev pub is_held : ℕ → Cursors → Bool
is_held number cursors = list_any (λ cursor. has_number number cursor.lists)
    (finite.values cursors)

abbrev pub is_awaited : ℕ → Cursors → Bool
is_awaited number cursors = list_any
    (λ cursor. has_number number (drop cursor.answered cursor.lists)) (finite.values cursors)

-- a cursor is closed: lists that no other holds are no longer kept
abbrev pub closed_by : List ℕ → Option Cursor → Machine → After (Unit {0})
closed_by name None m = refused NoCursor m
closed_by name (Some cursor) m =
    let left : Cursors = finite.remove m.cursors name in
    record {
      answer = Ok tt;
      machine = record m {
        cursors = left;
        kept = filter (λ k. is_held k.listed.version.number left) m.kept;
      };
    }

abbrev pub closed : List ℕ → Machine → After (Unit {0})
closed name m = closed_by name (finite.get m.cursors name) m

-- the kept lists once this one is live no longer, from this line on
abbrev pub kept_with : ℕ → List ℕ → Version → Machine → List KeptList
kept_with line name version m =
    if is_awaited version.number m.cursors
    then m.kept ++ record { listed = record { name = name; version = version }; line = line } ∷ []
    else m.kept

-- a list is live under a name, with the next number
abbrev pub with_list : List ℕ → List (List Value) → Machine → Machine
with_list name rows m = record m {
  live = finite.insert m.live name (record { number = m.next; rows = rows });
  next = m.next + 1;
}

-- a list is put in under a name that has none
abbrev pub built : List ℕ → List (List Value) → Machine → After (Unit {0})
built name rows m =
    if is_some (finite.get m.live name) then refused NameTaken m
    else if nat_le most_segments (finite.len m.live) then refused TooManySegments m
    else record { answer = Ok tt; machine = with_list name rows m }

-- the list of a name is dropped, at this line
abbrev pub dropped_by : ℕ → List ℕ → Option Version → Machine → After (Unit {0})
dropped_by line name None m = refused NoSegment m
dropped_by line name (Some version) m = record {
  answer = Ok tt;
  machine = record m {
    live = finite.remove m.live name;
    kept = kept_with line name version m;
  };
}

abbrev pub dropped : ℕ → List ℕ → Machine → After (Unit {0})
dropped line name m = dropped_by line name (finite.get m.live name) m

-- a new list comes in the place of the one of a name, at this line
abbrev pub replaced_by : ℕ → List ℕ → List (List Value) → Option Version → Machine
    → After (Unit {0})
replaced_by line name rows None m = refused NoSegment m
replaced_by line name rows (Some version) m = record {
  answer = Ok tt;
  machine = with_list name rows (record m { kept = kept_with line name version m });
}

abbrev pub replaced : ℕ → List ℕ → List (List Value) → Machine → After (Unit {0})
replaced line name rows m = replaced_by line name rows (finite.get m.live name) m

-- ---- lines

-- what a line does
pub data Line : Type 0 where
  Open : (name : List ℕ) (query : BoundQuery) → Line
  Step : (name : List ℕ) → Line
  Fetch : (name : List ℕ) → Line
  Close : (name : List ℕ) → Line
  Build : (name : List ℕ) (rows : List (List Value)) → Line
  Drop : (name : List ℕ) → Line
  Replace : (name : List ℕ) (rows : List (List Value)) → Line

-- the machine after a line of this number
abbrev pub after_line : ℕ → Line → Machine → Machine
after_line number (Open name query) m = (opened name query m).machine
after_line number (Step name) m = (stepped name m).machine
after_line number (Fetch name) m = (fetched name m).machine
after_line number (Close name) m = (closed name m).machine
after_line number (Build name rows) m = (built name rows m).machine
after_line number (Drop name) m = (dropped number name m).machine
after_line number (Replace name rows) m = (replaced number name rows m).machine

-- the machine after lines, of which the first has this number
abbrev pub after_lines : ℕ → List Line → Machine → Machine
after_lines number [] m = m
after_lines number (line ∷ lines) m = after_lines (number + 1) lines (after_line number line m)
