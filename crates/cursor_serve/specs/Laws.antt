-- What a cursor prints, in terms of what it was opened over.
use Rattle.std.specs.Prelude.{◌≡◌, ◌≢◌, ℕ, List, Result, Ok, Err}
use Rattle.std.specs.List.{All}
use Rattle.table_schema.specs.declared.query.BoundQuery.{BoundQuery}
use Rattle.broker_merge.specs.Reply as groups
use Rattle.cursor_serve.specs.Machine.{Line, Machine, Open, Step, Fetch, Close, Build, Drop, Replace, Refusal, TooManyGroups, after_lines, cursor_reply, fetched, lists_of, opened, rows_of}

-- a line does not close this cursor
abbrev pub LeavesOpen : List ℕ → Line → Type 0
LeavesOpen cursor (Close name) = name ≢ cursor
LeavesOpen cursor other = Unit {0}

-- a reply, or the refusal of more groups than a cursor may have
abbrev pub printed : groups.Reply → Result (List ℕ) Refusal
printed (groups.Answers text) = Ok text
printed groups.TooManyGroups = Err TooManyGroups

-- a cursor that was opened prints the reply of its own query over the lists that were live at its
-- open, whatever lines come between that do not close it
abbrev pub FetchedOwn : Type 0
FetchedOwn = (m : Machine) (cursor : List ℕ) (query : BoundQuery) (count number : ℕ)
    (between : List Line) → (opened cursor query m).answer ≡ Ok count
    → All (LeavesOpen cursor) between
    → (fetched cursor (after_lines number between (opened cursor query m).machine)).answer
    ≡ printed (cursor_reply query (rows_of (lists_of m.live)))
