-- A shelf, a depot and a sink of any type, seen as the record of what it tells.
use Rattle.outside.specs.declared.shelf.Shelf as shelf
use Rattle.outside.specs.declared.sink.Sink as sink
pub use Rattle.outside.specs.Calls.{Seen, Heard, OnlyReads, Writes, OnlyWrites}

-- a shelf or a depot, seen through the members of its trait
abbrev pub seen : {A : Type 0} → shelf.Ghosts A → A → Seen
seen S s = record {
  held = S.held s;
  parts = S.parts s;
  log = S.log s;
  read_faults = S.read_faults s;
  write_faults = S.write_faults s;
}

-- a sink, through the members of its trait
abbrev pub heard : {A : Type 0} → sink.Ghosts A → A → Heard
heard S s = record { written = S.written s; faults = S.faults s }
