use Rattle.std.proofs.Common.{◌≡◌, ◌++◌, Ok, length}
use Rattle.std.specs.List.{concat}
use Rattle.std.specs.Vec.Iter.{into_iter_items, into_iter_len}
use Rattle.outside.specs.Seen.{seen}
use Rattle.segment_build.specs.Made.{each_bytes}
use Rattle.segment_build.proofs.made.MadeFile.give.Given as goal

-- the front and the sections so far were taken
abbrev pub invariant-loop-section : goal.invariant-loop-section
invariant-loop-section g l = record {
  rest : l.yielded ++ into_iter_items l.section-iterator ≡ into_iter_items l.initial.section-iterator;
  taken : g.T.Taker.takes (l.front.items ++ concat (each_bytes l.yielded)) (Ok tt) l.fn.taker (seen g.S.Shelf l.fn.shelf) l.taker (seen g.S.Shelf l.shelf);
  size : into_iter_len l.section-iterator ≡ length (into_iter_items l.section-iterator);
}
