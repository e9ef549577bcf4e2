use Rattle.segment_check.proofs.IdLemmas.{AreSeen}
use Rattle.segment_check.proofs.codes.have_all.Given as goal

-- the marks so far are of ids, and none is missing below the next
abbrev pub invariant-ids : goal.invariant-ids
invariant-ids l = AreSeen l.fn.count l.next l.fn.ids l.marks.items
