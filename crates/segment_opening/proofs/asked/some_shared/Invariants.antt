use Rattle.std.proofs.Common.{◌≡◌, drop}
use Rattle.std.specs.List.{list_any}
use Rattle.segment_opening.specs.Found.{is_shared}
use Rattle.segment_opening.proofs.asked.some_shared.Given as goal

abbrev pub invariant-loop-id : goal.invariant-loop-id
invariant-loop-id l = list_any (is_shared l.conjuncts l.found l.column) l.ids ≡ list_any (is_shared l.conjuncts l.found l.column) (drop l.id-index l.ids)
