use Rattle.std.proofs.Common.{◌-◌}
use Rattle.outside.specs.Seen.{seen}
use Rattle.star_reader.proofs.PartSteps.{PartStep}
use Rattle.star_reader.proofs.picked.take_pick.Given as goal

abbrev pub invariant-parts : goal.invariant-parts
invariant-parts g l = PartStep l.tree l.task l.asked l.rows l.pick l.start
    (seen g.S.Shelf l.fn.shelf) (seen g.S.Shelf l.shelf) l.fn.selected.table l.selected.table

abbrev pub decreases-parts : goal.decreases-parts
decreases-parts g l = l.pick.end - l.start
