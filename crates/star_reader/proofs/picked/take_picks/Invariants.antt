use Rattle.outside.specs.Seen.{seen}
use Rattle.star_reader.proofs.ReadSteps.{PickedStep}
use Rattle.star_reader.proofs.picked.take_picks.Given as goal

abbrev pub invariant-loop-pick : goal.invariant-loop-pick
invariant-loop-pick g l =
    PickedStep l.tree l.task l.asked l.rows l.picks l.pick-index (seen g.S.Shelf l.fn.shelf)
    (seen g.S.Shelf l.shelf) l.selected.table
