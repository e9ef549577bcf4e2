use Rattle.std.proofs.Common.{◌≡◌, false, IfOk, subst}
use Rattle.outside.specs.Seen.{Seen, seen}
use Rattle.segment_opening.specs.Emptied.{IsEmptied}
use Rattle.segment_opening.proofs.LoadLemmas.{loads_on, looked_by}
use Rattle.segment_opening.proofs.loading.load_unless_emptied.Goals as goal

pub returns-clause-loads : goal.returns-clause-loads
returns-clause-loads g c =
    let a : Seen = seen g.S.Shelf c.args.shelf.now in
    let b : Seen = seen g.S.Shelf c.is_emptied.new.shelf in
    let head = c.args.head.now in
    loads_on c.args.table.now c.load_unless_small.result head head c.load_unless_small.new.head a b (seen g.S.Shelf c.load_unless_small.new.shelf)
    (looked_by c.args.table.now _ head a b c.requires.of_table c.in-Ok-false.ensures.looks) c.load_unless_small.ensures.loads

pub returns-clause-emptied : goal.returns-clause-emptied
returns-clause-emptied g c =
    subst (λ h. IfOk c.load_unless_small.result (λ loaded. loaded ≡ false → IsEmptied c.args.query.now c.args.table.now h c.args.head.now)) c.in-Ok-false.ensures.looks.only_reads.held c.load_unless_small.ensures.emptied
