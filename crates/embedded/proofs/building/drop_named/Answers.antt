use Rattle.outside.specs.Seen.{seen}
use Rattle.embedded.proofs.CallLemmas.{dropped, undropped}
use Rattle.embedded.proofs.building.drop_named.Goals as goal

pub returns-in-Ok : goal.returns-in-Ok
returns-in-Ok g c =
    let e = c.in-Ok.ensures in
    dropped c.args.table.now c.args.name.now (seen g.D.Shelf c.args.depot.now) (seen g.D.Shelf c.drop_segment.new.depot) e.was_there e.dropped (λ r. cc) (λ w. cc) e.only_removes

pub returns-in-Err : goal.returns-in-Err
returns-in-Err g c =
    let e = c.in-Err.ensures in
    undropped c.args.table.now c.args.name.now (seen g.D.Shelf c.args.depot.now) (seen g.D.Shelf c.drop_segment.new.depot) c.in-Err.fault e.missing e.only e.kept e.only_removes
