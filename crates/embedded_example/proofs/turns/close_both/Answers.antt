use Rattle.std.proofs.Common.{Option}
use Rattle.outside.specs.Files.{Files}
use Rattle.embedded_example.specs.Steps.{cursors_of}
use Rattle.embedded_example.proofs.TurnLemmas.{both_close}
use Rattle.embedded_example.proofs.turns.close_both.Goals as goal

pub returns : goal.returns
returns g c =
    let d0 : Option Files = g.D.Shelf.held c.args.depot.now in
    let d1 : Option Files = g.D.Shelf.held c.close.new.depot in
    let d2 : Option Files = g.D.Shelf.held c.close-2.new.depot in
    λ table. both_close table (cursors_of c.args.serving.now) (cursors_of c.close.new.self) (cursors_of c.close-2.new.self) d0 d1 d2
    (c.in_ok-close.ensures.serves table) (c.in_ok-close-2.ensures.serves table)
