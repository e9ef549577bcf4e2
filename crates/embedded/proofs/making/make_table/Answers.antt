use Rattle.outside.specs.Seen.{seen}
use Rattle.embedded.specs.Making.{texts_of}
use Rattle.embedded.proofs.MakingLemmas.{made}
use Rattle.embedded.proofs.making.make_table.Goals as goal

pub returns-in-Ok-create_table-clause-made : goal.returns-in-Ok-create_table-clause-made
returns-in-Ok-create_table-clause-made g c =
    let e = c.in-Ok-create_table.ensures in
    made (texts_of c.args.schema.now c.args.settings.now) c.in-Ok.table (seen g.D.Shelf c.args.depot.now) (seen g.D.Shelf c.create_table.new.depot) c.in-Ok.ensures.accepted e.created (λ r. cc) (λ w. cc) e.only_publishes
