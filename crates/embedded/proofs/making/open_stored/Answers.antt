use Rattle.outside.specs.Seen.{seen}
use Rattle.embedded.proofs.MakingLemmas.{not_opened, opened}
use Rattle.embedded.proofs.making.open_stored.Goals as goal

pub returns-in-Ok-clause-opened : goal.returns-in-Ok-clause-opened
returns-in-Ok-clause-opened g c =
    let e = c.in-Ok.ensures in
    opened c.in-Ok.table (seen g.D.Shelf c.args.depot.now) (seen g.D.Shelf c.open_table.new.depot) e.table (λ r. cc) e.only_reads

pub returns-in-Err-clause-refused : goal.returns-in-Err-clause-refused
returns-in-Err-clause-refused g c =
    let e = c.in-Err.ensures in
    not_opened c.in-Err.fault (seen g.D.Shelf c.args.depot.now) (seen g.D.Shelf c.open_table.new.depot) e.none e.other e.only e.only_reads
