use Rattle.outside.specs.Seen.{seen}
use Rattle.command_model.proofs.StoredLemmas.{front_opened, no_table, opened_fault, reads_as}
use Rattle.command_model.proofs.store.stored_table.Goals as goal

pub returns-in-Ok-clause-looks : goal.returns-in-Ok-clause-looks
returns-in-Ok-clause-looks g c =
    let e = c.in-Ok.ensures in
    record {
      reads = reads_as (seen g.D.Shelf c.args.depot.now) (seen g.D.Shelf c.open_table.new.depot) e.only_reads (λ f. absurd f) (λ f. cc);
      log = front_opened 2097168 _ _ e.log;
      found = e.table;
      stops = tt;
    }

pub returns-in-Err-clause-looks : goal.returns-in-Err-clause-looks
returns-in-Err-clause-looks g c =
    let e = c.in-Err.ensures in
    no_table (seen g.D.Shelf c.args.depot.now) (seen g.D.Shelf c.open_table.new.depot) (front_opened 2097168 _ _ e.log) c.in-Err.fault c.stop_of.result c.stop_of.ensures e.none e.other e.only_reads e.only

pub stop_of-requires : goal.stop_of-requires
stop_of-requires g c = opened_fault c.in-Err.fault c.in-Err.ensures.only
