use Rattle.std.proofs.Common.{refl}
use Rattle.outside.specs.Seen.{seen}
use Rattle.command_model.proofs.StoredLemmas.{reads_as}
use Rattle.embedded.proofs.StateLemmas.{names_so}
use Rattle.embedded.proofs.reading.list_names.Goals as goal

pub returns-in-Ok : goal.returns-in-Ok
returns-in-Ok g c =
    let a = seen g.D.Shelf c.args.depot.now in
    let e = c.in-Ok.ensures in
    record {
      table = refl;
      names = λ segments kept. names_so c.args.table.now segments c.in-Ok.names a.held kept e.names;
      leaves = reads_as a (seen g.D.Shelf c.segment_names.new.depot) e.looks.reads (λ e. absurd cc) (λ r. absurd cc);
    }
