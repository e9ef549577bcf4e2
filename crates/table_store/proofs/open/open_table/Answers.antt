use Rattle.std.proofs.Common.{subst}
use Rattle.table_store.specs.Accepted.{IsNoTableFile}
use Rattle.table_store.specs.TableFile.{table_name}
use Rattle.table_store.proofs.OpenLemmas.{is_no_table, of_whole}
use Rattle.table_store.proofs.open.open_table.Goals as goal

pub returns-in-Ok-clause-other : goal.returns-in-Ok-clause-other
returns-in-Ok-clause-other g c = λ e.
    of_whole (g.D.Shelf.held c.args.depot.now) table_name c.in-Ok.file _ IsNoTableFile c.in-Ok.ensures.whole
    (subst IsNoTableFile c.as_slice.ensures (is_no_table c.read_table.result c.as_slice.result.now c.read_table.ensures.err e))
