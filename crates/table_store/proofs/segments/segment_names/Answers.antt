use Rattle.table_store.proofs.NameLemmas.{first_few, first_named, first_told}
use Rattle.table_store.proofs.segments.segment_names.Goals as goal

pub returns-clause-names : goal.returns-clause-names
returns-clause-names g c = first_told (g.D.Shelf.held c.args.depot.now) c.in-Ok.files c.in_ok-first_names.field-0 c.in-Ok.ensures.names c.in_ok-first_names.ensures

pub returns-clause-named : goal.returns-clause-named
returns-clause-named g c = first_named c.in-Ok.files c.in_ok-first_names.field-0 c.in_ok-first_names.ensures

pub returns-clause-at_most : goal.returns-clause-at_most
returns-clause-at_most g c = first_few c.in-Ok.files c.in_ok-first_names.field-0 c.in_ok-first_names.ensures
