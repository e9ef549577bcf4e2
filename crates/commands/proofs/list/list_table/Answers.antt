use Rattle.std.proofs.Common.{◌≡◌, IfSome, All, Ok, refl, true, subst, sym}
use Rattle.outside.specs.Seen.{Seen, seen}
use Rattle.table_store.specs.Segments.{AreFirstNames, has_segment}
use Rattle.command_model.specs.Gives.{LooksFor}
use Rattle.command_model.specs.Profile.{StoreFiles, TableFile}
use Rattle.command_model.specs.Stored.{HasTableFile, IsListed, SegmentsRefuse, TableRefuses}
use Rattle.commands.proofs.ListLemmas.{ran_list}
use Rattle.commands.proofs.ReadLemmas.{stored_heads, table_then}
use Rattle.command_model.proofs.StoredLemmas.{all_there, err_after, err_wider, handed, more_opened}
use Rattle.commands.proofs.list.list_table.Goals as goal

pub returns-in_err-names : goal.returns-in_err-names
returns-in_err-names g c = λ a first inputs.
    let b : Seen = seen g.D.Shelf c.args.depot.now in
    let d : Seen = seen g.D.Shelf c.stored_names.new.depot in
    let why = c.in_err-names.field-0.0 in
    ran_list inputs a d c.from_residual.result (stored_heads a.held a.log d.log (table_then a.log b.log d.log first.log c.in_err-names.ensures.looks.log))
    (handed IsListed SegmentsRefuse StoreFiles a d c.from_residual.result why c.from_residual.ensures.1
    (err_after AreFirstNames IsListed a b d why first.reads (more_opened a.log b.log first.log) (err_wider AreFirstNames AreFirstNames b d why c.in_err-names.ensures.looks)))

pub list_names-requires-clause-there : goal.list_names-requires-clause-there
list_names-requires-clause-there g c =
    let b : Seen = seen g.D.Shelf c.args.depot.now in
    let d : Seen = seen g.D.Shelf c.stored_names.new.depot in
    let second = c.in_ok-names.ensures.looks in
    subst (λ names. IfSome d.held (λ files. HasTableFile files c.args.table.now × All (λ name. has_segment files name ≡ true) names)) (sym c.as_slice.ensures)
    (all_there b.held b.held d.held c.args.table.now c.in_ok-names.names refl second.reads.held c.requires.there second.found)

pub returns : goal.returns
returns g c = λ a first inputs. c.list_names.ensures a (seen g.D.Shelf c.args.depot.now) first
    (subst (λ names. LooksFor AreFirstNames TableRefuses TableFile (seen g.D.Shelf c.args.depot.now) (seen g.D.Shelf c.stored_names.new.depot) (Ok names)) (sym c.as_slice.ensures) c.in_ok-names.ensures.looks) inputs
