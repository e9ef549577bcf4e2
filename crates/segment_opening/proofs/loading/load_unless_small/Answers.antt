use Rattle.std.proofs.Common.{Err}
use Rattle.outside.specs.Seen.{Seen, seen}
use Rattle.segment_opening.proofs.LoadLemmas.{loaded_by, loaded_then, loads_all, loads_err, loads_on}
use Rattle.segment_opening.proofs.loading.load_unless_small.Goals as goal

pub returns-in-Ok-load_wanted-clause-loads : goal.returns-in-Ok-load_wanted-clause-loads
returns-in-Ok-load_wanted-clause-loads g c =
    let table = c.args.table.now in
    let head = c.args.head.now in
    let mid = c.is_emptied_by_small.new.head in
    let grown = c.load_wanted.new.head in
    let a : Seen = seen g.S.Shelf c.args.shelf.now in
    let b : Seen = seen g.S.Shelf c.is_emptied_by_small.new.shelf in
    let d : Seen = seen g.S.Shelf c.load_wanted.new.shelf in
    loads_all table _ head grown a d
    (loaded_then table head mid grown a b d (loaded_by table c.in-Ok.emptied head mid a b c.in-Ok.ensures.loads) (loaded_by table c.in-Ok-load_wanted.field-0 mid grown b d c.in-Ok-load_wanted.ensures.loads))

pub returns-in-Err-load_wanted-clause-loads : goal.returns-in-Err-load_wanted-clause-loads
returns-in-Err-load_wanted-clause-loads g c =
    let table = c.args.table.now in
    let head = c.args.head.now in
    let mid = c.is_emptied_by_small.new.head in
    let grown = c.load_wanted.new.head in
    let fault = c.in-Err-load_wanted.fault in
    let a : Seen = seen g.S.Shelf c.args.shelf.now in
    let b : Seen = seen g.S.Shelf c.is_emptied_by_small.new.shelf in
    let d : Seen = seen g.S.Shelf c.load_wanted.new.shelf in
    loads_on table (Err fault) head mid grown a b d (loaded_by table c.in-Ok.emptied head mid a b c.in-Ok.ensures.loads) (loads_err table fault mid grown b d c.in-Err-load_wanted.ensures.loads)
