use Rattle.std.proofs.Common.{◌≡◌, Bool, false, Option, IfOk, Err, sym, subst}
use Rattle.outside.specs.Files.{Files}
use Rattle.outside.specs.Seen.{Seen, seen}
use Rattle.segment_opening.specs.Found.{AreFound, IsFoundBeside}
use Rattle.segment_opening.specs.declared.asked.Found.{Found}
use Rattle.segment_opening.specs.declared.loaded.Loaded.TheVariants.{But}
use Rattle.segment_opening.proofs.FoundLemmas.{found_at, loads_looked, some_so}
use Rattle.segment_opening.proofs.LoadLemmas.{loaded_by, loaded_then, loads_all, loads_err, loads_on, looked_by}
use Rattle.segment_opening.proofs.loading.load_or_look_up.Goals as goal

pub returns-in-Ok-Some-clause-loads : goal.returns-in-Ok-Some-clause-loads
returns-in-Ok-Some-clause-loads g c =
    let a : Seen = seen g.S.Shelf c.args.shelf.now in
    let b : Seen = seen g.S.Shelf c.look_up.new.shelf in
    let head = c.args.head.now in
    loads_on c.args.table.now c.load_but.result head head c.load_but.new.head a b (seen g.S.Shelf c.load_but.new.shelf)
    (looked_by c.args.table.now _ head a b c.requires.of_table c.in-Ok-Some.ensures.looks) c.load_but.ensures.loads

pub load_but-requires-clause-found : goal.load_but-requires-clause-found
load_but-requires-clause-found g c =
    let query = c.args.query.now in
    let table = c.args.table.now in
    let head = c.args.head.now in
    let first = g.S.Shelf.held c.args.shelf.now in
    let then = g.S.Shelf.held c.look_up.new.shelf in
    let found = c.in-Ok-Some.found in
    let told = found_at _ found (λ f. AreFound query table first head f.items) c.in-Ok-Some.field-0-is c.in-Ok-Some.ensures.found in
    subst (AreFound query table then head) (sym c.as_slice.ensures.value)
    (subst (λ held. AreFound query table held head found.items) (sym c.in-Ok-Some.ensures.looks.only_reads.held) told)

pub returns-in-Ok-Some-clause-found : goal.returns-in-Ok-Some-clause-found
returns-in-Ok-Some-clause-found g c =
    let query = c.args.query.now in
    let table = c.args.table.now in
    let head = c.args.head.now in
    let grown = c.load_but.new.head in
    let IsSo : Option Files → Bool → Type 0 = λ held by_tree. IfOk c.load_but.result (λ loaded. (found : Found) → loaded ≡ But found → IsFoundBeside query table held by_tree head grown found.conjuncts found.counts.items) in
    let untreed = some_so _ _ (c.args.by_tree ≡ false) c.in-Ok-Some.field-0-is c.in-Ok-Some.ensures.untreed in
    subst (λ held. IsSo held c.args.by_tree) c.in-Ok-Some.ensures.looks.only_reads.held
    (subst (IsSo (g.S.Shelf.held c.look_up.new.shelf)) (sym untreed) c.load_but.ensures.found)

pub returns-in-Ok-true-clause-loads : goal.returns-in-Ok-true-clause-loads
returns-in-Ok-true-clause-loads g c =
    let table = c.args.table.now in
    let head = c.args.head.now in
    let grown = c.load_unless_emptied.new.head in
    let a : Seen = seen g.S.Shelf c.args.shelf.now in
    let b : Seen = seen g.S.Shelf c.look_up.new.shelf in
    let d : Seen = seen g.S.Shelf c.load_unless_emptied.new.shelf in
    loads_all table _ head grown a d
    (loaded_then table head head grown a b d (looked_by table _ head a b c.requires.of_table c.in-Ok-None.ensures.looks) (loaded_by table c.in-Ok-true.field-0 head grown b d c.in-Ok-true.ensures.loads))

pub returns-in-Ok-false-clause-loads : goal.returns-in-Ok-false-clause-loads
returns-in-Ok-false-clause-loads g c =
    let table = c.args.table.now in
    let head = c.args.head.now in
    let grown = c.load_unless_emptied.new.head in
    let a : Seen = seen g.S.Shelf c.args.shelf.now in
    let b : Seen = seen g.S.Shelf c.look_up.new.shelf in
    let d : Seen = seen g.S.Shelf c.load_unless_emptied.new.shelf in
    loads_all table _ head grown a d
    (loaded_then table head head grown a b d (looked_by table _ head a b c.requires.of_table c.in-Ok-None.ensures.looks) (loaded_by table c.in-Ok-false.field-0 head grown b d c.in-Ok-false.ensures.loads))

pub returns-in-Err-load_unless_emptied-clause-loads :
    goal.returns-in-Err-load_unless_emptied-clause-loads
returns-in-Err-load_unless_emptied-clause-loads g c =
    let table = c.args.table.now in
    let head = c.args.head.now in
    let grown = c.load_unless_emptied.new.head in
    let fault = c.in-Err-load_unless_emptied.fault in
    let a : Seen = seen g.S.Shelf c.args.shelf.now in
    let b : Seen = seen g.S.Shelf c.look_up.new.shelf in
    let d : Seen = seen g.S.Shelf c.load_unless_emptied.new.shelf in
    loads_on table (Err fault) head head grown a b d (looked_by table _ head a b c.requires.of_table c.in-Ok-None.ensures.looks) (loads_err table fault head grown b d c.in-Err-load_unless_emptied.ensures.loads)

pub returns-in-Err-clause-loads : goal.returns-in-Err-clause-loads
returns-in-Err-clause-loads g c =
    loads_looked c.args.table.now c.in-Err.fault c.args.head.now (seen g.S.Shelf c.args.shelf.now) (seen g.S.Shelf c.look_up.new.shelf) c.in-Err.ensures.looks
