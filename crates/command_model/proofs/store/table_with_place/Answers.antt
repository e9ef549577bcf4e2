use Rattle.std.proofs.Common.{◌≡◌, ◌⊎◌, Err, Ok, IsErrOf, IfSome, inl, inr, ℕ, List, refl, sym, subst}
use Rattle.outside.specs.Files.{Has, Lacks}
use Rattle.outside.specs.Seen.{OnlyReads, Seen, seen}
use Rattle.segment_file.specs.Names.{file_of}
use Rattle.table_schema.specs.declared.table.Table.{Table}
use Rattle.table_store.specs.Segments.{IsFull}
use Rattle.table_store.specs.declared.fault.StoreFault.{StoreFault}
use Rattle.table_store.specs.declared.fault.StoreFault.TheVariants as store
use Rattle.command_model.specs.Gives.{FindsPlace, LooksFor}
use Rattle.command_model.specs.Places.{IsPlaceFault, IsPlaceStop}
use Rattle.command_model.specs.Profile.{TableFile}
use Rattle.command_model.specs.Stored.{HasTableFile, TableRefuses}
use Rattle.command_words.specs.declared.stop.Stop.{Stop}
use Rattle.command_model.proofs.BuildLemmas.{place_found, place_full, place_taken, place_unknown, place_unopened, place_unread, handed_place}
use Rattle.command_model.proofs.store.table_with_place.Goals as goal

abbrev Failed : StoreFault → StoreFault → Type 0
Failed f e = IsErrOf {T = Unit {0}} (Err f) e

inner : (f e : StoreFault) → Failed f e → f ≡ e
inner f e is = cc

-- the faults of a look for a place
place_fault : (f : StoreFault) → Failed f store.NameTaken ⊎ (Failed f store.TooManySegments ⊎ (Failed f store.ReadFault ⊎ Failed f store.NoMemory)) → IsPlaceFault f
place_fault f (inl e) = subst IsPlaceFault (sym (inner f store.NameTaken e)) tt
place_fault f (inr (inl e)) = subst IsPlaceFault (sym (inner f store.TooManySegments e)) tt
place_fault f (inr (inr (inl e))) = subst IsPlaceFault (sym (inner f store.ReadFault e)) tt
place_fault f (inr (inr (inr e))) = subst IsPlaceFault (sym (inner f store.NoMemory e)) tt

-- each of them, and what it is for the command
place_failed : (name : List ℕ) (a b d : Seen) (table : Table) (f : StoreFault) (why : Stop) → LooksFor HasTableFile TableRefuses TableFile a b (Ok table) → d.log ≡ b.log → OnlyReads (Failed f store.ReadFault) b d
    → (Failed f store.NameTaken → Has b.held (file_of name)) → (Failed f store.TooManySegments → Lacks b.held (file_of name) × IfSome b.held IsFull) → IsPlaceStop name f why → FindsPlace name a d (Err why)
place_failed name a b d table store.NameTaken why first log reads taken many is = place_taken name a b d table first log why reads (λ f. cc) (taken refl) is
place_failed name a b d table store.TooManySegments why first log reads taken many is =
    subst (λ w. FindsPlace name a d (Err w)) (sym is) (place_full name a b d table first log reads (λ f. cc) (many refl).0 (many refl).1)
place_failed name a b d table store.ReadFault why first log reads taken many is = subst (λ w. FindsPlace name a d (Err w)) (sym is) (place_unread name a b d table first log reads refl)
place_failed name a b d table store.NoMemory why first log reads taken many is = subst (λ w. FindsPlace name a d (Err w)) (sym is) (place_unknown name a b d table first log reads (λ f. cc))
place_failed name a b d table store.TableExists why first log reads taken many is = absurd is
place_failed name a b d table store.NoTable why first log reads taken many is = absurd is
place_failed name a b d table store.NoSegment why first log reads taken many is = absurd is
place_failed name a b d table store.TooLarge why first log reads taken many is = absurd is
place_failed name a b d table (store.NotASegment part) why first log reads taken many is = absurd is
place_failed name a b d table store.WriteFault why first log reads taken many is = absurd is

pub returns-in_err-table-clause-place : goal.returns-in_err-table-clause-place
returns-in_err-table-clause-place g c =
    let a = seen g.D.Shelf c.args.depot.now in
    let b = seen g.D.Shelf c.stored_table.new.depot in
    let why = c.in_err-table.field-0.0 in
    handed_place c.args.name.now a b c.from_residual.result why c.from_residual.ensures.1 (place_unopened c.args.name.now a b why c.in_err-table.ensures.looks)

pub returns-in-Ok-clause-place : goal.returns-in-Ok-clause-place
returns-in-Ok-clause-place g c =
    let a = seen g.D.Shelf c.args.depot.now in
    let b = seen g.D.Shelf c.stored_table.new.depot in
    let d = seen g.D.Shelf c.find_room.new.depot in
    let e = c.in-Ok.ensures in
    place_found c.args.name.now a b d c.in_ok-table.table c.in_ok-table.ensures.looks e.looks.log e.looks.reads (λ f. cc) e.place.free e.place.room

pub no_place-requires : goal.no_place-requires
no_place-requires g c = place_fault c.in-Err.fault c.in-Err.ensures.only

pub returns-in-Err-clause-place : goal.returns-in-Err-clause-place
returns-in-Err-clause-place g c =
    let a = seen g.D.Shelf c.args.depot.now in
    let b = seen g.D.Shelf c.stored_table.new.depot in
    let d = seen g.D.Shelf c.find_room.new.depot in
    let e = c.in-Err.ensures in
    place_failed c.args.name.now a b d c.in_ok-table.table c.in-Err.fault c.no_place.result c.in_ok-table.ensures.looks e.looks.log e.looks.reads e.place.taken e.place.many c.no_place.ensures
