use Rattle.std.proofs.Common.{◌≡◌, subst, sym}
use Rattle.outside.specs.Seen.{seen}
use Rattle.table_store.specs.Calls.{LooksAtSegment}
use Rattle.command_model.specs.Look.{IsFileOfNone, IsSaid}
use Rattle.command_model.proofs.store.look_at.Goals as goal

pub returns-in-Verify : goal.returns-in-Verify
returns-in-Verify g c =
    subst (λ a. LooksAtSegment (λ files text. IsSaid a c.args.table.now files c.args.name.now text) (λ files part. IsFileOfNone a c.args.table.now files c.args.name.now part) c.args.name.now
    (seen g.D.Shelf c.args.depot.now) (seen g.D.Shelf c.verify_at.new.depot) c.verify_at.result) (sym c.in-Verify.is) c.verify_at.ensures

pub returns-in-Dump : goal.returns-in-Dump
returns-in-Dump g c =
    subst (λ a. LooksAtSegment (λ files text. IsSaid a c.args.table.now files c.args.name.now text) (λ files part. IsFileOfNone a c.args.table.now files c.args.name.now part) c.args.name.now
    (seen g.D.Shelf c.args.depot.now) (seen g.D.Shelf c.spell_segment.new.depot) c.spell_segment.result) (sym c.in-Dump.is) c.spell_segment.ensures
