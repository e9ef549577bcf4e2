use Rattle.std.proofs.Common.{refl, sym, subst, arith}
use Rattle.outside.specs.Seen.{seen}
use Rattle.outside.proofs.SeenLemmas.{reads_none}
use Rattle.segment_head.specs.Heads.{IsHeadOf, IsPartOf, Loads, OfWhole}
use Rattle.segment_file.proofs.Faults.{reads_ended, reads_handed, reads_well}
use Rattle.segment_head.proofs.Steps.{absent, kept_head, kept_loads, kept_part, none_read, not_loaded, present, same_loads, same_part}
use Rattle.segment_head.proofs.head.Head.load_dictionary.Goals as goal

pub returns-then-is_some-clause-log : goal.returns-then-is_some-clause-log
returns-then-is_some-clause-log g c = none_read _ (λ s. s.place.length) (g.S.Shelf.log c.args.shelf.now)

pub returns-clause-loads : goal.returns-clause-loads
returns-clause-loads g c =
    let head = c.args.self.now in
    subst (Loads c.args.column head) (sym c.keep.ensures) (kept_loads head c.args.column c.in-Ok.dictionary (omega (arith, c.requires.column, c.requires.opened.has.slots)))

pub returns-clause-reads : goal.returns-clause-reads
returns-clause-reads g c = record {
  told = let table = c.args.table.now in
      let head = c.args.self.now in
      let held = g.S.Shelf.held c.args.shelf.now in
      subst (λ h. OfWhole table held head (λ whole. IsPartOf whole h)) (sym c.keep.ensures) (kept_part table head c.args.column c.in-Ok.dictionary held c.in-Ok.ensures.reads.told);
  refused = tt;
  only_reads = let old = seen g.S.Shelf c.args.shelf.now in
      let new = seen g.S.Shelf c.read_dictionary.new.shelf in
      reads_ended tt old new (reads_well c.in-Ok.dictionary old new c.in-Ok.ensures.reads.only_reads);
}

pub returns-then-is_some-clause-same : goal.returns-then-is_some-clause-same
returns-then-is_some-clause-same g c = tt

pub returns-then-is_some-clause-of : goal.returns-then-is_some-clause-of
returns-then-is_some-clause-of g c = c.requires.opened

pub returns-then-is_some-clause-reads : goal.returns-then-is_some-clause-reads
returns-then-is_some-clause-reads g c = record {
  told = same_part c.args.table.now c.args.self.now (g.S.Shelf.held c.args.shelf.now);
  refused = tt;
  only_reads = reads_ended tt (seen g.S.Shelf c.args.shelf.now) (seen g.S.Shelf c.args.shelf.now) (reads_none (seen g.S.Shelf c.args.shelf.now));
}

pub returns-in-Err-clause-loads : goal.returns-in-Err-clause-loads
returns-in-Err-clause-loads g c = tt

pub returns-in-Err-clause-same : goal.returns-in-Err-clause-same
returns-in-Err-clause-same g c = refl

pub returns-in-Err-clause-of : goal.returns-in-Err-clause-of
returns-in-Err-clause-of g c = c.requires.opened

pub returns-in-Err-clause-reads : goal.returns-in-Err-clause-reads
returns-in-Err-clause-reads g c = record {
  told = tt;
  refused = c.in-Err.ensures.reads.refused;
  only_reads = reads_handed c.in-Err.fault (seen g.S.Shelf c.args.shelf.now) (seen g.S.Shelf c.read_dictionary.new.shelf) c.in-Err.ensures.reads.only_reads;
}

pub returns-clause-same : goal.returns-clause-same
returns-clause-same g c = tt

pub returns-clause-of : goal.returns-clause-of
returns-clause-of g c = subst (IsHeadOf c.args.table.now) (sym c.keep.ensures) (kept_head c.args.table.now c.args.self.now c.args.column c.in-Ok.dictionary c.requires.opened)

pub returns-clause-loaded : goal.returns-clause-loaded
returns-clause-loaded g c = λ is. absurd (not_loaded c.args.self.now c.args.column (absent c.loaded.result _ _ c.if-is_some.ensures c.loaded.ensures) is)

pub returns-clause-log : goal.returns-clause-log
returns-clause-log g c = c.in-Ok.ensures.log

pub returns-in-Err-clause-loaded : goal.returns-in-Err-clause-loaded
returns-in-Err-clause-loaded g c = λ is. absurd (not_loaded c.args.self.now c.args.column (absent c.loaded.result _ _ c.if-is_some.ensures c.loaded.ensures) is)

pub returns-in-Err-clause-log : goal.returns-in-Err-clause-log
returns-in-Err-clause-log g c = c.in-Err.ensures.log

pub returns-then-is_some-clause-loaded : goal.returns-then-is_some-clause-loaded
returns-then-is_some-clause-loaded g c = λ is. (refl, refl)

pub returns-then-is_some-clause-loads : goal.returns-then-is_some-clause-loads
returns-then-is_some-clause-loads g c =
    let (d, at) = present c.loaded.result _ _ c.if-is_some.ensures c.loaded.ensures in
    same_loads c.args.self.now c.args.column d.now at

pub returns-then-is_some-clause-part : goal.returns-then-is_some-clause-part
returns-then-is_some-clause-part g c = tt

pub returns-clause-part : goal.returns-clause-part
returns-clause-part g c = tt

pub returns-in-Err-clause-part : goal.returns-in-Err-clause-part
returns-in-Err-clause-part g c = c.in-Err.ensures.part
