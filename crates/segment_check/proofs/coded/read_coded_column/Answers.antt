use Rattle.std.proofs.Common.{◌≡◌, ◌∙◌, ◌+◌, ℕ, [], length, Err, IfSome, refl, sym, ap, subst, arith}
use Rattle.outside.specs.Seen.{seen}
use Rattle.outside.specs.declared.place.Place.{Place}
use Rattle.outside.proofs.ReadLemmas.{LogsOn-through}
use Rattle.outside.proofs.SeenLemmas.{reads_so}
use Rattle.bit_column.specs.Column.{width_of}
use Rattle.bit_column.specs.Sections.{AppendsRange, Readable, end_byte, first_byte, section}
use Rattle.value_ids.specs.Coding.{AreBelow, values_at}
use Rattle.segment_file.specs.declared.part.Part.TheVariants as parts
use Rattle.segment_build.specs.FileReads.{LogsFile, LogsOnce, file_up}
use Rattle.segment_check.proofs.ColumnLemmas.{column_bad, column_made}
use Rattle.segment_check.proofs.HeadLemmas.{placed_in, range_read}
use Rattle.segment_check.proofs.Once.{range_once}
use Rattle.segment_check.proofs.coded.read_coded_column.Goals as goal

pub returns-in-Ok-clause-reads : goal.returns-in-Ok-clause-reads
returns-in-Ok-clause-reads g c =
    let old = seen g.S.Shelf c.args.shelf.now in
    let new = seen g.S.Shelf c.read_ids.new.shelf in
    let head = c.args.head.now in
    let column = c.args.column in
    let place = c.in-Some.place.now in
    let own = c.dictionary-dictionary.result.now in
    let count = c.count.result in
    let kept = c.in-Ok.ids in
    let e : AppendsRange old.held place (width_of count) count 0 head.rows [] kept =
    subst (λ rows. AppendsRange old.held place (width_of count) count 0 rows [] kept) c.rows.ensures c.in-Ok.ensures.ids in
    let below : AreBelow (length own.values) e.ids = subst (λ n. AreBelow n e.ids) c.count.ensures.count e.below in
    let many : length e.ids ≡ head.rows = omega (arith, e.number) in
    record {
      own = c.dictionary-dictionary.ensures;
      coded = record {
        count = ap length e.appended ∙ many;
        below = subst (AreBelow (length own.values)) (sym e.appended) below;
      };
      column_is = λ d asked.
          column_made old.held head column place own d (width_of count) count e.ids (values_at own.values kept) c.in-Some.ensures c.dictionary-dictionary.ensures asked c.count.ensures.count refl e.number e.below e.told
          (ap (values_at own.values) e.appended);
      refused = tt;
      only_reads = reads_so _ _ old new (λ err. absurd cc) (λ err. absurd cc) c.in-Ok.ensures.reads.only_reads;
    }

pub returns-in-Err-BadId-clause-reads : goal.returns-in-Err-BadId-clause-reads
returns-in-Err-BadId-clause-reads g c =
    let old = seen g.S.Shelf c.args.shelf.now in
    let new = seen g.S.Shelf c.read_ids.new.shelf in
    let head = c.args.head.now in
    let column = c.args.column in
    let place = c.in-Some.place.now in
    let own = c.dictionary-dictionary.result.now in
    let count = c.count.result in
    let bad = c.in-Err-BadId.ensures.reads.bad (ap Err c.in-Err-BadId.field-0-is) in
    record {
      own = tt;
      coded = tt;
      column_is = tt;
      refused = λ p is. (
        cc,
        λ d asked.
            column_bad old.held head column place own d (width_of count) count c.in-Some.ensures c.dictionary-dictionary.ensures asked c.count.ensures.count refl
            (subst (λ rows. IfSome old.held (λ files. ¬ Readable (width_of count) count 0 rows (section files place))) c.rows.ensures bad),
      );
      only_reads = reads_so _ _ old new (λ err. absurd cc) (λ err. absurd (cc c.in-Err-BadId.field-0-is)) c.in-Err-BadId.ensures.reads.only_reads;
    }

pub returns-in-Ok-clause-log : goal.returns-in-Ok-clause-log
returns-in-Ok-clause-log g c = λ file within.
    let place = c.in-Some.place.now in
    let first = g.S.Shelf.log c.args.shelf.now in
    let now = g.S.Shelf.log c.read_ids.new.shelf in
    subst (λ f. LogsFile f first now) (placed_in file c.args.head.now.sections (parts.Forward c.args.column) within place (sym c.in-Some.ensures)) (range_read place.file _ _ first now c.in-Ok.ensures.reads.log)

pub returns-in-Err-BadId-clause-log : goal.returns-in-Err-BadId-clause-log
returns-in-Err-BadId-clause-log g c = λ file within.
    let place = c.in-Some.place.now in
    let first = g.S.Shelf.log c.args.shelf.now in
    let now = g.S.Shelf.log c.read_ids.new.shelf in
    subst (λ f. LogsFile f first now) (placed_in file c.args.head.now.sections (parts.Forward c.args.column) within place (sym c.in-Some.ensures)) (file_up place.file _ _ first now c.in-Err-BadId.ensures.reads.log_of_fault)

pub returns-in-Err-ReadFault-clause-log : goal.returns-in-Err-ReadFault-clause-log
returns-in-Err-ReadFault-clause-log g c = λ file within.
    let place = c.in-Some.place.now in
    let first = g.S.Shelf.log c.args.shelf.now in
    let now = g.S.Shelf.log c.read_ids.new.shelf in
    subst (λ f. LogsFile f first now) (placed_in file c.args.head.now.sections (parts.Forward c.args.column) within place (sym c.in-Some.ensures)) (file_up place.file _ _ first now c.in-Err-ReadFault.ensures.reads.log_of_fault)

pub returns-in-Err-NoMemory-clause-log : goal.returns-in-Err-NoMemory-clause-log
returns-in-Err-NoMemory-clause-log g c = λ file within.
    let place = c.in-Some.place.now in
    let first = g.S.Shelf.log c.args.shelf.now in
    let now = g.S.Shelf.log c.read_ids.new.shelf in
    subst (λ f. LogsFile f first now) (placed_in file c.args.head.now.sections (parts.Forward c.args.column) within place (sym c.in-Some.ensures)) (file_up place.file _ _ first now c.in-Err-NoMemory.ensures.reads.log_of_fault)

pub returns-in-Ok-clause-once : goal.returns-in-Ok-clause-once
returns-in-Ok-clause-once g c =
    let place = c.in-Some.place.now in
    let first = g.S.Shelf.log c.args.shelf.now in
    let now = g.S.Shelf.log c.read_ids.new.shelf in
    let width : ℕ = width_of c.count.result in
    let rows : ℕ = c.rows.result in
    subst (λ o. IfSome o (λ (p : Place). LogsOnce p.file p.offset (p.offset + p.length) first now)) c.in-Some.ensures
    (range_once place width rows first now (place.offset + end_byte width 0 rows, omega arith, LogsOn-through place.file (place.offset + first_byte width 0) (place.offset + end_byte width 0 rows) first now c.in-Ok.ensures.reads.log) c.in-Ok.ensures.reads.past)

pub returns-in-Err-BadId-clause-once : goal.returns-in-Err-BadId-clause-once
returns-in-Err-BadId-clause-once g c =
    let place = c.in-Some.place.now in
    let first = g.S.Shelf.log c.args.shelf.now in
    let now = g.S.Shelf.log c.read_ids.new.shelf in
    let width : ℕ = width_of c.count.result in
    let rows : ℕ = c.rows.result in
    subst (λ o. IfSome o (λ (p : Place). LogsOnce p.file p.offset (p.offset + p.length) first now)) c.in-Some.ensures
    (range_once place width rows first now c.in-Err-BadId.ensures.reads.log_of_fault c.in-Err-BadId.ensures.reads.past)

pub returns-in-Err-ReadFault-clause-once : goal.returns-in-Err-ReadFault-clause-once
returns-in-Err-ReadFault-clause-once g c =
    let place = c.in-Some.place.now in
    let first = g.S.Shelf.log c.args.shelf.now in
    let now = g.S.Shelf.log c.read_ids.new.shelf in
    let width : ℕ = width_of c.count.result in
    let rows : ℕ = c.rows.result in
    subst (λ o. IfSome o (λ (p : Place). LogsOnce p.file p.offset (p.offset + p.length) first now)) c.in-Some.ensures
    (range_once place width rows first now c.in-Err-ReadFault.ensures.reads.log_of_fault c.in-Err-ReadFault.ensures.reads.past)

pub returns-in-Err-NoMemory-clause-once : goal.returns-in-Err-NoMemory-clause-once
returns-in-Err-NoMemory-clause-once g c =
    let place = c.in-Some.place.now in
    let first = g.S.Shelf.log c.args.shelf.now in
    let now = g.S.Shelf.log c.read_ids.new.shelf in
    let width : ℕ = width_of c.count.result in
    let rows : ℕ = c.rows.result in
    subst (λ o. IfSome o (λ (p : Place). LogsOnce p.file p.offset (p.offset + p.length) first now)) c.in-Some.ensures
    (range_once place width rows first now c.in-Err-NoMemory.ensures.reads.log_of_fault c.in-Err-NoMemory.ensures.reads.past)
