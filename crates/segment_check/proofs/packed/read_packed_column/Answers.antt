use Rattle.std.proofs.Common.{◌≡◌, ◌∙◌, [], length, Ok, Err, Some, IfSome, refl, sym, ap, subst, arith}
use Rattle.std.proofs.lemmas.Option.{same_Some}
use Rattle.outside.specs.Seen.{seen}
use Rattle.outside.proofs.SeenLemmas.{reads_so}
use Rattle.bit_column.specs.Column.{width_of}
use Rattle.bit_column.specs.Sections.{AppendsRange, Readable, section}
use Rattle.value_ids.specs.Coding.{AreBelow, values_at}
use Rattle.segment_file.specs.declared.part.Part.TheVariants as parts
use Rattle.segment_check.specs.Codes.{AreIdsOf}
use Rattle.segment_check.proofs.ColumnLemmas.{column_bad, column_made}
use Rattle.segment_check.proofs.PackedLemmas.{column_log, column_once}
use Rattle.segment_check.proofs.packed.read_packed_column.Goals as goal

pub returns-in-Ok-clause-reads : goal.returns-in-Ok-clause-reads
returns-in-Ok-clause-reads g c =
    let old = seen g.S.Shelf c.args.shelf.now in
    let new = seen g.S.Shelf c.read_packed.new.shelf in
    let head = c.args.head.now in
    let column = c.args.column in
    let place = c.in-Some.place.now in
    let own = c.dictionary-dictionary.result.now in
    let loaded = c.dictionary-dictionary.ensures in
    let count = c.count.result in
    let kept = c.in-Ok.ids in
    let e : AppendsRange old.held place (width_of count) count 0 head.rows [] kept =
    subst (λ rows. AppendsRange old.held place (width_of count) count 0 rows [] kept) c.rows.ensures c.in-Ok.ensures.ids in
    let below : AreBelow (length own.values) e.ids = subst (λ n. AreBelow n e.ids) c.count.ensures.count e.below in
    let many : length e.ids ≡ head.rows = omega (arith, e.number) in
    record {
      ids = λ d asked.
          (let same : own ≡ d = same_Some own d (same_Some (Some own) (Some d) (sym loaded ∙ asked)) in
          subst (λ x. AreIdsOf old.held head column x kept) same (record {
            count = ap length e.appended ∙ many;
            below = subst (AreBelow (length own.values)) (sym e.appended) below;
            are = column_made old.held head column place own own (width_of count) count e.ids (values_at own.values kept) c.in-Some.ensures loaded loaded c.count.ensures.count refl e.number e.below e.told
                (ap (values_at own.values) e.appended);
          }));
      refused = tt;
      only_reads = reads_so _ _ old new (λ err. absurd cc) (λ err. absurd cc) c.in-Ok.ensures.reads.only_reads;
    }

pub returns-in-Err-BadId-clause-reads : goal.returns-in-Err-BadId-clause-reads
returns-in-Err-BadId-clause-reads g c =
    let old = seen g.S.Shelf c.args.shelf.now in
    let new = seen g.S.Shelf c.read_packed.new.shelf in
    let head = c.args.head.now in
    let column = c.args.column in
    let place = c.in-Some.place.now in
    let own = c.dictionary-dictionary.result.now in
    let count = c.count.result in
    let bad = c.in-Err-BadId.ensures.reads.bad (ap Err c.in-Err-BadId.field-0-is) in
    record {
      ids = tt;
      refused = λ p is. (
        cc,
        λ d asked.
            column_bad old.held head column place own d (width_of count) count c.in-Some.ensures c.dictionary-dictionary.ensures asked c.count.ensures.count refl
            (subst (λ rows. IfSome old.held (λ files. ¬ Readable (width_of count) count 0 rows (section files place))) c.rows.ensures bad),
      );
      only_reads = reads_so _ _ old new (λ err. absurd cc) (λ err. absurd (cc c.in-Err-BadId.field-0-is)) c.in-Err-BadId.ensures.reads.only_reads;
    }

pub returns-in-Ok-clause-log : goal.returns-in-Ok-clause-log
returns-in-Ok-clause-log g c = λ file within.
    column_log (Ok c.in-Ok.ids) file c.args.head.now (parts.Forward c.args.column) c.in-Some.place.now (width_of c.count.result) c.count.result c.rows.result (seen g.S.Shelf c.args.shelf.now) (seen g.S.Shelf c.read_packed.new.shelf) within c.in-Some.ensures c.in-Ok.ensures.reads

pub returns-in-Ok-clause-once : goal.returns-in-Ok-clause-once
returns-in-Ok-clause-once g c =
    column_once (Ok c.in-Ok.ids) c.args.head.now (parts.Forward c.args.column) c.in-Some.place.now (width_of c.count.result) c.count.result c.rows.result (seen g.S.Shelf c.args.shelf.now) (seen g.S.Shelf c.read_packed.new.shelf) c.in-Some.ensures c.in-Ok.ensures.reads

pub returns-in-Err-BadId-clause-log : goal.returns-in-Err-BadId-clause-log
returns-in-Err-BadId-clause-log g c = λ file within.
    column_log (Err c.in-Err-BadId.field-0) file c.args.head.now (parts.Forward c.args.column) c.in-Some.place.now (width_of c.count.result) c.count.result c.rows.result (seen g.S.Shelf c.args.shelf.now) (seen g.S.Shelf c.read_packed.new.shelf) within c.in-Some.ensures c.in-Err-BadId.ensures.reads

pub returns-in-Err-BadId-clause-once : goal.returns-in-Err-BadId-clause-once
returns-in-Err-BadId-clause-once g c =
    column_once (Err c.in-Err-BadId.field-0) c.args.head.now (parts.Forward c.args.column) c.in-Some.place.now (width_of c.count.result) c.count.result c.rows.result (seen g.S.Shelf c.args.shelf.now) (seen g.S.Shelf c.read_packed.new.shelf) c.in-Some.ensures c.in-Err-BadId.ensures.reads

pub returns-in-Err-ReadFault-clause-log : goal.returns-in-Err-ReadFault-clause-log
returns-in-Err-ReadFault-clause-log g c = λ file within.
    column_log (Err c.in-Err-ReadFault.field-0) file c.args.head.now (parts.Forward c.args.column) c.in-Some.place.now (width_of c.count.result) c.count.result c.rows.result (seen g.S.Shelf c.args.shelf.now) (seen g.S.Shelf c.read_packed.new.shelf) within c.in-Some.ensures c.in-Err-ReadFault.ensures.reads

pub returns-in-Err-ReadFault-clause-once : goal.returns-in-Err-ReadFault-clause-once
returns-in-Err-ReadFault-clause-once g c =
    column_once (Err c.in-Err-ReadFault.field-0) c.args.head.now (parts.Forward c.args.column) c.in-Some.place.now (width_of c.count.result) c.count.result c.rows.result (seen g.S.Shelf c.args.shelf.now) (seen g.S.Shelf c.read_packed.new.shelf) c.in-Some.ensures c.in-Err-ReadFault.ensures.reads

pub returns-in-Err-NoMemory-clause-log : goal.returns-in-Err-NoMemory-clause-log
returns-in-Err-NoMemory-clause-log g c = λ file within.
    column_log (Err c.in-Err-NoMemory.field-0) file c.args.head.now (parts.Forward c.args.column) c.in-Some.place.now (width_of c.count.result) c.count.result c.rows.result (seen g.S.Shelf c.args.shelf.now) (seen g.S.Shelf c.read_packed.new.shelf) within c.in-Some.ensures c.in-Err-NoMemory.ensures.reads

pub returns-in-Err-NoMemory-clause-once : goal.returns-in-Err-NoMemory-clause-once
returns-in-Err-NoMemory-clause-once g c =
    column_once (Err c.in-Err-NoMemory.field-0) c.args.head.now (parts.Forward c.args.column) c.in-Some.place.now (width_of c.count.result) c.count.result c.rows.result (seen g.S.Shelf c.args.shelf.now) (seen g.S.Shelf c.read_packed.new.shelf) c.in-Some.ensures c.in-Err-NoMemory.ensures.reads
