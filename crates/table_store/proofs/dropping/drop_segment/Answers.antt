use Rattle.std.proofs.Common.{◌≡◌, ◌∙◌, Err, Ok, ap, subst}
use Rattle.outside.specs.Files.{Lacks}
use Rattle.segment_file.specs.Names.{file_of}
use Rattle.table_store.specs.Segments.{HasSegment}
use Rattle.table_store.proofs.DropLemmas.{gone_already}
use Rattle.table_store.proofs.dropping.drop_segment.Goals as goal

pub returns-in-Err-Missing-clause-dropped : goal.returns-in-Err-Missing-clause-dropped
returns-in-Err-Missing-clause-dropped g c =
    let held = g.D.Shelf.held c.args.depot.now in
    let is : c.as_str.result.now ≡ file_of c.args.name.now = c.as_str.ensures.value ∙ c.in_ok-file.ensures in
    let has : HasSegment held c.args.name.now = c.holds_segment.ensures.yes (c.in-Ok-true.is ∙ ap Ok c.in-Ok-true.field-0-test) in
    let same = c.holds_segment.ensures.looks.reads.held in
    let lacks : Lacks held (file_of c.args.name.now) = subst (Lacks held) is (subst (λ h. Lacks h c.as_str.result.now) same (c.in-Err-Missing.ensures.missing (ap Err c.in-Err-Missing.field-0-is))) in
    gone_already c.args.name.now held (g.D.Shelf.held c.remove.new.self) has lacks (c.in-Err-Missing.ensures.held ∙ same)
