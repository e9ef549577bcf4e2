use Rattle.std.proofs.Common.{◌∙◌, sym, subst, arith, All}
use Rattle.std.proofs.lemmas.List.{take_all}
use Rattle.segment_file.specs.Reading.{FitsSize, IsTailPart}
use Rattle.segment_file.proofs.TreeChecks.{size_stops, sized_more}
use Rattle.segment_file.proofs.sizes.check_sizes.Goals as goal

pub size_in-requires-clause-part : goal.size_in-requires-clause-part
size_in-requires-clause-part c = subst (λ x. IsTailPart c.args.table.now x.part) (sym c.section-item.is) (c.requires.parts c.loop-section.section-index c.section-item.result c.loop-section-test.true)

pub returns-then-section-size_in-clause-bad : goal.returns-then-section-size_in-clause-bad
returns-then-section-size_in-clause-bad c = λ heads read.
    size_stops c.args.table.now c.args.rows heads c.args.sections.now c.loop-section.section-index c.section-item.result c.loop-section-test.true c.section-item.is (c.loop-section.invariant heads read)
    (λ fits. c.if-section-size_in.true (fits ∙ sym (c.size_in.ensures heads read)))

pub loop-section-preserved : goal.loop-section-preserved
loop-section-preserved c = λ heads read.
    sized_more c.args.table.now c.args.rows heads c.args.sections.now c.loop-section.section-index c.section-item.result c.loop-section-test.true c.section-item.is (c.loop-section.invariant heads read)
    (c.if-section-size_in.false ∙ c.size_in.ensures heads read)

pub returns-clause-ok : goal.returns-clause-ok
returns-clause-ok c = λ heads read. subst (All (FitsSize c.args.table.now c.args.rows heads)) (take_all c.loop-section.section-index c.args.sections.now (omega (arith, c.loop-section-test.false))) (c.loop-section.invariant heads read)
