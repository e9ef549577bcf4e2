use Rattle.segment_build.proofs.MadeLemmas.{bytes_appended}
use Rattle.segment_build.proofs.file.push_all.Goals as goal

pub loop-section-preserved : goal.loop-section-preserved
loop-section-preserved c =
    bytes_appended c.args.sections.now c.loop-section.section-index c.section-item.result c.args.file.now.items c.loop-section.file.items c.write.new.out.items
    c.loop-section-test.true c.section-item.is c.loop-section.invariant c.in_ok-write.ensures
