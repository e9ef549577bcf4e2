use Rattle.segment_build.proofs.MadeLemmas.{sizes_more}
use Rattle.segment_build.proofs.file.sizes_of.Goals as goal

pub loop-section-preserved : goal.loop-section-preserved
loop-section-preserved c =
    sizes_more c.args.sections.now c.loop-section.section-index c.section-item.result c.size.result c.loop-section.sizes.items c.push.new.self.items
    c.loop-section-test.true c.section-item.is c.size.ensures c.loop-section.invariant c.in_ok-push.ensures.items
