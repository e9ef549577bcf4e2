use Rattle.std.proofs.Common.{◌∙◌, ◌<◌, ◌++◌, ◌∷◌, [], length, ap, arith}
use Rattle.segment_file.proofs.Loops.{offset_fits, offset_step}
use Rattle.segment_head.proofs.Loops.{sections_step, sections_stop}
use Rattle.segment_head.proofs.check.place_sections.Goals as goal

pub loop-at-preserved : goal.loop-at-preserved
loop-at-preserved c =
    let within : c.loop-at.at < length c.args.sizes.now = omega (arith, c.loop-at-test.true, c.requires.each) in
    let so_far = c.loop-at.sections.items in
    record {
      made = sections_step c.args.file.now c.args.parts.now c.args.sizes.now c.loop-at.at c.loop-at.offset _ so_far c.push.new.self.items _ c.loop-at-test.true within
          (c.in_ok-push.ensures.items ∙ ap (λ s. so_far ++ s ∷ []) c.in_ok-section.ensures) c.loop-at.invariant.made;
      offset = offset_step c.args.sizes.now c.loop-at.at c.loop-at.offset _ within c.loop-at.invariant.offset;
    }

pub returns : goal.returns
returns c = sections_stop c.args.file.now c.args.parts.now _ c.loop-at.at c.loop-at.offset c.loop-at.sections.items _ c.loop-at-test.false c.loop-at.invariant.made

pub overflow_add-offset : goal.overflow_add-offset
overflow_add-offset c =
    let within : c.loop-at.at < length c.args.sizes.now = omega (arith, c.loop-at-test.true, c.requires.each) in
    omega (arith, offset_fits c.args.sizes.now c.loop-at.at c.loop-at.offset _ within c.loop-at.invariant.offset, c.requires.short)
