use Rattle.std.proofs.Common.{◌<◌, length, arith}
use Rattle.segment_file.proofs.Loops.{entries_step, entries_stop, offset_fits, offset_step}
use Rattle.segment_file.proofs.front.push_directory.Goals as goal

pub loop-at-preserved : goal.loop-at-preserved
loop-at-preserved c =
    let within : c.loop-at.at < length c.args.sizes.now = omega (arith, c.loop-at-test.true, c.requires.each) in
    record {
      written = entries_step c.args.sections.now c.args.sizes.now c.loop-at.at c.loop-at.offset _ c.loop-at.out.items c.push_entry.new.out.items _ c.loop-at-test.true within c.in_ok-push_entry.ensures c.loop-at.invariant.written;
      offset = offset_step c.args.sizes.now c.loop-at.at c.loop-at.offset _ within c.loop-at.invariant.offset;
    }

pub returns : goal.returns
returns c = entries_stop c.args.sections.now _ c.loop-at.at c.loop-at.offset c.loop-at.out.items _ c.loop-at-test.false c.loop-at.invariant.written

pub overflow_add-offset : goal.overflow_add-offset
overflow_add-offset c =
    let within : c.loop-at.at < length c.args.sizes.now = omega (arith, c.loop-at-test.true, c.requires.each) in
    omega (arith, offset_fits c.args.sizes.now c.loop-at.at c.loop-at.offset _ within c.loop-at.invariant.offset, c.requires.short)
