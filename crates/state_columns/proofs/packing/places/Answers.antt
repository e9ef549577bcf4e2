use Rattle.std.proofs.Common.{get_or, refl}
use Rattle.state_columns.specs.Packing.{place}
use Rattle.state_columns.proofs.CopySteps as steps
use Rattle.state_columns.proofs.packing.places.Goals as goal

pub loop-word-preserved : goal.loop-word-preserved
loop-word-preserved c =
    let at = get_or c.args.words.now c.loop-word.word-index 0 in
    steps.mapped_more (place c.args.start) c.args.words.now c.loop-word.order.items
    c.push.new.self.items c.loop-word.word-index 0 (place c.args.start at) c.loop-word-test.true
    c.loop-word.invariant refl c.in_ok-push.ensures.items

pub returns : goal.returns
returns c =
    steps.mapped_all (place c.args.start) c.args.words.now c.loop-word.order.items
    c.loop-word.word-index c.loop-word-test.false c.loop-word.invariant
