use Rattle.std.proofs.Common.{arith}
use Rattle.star_file.proofs.Ranges.{range_more, range_none}
use Rattle.star_file.proofs.writing.push_docs.Goals as goal

pub loop-at-init : goal.loop-at-init
loop-at-init c = range_none c.args.from c.args.docs.now.docs c.args.out.now.items

pub loop-at-preserved : goal.loop-at-preserved
loop-at-preserved c =
    let docs = c.args.docs.now.docs in
    let i = c.loop-at.at in
    range_more docs c.args.from i c.args.out.now.items c.loop-at.out.items
    c.push_doc.new.out.items (omega (arith, c.loop-at.auto.at)) (omega (arith, c.loop-at-test.true, c.requires.there)) c.loop-at.invariant c.in_ok-push_doc.ensures.ok
