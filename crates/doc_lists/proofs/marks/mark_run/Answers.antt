use Rattle.std.proofs.Common.{arith, refl}
use Rattle.doc_lists.proofs.WordSteps.{part_done, part_one, part_word}
use Rattle.doc_lists.proofs.marks.mark_run.Goals as goal

pub loop-doc-preserved-then-doc-end : goal.loop-doc-preserved-then-doc-end
loop-doc-preserved-then-doc-end c =
    let within = c.if-doc-end.true in record {
      within = within;
      marked = part_word c.args.run.first c.loop-doc.doc c.args.marks.now c.loop-doc.marks _ c.loop-doc.invariant.marked (omega (arith, c.loop-doc-test.true, c.requires.room)) c.if-doc-eq0.true refl;
    }

pub loop-doc-preserved : goal.loop-doc-preserved
loop-doc-preserved c = record {
  within = omega (arith, c.loop-doc-test.true);
  marked = part_one c.args.run.first c.loop-doc.doc c.args.marks.now c.loop-doc.marks _ c.loop-doc.invariant.marked (omega (arith, c.loop-doc-test.true, c.requires.room)) refl;
}

pub returns : goal.returns
returns c = part_done c.args.run c.args.marks.now c.loop-doc.marks c.loop-doc.doc (omega (arith, c.loop-doc-test.false, c.loop-doc.invariant.within)) c.loop-doc.invariant.marked
