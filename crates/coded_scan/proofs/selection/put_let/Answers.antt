use Rattle.std.proofs.Common.{◌+◌, subst, sym, arith}
use Rattle.coded_scan.specs.Marks.{AreMarks}
use Rattle.coded_scan.specs.RowFilters.{all_let}
use Rattle.coded_scan.proofs.selection.put_let.Goals as goal

pub mark_block-requires-clause-words : goal.mark_block-requires-clause-words
mark_block-requires-clause-words c = record {
  enough = omega (arith, c.requires.words);
  few = omega (arith, c.requires.words, c.requires.within, c.args.rows.segment.now.coded.at_most);
}

pub put_marked-requires-clause-fits : goal.put_marked-requires-clause-fits
put_marked-requires-clause-fits c =
    omega (arith, c.mark_block.auto.words, c.requires.words, c.requires.within, c.args.rows.segment.now.coded.at_most)

pub put_marked-requires-clause-marks : goal.put_marked-requires-clause-marks
put_marked-requires-clause-marks c = record {
  holds = λ at. all_let (c.args.block.from + at) c.args.rows.row_filters.now;
  are = subst (λ n. AreMarks n (λ at. all_let (c.args.block.from + at) c.args.rows.row_filters.now) c.mark_block.new.words) (sym c.requires.room) c.in_ok-mark_block.ensures.marks;
}
