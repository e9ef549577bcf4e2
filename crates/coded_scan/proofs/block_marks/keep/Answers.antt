use Rattle.std.proofs.Common.{◌≡◌, ◌+◌, false, rules}
use Rattle.coded_scan.specs.RowFilters.{lets}
use Rattle.coded_scan.proofs.MarkSteps.{none-left}
use Rattle.coded_scan.proofs.block_marks.keep.Goals as goal

pub returns-then-not-has_mark : goal.returns-then-not-has_mark
returns-then-not-has_mark c = λ holds are.
    let none : c.has_mark.result ≡ false = search rules in
    none-left c.args.block.length holds (λ at. lets (c.args.block.from + at) c.args.row_filter.now) c.args.words.now (c.has_mark.ensures none) are

pub returns : goal.returns
returns c = λ holds are. c.keep_both.ensures c.args.block.length holds (λ at. lets (c.args.block.from + at) c.args.row_filter.now) are c.in_ok-mark_rows.ensures
