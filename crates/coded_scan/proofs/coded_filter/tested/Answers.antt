use Rattle.std.proofs.Common.{◌∙◌, Bool}
use Rattle.coded_columns.proofs.CodedLemmas.{tested-at}
use Rattle.coded_scan.specs.declared.row_filter.RowFilter.TheOpen.{RowFilter-F}
use Rattle.coded_scan.specs.declared.row_filter.RowFilter.TheFolds.{fold-roll-RowFilter}
use Rattle.coded_scan.specs.RowFilters.{lets_step}
use Rattle.coded_scan.proofs.coded_filter.tested.Goals as goal

pub returns-in_ok-matching-in-Some-clause-lets : goal.returns-in_ok-matching-in-Some-clause-lets
unfolding Rattle.coded_scan.specs.declared.row_filter.RowFilter.TheViews.roll-RowFilter denote.Hole.Carrier.roll
returns-in_ok-matching-in-Some-clause-lets c = λ at lt.
    fold-roll-RowFilter Bool (lets_step at) (RowFilter-F.Ids c.in-Some.column.ids c.in_ok-matching-in-Some.matching)
    ∙ tested-at c.args.segment.now c.args.field c.in-Some.column c.args.test.now c.in_ok-matching-in-Some.matching at lt
    c.in-Some.ensures c.in_ok-matching-in-Some.ensures.each
