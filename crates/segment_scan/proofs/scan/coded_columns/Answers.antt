use Rattle.std.proofs.Common.{◌∙◌, ◌<◌, None, length, sym}
use Rattle.std.proofs.lemmas.List.{get_or_default}
use Rattle.segment_scan.proofs.scan.coded_columns.Goals as goal

pub coded_column-requires : goal.coded_column-requires
coded_column-requires c = λ list got.
    let ids = c.args.ids.now in
    let column = c.loop-column.column in
    let lt : column < length ids = c.loop-column-test.true in
    c.requires.loaded column list lt (sym (get_or_default ids column c.index-ids-column.result None lt) ∙ sym c.index-ids-column.is ∙ got)
