use Rattle.std.proofs.Common.{◌∙◌, Ok, ap}
use Rattle.values.specs.Columns.{rows_of}
use Rattle.segment_build.proofs.FitTests.{large_tested}
use Rattle.table_store.proofs.publishing.replace_segment.Goals as goal

pub returns-in-Err-TooLarge-clause-too_large : goal.returns-in-Err-TooLarge-clause-too_large
returns-in-Err-TooLarge-clause-too_large g c = λ is.
    let tree = c.in-Err-TooLarge.field-0-0 in
    let large = c.in-Err-TooLarge.ensures.too_large tree c.in-Err-TooLarge.field-0-is in
    (c.holds_segment.ensures.yes (c.in-Ok-true.is ∙ ap Ok c.in-Ok-true.field-0-test), large_tested c.args.table.now (rows_of c.args.columns) tree large)
