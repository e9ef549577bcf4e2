use Rattle.values.specs.Columns.{rows_of}
use Rattle.segment_build.proofs.FitTests.{large_tested}
use Rattle.embedded.proofs.building.publish.Goals as goal

pub returns-in-Err-TooLarge-clause-too_large : goal.returns-in-Err-TooLarge-clause-too_large
returns-in-Err-TooLarge-clause-too_large g c = λ is.
    let tree = c.in-Err-TooLarge.field-0-0 in
    large_tested c.args.table.now (rows_of c.args.columns) tree (c.in-Err-TooLarge.ensures.too_large tree c.in-Err-TooLarge.field-0-is)
