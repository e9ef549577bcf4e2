use Rattle.segment_build.proofs.FitTests.{large_tested}
use Rattle.table_store.proofs.publishing.publish_segment.Goals as goal

pub returns-in-Err-TooLarge-clause-too_large : goal.returns-in-Err-TooLarge-clause-too_large
returns-in-Err-TooLarge-clause-too_large g c = λ is.
    let tree = c.in-Err-TooLarge.field-0-0 in
    let large = c.in-Err-TooLarge.ensures.too_large tree c.in-Err-TooLarge.field-0-is in
    (c.in-Ok.ensures.place.free, c.in-Ok.ensures.place.room, large_tested c.args.table.now c.args.rows.now tree large)
