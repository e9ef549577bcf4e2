use Rattle.segment_opening.proofs.FoundLemmas.{others_so}
use Rattle.segment_opening.proofs.found.other_columns.Goals as goal

pub returns : goal.returns
returns c = others_so c.args.query.now c.as_slice.result.now c.args.count c.named_columns.result (λ marks. marks.items) c.named_columns.ensures
