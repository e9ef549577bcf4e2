use Rattle.std.proofs.Common.{◌∙◌, ap, length}
use Rattle.segment_reads.specs.Looked.{docs_by}
use Rattle.query_executor.proofs.laws.docs_law.Goals as goal

pub returns : goal.returns
returns c query table rows plan is none =
    ap (docs_by query table rows) is ∙ ap length (c.served_law.ensures.rows query plan.choices rows none)
