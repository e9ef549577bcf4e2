use Rattle.std.proofs.Common.{◌∙◌, ◌++◌, ℕ, List, ap}
use Rattle.segment_plan.specs.Explained.{explained_by, plan_text}
use Rattle.query_executor.proofs.LineLemmas.{line_pushed}
use Rattle.query_executor.proofs.planned.push_line.Goals as goal

pub returns : goal.returns
returns c =
    let query = c.args.query.now in
    let table = c.args.table.now in
    let head = c.args.found.now.head in
    let old : List ℕ = c.args.text.now.items in
    let comma : List ℕ = c.push.new.self.items in
    line_pushed old c.args.segment.now.name (explained_by query table head) c.extend_from_slice.new.self.items comma c.push_plan.new.text.items c.push-2.new.self.items
    (c.in_ok-extend_from_slice.ensures.items ∙ ap (λ l. old ++ l) c.as_slice.ensures)
    c.in_ok-push.ensures.items
    (c.in_ok-push_plan.ensures ∙ ap (λ p. comma ++ plan_text query table head p) c.requires.planned)
    c.in_ok-push-2.ensures.items
