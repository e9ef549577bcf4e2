use Rattle.std.proofs.Common.{◌∙◌, ◌++◌, ◌∷◌, ℕ, List, ap}
use Rattle.std.specs.Fmt.{decimal}
use Rattle.segment_plan.specs.Explained.{plan_word}
use Rattle.query_executor.proofs.LineLemmas.{line_pushed, pair_pushed}
use Rattle.query_executor.proofs.pass.push_if.Goals as goal

pub returns : goal.returns
returns c = λ wanted.
    let old : List ℕ = c.args.lines.now.items in
    let first : List ℕ = c.push.new.self.items in
    let second : List ℕ = c.push-2.new.self.items in
    let word : List ℕ = plan_word c.args.done.now.plan in
    let digits : List ℕ = decimal c.args.done.now.docs in
    line_pushed old c.args.segment.now.name (word ++ (44 ∷ digits)) c.extend_from_slice.new.self.items first c.extend_from_slice-2.new.self.items c.push-3.new.self.items
    (c.in_ok-extend_from_slice.ensures.items ∙ ap (λ l. old ++ l) c.as_slice.ensures)
    c.in_ok-push.ensures.items
    (pair_pushed first word digits c.push_word.new.text.items second c.extend_from_slice-2.new.self.items c.in_ok-push_word.ensures c.in_ok-push-2.ensures.items
    (c.in_ok-extend_from_slice-2.ensures.items ∙ ap (λ l. second ++ l) (c.as_bytes.ensures.value ∙ c.in_ok-digits.ensures.ok)))
    c.in_ok-push-3.ensures.items
