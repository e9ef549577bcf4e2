use Rattle.std.proofs.Common.{◌∙◌, sym, subst, arith}
use Rattle.doc_lists.proofs.Sweep.{Steps, step_taken, step_within}
use Rattle.doc_lists.proofs.sets.left_from.Goals as goal

pub following-left-requires : goal.following-left-requires
following-left-requires c = step_within c.loop-left.left.now c.args.doc c.loop-left.step (sym c.ends_before-in-loop-left.ensures ∙ c.if-ends_before.true)

pub loop-left-preserved-then-ends_before : goal.loop-left-preserved-then-ends_before
loop-left-preserved-then-ends_before c =
    subst (λ runs. Steps c.args.runs.now runs c.args.doc c.saturating_mul-step.result) (sym c.following-left.ensures)
    (step_taken c.args.runs.now c.loop-left.left.now c.args.doc c.loop-left.step c.saturating_mul-step.result c.loop-left.invariant (sym c.ends_before-in-loop-left.ensures ∙ c.if-ends_before.true) (omega (arith, c.saturating_mul-step.ensures, c.loop-left.invariant.some)))
