use Rattle.std.proofs.Common.{◌<◌, ◌∙◌, ◌&&◌, ℕ, Bool, false, get_or, rules, length, pos, ap, arith}
use Rattle.values.specs.Order.{value_order}
use Rattle.values.specs.Tests.{op_holds}
use Rattle.values.specs.declared.value.Value.TheVariants.{Whole}
use Rattle.scan_engine.proofs.SelectionLemmas.{keeps-all, keeps-none, keeps-set}
use Rattle.scan_engine.proofs.selection.keep_compared.Goals as goal

pub loop-at-init : goal.loop-at-init
loop-at-init c = keeps-none _ _

pub loop-at-preserved : goal.loop-at-preserved
loop-at-preserved c =
    let holds : ℕ → Bool = λ at. op_holds c.args.op (value_order (Whole (get_or c.args.numbers.now at (pos 0))) (Whole c.args.bound.now)) in
    let lt : c.loop-at.at < length c.args.marks.now = omega arith in
    keeps-set c.loop-at.at holds c.args.marks.now c.loop-at.marks c.is_kept.result lt
    (c.is_kept.ensures ∙ ap (λ b. get_or c.loop-at.marks c.loop-at.at false && b) (c.op_holds.ensures ∙ ap (op_holds c.args.op) (search rules))) c.loop-at.invariant

pub returns : goal.returns
returns c = keeps-all c.loop-at.at _ c.args.marks.now c.loop-at.marks (omega arith) c.loop-at.invariant
