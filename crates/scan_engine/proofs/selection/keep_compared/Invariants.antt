use Rattle.std.proofs.Common.{get_or, pos}
use Rattle.values.specs.Order.{value_order}
use Rattle.values.specs.Tests.{op_holds}
use Rattle.values.specs.declared.value.Value.TheVariants.{Whole}
use Rattle.scan_engine.proofs.SelectionLemmas.{KeepsBelow}
use Rattle.scan_engine.proofs.selection.keep_compared.Given as goal

abbrev pub invariant-loop-at : goal.invariant-loop-at
invariant-loop-at l = KeepsBelow l.at (λ at. op_holds l.op (value_order (Whole (get_or l.numbers at (pos 0))) (Whole l.bound))) l.fn.marks l.marks
