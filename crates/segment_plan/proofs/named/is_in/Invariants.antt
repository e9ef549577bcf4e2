use Rattle.std.proofs.Common.{◌≡◌, ◌==◌, drop}
use Rattle.std.specs.List.{list_any}
use Rattle.segment_plan.proofs.named.is_in.Given as goal

abbrev pub invariant-loop-number : goal.invariant-loop-number
invariant-loop-number l = list_any (λ other. other == l.column) l.numbers ≡ list_any (λ other. other == l.column) (drop l.number-index l.numbers)
