use Rattle.std.proofs.Common.{◌≡◌, drop, map}
use Rattle.values.specs.Tests.{any_true}
use Rattle.segment_plan.specs.Named.{wide_names}
use Rattle.segment_plan.proofs.named.+wide_names.Given as goal

abbrev pub invariant-loop-member : goal.invariant-loop-member
invariant-loop-member l = wide_names l.column l.fn.wide ≡ any_true (map (wide_names l.column) (drop l.member-index l.member-items))

abbrev pub invariant-loop-member-2 : goal.invariant-loop-member-2
invariant-loop-member-2 l = wide_names l.column l.fn.wide ≡ any_true (map (wide_names l.column) (drop l.member-index l.member-items))
