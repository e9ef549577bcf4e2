use Rattle.std.proofs.Common.{◌≡◌, ◌++◌, drop}
use Rattle.segment_plan.specs.Factors.{factors_from}
use Rattle.segment_plan.proofs.split_factors.factors.Given as goal

abbrev pub invariant-loop-level : goal.invariant-loop-level
invariant-loop-level l = l.factors ++ factors_from l.query l.head l.setting.shape l.level (drop l.level l.split) ≡ factors_from l.query l.head l.setting.shape 0 l.split
