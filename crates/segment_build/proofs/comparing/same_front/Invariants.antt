use Rattle.std.proofs.Common.{◌≡◌, ◌≤◌, ◌-◌, length, take}
use Rattle.segment_build.proofs.comparing.same_front.Given as goal

-- so far the two are the same
abbrev pub invariant-same : goal.invariant-same
invariant-same l = record {
  within : l.count ≤ length l.a;
  other : l.count ≤ length l.b;
  same : take l.count l.a ≡ take l.count l.b;
}

abbrev pub decreases-same : goal.decreases-same
decreases-same l = length l.a - l.count
