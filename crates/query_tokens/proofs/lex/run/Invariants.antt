use Rattle.std.proofs.Common.{◌≡◌, ◌+◌, ◌-◌, ◌<◌, ◌≤◌, length, drop, get_or}
use Rattle.std.specs.List.{prefix_len}
use Rattle.query_tokens.specs.Lex.{is_in}
use Rattle.query_tokens.proofs.lex.run.Given as goal

abbrev pub invariant-loop-end : goal.invariant-loop-end
invariant-loop-end l = record {
  counted : l.end + prefix_len (is_in l.class) (drop l.end l.z) ≡ prefix_len (is_in l.class) l.z;
  within : l.end ≤ length l.z;
  last : 0 < l.end → get_or l.z (l.end - 1) 0 < 128;
}

abbrev pub decreases-loop-end : goal.decreases-loop-end
decreases-loop-end l = length l.z - l.end
