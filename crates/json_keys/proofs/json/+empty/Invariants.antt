use Rattle.std.proofs.Common.{◌≡◌}
use Rattle.serde_json.specs.View.{members_view}
use Rattle.json_keys.specs.Json.{all_empty}
use Rattle.json_keys.proofs.json.+empty.Given as goal

abbrev pub invariant-all_empty-loop-member : goal.invariant-all_empty-loop-member
invariant-all_empty-loop-member l = all_empty (members_view l.member-iterator) ≡ all_empty (members_view l.members.entries)
