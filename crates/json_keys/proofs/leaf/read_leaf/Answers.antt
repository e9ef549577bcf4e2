use Rattle.std.proofs.Common.{rules}
use Rattle.json_keys.proofs.leaf.read_leaf.Goals as goal

pub returns-in-Some-eq0 : goal.returns-in-Some-eq0
returns-in-Some-eq0 c = search rules
