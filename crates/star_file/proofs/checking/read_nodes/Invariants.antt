use Rattle.std.proofs.Common.{◌≡◌, ◌++◌, ◌-◌, ◌*◌, drop}
use Rattle.star_file.specs.Rules.{nodes_in}
use Rattle.star_file.proofs.checking.read_nodes.Given as goal

abbrev pub invariant-loop-i : goal.invariant-loop-i
invariant-loop-i l = l.nodes.items ++ nodes_in (l.count - l.i) (drop (28 * l.i) l.bytes)
    ≡ nodes_in l.count l.bytes
