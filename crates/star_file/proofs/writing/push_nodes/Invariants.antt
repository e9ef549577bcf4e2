use Rattle.std.proofs.Common.{◌≡◌, ◌++◌, ◌∷◌, [], take, length}
use Rattle.star_file.specs.Bytes.{words, node_bytes}
use Rattle.star_file.proofs.writing.push_nodes.Given as goal

abbrev pub invariant-loop-i : goal.invariant-loop-i
invariant-loop-i l = l.out.items ≡ (l.fn.out.items ++ words (length l.tree.docs.docs ∷ []))
    ++ node_bytes (take l.i l.nodes)
