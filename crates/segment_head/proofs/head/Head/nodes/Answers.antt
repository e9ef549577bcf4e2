use Rattle.std.proofs.Common.{◌∙◌, Some, get_or, length, ap, sym, arith}
use Rattle.std.proofs.lemmas.Option.{get_or_from_slice_get, slice_get_within}
use Rattle.segment_head.proofs.head.Head.nodes.Goals as goal

pub index-requires : goal.index-requires
index-requires c =
    let (t, at) = c.requires in
    omega (arith, slice_get_within c.args.self.now.trees c.args.tree (Some t) at, ap (λ h. length h.trees) c.self.view_is, c.self.inside.trees.ok)

pub unreachable-requires : goal.unreachable-requires
unreachable-requires c =
    let (t, at) = c.requires in
    let found = c.index.result.now in
    let no = sym c.in-None.is ∙ c.index.ensures ∙ ap (λ h. get_or h.trees c.args.tree found) c.self.view_is ∙ get_or_from_slice_get c.args.self.now.trees c.args.tree (Some t) found at in
    cc
