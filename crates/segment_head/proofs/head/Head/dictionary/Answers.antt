use Rattle.std.proofs.Common.{◌∙◌, Some, get_or, length, ap, sym, arith}
use Rattle.std.proofs.lemmas.Option.{get_or_from_slice_get, slice_get_within}
use Rattle.segment_head.proofs.head.Head.dictionary.Goals as goal

pub index-requires : goal.index-requires
index-requires c =
    let (d, at) = c.requires in
    omega (arith, slice_get_within c.args.self.now.dictionaries c.args.column (Some d) at, ap (λ h. length h.dictionaries) c.self.view_is, c.self.inside.dictionaries.ok)

pub unreachable-requires : goal.unreachable-requires
unreachable-requires c =
    let (d, at) = c.requires in
    let found = c.index.result.now in
    let no = sym c.in-None.is ∙ c.index.ensures ∙ ap (λ h. get_or h.dictionaries c.args.column found) c.self.view_is ∙ get_or_from_slice_get c.args.self.now.dictionaries c.args.column (Some d) found at in
    cc
