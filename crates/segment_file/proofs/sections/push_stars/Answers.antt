use Rattle.std.proofs.Common.{◌∙◌, ◌++◌, ◌∷◌, [], sym, ap, append_assoc, arith, map}
use Rattle.std.proofs.lemmas.List.FromFn.{map-range_with_len_more}
use Rattle.std.specs.List.{range_with_len}
use Rattle.segment_file.specs.declared.part.Part.TheVariants.{Star}
use Rattle.segment_file.proofs.sections.push_stars.Goals as goal

pub loop-tree-preserved : goal.loop-tree-preserved
loop-tree-preserved c =
    let tree = c.loop-tree.tree in
    let old = c.args.parts.now.items in
    c.in_ok-push.ensures.items
    ∙ ap (λ parts. parts ++ Star tree ∷ []) c.loop-tree.invariant
    ∙ append_assoc old (map Star (range_with_len 0 tree)) (Star tree ∷ [])
    ∙ ap (λ more. old ++ more) (sym (map-range_with_len_more Star 0 tree tree (omega arith)))
