use Rattle.std.proofs.Common.{◌∙◌, ◌++◌, ◌∷◌, [], sym, ap, append_assoc, arith, map}
use Rattle.std.proofs.lemmas.List.FromFn.{map-range_with_len_more}
use Rattle.std.specs.List.{range_with_len}
use Rattle.segment_file.specs.declared.part.Part.TheVariants.{Forward}
use Rattle.segment_file.proofs.sections.push_forwards.Goals as goal

pub loop-column-preserved : goal.loop-column-preserved
loop-column-preserved c =
    let column = c.loop-column.column in
    let old = c.args.parts.now.items in
    c.in_ok-push.ensures.items
    ∙ ap (λ parts. parts ++ Forward column ∷ []) c.loop-column.invariant
    ∙ append_assoc old (map Forward (range_with_len 0 column)) (Forward column ∷ [])
    ∙ ap (λ more. old ++ more) (sym (map-range_with_len_more Forward 0 column column (omega arith)))
