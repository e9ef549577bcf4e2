use Rattle.std.proofs.Common.{◌∙◌, ◌<◌, ◌++◌, ◌∷◌, [], length, get_or, sym, ap, arith}
use Rattle.std.proofs.lemmas.List.{get_or_default}
use Rattle.segment_build.specs.Coded.{ids_at}
use Rattle.segment_build.proofs.Codings.{mapped_more, own_ids}
use Rattle.segment_build.proofs.trees.split_ids.Goals as goal

pub index-requires : goal.index-requires
index-requires c = omega (arith, c.requires c.loop-column.column-index 0 c.loop-column-test.true)

pub loop-column-preserved : goal.loop-column-preserved
loop-column-preserved c =
    let coded = c.args.coded.now in
    let i = c.loop-column.column-index in
    let column = get_or c.args.split.now i 0 in
    let lt : column < length coded.columns.items = c.requires i 0 c.loop-column-test.true in
    mapped_more (ids_at coded) c.args.split.now i column _ c.loop-column.all.items c.push.new.self.items c.loop-column-test.true (get_or_default c.args.split.now i 0 column c.loop-column-test.true)
    (c.in_ok-put_all.ensures ∙ sym (own_ids coded column c.index.result.now lt c.index.ensures)) c.loop-column.invariant
    (c.in_ok-push.ensures.items ∙ ap (λ ids. c.loop-column.all.items ++ ids ∷ []) c.from_vec.ensures)
