use Rattle.std.proofs.Common.{sym, ◌∙◌, ◌++◌, ◌∷◌, ◌<◌, ◌≤◌, [], List, length, ap, arith}
use Rattle.std.proofs.lemmas.List.{take_all}
use Rattle.std.proofs.lemmas.Option.{get_or_from_slice_get}
use Rattle.star_records.specs.Folding.{picked}
use Rattle.star_records.proofs.BlockSteps as steps
use Rattle.star_records.proofs.blocks.columns_at.Goals as goal

pub loop-i-preserved : goal.loop-i-preserved
loop-i-preserved g c = λ d.
    let columns = c.args.columns.now in
    let words = c.args.words.now in
    let i = c.loop-i.i in
    let lt : i < length columns = omega (arith, c.loop-i-test.true, c.len-i-end.ensures) in
    let column = c.as_slice.result.now in
    let at = c.as_slice.ensures ∙ sym (get_or_from_slice_get columns i c.at.result.now [] c.at.ensures) in
    let more = c.in_ok-push.ensures.items
    ∙ ap (λ (l : List g.row.T.Denot). c.loop-i.block.items ++ (l ∷ [])) c.from_vec.ensures in
    steps.columns_more d words columns i column c.in_ok-items.items.items c.loop-i.block.items
    c.push.new.self.items lt at (c.in_ok-items.ensures d) (c.loop-i.invariant d) more

pub returns : goal.returns
returns g c = λ d.
    let columns = c.args.columns.now in
    let end : length columns ≤ c.loop-i.i =
    omega (arith, c.loop-i-test.false, c.len-i-end.ensures) in
    c.from_vec-2.ensures ∙ c.loop-i.invariant d
    ∙ ap (picked d c.args.words.now) (take_all c.loop-i.i columns end)
