use Rattle.std.proofs.Common.{◌∙◌, get_or, map, ap, arith}
use Rattle.std.proofs.lemmas.List.{take_all}
use Rattle.star_rows.specs.Words.{row_in}
use Rattle.star_records.proofs.BlockSteps as steps
use Rattle.star_records.proofs.blocks.column_at.Goals as goal

pub loop-word-preserved : goal.loop-word-preserved
loop-word-preserved g c = λ d. steps.column_more c.args.column.now c.args.words.now
    c.loop-word.word-index c.index-column-word.result d c.loop-word.items.items
    c.push.new.self.items c.requires c.loop-word-test.true c.index-column-word.is
    (c.loop-word.invariant d) c.in_ok-push.ensures.items

pub returns : goal.returns
returns g c = λ d. c.loop-word.invariant d
    ∙ ap (map (λ word. get_or c.args.column.now (row_in word) d))
    (take_all c.loop-word.word-index c.args.words.now (omega (arith, c.loop-word-test.false)))
