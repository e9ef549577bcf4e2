use Rattle.std.proofs.Common.{◌∙◌, ◌<◌, length, sym, arith}
use Rattle.star_reader.specs.Answers.{asked_of}
use Rattle.star_reader.proofs.PassSteps.{selected_bad}
use Rattle.star_reader.proofs.selection.Selected.take_passing.Goals as goal

pub returns-then-not-branch : goal.returns-then-not-branch
returns-then-not-branch c = record {
  selected = λ may.
      let t = asked_of c.args.task.now in
      let k = length c.args.task.now.matched in
      let docs = c.args.table.now.docs in
      let at = c.loop-at.at in
      let lt : at < length docs = omega (arith, c.loop-at-test.true, c.len-count.ensures.count) in
      (rw c.if-not-branch.true at c.in_ok-take.ensures.selected)
      (selected_bad c.args.asked.now t k c.args.level docs at lt
      (sym c.passes_from.ensures ∙ c.if-not-passes_from.false) c.args.rows
      c.args.self.now.table.docs c.loop-at.self.table.docs c.loop-at.invariant.docs may);
}
