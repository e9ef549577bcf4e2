use Rattle.std.proofs.Common.{◌∙◌, ap}
use Rattle.segment_file.specs.declared.part.Part.TheVariants.{Range}
use Rattle.segment_file.proofs.Loops.{marks_pass, marks_step, marks_stop}
use Rattle.segment_file.proofs.sections.push_ranges.Goals as goal
use Rattle.segment_file.proofs.sections.push_ranges.Goals.{then-mark+in_ok-push, else-mark}

pub loop-column-preserved : goal.loop-column-preserved
loop-column-preserved c =
    let marks = c.args.marks.now in
    let so_far = c.loop-column.parts.items in
    elim c.if-mark.branch [
      | then-mark+in_ok-push w ↦ marks_step Range marks c.loop-column.column _ so_far c.if-mark.parts.items _ c.loop-column-test.true w.if-mark.true (ap (λ v. v.items) w.parts-is ∙ w.in_ok-push.ensures.items) c.loop-column.invariant
      | else-mark w ↦ marks_pass Range marks c.loop-column.column _ so_far c.if-mark.parts.items _ c.loop-column-test.true w.if-mark.false (ap (λ v. v.items) w.parts-is) c.loop-column.invariant
    ]

pub returns : goal.returns
returns c = marks_stop Range c.args.marks.now c.loop-column.column c.loop-column.parts.items _ c.loop-column-test.false c.loop-column.invariant
