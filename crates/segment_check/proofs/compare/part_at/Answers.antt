use Rattle.std.proofs.Common.{◌≡◌, ◌<◌, ◌≤◌, ◌+◌, length, get_or, arith}
use Rattle.segment_file.specs.declared.part.Part.TheVariants.{Head}
use Rattle.segment_file.proofs.Loops.{offset_step}
use Rattle.segment_check.proofs.Sameness.{part_step}
use Rattle.segment_check.proofs.compare.part_at.Goals as goal
use Rattle.segment_check.proofs.compare.part_at.Goals.{else-offset-at-via-then-offset-at+else-at-end, else-offset-at-via-else-offset-at}

pub parts-preserved : goal.parts-preserved
parts-preserved c =
    let at = c.parts.number in
    let within : at < length c.args.sizes.now = omega (arith, c.parts-test.true, c.requires.each) in
    let past : c.parts.offset ≤ c.args.at → c.parts.offset + get_or c.args.sizes.now at 0 ≤ c.args.at =
    elim c.else-offset-at.branch as (λ b. c.parts.offset ≤ c.args.at → c.parts.offset + get_or c.args.sizes.now at 0 ≤ c.args.at) [
      | else-offset-at-via-then-offset-at+else-at-end w ↦ λ le. omega (arith, w.if-at-end.false)
      | else-offset-at-via-else-offset-at w ↦ λ le. absurd (omega (arith, le, w.if-offset-at.false))
    ] in
    record {
      left = part_step c.args.parts.now c.args.sizes.now at c.parts.offset c.args.at Head _ c.parts-test.true within past c.parts.invariant.left;
      offset = offset_step c.args.sizes.now at c.parts.offset _ within c.parts.invariant.offset;
    }
