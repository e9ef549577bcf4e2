use Rattle.std.proofs.Common.{◌+◌, ◌∙◌, ap, cond, get_or, length, arith}
use Rattle.std.proofs.lemmas.Simd.{get_or-chunk}
use Rattle.coded_scan.specs.Marks.{is_between}
use Rattle.coded_scan.proofs.MarkSteps.{same-run, whole-marks}
use Rattle.coded_scan.proofs.marking.narrow_run.Goals as goal

pub returns : goal.returns
returns c =
    let ids = c.args.ids.now in
    let first = c.args.first in
    let most = c.min-most.result in
    whole-marks (λ row. is_between first (first + c.args.more) (get_or ids row 0)) (length ids) c.args.from c.narrow_lanes.result c.requires.there
    (λ i lt. c.narrow_lanes.ensures i lt
    ∙ ap (λ id. cond (is_between first (first + most) id) 1 0) (get_or-chunk c.args.from 64 ids i 0 lt)
    ∙ ap (λ b. cond b 1 0) (same-run first most c.args.more 65535 (get_or ids (c.args.from + i) 0) (let small = (c.type_inv.ids (c.args.from + i)).fits in omega (arith, small)) (omega (arith, c.if-first-ge-MOST_NARROW.false)) c.min-most.ensures))
