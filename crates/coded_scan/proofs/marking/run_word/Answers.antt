use Rattle.std.proofs.Common.{◌+◌, ◌∙◌, List, ℕ, ap, cond, get_or, length, arith, sym, subst}
use Rattle.std.proofs.lemmas.Simd.{get_or-chunk}
use Rattle.coded_columns.specs.Ids.{seen_ids}
use Rattle.coded_scan.specs.Marks.{HasMarks, is_between, is_marked}
use Rattle.coded_scan.proofs.MarkSteps.{whole-marks}
use Rattle.coded_scan.proofs.marking.run_word.Goals as goal

pub returns-in-Wide : goal.returns-in-Wide
returns-in-Wide c =
    let ids = c.in-Wide.ids.now in
    let first = c.args.first in
    let last = first + c.args.more in
    let is = ap seen_ids c.in-Wide.is in
    subst (λ (xs : List ℕ). HasMarks (is_marked (length xs) (λ row. is_between first last (get_or xs row 0))) c.args.from c.wide_lanes.result) (sym is)
    (whole-marks (λ row. is_between first last (get_or ids row 0)) (length ids) c.args.from c.wide_lanes.result (omega (arith, c.if-count-from.false, c.count.ensures, ap length is))
    (λ i lt. c.wide_lanes.ensures i lt ∙ ap (λ id. cond (is_between first last id) 1 0) (get_or-chunk c.args.from 64 ids i 0 lt)))
