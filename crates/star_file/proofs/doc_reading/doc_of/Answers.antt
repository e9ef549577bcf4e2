use Rattle.std.proofs.Common.{◌≡◌, ◌+◌, ◌-◌, ◌*◌, take, drop, arith, ap, ◌∙◌}
use Rattle.star_file.proofs.doc_reading.doc_of.Goals as goal

pub returns-clause-part : goal.returns-clause-part
returns-clause-part c =
    let from = c.args.at * c.args.width in
    let n : from + c.args.width - from ≡ c.args.width = omega arith in
    c.between.ensures.part ∙ ap (λ m. take m (drop from c.args.bytes.now)) n
