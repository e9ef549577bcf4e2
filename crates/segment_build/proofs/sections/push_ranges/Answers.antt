use Rattle.std.proofs.Common.{◌∙◌, ◌++◌, ap}
use Rattle.bit_column.specs.Postings.{ranged}
use Rattle.segment_build.proofs.MadeLemmas.{each_more, pushed_only}
use Rattle.segment_build.proofs.sections.push_ranges.Goals as goal

pub returns : goal.returns
returns c =
    let section = ranged c.args.coded.count c.args.coded.ids.now in
    pushed_only c.args.is_ranged _ _ section c.if-not-is_ranged.false
    (each_more _ _ _ section c.in_ok-push.ensures.items (c.from_vec.ensures ∙ c.in_ok-write_ranged.ensures.ok ∙ ap (λ x. x ++ section) c.new-bytes.ensures.items))
