use Rattle.std.proofs.Common.{◌∙◌, ◌++◌, ap}
use Rattle.bit_column.specs.Postings.{inverted}
use Rattle.segment_build.proofs.MadeLemmas.{each_more, pushed_only}
use Rattle.segment_build.proofs.sections.push_lists.Goals as goal

pub returns : goal.returns
returns c =
    let section = inverted c.args.coded.count c.args.coded.ids.now in
    pushed_only c.args.is_inverted _ _ section c.if-not-is_inverted.false
    (each_more _ _ _ section c.in_ok-push.ensures.items (c.from_vec.ensures ∙ c.in_ok-write_inverted.ensures.ok ∙ ap (λ x. x ++ section) c.new-bytes.ensures.items))
