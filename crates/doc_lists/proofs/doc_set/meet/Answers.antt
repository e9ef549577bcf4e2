use Rattle.std.proofs.Common.{◌&&◌, refl}
use Rattle.doc_lists.proofs.SetSteps.{set_those}
use Rattle.doc_lists.proofs.doc_set.meet.Goals as goal

pub returns : goal.returns
returns c =
    set_those (λ p q. p && q) c.args.a.now c.args.b.now c.in_ok-marks.marks.items c.in_ok-others.others.items c.in_ok-marks.marks.items c.as_slice.result.now c.keep_both.new.marks.items refl c.as_slice.ensures.value
    c.in_ok-marks.ensures c.in_ok-others.ensures c.keep_both.ensures.those
