use Rattle.std.proofs.Common.{◌∙◌, get_or, map, ap, arith}
use Rattle.std.proofs.lemmas.List.{take_all}
use Rattle.segment_build.proofs.Arranged.{gathered_more}
use Rattle.segment_build.proofs.coding.gathered.Goals as goal

pub loop-place-preserved : goal.loop-place-preserved
loop-place-preserved g c = λ d. gathered_more c.args.places.now c.args.list.now c.loop-place.place-index c.index-list-place.result d c.loop-place.gathered.items c.push.new.self.items c.requires c.loop-place-test.true c.index-list-place.is (c.loop-place.invariant d) c.in_ok-push.ensures.items

pub returns : goal.returns
returns g c = λ d. c.loop-place.invariant d ∙ ap (map (λ place. get_or c.args.list.now place d)) (take_all c.loop-place.place-index c.args.places.now (omega (arith, c.loop-place-test.false)))
