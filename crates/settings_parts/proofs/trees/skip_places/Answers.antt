use Rattle.std.proofs.Common.{◌<◌, ◌∷◌, [], ◌++◌, length, ap, ◌∙◌, arith}
use Rattle.settings_parts.proofs.Numbers.{numbers_more, skip_more}
use Rattle.settings_parts.proofs.trees.skip_places.Goals as goal

pub loop-place-preserved : goal.loop-place-preserved
loop-place-preserved c =
    let l = c.loop-place in
    let fields = c.args.fields.all.now in
    let path = c.args.path.now in
    let xs = c.args.items.now in
    let x = c.index-items-place.result in
    let within : l.place < length xs = omega arith in
    let is = c.index-items-place.is in (
      skip_more fields path xs l.place x within is c.args.split.now l.invariant.0 c.in_ok-number.ensures.ok,
      c.in_ok-push.ensures.ok ∙ ap (λ s. s ++ c.in_ok-number.number ∷ []) l.invariant.1 ∙ numbers_more fields path xs l.place x within is c.in_ok-number.number c.in_ok-number.ensures.number,
    )
