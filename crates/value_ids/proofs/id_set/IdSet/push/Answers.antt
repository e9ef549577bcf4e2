use Rattle.std.proofs.Common.{arith}
use Rattle.value_ids.proofs.Found.{id_kept}
use Rattle.value_ids.proofs.MaskLemmas.{masked_more}
use Rattle.value_ids.proofs.id_set.IdSet.push.Goals as goal

pub invariant_of-self-2 : goal.invariant_of-self-2
invariant_of-self-2 c =
    masked_more c.self.inside.ids.items c.push.new.self.items c.self.inside.mask.items c.make_room.new.mask.items c.set_bit.new.mask.items c.args.id c.self.invariant
    (id_kept c.self.inside.ids.items c.args.self.now c.push.new.self.items c.args.id c.self.view_is c.self.invariant.stands (omega (arith, c.if-len.false)) c.requires c.in_ok-push.ensures.items)
    c.in_ok-push.ensures.items c.in_ok-make_room.ensures.same c.set_bit.ensures
