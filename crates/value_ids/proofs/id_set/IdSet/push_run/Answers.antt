use Rattle.std.proofs.Common.{◌<◌, arith, subst, sym}
use Rattle.value_ids.specs.Ids.{IsAboveLast}
use Rattle.value_ids.proofs.RunLemmas.{bits_written, run_kept, run_masked, run_written}
use Rattle.value_ids.proofs.id_set.IdSet.push_run.Goals as goal

pub invariant_of-self-2 : goal.invariant_of-self-2
invariant_of-self-2 c =
    let ids = c.self.inside.ids.items in
    let mask = c.make_room.new.mask in
    let from = c.args.from in
    let to = c.args.to in
    let order : from < to = omega (arith, c.if-from-to.false) in
    let written = run_written ids c.resize.new.self.items c.deref_mut.result.now c.count_from.new.ids c.len-start.result c.self.inside.ids.len c.resize.new.self.len from to order c.len-start.ensures
    c.in_ok-resize.ensures.items c.deref_mut.ensures.value c.deref_mut.ensures.len c.in_ok-resize.ensures.len c.count_from.auto.ids c.count_from.ensures in
    run_masked ids _ c.self.inside.mask.items mask.items _ from to c.self.invariant
    (run_kept ids _ from to c.self.invariant.stands (subst (λ told. IsAboveLast told from) (sym c.self.view_is) (c.requires order)) order (omega (arith, c.ranges.to.fits)) written) written c.in_ok-make_room.ensures.same
    (bits_written mask.items c.deref_mut-2.result.now c.set_run.new.mask mask.len from to c.deref_mut-2.ensures.value c.deref_mut-2.ensures.len c.set_run.auto.mask c.set_run.ensures)
