use Rattle.std.proofs.Common.{◌≡◌, ◌∙◌, ◌<◌, length, slice_get, ap, arith}
use Rattle.group_table.specs.Pooled.{PooledTable}
use Rattle.group_table.proofs.SavedSteps as steps
use Rattle.group_table.proofs.table.GroupTable.save.Goals as goal

pub loop-at-init : goal.loop-at-init
loop-at-init c = steps.saving_none c.args.self.now c.args.pool.now c.reserve.new.self.items (c.reserve.ensures.items ∙ c.clear.ensures.items)

pub append_states-requires : goal.append_states-requires
append_states-requires c =
    let t = c.args.self.now in
    let own : length c.self.inside.slots.entries ≡ length t.slots = ap (λ (u : PooledTable). length u.slots) c.self.view_is in
    let within : c.loop-at.at < length t.slots = omega (arith, c.loop-at-test.true, c.len-at-end.ensures.len, own) in
    let entry = c.in-Some.ensures.entry ∙ ap (λ (u : PooledTable). slice_get u.slots c.loop-at.at) c.self.view_is in
    (steps.own_slot t c.args.pool.now c.requires c.loop-at.into.items c.loop-at.at c.loop-at.invariant c.in-Some.field-0-0.now c.in-Some.own.now entry within).out

pub loop-at-preserved : goal.loop-at-preserved
loop-at-preserved c =
    let t = c.args.self.now in
    let own : length c.self.inside.slots.entries ≡ length t.slots = ap (λ (u : PooledTable). length u.slots) c.self.view_is in
    let within : c.loop-at.at < length t.slots = omega (arith, c.loop-at-test.true, c.len-at-end.ensures.len, own) in
    let entry = c.in-Some.ensures.entry ∙ ap (λ (u : PooledTable). slice_get u.slots c.loop-at.at) c.self.view_is in
    steps.saving_next t c.args.pool.now c.requires c.loop-at.into.items c.loop-at.at c.loop-at.invariant c.in-Some.field-0-0.now c.in-Some.own.now entry within
    c.append_states.new.into.items c.in_ok-append_states.ensures.states c.in_ok-append_states.ensures.count

pub returns : goal.returns
returns c =
    let own : length c.self.inside.slots.entries ≡ length c.args.self.now.slots = ap (λ (u : PooledTable). length u.slots) c.self.view_is in
    steps.saving_all c.args.self.now c.args.pool.now c.requires c.loop-at.into.items c.loop-at.at c.loop-at.invariant (omega (arith, c.loop-at-test.false, c.len-at-end.ensures.len, own))
