use Rattle.std.proofs.Common.{◌∙◌, ◌<◌, length, slice_get, sym, ap, subst}
use Rattle.state_pool.specs.Pool.{Place, IsOut, kinds_at, states_at}
use Rattle.group_table.specs.Pooled.{IsSlotOf}
use Rattle.group_table.proofs.PooledSteps.{slot_in, states_in}
use Rattle.group_table.proofs.table.GroupTable.state_at.Goals as goal

pub state-requires-clause-out : goal.state-requires-clause-out
state-requires-clause-out c =
    let t = c.args.self.now in
    subst (IsOut c.args.pool.now) (sym c.slot.ensures)
    (slot_in (IsSlotOf c.args.pool.now t.owner) t.slots c.args.at (record { owner = 0; number = 0 }) c.requires.table.each c.requires.at).out

pub state-requires-clause-at : goal.state-requires-clause-at
state-requires-clause-at c =
    let t = c.args.self.now in
    let own = (slot_in (IsSlotOf c.args.pool.now t.owner) t.slots c.args.at (record { owner = 0; number = 0 }) c.requires.table.each c.requires.at).owned in
    subst (λ o. c.args.agg < length (kinds_at c.args.pool.now o)) (sym (ap (λ (s : Place). s.owner) c.slot.ensures ∙ own)) c.requires.agg

pub returns : goal.returns
returns c =
    let t = c.args.self.now in
    ap (λ vs. slice_get vs c.args.agg) (states_in c.args.pool.now t.slots c.args.at (record { owner = 0; number = 0 }) c.requires.at
    ∙ ap (states_at c.args.pool.now) (sym c.slot.ensures)) ∙ c.state.ensures
