-- A state that is lent to be changed.
use Rattle.std.specs.Prelude.{ℕ}
use Rattle.std.specs.Borrow.{Lends, MutBor, Fml}
use Rattle.agg_laws.specs.declared.states.AggState.{AggState}
use Rattle.agg_laws.specs.contracts.states.AggState as state
use Rattle.state_pool.specs.contracts.pool.SlotPool as slots
use Rattle.state_pool.specs.Pool.{Pool, Place, with_state}

-- what is last written through r is the state in a place of a slot, and the rest of the pool stays
abbrev pub LendsState : MutBor Pool → Place → ℕ → MutBor AggState → Fml
LendsState pool slot at r =
    Lends slots.the_row state.the_row pool r (with_state pool.now slot at)
