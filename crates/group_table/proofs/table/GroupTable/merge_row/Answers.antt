use Rattle.std.proofs.Common.{◌≡◌, ◌∙◌, sym, ap, subst, Err}
use Rattle.agg_laws.specs.Numbers.{most_values}
use Rattle.agg_laws.specs.Rows.{kinds_of, merged_rows, RowFits}
use Rattle.state_pool.specs.Pool.{Place, IsOut, Writes, states_at}
use Rattle.group_table.specs.declared.fault.TableFault.TheVariants.{TooManyGroups, NoMemory}
use Rattle.group_table.proofs.PooledSteps as steps
use Rattle.group_table.proofs.SlotFrames.{stays_equal}
use Rattle.group_table.proofs.table.GroupTable.merge_row.Goals as goal

pub returns-in-Err-clause-full : goal.returns-in-Err-clause-full
returns-in-Err-clause-full c = (
  λ e. let is : c.in-Err.fault ≡ TooManyGroups = cc in steps.full_in c.args.self.now c.args.pool.now c.requires.table c.args.key.now (c.in-Err.ensures.full.0 (ap Err is)),
  λ h. let e = c.in-Err.ensures.full.1 (steps.full_from c.args.self.now c.args.pool.now c.requires.table c.args.key.now h) in
      let is : c.in-Err.fault ≡ TooManyGroups = cc in ap Err is,
)

pub returns-in-Err-clause-memory : goal.returns-in-Err-clause-memory
returns-in-Err-clause-memory c = λ e.
    let is : c.in-Err.fault ≡ NoMemory = cc in steps.room_in c.args.self.now c.args.pool.now c.requires.table c.args.key.now (c.in-Err.ensures.memory (ap Err is))

pub merge-requires-clause-out : goal.merge-requires-clause-out
merge-requires-clause-out c =
    let ready = steps.ready c.args.self.now c.place_of.new.self c.args.pool.now c.place_of.new.pool c.requires.table c.args.key.now c.in-Ok.at c.in-Ok.ensures.ok
    c.args.states.now c.requires.kinds c.requires.fits in
    subst (IsOut c.place_of.new.pool) (sym c.slot.ensures) ready.out

pub merge-requires-clause-kinds : goal.merge-requires-clause-kinds
merge-requires-clause-kinds c =
    let ready = steps.ready c.args.self.now c.place_of.new.self c.args.pool.now c.place_of.new.pool c.requires.table c.args.key.now c.in-Ok.at c.in-Ok.ensures.ok
    c.args.states.now c.requires.kinds c.requires.fits in
    ap (λ (s : Place). kinds_of (states_at c.place_of.new.pool s)) c.slot.ensures ∙ ready.kinds ∙ sym c.requires.kinds

pub merge-requires-clause-fits : goal.merge-requires-clause-fits
merge-requires-clause-fits c =
    let ready = steps.ready c.args.self.now c.place_of.new.self c.args.pool.now c.place_of.new.pool c.requires.table c.args.key.now c.in-Ok.at c.in-Ok.ensures.ok
    c.args.states.now c.requires.kinds c.requires.fits in
    subst (λ (s : Place). RowFits (merged_rows (states_at c.place_of.new.pool s) c.args.states.now) most_values) (sym c.slot.ensures) ready.room

pub returns-clause-ok : goal.returns-clause-ok
returns-clause-ok c =
    (steps.row_merged c.args.self.now c.place_of.new.self c.args.pool.now c.place_of.new.pool c.requires.table c.args.key.now c.in-Ok.at c.in-Ok.ensures.ok
    c.args.states.now c.requires.kinds c.requires.fits c.merge.new.self
    (subst (λ (s : Place). Writes s (merged_rows (states_at c.place_of.new.pool s) c.args.states.now) c.place_of.new.pool c.merge.new.self) c.slot.ensures c.merge.ensures)
    c.requires.key c.requires.values).merges

pub returns-clause-stays : goal.returns-clause-stays
returns-clause-stays c =
    (steps.row_merged c.args.self.now c.place_of.new.self c.args.pool.now c.place_of.new.pool c.requires.table c.args.key.now c.in-Ok.at c.in-Ok.ensures.ok
    c.args.states.now c.requires.kinds c.requires.fits c.merge.new.self
    (subst (λ (s : Place). Writes s (merged_rows (states_at c.place_of.new.pool s) c.args.states.now) c.place_of.new.pool c.merge.new.self) c.slot.ensures c.merge.ensures)
    c.requires.key c.requires.values).stays

pub returns-in-Err-clause-stays : goal.returns-in-Err-clause-stays
returns-in-Err-clause-stays c = stays_equal c.args.self.now c.place_of.new.self c.args.pool.now c.place_of.new.pool c.requires.table c.in-Err.ensures.err.0 c.in-Err.ensures.err.1

pub returns-clause-full : goal.returns-clause-full
returns-clause-full c = (
  λ e. cc,
  λ h. let x = c.in-Ok.ensures.full.1 (steps.full_from c.args.self.now c.args.pool.now c.requires.table c.args.key.now h) in cc,
)
