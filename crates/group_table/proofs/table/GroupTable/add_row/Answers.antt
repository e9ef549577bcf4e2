use Rattle.std.proofs.Common.{◌≡◌, ◌∙◌, [], ◌∷◌, length, sym, ap, subst, Err}
use Rattle.agg_laws.specs.Numbers.{most_values}
use Rattle.agg_laws.specs.Rows.{row_of, kinds_of, merged_rows, RowFits}
use Rattle.state_columns.proofs.ValueSteps.{kinds_row}
use Rattle.state_pool.specs.Pool.{Place, IsOut, Writes, kinds_at, states_at}
use Rattle.group_table.specs.declared.fault.TableFault.TheVariants.{TooManyGroups, NoMemory}
use Rattle.group_table.specs.Pooled.{slot_at}
use Rattle.group_table.proofs.PooledSteps as steps
use Rattle.group_table.proofs.SlotFrames.{stays_equal}
use Rattle.group_table.proofs.KeptSteps.{one_row}
use Rattle.group_table.proofs.table.GroupTable.add_row.Goals as goal

pub returns-in-Err-clause-full : goal.returns-in-Err-clause-full
returns-in-Err-clause-full c = (
  λ e. let is : c.in-Err.fault ≡ TooManyGroups = cc in steps.full_in c.args.self.now c.args.pool.now c.requires.table c.args.key.now (c.in-Err.ensures.full.0 (ap Err is)),
  λ h. let e = c.in-Err.ensures.full.1 (steps.full_from c.args.self.now c.args.pool.now c.requires.table c.args.key.now h) in
      let is : c.in-Err.fault ≡ TooManyGroups = cc in ap Err is,
)

pub returns-in-Err-clause-memory : goal.returns-in-Err-clause-memory
returns-in-Err-clause-memory c = λ e.
    let is : c.in-Err.fault ≡ NoMemory = cc in steps.room_in c.args.self.now c.args.pool.now c.requires.table c.args.key.now (c.in-Err.ensures.memory (ap Err is))

pub add-requires-clause-out : goal.add-requires-clause-out
add-requires-clause-out c =
    let ks = kinds_at c.args.pool.now c.args.self.now.owner in
    let ready = steps.ready c.args.self.now c.place_of.new.self c.args.pool.now c.place_of.new.pool c.requires.table c.args.key.now c.in-Ok.at c.in-Ok.ensures.ok
    (row_of ks (c.args.values.now ∷ [])) (kinds_row ks (c.args.values.now ∷ [])) c.requires.fits in
    subst (IsOut c.place_of.new.pool) (sym c.slot.ensures) ready.out

pub add-requires-clause-length : goal.add-requires-clause-length
add-requires-clause-length c =
    let ks = kinds_at c.args.pool.now c.args.self.now.owner in
    let ready = steps.ready c.args.self.now c.place_of.new.self c.args.pool.now c.place_of.new.pool c.requires.table c.args.key.now c.in-Ok.at c.in-Ok.ensures.ok
    (row_of ks (c.args.values.now ∷ [])) (kinds_row ks (c.args.values.now ∷ [])) c.requires.fits in
    c.requires.values ∙ ap length (sym ready.kinds_kept) ∙ ap (λ o. length (kinds_at c.place_of.new.pool o)) (sym (ap (λ (s : Place). s.owner) c.slot.ensures ∙ ready.owner))

pub add-requires-clause-fits : goal.add-requires-clause-fits
add-requires-clause-fits c =
    let ks = kinds_at c.args.pool.now c.args.self.now.owner in
    let ready = steps.ready c.args.self.now c.place_of.new.self c.args.pool.now c.place_of.new.pool c.requires.table c.args.key.now c.in-Ok.at c.in-Ok.ensures.ok
    (row_of ks (c.args.values.now ∷ [])) (kinds_row ks (c.args.values.now ∷ [])) c.requires.fits in
    subst (λ (s : Place). RowFits (merged_rows (states_at c.place_of.new.pool s) (row_of (kinds_of (states_at c.place_of.new.pool s)) (c.args.values.now ∷ []))) most_values) (sym c.slot.ensures)
    (subst (λ ks. RowFits (merged_rows (states_at c.place_of.new.pool (slot_at c.place_of.new.self c.in-Ok.at)) (row_of ks (c.args.values.now ∷ []))) most_values) (sym ready.kinds) ready.room)

pub returns-clause-ok : goal.returns-clause-ok
returns-clause-ok c =
    let ks = kinds_at c.args.pool.now c.args.self.now.owner in
    let ready = steps.ready c.args.self.now c.place_of.new.self c.args.pool.now c.place_of.new.pool c.requires.table c.args.key.now c.in-Ok.at c.in-Ok.ensures.ok
    (row_of ks (c.args.values.now ∷ [])) (kinds_row ks (c.args.values.now ∷ [])) c.requires.fits in
    let own = slot_at c.place_of.new.self c.in-Ok.at in
    (steps.row_merged c.args.self.now c.place_of.new.self c.args.pool.now c.place_of.new.pool c.requires.table c.args.key.now c.in-Ok.at c.in-Ok.ensures.ok
    (row_of ks (c.args.values.now ∷ [])) (kinds_row ks (c.args.values.now ∷ [])) c.requires.fits c.add.new.self
    (subst (λ ks. Writes own (merged_rows (states_at c.place_of.new.pool own) (row_of ks (c.args.values.now ∷ []))) c.place_of.new.pool c.add.new.self) ready.kinds
    (subst (λ (s : Place). Writes s (merged_rows (states_at c.place_of.new.pool s) (row_of (kinds_of (states_at c.place_of.new.pool s)) (c.args.values.now ∷ []))) c.place_of.new.pool c.add.new.self)
    c.slot.ensures c.add.ensures))
    c.requires.key (λ lt. one_row ks c.args.values.now)).merges

pub returns-clause-stays : goal.returns-clause-stays
returns-clause-stays c =
    let ks = kinds_at c.args.pool.now c.args.self.now.owner in
    let ready = steps.ready c.args.self.now c.place_of.new.self c.args.pool.now c.place_of.new.pool c.requires.table c.args.key.now c.in-Ok.at c.in-Ok.ensures.ok
    (row_of ks (c.args.values.now ∷ [])) (kinds_row ks (c.args.values.now ∷ [])) c.requires.fits in
    let own = slot_at c.place_of.new.self c.in-Ok.at in
    (steps.row_merged c.args.self.now c.place_of.new.self c.args.pool.now c.place_of.new.pool c.requires.table c.args.key.now c.in-Ok.at c.in-Ok.ensures.ok
    (row_of ks (c.args.values.now ∷ [])) (kinds_row ks (c.args.values.now ∷ [])) c.requires.fits c.add.new.self
    (subst (λ ks. Writes own (merged_rows (states_at c.place_of.new.pool own) (row_of ks (c.args.values.now ∷ []))) c.place_of.new.pool c.add.new.self) ready.kinds
    (subst (λ (s : Place). Writes s (merged_rows (states_at c.place_of.new.pool s) (row_of (kinds_of (states_at c.place_of.new.pool s)) (c.args.values.now ∷ []))) c.place_of.new.pool c.add.new.self)
    c.slot.ensures c.add.ensures))
    c.requires.key (λ lt. one_row ks c.args.values.now)).stays

pub returns-in-Err-clause-stays : goal.returns-in-Err-clause-stays
returns-in-Err-clause-stays c = stays_equal c.args.self.now c.place_of.new.self c.args.pool.now c.place_of.new.pool c.requires.table c.in-Err.ensures.err.0 c.in-Err.ensures.err.1

pub returns-clause-full : goal.returns-clause-full
returns-clause-full c = (
  λ e. cc,
  λ h. let x = c.in-Ok.ensures.full.1 (steps.full_from c.args.self.now c.args.pool.now c.requires.table c.args.key.now h) in cc,
)
