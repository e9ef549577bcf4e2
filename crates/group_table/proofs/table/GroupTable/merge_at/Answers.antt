use Rattle.std.proofs.Common.{◌≡◌, ◌∙◌, sym, ap, subst, slice_get, Some}
use Rattle.std.specs.Map.{lookup}
use Rattle.agg_laws.specs.Numbers.{most_values}
use Rattle.agg_laws.specs.Rows.{merged_rows, RowFits}
use Rattle.state_pool.specs.Pool.{Place, Writes, states_at}
use Rattle.group_table.specs.Kept.{group_at, key_eq}
use Rattle.group_table.specs.Pooled.{PooledTable, in_pool}
use Rattle.group_table.proofs.NewKeys.{place_get}
use Rattle.group_table.proofs.KeyPlaces.{found_at, key_long}
use Rattle.group_table.proofs.PooledSteps as steps
use Rattle.group_table.proofs.table.GroupTable.merge_at.Goals as goal

pub merge-requires-clause-fits : goal.merge-requires-clause-fits
merge-requires-clause-fits c =
    let t = c.args.self.now in
    let pool = c.args.pool.now in
    let at = c.args.at in
    let states = c.args.states.now in
    let key = c.in-Some.field-0-0.now in
    let slot = c.in-Some.slot.now in
    let entry : Some (key, slot) ≡ slice_get t.slots at = c.in-Some.ensures.entry ∙ ap (λ (u : PooledTable). slice_get u.slots at) c.self.view_is in
    let value : lookup (key_eq key) t.slots ≡ Some slot = sym (ap (λ (u : PooledTable). lookup (key_eq key) u.slots) c.self.view_is) ∙ c.in-Some.ensures.value in
    let place = place_get t.slots at key slot entry in
    let finds = found_at t pool at key slot c.requires.at entry value in
    let own = (group_at (in_pool t pool) at).0 in
    let ready = steps.ready t t pool pool c.requires.table own at finds states c.requires.kinds c.requires.fits in
    subst (λ (s : Place). RowFits (merged_rows (states_at pool s) states) most_values) (sym place) ready.room

pub returns : goal.returns
returns c =
    let t = c.args.self.now in
    let pool = c.args.pool.now in
    let at = c.args.at in
    let states = c.args.states.now in
    let key = c.in-Some.field-0-0.now in
    let slot = c.in-Some.slot.now in
    let entry : Some (key, slot) ≡ slice_get t.slots at = c.in-Some.ensures.entry ∙ ap (λ (u : PooledTable). slice_get u.slots at) c.self.view_is in
    let value : lookup (key_eq key) t.slots ≡ Some slot = sym (ap (λ (u : PooledTable). lookup (key_eq key) u.slots) c.self.view_is) ∙ c.in-Some.ensures.value in
    let place = place_get t.slots at key slot entry in
    let finds = found_at t pool at key slot c.requires.at entry value in
    let own = (group_at (in_pool t pool) at).0 in
    steps.row_merged t t pool pool c.requires.table own at finds states c.requires.kinds c.requires.fits c.merge.new.self
    (subst (λ (s : Place). Writes s (merged_rows (states_at pool s) states) pool c.merge.new.self) place c.merge.ensures)
    (key_long t pool at c.requires.table c.requires.at) c.requires.values
