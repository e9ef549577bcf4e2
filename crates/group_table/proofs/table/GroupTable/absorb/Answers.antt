use Rattle.std.proofs.Common.{◌≡◌, ◌≢◌, ◌∙◌, ◌+◌, ◌<◌, ◌^◌, length, drop, slice_get, Err, refl, sym, ap, subst, arith, rules}
use Rattle.std.specs.Map.{keys_of}
use Rattle.agg_laws.specs.Numbers.{most_values}
use Rattle.agg_laws.specs.Rows.{kinds_of, merged_rows, RowFits}
use Rattle.state_pool.specs.Pool.{Place, IsOut, Writes, states_at}
use Rattle.group_table.specs.declared.fault.TableFault.TheVariants.{NoMemory}
use Rattle.group_table.specs.Groups.{with_entries}
use Rattle.group_table.specs.Kept.{groups_in}
use Rattle.group_table.specs.Pooled.{PooledTable, has_slot, in_pool, new_keys, place_at, with_slots}
use Rattle.group_table.specs.contracts.table.GroupTable.{the_view}
use Rattle.group_table.proofs.NewKeys.{length-new, length-keys, place_get}
use Rattle.group_table.proofs.SlotFrames.{stays_both}
use Rattle.group_table.proofs.AbsorbSteps as steps
use Rattle.group_table.proofs.table.GroupTable.absorb.Goals as goal

pub overflow_add-len : goal.overflow_add-len
overflow_add-len c =
    let few = length-new (has_slot c.self.inside.slots.entries) (keys_of c.from.inside.slots.entries) in
    let n : c.len.result + c.count_new.result < 2 ^ 64 = omega (arith, c.len.ensures.len, c.count_new.ensures, few, length-keys c.from.inside.slots.entries, c.self.invariant.0, c.self.invariant.1, c.from.invariant.0, c.from.invariant.1) in
    search (rules, n)

pub returns-then-len-count_new-clause-full : goal.returns-then-len-count_new-clause-full
returns-then-len-count_new-clause-full c =
    let t = c.args.self.now in let from = c.args.from.now in
    let both = steps.count_both t from c.args.pool.now c.requires.table c.requires.from in
    let own : length c.self.inside.slots.entries ≡ length t.slots = ap (λ (u : PooledTable). length u.slots) c.self.view_is in
    let most : c.self.inside.most ≡ t.most = ap (λ (u : PooledTable). u.most) c.self.view_is in
    let few = ap (λ (u : PooledTable). length (new_keys (has_slot u.slots) (keys_of c.from.inside.slots.entries))) c.self.view_is
    ∙ ap (λ (u : PooledTable). length (new_keys (has_slot t.slots) (keys_of u.slots))) c.from.view_is in
    (λ e. omega (arith, c.if-len-count_new.true, both, own, most, few, c.len.ensures.len, c.count_new.ensures), λ more. refl)

pub returns-in_err-copies-clause-full : goal.returns-in_err-copies-clause-full
returns-in_err-copies-clause-full c =
    let t = c.args.self.now in let from = c.args.from.now in
    let both = steps.count_both t from c.args.pool.now c.requires.table c.requires.from in
    let own : length c.self.inside.slots.entries ≡ length t.slots = ap (λ (u : PooledTable). length u.slots) c.self.view_is in
    let most : c.self.inside.most ≡ t.most = ap (λ (u : PooledTable). u.most) c.self.view_is in
    let few = ap (λ (u : PooledTable). length (new_keys (has_slot u.slots) (keys_of c.from.inside.slots.entries))) c.self.view_is
    ∙ ap (λ (u : PooledTable). length (new_keys (has_slot t.slots) (keys_of u.slots))) c.from.view_is in
    let is : c.from_residual.result ≡ Err NoMemory = search rules in
    (λ e. let x = sym is ∙ e in cc, λ more. absurd (omega (arith, more, c.if-len-count_new.false, both, own, most, few, c.len.ensures.len, c.count_new.ensures)))

pub returns-in_err-reserve-clause-full : goal.returns-in_err-reserve-clause-full
returns-in_err-reserve-clause-full c =
    let t = c.args.self.now in let from = c.args.from.now in
    let both = steps.count_both t from c.args.pool.now c.requires.table c.requires.from in
    let own : length c.self.inside.slots.entries ≡ length t.slots = ap (λ (u : PooledTable). length u.slots) c.self.view_is in
    let most : c.self.inside.most ≡ t.most = ap (λ (u : PooledTable). u.most) c.self.view_is in
    let few = ap (λ (u : PooledTable). length (new_keys (has_slot u.slots) (keys_of c.from.inside.slots.entries))) c.self.view_is
    ∙ ap (λ (u : PooledTable). length (new_keys (has_slot t.slots) (keys_of u.slots))) c.from.view_is in
    let is : c.from_residual-in_err-reserve.result ≡ Err NoMemory = search rules in
    (λ e. let x = sym is ∙ e in cc, λ more. absurd (omega (arith, more, c.if-len-count_new.false, both, own, most, few, c.len.ensures.len, c.count_new.ensures)))

pub returns-clause-full : goal.returns-clause-full
returns-clause-full c =
    let t = c.args.self.now in let from = c.args.from.now in
    let both = steps.count_both t from c.args.pool.now c.requires.table c.requires.from in
    let own : length c.self.inside.slots.entries ≡ length t.slots = ap (λ (u : PooledTable). length u.slots) c.self.view_is in
    let most : c.self.inside.most ≡ t.most = ap (λ (u : PooledTable). u.most) c.self.view_is in
    let few = ap (λ (u : PooledTable). length (new_keys (has_slot u.slots) (keys_of c.from.inside.slots.entries))) c.self.view_is
    ∙ ap (λ (u : PooledTable). length (new_keys (has_slot t.slots) (keys_of u.slots))) c.from.view_is in
    (λ e. cc, λ more. absurd (omega (arith, more, c.if-len-count_new.false, both, own, most, few, c.len.ensures.len, c.count_new.ensures)))

pub place_in-place-requires-clause-next : goal.place_in-place-requires-clause-next
place_in-place-requires-clause-next c =
    let t = the_view c.loop-at.self-inside in let from = c.args.from.now in
    let key = c.in-Some.key.now in let other = c.in-Some.other.now in
    let rest = drop (c.loop-at.at + 1) from.slots in
    let ends = with_entries (groups_in (in_pool c.args.self.now c.args.pool.now)) (in_pool from c.args.pool.now).groups in
    let left = steps.left_at t c.loop-at.pool from.owner c.loop-at.copies.items from.slots c.loop-at.at key other ends c.loop-at.invariant.left
    (c.in-Some.ensures.entry ∙ ap (λ (u : PooledTable). slice_get u.slots c.loop-at.at) c.from.view_is) in
    let apart : from.owner ≢ t.owner = λ is. c.requires.from.apart (is ∙ c.loop-at.invariant.owner) in
    steps.next_copy t c.loop-at.pool from.owner c.loop-at.copies.items (key, other) rest ends left apart

pub merge_slot-requires-clause-out : goal.merge_slot-requires-clause-out
merge_slot-requires-clause-out c =
    let t = the_view c.loop-at.self-inside in let from = c.args.from.now in
    let key = c.in-Some.key.now in let other = c.in-Some.other.now in
    let rest = drop (c.loop-at.at + 1) from.slots in
    let ends = with_entries (groups_in (in_pool c.args.self.now c.args.pool.now)) (in_pool from c.args.pool.now).groups in
    let left = steps.left_at t c.loop-at.pool from.owner c.loop-at.copies.items from.slots c.loop-at.at key other ends c.loop-at.invariant.left
    (c.in-Some.ensures.entry ∙ ap (λ (u : PooledTable). slice_get u.slots c.loop-at.at) c.from.view_is) in
    let apart : from.owner ≢ t.owner = λ is. c.requires.from.apart (is ∙ c.loop-at.invariant.owner) in
    let slots = c.place_in-place.new.slots.entries in let mid = c.place_in-place.new.pool in
    let own = c.in-Some-get_index.own.now in
    let is : own ≡ place_at slots c.place_in-place.result = place_get slots c.place_in-place.result c.in-Some-get_index.field-0-0.now own c.in-Some-get_index.ensures.entry in
    subst (IsOut mid) (sym is) (steps.own_out t c.loop-at.pool from.owner c.loop-at.copies.items (key, other) rest ends left apart c.place_in-place.result slots mid c.place_in-place.new.copies.items c.place_in-place.ensures.placed)

pub merge_slot-requires-clause-from : goal.merge_slot-requires-clause-from
merge_slot-requires-clause-from c =
    let t = the_view c.loop-at.self-inside in let from = c.args.from.now in
    let key = c.in-Some.key.now in let other = c.in-Some.other.now in
    let rest = drop (c.loop-at.at + 1) from.slots in
    let ends = with_entries (groups_in (in_pool c.args.self.now c.args.pool.now)) (in_pool from c.args.pool.now).groups in
    let left = steps.left_at t c.loop-at.pool from.owner c.loop-at.copies.items from.slots c.loop-at.at key other ends c.loop-at.invariant.left
    (c.in-Some.ensures.entry ∙ ap (λ (u : PooledTable). slice_get u.slots c.loop-at.at) c.from.view_is) in
    let apart : from.owner ≢ t.owner = λ is. c.requires.from.apart (is ∙ c.loop-at.invariant.owner) in
    let slots = c.place_in-place.new.slots.entries in let mid = c.place_in-place.new.pool in
    let own = c.in-Some-get_index.own.now in
    let is : own ≡ place_at slots c.place_in-place.result = place_get slots c.place_in-place.result c.in-Some-get_index.field-0-0.now own c.in-Some-get_index.ensures.entry in
    steps.its_out t c.loop-at.pool from.owner c.loop-at.copies.items (key, other) rest ends left apart c.place_in-place.result slots mid c.place_in-place.new.copies.items c.place_in-place.ensures.placed

pub merge_slot-requires-clause-apart : goal.merge_slot-requires-clause-apart
merge_slot-requires-clause-apart c =
    let t = the_view c.loop-at.self-inside in let from = c.args.from.now in
    let key = c.in-Some.key.now in let other = c.in-Some.other.now in
    let rest = drop (c.loop-at.at + 1) from.slots in
    let ends = with_entries (groups_in (in_pool c.args.self.now c.args.pool.now)) (in_pool from c.args.pool.now).groups in
    let left = steps.left_at t c.loop-at.pool from.owner c.loop-at.copies.items from.slots c.loop-at.at key other ends c.loop-at.invariant.left
    (c.in-Some.ensures.entry ∙ ap (λ (u : PooledTable). slice_get u.slots c.loop-at.at) c.from.view_is) in
    let apart : from.owner ≢ t.owner = λ is. c.requires.from.apart (is ∙ c.loop-at.invariant.owner) in
    let slots = c.place_in-place.new.slots.entries in let mid = c.place_in-place.new.pool in
    let own = c.in-Some-get_index.own.now in
    let is : own ≡ place_at slots c.place_in-place.result = place_get slots c.place_in-place.result c.in-Some-get_index.field-0-0.now own c.in-Some-get_index.ensures.entry in
    λ same. steps.slots_apart t c.loop-at.pool from.owner c.loop-at.copies.items (key, other) rest ends left apart c.place_in-place.result slots mid c.place_in-place.new.copies.items c.place_in-place.ensures.placed (same ∙ ap (λ (s : Place). s.owner) is)

pub merge_slot-requires-clause-kinds : goal.merge_slot-requires-clause-kinds
merge_slot-requires-clause-kinds c =
    let t = the_view c.loop-at.self-inside in let from = c.args.from.now in
    let key = c.in-Some.key.now in let other = c.in-Some.other.now in
    let rest = drop (c.loop-at.at + 1) from.slots in
    let ends = with_entries (groups_in (in_pool c.args.self.now c.args.pool.now)) (in_pool from c.args.pool.now).groups in
    let left = steps.left_at t c.loop-at.pool from.owner c.loop-at.copies.items from.slots c.loop-at.at key other ends c.loop-at.invariant.left
    (c.in-Some.ensures.entry ∙ ap (λ (u : PooledTable). slice_get u.slots c.loop-at.at) c.from.view_is) in
    let apart : from.owner ≢ t.owner = λ is. c.requires.from.apart (is ∙ c.loop-at.invariant.owner) in
    let slots = c.place_in-place.new.slots.entries in let mid = c.place_in-place.new.pool in
    let own = c.in-Some-get_index.own.now in
    let is : own ≡ place_at slots c.place_in-place.result = place_get slots c.place_in-place.result c.in-Some-get_index.field-0-0.now own c.in-Some-get_index.ensures.entry in
    ap (λ (s : Place). kinds_of (states_at mid s)) is ∙ steps.same_kinds t c.loop-at.pool from.owner c.loop-at.copies.items (key, other) rest ends left apart c.place_in-place.result slots mid c.place_in-place.new.copies.items c.place_in-place.ensures.placed

pub merge_slot-requires-clause-fits : goal.merge_slot-requires-clause-fits
merge_slot-requires-clause-fits c =
    let t = the_view c.loop-at.self-inside in let from = c.args.from.now in
    let key = c.in-Some.key.now in let other = c.in-Some.other.now in
    let rest = drop (c.loop-at.at + 1) from.slots in
    let ends = with_entries (groups_in (in_pool c.args.self.now c.args.pool.now)) (in_pool from c.args.pool.now).groups in
    let left = steps.left_at t c.loop-at.pool from.owner c.loop-at.copies.items from.slots c.loop-at.at key other ends c.loop-at.invariant.left
    (c.in-Some.ensures.entry ∙ ap (λ (u : PooledTable). slice_get u.slots c.loop-at.at) c.from.view_is) in
    let apart : from.owner ≢ t.owner = λ is. c.requires.from.apart (is ∙ c.loop-at.invariant.owner) in
    let slots = c.place_in-place.new.slots.entries in let mid = c.place_in-place.new.pool in
    let own = c.in-Some-get_index.own.now in
    let is : own ≡ place_at slots c.place_in-place.result = place_get slots c.place_in-place.result c.in-Some-get_index.field-0-0.now own c.in-Some-get_index.ensures.entry in
    subst (λ (s : Place). RowFits (merged_rows (states_at mid s) (states_at mid other)) most_values) (sym is) (steps.both_fit t c.loop-at.pool from.owner c.loop-at.copies.items (key, other) rest ends left apart c.place_in-place.result slots mid c.place_in-place.new.copies.items c.place_in-place.ensures.placed)

pub loop-at-preserved : goal.loop-at-preserved
loop-at-preserved c =
    let t = the_view c.loop-at.self-inside in let from = c.args.from.now in
    let key = c.in-Some.key.now in let other = c.in-Some.other.now in
    let rest = drop (c.loop-at.at + 1) from.slots in
    let ends = with_entries (groups_in (in_pool c.args.self.now c.args.pool.now)) (in_pool from c.args.pool.now).groups in
    let left = steps.left_at t c.loop-at.pool from.owner c.loop-at.copies.items from.slots c.loop-at.at key other ends c.loop-at.invariant.left
    (c.in-Some.ensures.entry ∙ ap (λ (u : PooledTable). slice_get u.slots c.loop-at.at) c.from.view_is) in
    let apart : from.owner ≢ t.owner = λ is. c.requires.from.apart (is ∙ c.loop-at.invariant.owner) in
    let slots = c.place_in-place.new.slots.entries in let mid = c.place_in-place.new.pool in
    let own = c.in-Some-get_index.own.now in
    let is : own ≡ place_at slots c.place_in-place.result = place_get slots c.place_in-place.result c.in-Some-get_index.field-0-0.now own c.in-Some-get_index.ensures.entry in
    let new = c.merge_slot.new.self in
    let writes = subst (λ (s : Place). Writes s (merged_rows (states_at mid s) (states_at mid other)) mid new) is c.merge_slot.ensures in
    record {
      columns = c.loop-at.invariant.columns;
      owner = c.loop-at.invariant.owner;
      most = c.loop-at.invariant.most;
      spares = c.place_in-place.ensures.room;
      stays = stays_both c.args.self.now t (with_slots t slots) c.args.pool.now c.loop-at.pool new c.loop-at.invariant.stays
          (steps.stays_next t c.loop-at.pool from.owner c.loop-at.copies.items (key, other) rest ends left apart c.place_in-place.result slots mid c.place_in-place.new.copies.items c.place_in-place.ensures.placed new writes);
      left = steps.left_next t c.loop-at.pool from.owner c.loop-at.copies.items (key, other) rest ends left apart c.place_in-place.result slots mid c.place_in-place.new.copies.items c.place_in-place.ensures.placed new writes;
    }

pub returns-clause-beside : goal.returns-clause-beside
returns-clause-beside c = steps.still_beside c.args.self.now (the_view c.loop-at.self-inside) c.args.from.now c.args.pool.now c.loop-at.pool c.requires.from
    c.loop-at.invariant.stays c.loop-at.invariant.columns
