use Rattle.std.proofs.Common.{◌≡◌, ◌+◌, ℕ, List, length, take, drop, ap, sym, subst, arith}
use Rattle.std.proofs.lemmas.List.{take_at, take_more}
use Rattle.coded_columns.specs.Coded.{table_of}
use Rattle.coded_columns.specs.Slots.{AreSlots}
use Rattle.coded_columns.proofs.slots.slots_of.Goals as goal

pub loop-group-preserved : goal.loop-group-preserved
loop-group-preserved c =
    let columns = (table_of c.args.placed.segment.now).columns in
    let groups : List ℕ = c.args.groups.now in
    let places : List ℕ = c.args.placed.places.now in
    let i : ℕ = c.loop-group.group-index in
    let items : List ℕ = c.loop-group.slots.items in
    let new : List ℕ = c.refine_by_field.new.slots in
    let firsts : List ℕ = c.in_ok-firsts-2.firsts.items in
    let before : AreSlots columns (take i groups) places c.deref_mut.result.now c.loop-group.firsts.items =
    subst (λ (s : List ℕ). AreSlots columns (take i groups) places s c.loop-group.firsts.items) (sym c.deref_mut.ensures.value) c.loop-group.invariant in
    let many : length new ≡ c.loop-group.slots.len = omega (arith, c.refine_by_field.auto.slots, ap length c.deref_mut.ensures.value, c.loop-group.slots.ok.0) in
    subst (λ (s : List ℕ). AreSlots columns (take (i + 1) groups) places s firsts) (sym (take_at new (drop (length new) items) c.loop-group.slots.len many))
    (subst (λ (gs : List ℕ). AreSlots columns gs places new firsts) (sym (take_more groups i 0 c.loop-group-test.true))
    (c.in_ok-firsts-2.ensures (take i groups) before))
