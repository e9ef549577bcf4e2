use Rattle.std.proofs.Common.{◌≡◌, ◌∙◌, ◌+◌, ◌++◌, ◌∷◌, ◌<◌, [], All, ℕ, ℤ, List, length, get_or, map, ap}
use Rattle.std.proofs.Common.{suc, sym, subst, arith}
use Rattle.std.proofs.lemmas.List.{map-append}
use Rattle.agg_laws.specs.declared.aggregate_kind.AggKind.{AggKind}
use Rattle.state_columns.specs.Columns.{Column, row_at as columns_row}
use Rattle.state_columns.specs.Docs.{projected, Doc, Docs}
use Rattle.state_columns.specs.Region.{numbers_from}
use Rattle.agg_laws.specs.Rows.{kinds_of, merged_rows, row_of, RowStored}
use Rattle.agg_laws.specs.Tree.{merged_docs}
use Rattle.star_rows.specs.Columns.{row_at, row_count, rows_of}
use Rattle.star_records.specs.Folding.{picked}
use Rattle.star_records.specs.Slots.{in_slot, slot_doc, values_of, AreSlots}
use Rattle.star_records.proofs.BlockSteps as blocks
use Rattle.star_rows.specs.Words.{row_in}
use Rattle.star_rows.proofs.RowLemmas as rows
use Rattle.star_records.proofs.SlotDocs as steps
use Rattle.star_records.proofs.WordSteps.{more_numbers}
use Rattle.star_records.proofs.slot_docs.merge_slots.Goals as goal

pub columns_at-requires : goal.columns_at-requires
columns_at-requires c =
    let dims : List (List ℕ) = c.args.dims in
    let n = row_count dims in
    subst (λ (known : List ℕ). All (λ (l : List ℕ). All (λ word. row_in word < length l) known) dims)
    (sym c.as_slice.ensures.value)
    (blocks.in_columns n c.args.slots.rows.items dims c.requires.columns.ids_long
    (blocks.own_rows n c.args.slots.rows.items (omega (arith, c.requires.at_most))
    c.requires.slots.rows_in))

pub read_row-requires : goal.read_row-requires
read_row-requires c =
    let dims : List (List ℕ) = c.args.dims in
    let known : List ℕ = c.args.slots.rows.items in
    let slot : ℕ = c.loop-slot.slot in
    let lt : slot < length known = omega (arith, c.loop-slot-test.true, c.len-count.ensures) in
    subst (All (λ (l : List ℕ). slot < length l))
    (sym (c.in_ok-slot_ids.ensures 0 ∙ ap (λ (l : List ℕ). picked 0 l dims) c.as_slice.ensures.value))
    (blocks.long_picked 0 slot known dims lt)

pub read_states-requires : goal.read_states-requires
read_states-requires c =
    let N : ℕ = c.len-count.result in
    let S : List ℕ = c.as_slice-2.result.now in
    let K : List AggKind = c.as_slice-kinds.result.now in
    let metrics : List (List ℤ) = c.args.metrics.now in
    let slot : ℕ = c.loop-slot.slot in
    let columns : List Column = c.in_ok-columns.columns.items in
    let lengths : All (λ (m : List ℤ). length m ≡ length S) metrics =
    λ k d l. c.requires.columns.values_long k d l
    ∙ sym (ap length c.as_slice-2.ensures.value ∙ c.requires.slots.lengths) in
    subst (All (λ (d : Column). slot < length d.states)) (sym c.as_slice-in-loop-slot.ensures.value)
    (steps.long-columns N S K metrics columns slot c.in_ok-columns.ensures
    c.loop-slot-test.true)

pub append_parts-requires-clause-dims : goal.append_parts-requires-clause-dims
append_parts-requires-clause-dims c =
    ap length c.as_slice-in-loop-slot-2.ensures.value ∙ c.in_ok-read_row.ensures.length
    ∙ ap length (c.in_ok-slot_ids.ensures 0) ∙ blocks.wide_picked 0 c.as_slice.result.now c.args.dims
    ∙ c.requires.columns.dims ∙ sym c.loop-slot.invariant.dims
    ∙ sym (ap (λ (d : Docs). d.dims) c.in_ok-reserve-2.ensures.ok)

pub append_parts-requires-clause-kinds : goal.append_parts-requires-clause-kinds
append_parts-requires-clause-kinds c =
    let N : ℕ = c.len-count.result in
    let S : List ℕ = c.as_slice-2.result.now in
    let K : List AggKind = c.as_slice-kinds.result.now in
    let metrics : List (List ℤ) = c.args.metrics.now in
    let slot : ℕ = c.loop-slot.slot in
    let columns : List Column = c.in_ok-columns.columns.items in
    let lengths : All (λ (m : List ℤ). length m ≡ length S) metrics =
    λ k d l. c.requires.columns.values_long k d l
    ∙ sym (ap length c.as_slice-2.ensures.value ∙ c.requires.slots.lengths) in
    let states : c.as_slice-in-loop-slot-3.result.now ≡ columns_row columns slot =
    c.as_slice-in-loop-slot-3.ensures.value ∙ c.in_ok-read_states.ensures
    ∙ ap (λ (cs : List Column). columns_row cs slot) c.as_slice-in-loop-slot.ensures.value in
    ap kinds_of (states ∙ steps.slot-row N S K metrics columns slot c.in_ok-columns.ensures lengths
    c.loop-slot-test.true)
    ∙ steps.row-kinds K (in_slot slot S (values_of (length S) metrics))
    ∙ c.as_slice-kinds.ensures ∙ sym c.loop-slot.invariant.kinds
    ∙ sym (ap (λ (d : Docs). d.kinds) c.in_ok-reserve-2.ensures.ok)

pub append_parts-requires-clause-stored : goal.append_parts-requires-clause-stored
append_parts-requires-clause-stored c =
    let N : ℕ = c.len-count.result in
    let S : List ℕ = c.as_slice-2.result.now in
    let K : List AggKind = c.as_slice-kinds.result.now in
    let metrics : List (List ℤ) = c.args.metrics.now in
    let slot : ℕ = c.loop-slot.slot in
    let columns : List Column = c.in_ok-columns.columns.items in
    let lengths : All (λ (m : List ℤ). length m ≡ length S) metrics =
    λ k d l. c.requires.columns.values_long k d l
    ∙ sym (ap length c.as_slice-2.ensures.value ∙ c.requires.slots.lengths) in
    let states : c.as_slice-in-loop-slot-3.result.now ≡ columns_row columns slot =
    c.as_slice-in-loop-slot-3.ensures.value ∙ c.in_ok-read_states.ensures
    ∙ ap (λ (cs : List Column). columns_row cs slot) c.as_slice-in-loop-slot.ensures.value in
    let known : List ℕ = c.args.slots.rows.items in
    let lt : slot < length known = omega (arith, c.loop-slot-test.true, c.len-count.ensures) in
    let at : ℕ = get_or known slot 0 in
    let in' = c.requires.slots.rows_in slot 0 lt in
    subst RowStored (sym states)
    (steps.slot-stored N S K metrics columns slot at c.in_ok-columns.ensures lengths
    c.loop-slot-test.true
    (omega (arith, ap length c.as_slice-2.ensures.value, c.requires.slots.lengths, c.requires.at_most))
    (omega (arith, in', ap length c.as_slice-2.ensures.value, c.requires.slots.lengths))
    (ap (λ (l : List ℕ). get_or l at 0) c.as_slice-2.ensures.value ∙ c.requires.slots.own slot lt))

pub loop-slot-preserved : goal.loop-slot-preserved
loop-slot-preserved c =
    let N : ℕ = c.len-count.result in
    let S : List ℕ = c.as_slice-2.result.now in
    let K : List AggKind = c.as_slice-kinds.result.now in
    let metrics : List (List ℤ) = c.args.metrics.now in
    let slot : ℕ = c.loop-slot.slot in
    let columns : List Column = c.in_ok-columns.columns.items in
    let lengths : All (λ (m : List ℤ). length m ≡ length S) metrics =
    λ k d l. c.requires.columns.values_long k d l
    ∙ sym (ap length c.as_slice-2.ensures.value ∙ c.requires.slots.lengths) in
    let states : c.as_slice-in-loop-slot-3.result.now ≡ columns_row columns slot =
    c.as_slice-in-loop-slot-3.ensures.value ∙ c.in_ok-read_states.ensures
    ∙ ap (λ (cs : List Column). columns_row cs slot) c.as_slice-in-loop-slot.ensures.value in
    let dims : List (List ℕ) = c.args.dims in
    let all : List ℕ = c.args.slots.slots.items in
    let known : List ℕ = c.args.slots.rows.items in
    let kinds : List AggKind = c.args.shape.now.kinds in
    let inv = c.loop-slot.invariant in
    let room = c.in_ok-reserve-2.ensures.ok in
    let is = c.append_parts.ensures in
    let f : ℕ → Doc = slot_doc kinds dims metrics all known in
    let lt : slot < length known = omega (arith, c.loop-slot-test.true, c.len-count.ensures) in
    let picked_is : c.in_ok-slot_ids.slot_ids ≡ picked 0 known dims = c.in_ok-slot_ids.ensures 0
    ∙ ap (λ (l : List ℕ). picked 0 l dims) c.as_slice.ensures.value in
    let own_row = blocks.own_row (get_or known slot 0)
    (omega (arith, c.requires.slots.rows_in slot 0 lt, c.requires.at_most)) in
    let ids : c.as_slice-in-loop-slot-2.result.now ≡ row_at 0 (get_or known slot 0) dims =
    c.as_slice-in-loop-slot-2.ensures.value
    ∙ rows.is_row 0 slot c.in_ok-slot_ids.slot_ids c.read_row.new.out.items
    c.in_ok-read_row.ensures.items
    (subst (All (λ (l : List ℕ). slot < length l)) (sym picked_is)
    (blocks.long_picked 0 slot known dims lt))
    ∙ ap (row_at 0 slot) picked_is ∙ blocks.row_picked 0 slot known dims lt
    ∙ ap (λ (r : ℕ). row_at 0 r dims) own_row in
    let own : c.as_slice-in-loop-slot-3.result.now
    ≡ row_of kinds (in_slot slot all (values_of (length all) metrics)) =
    states ∙ steps.slot-row N S K metrics columns slot c.in_ok-columns.ensures lengths
    c.loop-slot-test.true
    ∙ (λ i. row_of (c.as_slice-kinds.ensures i) (in_slot slot (c.as_slice-2.ensures.value i)
    (values_of (length (c.as_slice-2.ensures.value i)) metrics))) in
    record {
      dims = ap (λ (d : Docs). d.dims) is ∙ ap (λ (d : Docs). d.dims) room ∙ inv.dims;
      kinds = ap (λ (d : Docs). d.kinds) is ∙ ap (λ (d : Docs). d.kinds) room ∙ inv.kinds;
      docs = ap (λ (d : Docs). d.docs) is
          ∙ (λ i. (room i).docs ++ ((ids i, own i) ∷ []))
          ∙ ap (λ (l : List Doc). l ++ (f slot ∷ [])) inv.docs
          ∙ sym (map-append f (numbers_from 0 slot) (slot ∷ []))
          ∙ (let z : slot ≡ 0 + slot = omega arith in
          ap (λ s. map f (numbers_from 0 slot ++ (s ∷ []))) z)
          ∙ (let n : suc slot ≡ slot + 1 = omega arith in
          ap (map f) (sym (more_numbers 0 slot) ∙ ap (numbers_from 0) n));
    }

merged : (kinds : List AggKind) (dims : List (List ℕ)) (metrics : List (List ℤ)) (n end : ℕ)
    (all known : List ℕ) (docs : List Doc) → AreSlots n dims all known → end ≡ length known
    → docs ≡ map (slot_doc kinds dims metrics all known) (numbers_from 0 end)
    → docs ≡ merged_docs merged_rows (projected kinds (rows_of n dims metrics))
merged kinds dims metrics n end all known docs are e is =
    is ∙ ap (λ k. map (slot_doc kinds dims metrics all known) (numbers_from 0 k)) e
    ∙ steps.merged_slots kinds dims metrics all known
    (subst (λ k. AreSlots k dims all known) (sym are.lengths) are)
    ∙ ap (λ k. merged_docs merged_rows (projected kinds (rows_of k dims metrics))) are.lengths

pub returns : goal.returns
returns c =
    let N : ℕ = c.len-count.result in
    let S : List ℕ = c.as_slice-2.result.now in
    let K : List AggKind = c.as_slice-kinds.result.now in
    let metrics : List (List ℤ) = c.args.metrics.now in
    let dims : List (List ℕ) = c.args.dims in
    let known : List ℕ = c.args.slots.rows.items in
    let many : length S ≡ row_count dims =
    ap length c.as_slice-2.ensures.value ∙ c.requires.slots.lengths in
    let lengths : All (λ (m : List ℤ). length m ≡ length S) metrics =
    λ k d l. c.requires.columns.values_long k d l ∙ sym many in
    let end : c.loop-slot.slot ≡ length known =
    omega (
      arith,
      c.loop-slot-test.false,
      c.loop-slot.auto.slot-end,
      c.len-count.ensures,
    ) in
    let own = merged c.args.shape.now.kinds dims metrics (row_count dims) c.loop-slot.slot
    c.args.slots.slots.items known c.loop-slot.table.docs c.requires.slots end
    c.loop-slot.invariant.docs in
    let docs = own
    ∙ (λ i. merged_docs merged_rows (projected (sym c.as_slice-kinds.ensures i)
    (rows_of (sym many i) dims metrics))) in
    let weight_fits = steps.merged-light N S K metrics c.in_ok-columns.columns.items dims
    c.loop-slot.table.docs c.in_ok-columns.ensures lengths docs in
    record {
      dims = c.loop-slot.invariant.dims;
      kinds = c.loop-slot.invariant.kinds;
      docs_are = own;
      weight_fits = omega (arith, weight_fits, many);
    }
