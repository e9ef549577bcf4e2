use Rattle.std.proofs.Common.{◌≡◌, ◌∙◌, sym, ap, subst, arith}
use Rattle.state_columns.specs.Docs.{doc_at}
use Rattle.agg_laws.specs.Rows.{RowStored, kinds_of, row_weight}
use Rattle.star_reader.specs.Asked.{states_of}
use Rattle.star_reader.specs.Selected.{key_ids}
use Rattle.star_reader.proofs.TakeSteps as steps
use Rattle.star_reader.proofs.selection.Selected.take.Goals as goal

pub returns-then-not-branch-clause-selected : goal.returns-then-not-branch-clause-selected
returns-then-not-branch-clause-selected c may =
    let e = doc_at c.args.table.now.docs c.args.at in
    (rw c.if-not-branch.true at c.in_ok-put_ids.ensures)
    (steps.may_key c.args.asked.now c.args.rows c.args.self.now.table.docs e may)

pub weight_of-weight-requires : goal.weight_of-weight-requires
weight_of-weight-requires c =
    let t = c.args.table.now in
    subst RowStored (sym (c.as_slice.ensures.value ∙ c.in_ok-put_states.ensures))
    (steps.own_states_stored t c.args.at c.args.shape.now c.args.asked.now c.requires.at
    c.requires.shape c.requires.stored c.requires.kinds c.requires.asked)

pub returns-then-weight-rows-clause-selected : goal.returns-then-weight-rows-clause-selected
returns-then-weight-rows-clause-selected c may =
    let old = c.args.self.now.table in
    let e = doc_at c.args.table.now.docs c.args.at in
    let states : c.as_slice.result.now ≡ states_of c.args.asked.now.pairs.now e.1 =
    c.as_slice.ensures.value ∙ c.in_ok-put_states.ensures in
    let w = c.weight_of-weight.ensures.weight ∙ ap row_weight states in
    let heavy = steps.may_weigh c.args.asked.now c.args.rows old.docs e may in
    omega (arith, heavy, w, c.args.self.now.weighed, c.if-weight-rows.true)

pub append_parts-requires-clause-kinds : goal.append_parts-requires-clause-kinds
append_parts-requires-clause-kinds c =
    let t = c.args.table.now in
    ap kinds_of (c.as_slice-3.ensures.value ∙ c.in_ok-put_states.ensures)
    ∙ steps.own_states_kinds t c.args.at c.args.shape.now c.args.asked.now c.requires.at
    c.requires.shape c.requires.stored c.requires.kinds c.requires.asked
    ∙ sym c.requires.selected.kinds

pub append_parts-requires-clause-stored : goal.append_parts-requires-clause-stored
append_parts-requires-clause-stored c =
    let t = c.args.table.now in
    subst RowStored (sym (c.as_slice-3.ensures.value ∙ c.in_ok-put_states.ensures))
    (steps.own_states_stored t c.args.at c.args.shape.now c.args.asked.now c.requires.at
    c.requires.shape c.requires.stored c.requires.kinds c.requires.asked)

pub invariant_of-self-2 : goal.invariant_of-self-2
invariant_of-self-2 c =
    let old = c.args.self.now.table in
    let e = doc_at c.args.table.now.docs c.args.at in
    let ids : c.as_slice-2.result.now ≡ key_ids c.args.asked.now.columns.now e.0 =
    c.as_slice-2.ensures.value ∙ (rw c.if-not-branch.false at c.in_ok-put_ids.ensures).0 in
    let states : c.as_slice-3.result.now ≡ states_of c.args.asked.now.pairs.now e.1 =
    c.as_slice-3.ensures.value ∙ c.in_ok-put_states.ensures in
    let weighs = c.weight_of-weight.ensures.weight
    ∙ ap row_weight (c.as_slice.ensures.value ∙ c.in_ok-put_states.ensures) in
    let a = steps.appended c.args.asked.now e old c.append_parts.new.self c.as_slice-2.result.now
    c.as_slice-3.result.now ids states c.append_parts.ensures in
    let more = steps.weight_more c.args.asked.now e old c.append_parts.new.self
    c.weight_of-weight.result a weighs in
    record { weighed = omega (arith, more, c.args.self.now.weighed) }

pub returns-clause-selected : goal.returns-clause-selected
returns-clause-selected c =
    let old = c.args.self.now.table in
    let e = doc_at c.args.table.now.docs c.args.at in
    let ids : c.as_slice-2.result.now ≡ key_ids c.args.asked.now.columns.now e.0 =
    c.as_slice-2.ensures.value ∙ (rw c.if-not-branch.false at c.in_ok-put_ids.ensures).0 in
    let states : c.as_slice-3.result.now ≡ states_of c.args.asked.now.pairs.now e.1 =
    c.as_slice-3.ensures.value ∙ c.in_ok-put_states.ensures in
    let weighs = c.weight_of-weight.ensures.weight
    ∙ ap row_weight (c.as_slice.ensures.value ∙ c.in_ok-put_states.ensures) in
    let a = steps.appended c.args.asked.now e old c.append_parts.new.self c.as_slice-2.result.now
    c.as_slice-3.result.now ids states c.append_parts.ensures in (
      steps.selected_more c.args.shape.now c.args.asked.now c.args.rows e old c.append_parts.new.self
          c.weight_of-weight.result c.requires.selected a
          (rw c.if-not-branch.false at c.in_ok-put_ids.ensures).1 weighs
          (omega (arith, c.args.self.now.weighed, c.if-weight-rows.false)),
      a.docs,
    )
