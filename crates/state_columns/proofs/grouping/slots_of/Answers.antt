use Rattle.std.proofs.Common.{◌+◌, ◌++◌, ◌∷◌, [], ℕ, drop, get_or, refl, ap, sym, ◌∙◌, arith}
use Rattle.state_columns.specs.Grouping.{numbered}
use Rattle.state_columns.proofs.GroupSteps as steps
use Rattle.state_columns.proofs.grouping.slots_of.Goals as goal
use Rattle.state_columns.proofs.grouping.slots_of.Goals.{then-table-key-gt0+in_ok-push}
use Rattle.state_columns.proofs.grouping.slots_of.Goals.{else-table-key-gt0+in_ok-push-2}

pub overflow_add-count : goal.overflow_add-count
overflow_add-count c =
    omega (arith, c.loop-key.invariant.at_most, c.loop-key-test.true, c.requires)

pub loop-key-preserved : goal.loop-key-preserved
loop-key-preserved c =
    let key = c.loop-key.key in
    let table = c.args.table.now in
    let at : ℕ = get_or table key 0 in
    let lt = c.loop-key-test.true in
    let n = c.loop-key.count in
    let slots = c.loop-key.slots.items in
    let rest = drop (key + 1) table in
    let at_most = c.loop-key.invariant.at_most in
    elim c.if-table-key-gt0.branch [
      | then-table-key-gt0+in_ok-push w ↦ record {
        slots = ap (λ l. l ++ numbered c.if-table-key-gt0.count rest)
            (ap (λ t. t.items) w.slots-is ∙ w.in_ok-push.ensures.items)
            ∙ ap (λ m. (slots ++ ((n + 1) ∷ [])) ++ numbered m rest) w.count-is
            ∙ steps.slot_step n key table slots at lt refl w.if-table-key-gt0.true
            ∙ c.loop-key.invariant.slots;
        at_most = omega (arith, at_most, w.count-is);
      }
      | else-table-key-gt0+in_ok-push-2 w ↦ record {
        slots = ap (λ l. l ++ numbered c.if-table-key-gt0.count rest)
            (ap (λ t. t.items) w.slots-is ∙ w.in_ok-push-2.ensures.items)
            ∙ ap (λ m. (slots ++ (0 ∷ [])) ++ numbered m rest) w.count-is
            ∙ steps.no_slot n key table slots at lt refl (omega (arith, w.if-table-key-gt0.false))
            ∙ c.loop-key.invariant.slots;
        at_most = omega (arith, at_most, w.count-is);
      }
    ]

pub returns : goal.returns
returns c =
    sym (steps.no_slots_left c.loop-key.count c.loop-key.key c.args.table.now
    c.loop-key.slots.items c.loop-key-test.false)
    ∙ c.loop-key.invariant.slots
