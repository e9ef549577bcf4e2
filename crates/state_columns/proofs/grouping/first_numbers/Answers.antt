use Rattle.std.proofs.Common.{◌+◌, ◌++◌, ℕ, drop, get_or, map, refl, ap, sym, ◌∙◌}
use Rattle.std.proofs.Common.{arith}
use Rattle.state_columns.specs.Packing.{place}
use Rattle.state_columns.specs.Grouping.{first_words}
use Rattle.state_columns.proofs.GroupSteps as steps
use Rattle.state_columns.proofs.grouping.first_numbers.Goals as goal
use Rattle.state_columns.proofs.grouping.first_numbers.Goals.{then-at-gt0+in_ok-push, else-at-gt0}

pub overflow_sub-at : goal.overflow_sub-at
overflow_sub-at c = omega (arith, c.if-at-gt0.true)

pub loop-key-preserved : goal.loop-key-preserved
loop-key-preserved c =
    let key = c.loop-key.key in
    let table = c.args.table.now in
    let at : ℕ = get_or table key 0 in
    let lt = c.loop-key-test.true in
    let rest = map (place c.args.start) (first_words (key + 1) (drop (key + 1) table)) in
    elim c.if-at-gt0.branch [
      | then-at-gt0+in_ok-push w ↦
          ap (λ l. l ++ rest) (ap (λ t. t.items) w.firsts-is ∙ w.in_ok-push.ensures.items)
          ∙ steps.first_step c.args.start key table c.loop-key.firsts.items at lt refl
          w.if-at-gt0.true (c.requires key 0 lt)
          ∙ c.loop-key.invariant
      | else-at-gt0 w ↦
          ap (λ t. t.items ++ rest) w.firsts-is
          ∙ ap (λ ws. c.loop-key.firsts.items ++ map (place c.args.start) ws)
          (steps.no_first key table at lt refl (omega (arith, w.if-at-gt0.false)))
          ∙ c.loop-key.invariant
    ]

pub returns : goal.returns
returns c =
    sym (steps.no_firsts_left c.args.start c.loop-key.key c.args.table.now c.loop-key.firsts.items
    c.loop-key-test.false)
    ∙ c.loop-key.invariant
