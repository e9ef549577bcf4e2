use Rattle.std.proofs.Common.{drop, sym, ap, ◌∙◌}
use Rattle.agg_laws.specs.declared.aggregate_kind.AggKind.TheVariants as kinds
use Rattle.agg_laws.specs.declared.states.AggState.TheVariants as states
use Rattle.state_columns.specs.Cells.{column_in}
use Rattle.state_columns.proofs.ColumnSteps as steps
use Rattle.state_columns.proofs.state_column.StateColumn.tail.Goals as goal
use Rattle.state_columns.proofs.state_column.StateColumn.tail.Goals.{in-Counts+in_ok-tail_of-in-Counts}
use Rattle.state_columns.proofs.state_column.StateColumn.tail.Goals.{in-Sums+in_ok-tail_of-in-Sums}
use Rattle.state_columns.proofs.state_column.StateColumn.tail.Goals.{in-Leasts+in_ok-tail_of-in-Leasts}
use Rattle.state_columns.proofs.state_column.StateColumn.tail.Goals.{in-Greatests+in_ok-tail_of-in-Greatests}
use Rattle.state_columns.proofs.state_column.StateColumn.tail.Goals.{in-Averages+in_ok-tail_of-in-Averages}

pub returns : goal.returns
returns c = elim c.match-self.branch [
  | in-Counts+in_ok-tail_of-in-Counts w ↦
      let xs = w.in-Counts.counts.items in
      let n = c.self.inside.spare in
      let is = (λ j. column_in (sym w.in-Counts.is j) n) ∙ c.self.view_is in
      ap (λ k. column_in k 0) w.cells-is
      ∙ steps.tail_is states.Count kinds.Count xs n c.args.self.now is c.args.from
      w.in_ok-tail_of-in-Counts.field-0.items
      (w.in_ok-tail_of-in-Counts.ensures ∙ ap (drop c.args.from) w.deref.ensures.value)
  | in-Sums+in_ok-tail_of-in-Sums w ↦
      let xs = w.in-Sums.sums.items in
      let n = c.self.inside.spare in
      let is = (λ j. column_in (sym w.in-Sums.is j) n) ∙ c.self.view_is in
      ap (λ k. column_in k 0) w.cells-is
      ∙ steps.tail_is states.Sum kinds.Sum xs n c.args.self.now is c.args.from
      w.in_ok-tail_of-in-Sums.field-0.items
      (w.in_ok-tail_of-in-Sums.ensures ∙ ap (drop c.args.from) w.deref-in-Sums.ensures.value)
  | in-Leasts+in_ok-tail_of-in-Leasts w ↦
      let xs = w.in-Leasts.leasts.items in
      let n = c.self.inside.spare in
      let is = (λ j. column_in (sym w.in-Leasts.is j) n) ∙ c.self.view_is in
      ap (λ k. column_in k 0) w.cells-is
      ∙ steps.tail_is states.Least kinds.Least xs n c.args.self.now is c.args.from
      w.in_ok-tail_of-in-Leasts.field-0.items
      (w.in_ok-tail_of-in-Leasts.ensures ∙ ap (drop c.args.from) w.deref-in-Leasts.ensures.value)
  | in-Greatests+in_ok-tail_of-in-Greatests w ↦
      let xs = w.in-Greatests.greatests.items in
      let n = c.self.inside.spare in
      let is = (λ j. column_in (sym w.in-Greatests.is j) n) ∙ c.self.view_is in
      ap (λ k. column_in k 0) w.cells-is
      ∙ steps.tail_is states.Greatest kinds.Greatest xs n c.args.self.now is c.args.from
      w.in_ok-tail_of-in-Greatests.field-0.items
      (w.in_ok-tail_of-in-Greatests.ensures ∙ ap (drop c.args.from) w.deref-in-Greatests.ensures.value)
  | in-Averages+in_ok-tail_of-in-Averages w ↦
      let xs = w.in-Averages.averages.items in
      let n = c.self.inside.spare in
      let is = (λ j. column_in (sym w.in-Averages.is j) n) ∙ c.self.view_is in
      ap (λ k. column_in k 0) w.cells-is
      ∙ steps.tail_is states.Average kinds.Average xs n c.args.self.now is c.args.from
      w.in_ok-tail_of-in-Averages.field-0.items
      (w.in_ok-tail_of-in-Averages.ensures ∙ ap (drop c.args.from) w.deref-in-Averages.ensures.value)
]
