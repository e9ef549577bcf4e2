use Rattle.std.proofs.Common.{[], ◌∷◌, sym, ap, ◌∙◌, None, pos, rules}
use Rattle.agg_laws.specs.declared.aggregate_kind.AggKind.TheVariants as kinds
use Rattle.agg_laws.specs.declared.averages.AverageState.{AverageState}
use Rattle.agg_laws.specs.declared.states.AggState.TheVariants as states
use Rattle.agg_laws.specs.States.{merged, state_of}
use Rattle.state_columns.specs.Cells.{column_in}
use Rattle.state_columns.specs.Columns.{Column, state_at}
use Rattle.state_columns.specs.contracts.state_column.StateColumn.{the_view}
use Rattle.state_columns.proofs.ColumnSteps as steps
use Rattle.state_columns.proofs.state_column.StateColumn.add_at.Goals as goal
use Rattle.state_columns.proofs.state_column.StateColumn.add_at.Goals.{in-Counts, in-Sums}
use Rattle.state_columns.proofs.state_column.StateColumn.add_at.Goals.{in-Leasts, in-Greatests}
use Rattle.state_columns.proofs.state_column.StateColumn.add_at.Goals.{in-Averages}

abbrev none : AverageState
none = record { sum = pos 0; count = 0 }

pub returns : goal.returns
returns c = elim c.match-self.branch [
  | in-Counts w ↦
      let xs = w.in-Counts.counts.items in
      let n = c.self.inside.spare in
      let is = (λ j. column_in (sym w.in-Counts.is j) n) ∙ c.self.view_is in
      let at = steps.item_is states.Count kinds.Count xs n c.args.self.now is c.args.place 0
      c.requires.place in
      ap the_view w.self-inside-is
      ∙ steps.put_back states.Count kinds.Count xs n c.args.self.now is c.args.place
      w.add_in.new.states.items _ w.add_in.ensures.items
      (λ (d : Column). merged (state_at d c.args.place) (state_of d.kind (c.args.value ∷ [])))
      (ap (λ s. merged s (state_of kinds.Count (c.args.value ∷ []))) at ∙ search rules)
  | in-Sums w ↦
      let xs = w.in-Sums.sums.items in
      let n = c.self.inside.spare in
      let is = (λ j. column_in (sym w.in-Sums.is j) n) ∙ c.self.view_is in
      let at = steps.item_is states.Sum kinds.Sum xs n c.args.self.now is c.args.place (pos 0)
      c.requires.place in
      ap the_view w.self-inside-is
      ∙ steps.put_back states.Sum kinds.Sum xs n c.args.self.now is c.args.place
      w.add_in-in-Sums.new.states.items _ w.add_in-in-Sums.ensures.items
      (λ (d : Column). merged (state_at d c.args.place) (state_of d.kind (c.args.value ∷ [])))
      (ap (λ s. merged s (state_of kinds.Sum (c.args.value ∷ []))) at ∙ search rules)
  | in-Leasts w ↦
      let xs = w.in-Leasts.leasts.items in
      let n = c.self.inside.spare in
      let is = (λ j. column_in (sym w.in-Leasts.is j) n) ∙ c.self.view_is in
      let at = steps.item_is states.Least kinds.Least xs n c.args.self.now is c.args.place None
      c.requires.place in
      ap the_view w.self-inside-is
      ∙ steps.put_back states.Least kinds.Least xs n c.args.self.now is c.args.place
      w.add_in-in-Leasts.new.states.items _ w.add_in-in-Leasts.ensures.items
      (λ (d : Column). merged (state_at d c.args.place) (state_of d.kind (c.args.value ∷ [])))
      (ap (λ s. merged s (state_of kinds.Least (c.args.value ∷ []))) at ∙ search rules)
  | in-Greatests w ↦
      let xs = w.in-Greatests.greatests.items in
      let n = c.self.inside.spare in
      let is = (λ j. column_in (sym w.in-Greatests.is j) n) ∙ c.self.view_is in
      let at = steps.item_is states.Greatest kinds.Greatest xs n c.args.self.now is c.args.place None
      c.requires.place in
      ap the_view w.self-inside-is
      ∙ steps.put_back states.Greatest kinds.Greatest xs n c.args.self.now is c.args.place
      w.add_in-in-Greatests.new.states.items _ w.add_in-in-Greatests.ensures.items
      (λ (d : Column). merged (state_at d c.args.place) (state_of d.kind (c.args.value ∷ [])))
      (ap (λ s. merged s (state_of kinds.Greatest (c.args.value ∷ []))) at ∙ search rules)
  | in-Averages w ↦
      let xs = w.in-Averages.averages.items in
      let n = c.self.inside.spare in
      let is = (λ j. column_in (sym w.in-Averages.is j) n) ∙ c.self.view_is in
      let at = steps.item_is states.Average kinds.Average xs n c.args.self.now is c.args.place none
      c.requires.place in
      ap the_view w.self-inside-is
      ∙ steps.put_back states.Average kinds.Average xs n c.args.self.now is c.args.place
      w.add_in-in-Averages.new.states.items _ w.add_in-in-Averages.ensures.items
      (λ (d : Column). merged (state_at d c.args.place) (state_of d.kind (c.args.value ∷ [])))
      (ap (λ s. merged s (state_of kinds.Average (c.args.value ∷ []))) at ∙ search rules)
]
