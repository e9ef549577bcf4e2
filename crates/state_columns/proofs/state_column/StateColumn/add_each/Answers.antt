use Rattle.std.proofs.Common.{◌-◌, length, sym, ap, ◌∙◌, None, pos, refl}
use Rattle.agg_laws.specs.declared.aggregate_kind.AggKind.TheVariants as kinds
use Rattle.agg_laws.specs.declared.averages.AverageState.{AverageState}
use Rattle.agg_laws.specs.declared.states.AggState.TheVariants as states
use Rattle.agg_laws.specs.Numbers.{most_values}
use Rattle.state_columns.specs.Cells.{column_in}
use Rattle.state_columns.specs.contracts.state_column.StateColumn.{the_view}
use Rattle.state_columns.proofs.ColumnSteps as steps
use Rattle.state_columns.proofs.state_column.StateColumn.add_each.Goals as goal
use Rattle.state_columns.proofs.state_column.StateColumn.add_each.Goals.{in-Counts, in-Sums}
use Rattle.state_columns.proofs.state_column.StateColumn.add_each.Goals.{in-Leasts, in-Greatests}
use Rattle.state_columns.proofs.state_column.StateColumn.add_each.Goals.{in-Averages}

abbrev none : AverageState
none = record { sum = pos 0; count = 0 }

pub add_each_of-requires-clause-fits : goal.add_each_of-requires-clause-fits
add_each_of-requires-clause-fits c =
    let n = c.self.inside.spare in
    steps.fits_in states.Count kinds.Count c.in-Counts.counts.items n c.args.self.now
    ((λ j. column_in (sym c.in-Counts.is j) n) ∙ c.self.view_is) 0
    (most_values - length c.args.places.now) c.requires.fits

pub add_each_of-requires-in-Sums-clause-fits : goal.add_each_of-requires-in-Sums-clause-fits
add_each_of-requires-in-Sums-clause-fits c =
    let n = c.self.inside.spare in
    steps.fits_in states.Sum kinds.Sum c.in-Sums.sums.items n c.args.self.now
    ((λ j. column_in (sym c.in-Sums.is j) n) ∙ c.self.view_is) (pos 0)
    (most_values - length c.args.places.now) c.requires.fits

pub add_each_of-requires-in-Leasts-clause-fits : goal.add_each_of-requires-in-Leasts-clause-fits
add_each_of-requires-in-Leasts-clause-fits c =
    let n = c.self.inside.spare in
    steps.fits_in states.Least kinds.Least c.in-Leasts.leasts.items n c.args.self.now
    ((λ j. column_in (sym c.in-Leasts.is j) n) ∙ c.self.view_is) None
    (most_values - length c.args.places.now) c.requires.fits

pub add_each_of-requires-in-Greatests-clause-fits : goal.add_each_of-requires-in-Greatests-clause-fits
add_each_of-requires-in-Greatests-clause-fits c =
    let n = c.self.inside.spare in
    steps.fits_in states.Greatest kinds.Greatest c.in-Greatests.greatests.items n c.args.self.now
    ((λ j. column_in (sym c.in-Greatests.is j) n) ∙ c.self.view_is) None
    (most_values - length c.args.places.now) c.requires.fits

pub add_each_of-requires-in-Averages-clause-fits : goal.add_each_of-requires-in-Averages-clause-fits
add_each_of-requires-in-Averages-clause-fits c =
    let n = c.self.inside.spare in
    steps.fits_in states.Average kinds.Average c.in-Averages.averages.items n c.args.self.now
    ((λ j. column_in (sym c.in-Averages.is j) n) ∙ c.self.view_is) none
    (most_values - length c.args.places.now) c.requires.fits

pub returns : goal.returns
returns c = elim c.match-self.branch [
  | in-Counts w ↦
      let n = c.self.inside.spare in
      ap the_view w.self-inside-is
      ∙ steps.added_back states.Count kinds.Count w.in-Counts.counts.items n c.args.self.now
      ((λ j. column_in (sym w.in-Counts.is j) n) ∙ c.self.view_is) 0 _ (λ s v. refl) refl
      c.args.places.now c.args.values.now w.add_each_of.new.states.items
      w.add_each_of.ensures.items
  | in-Sums w ↦
      let n = c.self.inside.spare in
      ap the_view w.self-inside-is
      ∙ steps.added_back states.Sum kinds.Sum w.in-Sums.sums.items n c.args.self.now
      ((λ j. column_in (sym w.in-Sums.is j) n) ∙ c.self.view_is) (pos 0) _ (λ s v. refl) refl
      c.args.places.now c.args.values.now w.add_each_of-in-Sums.new.states.items
      w.add_each_of-in-Sums.ensures.items
  | in-Leasts w ↦
      let n = c.self.inside.spare in
      ap the_view w.self-inside-is
      ∙ steps.added_back states.Least kinds.Least w.in-Leasts.leasts.items n c.args.self.now
      ((λ j. column_in (sym w.in-Leasts.is j) n) ∙ c.self.view_is) None _ (λ s v. refl) refl
      c.args.places.now c.args.values.now w.add_each_of-in-Leasts.new.states.items
      w.add_each_of-in-Leasts.ensures.items
  | in-Greatests w ↦
      let n = c.self.inside.spare in
      ap the_view w.self-inside-is
      ∙ steps.added_back states.Greatest kinds.Greatest w.in-Greatests.greatests.items n c.args.self.now
      ((λ j. column_in (sym w.in-Greatests.is j) n) ∙ c.self.view_is) None _ (λ s v. refl) refl
      c.args.places.now c.args.values.now w.add_each_of-in-Greatests.new.states.items
      w.add_each_of-in-Greatests.ensures.items
  | in-Averages w ↦
      let n = c.self.inside.spare in
      ap the_view w.self-inside-is
      ∙ steps.added_back states.Average kinds.Average w.in-Averages.averages.items n c.args.self.now
      ((λ j. column_in (sym w.in-Averages.is j) n) ∙ c.self.view_is) none _ (λ s v. refl) refl
      c.args.places.now c.args.values.now w.add_each_of-in-Averages.new.states.items
      w.add_each_of-in-Averages.ensures.items
]
