use Rattle.agg_laws.specs.laws.States as states
use Rattle.agg_laws.proofs.laws.spellings_law.Goals as goal

pub returns : goal.returns
returns c = record {
  stored_fits = states.stored_fits;
  spelled = states.spelled;
  one_spelling = states.one_spelling;
}
