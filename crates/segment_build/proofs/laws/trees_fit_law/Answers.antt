use Rattle.segment_build.proofs.FitTests.{fit_tested, large_tested}
use Rattle.segment_build.proofs.laws.trees_fit_law.Goals as goal

pub returns-clause-fits : goal.returns-clause-fits
returns-clause-fits c = fit_tested

pub returns-clause-too_large : goal.returns-clause-too_large
returns-clause-too_large c = large_tested
