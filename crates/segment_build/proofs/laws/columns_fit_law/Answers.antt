use Rattle.segment_build.proofs.Fits.{columns_fit}
use Rattle.segment_build.proofs.laws.columns_fit_law.Goals as goal

pub returns : goal.returns
returns c = columns_fit
