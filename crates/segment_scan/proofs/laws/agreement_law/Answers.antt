use Rattle.segment_scan.proofs.AgreementLemmas.{agreeing_same}
use Rattle.segment_scan.proofs.laws.agreement_law.Goals as goal

pub returns : goal.returns
returns c = agreeing_same
