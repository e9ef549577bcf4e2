use Rattle.query_parser.proofs.FinalLaws.{faults_final}
use Rattle.query_parser.proofs.laws.faults_are_final.Goals as goal

pub returns : goal.returns
returns c = faults_final
