use Rattle.segment_file.proofs.RuleLaws.{fails_not_all}
use Rattle.segment_file.proofs.laws.head_rules_law.Goals as goal

pub returns : goal.returns
returns c = fails_not_all
