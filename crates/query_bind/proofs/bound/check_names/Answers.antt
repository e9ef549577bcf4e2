use Rattle.std.proofs.Common.{rules}
use Rattle.query_bind.proofs.bound.check_names.Goals as goal

pub returns-in_err-lists-clause-checked : goal.returns-in_err-lists-clause-checked
returns-in_err-lists-clause-checked c = search rules

pub returns-clause-checked : goal.returns-clause-checked
returns-clause-checked c = search rules
