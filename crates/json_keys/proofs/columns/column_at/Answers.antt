use Rattle.std.proofs.Common.{rules}
use Rattle.json_keys.proofs.columns.column_at.Goals as goal

pub returns-in-None-clause-ok : goal.returns-in-None-clause-ok
returns-in-None-clause-ok c = search rules

pub returns-in-None-clause-number : goal.returns-in-None-clause-number
returns-in-None-clause-number c = search rules
