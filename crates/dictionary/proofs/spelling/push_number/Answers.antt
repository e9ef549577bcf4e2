use Rattle.std.proofs.Common.{rules}
use Rattle.dictionary.specs.Spelling.{number_bytes}
use Rattle.dictionary.proofs.spelling.push_number.Goals as goal

pub returns-clause-ok : goal.returns-clause-ok
unfolding number_bytes
returns-clause-ok c = search rules
