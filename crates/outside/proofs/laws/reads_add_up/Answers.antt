use Rattle.outside.proofs.ReadLemmas.{read_in-append, read_by-other, read_in-others, read_by-apart, read_in-through, read_in-through_other}
use Rattle.outside.proofs.laws.reads_add_up.Goals as goal

pub returns-clause-joined : goal.returns-clause-joined
returns-clause-joined c = read_in-append

pub returns-clause-other_file : goal.returns-clause-other_file
returns-clause-other_file c = read_by-other

pub returns-clause-other_files : goal.returns-clause-other_files
returns-clause-other_files c = read_in-others

pub returns-clause-apart : goal.returns-clause-apart
returns-clause-apart c = read_by-apart

pub returns-clause-through : goal.returns-clause-through
returns-clause-through c = read_in-through

pub returns-clause-through_other : goal.returns-clause-through_other
returns-clause-through_other c = read_in-through_other
