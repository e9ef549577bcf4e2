use Rattle.doc_lists.proofs.Sweep.{gap_is}
use Rattle.doc_lists.proofs.sets.end_of_stretch.Goals as goal

pub returns-in-len1-up-clause-stretch : goal.returns-in-len1-up-clause-stretch
returns-in-len1-up-clause-stretch c = λ doc from to. gap_is c.args.runs.now (record { first = 0; last = 0 }) c.args.start doc c.in-len1-up.len_at_least c.requires.remain from to
