use Rattle.doc_lists.proofs.Sweep.{reaches_is}
use Rattle.doc_lists.proofs.sets.reaches.Goals as goal

pub returns-in-len1-up : goal.returns-in-len1-up
returns-in-len1-up c = reaches_is c.args.runs.now (record { first = 0; last = 0 }) c.args.doc c.in-len1-up.len_at_least c.requires
