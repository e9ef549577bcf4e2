use Rattle.sql_reply.proofs.AskedLemmas.{unasked_none}
use Rattle.sql_reply.proofs.laws.unasked_law.Goals as goal

pub returns : goal.returns
returns c = unasked_none
