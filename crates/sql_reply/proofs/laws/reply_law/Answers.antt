use Rattle.sql_reply.proofs.ReplyLemmas.{never_for_memory}
use Rattle.sql_reply.proofs.laws.reply_law.Goals as goal

pub returns : goal.returns
returns c = never_for_memory
