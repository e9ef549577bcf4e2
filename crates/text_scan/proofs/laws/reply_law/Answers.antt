use Rattle.text_scan.proofs.ReplyLemmas.{never_for_memory}
use Rattle.text_scan.proofs.laws.reply_law.Goals as goal

pub returns : goal.returns
returns c = never_for_memory c.reply_law.ensures
