use Rattle.text_scan.proofs.reply.reply_by.Goals as goal

pub answer-requires-clause-pooled : goal.answer-requires-clause-pooled
answer-requires-clause-pooled c = c.in_ok-group_text.ensures.pooled c.if-branch.true

pub answer-requires-clause-table : goal.answer-requires-clause-table
answer-requires-clause-table c = c.in_ok-group_text.ensures.table c.if-branch.true

pub answer-requires-clause-most : goal.answer-requires-clause-most
answer-requires-clause-most c = c.in_ok-group_text.ensures.most c.if-branch.true
