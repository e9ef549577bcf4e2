use Rattle.std.proofs.Common.{sym, subst, arith}
use Rattle.broker_merge.specs.Answer.{IsWhole}
use Rattle.broker_merge.specs.declared.answer.Answer.{Answer}
use Rattle.broker_merge.proofs.AnswerLemmas.{whole_answer}
use Rattle.group_table.specs.Kept.{groups_in}
use Rattle.group_table.specs.Pooled.{in_pool}
use Rattle.group_table.specs.Shape.{shape_of}
use Rattle.sql_reply.proofs.reply.answer.Goals as goal

pub answer_text-requires : goal.answer_text-requires
answer_text-requires c =
    let (over, valid) = c.requires.valid in
    subst (λ (a : Answer). IsWhole a) (sym c.in_ok-answer.ensures.answer)
    (whole_answer (shape_of c.args.bound.now) (groups_in (in_pool c.args.groups.now c.args.pool.now)) (omega (arith, valid.label_each, valid.some_items)) valid.label_each)
