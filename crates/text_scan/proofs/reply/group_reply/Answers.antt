use Rattle.std.proofs.Common.{sym, subst, refl, arith, ◌≤◌, length}
use Rattle.group_table.specs.QueryPool.{Limits}
use Rattle.sql_reply.specs.Reply.{most_groups}
use Rattle.text_scan.proofs.reply.group_reply.Goals as goal

pub pool_for-requires-clause-few : goal.pool_for-requires-clause-few
pool_for-requires-clause-few c = let (over, valid) = c.requires.valid in omega (arith, valid.few_aggs)

pub reply_by-requires-clause-table : goal.reply_by-requires-clause-table
reply_by-requires-clause-table c = let new = c.in_ok-table.ensures.ok.is_new in record {
  of_query = new.of_query;
  most_is = refl;
  groups_are = new.groups_are;
}

pub reply_by-requires-clause-limits : goal.reply_by-requires-clause-limits
reply_by-requires-clause-limits c = let new = c.in_ok-table.ensures.ok.is_new in
    subst (Limits c.args.bound.now most_groups) (sym new.most_is) c.in_ok-pool.ensures.limits
