use Rattle.std.proofs.Common.{sym, subst, refl}
use Rattle.group_table.specs.QueryPool.{Limits}
use Rattle.query_executor.proofs.pass.Pass.new.Goals as goal

pub returns-clause-groups : goal.returns-clause-groups
returns-clause-groups c = let new = c.in_ok-groups.ensures.ok.is_new in record {
  of_query = new.of_query;
  most_is = refl;
  groups_are = new.groups_are;
}

pub returns-clause-limits : goal.returns-clause-limits
returns-clause-limits c = let new = c.in_ok-groups.ensures.ok.is_new in
    subst (Limits c.args.query.now c.args.most) (sym new.most_is) c.in_ok-pool.ensures.limits
