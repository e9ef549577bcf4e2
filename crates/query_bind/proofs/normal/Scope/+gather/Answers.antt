use Rattle.std.proofs.Common.{◌≡◌, ◌++◌, OnOk, subst}
use Rattle.query_bind.proofs.JointLemmas.{gathered-All, gathered-Any}
use Rattle.query_bind.proofs.normal.Scope.+gather.Goals as goal

pub gather-returns-in-All : goal.gather-returns-in-All
gather-returns-in-All t c = subst (λ ws. OnOk c.gather_joined.result (c.gather_joined.new.members ≡ c.args.members.now ++ ws))
    (gathered-All c.args.joint c.other_if-own.result c.args.negated c.args.self.now.fields.all.now c.args.condition.now c.in-All.inner c.as_slice-in-All.result.now
    c.in-All.is c.as_slice-in-All.ensures c.other_if-own.ensures)
    c.gather_joined.ensures

pub gather-returns-in-Any : goal.gather-returns-in-Any
gather-returns-in-Any t c = subst (λ ws. OnOk c.gather_joined-in-Any.result (c.gather_joined-in-Any.new.members ≡ c.args.members.now ++ ws))
    (gathered-Any c.args.joint c.other_if-own-in-Any.result c.args.negated c.args.self.now.fields.all.now c.args.condition.now c.in-Any.inner c.as_slice-in-Any.result.now
    c.in-Any.is c.as_slice-in-Any.ensures c.other_if-own-in-Any.ensures)
    c.gather_joined-in-Any.ensures
