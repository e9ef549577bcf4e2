use Rattle.std.proofs.Common.{◌≡◌, ◌++◌, OnOk, subst}
use Rattle.query_bind.proofs.HavingLemmas.{here_All, here_Any}
use Rattle.query_bind.proofs.having.+push_tested.Goals as goal

pub push_tested-returns-in-All : goal.push_tested-returns-in-All
push_tested-returns-in-All t c = subst (λ ts. OnOk c.push_all_tested.result (c.push_all_tested.new.terms ≡ c.args.terms.now ++ ts))
    (here_All c.args.fields.all.now c.args.having.now c.in-All.members c.as_slice.result.now c.in-All.is c.as_slice.ensures) c.push_all_tested.ensures

pub push_tested-returns-in-Any : goal.push_tested-returns-in-Any
push_tested-returns-in-Any t c = subst (λ ts. OnOk c.push_all_tested-in-Any.result (c.push_all_tested-in-Any.new.terms ≡ c.args.terms.now ++ ts))
    (here_Any c.args.fields.all.now c.args.having.now c.in-Any.members c.as_slice-in-Any.result.now c.in-Any.is c.as_slice-in-Any.ensures) c.push_all_tested-in-Any.ensures
