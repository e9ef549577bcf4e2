use Rattle.group_table.proofs.KeptLemmas.{key_same}
use Rattle.broker_merge.proofs.OrderLemmas as lemmas
use Rattle.broker_merge.proofs.laws.order_law.Goals as goal

pub returns-clause-total : goal.returns-clause-total
returns-clause-total c = lemmas.group_total

pub returns-clause-strict : goal.returns-clause-strict
returns-clause-strict c = λ order a b e. key_same a.0 b.0 (lemmas.tied_keys order a b e)

pub returns-clause-permuted : goal.returns-clause-permuted
returns-clause-permuted c = lemmas.permuted

pub returns-clause-sorted : goal.returns-clause-sorted
returns-clause-sorted c = lemmas.sorted

pub returns-clause-found : goal.returns-clause-found
returns-clause-found c = lemmas.found
