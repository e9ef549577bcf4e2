use Rattle.std.proofs.Common.{◌≡◌, ◌<◌, ◌^◌, length, true, false, nat_eq, refl, rules}
use Rattle.group_table.specs.Pooled.{PooledTable}
use Rattle.group_table.proofs.PooledSteps as steps
use Rattle.group_table.proofs.table.GroupTable.new.Goals as goal

pub returns-then-not-is_empty-clause-ok : goal.returns-then-not-is_empty-clause-ok
returns-then-not-is_empty-clause-ok c =
    let t : PooledTable = record { columns = c.len.result; owner = c.args.owner; most = c.quota.result; slots = c.new.result.entries } in
    let e : nat_eq (length c.args.query.now.groups) 0 ≡ false = search rules in
    let small : c.quota.result < 2 ^ 32 = search rules in
    steps.new_grouped c.args.query.now c.args.owner c.args.pool.now t c.requires.owner c.requires.kinds c.requires.none c.len.ensures refl c.quota.ensures small c.new.ensures.empty e

pub start-requires-clause-holds : goal.start-requires-clause-holds
start-requires-clause-holds c =
    let t : PooledTable = record { columns = c.len.result; owner = c.args.owner; most = c.quota.result; slots = c.new.result.entries } in
    let small : c.quota.result < 2 ^ 32 = search rules in
    steps.holds_none c.args.query.now c.args.owner c.args.pool.now t c.requires.owner c.requires.kinds c.requires.none c.len.ensures refl c.quota.ensures small c.new.ensures.empty

pub returns-clause-ok : goal.returns-clause-ok
returns-clause-ok c =
    let t : PooledTable = record { columns = c.len.result; owner = c.args.owner; most = c.quota.result; slots = c.new.result.entries } in
    let e : nat_eq (length c.args.query.now.groups) 0 ≡ true = search rules in
    let small : c.quota.result < 2 ^ 32 = search rules in
    steps.new_whole c.args.query.now c.args.owner c.args.pool.now t c.requires.owner c.requires.kinds c.requires.none c.len.ensures refl c.quota.ensures small c.new.ensures.empty e
    c.start.new.self c.start.new.pool c.new-key.result c.in_ok-start.ensures.ok.0 c.new-key.ensures c.in_ok-start.ensures.ok.1
