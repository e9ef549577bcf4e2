use Rattle.std.proofs.Common.{◌<◌, length, arith}
use Rattle.query_bind.proofs.LookUpLemmas.{one_group}
use Rattle.query_bind.proofs.lookups.groups_of.Goals as goal

pub loop-group-preserved : goal.loop-group-preserved
loop-group-preserved c =
    let groups = c.args.groups.now in
    let j = c.loop-group.group-index in
    let within : j < length groups = omega arith in
    one_group groups j within c.group-item.result c.loop-group.names c.insert.new.self c.as_str.result _ c.group-item.is c.as_str.ensures c.in_ok-insert.ensures.updates c.loop-group.invariant
