use Rattle.std.proofs.Common.{◌≡◌, true, nat_eq, length, arith, rules}
use Rattle.group_table.specs.Shape.{shape_of}
use Rattle.group_table.proofs.KeptSteps.{one_group}
use Rattle.group_table.proofs.query_pool.quota_for.Goals as goal

pub returns-then-is_empty-clause-limits : goal.returns-then-is_empty-clause-limits
returns-then-is_empty-clause-limits c =
    let e : nat_eq (length c.args.query.now.groups) 0 ≡ true = search rules in
    record {
      within = c.requires;
      same = λ rows lt. absurd (omega (arith, lt, one_group (shape_of c.args.query.now) rows e));
    }

pub returns-clause-limits : goal.returns-clause-limits
returns-clause-limits c = record { within = omega arith; same = λ rows lt. lt }
