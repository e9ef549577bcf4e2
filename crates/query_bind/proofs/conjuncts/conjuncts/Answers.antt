use Rattle.std.proofs.Common.{rules, ◌≡◌, IfOk}
use Rattle.query_bind.specs.Written.{where_written}
use Rattle.query_bind.specs.Conjuncts.{where_conjuncts}
use Rattle.query_bind.proofs.RowLemmas.{kept}
use Rattle.query_bind.proofs.conjuncts.conjuncts.Goals as goal

pub returns-clause-rows : goal.returns-clause-rows
returns-clause-rows c =
    let w = where_written c.args.fields.all.now c.args.condition.now in
    let form : IfOk c.conjuncts_of.result (λ cs. cs ≡ where_conjuncts w) = search rules in
    kept c.conjuncts_of.result w form
