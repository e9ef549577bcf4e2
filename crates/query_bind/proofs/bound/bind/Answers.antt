use Rattle.std.proofs.Common.{◌≡◌, Ok, ap, ◌∙◌}
use Rattle.query_bind.specs.GroupTests.{having_finding}
use Rattle.query_bind.specs.Names.{group_test_finding, where_finding}
use Rattle.query_bind.specs.Written.{where_written}
use Rattle.query_bind.specs.Conjuncts.{where_conjuncts}
use Rattle.query_bind.specs.Bound.{assembled}
use Rattle.query_bind.proofs.BoundLemmas.{answers_bound, having_passes, where_passes}
use Rattle.query_bind.proofs.ValidLemmas.{binds_valid}
use Rattle.query_bind.proofs.bound.bind.Goals as goal

pub returns-clause-bound : goal.returns-clause-bound
returns-clause-bound c =
    let checked = c.in_ok-terms.ensures.checked in
    let conjuncts = where_conjuncts (where_written c.as_slice-all.result.now c.args.query.now.condition) in
    let form = ap (λ fields. where_conjuncts (where_written fields c.args.query.now.condition)) c.as_slice-all.ensures in
    let over : assembled c.as_slice-all.result.now c.args.query.now c.in_ok-terms.terms c.in_ok-terms.lists conjuncts ≡ assembled c.args.table.now.schema.fields c.args.query.now c.in_ok-terms.terms c.in_ok-terms.lists conjuncts =
    ap (λ fields. assembled fields c.args.query.now c.in_ok-terms.terms c.in_ok-terms.lists conjuncts) c.as_slice-all.ensures in
    answers_bound c.args.table.now c.args.any_table c.args.query.now (c.in_ok-terms.terms, c.in_ok-terms.lists) conjuncts c.in_ok-bound.bound checked.0 checked.1 form (c.in_ok-bound.ensures.bound ∙ over)

pub returns-clause-valid : goal.returns-clause-valid
returns-clause-valid c = binds_valid c.args.table.now c.args.any_table c.args.query.now (Ok c.in_ok-bound.bound) c.requires.spelled (returns-clause-bound c)

pub assemble-requires-clause-checked : goal.assemble-requires-clause-checked
assemble-requires-clause-checked c =
    let table = c.args.table.now in
    ap (λ fields. where_finding fields c.args.query.now.condition) c.as_slice-all.ensures ∙ where_passes table c.args.any_table c.args.query.now c.in_ok-terms.ensures.checked.0

pub assemble-requires-clause-asked : goal.assemble-requires-clause-asked
assemble-requires-clause-asked c =
    let table = c.args.table.now in
    ap (λ fields. having_finding (group_test_finding fields) c.args.query.now.having) c.as_slice-all.ensures ∙ having_passes table c.args.any_table c.args.query.now c.in_ok-terms.ensures.checked.0
