-- What `bind` answers, by what its checks answer.
use Rattle.std.proofs.Common.{◌≡◌, ◌≢◌, Bool, List, Some, None, Ok, Err, ap, ◌∙◌}
use Rattle.table_schema.specs.declared.table.Table.{Table}
use Rattle.table_schema.specs.declared.query.BoundQuery.{BoundQuery}
use Rattle.table_schema.specs.declared.query.Conjunct.{Conjunct}
use Rattle.query_tokens.specs.declared.tree.Query.{Query}
use Rattle.query_bind.specs.declared.terms.Terms.{Terms}
use Rattle.query_bind.specs.declared.distinct.Lists.{Lists}
use Rattle.query_bind.specs.declared.fault.BindFault.{BindFault}
use Rattle.query_bind.specs.declared.fault.BindFault.TheVariants.{NoMemory}
use Rattle.query_bind.specs.Written.{where_written}
use Rattle.query_bind.specs.Conjuncts.{where_conjuncts}
use Rattle.query_bind.specs.Bound.{parts_of, assembled, bound_of, query_finding, answer, bound, Binds}
use Rattle.query_bind.specs.GroupTests.{having_finding}
use Rattle.query_bind.specs.Names.{column_finding, term_finding, group_test_finding, where_finding, table_finding, names_finding}
use Rattle.table_schema.specs.Firsts.{first_in}
use Rattle.table_schema.proofs.FirstLaws.{first_none, rest_none}

pub answers_bound : (table : Table) (any_table : Bool) (q : Query) (parts : Terms × Lists) (conjuncts : List Conjunct) (b : BoundQuery)
    → query_finding table any_table q ≡ None
    → parts ≡ parts_of table.schema.fields q
    → conjuncts ≡ where_conjuncts (where_written table.schema.fields q.condition)
    → b ≡ assembled table.schema.fields q parts.0 parts.1 conjuncts
    → Binds (bound table any_table q) (Ok b)
answers_bound table any_table q parts conjuncts b none same form is = (
  bound_of table.schema.fields q,
  ap (λ f. answer f (bound_of table.schema.fields q)) none,
  is ∙ ap (λ p. assembled table.schema.fields q p.0 p.1 conjuncts) same ∙ ap (assembled table.schema.fields q (parts_of table.schema.fields q).0 (parts_of table.schema.fields q).1) form,
)

pub answers_fault : (table : Table) (any_table : Bool) (q : Query) (fault : BindFault)
    → (fault ≢ NoMemory → query_finding table any_table q ≡ Some fault)
    → Binds (bound table any_table q) (Err fault)
answers_fault table any_table q fault found = λ other. ap (λ f. answer f (bound_of table.schema.fields q)) (found other)

-- where no check fails, the names and types of the condition are in order
pub where_passes : (table : Table) (any_table : Bool) (q : Query) → query_finding table any_table q ≡ None → where_finding table.schema.fields q.condition ≡ None
where_passes table any_table q none =
    let fields = table.schema.fields in
    let names = first_none (names_finding fields q) _ (rest_none (table_finding table any_table q) _ none) in
    first_none (where_finding fields q.condition) _ (rest_none (first_in (λ i. term_finding fields i.term) q.items) _ names)

-- and those of HAVING
pub having_passes : (table : Table) (any_table : Bool) (q : Query) → query_finding table any_table q ≡ None → having_finding (group_test_finding table.schema.fields) q.having ≡ None
having_passes table any_table q none =
    let fields = table.schema.fields in
    let names = first_none (names_finding fields q) _ (rest_none (table_finding table any_table q) _ none) in
    let after_items = rest_none (first_in (λ i. term_finding fields i.term) q.items) _ names in
    let after_where = rest_none (where_finding fields q.condition) _ after_items in
    first_none (having_finding (group_test_finding fields) q.having) _ (rest_none (first_in (column_finding fields) q.groups) _ after_where)
