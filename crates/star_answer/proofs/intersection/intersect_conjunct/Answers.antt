use Rattle.std.proofs.Common.{◌≡◌, ◌∙◌, ◌==◌, true, Some, ap, arith, subst, sym}
use Rattle.std.proofs.lemmas.Bool.{eq-eqb}
use Rattle.std.specs.Prelude.{slice_get}
use Rattle.table_schema.specs.declared.query.Conjunct.{Conjunct}
use Rattle.value_ids.specs.Ids.{satisfies}
use Rattle.segment_plan.specs.Matched.{values_in, values_of}
use Rattle.star_answer.specs.Tasks.{Intersects}
use Rattle.star_answer.proofs.TaskSteps.{intersects_on}
use Rattle.star_answer.proofs.intersection.intersect_conjunct.Goals as goal

pub returns-in_ok-intersect-in-One : goal.returns-in_ok-intersect-in-One
returns-in_ok-intersect-in-One c =
    let column = c.args.column in
    let values = values_in c.args.head.now column in
    let same = ap values_of c.dictionary.ensures in
    let new = c.in_ok-intersect-in-One.field-0 in
    let on : (c.in-One.named == column) ≡ true =
    eq-eqb c.in-One.named column (omega (arith, c.if-named-column.false)) in
    subst (λ (x : Conjunct). Intersects column values x c.args.met (Some new)) (sym c.in-One.is)
    (intersects_on column c.in-One.named values c.in-One.condition c.args.met c.in_ok-ids-in-One.ids new
    on
    (λ id. c.in_ok-ids-in-One.ensures.each id
    ∙ ap (λ vs. satisfies c.in-One.condition (slice_get vs id)) (sym same))
    c.in_ok-intersect-in-One.ensures)
