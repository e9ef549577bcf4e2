use Rattle.std.proofs.Common.{◌≡◌, ◌∙◌, [], List, ap, drop, sym, arith}
use Rattle.std.proofs.lemmas.List.{drop_all}
use Rattle.std.specs.List.{list_any}
use Rattle.table_schema.specs.declared.query.Conjunct.{Conjunct}
use Rattle.segment_plan.specs.Named.{conjunct_names}
use Rattle.segment_plan.specs.Served.{unserved}
use Rattle.segment_plan.proofs.ServedLemmas.{none_unserved}
use Rattle.segment_plan.proofs.named.conjuncts_name.Goals as goal

pub returns : goal.returns
returns c =
    let i = c.loop-at.at in
    let rest = drop i c.args.choices.now in
    let none : drop i c.args.conjuncts.now ≡ [] = drop_all i c.args.conjuncts.now (omega (arith, c.loop-at-test.false)) in
    sym (c.loop-at.invariant ∙ ap (λ (l : List Conjunct). list_any (conjunct_names c.args.column) (unserved rest l)) none ∙ ap (list_any (conjunct_names c.args.column)) (none_unserved rest))
