use Rattle.std.proofs.Common.{◌≡◌, ◌∙◌, ◌++◌, ◌∷◌, [], List, ap, map, sym, subst, arith, w64}
use Rattle.std.proofs.lemmas.Int.{to_z-of_z}
use Rattle.std.specs.Prelude.{ℤ}
use Rattle.std.proofs.lemmas.Grind.{common_steps}
use Rattle.std.proofs.lemmas.List.{take_all}
use Rattle.values.specs.Columns.{row_of}
use Rattle.agg_laws.specs.Numbers.{AreWhole}
use Rattle.table_schema.specs.declared.query.Agg.{Agg}
use Rattle.group_table.specs.Groups.{number_for}
use Rattle.scan_engine.proofs.AddLemmas.{whole_more}
use Rattle.scan_engine.proofs.row_by_row.fill_values.Goals as goal

pub loop-agg-preserved : goal.loop-agg-preserved
loop-agg-preserved c = record {
  values = grind (arith, common_steps, c.number_of.ensures.value);
  whole = subst (λ (l : List ℤ). AreWhole l) (sym (c.in_ok-push.ensures.items ∙ ap (λ (z : ℤ). c.loop-agg.values.items ++ z ∷ [])
      (to_z-of_z w64 c.number_of.result (record { sfits = c.number_of.type_inv })))) (whole_more c.loop-agg.values.items c.number_of.result c.loop-agg.invariant.whole c.number_of.ensures.whole);
}

pub returns-clause-values : goal.returns-clause-values
returns-clause-values c = subst (λ (aggs : List Agg). c.loop-agg.values.items ≡ map (λ agg. number_for agg (row_of c.args.block.columns.now.columns c.args.at)) aggs)
    (take_all c.loop-agg.agg-index c.args.aggs.now c.loop-agg-test.false) c.loop-agg.invariant.values
