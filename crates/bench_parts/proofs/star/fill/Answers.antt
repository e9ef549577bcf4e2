use Rattle.std.proofs.Common.{◌≡◌, ℕ, ◌+◌, ◌-◌, ◌≤◌, ◌++◌, ◌∷◌, [], List, length, ap, ◌∙◌, arith}
use Rattle.std.proofs.Common.{length-append}
use Rattle.agg_laws.specs.declared.aggregate_kind.AggKind.{AggKind}
use Rattle.agg_laws.specs.Rows.{row_weight}
use Rattle.agg_laws.specs.Merged.{weights}
use Rattle.state_columns.specs.Docs.{Doc, Docs}
use Rattle.state_columns.proofs.WeightLemmas.{weights-append}
use Rattle.bench_parts.proofs.star.fill.Goals as goal

-- one more document, of one value
module _ (v w : Docs) (e : Doc) (is : w ≡ record v {
  docs = v.docs ++ (e ∷ []);
  spare = v.spare - 1;
}) where
  longer : length w.docs ≡ length v.docs + 1
  longer = ap (λ (d : Docs). length d.docs) is ∙ length-append v.docs (e ∷ [])

  heavier : row_weight e.1 ≤ 1 → weights row_weight w.docs ≤ weights row_weight v.docs + 1
  heavier le =
      let a = ap (λ (d : Docs). weights row_weight d.docs) is
      ∙ weights-append row_weight v.docs (e ∷ []) in
      omega (arith, a, le)

pub loop-preserved : goal.loop-preserved
loop-preserved c =
    let e = c.append_values.ensures.appended in
    let i = c.loop.invariant in
    let v = c.loop.table in
    let w = c.append_values.new.self in
    let l = longer v w _ e in
    let h = heavier v w _ e c.append_values.ensures.weight_fits in
    let s : w.spare ≡ v.spare - 1 = ap (λ (d : Docs). d.spare) e in
    record {
      rows = omega (arith, l, i.rows);
      weight_fits = omega (arith, h, i.weight_fits);
      room = omega (arith, s, i.room, c.requires.spare, c.loop-test.true);
      dims = ap (λ (d : Docs). d.dims) e ∙ i.dims;
      kinds = ap (λ (d : Docs). d.kinds) e ∙ i.kinds;
    }
