use Rattle.std.proofs.Common.{◌≡◌, ◌∙◌, ℕ, List, length, ap, sym, subst, arith}
use Rattle.std.proofs.lemmas.Result.{IfOk-weaker}
use Rattle.table_schema.specs.declared.query.Agg.{Agg}
use Rattle.value_ids.specs.Coding.{AreBelow}
use Rattle.coded_columns.specs.Keyed.{HoldsRows}
use Rattle.coded_scan.specs.Passed.{passed}
use Rattle.coded_columns.specs.Packing.{Ascend}
use Rattle.coded_scan.specs.RowFilters.{all_let}
use Rattle.coded_scan.proofs.AddSteps.{passing-ascend}
use Rattle.coded_scan.proofs.KeyedMerges.{passed-below, passed-few}
use Rattle.coded_scan.proofs.keyed_scan.keyed_of.Goals as goal

pub invariant_of-placed : goal.invariant_of-placed
invariant_of-placed c =
    let rows = c.args.rows in
    let is : c.as_slice.result.now ≡ passed rows = c.as_slice.ensures.value ∙ c.in_ok-places-in-None.ensures in
    record {
      within = subst (AreBelow rows.segment.now.count) (sym is) (passed-below rows);
      few = omega (arith, ap length is, passed-few rows);
      ascend = subst Ascend (sym is) (passing-ascend (λ at. all_let at rows.row_filters.now) 0 rows.segment.now.count);
    }

pub returns-in_ok-places-in-None : goal.returns-in_ok-places-in-None
returns-in_ok-places-in-None c =
    let rows = c.args.rows in
    let segment = rows.segment.now in
    let query = c.args.query.now in
    let is : c.as_slice.result.now ≡ passed rows = c.as_slice.ensures.value ∙ c.in_ok-places-in-None.ensures in
    IfOk-weaker c.by_slots.result _ _ (λ keyed h.
    subst (λ (gs : List ℕ). HoldsRows segment gs query.aggs (passed rows) keyed) c.as_slice-groups.ensures
    (subst (λ (ags : List Agg). HoldsRows segment c.as_slice-groups.result.now ags (passed rows) keyed) c.as_slice-in-None.ensures
    (subst (λ (ps : List ℕ). HoldsRows segment c.as_slice-groups.result.now c.as_slice-in-None.result.now ps keyed) is h))) c.by_slots.ensures
