use Rattle.std.proofs.Common.{◌≡◌, ◌∙◌, ◌-◌, ◌≤◌, List, ap, drop, length, subst, sym, arith}
use Rattle.std.proofs.lemmas.Result.{on_ok_weaker}
use Rattle.agg_laws.specs.declared.aggregate_kind.AggKind.{AggKind}
use Rattle.agg_laws.specs.Numbers.{most_values}
use Rattle.state_columns.specs.Docs.{Docs}
use Rattle.agg_laws.specs.Rows.{row_weight}
use Rattle.agg_laws.specs.Merged.{weights}
use Rattle.group_table.specs.Kept.{groups_in}
use Rattle.scan_engine.proofs.AddLemmas.{at_most_more}
use Rattle.star_answer.proofs.MergeSteps as steps
use Rattle.group_table.specs.Pooled.{in_pool}
use Rattle.star_answer.proofs.merging.merge_alike.Goals as goal

pub merge_last-requires-clause-at_most : goal.merge_last-requires-clause-at_most
merge_last-requires-clause-at_most c =
    let docs = c.args.selected.docs in
    let merged = steps.merged_table c.args.selected c.reserve.new.self c.append_merged.new.self
    c.len-count.result _ _ c.len-count.ensures.count c.in_ok-reserve.ensures.ok
    c.in_ok-append_merged.ensures.ok in
    omega (arith, merged.lengths, c.requires.at_most)

pub merge_last-requires-clause-merges : goal.merge_last-requires-clause-merges
merge_last-requires-clause-merges c =
    let docs = c.args.selected.docs in
    let merged = steps.merged_table c.args.selected c.reserve.new.self c.append_merged.new.self
    c.len-count.result _ _ c.len-count.ensures.count c.in_ok-reserve.ensures.ok
    c.in_ok-append_merged.ensures.ok in
    let weight_fits = steps.rest_light c.args.columns.now docs (drop c.len-count.result
    c.append_merged.new.self.docs) merged.rest in
    let dims : c.append_merged.new.self.dims ≡ c.args.selected.dims =
    ap (λ (t : Docs). t.dims) c.in_ok-append_merged.ensures.ok ∙ ap (λ (t : Docs). t.dims) c.in_ok-reserve.ensures.ok in
    let kinds : c.append_merged.new.self.kinds ≡ c.args.selected.kinds =
    ap (λ (t : Docs). t.kinds) c.in_ok-append_merged.ensures.ok ∙ ap (λ (t : Docs). t.kinds) c.in_ok-reserve.ensures.ok in
    record {
      dims = dims ∙ c.requires.merges.dims;
      few_columns = c.requires.merges.few_columns;
      keyed = steps.rest_keyed c.args.columns.now docs (drop c.len-count.result
          c.append_merged.new.self.docs) merged.rest c.requires.merges.keyed;
      weight_fits = omega (arith, weight_fits, c.requires.merges.weight_fits);
      few_kinds = subst (λ (l : List AggKind). length l ≤ 16) (sym kinds) c.requires.merges.few_kinds;
      as_many = c.requires.merges.as_many;
      kinds = c.requires.merges.kinds ∙ sym kinds;
      fits = at_most_more (groups_in (in_pool c.args.groups.now c.args.pool.now)) (most_values - weights row_weight docs)
          (most_values - weights row_weight (drop c.len-count.result c.append_merged.new.self.docs))
          (omega (arith, weight_fits)) c.requires.merges.fits;
    }

pub returns-clause-ok : goal.returns-clause-ok
returns-clause-ok c =
    let docs = c.args.selected.docs in
    let merged = steps.merged_table c.args.selected c.reserve.new.self c.append_merged.new.self
    c.len-count.result _ _ c.len-count.ensures.count c.in_ok-reserve.ensures.ok
    c.in_ok-append_merged.ensures.ok in
    on_ok_weaker c.merge_last.result (steps.rest_merges c.args.columns.now docs
    (drop c.len-count.result c.append_merged.new.self.docs) merged.rest (in_pool c.args.groups.now c.args.pool.now)
    (in_pool c.merge_last.new.groups c.merge_last.new.pool)) c.merge_last.ensures.ok

pub returns-clause-full : goal.returns-clause-full
returns-clause-full c is =
    let docs = c.args.selected.docs in
    let merged = steps.merged_table c.args.selected c.reserve.new.self c.append_merged.new.self
    c.len-count.result _ _ c.len-count.ensures.count c.in_ok-reserve.ensures.ok
    c.in_ok-append_merged.ensures.ok in
    steps.rest_over c.args.columns.now docs (drop c.len-count.result
    c.append_merged.new.self.docs) merged.rest (in_pool c.args.groups.now c.args.pool.now) (c.merge_last.ensures.full is)
