use Rattle.std.proofs.Common.{◌≡◌, ◌∙◌, ◌<◌, ◌+◌, ◌++◌, ◌∷◌, [], List, Some, length, get_or, take, sym, ap, subst, arith}
use Rattle.std.proofs.lemmas.Option.{slice_get-get_or}
use Rattle.std.proofs.lemmas.List.{take_all, take_more}
use Rattle.std.specs.List.{AllZip}
use Rattle.agg_laws.specs.Tree.{HaveNoStar}
use Rattle.state_columns.specs.Docs.{Docs}
use Rattle.values.specs.Columns.{rows_of}
use Rattle.table_schema.specs.declared.settings.TreeSetting.{TreeSetting}
use Rattle.segment_file.specs.Trees.{documents}
use Rattle.segment_file.proofs.TreeChecks.{few_kinds, valid_at}
use Rattle.segment_file.proofs.TreeRows.{tree_no_star}
use Rattle.segment_build.specs.Coded.{columns_in}
use Rattle.segment_build.specs.Merging.{IsMerged}
use Rattle.segment_build.proofs.Built.{rows_limit}
use Rattle.segment_build.proofs.ColumnCodes.{in_rows}
use Rattle.segment_build.proofs.MergeLemmas.{zip_push}
use Rattle.segment_build.proofs.TreeMerging.{docs_are, no_star_merged}
use Rattle.segment_build.proofs.trees.merge_trees.Goals as goal

pub trees-init : goal.trees-init
trees-init c = record {
  merged = subst (AllZip (IsMerged (in_rows c.args.table.now (columns_in c.args.coded.now))) []) (sym c.in_ok-all.ensures.items) tt;
  have = c.in_ok-numbers.ensures;
}

pub trees-preserved : goal.trees-preserved
trees-preserved c =
    let table = c.args.table.now in
    let t = (columns_in c.args.coded.now) in
    let os = in_rows table t in
    let at = c.trees.at in
    let trees : List TreeSetting = c.as_slice-trees.result.now in
    let tree : TreeSetting = c.index-trees-at.result in
    let lt : at < length table.settings.trees = omega (arith, c.trees-test.true, ap length c.as_slice-trees.ensures) in
    let is : tree ≡ get_or table.settings.trees at tree = c.index-trees-at.is ∙ ap (λ xs. get_or xs at tree) c.as_slice-trees.ensures in
    let valid = valid_at table.schema.fields table.settings.trees at tree c.requires.rows.of_table.valid.settings.trees_valid (slice_get-get_or table.settings.trees at tree lt ∙ ap Some (sym is)) in
    let ds : Docs = c.in_ok-docs.docs in
    let docs = c.in_ok-docs.ensures.merged in
    let are = docs_are table.settings.sorted (rows_of t) tree ds.docs docs.are in
    let one : IsMerged os tree ds = record {
      bounded = record {
        some_dims = omega (arith, valid.has_dims, valid.some_split);
        few_dims = omega (arith, valid.has_dims, valid.few_split);
        few_kinds = few_kinds table.schema.fields tree valid;
      };
      dims = docs.dims;
      kinds = docs.kinds;
      are = are;
      at_most = docs.at_most;
      weight_fits = docs.weight_fits;
      no_star = subst (HaveNoStar tree.shape.dims) (sym are) (no_star_merged tree.shape.dims (documents os tree) (tree_no_star table.schema.fields os tree valid (rows_limit table t c.requires.rows.of_table.columns)));
    } in
    let R : TreeSetting → Docs → Type 0 = IsMerged os in
    let first : List TreeSetting = take at trees in
    let more : first ++ tree ∷ [] ≡ take (at + 1) trees = sym (take_more trees at tree c.trees-test.true ∙ ap (λ x. first ++ x ∷ []) (sym c.index-trees-at.is)) in
    record {
      merged = subst (AllZip R (take (at + 1) trees)) (sym c.in_ok-push.ensures.items)
          (subst (λ ts. AllZip R ts (c.trees.all.items ++ ds ∷ [])) more
          (zip_push R first c.trees.all.items tree ds c.trees.invariant.merged one));
      have = c.in_ok-docs.ensures.have;
    }

pub returns : goal.returns
returns c =
    let table = c.args.table.now in
    let trees : List TreeSetting = c.as_slice-trees.result.now in
    record {
      of_table = c.requires.rows.of_table;
      each = subst (λ ts. AllZip (IsMerged (in_rows table (columns_in c.args.coded.now))) ts c.trees.all.items) (take_all c.trees.at trees (omega (arith, c.trees-test.false)) ∙ c.as_slice-trees.ensures) c.trees.invariant.merged;
    }
