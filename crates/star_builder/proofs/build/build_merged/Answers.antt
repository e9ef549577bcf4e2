use Rattle.std.proofs.Common.{◌≤◌, List, ap, arith, sym, subst, ◌∙◌}
use Rattle.std.proofs.lemmas.Result.{IfOk-weaker}
use Rattle.agg_laws.specs.Rows.{merged_rows}
use Rattle.agg_laws.specs.Tree.{root_of, tree_of}
use Rattle.state_columns.specs.Docs.{Doc, HaveIds, HaveShape}
use Rattle.star_tree.specs.Flat.{flat, FlatAt}
use Rattle.star_file.specs.Rules.{most_bytes}
use Rattle.state_columns.proofs.DocLemmas.{rows_join}
use Rattle.star_tree.proofs.TreeLemmas.{tree_covers}
use Rattle.star_tree.proofs.ShareLemmas.{tree_shares}
use Rattle.star_tree.proofs.FlatTrees.{tree_flat}
use Rattle.star_builder.specs.Building.{Written, Proper, bytes_of}
use Rattle.star_builder.proofs.Children.{merged_proper, have_ids}
use Rattle.star_builder.proofs.build.build_merged.Goals as goal

pub grow-requires : goal.grow-requires
grow-requires c =
    let rows = c.requires.rows in
    record {
      bounded = rows.bounded;
      dims = rows.dims;
      some = omega (arith, c.len.ensures.count, c.if-len-eq0.false);
      at_most = rows.at_most;
      proper = subst (Proper c.args.shape.now.dims 0) c.requires.merged
          (merged_proper c.args.shape.now.dims c.args.docs.kinds c.args.docs.docs
          (subst (λ k. HaveShape k c.args.docs.kinds c.args.docs.docs) rows.dims
          c.len.ensures.shape) rows.no_star rows.weight_fits);
    }

pub returns-clause-tree : goal.returns-clause-tree
returns-clause-tree c =
    let s = c.args.shape.now in
    let rows = c.args.docs.docs in
    let asked = c.requires.rows in
    let ids : HaveIds s.dims rows = have_ids s.dims c.args.docs.kinds rows
    (subst (λ k. HaveShape k c.args.docs.kinds rows) asked.dims c.len.ensures.shape) in
    let is = ap (λ (l : List Doc). flat merged_rows (root_of merged_rows s s.dims l))
    (sym c.requires.merged) in
    IfOk-weaker c.grow.result _ _ (λ tree made. record {
      flat_is = made.flat_is ∙ is;
      nested = subst (λ (x : Written). FlatAt merged_rows 0 0 (tree_of merged_rows s s.dims rows) x)
          (sym (made.flat_is ∙ is))
          (tree_flat merged_rows rows_join s s.dims rows ids asked.no_star);
      covers = tree_covers merged_rows rows_join s s.dims rows asked.no_star;
      children = tree_shares merged_rows rows_join s s.dims rows asked.no_star;
      dims = made.dims ∙ asked.dims;
      kinds = made.kinds ∙ asked.kinds;
      fits = subst (λ (l : List Doc). bytes_of s
          (flat merged_rows (root_of merged_rows s s.dims l)) ≤ most_bytes)
          (sym c.requires.merged) made.fits;
    }) c.grow.ensures.grown
