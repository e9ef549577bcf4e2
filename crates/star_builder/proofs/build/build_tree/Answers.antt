use Rattle.std.proofs.Common.{◌<◌, ◌≤◌, List, length, ap, sym, subst, ◌∙◌, arith}
use Rattle.std.proofs.lemmas.Result.{IfOk-weaker}
use Rattle.agg_laws.specs.Rows.{merged_rows}
use Rattle.agg_laws.specs.Tree.{root_of, tree_of}
use Rattle.state_columns.specs.Docs.{Doc, HaveIds, HaveShape}
use Rattle.star_tree.specs.Flat.{flat, FlatAt}
use Rattle.star_file.specs.Rules.{most_bytes}
use Rattle.state_columns.proofs.DocLemmas.{rows_join}
use Rattle.star_tree.proofs.TreeLemmas.{tree_covers}
use Rattle.star_tree.proofs.ShareLemmas.{tree_shares}
use Rattle.star_tree.proofs.FlatTrees.{tree_flat}
use Rattle.state_columns.proofs.ListLemmas.{merged_some, merged_fewer}
use Rattle.star_builder.specs.Building.{Written, Proper, bytes_of}
use Rattle.star_builder.proofs.Children.{merged_proper, have_ids}
use Rattle.star_builder.proofs.build.build_tree.Goals as goal

pub grow-requires : goal.grow-requires
grow-requires c =
    let rows = c.requires.rows in
    let l = ap length c.in_ok-docs.ensures.docs_are in
    let m = merged_fewer merged_rows c.args.rows.docs in
    record {
      bounded = rows.bounded;
      dims = c.in_ok-docs.ensures.dims ∙ rows.dims;
      some = subst (λ (l : List Doc). 0 < length l) (sym c.in_ok-docs.ensures.docs_are)
          (merged_some merged_rows c.args.rows.docs
          (omega (arith, c.len.ensures.count, c.if-len-eq0.false)));
      at_most = omega (arith, l, m, rows.at_most);
      proper = subst (Proper c.args.shape.now.dims 0) (sym c.in_ok-docs.ensures.docs_are)
          (merged_proper c.args.shape.now.dims c.args.rows.kinds c.args.rows.docs
          (subst (λ k. HaveShape k c.args.rows.kinds c.args.rows.docs) rows.dims
          c.len.ensures.shape) rows.no_star rows.weight_fits);
    }

pub returns-clause-tree : goal.returns-clause-tree
returns-clause-tree c =
    let s = c.args.shape.now in
    let rows = c.args.rows.docs in
    let asked = c.requires.rows in
    let ids : HaveIds s.dims rows = have_ids s.dims c.args.rows.kinds rows
    (subst (λ k. HaveShape k c.args.rows.kinds rows) asked.dims c.len.ensures.shape) in
    let is = ap (λ (l : List Doc). flat merged_rows (root_of merged_rows s s.dims l))
    (c.in_ok-docs.ensures.docs_are) in
    IfOk-weaker c.grow.result _ _ (λ tree made. record {
      flat_is = made.flat_is ∙ is;
      nested = subst (λ (x : Written). FlatAt merged_rows 0 0 (tree_of merged_rows s s.dims rows) x)
          (sym (made.flat_is ∙ is))
          (tree_flat merged_rows rows_join s s.dims rows ids asked.no_star);
      covers = tree_covers merged_rows rows_join s s.dims rows asked.no_star;
      children = tree_shares merged_rows rows_join s s.dims rows asked.no_star;
      dims = made.dims ∙ c.in_ok-docs.ensures.dims ∙ asked.dims;
      kinds = made.kinds ∙ c.in_ok-docs.ensures.kinds ∙ asked.kinds;
      fits = subst (λ (l : List Doc). bytes_of s
          (flat merged_rows (root_of merged_rows s s.dims l)) ≤ most_bytes)
          (c.in_ok-docs.ensures.docs_are) made.fits;
    }) c.grow.ensures.grown
