use Rattle.std.proofs.Common.{◌∙◌, ◌<◌, ◌≤◌, ap, subst, arith}
use Rattle.star_tree.specs.Flat.{flat, tree_bytes}
use Rattle.agg_laws.specs.Rows.{merged_rows}
use Rattle.star_file.specs.Reading.{doc_width}
use Rattle.star_file.specs.Rules.{most_bytes}
use Rattle.segment_file.specs.Trees.{documents, written}
use Rattle.segment_build.proofs.TreeMerging.{merged_again, same_tree}
use Rattle.segment_build.proofs.trees.grow_tree.Goals as goal

pub build_merged-requires-clause-rows : goal.build_merged-requires-clause-rows
build_merged-requires-clause-rows c =
    let m = c.requires.1 in
    record { bounded = m.bounded; dims = m.dims; kinds = m.kinds; at_most = m.at_most; weight_fits = m.weight_fits; no_star = m.no_star }

pub build_merged-requires-clause-merged : goal.build_merged-requires-clause-merged
build_merged-requires-clause-merged c = merged_again c.args.docs.docs (documents c.requires.0 c.args.tree.now) c.requires.1.are

pub returns-in-Ok : goal.returns-in-Ok
unfolding written
returns-in-Ok c = λ rows m.
    let tree = c.args.tree.now in
    let same = same_tree tree.shape c.args.docs.docs (documents rows tree) m.are in
    record {
      are = c.in-Ok.ensures.tree.flat_is ∙ ap (flat merged_rows) same;
      kinds = c.in-Ok.ensures.tree.kinds;
      fits = record { at_most = subst (λ t. tree_bytes merged_rows (doc_width tree.shape) t ≤ most_bytes) same c.in-Ok.ensures.tree.fits };
      too_large = λ is. absurd cc;
    }

pub returns-in-Err : goal.returns-in-Err
returns-in-Err c = λ rows m.
    let tree = c.args.tree.now in
    let same = same_tree tree.shape c.args.docs.docs (documents rows tree) m.are in
    record {
      are = tt;
      kinds = tt;
      fits = tt;
      too_large = λ is fits.
          (let over = subst (λ t. most_bytes < tree_bytes merged_rows (doc_width tree.shape) t) same (c.in-Err.ensures.too_large is) in
          omega (arith, over, fits.at_most));
    }
