use Rattle.std.proofs.Common.{◌≡◌, ◌∙◌, ◌<◌, All, List, Some, length, length-drop, get_or, inr, refl, sym, ap, subst, take, arith}
use Rattle.std.proofs.lemmas.List.{take_all}
use Rattle.std.proofs.lemmas.Option.{slice_get-get_or}
use Rattle.std.proofs.lemmas.Bool.{false≢true}
use Rattle.std.proofs.lemmas.Slice.Zip.{AllZip-long}
use Rattle.std.specs.Vec.Iter.{into_iter_items, into_iter_len}
use Rattle.star_file.specs.Bytes.{doc_bytes, nodes_section}
use Rattle.values.specs.Columns.{ListedColumns, rows_of}
use Rattle.table_schema.specs.declared.settings.TreeSetting.{TreeSetting}
use Rattle.segment_file.specs.Trees.{TreeFits, nodes_of, star_of}
use Rattle.segment_file.proofs.TreeChecks.{valid_at}
use Rattle.segment_build.specs.Growing.{IsTooLarge, nodes_grown, stars_grown}
use Rattle.segment_build.specs.Made.{each_bytes}
use Rattle.segment_build.specs.Merging.{IsMerged}
use Rattle.segment_build.proofs.ColumnCodes.{in_rows}
use Rattle.segment_build.proofs.Built.{tree_made}
use Rattle.segment_build.proofs.Growing.{fits_more, grown_more}
use Rattle.segment_build.proofs.MergeLemmas.{drop_next, zip_next}
use Rattle.segment_build.proofs.trees.grow_trees.Goals as goal

pub unreachable-requires : goal.unreachable-requires
unreachable-requires c =
    let table = c.args.table.now in
    let at = c.trees.at in
    let all = c.args.merged.items in
    let lt : at < length table.settings.trees = omega (arith, c.trees-test.true, ap length c.as_slice-trees.ensures) in
    let many = AllZip-long (IsMerged (in_rows table c.requires.0)) table.settings.trees all c.requires.1.each in
    let left = ap length c.trees.invariant.rest in
    let size = c.trees.invariant.size in
    let some : 0 < into_iter_len c.trees.left = omega (arith, lt, many, left, size, length-drop at all) in
    false≢true (c.in_default.ensures.variant.1 some)

pub grow_tree-requires : goal.grow_tree-requires
grow_tree-requires c =
    let table = c.args.table.now in
    let t : ListedColumns = c.requires.0 in
    let os = in_rows table t in
    let at = c.trees.at in
    let tree : TreeSetting = c.index-trees-at.result in
    let lt : at < length table.settings.trees = omega (arith, c.trees-test.true, ap length c.as_slice-trees.ensures) in
    let is : tree ≡ get_or table.settings.trees at tree = c.index-trees-at.is ∙ ap (λ xs. get_or xs at tree) c.as_slice-trees.ensures in (
      os,
      zip_next (IsMerged os) table.settings.trees c.args.merged.items (into_iter_items c.next.new.self) c.in-Some.docs at tree c.requires.1.each
          (sym c.trees.invariant.rest ∙ c.in-Some.ensures.items) lt is,
    )

pub push_tree-requires-clause-at_most : goal.push_tree-requires-clause-at_most
push_tree-requires-clause-at_most c =
    let table = c.args.table.now in
    let t : ListedColumns = c.requires.0 in
    let os = in_rows table t in
    let at = c.trees.at in
    let tree : TreeSetting = c.index-trees-at.result in
    let of_table = c.requires.1.of_table in
    let lt : at < length table.settings.trees = omega (arith, c.trees-test.true, ap length c.as_slice-trees.ensures) in
    let is : tree ≡ get_or table.settings.trees at tree = c.index-trees-at.is ∙ ap (λ xs. get_or xs at tree) c.as_slice-trees.ensures in
    let valid = valid_at table.schema.fields table.settings.trees at tree of_table.valid.settings.trees_valid (slice_get-get_or table.settings.trees at tree lt ∙ ap Some (sym is)) in
    let one = zip_next (IsMerged os) table.settings.trees c.args.merged.items (into_iter_items c.next.new.self) c.in-Some.docs at tree c.requires.1.each
    (sym c.trees.invariant.rest ∙ c.in-Some.ensures.items) lt is in
    let g = c.in-Ok.ensures os one in
    let s = tree_made table t tree of_table.columns valid g.fits in
    omega (arith, ap (λ p. length p.1) g.are, s.number)

pub push_tree-requires-clause-kinds : goal.push_tree-requires-clause-kinds
push_tree-requires-clause-kinds c =
    let table = c.args.table.now in
    let t : ListedColumns = c.requires.0 in
    let os = in_rows table t in
    let at = c.trees.at in
    let tree : TreeSetting = c.index-trees-at.result in
    let lt : at < length table.settings.trees = omega (arith, c.trees-test.true, ap length c.as_slice-trees.ensures) in
    let is : tree ≡ get_or table.settings.trees at tree = c.index-trees-at.is ∙ ap (λ xs. get_or xs at tree) c.as_slice-trees.ensures in
    let one = zip_next (IsMerged os) table.settings.trees c.args.merged.items (into_iter_items c.next.new.self) c.in-Some.docs at tree c.requires.1.each
    (sym c.trees.invariant.rest ∙ c.in-Some.ensures.items) lt is in
    omega (arith, ap length (c.in-Ok.ensures os one).kinds, one.bounded.few_kinds)

pub trees-preserved : goal.trees-preserved
trees-preserved c =
    let table = c.args.table.now in
    let at = c.trees.at in
    let trees : List TreeSetting = c.as_slice-trees.result.now in
    let tree : TreeSetting = c.index-trees-at.result in
    let i = c.trees.invariant in
    let lt : at < length table.settings.trees = omega (arith, c.trees-test.true, ap length c.as_slice-trees.ensures) in
    let is : tree ≡ get_or table.settings.trees at tree = c.index-trees-at.is ∙ ap (λ xs. get_or xs at tree) c.as_slice-trees.ensures in
    let next = sym i.rest ∙ c.in-Some.ensures.items in
    record {
      rest = sym (drop_next c.args.merged.items (into_iter_items c.next.new.self) c.in-Some.docs at next);
      size =
          let was = i.size in
          let gone = c.in-Some.ensures.len in
          let short = ap length c.in-Some.ensures.items in
          omega arith;
      these = λ t m.
          (let os = in_rows table t in
          let one = zip_next (IsMerged os) table.settings.trees c.args.merged.items (into_iter_items c.next.new.self) c.in-Some.docs at tree m.each next lt is in
          let g = c.in-Ok.ensures os one in
          let so_far = i.these t m in
          record {
            nodes = grown_more (λ x. nodes_of os (Some x)) trees at tree (each_bytes c.trees.grown.nodes.items) (each_bytes c.push_tree.new.grown.nodes.items) (nodes_section (length c.in-Ok.tree.docs.docs) c.in-Ok.tree.nodes) c.trees-test.true c.index-trees-at.is
                (ap (λ p. nodes_section (length p.1) p.0) g.are) so_far.nodes c.in_ok-push_tree.ensures.nodes;
            stars = grown_more (λ x. star_of os (Some x)) trees at tree (each_bytes c.trees.grown.stars.items) (each_bytes c.push_tree.new.grown.stars.items) (doc_bytes c.in-Ok.tree.docs.docs) c.trees-test.true c.index-trees-at.is
                (ap (λ p. doc_bytes p.1) g.are) so_far.stars c.in_ok-push_tree.ensures.stars;
            fits = fits_more os trees at tree c.trees-test.true c.index-trees-at.is so_far.fits g.fits;
          });
    }

pub returns-in-Err-TooLarge : goal.returns-in-Err-TooLarge
returns-in-Err-TooLarge c = λ t m.
    let table = c.args.table.now in
    let os = in_rows table t in
    let at = c.trees.at in
    let tree : TreeSetting = c.index-trees-at.result in
    let lt : at < length table.settings.trees = omega (arith, c.trees-test.true, ap length c.as_slice-trees.ensures) in
    let is : tree ≡ get_or table.settings.trees at tree = c.index-trees-at.is ∙ ap (λ xs. get_or xs at tree) c.as_slice-trees.ensures in
    let one = zip_next (IsMerged os) table.settings.trees c.args.merged.items (into_iter_items c.next.new.self) c.in-Some.docs at tree m.each
    (sym c.trees.invariant.rest ∙ c.in-Some.ensures.items) lt is in
    record {
      nodes = tt;
      stars = tt;
      built = record {
        fits = tt;
        too_large = λ n e.
            (let same : at ≡ n = cc in
            subst (IsTooLarge table (rows_of t)) same (record {
              before = subst (λ xs. All (TreeFits os) (take at xs)) c.as_slice-trees.ensures (c.trees.invariant.these t m).fits;
              tree = tree;
              at = slice_get-get_or table.settings.trees at tree lt ∙ ap Some (sym is);
              over = (c.in-Err-TooLarge.ensures os one).too_large cc;
            }));
        only = inr (at, refl);
      };
    }

pub returns : goal.returns
returns c = λ t m.
    let table = c.args.table.now in
    let os = in_rows table t in
    let trees : List TreeSetting = c.as_slice-trees.result.now in
    let all : take c.trees.at trees ≡ table.settings.trees = take_all c.trees.at trees (omega (arith, c.trees-test.false)) ∙ c.as_slice-trees.ensures in
    let h = c.trees.invariant.these t m in
    record {
      nodes = h.nodes ∙ ap (nodes_grown os) all;
      stars = h.stars ∙ ap (stars_grown os) all;
      built = record { fits = subst (All (TreeFits os)) all h.fits; too_large = tt; only = tt };
    }
