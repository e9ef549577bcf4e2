use Rattle.std.proofs.Common.{◌≡◌, ◌∙◌, ◌<◌, ◌+◌, ◌++◌, ◌∷◌, [], ℕ, All, Err, length, map, get_or, sym, ap, subst, arith}
use Rattle.std.proofs.lemmas.List.{length-map}
use Rattle.std.proofs.lemmas.List.FromFn.{map-range_with_len_more}
use Rattle.std.proofs.lemmas.Option.{slice_get-get_or}
use Rattle.std.specs.List.{range_with_len}
use Rattle.std.specs.Prelude.{slice_get, Some}
use Rattle.segment_file.specs.declared.part.Part.TheVariants as parts
use Rattle.segment_file.specs.declared.trees.TreeNodes.{TreeNodes}
use Rattle.segment_file.specs.Reading.{nodes_said, trees_said, count_at}
use Rattle.segment_head.specs.Reading.{NodesStop, heads_read}
use Rattle.segment_file.specs.Rules.{HaveNodes, nodes_in}
use Rattle.segment_file.proofs.Tails.{spelled_length}
use Rattle.segment_file.proofs.Faults.{growth_bad, growth_ok, growth_read}
use Rattle.segment_file.proofs.TreeChecks.{valid_at}
use Rattle.segment_head.proofs.TreeChecks.{bad_nodes, few_dims, have_more, nodes_are, nodes_has, split_known, tree_read}
use Rattle.segment_head.proofs.trees.check_trees.Goals as goal

pub counts_of-requires : goal.counts_of-requires
counts_of-requires c = λ k d within.
    let table = c.args.table.now in
    let tree = c.index-settings-tree.result in
    let lt : c.loop-tree.tree < length table.settings.trees = omega (arith, c.loop-tree-test.true, ap length c.as_slice-settings.ensures) in
    let at : slice_get table.settings.trees c.loop-tree.tree ≡ Some tree = slice_get-get_or table.settings.trees c.loop-tree.tree tree lt ∙ ap Some (sym (c.index-settings-tree.is ∙ ap (λ xs. get_or xs c.loop-tree.tree tree) c.as_slice-settings.ensures)) in
    let all = subst (All (λ x. x < length table.schema.fields)) (sym c.as_slice.ensures) (split_known table c.loop-tree.tree tree c.requires.valid at) in
    let below = all k d within in
    omega (arith, below, spelled_length table c.args.rows (heads_read table c.args.sections.now c.args.bytes.now) c.args.dictionaries.now c.requires.spelled)

pub returns-in-Err : goal.returns-in-Err
returns-in-Err c = record {
  said = tt;
  ok = tt;
  read = λ is. c.of_nodes.ensures.read cc;
  bad = λ p is.
      let table = c.args.table.now in
      let t : ℕ = c.loop-tree.tree in
      let tree = c.index-settings-tree.result in
      let lt : t < length table.settings.trees = omega (arith, c.loop-tree-test.true, ap length c.as_slice-settings.ensures) in
      let read = tree_read table c.args.rows c.args.bytes.now c.section_bytes-bytes.result.now c.deref.result.now c.args.sections.now c.args.dictionaries.now c.loop-tree.tree (c.len-first.result + 1 + c.loop-tree.tree) c.index-sections-first.result tree c.requires.valid c.requires.spelled c.requires.each
      lt (omega (arith, c.len-first.ensures)) c.index-sections-first.is c.section_bytes-bytes.ensures (c.index-settings-tree.is ∙ ap (λ xs. get_or xs c.loop-tree.tree tree) c.as_slice-settings.ensures)
      (c.deref.ensures.value ∙ c.in_ok-counts.ensures ∙ ap (map (count_at c.args.dictionaries.now)) c.as_slice.ensures) in
      let bad = bad_nodes c.in-Err.fault c.of_nodes.result p c.of_nodes.ensures.memory is in
      let both = sym is ∙ c.of_nodes.ensures.bad bad in
      let part : p ≡ parts.Nodes t = cc in
      let not = c.in-Err.ensures.bad (ap Err bad) in
      (t, part, record { tree = lt; before = c.loop-tree.invariant.1; none = λ has. not (nodes_are table c.args.rows (heads_read table c.args.sections.now c.args.bytes.now) t tree c.deref.result.now c.section_bytes-bytes.result.now read has) });
}

pub loop-tree-preserved : goal.loop-tree-preserved
loop-tree-preserved c =
    let table = c.args.table.now in
    let t : ℕ = c.loop-tree.tree in
    let tree = c.index-settings-tree.result in
    let lt : t < length table.settings.trees = omega (arith, c.loop-tree-test.true, ap length c.as_slice-settings.ensures) in
    let read = tree_read table c.args.rows c.args.bytes.now c.section_bytes-bytes.result.now c.deref.result.now c.args.sections.now c.args.dictionaries.now c.loop-tree.tree (c.len-first.result + 1 + c.loop-tree.tree) c.index-sections-first.result tree c.requires.valid c.requires.spelled c.requires.each
    lt (omega (arith, c.len-first.ensures)) c.index-sections-first.is c.section_bytes-bytes.ensures (c.index-settings-tree.is ∙ ap (λ xs. get_or xs c.loop-tree.tree tree) c.as_slice-settings.ensures)
    (c.deref.ensures.value ∙ c.in_ok-counts.ensures ∙ ap (map (count_at c.args.dictionaries.now)) c.as_slice.ensures) in
    let said : ℕ → TreeNodes = λ x. nodes_said (nodes_in table (heads_read table c.args.sections.now c.args.bytes.now) x) in
    let one : c.in-Ok.nodes ≡ said t = c.in-Ok.ensures.said ∙ ap nodes_said read.bytes_are in (
      c.in_ok-keep-in-Ok.ensures ∙ (λ i. c.loop-tree.invariant.0 i ++ one i ∷ []) ∙ sym (map-range_with_len_more said 0 t t (omega arith)),
      have_more table c.args.rows (heads_read table c.args.sections.now c.args.bytes.now) t c.loop-tree.invariant.1 (nodes_has table c.args.rows (heads_read table c.args.sections.now c.args.bytes.now) t tree c.deref.result.now c.section_bytes-bytes.result.now read c.in-Ok.ensures.ok),
    )

pub returns : goal.returns
returns c =
    let table = c.args.table.now in
    let heads = heads_read table c.args.sections.now c.args.bytes.now in
    let all : c.loop-tree.tree ≡ length table.settings.trees = omega (arith, c.loop-tree.auto.tree-end, c.loop-tree-test.false, ap length c.as_slice-settings.ensures) in
    record {
      said = c.loop-tree.invariant.0 ∙ ap (λ n. map (λ t. nodes_said (nodes_in table heads t)) (range_with_len 0 n)) all;
      ok = subst (HaveNodes table c.args.rows heads) all c.loop-tree.invariant.1;
      read = λ is. cc;
      bad = tt;
    }

pub check_tree-requires : goal.check_tree-requires
check_tree-requires c =
    let table = c.args.table.now in
    let tree = c.index-settings-tree.result in
    let lt : c.loop-tree.tree < length table.settings.trees = omega (arith, c.loop-tree-test.true, ap length c.as_slice-settings.ensures) in
    let at : slice_get table.settings.trees c.loop-tree.tree ≡ Some tree = slice_get-get_or table.settings.trees c.loop-tree.tree tree lt ∙ ap Some (sym (c.index-settings-tree.is ∙ ap (λ xs. get_or xs c.loop-tree.tree tree) c.as_slice-settings.ensures)) in
    let at_most = few_dims table c.loop-tree.tree tree c.requires.valid at in
    let valid = valid_at table.schema.fields table.settings.trees c.loop-tree.tree tree c.requires.valid.settings.trees_valid at in
    record {
      few_dims = at_most.0;
      few_kinds = at_most.1;
      counts_are = ap length c.deref.ensures.value ∙ ap length c.in_ok-counts.ensures ∙ length-map c.as_slice.result.now (count_at c.args.dictionaries.now) ∙ ap length c.as_slice.ensures ∙ sym valid.has_dims;
    }

pub overflow_add-first : goal.overflow_add-first
overflow_add-first c = omega (arith, c.len-first.ensures, c.requires.valid.schema.at_most)

pub bounds-sections-first : goal.bounds-sections-first
bounds-sections-first c = omega (arith, c.len-first.ensures, c.requires.each, c.loop-tree-test.true, ap length c.as_slice-settings.ensures)

pub returns-in_err-trees : goal.returns-in_err-trees
returns-in_err-trees c =
    let table = c.args.table.now in
    let heads = heads_read table c.args.sections.now c.args.bytes.now in
    let r = c.from_residual in
    record {
      said = growth_ok (λ trees. trees.items ≡ trees_said table heads) r.result r.ensures;
      ok = growth_ok (λ trees. HaveNodes table c.args.rows heads (length table.settings.trees)) r.result r.ensures;
      read = growth_read r.result r.ensures;
      bad = growth_bad (λ p. (t : ℕ) × (p ≡ parts.Nodes t) × NodesStop table c.args.rows heads t) r.result r.ensures;
    }

pub returns-in_err-counts : goal.returns-in_err-counts
returns-in_err-counts c =
    let table = c.args.table.now in
    let heads = heads_read table c.args.sections.now c.args.bytes.now in
    let r = c.from_residual-in_err-counts in
    record {
      said = growth_ok (λ trees. trees.items ≡ trees_said table heads) r.result r.ensures;
      ok = growth_ok (λ trees. HaveNodes table c.args.rows heads (length table.settings.trees)) r.result r.ensures;
      read = growth_read r.result r.ensures;
      bad = growth_bad (λ p. (t : ℕ) × (p ≡ parts.Nodes t) × NodesStop table c.args.rows heads t) r.result r.ensures;
    }

pub returns-in_err-keep-in-Ok : goal.returns-in_err-keep-in-Ok
returns-in_err-keep-in-Ok c =
    let table = c.args.table.now in
    let heads = heads_read table c.args.sections.now c.args.bytes.now in
    let r = c.from_residual-in_err-keep-in-Ok in
    record {
      said = growth_ok (λ trees. trees.items ≡ trees_said table heads) r.result r.ensures;
      ok = growth_ok (λ trees. HaveNodes table c.args.rows heads (length table.settings.trees)) r.result r.ensures;
      read = growth_read r.result r.ensures;
      bad = growth_bad (λ p. (t : ℕ) × (p ≡ parts.Nodes t) × NodesStop table c.args.rows heads t) r.result r.ensures;
    }
