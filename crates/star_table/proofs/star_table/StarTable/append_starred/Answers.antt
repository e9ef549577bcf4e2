use Rattle.std.proofs.Common.{◌≡◌, ◌++◌, length, sym, ap, ◌∙◌, arith}
use Rattle.std.proofs.Common.{length-append}
use Rattle.agg_laws.specs.Rows.{merged_rows}
use Rattle.agg_laws.specs.Merged.{rekey}
use Rattle.agg_laws.specs.Tree.{set_star, merged_docs}
use Rattle.state_columns.specs.Region.{range}
use Rattle.state_columns.proofs.ListLemmas.{merged_fewer, length-rekey, range_length}
use Rattle.state_columns.proofs.RegionLemmas.{length-docs_in}
use Rattle.star_table.proofs.star_table.StarTable.append_starred.Goals as goal
use Rattle.star_table.proofs.star_table.StarTable.append_starred.Goals.{in-Some}
use Rattle.star_table.proofs.star_table.StarTable.append_starred.Goals.{in-None+in_ok-order-in-None}

pub overflow_sub-result : goal.overflow_sub-result
overflow_sub-result c =
    let docs = c.args.self.now.docs in
    let whole = merged_docs merged_rows
    (rekey (set_star c.args.level) (range c.args.start c.args.end docs)) in
    let s = c.self.inside in
    let n : s.count ≡ length docs =
    sym (length-docs_in s.count s.dims s.ids.items s.columns.items)
    ∙ ap (λ v. length v.docs) c.self.view_is in
    let is : c.match-branch-3.self.docs ≡ docs ++ whole = elim c.match-branch-3.branch [
      | in-Some w ↦ ap (λ t. t.docs) (w.self-is ∙ w.append_groups.ensures)
      | in-None+in_ok-order-in-None w ↦ ap (λ t. t.docs) (w.self-is ∙ w.append_ordered.ensures)
    ] in
    let u = c.self-2.inside in
    let v : u.count ≡ length c.match-branch-3.self.docs =
    sym (length-docs_in u.count u.dims u.ids.items u.columns.items)
    ∙ ap (λ v. length v.docs) c.self-2.view_is in
    let l = ap length is ∙ length-append docs whole in
    omega (arith, v, l, n)

pub overflow_cast-result : goal.overflow_cast-result
overflow_cast-result c =
    let docs = c.args.self.now.docs in
    let whole = merged_docs merged_rows
    (rekey (set_star c.args.level) (range c.args.start c.args.end docs)) in
    let s = c.self.inside in
    let n : s.count ≡ length docs =
    sym (length-docs_in s.count s.dims s.ids.items s.columns.items)
    ∙ ap (λ v. length v.docs) c.self.view_is in
    let is : c.match-branch-3.self.docs ≡ docs ++ whole = elim c.match-branch-3.branch [
      | in-Some w ↦ ap (λ t. t.docs) (w.self-is ∙ w.append_groups.ensures)
      | in-None+in_ok-order-in-None w ↦ ap (λ t. t.docs) (w.self-is ∙ w.append_ordered.ensures)
    ] in
    let u = c.self-2.inside in
    let v : u.count ≡ length c.match-branch-3.self.docs =
    sym (length-docs_in u.count u.dims u.ids.items u.columns.items)
    ∙ ap (λ v. length v.docs) c.self-2.view_is in
    let l = ap length is ∙ length-append docs whole in
    let rows = range c.args.start c.args.end docs in
    let f = merged_fewer merged_rows (rekey (set_star c.args.level) rows) in
    let k = length-rekey merged_rows (set_star c.args.level) rows in
    let r = range_length merged_rows c.args.start c.args.end docs
    (omega (arith, c.requires.order)) c.requires.within in
    omega (arith, v, l, n, f, k, r, c.ranges.end.fits)

pub returns-clause-count : goal.returns-clause-count
returns-clause-count c =
    let docs = c.args.self.now.docs in
    let whole = merged_docs merged_rows
    (rekey (set_star c.args.level) (range c.args.start c.args.end docs)) in
    let s = c.self.inside in
    let n : s.count ≡ length docs =
    sym (length-docs_in s.count s.dims s.ids.items s.columns.items)
    ∙ ap (λ v. length v.docs) c.self.view_is in
    let is : c.match-branch-3.self.docs ≡ docs ++ whole = elim c.match-branch-3.branch [
      | in-Some w ↦ ap (λ t. t.docs) (w.self-is ∙ w.append_groups.ensures)
      | in-None+in_ok-order-in-None w ↦ ap (λ t. t.docs) (w.self-is ∙ w.append_ordered.ensures)
    ] in
    let u = c.self-2.inside in
    let v : u.count ≡ length c.match-branch-3.self.docs =
    sym (length-docs_in u.count u.dims u.ids.items u.columns.items)
    ∙ ap (λ v. length v.docs) c.self-2.view_is in
    let l = ap length is ∙ length-append docs whole in
    omega (arith, v, l, n)
