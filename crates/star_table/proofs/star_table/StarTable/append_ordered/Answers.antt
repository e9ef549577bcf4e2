use Rattle.std.proofs.Common.{◌≡◌, ℕ, ◌-◌, ◌<◌, ◌≤◌, ◌++◌, List, length, take, drop, get_or, sym}
use Rattle.std.proofs.Common.{refl, ap, ◌∙◌, arith, length-append}
use Rattle.std.specs.Ordering.{is_gt}
use Rattle.std.specs.FinMap.{is_sorted}
use Rattle.std.proofs.Math.Seq.{take-length}
use Rattle.agg_laws.specs.Numbers.{most_stored}
use Rattle.agg_laws.specs.Rows.{merged_rows, row_weight}
use Rattle.agg_laws.specs.Merged.{total, add, rekey, weights}
use Rattle.agg_laws.specs.Tree.{dims_order, set_star, merged_docs}
use Rattle.state_columns.specs.Docs.{Doc, doc_at}
use Rattle.state_columns.specs.Region.{range}
use Rattle.state_columns.proofs.RegionLemmas.{length-docs_in}
use Rattle.star_table.proofs.TotalSteps.{doc_before}
use Rattle.star_table.proofs.StarSteps as steps
use Rattle.star_table.proofs.star_table.StarTable.append_ordered.Goals as goal

pub add_starred-requires-clause-from : goal.add_starred-requires-clause-from
add_starred-requires-clause-from c =
    let t = c.args.self.now in
    let docs = t.docs in
    let s = c.self.inside in
    let level = c.args.level in
    let order = c.args.order.now in
    let perm = c.requires.all in
    let le : c.args.start ≤ c.args.end = omega (arith, c.requires.range.order) in
    let n : s.count ≡ length docs =
    sym (length-docs_in s.count s.dims s.ids.items s.columns.items)
    ∙ ap (λ v. length v.docs) c.self.view_is in
    let i = c.loop-i.i in
    let lengths = steps.order_length level c.args.start c.args.end docs le c.requires.range.within order
    perm in
    let m = merged_docs merged_rows (steps.starred_at level docs (take i order)) in
    let lt : i < length order =
    omega (arith, c.loop-i-test.true) in
    let at : (get_or order i 0) ≡ get_or order i 0 = refl in
    let in' : get_or order i 0 < length docs = let b =
    steps.below level c.args.start c.args.end docs le c.requires.range.within order perm i 0 lt
    in omega (arith, b, c.requires.range.within) in
    let own : doc_at c.loop-i.self.docs (get_or order i 0)
    ≡ doc_at docs (get_or order i 0) = (λ j. doc_at (c.loop-i.invariant.docs j) (at j))
    ∙ doc_before docs m (get_or order i 0) in' in
    let after : drop s.count c.loop-i.self.docs ≡ m = (λ j. drop (n j) (c.loop-i.invariant.docs j))
    ∙ steps.drop_own docs m in
    let first : take s.count c.loop-i.self.docs
    ≡ docs = (λ j. take (n j) (c.loop-i.invariant.docs j)) ∙ steps.take_own docs m in
    omega (arith, at, in', n)

pub add_starred-requires-clause-before : goal.add_starred-requires-clause-before
add_starred-requires-clause-before c =
    let t = c.args.self.now in
    let docs = t.docs in
    let s = c.self.inside in
    let level = c.args.level in
    let order = c.args.order.now in
    let perm = c.requires.all in
    let le : c.args.start ≤ c.args.end = omega (arith, c.requires.range.order) in
    let n : s.count ≡ length docs =
    sym (length-docs_in s.count s.dims s.ids.items s.columns.items)
    ∙ ap (λ v. length v.docs) c.self.view_is in
    let i = c.loop-i.i in
    let lengths = steps.order_length level c.args.start c.args.end docs le c.requires.range.within order
    perm in
    let m = merged_docs merged_rows (steps.starred_at level docs (take i order)) in
    let l = ap length c.loop-i.invariant.docs ∙ length-append docs m in
    omega (arith, l, n)

pub add_starred-requires-clause-spare : goal.add_starred-requires-clause-spare
add_starred-requires-clause-spare c =
    let t = c.args.self.now in
    let docs = t.docs in
    let s = c.self.inside in
    let level = c.args.level in
    let order = c.args.order.now in
    let perm = c.requires.all in
    let le : c.args.start ≤ c.args.end = omega (arith, c.requires.range.order) in
    let n : s.count ≡ length docs =
    sym (length-docs_in s.count s.dims s.ids.items s.columns.items)
    ∙ ap (λ v. length v.docs) c.self.view_is in
    let i = c.loop-i.i in
    let lengths = steps.order_length level c.args.start c.args.end docs le c.requires.range.within order
    perm in
    let m = merged_docs merged_rows (steps.starred_at level docs (take i order)) in
    let lt : i < length order =
    omega (arith, c.loop-i-test.true) in
    let at : (get_or order i 0) ≡ get_or order i 0 = refl in
    let in' : get_or order i 0 < length docs = let b =
    steps.below level c.args.start c.args.end docs le c.requires.range.within order perm i 0 lt
    in omega (arith, b, c.requires.range.within) in
    let own : doc_at c.loop-i.self.docs (get_or order i 0)
    ≡ doc_at docs (get_or order i 0) = (λ j. doc_at (c.loop-i.invariant.docs j) (at j))
    ∙ doc_before docs m (get_or order i 0) in' in
    let after : drop s.count c.loop-i.self.docs ≡ m = (λ j. drop (n j) (c.loop-i.invariant.docs j))
    ∙ steps.drop_own docs m in
    let first : take s.count c.loop-i.self.docs
    ≡ docs = (λ j. take (n j) (c.loop-i.invariant.docs j)) ∙ steps.take_own docs m in
    let l = ap length c.loop-i.invariant.docs ∙ length-append docs m in
    let f = steps.fewer level c.args.start c.args.end docs le c.requires.range.within order perm i
    (omega (arith, lt)) in
    omega (arith, l, f, lt, lengths, c.loop-i.invariant.room, c.requires.range.spare)

pub add_starred-requires-clause-weight_fits : goal.add_starred-requires-clause-weight_fits
add_starred-requires-clause-weight_fits c =
    let t = c.args.self.now in
    let docs = t.docs in
    let s = c.self.inside in
    let level = c.args.level in
    let order = c.args.order.now in
    let perm = c.requires.all in
    let le : c.args.start ≤ c.args.end = omega (arith, c.requires.range.order) in
    let n : s.count ≡ length docs =
    sym (length-docs_in s.count s.dims s.ids.items s.columns.items)
    ∙ ap (λ v. length v.docs) c.self.view_is in
    let i = c.loop-i.i in
    let lengths = steps.order_length level c.args.start c.args.end docs le c.requires.range.within order
    perm in
    let m = merged_docs merged_rows (steps.starred_at level docs (take i order)) in
    let lt : i < length order =
    omega (arith, c.loop-i-test.true) in
    let at : (get_or order i 0) ≡ get_or order i 0 = refl in
    let in' : get_or order i 0 < length docs = let b =
    steps.below level c.args.start c.args.end docs le c.requires.range.within order perm i 0 lt
    in omega (arith, b, c.requires.range.within) in
    let own : doc_at c.loop-i.self.docs (get_or order i 0)
    ≡ doc_at docs (get_or order i 0) = (λ j. doc_at (c.loop-i.invariant.docs j) (at j))
    ∙ doc_before docs m (get_or order i 0) in' in
    let after : drop s.count c.loop-i.self.docs ≡ m = (λ j. drop (n j) (c.loop-i.invariant.docs j))
    ∙ steps.drop_own docs m in
    let first : take s.count c.loop-i.self.docs
    ≡ docs = (λ j. take (n j) (c.loop-i.invariant.docs j)) ∙ steps.take_own docs m in
    let weight_fits = steps.weight_fits level c.args.start c.args.end docs le c.requires.range.within order perm i lt
    most_stored c.requires.range.weight_fits in
    let a : weights row_weight (drop s.count c.loop-i.self.docs)
    ≡ weights row_weight m = ap (weights row_weight) after in
    let b : row_weight (doc_at c.loop-i.self.docs (get_or order i 0)).1
    ≡ row_weight (doc_at docs (get_or order i 0)).1 = ap (λ (e : Doc). row_weight e.1) own in
    omega (arith, weight_fits, a, b)

pub add_starred-requires-clause-ascending : goal.add_starred-requires-clause-ascending
add_starred-requires-clause-ascending c =
    let t = c.args.self.now in
    let docs = t.docs in
    let s = c.self.inside in
    let level = c.args.level in
    let order = c.args.order.now in
    let perm = c.requires.all in
    let le : c.args.start ≤ c.args.end = omega (arith, c.requires.range.order) in
    let n : s.count ≡ length docs =
    sym (length-docs_in s.count s.dims s.ids.items s.columns.items)
    ∙ ap (λ v. length v.docs) c.self.view_is in
    let i = c.loop-i.i in
    let lengths = steps.order_length level c.args.start c.args.end docs le c.requires.range.within order
    perm in
    let m = merged_docs merged_rows (steps.starred_at level docs (take i order)) in
    let lt : i < length order =
    omega (arith, c.loop-i-test.true) in
    let at : (get_or order i 0) ≡ get_or order i 0 = refl in
    let in' : get_or order i 0 < length docs = let b =
    steps.below level c.args.start c.args.end docs le c.requires.range.within order perm i 0 lt
    in omega (arith, b, c.requires.range.within) in
    let own : doc_at c.loop-i.self.docs (get_or order i 0)
    ≡ doc_at docs (get_or order i 0) = (λ j. doc_at (c.loop-i.invariant.docs j) (at j))
    ∙ doc_before docs m (get_or order i 0) in' in
    let after : drop s.count c.loop-i.self.docs ≡ m = (λ j. drop (n j) (c.loop-i.invariant.docs j))
    ∙ steps.drop_own docs m in
    let first : take s.count c.loop-i.self.docs
    ≡ docs = (λ j. take (n j) (c.loop-i.invariant.docs j)) ∙ steps.take_own docs m in
    ap (is_sorted dims_order) after
    ∙ steps.ascending level c.args.start c.args.end docs le c.requires.range.within order perm i

pub add_starred-requires-clause-none_above : goal.add_starred-requires-clause-none_above
add_starred-requires-clause-none_above c =
    let t = c.args.self.now in
    let docs = t.docs in
    let s = c.self.inside in
    let level = c.args.level in
    let order = c.args.order.now in
    let perm = c.requires.all in
    let le : c.args.start ≤ c.args.end = omega (arith, c.requires.range.order) in
    let n : s.count ≡ length docs =
    sym (length-docs_in s.count s.dims s.ids.items s.columns.items)
    ∙ ap (λ v. length v.docs) c.self.view_is in
    let i = c.loop-i.i in
    let lengths = steps.order_length level c.args.start c.args.end docs le c.requires.range.within order
    perm in
    let m = merged_docs merged_rows (steps.starred_at level docs (take i order)) in
    let lt : i < length order =
    omega (arith, c.loop-i-test.true) in
    let at : (get_or order i 0) ≡ get_or order i 0 = refl in
    let in' : get_or order i 0 < length docs = let b =
    steps.below level c.args.start c.args.end docs le c.requires.range.within order perm i 0 lt
    in omega (arith, b, c.requires.range.within) in
    let own : doc_at c.loop-i.self.docs (get_or order i 0)
    ≡ doc_at docs (get_or order i 0) = (λ j. doc_at (c.loop-i.invariant.docs j) (at j))
    ∙ doc_before docs m (get_or order i 0) in' in
    let after : drop s.count c.loop-i.self.docs ≡ m = (λ j. drop (n j) (c.loop-i.invariant.docs j))
    ∙ steps.drop_own docs m in
    let first : take s.count c.loop-i.self.docs
    ≡ docs = (λ j. take (n j) (c.loop-i.invariant.docs j)) ∙ steps.take_own docs m in
    (λ j. total merged_rows (λ x. is_gt (dims_order x (set_star level (own j).0))) (after j))
    ∙ steps.low level c.args.start c.args.end docs le c.requires.range.within order perm i lt
    (steps.sorted_docs level docs order c.requires.ascending)

pub loop-i-preserved : goal.loop-i-preserved
loop-i-preserved c =
    let t = c.args.self.now in
    let docs = t.docs in
    let s = c.self.inside in
    let level = c.args.level in
    let order = c.args.order.now in
    let perm = c.requires.all in
    let le : c.args.start ≤ c.args.end = omega (arith, c.requires.range.order) in
    let n : s.count ≡ length docs =
    sym (length-docs_in s.count s.dims s.ids.items s.columns.items)
    ∙ ap (λ v. length v.docs) c.self.view_is in
    let i = c.loop-i.i in
    let lengths = steps.order_length level c.args.start c.args.end docs le c.requires.range.within order
    perm in
    let m = merged_docs merged_rows (steps.starred_at level docs (take i order)) in
    let lt : i < length order =
    omega (arith, c.loop-i-test.true) in
    let at : (get_or order i 0) ≡ get_or order i 0 = refl in
    let in' : get_or order i 0 < length docs = let b =
    steps.below level c.args.start c.args.end docs le c.requires.range.within order perm i 0 lt
    in omega (arith, b, c.requires.range.within) in
    let own : doc_at c.loop-i.self.docs (get_or order i 0)
    ≡ doc_at docs (get_or order i 0) = (λ j. doc_at (c.loop-i.invariant.docs j) (at j))
    ∙ doc_before docs m (get_or order i 0) in' in
    let after : drop s.count c.loop-i.self.docs ≡ m = (λ j. drop (n j) (c.loop-i.invariant.docs j))
    ∙ steps.drop_own docs m in
    let first : take s.count c.loop-i.self.docs
    ≡ docs = (λ j. take (n j) (c.loop-i.invariant.docs j)) ∙ steps.take_own docs m in
    record {
      docs = c.add_starred.ensures.docs
          ∙ (λ j. first j ++ add dims_order merged_rows (set_star level (own j).0) (own j).1
          (after j))
          ∙ ap (λ l. docs ++ l)
          (steps.next level c.args.start c.args.end docs le c.requires.range.within order perm i lt);
      room = c.add_starred.ensures.room ∙ c.loop-i.invariant.room;
      dims = c.add_starred.ensures.dims ∙ c.loop-i.invariant.dims;
      kinds = c.add_starred.ensures.kinds ∙ c.loop-i.invariant.kinds;
    }

pub returns : goal.returns
returns c =
    let t = c.args.self.now in
    let docs = t.docs in
    let s = c.self.inside in
    let level = c.args.level in
    let order = c.args.order.now in
    let perm = c.requires.all in
    let le : c.args.start ≤ c.args.end = omega (arith, c.requires.range.order) in
    let n : s.count ≡ length docs =
    sym (length-docs_in s.count s.dims s.ids.items s.columns.items)
    ∙ ap (λ v. length v.docs) c.self.view_is in
    let i = c.loop-i.i in
    let lengths = steps.order_length level c.args.start c.args.end docs le c.requires.range.within order
    perm in
    let m = merged_docs merged_rows (steps.starred_at level docs (take i order)) in
    let end : i ≡ length order =
    omega (
      arith,
      c.loop-i.auto.i-end,
      c.loop-i-test.false,
    ) in
    let whole = merged_docs merged_rows
    (rekey (set_star level) (range c.args.start c.args.end docs)) in
    let same : m ≡ whole =
    ap (λ (l : List ℕ). merged_docs merged_rows (steps.starred_at level docs l))
    (ap (λ k. take k order) end ∙ take-length order)
    ∙ steps.same_merged level c.args.start c.args.end docs le c.requires.range.within order perm in
    let l = ap length c.loop-i.invariant.docs ∙ length-append docs m in
    let k = ap length same in
    let spare : c.loop-i.self.spare
    ≡ t.spare - length whole = omega (arith, l, k, c.loop-i.invariant.room) in
    λ j. record {
      dims = c.loop-i.invariant.dims j;
      kinds = c.loop-i.invariant.kinds j;
      docs = (c.loop-i.invariant.docs ∙ ap (λ x. docs ++ x) same) j;
      spare = spare j;
    }
