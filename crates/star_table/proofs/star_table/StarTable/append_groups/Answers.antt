use Rattle.std.proofs.Common.{◌≡◌, ◌+◌, ◌-◌, ◌<◌, ◌++◌, All, List, length, map, get_or, sym}
use Rattle.std.proofs.Common.{ap, subst, ◌∙◌, arith, length-append}
use Rattle.agg_laws.specs.Numbers.{most_stored}
use Rattle.agg_laws.specs.Rows.{merged_rows, row_weight}
use Rattle.state_columns.specs.Packing.{place}
use Rattle.state_columns.specs.Docs.{Doc, doc_at}
use Rattle.state_columns.specs.Grouping.{entry_of, key_of, starred_docs, with_states}
use Rattle.agg_laws.specs.Merged.{rekey}
use Rattle.agg_laws.specs.Tree.{merged_docs, set_star}
use Rattle.state_columns.specs.Region.{range}
use Rattle.state_columns.proofs.RegionLemmas.{length-docs_in, any_default}
use Rattle.star_table.proofs.GroupMerge as steps
use Rattle.star_table.proofs.star_table.StarTable.append_groups.Goals as goal

pub append_firsts-requires-clause-there : goal.append_firsts-requires-clause-there
append_firsts-requires-clause-there c =
    let docs = c.args.self.now.docs in
    let g = c.args.groups.now in
    subst (All (λ i. i < length docs)) (sym c.as_slice.ensures.value)
    (steps.firsts_in c.args.level c.args.start c.args.end docs c.requires.range.order c.requires.range.within
    g.firsts.items g.slots.items g.others.items c.requires.groups)

pub append_firsts-requires-clause-spare : goal.append_firsts-requires-clause-spare
append_firsts-requires-clause-spare c =
    let docs = c.args.self.now.docs in
    let g = c.args.groups.now in
    let at_most = steps.firsts_few c.args.level c.args.start c.args.end docs c.requires.range.order
    c.requires.range.within g.firsts.items g.slots.items g.others.items c.requires.groups in
    let v = ap length c.as_slice.ensures.value in
    omega (arith, at_most, v, c.requires.range.spare)

pub loop-i-init : goal.loop-i-init
loop-i-init c =
    let docs = c.args.self.now.docs in
    let level = c.args.level in
    let g = c.args.groups.now in
    let begun = steps.begun level c.args.start c.args.end docs c.requires.range.order c.requires.range.within
    g.firsts.items g.slots.items g.others.items c.requires.groups in
    let at_most = steps.firsts_few level c.args.start c.args.end docs c.requires.range.order
    c.requires.range.within g.firsts.items g.slots.items g.others.items c.requires.groups in
    let v = c.as_slice.ensures.value in
    let s = ap (λ t. t.spare) c.append_firsts.ensures in
    let w = ap length v in
    record {
      docs = ap (λ t. t.docs) c.append_firsts.ensures
          ∙ ap (λ l. docs ++ starred_docs level docs l) v
          ∙ ap (λ l. docs ++ l) (sym begun);
      keys = ap (map (λ (e : Doc). e.0)) begun;
      room = omega (arith, s, w, at_most, c.requires.range.spare);
      dims = ap (λ t. t.dims) c.append_firsts.ensures;
      kinds = ap (λ t. t.kinds) c.append_firsts.ensures;
    }

pub merge_at-requires-clause-into : goal.merge_at-requires-clause-into
merge_at-requires-clause-into c =
    let docs = c.args.self.now.docs in
    let level = c.args.level in
    let start = c.args.start in
    let end = c.args.end in
    let g = c.args.groups.now in
    let fs = g.firsts.items in
    let ss = g.slots.items in
    let os = g.others.items in
    let i = c.loop-i.i in
    let keys = c.loop-i.invariant.keys in
    let lt : i < length os = omega (arith, c.loop-i-test.true, c.len-i-end.ensures, g.others.ok.0) in
    let n : c.self.inside.count ≡ length docs = sym (length-docs_in c.self.inside.count
    c.self.inside.dims c.self.inside.ids.items c.self.inside.columns.items)
    ∙ ap (λ v. length v.docs) c.self.view_is in
    let w : c.index-word.result.now ≡ get_or os i 0 = c.index-word.ensures
    ∙ any_default os i c.index-word.result.now 0 lt in
    let some = steps.some_slot level start end docs c.requires.range.order c.requires.range.within fs ss os
    c.requires.groups i lt keys in
    let d = c.index-slot.result.now in
    let slot : d ≡ entry_of ss (get_or os i 0) = c.index-slot.ensures
    ∙ ap (λ k. get_or ss k d) (c.word_key.ensures ∙ ap key_of w)
    ∙ any_default ss (key_of (get_or os i 0)) d 0 (steps.inside ss (key_of (get_or os i 0)) some) in
    let j = entry_of ss (get_or os i 0) - 1 in
    let into = c.self.inside.count + d - 1 in
    let there : into ≡ length docs + j = omega (arith, n, slot, some) in
    let inv = c.loop-i.invariant.docs in
    let small = steps.in_firsts level start end docs c.requires.range.order c.requires.range.within fs ss os
    c.requires.groups i lt keys in
    let lengths = steps.lengths level start end docs c.requires.range.order c.requires.range.within fs ss os
    c.requires.groups i lt keys in
    let l = ap length inv ∙ length-append docs (steps.made level start end docs c.requires.range.order
    c.requires.range.within fs ss os c.requires.groups i) in
    omega (arith, there, small, lengths, l)

pub merge_at-requires-clause-from : goal.merge_at-requires-clause-from
merge_at-requires-clause-from c =
    let docs = c.args.self.now.docs in
    let level = c.args.level in
    let start = c.args.start in
    let end = c.args.end in
    let g = c.args.groups.now in
    let fs = g.firsts.items in
    let ss = g.slots.items in
    let os = g.others.items in
    let i = c.loop-i.i in
    let keys = c.loop-i.invariant.keys in
    let lt : i < length os = omega (arith, c.loop-i-test.true, c.len-i-end.ensures, g.others.ok.0) in
    let n : c.self.inside.count ≡ length docs = sym (length-docs_in c.self.inside.count
    c.self.inside.dims c.self.inside.ids.items c.self.inside.columns.items)
    ∙ ap (λ v. length v.docs) c.self.view_is in
    let w : c.index-word.result.now ≡ get_or os i 0 = c.index-word.ensures
    ∙ any_default os i c.index-word.result.now 0 lt in
    let some = steps.some_slot level start end docs c.requires.range.order c.requires.range.within fs ss os
    c.requires.groups i lt keys in
    let d = c.index-slot.result.now in
    let slot : d ≡ entry_of ss (get_or os i 0) = c.index-slot.ensures
    ∙ ap (λ k. get_or ss k d) (c.word_key.ensures ∙ ap key_of w)
    ∙ any_default ss (key_of (get_or os i 0)) d 0 (steps.inside ss (key_of (get_or os i 0)) some) in
    let j = entry_of ss (get_or os i 0) - 1 in
    let into = c.self.inside.count + d - 1 in
    let there : into ≡ length docs + j = omega (arith, n, slot, some) in
    let fe : c.word_place.result ≡ place start (get_or os i 0) = c.word_place.ensures
    ∙ ap (place start) w in
    let inv = c.loop-i.invariant.docs in
    let low = steps.from_in level start end docs c.requires.range.order c.requires.range.within fs ss os
    c.requires.groups i lt keys in
    let l = ap length inv ∙ length-append docs (steps.made level start end docs c.requires.range.order
    c.requires.range.within fs ss os c.requires.groups i) in
    omega (arith, low, fe, l)

pub merge_at-requires-clause-weight_fits : goal.merge_at-requires-clause-weight_fits
merge_at-requires-clause-weight_fits c =
    let docs = c.args.self.now.docs in
    let level = c.args.level in
    let start = c.args.start in
    let end = c.args.end in
    let g = c.args.groups.now in
    let fs = g.firsts.items in
    let ss = g.slots.items in
    let os = g.others.items in
    let i = c.loop-i.i in
    let keys = c.loop-i.invariant.keys in
    let lt : i < length os = omega (arith, c.loop-i-test.true, c.len-i-end.ensures, g.others.ok.0) in
    let n : c.self.inside.count ≡ length docs = sym (length-docs_in c.self.inside.count
    c.self.inside.dims c.self.inside.ids.items c.self.inside.columns.items)
    ∙ ap (λ v. length v.docs) c.self.view_is in
    let w : c.index-word.result.now ≡ get_or os i 0 = c.index-word.ensures
    ∙ any_default os i c.index-word.result.now 0 lt in
    let some = steps.some_slot level start end docs c.requires.range.order c.requires.range.within fs ss os
    c.requires.groups i lt keys in
    let d = c.index-slot.result.now in
    let slot : d ≡ entry_of ss (get_or os i 0) = c.index-slot.ensures
    ∙ ap (λ k. get_or ss k d) (c.word_key.ensures ∙ ap key_of w)
    ∙ any_default ss (key_of (get_or os i 0)) d 0 (steps.inside ss (key_of (get_or os i 0)) some) in
    let j = entry_of ss (get_or os i 0) - 1 in
    let into = c.self.inside.count + d - 1 in
    let there : into ≡ length docs + j = omega (arith, n, slot, some) in
    let fe : c.word_place.result ≡ place start (get_or os i 0) = c.word_place.ensures
    ∙ ap (place start) w in
    let inv = c.loop-i.invariant.docs in
    let weight_fits = steps.still_light level start end docs c.requires.range.order c.requires.range.within fs ss os
    c.requires.groups i lt keys into there most_stored c.requires.range.weight_fits in
    let a = ap (λ (ds : List Doc). row_weight (doc_at ds into).1) inv in
    let b : row_weight (doc_at c.loop-i.self.docs c.word_place.result).1
    ≡ row_weight (doc_at (docs ++ steps.made level start end docs c.requires.range.order
    c.requires.range.within fs ss os c.requires.groups i) (place start (get_or os i 0))).1 =
    (λ k. row_weight (doc_at (inv k) (fe k)).1) in
    omega (arith, weight_fits, a, b)

pub loop-i-preserved : goal.loop-i-preserved
loop-i-preserved c =
    let docs = c.args.self.now.docs in
    let level = c.args.level in
    let start = c.args.start in
    let end = c.args.end in
    let g = c.args.groups.now in
    let fs = g.firsts.items in
    let ss = g.slots.items in
    let os = g.others.items in
    let i = c.loop-i.i in
    let keys = c.loop-i.invariant.keys in
    let lt : i < length os = omega (arith, c.loop-i-test.true, c.len-i-end.ensures, g.others.ok.0) in
    let n : c.self.inside.count ≡ length docs = sym (length-docs_in c.self.inside.count
    c.self.inside.dims c.self.inside.ids.items c.self.inside.columns.items)
    ∙ ap (λ v. length v.docs) c.self.view_is in
    let w : c.index-word.result.now ≡ get_or os i 0 = c.index-word.ensures
    ∙ any_default os i c.index-word.result.now 0 lt in
    let some = steps.some_slot level start end docs c.requires.range.order c.requires.range.within fs ss os
    c.requires.groups i lt keys in
    let d = c.index-slot.result.now in
    let slot : d ≡ entry_of ss (get_or os i 0) = c.index-slot.ensures
    ∙ ap (λ k. get_or ss k d) (c.word_key.ensures ∙ ap key_of w)
    ∙ any_default ss (key_of (get_or os i 0)) d 0 (steps.inside ss (key_of (get_or os i 0)) some) in
    let j = entry_of ss (get_or os i 0) - 1 in
    let into = c.self.inside.count + d - 1 in
    let there : into ≡ length docs + j = omega (arith, n, slot, some) in
    let fe : c.word_place.result ≡ place start (get_or os i 0) = c.word_place.ensures
    ∙ ap (place start) w in
    let inv = c.loop-i.invariant.docs in
    let s = ap (λ t. t.spare) c.merge_at.ensures in
    record {
      docs = ap (λ t. t.docs) c.merge_at.ensures
          ∙ (λ k. with_states into (merged_rows (doc_at (inv k) into).1
          (doc_at (inv k) (fe k)).1) (inv k))
          ∙ steps.next_docs level start end docs c.requires.range.order c.requires.range.within fs ss os
          c.requires.groups i lt keys into there;
      keys = steps.next_keys level start end docs c.requires.range.order c.requires.range.within fs ss os
          c.requires.groups i lt keys;
      room = omega (arith, s, c.loop-i.invariant.room);
      dims = ap (λ t. t.dims) c.merge_at.ensures ∙ c.loop-i.invariant.dims;
      kinds = ap (λ t. t.kinds) c.merge_at.ensures ∙ c.loop-i.invariant.kinds;
    }

pub returns : goal.returns
returns c =
    let docs = c.args.self.now.docs in
    let level = c.args.level in
    let g = c.args.groups.now in
    let i = c.loop-i.i in
    let e : i ≡ length g.others.items = omega (
      arith,
      c.loop-i.auto.i-end,
      c.loop-i-test.false,
      c.len-i-end.ensures,
      g.others.ok.0,
    ) in
    let ended = steps.ended level c.args.start c.args.end docs c.requires.range.order c.requires.range.within
    g.firsts.items g.slots.items g.others.items c.requires.groups i e in
    let at_most = steps.firsts_few level c.args.start c.args.end docs c.requires.range.order
    c.requires.range.within g.firsts.items g.slots.items g.others.items c.requires.groups in
    let lengths = steps.as_long level c.args.start c.args.end docs c.requires.range.order c.requires.range.within
    g.firsts.items g.slots.items g.others.items c.requires.groups i c.loop-i.invariant.keys in
    let whole = merged_docs merged_rows
    (rekey (set_star level) (range c.args.start c.args.end docs)) in
    let k = ap length ended in
    let spare : c.loop-i.self.spare ≡ c.args.self.now.spare - length whole =
    omega (arith, c.loop-i.invariant.room, lengths, k) in
    λ j. record {
      dims = c.loop-i.invariant.dims j;
      kinds = c.loop-i.invariant.kinds j;
      docs = (c.loop-i.invariant.docs ∙ ap (λ x. docs ++ x) ended) j;
      spare = spare j;
    }
