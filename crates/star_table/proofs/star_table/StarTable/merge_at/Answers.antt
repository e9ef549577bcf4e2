use Rattle.std.proofs.Common.{◌≡◌, ◌+◌, ◌<◌, ◌≤◌, ◌++◌, List, length, take, drop, sym}
use Rattle.std.proofs.Common.{ap, subst, ◌∙◌, arith, set}
use Rattle.agg_laws.specs.declared.states.AggState.{AggState}
use Rattle.agg_laws.specs.Numbers.{most_stored, most_values}
use Rattle.agg_laws.specs.Rows.{kinds_of, merged_rows, row_weight, RowFits, RowStored}
use Rattle.state_columns.specs.Docs.{Doc, doc_at}
use Rattle.state_columns.specs.Columns.{row_at, row_replaced, AreColumns}
use Rattle.state_columns.specs.Region.{docs_in}
use Rattle.state_columns.proofs.RegionLemmas as region
use Rattle.state_columns.proofs.RegionSteps as last
use Rattle.star_table.proofs.PlaceSteps as steps
use Rattle.star_table.proofs.star_table.StarTable.merge_at.Goals as goal

pub merge_places-requires-clause-into : goal.merge_places-requires-clause-into
merge_places-requires-clause-into c =
    let t = c.self.inside in
    let l = region.length-docs_in t.count t.dims t.ids.items t.columns.items in
    omega (arith, c.requires.into, ap (λ v. length v.docs) c.self.view_is, l)

pub merge_places-requires-clause-from : goal.merge_places-requires-clause-from
merge_places-requires-clause-from c =
    let t = c.self.inside in
    let l = region.length-docs_in t.count t.dims t.ids.items t.columns.items in
    omega (arith, c.requires.from, ap (λ v. length v.docs) c.self.view_is, l)

pub merge_places-requires-clause-lengths : goal.merge_places-requires-clause-lengths
merge_places-requires-clause-lengths c =
    let t = c.self.inside in
    subst (AreColumns t.count 0) (sym c.as_mut_slice.ensures.value)
    (region.some_room t.count t.spare t.count 0 t.columns.items c.self.invariant.columns_are
    (λ _. t.count) (omega arith))

pub merge_places-requires-clause-fits : goal.merge_places-requires-clause-fits
merge_places-requires-clause-fits c =
    let t = c.self.inside in
    let docs = docs_in t.count t.dims t.ids.items t.columns.items in
    let l = region.length-docs_in t.count t.dims t.ids.items t.columns.items in
    let lt : c.args.into < t.count =
    omega (arith, c.requires.into, ap (λ v. length v.docs) c.self.view_is, l) in
    let n : c.args.from < t.count =
    omega (arith, c.requires.from, ap (λ v. length v.docs) c.self.view_is, l) in
    let in' : c.args.from < length docs = omega (arith, n, l) in
    let at = region.doc_is t.count t.dims t.ids.items t.columns.items c.args.from n in
    let shape = last.shape_at t.dims t.kinds docs c.args.from c.self.invariant.shape in' in
    let zs = row_at t.columns.items c.args.from in
    let kz = sym (ap (λ e. kinds_of e.1) at) ∙ shape.1 in
    let sz = subst RowStored (ap (λ e. e.1) at)
    (last.stored_at docs c.args.from c.self.invariant.stored in') in
    let at_most : row_weight (doc_at docs c.args.into).1 + row_weight zs ≤ most_stored =
    subst (λ (z : List AggState). row_weight (doc_at docs c.args.into).1 + row_weight z
    ≤ most_stored) (ap (λ e. e.1) at)
    (subst (λ (ds : List Doc). row_weight (doc_at ds c.args.into).1
    + row_weight (doc_at ds c.args.from).1 ≤ most_stored) (sym (ap (λ v. v.docs) c.self.view_is))
    c.requires.weight_fits) in
    subst (λ l. RowFits (merged_rows (row_at l c.args.into) (row_at l c.args.from)) most_values)
    (sym c.as_mut_slice.ensures.value)
    (steps.they_fit t.count t.dims t.kinds t.ids.items t.columns.items t.spare _ c.self.invariant
    c.args.into lt zs kz sz at_most)

pub invariant_of-self : goal.invariant_of-self
invariant_of-self c =
    let t = c.self.inside in
    let docs = docs_in t.count t.dims t.ids.items t.columns.items in
    let l = region.length-docs_in t.count t.dims t.ids.items t.columns.items in
    let lt : c.args.into < t.count =
    omega (arith, c.requires.into, ap (λ v. length v.docs) c.self.view_is, l) in
    let n : c.args.from < t.count =
    omega (arith, c.requires.from, ap (λ v. length v.docs) c.self.view_is, l) in
    let in' : c.args.from < length docs = omega (arith, n, l) in
    let at = region.doc_is t.count t.dims t.ids.items t.columns.items c.args.from n in
    let shape = last.shape_at t.dims t.kinds docs c.args.from c.self.invariant.shape in' in
    let zs = row_at t.columns.items c.args.from in
    let kz = sym (ap (λ e. kinds_of e.1) at) ∙ shape.1 in
    let sz = subst RowStored (ap (λ e. e.1) at)
    (last.stored_at docs c.args.from c.self.invariant.stored in') in
    let at_most : row_weight (doc_at docs c.args.into).1 + row_weight zs ≤ most_stored =
    subst (λ (z : List AggState). row_weight (doc_at docs c.args.into).1 + row_weight z
    ≤ most_stored) (ap (λ e. e.1) at)
    (subst (λ (ds : List Doc). row_weight (doc_at ds c.args.into).1
    + row_weight (doc_at ds c.args.from).1 ≤ most_stored) (sym (ap (λ v. v.docs) c.self.view_is))
    c.requires.weight_fits) in
    let ys = merged_rows (row_at t.columns.items c.args.into) zs in
    let made : c.merge_places.new.columns ≡ row_replaced c.args.into t.columns.items ys =
    c.merge_places.ensures
    ∙ ap (λ l. row_replaced c.args.into l (merged_rows (row_at l c.args.into)
    (row_at l c.args.from))) c.as_mut_slice.ensures.value in
    let new : take t.columns.len
    (c.merge_places.new.columns ++ drop (length c.merge_places.new.columns) t.columns.items)
    ≡ row_replaced c.args.into t.columns.items ys =
    last.replaced_back t.columns.len c.args.into c.merge_places.new.columns t.columns.items ys
    (omega (arith, t.columns.ok.0)) made in
    steps.placed_region t.count t.dims t.kinds t.ids.items t.columns.items t.spare _
    c.self.invariant c.args.into lt zs kz sz at_most _ new

pub returns : goal.returns
returns c =
    let t = c.self.inside in
    let docs = docs_in t.count t.dims t.ids.items t.columns.items in
    let l = region.length-docs_in t.count t.dims t.ids.items t.columns.items in
    let lt : c.args.into < t.count =
    omega (arith, c.requires.into, ap (λ v. length v.docs) c.self.view_is, l) in
    let n : c.args.from < t.count =
    omega (arith, c.requires.from, ap (λ v. length v.docs) c.self.view_is, l) in
    let in' : c.args.from < length docs = omega (arith, n, l) in
    let at = region.doc_is t.count t.dims t.ids.items t.columns.items c.args.from n in
    let shape = last.shape_at t.dims t.kinds docs c.args.from c.self.invariant.shape in' in
    let zs = row_at t.columns.items c.args.from in
    let kz = sym (ap (λ e. kinds_of e.1) at) ∙ shape.1 in
    let sz = subst RowStored (ap (λ e. e.1) at)
    (last.stored_at docs c.args.from c.self.invariant.stored in') in
    let at_most : row_weight (doc_at docs c.args.into).1 + row_weight zs ≤ most_stored =
    subst (λ (z : List AggState). row_weight (doc_at docs c.args.into).1 + row_weight z
    ≤ most_stored) (ap (λ e. e.1) at)
    (subst (λ (ds : List Doc). row_weight (doc_at ds c.args.into).1
    + row_weight (doc_at ds c.args.from).1 ≤ most_stored) (sym (ap (λ v. v.docs) c.self.view_is))
    c.requires.weight_fits) in
    let ys = merged_rows (row_at t.columns.items c.args.into) zs in
    let made : c.merge_places.new.columns ≡ row_replaced c.args.into t.columns.items ys =
    c.merge_places.ensures
    ∙ ap (λ l. row_replaced c.args.into l (merged_rows (row_at l c.args.into)
    (row_at l c.args.from))) c.as_mut_slice.ensures.value in
    let new : take t.columns.len
    (c.merge_places.new.columns ++ drop (length c.merge_places.new.columns) t.columns.items)
    ≡ row_replaced c.args.into t.columns.items ys =
    last.replaced_back t.columns.len c.args.into c.merge_places.new.columns t.columns.items ys
    (omega (arith, t.columns.ok.0)) made in
    let all = steps.placed_docs t.count t.dims t.kinds t.ids.items t.columns.items t.spare _
    c.self.invariant c.args.into lt zs kz sz at_most _ new
    ∙ ap (λ (z : List AggState). set docs c.args.into (
      (doc_at docs c.args.into).0,
      merged_rows (doc_at docs c.args.into).1 z,
    )) (sym (ap (λ e. e.1) at))
    ∙ ap (λ (ds : List Doc). set ds c.args.into (
      (doc_at ds c.args.into).0,
      merged_rows (doc_at ds c.args.into).1 (doc_at ds c.args.from).1,
    ))
    (ap (λ v. v.docs) c.self.view_is) in
    λ i. record {
      dims = (c.self.view_is i).dims;
      kinds = (c.self.view_is i).kinds;
      docs = all i;
      spare = (c.self.view_is i).spare;
    }
