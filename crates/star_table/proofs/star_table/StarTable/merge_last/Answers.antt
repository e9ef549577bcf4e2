use Rattle.std.proofs.Common.{◌≡◌, ◌+◌, ◌-◌, ◌<◌, ◌≤◌, ◌++◌, ◌∷◌, [], List, length, take, drop, sym}
use Rattle.std.proofs.Common.{ap, subst, ◌∙◌, arith}
use Rattle.agg_laws.specs.declared.states.AggState.{AggState}
use Rattle.agg_laws.specs.Numbers.{most_stored, most_values}
use Rattle.agg_laws.specs.Rows.{kinds_of, merged_rows, row_weight, RowFits, RowStored}
use Rattle.state_columns.specs.Docs.{Doc, doc_at}
use Rattle.state_columns.specs.Columns.{row_at, row_replaced, AreColumns}
use Rattle.state_columns.specs.Region.{docs_in}
use Rattle.state_columns.proofs.RegionLemmas as region
use Rattle.state_columns.proofs.RegionSteps as last
use Rattle.star_table.proofs.star_table.StarTable.merge_last.Goals as goal

pub merge_places-requires-clause-from : goal.merge_places-requires-clause-from
merge_places-requires-clause-from c =
    let t = c.self.inside in
    let docs = docs_in t.count t.dims t.ids.items t.columns.items in
    let l = region.length-docs_in t.count t.dims t.ids.items t.columns.items in
    let more : c.args.from + 1 < t.count =
    omega (arith, c.requires.from, ap (λ v. length v.docs) c.self.view_is, l) in
    omega (arith, more)

pub merge_places-requires-clause-lengths : goal.merge_places-requires-clause-lengths
merge_places-requires-clause-lengths c =
    let t = c.self.inside in
    subst (AreColumns t.count 0) (sym c.as_mut_slice.ensures.value)
    (region.some_room t.count t.spare t.count 0 t.columns.items c.self.invariant.columns_are
    (λ _. t.count) (omega arith))

pub merge_places-requires-clause-fits : goal.merge_places-requires-clause-fits
merge_places-requires-clause-fits c =
    let t = c.self.inside in
    let docs = docs_in t.count t.dims t.ids.items t.columns.items in
    let l = region.length-docs_in t.count t.dims t.ids.items t.columns.items in
    let more : c.args.from + 1 < t.count =
    omega (arith, c.requires.from, ap (λ v. length v.docs) c.self.view_is, l) in
    let some : 0 < t.count = omega (arith, more) in
    let n : c.args.from < t.count = omega (arith, more) in
    let in' : c.args.from < length docs = omega (arith, n, l) in
    let at = region.doc_is t.count t.dims t.ids.items t.columns.items c.args.from n in
    let shape = last.shape_at t.dims t.kinds docs c.args.from c.self.invariant.shape in' in
    let zs = row_at t.columns.items c.args.from in
    let kz = sym (ap (λ e. kinds_of e.1) at) ∙ shape.1 in
    let sz = subst RowStored (ap (λ e. e.1) at)
    (last.stored_at docs c.args.from c.self.invariant.stored in') in
    let weight_fits = λ (front : List Doc) (e : Doc) (is : docs ≡ front ++ (e ∷ [])).
    subst (λ (z : List AggState). row_weight e.1 + row_weight z ≤ most_stored)
    (ap (λ v. (doc_at v.docs c.args.from).1) (sym c.self.view_is) ∙ ap (λ e. e.1) at)
    (c.requires.weight_fits front e (sym (ap (λ v. v.docs) c.self.view_is) ∙ is)) in
    let ys = merged_rows (row_at t.columns.items (t.count - 1)) zs in
    subst (λ l. RowFits (merged_rows (row_at l (t.count - 1)) (row_at l c.args.from)) most_values)
    (sym c.as_mut_slice.ensures.value)
    (last.they_fit t.count t.dims t.kinds t.ids.items t.columns.items t.spare _ c.self.invariant
    some zs kz sz weight_fits)

pub invariant_of-self : goal.invariant_of-self
invariant_of-self c =
    let t = c.self.inside in
    let docs = docs_in t.count t.dims t.ids.items t.columns.items in
    let l = region.length-docs_in t.count t.dims t.ids.items t.columns.items in
    let more : c.args.from + 1 < t.count =
    omega (arith, c.requires.from, ap (λ v. length v.docs) c.self.view_is, l) in
    let some : 0 < t.count = omega (arith, more) in
    let n : c.args.from < t.count = omega (arith, more) in
    let in' : c.args.from < length docs = omega (arith, n, l) in
    let at = region.doc_is t.count t.dims t.ids.items t.columns.items c.args.from n in
    let shape = last.shape_at t.dims t.kinds docs c.args.from c.self.invariant.shape in' in
    let zs = row_at t.columns.items c.args.from in
    let kz = sym (ap (λ e. kinds_of e.1) at) ∙ shape.1 in
    let sz = subst RowStored (ap (λ e. e.1) at)
    (last.stored_at docs c.args.from c.self.invariant.stored in') in
    let weight_fits = λ (front : List Doc) (e : Doc) (is : docs ≡ front ++ (e ∷ [])).
    subst (λ (z : List AggState). row_weight e.1 + row_weight z ≤ most_stored)
    (ap (λ v. (doc_at v.docs c.args.from).1) (sym c.self.view_is) ∙ ap (λ e. e.1) at)
    (c.requires.weight_fits front e (sym (ap (λ v. v.docs) c.self.view_is) ∙ is)) in
    let ys = merged_rows (row_at t.columns.items (t.count - 1)) zs in
    let made : c.merge_places.new.columns ≡ row_replaced (t.count - 1) t.columns.items ys =
    c.merge_places.ensures
    ∙ ap (λ l. row_replaced (t.count - 1) l (merged_rows (row_at l (t.count - 1))
    (row_at l c.args.from))) c.as_mut_slice.ensures.value in
    let new : take t.columns.len
    (c.merge_places.new.columns ++ drop (length c.merge_places.new.columns) t.columns.items)
    ≡ row_replaced (t.count - 1) t.columns.items ys =
    last.replaced_back t.columns.len (t.count - 1) c.merge_places.new.columns t.columns.items ys
    (omega (arith, t.columns.ok.0)) made in
    last.merged_region t.count t.dims t.kinds t.ids.items t.columns.items t.spare _
    c.self.invariant some zs kz sz weight_fits _ new

pub returns : goal.returns
returns c front e is =
    let t = c.self.inside in
    let docs = docs_in t.count t.dims t.ids.items t.columns.items in
    let l = region.length-docs_in t.count t.dims t.ids.items t.columns.items in
    let more : c.args.from + 1 < t.count =
    omega (arith, c.requires.from, ap (λ v. length v.docs) c.self.view_is, l) in
    let some : 0 < t.count = omega (arith, more) in
    let n : c.args.from < t.count = omega (arith, more) in
    let in' : c.args.from < length docs = omega (arith, n, l) in
    let at = region.doc_is t.count t.dims t.ids.items t.columns.items c.args.from n in
    let shape = last.shape_at t.dims t.kinds docs c.args.from c.self.invariant.shape in' in
    let zs = row_at t.columns.items c.args.from in
    let kz = sym (ap (λ e. kinds_of e.1) at) ∙ shape.1 in
    let sz = subst RowStored (ap (λ e. e.1) at)
    (last.stored_at docs c.args.from c.self.invariant.stored in') in
    let weight_fits = λ (front : List Doc) (e : Doc) (is : docs ≡ front ++ (e ∷ [])).
    subst (λ (z : List AggState). row_weight e.1 + row_weight z ≤ most_stored)
    (ap (λ v. (doc_at v.docs c.args.from).1) (sym c.self.view_is) ∙ ap (λ e. e.1) at)
    (c.requires.weight_fits front e (sym (ap (λ v. v.docs) c.self.view_is) ∙ is)) in
    let ys = merged_rows (row_at t.columns.items (t.count - 1)) zs in
    let made : c.merge_places.new.columns ≡ row_replaced (t.count - 1) t.columns.items ys =
    c.merge_places.ensures
    ∙ ap (λ l. row_replaced (t.count - 1) l (merged_rows (row_at l (t.count - 1))
    (row_at l c.args.from))) c.as_mut_slice.ensures.value in
    let new : take t.columns.len
    (c.merge_places.new.columns ++ drop (length c.merge_places.new.columns) t.columns.items)
    ≡ row_replaced (t.count - 1) t.columns.items ys =
    last.replaced_back t.columns.len (t.count - 1) c.merge_places.new.columns t.columns.items ys
    (omega (arith, t.columns.ok.0)) made in
    let all = last.merged_docs_are t.count t.dims t.kinds t.ids.items t.columns.items t.spare _
    c.self.invariant some zs kz sz weight_fits _ new front e (ap (λ v. v.docs) c.self.view_is ∙ is)
    ∙ ap (λ (z : List AggState). front ++ ((e.0, merged_rows e.1 z) ∷ []))
    (sym (ap (λ v. (doc_at v.docs c.args.from).1) (sym c.self.view_is) ∙ ap (λ e. e.1) at)) in
    λ i. record {
      dims = (c.self.view_is i).dims;
      kinds = (c.self.view_is i).kinds;
      docs = all i;
      spare = (c.self.view_is i).spare;
    }
