use Rattle.std.proofs.Common.{◌≡◌, ◌+◌, ◌-◌, ◌<◌, ◌≤◌, ◌++◌, ◌∷◌, [], List, length, take, drop, sym}
use Rattle.std.proofs.Common.{ap, subst, ◌∙◌, arith}
use Rattle.std.proofs.lemmas.List.{length-map}
use Rattle.agg_laws.specs.Numbers.{most_stored, most_values}
use Rattle.agg_laws.specs.Rows.{merged_rows, row_of, row_weight, RowFits}
use Rattle.agg_laws.specs.laws.Rows.{row_weight_least}
use Rattle.state_columns.specs.Docs.{Doc}
use Rattle.state_columns.specs.Columns.{kinds_in, row_at, row_replaced, AreColumns}
use Rattle.state_columns.specs.Region.{docs_in}
use Rattle.state_columns.proofs.RegionLemmas as region
use Rattle.state_columns.proofs.RegionSteps as last
use Rattle.state_columns.proofs.ValueSteps as steps
use Rattle.star_table.proofs.star_table.StarTable.add_last.Goals as goal

pub overflow_sub-last : goal.overflow_sub-last
overflow_sub-last c =
    let t = c.self.inside in
    let docs = docs_in t.count t.dims t.ids.items t.columns.items in
    let l = region.length-docs_in t.count t.dims t.ids.items t.columns.items in
    let some : 0 < t.count =
    omega (arith, c.requires.some, ap (λ v. length v.docs) c.self.view_is, l) in
    let xs = c.args.values.now in
    let lengths : length xs ≡ length t.kinds = c.requires.values
    ∙ sym (ap (λ v. length v.kinds) c.self.view_is) in
    omega (arith, some)

pub add_values_at-requires-clause-lengths : goal.add_values_at-requires-clause-lengths
add_values_at-requires-clause-lengths c =
    let t = c.self.inside in
    subst (AreColumns t.count 0) (sym c.as_mut_slice.ensures.value)
    (region.some_room t.count t.spare t.count 0 t.columns.items c.self.invariant.columns_are
    (λ _. t.count) (omega arith))

pub add_values_at-requires-clause-values : goal.add_values_at-requires-clause-values
add_values_at-requires-clause-values c =
    let t = c.self.inside in
    let docs = docs_in t.count t.dims t.ids.items t.columns.items in
    let l = region.length-docs_in t.count t.dims t.ids.items t.columns.items in
    let some : 0 < t.count =
    omega (arith, c.requires.some, ap (λ v. length v.docs) c.self.view_is, l) in
    let xs = c.args.values.now in
    let lengths : length xs ≡ length t.kinds = c.requires.values
    ∙ sym (ap (λ v. length v.kinds) c.self.view_is) in
    lengths ∙ ap length (sym c.self.invariant.kinds_are) ∙ length-map t.columns.items (λ d. d.kind)
    ∙ ap length (sym c.as_mut_slice.ensures.value)

pub add_values_at-requires-clause-fits : goal.add_values_at-requires-clause-fits
add_values_at-requires-clause-fits c =
    let t = c.self.inside in
    let docs = docs_in t.count t.dims t.ids.items t.columns.items in
    let l = region.length-docs_in t.count t.dims t.ids.items t.columns.items in
    let some : 0 < t.count =
    omega (arith, c.requires.some, ap (λ v. length v.docs) c.self.view_is, l) in
    let xs = c.args.values.now in
    let lengths : length xs ≡ length t.kinds = c.requires.values
    ∙ sym (ap (λ v. length v.kinds) c.self.view_is) in
    let zs = row_of t.kinds (xs ∷ []) in
    let kz = steps.kinds_row t.kinds (xs ∷ []) in
    let sz = steps.stored_row t.kinds xs lengths c.are_whole.ensures in
    let w = row_weight_least zs 1 (steps.fits_row t.kinds xs lengths c.are_whole.ensures) in
    let weight_fits : (front : List Doc) (e : Doc) → docs ≡ front ++ (e ∷ []) → row_weight e.1
    + row_weight zs ≤ most_stored = λ front e is.
    (let k = c.requires.weight_fits front e (sym (ap (λ v. v.docs) c.self.view_is) ∙ is)
    in omega (arith, k, w)) in
    let ys = merged_rows (row_at t.columns.items (t.count - 1)) zs in
    subst (λ l. RowFits (merged_rows (row_at l (t.count - 1)) (row_of (kinds_in l) (xs ∷ [])))
    most_values) (sym c.as_mut_slice.ensures.value)
    (subst (λ l. RowFits (merged_rows (row_at t.columns.items (t.count - 1)) (row_of l (xs ∷ [])))
    most_values) (sym c.self.invariant.kinds_are)
    (last.they_fit t.count t.dims t.kinds t.ids.items t.columns.items t.spare _ c.self.invariant
    some zs kz sz weight_fits))

pub invariant_of-self : goal.invariant_of-self
invariant_of-self c =
    let t = c.self.inside in
    let docs = docs_in t.count t.dims t.ids.items t.columns.items in
    let l = region.length-docs_in t.count t.dims t.ids.items t.columns.items in
    let some : 0 < t.count =
    omega (arith, c.requires.some, ap (λ v. length v.docs) c.self.view_is, l) in
    let xs = c.args.values.now in
    let lengths : length xs ≡ length t.kinds = c.requires.values
    ∙ sym (ap (λ v. length v.kinds) c.self.view_is) in
    let zs = row_of t.kinds (xs ∷ []) in
    let kz = steps.kinds_row t.kinds (xs ∷ []) in
    let sz = steps.stored_row t.kinds xs lengths c.are_whole.ensures in
    let w = row_weight_least zs 1 (steps.fits_row t.kinds xs lengths c.are_whole.ensures) in
    let weight_fits : (front : List Doc) (e : Doc) → docs ≡ front ++ (e ∷ []) → row_weight e.1
    + row_weight zs ≤ most_stored = λ front e is.
    (let k = c.requires.weight_fits front e (sym (ap (λ v. v.docs) c.self.view_is) ∙ is)
    in omega (arith, k, w)) in
    let ys = merged_rows (row_at t.columns.items (t.count - 1)) zs in
    let made : c.add_values_at.new.columns ≡ row_replaced (t.count - 1) t.columns.items ys =
    c.add_values_at.ensures
    ∙ ap (λ l. row_replaced (t.count - 1) l (merged_rows (row_at l (t.count - 1))
    (row_of (kinds_in l) (xs ∷ [])))) c.as_mut_slice.ensures.value
    ∙ ap (λ l. row_replaced (t.count - 1) t.columns.items
    (merged_rows (row_at t.columns.items (t.count - 1)) (row_of l (xs ∷ []))))
    c.self.invariant.kinds_are in
    let new : take t.columns.len
    (c.add_values_at.new.columns ++ drop (length c.add_values_at.new.columns) t.columns.items)
    ≡ row_replaced (t.count - 1) t.columns.items ys =
    last.replaced_back t.columns.len (t.count - 1) c.add_values_at.new.columns t.columns.items ys
    (omega (arith, t.columns.ok.0)) made in
    last.merged_region t.count t.dims t.kinds t.ids.items t.columns.items t.spare _
    c.self.invariant some zs kz sz weight_fits _ new

pub returns : goal.returns
returns c front e is =
    let t = c.self.inside in
    let docs = docs_in t.count t.dims t.ids.items t.columns.items in
    let l = region.length-docs_in t.count t.dims t.ids.items t.columns.items in
    let some : 0 < t.count =
    omega (arith, c.requires.some, ap (λ v. length v.docs) c.self.view_is, l) in
    let xs = c.args.values.now in
    let lengths : length xs ≡ length t.kinds = c.requires.values
    ∙ sym (ap (λ v. length v.kinds) c.self.view_is) in
    let zs = row_of t.kinds (xs ∷ []) in
    let kz = steps.kinds_row t.kinds (xs ∷ []) in
    let sz = steps.stored_row t.kinds xs lengths c.are_whole.ensures in
    let w = row_weight_least zs 1 (steps.fits_row t.kinds xs lengths c.are_whole.ensures) in
    let weight_fits : (front : List Doc) (e : Doc) → docs ≡ front ++ (e ∷ []) → row_weight e.1
    + row_weight zs ≤ most_stored = λ front e is.
    (let k = c.requires.weight_fits front e (sym (ap (λ v. v.docs) c.self.view_is) ∙ is)
    in omega (arith, k, w)) in
    let ys = merged_rows (row_at t.columns.items (t.count - 1)) zs in
    let made : c.add_values_at.new.columns ≡ row_replaced (t.count - 1) t.columns.items ys =
    c.add_values_at.ensures
    ∙ ap (λ l. row_replaced (t.count - 1) l (merged_rows (row_at l (t.count - 1))
    (row_of (kinds_in l) (xs ∷ [])))) c.as_mut_slice.ensures.value
    ∙ ap (λ l. row_replaced (t.count - 1) t.columns.items
    (merged_rows (row_at t.columns.items (t.count - 1)) (row_of l (xs ∷ []))))
    c.self.invariant.kinds_are in
    let new : take t.columns.len
    (c.add_values_at.new.columns ++ drop (length c.add_values_at.new.columns) t.columns.items)
    ≡ row_replaced (t.count - 1) t.columns.items ys =
    last.replaced_back t.columns.len (t.count - 1) c.add_values_at.new.columns t.columns.items ys
    (omega (arith, t.columns.ok.0)) made in
    let all = last.merged_docs_are t.count t.dims t.kinds t.ids.items t.columns.items t.spare _
    c.self.invariant some zs kz sz weight_fits _ new front e (ap (λ v. v.docs) c.self.view_is ∙ is)
    ∙ ap (λ v. front ++ ((e.0, merged_rows e.1 (row_of v.kinds (xs ∷ []))) ∷ []))
    c.self.view_is in
    λ i. record {
      dims = (c.self.view_is i).dims;
      kinds = (c.self.view_is i).kinds;
      docs = all i;
      spare = (c.self.view_is i).spare;
    }
