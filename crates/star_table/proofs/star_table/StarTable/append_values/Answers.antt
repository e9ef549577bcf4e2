use Rattle.std.proofs.Common.{◌≡◌, ◌-◌, ◌++◌, ◌∷◌, [], length, take, drop, sym, ap, subst, ◌∙◌}
use Rattle.std.proofs.Common.{arith}
use Rattle.std.proofs.lemmas.List.{length-map}
use Rattle.agg_laws.specs.Rows.{row_of}
use Rattle.agg_laws.specs.laws.Rows.{row_weight_least}
use Rattle.state_columns.specs.Columns.{kinds_in, row_pushed, AreColumns}
use Rattle.state_columns.proofs.RegionLemmas as region
use Rattle.state_columns.proofs.RegionSteps as last
use Rattle.state_columns.proofs.ValueSteps as steps
use Rattle.star_table.proofs.star_table.StarTable.append_values.Goals as goal

pub push_values-requires-clause-values : goal.push_values-requires-clause-values
push_values-requires-clause-values c =
    let t = c.self.inside in
    let xs = c.args.values.now in
    let ys = row_of t.kinds (xs ∷ []) in
    let lengths : length xs ≡ length t.kinds = c.requires.values
    ∙ sym (ap (λ v. length v.kinds) c.self.view_is) in
    lengths ∙ ap length (sym c.self.invariant.kinds_are) ∙ length-map t.columns.items (λ d. d.kind)
    ∙ ap length (sym c.as_mut_slice.ensures.value)

pub push_values-requires-clause-room : goal.push_values-requires-clause-room
push_values-requires-clause-room c =
    let t = c.self.inside in
    subst (AreColumns t.count 1) (sym c.as_mut_slice.ensures.value)
    (region.some_room t.count t.spare t.count 1 t.columns.items c.self.invariant.columns_are
    (λ _. t.count) (omega (arith, c.requires.spare, ap (λ v. v.spare) c.self.view_is)))

pub invariant_of-self : goal.invariant_of-self
invariant_of-self c =
    let t = c.self.inside in
    let xs = c.args.values.now in
    let ys = row_of t.kinds (xs ∷ []) in
    let lengths : length xs ≡ length t.kinds = c.requires.values
    ∙ sym (ap (λ v. length v.kinds) c.self.view_is) in
    let made : c.push_values.new.columns ≡ row_pushed t.columns.items ys = c.push_values.ensures
    ∙ ap (λ l. row_pushed l (row_of (kinds_in l) (xs ∷ []))) c.as_mut_slice.ensures.value
    ∙ ap (λ l. row_pushed t.columns.items (row_of l (xs ∷ []))) c.self.invariant.kinds_are in
    let new : take t.columns.len
    (c.push_values.new.columns ++ drop (length c.push_values.new.columns) t.columns.items)
    ≡ row_pushed t.columns.items (ys) =
    last.pushed_back t.columns.len c.push_values.new.columns t.columns.items (ys)
    (omega (arith, t.columns.ok.0)) made in
    region.more_region t.count t.dims t.kinds t.ids.items t.columns.items t.spare _ _
    c.args.ids.now ys _ _ c.self.invariant c.put_all.ensures.items new
    (c.requires.dims ∙ sym (ap (λ v. v.dims) c.self.view_is))
    (steps.kinds_row t.kinds (xs ∷ []))
    (omega (arith, c.requires.spare, ap (λ v. v.spare) c.self.view_is)) (steps.stored_row t.kinds
    xs lengths c.are_whole.ensures) c.put_all.ensures.capacity

pub returns-clause-appended : goal.returns-clause-appended
returns-clause-appended c =
    let t = c.self.inside in
    let xs = c.args.values.now in
    let ys = row_of t.kinds (xs ∷ []) in
    let lengths : length xs ≡ length t.kinds = c.requires.values
    ∙ sym (ap (λ v. length v.kinds) c.self.view_is) in
    let made : c.push_values.new.columns ≡ row_pushed t.columns.items ys = c.push_values.ensures
    ∙ ap (λ l. row_pushed l (row_of (kinds_in l) (xs ∷ []))) c.as_mut_slice.ensures.value
    ∙ ap (λ l. row_pushed t.columns.items (row_of l (xs ∷ []))) c.self.invariant.kinds_are in
    let new : take t.columns.len
    (c.push_values.new.columns ++ drop (length c.push_values.new.columns) t.columns.items)
    ≡ row_pushed t.columns.items (ys) =
    last.pushed_back t.columns.len c.push_values.new.columns t.columns.items (ys)
    (omega (arith, t.columns.ok.0)) made in
    let all = region.one_more t.count t.dims t.kinds t.ids.items t.columns.items t.spare _ 0
    c.args.ids.now ys _ _ c.self.invariant c.put_all.ensures.items new
    (c.requires.dims ∙ sym (ap (λ v. v.dims) c.self.view_is))
    (steps.kinds_row t.kinds (xs ∷ []))
    ∙ ap (λ v. v.docs ++ ((c.args.ids.now, row_of v.kinds (xs ∷ [])) ∷ [])) c.self.view_is in
    λ i. record {
      dims = (c.self.view_is i).dims;
      kinds = (c.self.view_is i).kinds;
      docs = all i;
      spare = (c.self.view_is i).spare - 1;
    }

pub returns-clause-weight_fits : goal.returns-clause-weight_fits
returns-clause-weight_fits c =
    let ks = c.args.self.now.kinds in
    let xs = c.args.values.now in
    row_weight_least (row_of ks (xs ∷ [])) 1
    (steps.fits_row ks xs c.requires.values c.are_whole.ensures)
