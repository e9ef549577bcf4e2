use Rattle.std.proofs.Common.{◌≡◌, ◌*◌, ◌-◌, ◌<◌, ◌++◌, ◌∷◌, [], length, take, drop, sym, ap, subst}
use Rattle.std.proofs.Common.{◌∙◌, arith}
use Rattle.agg_laws.specs.Rows.{kinds_of, RowStored}
use Rattle.state_columns.specs.Docs.{doc_at}
use Rattle.state_columns.specs.Columns.{row_at, row_pushed, AreColumns}
use Rattle.state_columns.specs.Region.{docs_in}
use Rattle.state_columns.proofs.RegionLemmas as region
use Rattle.state_columns.proofs.RegionSteps as last
use Rattle.star_table.proofs.star_table.StarTable.repeat.Goals as goal

pub put_again-requires-clause-there : goal.put_again-requires-clause-there
put_again-requires-clause-there c =
    let t = c.self.inside in
    let docs = docs_in t.count t.dims t.ids.items t.columns.items in
    let l = region.length-docs_in t.count t.dims t.ids.items t.columns.items in
    let n : c.args.from < t.count =
    omega (arith, c.requires.from, ap (λ v. length v.docs) c.self.view_is, l) in
    region.room_in t.count c.args.from t.dims (length t.ids.items) c.self.invariant.ids_are n

pub push_copies-requires-clause-from : goal.push_copies-requires-clause-from
push_copies-requires-clause-from c =
    let t = c.self.inside in
    let docs = docs_in t.count t.dims t.ids.items t.columns.items in
    let l = region.length-docs_in t.count t.dims t.ids.items t.columns.items in
    let n : c.args.from < t.count =
    omega (arith, c.requires.from, ap (λ v. length v.docs) c.self.view_is, l) in
    omega (arith, n)

pub push_copies-requires-clause-room : goal.push_copies-requires-clause-room
push_copies-requires-clause-room c =
    let t = c.self.inside in
    subst (AreColumns t.count 1) (sym c.as_mut_slice.ensures.value)
    (region.some_room t.count t.spare t.count 1 t.columns.items c.self.invariant.columns_are
    (λ _. t.count) (omega (arith, c.requires.spare, ap (λ v. v.spare) c.self.view_is)))

pub invariant_of-self : goal.invariant_of-self
invariant_of-self c =
    let t = c.self.inside in
    let docs = docs_in t.count t.dims t.ids.items t.columns.items in
    let l = region.length-docs_in t.count t.dims t.ids.items t.columns.items in
    let n : c.args.from < t.count =
    omega (arith, c.requires.from, ap (λ v. length v.docs) c.self.view_is, l) in
    let in' : c.args.from < length docs = omega (arith, n, l) in
    let at = region.doc_is t.count t.dims t.ids.items t.columns.items c.args.from n in
    let shape = last.shape_at t.dims t.kinds docs c.args.from c.self.invariant.shape in' in
    let xs = take t.dims (drop (c.args.from * t.dims) t.ids.items) in
    let ys = row_at t.columns.items c.args.from in
    let lx : length xs ≡ t.dims = sym (ap (λ e. length e.0) at) ∙ shape.0 in
    let ky = sym (ap (λ e. kinds_of e.1) at) ∙ shape.1 in
    let made : c.push_copies.new.columns ≡ row_pushed t.columns.items ys = c.push_copies.ensures
    ∙ ap (λ l. row_pushed l (row_at l c.args.from)) c.as_mut_slice.ensures.value in
    let new : take t.columns.len
    (c.push_copies.new.columns ++ drop (length c.push_copies.new.columns) t.columns.items)
    ≡ row_pushed t.columns.items (ys) =
    last.pushed_back t.columns.len c.push_copies.new.columns t.columns.items (ys)
    (omega (arith, t.columns.ok.0)) made in
    region.more_region t.count t.dims t.kinds t.ids.items t.columns.items t.spare _ _
    xs ys _ _ c.self.invariant c.put_again.ensures.items new lx ky
    (omega (arith, c.requires.spare, ap (λ v. v.spare) c.self.view_is))
    (subst RowStored (ap (λ e. e.1) at)
    (last.stored_at docs c.args.from c.self.invariant.stored in')) c.put_again.ensures.capacity

pub returns : goal.returns
returns c =
    let t = c.self.inside in
    let docs = docs_in t.count t.dims t.ids.items t.columns.items in
    let l = region.length-docs_in t.count t.dims t.ids.items t.columns.items in
    let n : c.args.from < t.count =
    omega (arith, c.requires.from, ap (λ v. length v.docs) c.self.view_is, l) in
    let in' : c.args.from < length docs = omega (arith, n, l) in
    let at = region.doc_is t.count t.dims t.ids.items t.columns.items c.args.from n in
    let shape = last.shape_at t.dims t.kinds docs c.args.from c.self.invariant.shape in' in
    let xs = take t.dims (drop (c.args.from * t.dims) t.ids.items) in
    let ys = row_at t.columns.items c.args.from in
    let lx : length xs ≡ t.dims = sym (ap (λ e. length e.0) at) ∙ shape.0 in
    let ky = sym (ap (λ e. kinds_of e.1) at) ∙ shape.1 in
    let made : c.push_copies.new.columns ≡ row_pushed t.columns.items ys = c.push_copies.ensures
    ∙ ap (λ l. row_pushed l (row_at l c.args.from)) c.as_mut_slice.ensures.value in
    let new : take t.columns.len
    (c.push_copies.new.columns ++ drop (length c.push_copies.new.columns) t.columns.items)
    ≡ row_pushed t.columns.items (ys) =
    last.pushed_back t.columns.len c.push_copies.new.columns t.columns.items (ys)
    (omega (arith, t.columns.ok.0)) made in
    let all = region.one_more t.count t.dims t.kinds t.ids.items t.columns.items t.spare _ 0
    xs ys _ _ c.self.invariant c.put_again.ensures.items new lx ky
    ∙ ap (λ e. docs ++ (e ∷ [])) (sym at)
    ∙ ap (λ v. v.docs ++ (doc_at v.docs c.args.from ∷ [])) c.self.view_is in
    λ i. record {
      dims = (c.self.view_is i).dims;
      kinds = (c.self.view_is i).kinds;
      docs = all i;
      spare = (c.self.view_is i).spare - 1;
    }
