use Rattle.std.proofs.Common.{◌≡◌, ◌-◌, ◌≤◌, ◌++◌, ◌∷◌, [], length, take, drop, sym, ap, subst, ◌∙◌}
use Rattle.std.proofs.Common.{arith}
use Rattle.state_columns.specs.Columns.{kinds_in, row_pushed, AreColumns}
use Rattle.state_columns.proofs.RegionLemmas as region
use Rattle.state_columns.proofs.RegionSteps as last
use Rattle.star_table.proofs.star_table.StarTable.append_parts.Goals as goal

pub overflow_add-self : goal.overflow_add-self
overflow_add-self c = let some : 1 ≤ c.self.inside.spare =
    omega (arith, c.requires.spare, ap (λ v. v.spare) c.self.view_is)
    in omega (arith, some, c.self.invariant.at_most)

pub push_states-requires-clause-kinds : goal.push_states-requires-clause-kinds
push_states-requires-clause-kinds c =
    c.requires.kinds ∙ sym (ap (λ v. v.kinds) c.self.view_is)
    ∙ sym c.self.invariant.kinds_are ∙ ap kinds_in (sym c.as_mut_slice.ensures.value)

pub push_states-requires-clause-room : goal.push_states-requires-clause-room
push_states-requires-clause-room c =
    let t = c.self.inside in
    subst (AreColumns t.count 1) (sym c.as_mut_slice.ensures.value)
    (region.some_room t.count t.spare t.count 1 t.columns.items c.self.invariant.columns_are
    (λ _. t.count) (omega (arith, c.requires.spare, ap (λ v. v.spare) c.self.view_is)))

pub invariant_of-self : goal.invariant_of-self
invariant_of-self c =
    let t = c.self.inside in
    let ys = c.args.states.now in
    let made : c.push_states.new.columns ≡ row_pushed t.columns.items ys = c.push_states.ensures
    ∙ (λ i. row_pushed (c.as_mut_slice.ensures.value i) c.args.states.now) in
    let new : take t.columns.len
    (c.push_states.new.columns ++ drop (length c.push_states.new.columns) t.columns.items)
    ≡ row_pushed t.columns.items (ys) =
    last.pushed_back t.columns.len c.push_states.new.columns t.columns.items (ys)
    (omega (arith, t.columns.ok.0)) made in
    region.more_region t.count t.dims t.kinds t.ids.items t.columns.items t.spare _ _
    c.args.ids.now ys _ _ c.self.invariant
    c.put_all.ensures.items new
    (c.requires.dims ∙ sym (ap (λ v. v.dims) c.self.view_is))
    (c.requires.kinds ∙ sym (ap (λ v. v.kinds) c.self.view_is))
    (omega (arith, c.requires.spare, ap (λ v. v.spare) c.self.view_is)) c.requires.stored
    c.put_all.ensures.capacity

pub returns : goal.returns
returns c =
    let t = c.self.inside in
    let ys = c.args.states.now in
    let made : c.push_states.new.columns ≡ row_pushed t.columns.items ys = c.push_states.ensures
    ∙ (λ i. row_pushed (c.as_mut_slice.ensures.value i) c.args.states.now) in
    let new : take t.columns.len
    (c.push_states.new.columns ++ drop (length c.push_states.new.columns) t.columns.items)
    ≡ row_pushed t.columns.items (ys) =
    last.pushed_back t.columns.len c.push_states.new.columns t.columns.items (ys)
    (omega (arith, t.columns.ok.0)) made in
    let all = region.one_more t.count t.dims t.kinds t.ids.items t.columns.items t.spare _ 0
    c.args.ids.now ys _ _ c.self.invariant
    c.put_all.ensures.items new
    (c.requires.dims ∙ sym (ap (λ v. v.dims) c.self.view_is))
    (c.requires.kinds ∙ sym (ap (λ v. v.kinds) c.self.view_is))
    ∙ ap (λ v. v.docs ++ ((c.args.ids.now, c.args.states.now) ∷ [])) c.self.view_is in
    λ i. record {
      dims = (c.self.view_is i).dims;
      kinds = (c.self.view_is i).kinds;
      docs = all i;
      spare = (c.self.view_is i).spare - 1;
    }
