use Rattle.std.proofs.Common.{◌≡◌, ◌*◌, ◌-◌, ◌≤◌, length, drop, map, sym, ap, subst, ◌∙◌, arith}
use Rattle.std.proofs.Common.{rules}
use Rattle.state_columns.specs.Docs.{Docs}
use Rattle.state_columns.specs.Columns.{AreColumns, column_tail}
use Rattle.state_columns.specs.Region.{docs_in}
use Rattle.state_columns.proofs.RegionLemmas as region
use Rattle.star_table.proofs.TailSteps as steps
use Rattle.star_table.proofs.star_table.StarTable.tail.Goals as goal

pub overflow_sub-result : goal.overflow_sub-result
overflow_sub-result c =
    let t = c.self.inside in
    let le : c.args.from ≤ t.count = omega (
      arith,
      c.requires,
      ap (λ v. length v.docs) c.self.view_is,
      region.length-docs_in t.count t.dims t.ids.items t.columns.items,
    ) in
    le

pub tail_of-requires : goal.tail_of-requires
tail_of-requires c =
    let t = c.self.inside in
    let le : c.args.from ≤ t.count = omega (
      arith,
      c.requires,
      ap (λ v. length v.docs) c.self.view_is,
      region.length-docs_in t.count t.dims t.ids.items t.columns.items,
    ) in
    steps.front_there c.args.from t.count t.dims (length c.deref.result.now) le
    (ap length c.deref.ensures.value ∙ c.self.invariant.ids_are)

pub tail_columns-requires-clause-from : goal.tail_columns-requires-clause-from
tail_columns-requires-clause-from c =
    let t = c.self.inside in
    let le : c.args.from ≤ t.count = omega (
      arith,
      c.requires,
      ap (λ v. length v.docs) c.self.view_is,
      region.length-docs_in t.count t.dims t.ids.items t.columns.items,
    ) in
    le

pub tail_columns-requires-clause-lengths : goal.tail_columns-requires-clause-lengths
tail_columns-requires-clause-lengths c =
    let t = c.self.inside in
    subst (AreColumns t.count 0) (sym c.as_slice.ensures.value)
    (region.some_room t.count t.spare t.count 0 t.columns.items c.self.invariant.columns_are
    (λ _. t.count) (omega arith))

pub invariant_of-result : goal.invariant_of-result
invariant_of-result c =
    let t = c.self.inside in
    let le : c.args.from ≤ t.count = omega (
      arith,
      c.requires,
      ap (λ v. length v.docs) c.self.view_is,
      region.length-docs_in t.count t.dims t.ids.items t.columns.items,
    ) in
    let is : c.in_ok-tail_of.field-0.items ≡ drop (c.args.from * t.dims) t.ids.items =
    c.in_ok-tail_of.ensures
    ∙ ap (drop (c.args.from * t.dims)) c.deref.ensures.value in
    let js : c.in_ok-tail_columns.field-0.items ≡ map (column_tail c.args.from) t.columns.items =
    c.in_ok-tail_columns.ensures
    ∙ ap (λ l. map (column_tail c.args.from) l) c.as_slice.ensures.value in
    steps.tail_region c.args.from t.count t.dims t.kinds t.ids.items t.columns.items t.spare _ _
    c.in_ok-tail_of.field-0.items c.in_ok-tail_columns.field-0.items c.in_ok-copy.field-0
    c.self.invariant le c.in_ok-copy.ensures is js (search rules)

pub returns : goal.returns
returns c =
    let t = c.self.inside in
    let le : c.args.from ≤ t.count = omega (
      arith,
      c.requires,
      ap (λ v. length v.docs) c.self.view_is,
      region.length-docs_in t.count t.dims t.ids.items t.columns.items,
    ) in
    let is : c.in_ok-tail_of.field-0.items ≡ drop (c.args.from * t.dims) t.ids.items =
    c.in_ok-tail_of.ensures
    ∙ ap (drop (c.args.from * t.dims)) c.deref.ensures.value in
    let js : c.in_ok-tail_columns.field-0.items ≡ map (column_tail c.args.from) t.columns.items =
    c.in_ok-tail_columns.ensures
    ∙ ap (λ l. map (column_tail c.args.from) l) c.as_slice.ensures.value in
    let docs = (λ i. docs_in (t.count - c.args.from) t.dims (is i) (js i))
    ∙ steps.docs_drop c.args.from t.count t.dims t.ids.items t.columns.items le
    ∙ ap (λ (v : Docs). drop c.args.from v.docs) c.self.view_is in
    λ i. record {
      dims = (c.self.view_is i).dims;
      kinds = (c.in_ok-copy.ensures ∙ ap (λ (v : Docs). v.kinds) c.self.view_is) i;
      docs = docs i;
      spare = 0;
    }
