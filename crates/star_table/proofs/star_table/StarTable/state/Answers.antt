use Rattle.std.proofs.Common.{◌<◌, length, sym, ap, ◌∙◌, arith, slice_get}
use Rattle.std.proofs.lemmas.List.{length-map}
use Rattle.state_columns.specs.Docs.{doc_at}
use Rattle.state_columns.specs.Columns.{Column, row_at, state_at}
use Rattle.state_columns.proofs.RegionLemmas as region
use Rattle.state_columns.proofs.EachSteps as each
use Rattle.star_table.proofs.star_table.StarTable.state.Goals as goal

pub at-requires : goal.at-requires
at-requires c =
    let t = c.self.inside in
    let l = region.length-docs_in t.count t.dims t.ids.items t.columns.items in
    let n : c.args.at < t.count =
    omega (arith, c.requires.at, ap (λ v. length v.docs) c.self.view_is, l) in
    let p : c.args.pair < length t.columns.items =
    omega (
      arith,
      c.requires.pair,
      ap (λ v. length v.kinds) c.self.view_is,
      ap length c.self.invariant.kinds_are,
      length-map t.columns.items (λ d. d.kind),
    ) in
    let lengths = each.long_at t.count t.spare t.columns.items c.args.pair c.index.result.now
    c.self.invariant.columns_are p in
    let e = ap (λ (d : Column). length d.states) c.index.ensures in
    omega (arith, lengths, e, n)

pub returns : goal.returns
returns c =
    let t = c.self.inside in
    let l = region.length-docs_in t.count t.dims t.ids.items t.columns.items in
    let n : c.args.at < t.count =
    omega (arith, c.requires.at, ap (λ v. length v.docs) c.self.view_is, l) in
    let p : c.args.pair < length t.columns.items =
    omega (
      arith,
      c.requires.pair,
      ap (λ v. length v.kinds) c.self.view_is,
      ap length c.self.invariant.kinds_are,
      length-map t.columns.items (λ d. d.kind),
    ) in
    let d = c.index.result.now in
    let ll = each.length-row_at t.columns.items c.args.at in
    ap (λ v. slice_get (doc_at v.docs c.args.at).1 c.args.pair) (sym c.self.view_is)
    ∙ ap (λ e. slice_get e.1 c.args.pair)
    (region.doc_is t.count t.dims t.ids.items t.columns.items c.args.at n)
    ∙ region.got_in (row_at t.columns.items c.args.at) c.args.pair c.at.result
    (omega (arith, p, ll))
    (c.at.ensures.state ∙ ap (λ (d : Column). state_at d c.args.at) c.index.ensures
    ∙ sym (each.row_item t.columns.items c.args.at c.args.pair d c.at.result p))
