use Rattle.std.proofs.Common.{◌≡◌, ◌+◌, ◌*◌, ◌<◌, length, get_or, sym, ap, ◌∙◌, arith}
use Rattle.agg_laws.specs.Tree.{star, dim}
use Rattle.state_columns.specs.Docs.{doc_at}
use Rattle.state_columns.proofs.RegionLemmas.{length-docs_in, doc_is, place_in, item_in}
use Rattle.state_columns.proofs.RegionLemmas.{any_default}
use Rattle.star_table.proofs.star_table.StarTable.dim.Goals as goal

pub index-requires : goal.index-requires
index-requires c =
    let t = c.self.inside in
    let n : c.args.at < t.count =
    omega (
      arith,
      c.requires.at,
      ap
          (λ v. length v.docs) c.self.view_is,
      length-docs_in t.count t.dims
          t.ids.items t.columns.items,
    ) in
    let l : c.args.level < t.dims =
    omega (arith, c.requires.level, ap (λ v. v.dims) c.self.view_is) in
    let p = place_in t.count c.args.at t.dims c.args.level
    (length t.ids.items) c.self.invariant.ids_are n l in
    omega (arith, p, t.ids.ok.0)

pub returns : goal.returns
returns c =
    let t = c.self.inside in
    let n : c.args.at < t.count =
    omega (
      arith,
      c.requires.at,
      ap
          (λ v. length v.docs) c.self.view_is,
      length-docs_in t.count t.dims
          t.ids.items t.columns.items,
    ) in
    let l : c.args.level < t.dims =
    omega (arith, c.requires.level, ap (λ v. v.dims) c.self.view_is) in
    let p = place_in t.count c.args.at t.dims c.args.level
    (length t.ids.items) c.self.invariant.ids_are n l in
    let own : c.index.result.now
    ≡ get_or t.ids.items (c.args.at * t.dims + c.args.level) star = c.index.ensures
    ∙ any_default t.ids.items (c.args.at * t.dims + c.args.level) c.index.result.now star p in
    own ∙ item_in t.dims c.args.at c.args.level t.ids.items star l
    ∙ ap (λ e. dim c.args.level e.0)
    (sym (doc_is t.count t.dims t.ids.items t.columns.items c.args.at n))
    ∙ ap (λ v. dim c.args.level (doc_at v.docs c.args.at).0) c.self.view_is
