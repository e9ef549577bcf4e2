use Rattle.std.proofs.Common.{◌≡◌, ◌<◌, ◌++◌, ◌∷◌, [], length, sym, ap, subst, ◌∙◌, arith}
use Rattle.agg_laws.specs.Tree.{star, set_star}
use Rattle.state_columns.specs.Docs.{HaveShape}
use Rattle.state_columns.specs.Region.{docs_in}
use Rattle.star_table.proofs.TailSteps.{set_none}
use Rattle.state_columns.proofs.RegionLemmas.{length-docs_in}
use Rattle.state_columns.proofs.RegionSteps as steps
use Rattle.star_table.proofs.star_table.StarTable.star_last.Goals as goal

pub invariant_of-self : goal.invariant_of-self
invariant_of-self c =
    let t = c.self.inside in
    let some : 0 < t.count =
    omega (
      arith,
      c.requires.some,
      ap
          (λ v. length v.docs) c.self.view_is,
      length-docs_in t.count t.dims
          t.ids.items t.columns.items,
    ) in
    steps.starred_region t.count t.dims t.kinds t.ids.items t.columns.items t.spare _
    c.self.invariant some c.args.level
    (omega (arith, c.if-level-self.false))

pub returns-then-level-self : goal.returns-then-level-self
returns-then-level-self c front e is =
    let t = c.self.inside in
    let there : docs_in t.count t.dims t.ids.items t.columns.items
    ≡ front ++ (e ∷ []) = ap (λ v. v.docs) c.self.view_is ∙ is in
    let shape = steps.shape_last t.dims t.kinds front e
    (subst (HaveShape t.dims t.kinds) there c.self.invariant.shape) in
    let same : set_star c.args.level e.0 ≡ e.0 = set_none e.0 c.args.level star
    (omega (arith, shape.0, c.if-level-self.true)) in
    let docs = is ∙ ap (λ x. front ++ ((x, e.1) ∷ [])) (sym same) in
    λ i. record {
      dims = c.args.self.now.dims;
      kinds = c.args.self.now.kinds;
      docs = docs i;
      spare = c.args.self.now.spare;
    }

pub returns : goal.returns
returns c front e is =
    let t = c.self.inside in
    let some : 0 < t.count =
    omega (
      arith,
      c.requires.some,
      ap
          (λ v. length v.docs) c.self.view_is,
      length-docs_in t.count t.dims
          t.ids.items t.columns.items,
    ) in
    let docs = steps.starred_docs t.count t.dims t.kinds t.ids.items t.columns.items t.spare _
    c.self.invariant some c.args.level
    (omega (arith, c.if-level-self.false))
    front e (ap (λ v. v.docs) c.self.view_is ∙ is) in
    λ i. record {
      dims = (c.self.view_is i).dims;
      kinds = (c.self.view_is i).kinds;
      docs =
          docs i;
      spare = (c.self.view_is i).spare;
    }
