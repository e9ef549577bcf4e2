use Rattle.std.proofs.Common.{◌≡◌, map, sym, ap, subst, ◌∙◌, arith, max}
use Rattle.std.specs.Prelude.{OnErr}
use Rattle.state_columns.specs.Columns.{AreWider, widened}
use Rattle.state_columns.specs.Region.{docs_in}
use Rattle.std.specs.declared.result.Result.{Result}
use Rattle.std.specs.declared.result.Result.TheVariants.{Ok, Err}
use Rattle.state_columns.proofs.RegionLemmas as region
use Rattle.state_columns.proofs.RegionSteps as last
use Rattle.star_table.proofs.star_table.StarTable.reserve.Goals as goal

on_err : {X E : Type 0} {P : Type 0} (r : Result X E) → P → OnErr r P
on_err (Ok x) p = tt
on_err (Err e) p = p

pub invariant_of-self-in_err-reserve_columns : goal.invariant_of-self-in_err-reserve_columns
invariant_of-self-in_err-reserve_columns c =
    let t = c.self.inside in
    let news = c.reserve_columns.new.columns in
    let wide : AreWider t.columns.items news =
    subst (λ l. AreWider l news) c.as_mut_slice.ensures.value c.reserve_columns.ensures.kept in
    let back = last.wider_back t.columns.len news t.columns.items
    (omega (arith, t.columns.ok.0)) wide in
    let wide' = subst (AreWider t.columns.items) (sym back) wide in
    region.wider_region t.count t.dims t.kinds t.ids.items _ t.columns.items _ t.spare _ _
    c.self.invariant wide' c.in_ok-reserve.ensures.items c.in_ok-reserve.ensures.capacity

pub returns-in_err-reserve_columns-clause-err : goal.returns-in_err-reserve_columns-clause-err
returns-in_err-reserve_columns-clause-err c =
    let t = c.self.inside in
    let news = c.reserve_columns.new.columns in
    let wide : AreWider t.columns.items news =
    subst (λ l. AreWider l news) c.as_mut_slice.ensures.value c.reserve_columns.ensures.kept in
    let back = last.wider_back t.columns.len news t.columns.items
    (omega (arith, t.columns.ok.0)) wide in
    let wide' = subst (AreWider t.columns.items) (sym back) wide in
    let docs = (λ i. docs_in t.count t.dims (c.in_ok-reserve.ensures.items i) (back i))
    ∙ region.wider_docs t.count t.dims t.ids.items t.columns.items news wide
    ∙ ap (λ v. v.docs) c.self.view_is in
    on_err c.from_residual-in_err-reserve_columns.result (λ i. record {
      dims = (c.self.view_is i).dims;
      kinds = (c.self.view_is i).kinds;
      docs = docs i;
      spare = (c.self.view_is i).spare;
    })

pub invariant_of-self-2 : goal.invariant_of-self-2
invariant_of-self-2 c =
    let t = c.self.inside in
    let news = c.reserve_columns.new.columns in
    let wide : AreWider t.columns.items news =
    subst (λ l. AreWider l news) c.as_mut_slice.ensures.value c.reserve_columns.ensures.kept in
    let back = last.wider_back t.columns.len news t.columns.items
    (omega (arith, t.columns.ok.0)) wide in
    let wide' = subst (AreWider t.columns.items) (sym back) wide in
    region.roomy_region t.count t.dims t.kinds t.ids.items _ t.columns.items _ t.spare _ _
    c.self.invariant wide' c.in_ok-reserve.ensures.items c.args.more
    (back ∙ c.in_ok-reserve_columns.ensures.ok
    ∙ ap (λ l. map (widened c.args.more) l) c.as_mut_slice.ensures.value)
    (omega (arith, c.if-self-more.false)) (omega (arith, c.in_ok-reserve.ensures.ok))

pub returns-clause-ok : goal.returns-clause-ok
returns-clause-ok c =
    let t = c.self.inside in
    let news = c.reserve_columns.new.columns in
    let wide : AreWider t.columns.items news =
    subst (λ l. AreWider l news) c.as_mut_slice.ensures.value c.reserve_columns.ensures.kept in
    let back = last.wider_back t.columns.len news t.columns.items
    (omega (arith, t.columns.ok.0)) wide in
    let wide' = subst (AreWider t.columns.items) (sym back) wide in
    let docs = (λ i. docs_in t.count t.dims (c.in_ok-reserve.ensures.items i) (back i))
    ∙ region.wider_docs t.count t.dims t.ids.items t.columns.items news wide
    ∙ ap (λ v. v.docs) c.self.view_is in
    let spare : c.args.more ≡ max c.args.self.now.spare c.args.more =
    (let e = ap (λ v. v.spare) c.self.view_is in omega (arith, e, c.if-more-self.false)) in
    λ i. record {
      dims = (c.self.view_is i).dims;
      kinds = (c.self.view_is i).kinds;
      docs = docs i;
      spare = spare i;
    }
