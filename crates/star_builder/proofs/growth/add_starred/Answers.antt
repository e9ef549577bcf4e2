use Rattle.std.proofs.Common.{length, ap, arith}
use Rattle.std.proofs.lemmas.Result.{IfOk-weaker}
use Rattle.agg_laws.specs.Rows.{merged_rows}
use Rattle.agg_laws.specs.Merged.{rekey}
use Rattle.agg_laws.specs.Tree.{set_star}
use Rattle.state_columns.specs.Region.{range}
use Rattle.state_columns.proofs.ListLemmas.{length-rekey, merged_fewer}
use Rattle.star_builder.proofs.Steps.{length-range}
use Rattle.star_builder.proofs.growth.add_starred.Goals as goal

pub returns-clause-at_most : goal.returns-clause-at_most
returns-clause-at_most c =
    let docs = c.reserve.new.self.docs in
    let es = range c.args.start c.args.end docs in
    let same = c.in_ok-reserve.ensures.ok in
    IfOk-weaker c.append_starred.result _ _ (λ n is.
    let a = merged_fewer merged_rows (rekey (set_star c.args.level) es) in
    let b = length-rekey merged_rows (set_star c.args.level) es in
    let e = ap (λ v. length v.docs) same in
    let l = length-range c.args.start c.args.end docs (omega (arith, e, c.requires.within)) in
    omega (arith, is, a, b, l)) c.append_starred.ensures.count
