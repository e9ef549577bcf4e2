use Rattle.std.proofs.Common.{◌≡◌, ◌-◌, ◌++◌, length, ap, subst, ◌∙◌}
use Rattle.std.specs.Prelude.{IfOk, OnOk}
use Rattle.agg_laws.specs.Rows.{merged_rows}
use Rattle.agg_laws.specs.Merged.{rekey}
use Rattle.agg_laws.specs.Tree.{set_star, merged_docs}
use Rattle.state_columns.specs.Docs.{HaveShape, Docs}
use Rattle.state_columns.specs.Region.{range}
use Rattle.star_table.proofs.TailSteps.{same_range}
use Rattle.star_table.proofs.star_table.StarTable.append_merged.Goals as goal

pub returns-clause-ok : goal.returns-clause-ok
returns-clause-ok c =
    let v = c.args.self.now in
    let shape = subst (λ (v : Docs). HaveShape v.dims v.kinds v.docs) c.self.view_is
    c.self.invariant.shape in
    let same = (λ i. rekey (set_star (ap (λ (v : Docs). v.dims) c.self.view_is i))
    (range c.args.start c.args.end v.docs))
    ∙ same_range v.dims c.args.start c.args.end v.kinds v.docs shape in
    subst (λ docs. OnOk c.append_starred.result (c.append_starred.new.self ≡ record v {
      docs = v.docs ++ merged_docs merged_rows docs;
      spare = v.spare - length (merged_docs merged_rows docs);
    })) same c.append_starred.ensures.ok

pub returns-clause-count : goal.returns-clause-count
returns-clause-count c =
    let v = c.args.self.now in
    let shape = subst (λ (v : Docs). HaveShape v.dims v.kinds v.docs) c.self.view_is
    c.self.invariant.shape in
    let same = (λ i. rekey (set_star (ap (λ (v : Docs). v.dims) c.self.view_is i))
    (range c.args.start c.args.end v.docs))
    ∙ same_range v.dims c.args.start c.args.end v.kinds v.docs shape in
    subst (λ docs. IfOk c.append_starred.result (λ n. n ≡ length (merged_docs merged_rows docs)))
    same c.append_starred.ensures.count
