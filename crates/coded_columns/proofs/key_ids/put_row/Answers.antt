use Rattle.std.proofs.Common.{ℕ, List, get_or, sym, subst, arith, inl, inr}
use Rattle.std.proofs.lemmas.Bool.{cases_eq}
use Rattle.coded_columns.specs.Coded.{column_of}
use Rattle.coded_columns.specs.Keys.{IsIdAt}
use Rattle.coded_columns.proofs.KeyIdSteps.{HasId}
use Rattle.coded_columns.proofs.key_ids.put_row.Goals as goal

pub loop-i-init : goal.loop-i-init
loop-i-init c = λ j lt. absurd (omega (arith, lt))

pub loop-i-preserved : goal.loop-i-preserved
loop-i-preserved c = λ j lt.
    let segment = c.args.segment.now in
    let groups : List ℕ = c.args.groups.now in
    let row : ℕ = c.args.row in
    elim (cases_eq j c.loop-i.i) [
      | inl e ↦ subst (HasId segment groups row c.put_id.new.ids) (sym e) c.put_id.ensures.own
      | inr ne ↦
          subst (IsIdAt (column_of segment (get_or groups j 0)) row) (sym (c.put_id.ensures.others j ne)) (c.loop-i.invariant j (omega (arith, lt, ne)))
    ]

pub returns : goal.returns
returns c = record {
  count = omega (arith, c.loop-i.auto.ids, c.requires.same);
  each = λ j lt. c.loop-i.invariant j (omega (arith, lt, c.loop-i-test.false));
}
