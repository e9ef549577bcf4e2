use Rattle.std.proofs.Common.{ℕ, Bool, List, subst, take}
use Rattle.std.proofs.lemmas.List.{take_all}
use Rattle.values.specs.Columns.{row_of}
use Rattle.table_schema.specs.Conditions.{all_hold, conjunct_holds}
use Rattle.table_schema.specs.declared.query.Conjunct.{Conjunct}
use Rattle.scan_engine.specs.Selection.{Keeps}
use Rattle.scan_engine.proofs.SelectionLemmas.{all-more, and_true, keeps-both}
use Rattle.scan_engine.proofs.selection.keep_all.Goals as goal

pub loop-conjunct-init : goal.loop-conjunct-init
loop-conjunct-init c = λ at lt. and_true _

pub loop-conjunct-preserved : goal.loop-conjunct-preserved
loop-conjunct-preserved c =
    let columns = c.args.table.columns.now.columns in
    let i = c.loop-conjunct.conjunct-index in
    let first : ℕ → Bool = λ at. all_hold (row_of columns at) (take i c.args.conjuncts.now) in
    let next : ℕ → Bool = λ at. conjunct_holds (row_of columns at) c.conjunct-item.result in
    keeps-both first next _ c.args.marks.now c.loop-conjunct.marks c.keep_conjunct.new.marks c.loop-conjunct.auto.marks
    (λ at. all-more (conjunct_holds (row_of columns at)) c.args.conjuncts.now i c.conjunct-item.result c.loop-conjunct-test.true c.conjunct-item.is) c.loop-conjunct.invariant c.keep_conjunct.ensures

pub returns : goal.returns
returns c =
    subst (λ (conjuncts : List Conjunct). Keeps (λ at. all_hold (row_of c.args.table.columns.now.columns at) conjuncts) c.args.marks.now c.loop-conjunct.marks)
    (take_all c.loop-conjunct.conjunct-index c.args.conjuncts.now c.loop-conjunct-test.false) c.loop-conjunct.invariant
