use Rattle.std.proofs.Common.{◌∙◌, ◌++◌, ◌∷◌, [], ℕ, List, ap, sym, arith, take}
use Rattle.std.proofs.lemmas.List.{take_all}
use Rattle.values.specs.declared.value.Value.{Value}
use Rattle.values.specs.Columns.{row_of}
use Rattle.group_table.specs.Groups.{key_of}
use Rattle.coded_columns.specs.Coded.{table_of}
use Rattle.coded_scan.proofs.KeyedMerges.{key-next}
use Rattle.coded_scan.proofs.merging.key_by_ids.Goals as goal

pub shared_value-requires : goal.shared_value-requires
shared_value-requires c =
    let told = c.requires.row in
    record { row = told.row; within = told.within; is = told.are.each c.loop-at.at c.loop-at-test.true }

pub loop-at-preserved : goal.loop-at-preserved
loop-at-preserved c = λ row lt are.
    let columns : List ℕ = c.args.columns.now in
    let own : List Value = row_of (table_of c.args.segment.now).columns row in
    c.in_ok-push.ensures.items ∙ ap (λ (l : List Value). l ++ c.in_ok-value.value ∷ []) (c.loop-at.invariant row lt are)
    ∙ ap (λ (v : Value). key_of (take c.loop-at.at columns) own ++ v ∷ []) (c.in_ok-value.ensures row lt (are.each c.loop-at.at c.loop-at-test.true))
    ∙ sym (key-next columns c.loop-at.at own c.loop-at-test.true)

pub returns : goal.returns
returns c = λ row lt are.
    let columns : List ℕ = c.args.columns.now in
    c.from_vec.ensures ∙ c.loop-at.invariant row lt are
    ∙ ap (λ (l : List ℕ). key_of l (row_of (table_of c.args.segment.now).columns row)) (take_all c.loop-at.at columns (omega (arith, c.loop-at-test.false)))
