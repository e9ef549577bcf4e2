use Rattle.std.proofs.Common.{◌≡◌, ◌∙◌, ◌++◌, ◌∷◌, [], ℕ, List, ap, sym, arith, get_or}
use Rattle.std.proofs.lemmas.Bool.{OnTrue_at}
use Rattle.std.proofs.lemmas.List.{take_all, take_more}
use Rattle.std.proofs.lemmas.Option.{get_or_from_slice_get}
use Rattle.values.specs.declared.value.Value.{Value}
use Rattle.values.specs.Columns.{row_of}
use Rattle.table_schema.specs.Conditions.{cell}
use Rattle.group_table.specs.Groups.{key_of}
use Rattle.coded_columns.specs.Coded.{table_of}
use Rattle.coded_scan.proofs.KeyedMerges.{key-next}
use Rattle.coded_scan.proofs.merging.is_key.Goals as goal

pub is_value-requires : goal.is_value-requires
is_value-requires c =
    let told = c.requires.row in
    record { row = told.row; within = told.within; is = told.are.each c.loop-at.at c.loop-at-test.true }

pub loop-at-preserved : goal.loop-at-preserved
loop-at-preserved c = λ row lt are.
    let columns : List ℕ = c.args.columns.now in
    let key : List Value = c.args.key.now in
    let at : ℕ = c.loop-at.at in
    let own : List Value = row_of (table_of c.args.segment.now).columns row in
    let v : Value = c.at.result.now in
    let value : get_or key at v ≡ cell own (get_or columns at 0) =
    get_or_from_slice_get key at v v c.at.ensures ∙ OnTrue_at c.if-not-is_value.false c.is_value.ensures row lt (are.each at c.loop-at-test.true) in
    take_more key at v (omega (arith, c.loop-at-test.true, c.requires.key))
    ∙ (λ j. c.loop-at.invariant row lt are j ++ value j ∷ [])
    ∙ sym (key-next columns at own c.loop-at-test.true)

pub returns : goal.returns
returns c = λ row lt are.
    let columns : List ℕ = c.args.columns.now in
    let key : List Value = c.args.key.now in
    let at : ℕ = c.loop-at.at in
    let own : List Value = row_of (table_of c.args.segment.now).columns row in
    sym (take_all at key (omega (arith, c.loop-at-test.false, c.requires.key)))
    ∙ c.loop-at.invariant row lt are
    ∙ ap (λ (l : List ℕ). key_of l own) (take_all at columns (omega (arith, c.loop-at-test.false)))
