use Rattle.std.proofs.Common.{List}
use Rattle.std.proofs.lemmas.Bool.{OnTrue_at}
use Rattle.values.specs.declared.value.Value.{Value}
use Rattle.values.specs.Columns.{row_of}
use Rattle.group_table.specs.Groups.{key_of}
use Rattle.coded_columns.specs.Coded.{table_of}
use Rattle.coded_scan.proofs.KeyedMerges.{found-key}
use Rattle.coded_scan.proofs.merging.known_place.Goals as goal

pub returns-then-has_key : goal.returns-then-has_key
returns-then-has_key c = OnTrue_at c.if-has_key.true c.has_key.ensures

pub returns-then-has_key-2 : goal.returns-then-has_key-2
returns-then-has_key-2 c = OnTrue_at c.if-has_key-2.true c.has_key-in-Some.ensures

pub returns : goal.returns
returns c = λ row lt are.
    let own : List Value = key_of c.args.columns.now (row_of (table_of c.args.segment.now).columns row) in
    found-key c.find.result c.args.table.now c.in_ok-key.key own (c.in_ok-key.ensures row lt are) c.find.ensures
