use Rattle.std.proofs.Common.{arith}
use Rattle.coded_columns.proofs.keyed_rows.KeyedRows.put_ids.Goals as goal

pub overflow_cast-key : goal.overflow_cast-key
overflow_cast-key c = omega (arith, c.requires.kept.key, c.requires.kept.packed.few c.if-self.true)
