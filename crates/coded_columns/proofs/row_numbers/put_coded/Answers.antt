use Rattle.std.proofs.Common.{◌∙◌, get_or, pos, sym}
use Rattle.coded_columns.proofs.SortSteps.{text-zero, zero-whole}
use Rattle.coded_columns.proofs.row_numbers.put_coded.Goals as goal

pub returns-in-None-clause-each : goal.returns-in-None-clause-each
returns-in-None-clause-each c = λ k lt.
    c.put_zeros.ensures k (pos 0) lt ∙ sym (text-zero c.args.column.dictionary.now.values (get_or c.args.column.ids.now (get_or c.args.placed.places.now k 0) 0) c.in-None.ensures)

pub returns-in-None-clause-whole : goal.returns-in-None-clause-whole
returns-in-None-clause-whole c = λ k d lt. zero-whole (get_or c.put_zeros.new.out k d) (c.put_zeros.ensures k d lt)
