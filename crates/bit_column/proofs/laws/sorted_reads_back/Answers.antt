use Rattle.bit_column.proofs.SortedLaws.{sorted_length, run_read}
use Rattle.bit_column.proofs.laws.sorted_reads_back.Goals as goal

pub returns-clause-length : goal.returns-clause-length
returns-clause-length c = sorted_length

pub returns-clause-run : goal.returns-clause-run
returns-clause-run c = λ count key keys up at_most known. run_read keys at_most count key up known
