use Rattle.std.proofs.Common.{arith, length, ◌*◌}
use Rattle.bit_column.proofs.Spelling.{zeros_following, length-spelled, spelled-bits, id-written, ids-written, readable-written}
use Rattle.bit_column.proofs.laws.reads_back.Goals as goal

pub returns-clause-length : goal.returns-clause-length
returns-clause-length c = length-spelled

pub returns-clause-bits : goal.returns-clause-bits
returns-clause-bits c = λ width ids. (zeros_following (length ids * width), omega arith, spelled-bits width ids)

pub returns-clause-at : goal.returns-clause-at
returns-clause-at c = id-written

pub returns-clause-between : goal.returns-clause-between
returns-clause-between c = ids-written

pub returns-clause-readable : goal.returns-clause-readable
returns-clause-readable c = readable-written
