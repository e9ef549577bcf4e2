use Rattle.std.proofs.Common.{◌-◌, arith}
use Rattle.bit_column.proofs.Pushed.{begins-grown, four-pushed}
use Rattle.bit_column.proofs.writing.push_word.Goals as goal

pub returns-clause-bits : goal.returns-clause-bits
returns-clause-bits c = four-pushed c.args.out.now.items c.extend_from_slice.new.self.items c.four_bytes.result c.args.have (c.args.have - 32) c.args.window c.in_ok-extend_from_slice.ensures.items (omega arith) c.four_bytes.ensures

pub returns-clause-kept : goal.returns-clause-kept
returns-clause-kept c = begins-grown c.args.out.now.items c.extend_from_slice.new.self.items c.four_bytes.result c.in_ok-extend_from_slice.ensures.items
