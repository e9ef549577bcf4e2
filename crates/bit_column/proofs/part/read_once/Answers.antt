use Rattle.std.proofs.Common.{◌+◌, length, arith}
use Rattle.outside.proofs.ReadLemmas.{logs-none}
use Rattle.bit_column.proofs.ReadSteps.{one-on, one-up, read-fills}
use Rattle.bit_column.proofs.part.read_once.Goals as goal

pub returns-in-Ok-clause-front : goal.returns-in-Ok-clause-front
returns-in-Ok-clause-front g c =
    read-fills (g.S.Shelf.held c.args.shelf.now) c.args.name.now c.args.offset c.in-Ok.n c.args.into.now c.read_at.new.into (omega (arith, c.read_at.auto.into)) c.in-Ok.ensures.bytes

pub returns-in-Ok-clause-some : goal.returns-in-Ok-clause-some
returns-in-Ok-clause-some g c =
    one-on c.args.name.now c.args.offset c.in-Ok.n (g.S.Shelf.log c.args.shelf.now) (g.S.Shelf.log c.read_at.new.self) c.in-Ok.ensures.logged

pub returns-in-Ok-clause-log : goal.returns-in-Ok-clause-log
returns-in-Ok-clause-log g c =
    one-up c.args.name.now c.args.offset c.in-Ok.n (c.args.offset + length c.args.into.now) (g.S.Shelf.log c.args.shelf.now) (g.S.Shelf.log c.read_at.new.self) (omega (arith, c.in-Ok.ensures.bound)) c.in-Ok.ensures.logged

pub returns-in-Err-clause-log : goal.returns-in-Err-clause-log
returns-in-Err-clause-log g c =
    logs-none c.args.name.now c.args.offset (c.args.offset + length c.args.into.now) (g.S.Shelf.log c.args.shelf.now) (g.S.Shelf.log c.read_at.new.self) (omega arith) c.in-Err.ensures.not_logged
