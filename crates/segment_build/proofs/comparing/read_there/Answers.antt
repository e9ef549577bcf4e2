use Rattle.std.proofs.Common.{◌+◌, length, arith}
use Rattle.outside.proofs.ReadLemmas.{LogsFilled-through}
use Rattle.segment_build.specs.FileReads.{file_through, file_up}
use Rattle.segment_build.proofs.OnceReads.{once_filled, once_up}
use Rattle.segment_build.proofs.comparing.read_there.Goals as goal

pub returns-in-Ok-clause-log : goal.returns-in-Ok-clause-log
returns-in-Ok-clause-log g c =
    let file = c.args.file.now in
    let from = c.args.at in
    let first = g.S.Shelf.log c.args.shelf.now in
    let now = g.S.Shelf.log c.read_into.new.shelf in
    file_through file from (from + c.in-Ok.count) first now (LogsFilled-through file from (from + c.in-Ok.count) (from + length c.args.into.now) first now c.in-Ok.ensures.log)

pub returns-in-Err-Missing-clause-log : goal.returns-in-Err-Missing-clause-log
returns-in-Err-Missing-clause-log g c = file_up c.args.file.now c.args.at (c.args.at + length c.args.into.now) (g.S.Shelf.log c.args.shelf.now) (g.S.Shelf.log c.read_into.new.shelf) c.in-Err-Missing.ensures.log_of_fault

pub returns-in-Err-Failed-clause-log : goal.returns-in-Err-Failed-clause-log
returns-in-Err-Failed-clause-log g c = file_up c.args.file.now c.args.at (c.args.at + length c.args.into.now) (g.S.Shelf.log c.args.shelf.now) (g.S.Shelf.log c.read_into.new.shelf) c.in-Err-Failed.ensures.log_of_fault

pub returns-in-Err-NoMemory-clause-log : goal.returns-in-Err-NoMemory-clause-log
returns-in-Err-NoMemory-clause-log g c = file_up c.args.file.now c.args.at (c.args.at + length c.args.into.now) (g.S.Shelf.log c.args.shelf.now) (g.S.Shelf.log c.read_into.new.shelf) c.in-Err-NoMemory.ensures.log_of_fault

pub returns-in-Ok-clause-once : goal.returns-in-Ok-clause-once
returns-in-Ok-clause-once g c =
    let file = c.args.file.now in
    let from = c.args.at in
    let end = from + length c.args.into.now in
    once_filled file from (from + c.in-Ok.count) end end (g.S.Shelf.log c.args.shelf.now) (g.S.Shelf.log c.read_into.new.shelf) c.in-Ok.ensures.log (omega (arith, c.in-Ok.ensures.bound))

pub returns-in-Err-Missing-clause-once : goal.returns-in-Err-Missing-clause-once
returns-in-Err-Missing-clause-once g c = once_up c.args.file.now c.args.at (c.args.at + length c.args.into.now) (g.S.Shelf.log c.args.shelf.now) (g.S.Shelf.log c.read_into.new.shelf) c.in-Err-Missing.ensures.log_of_fault

pub returns-in-Err-Failed-clause-once : goal.returns-in-Err-Failed-clause-once
returns-in-Err-Failed-clause-once g c = once_up c.args.file.now c.args.at (c.args.at + length c.args.into.now) (g.S.Shelf.log c.args.shelf.now) (g.S.Shelf.log c.read_into.new.shelf) c.in-Err-Failed.ensures.log_of_fault

pub returns-in-Err-NoMemory-clause-once : goal.returns-in-Err-NoMemory-clause-once
returns-in-Err-NoMemory-clause-once g c = once_up c.args.file.now c.args.at (c.args.at + length c.args.into.now) (g.S.Shelf.log c.args.shelf.now) (g.S.Shelf.log c.read_into.new.shelf) c.in-Err-NoMemory.ensures.log_of_fault
