use Rattle.std.proofs.Common.{length, arith, subst}
use Rattle.outside.specs.Reads.{LogsFilled, LogsThrough}
use Rattle.outside.proofs.ReadLemmas.{LogsFilled-start, LogsFilled-told, LogsFilled-through, whole-bytes}
use Rattle.outside.proofs.whole.read_all.Goals as goal

pub returns-in-Ok-read_bytes-clause-whole : goal.returns-in-Ok-read_bytes-clause-whole
returns-in-Ok-read_bytes-clause-whole g c =
    whole-bytes (g.S.Shelf.held c.args.shelf.now) (g.S.Shelf.held c.length.new.self) c.args.name.now c.in-Ok-read_bytes.bytes c.in-Ok.length c.args.limit c.in-Ok.ensures.only_reads.held c.in-Ok.ensures.length (omega arith) c.in-Ok-read_bytes.ensures.bytes

pub returns-in-Ok-read_bytes-clause-log : goal.returns-in-Ok-read_bytes-clause-log
returns-in-Ok-read_bytes-clause-log g c =
    let name = c.args.name.now in
    let count = length c.in-Ok-read_bytes.bytes in
    let before = g.S.Shelf.log c.length.new.self in
    let now = g.S.Shelf.log c.read_bytes.new.shelf in
    let filled = LogsFilled-start name count c.in-Ok.length before now c.in-Ok-read_bytes.ensures.log in
    subst (λ first. LogsThrough name 0 count first now) c.in-Ok.ensures.log (LogsFilled-through name 0 count c.in-Ok.length before now filled)

pub returns-in-Ok-read_bytes-clause-log_to_end : goal.returns-in-Ok-read_bytes-clause-log_to_end
returns-in-Ok-read_bytes-clause-log_to_end g c =
    let name = c.args.name.now in
    let count = length c.in-Ok-read_bytes.bytes in
    let before = g.S.Shelf.log c.length.new.self in
    let now = g.S.Shelf.log c.read_bytes.new.shelf in
    (c.in-Ok.length, omega arith, subst (λ first. LogsFilled name 0 count c.in-Ok.length first now) c.in-Ok.ensures.log (LogsFilled-start name count c.in-Ok.length before now c.in-Ok-read_bytes.ensures.log))

pub returns-in-Ok-read_bytes-clause-log_of_told : goal.returns-in-Ok-read_bytes-clause-log_of_told
returns-in-Ok-read_bytes-clause-log_of_told g c =
    let name = c.args.name.now in
    let held = g.S.Shelf.held c.args.shelf.now in
    let bytes = c.in-Ok-read_bytes.bytes in
    let lengths = c.in-Ok.length in
    let before = g.S.Shelf.log c.length.new.self in
    let now = g.S.Shelf.log c.read_bytes.new.shelf in
    let whole = whole-bytes held (g.S.Shelf.held c.length.new.self) name bytes lengths c.args.limit c.in-Ok.ensures.only_reads.held c.in-Ok.ensures.length (omega arith) c.in-Ok-read_bytes.ensures.bytes in
    LogsFilled-told held name bytes lengths c.args.limit (g.S.Shelf.log c.args.shelf.now) now c.in-Ok.ensures.length whole
    (subst (λ first. LogsFilled name 0 (length bytes) lengths first now) c.in-Ok.ensures.log (LogsFilled-start name (length bytes) lengths before now c.in-Ok-read_bytes.ensures.log))
