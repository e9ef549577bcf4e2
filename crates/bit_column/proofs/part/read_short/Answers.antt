use Rattle.std.proofs.Common.{rules, ◌≡◌, ◌<◌, ◌+◌, arith, subst}
use Rattle.outside.specs.Reads.{LogsOn, LogsUpTo}
use Rattle.outside.proofs.ReadLemmas.{logs-none}
use Rattle.bit_column.proofs.ReadSteps.{LogsOn-append, LogsUpTo-after}
use Rattle.bit_column.proofs.part.read_short.Goals as goal

pub returns-then-part : goal.returns-then-part
returns-then-part g c = record {
  part = search rules;
  only_reads = search rules;
  log = search rules;
  log_of_fault =
      logs-none c.args.part.name.now (c.args.part.offset + c.args.part.from) (c.args.part.offset + c.args.part.to) (g.S.Shelf.log c.args.shelf.now) (g.S.Shelf.log c.past_all.new.shelf) (omega (arith, c.args.part.order)) c.past_all.ensures.log;
  short = search rules;
}

pub returns-in-Ok-read_part : goal.returns-in-Ok-read_part
returns-in-Ok-read_part g c = record {
  part = search rules;
  only_reads = search rules;
  log =
      let name = c.args.part.name.now in
      let start = c.args.part.offset + c.args.part.from in
      let end = c.args.part.offset + c.args.part.to in
      let n = c.in-Ok.n in
      let between = g.S.Shelf.log c.read_once.new.shelf in
      let last = g.S.Shelf.log c.read_part.new.shelf in
      let some : 0 < n = omega (arith, c.if-n-eq0.false) in
      let there : c.args.part.offset + (c.args.part.from + n) ≡ start + n = omega arith in
      LogsOn-append name start (start + n) end (g.S.Shelf.log c.args.shelf.now) between last (c.in-Ok.ensures.some some)
      (subst (λ k. LogsOn name k end between last) there c.in-Ok-read_part.ensures.log);
  log_of_fault = search rules;
  short = search rules;
}

pub returns-in-Err-read_part : goal.returns-in-Err-read_part
returns-in-Err-read_part g c = record {
  part = search rules;
  only_reads = search rules;
  log = search rules;
  log_of_fault =
      let name = c.args.part.name.now in
      let start = c.args.part.offset + c.args.part.from in
      let end = c.args.part.offset + c.args.part.to in
      let n = c.in-Ok.n in
      let between = g.S.Shelf.log c.read_once.new.shelf in
      let last = g.S.Shelf.log c.read_part.new.shelf in
      let some : 0 < n = omega (arith, c.if-n-eq0.false) in
      let there : c.args.part.offset + (c.args.part.from + n) ≡ start + n = omega arith in
      LogsUpTo-after name start (start + n) end (g.S.Shelf.log c.args.shelf.now) between last (c.in-Ok.ensures.some some)
      (subst (λ k. LogsUpTo name k end between last) there c.in-Err-read_part.ensures.log_of_fault);
  short = search rules;
}
