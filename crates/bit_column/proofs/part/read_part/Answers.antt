use Rattle.std.proofs.Common.{rules, ◌+◌, arith}
use Rattle.outside.proofs.ReadLemmas.{LogsFilled-through, logs-none}
use Rattle.bit_column.proofs.part.read_part.Goals as goal

pub returns-then-part : goal.returns-then-part
returns-then-part g c = record {
  part = search rules;
  only_reads = search rules;
  log = search rules;
  log_of_fault =
      logs-none c.args.part.name.now (c.args.part.offset + c.args.part.from) (c.args.part.offset + c.args.part.to) (g.S.Shelf.log c.args.shelf.now) (g.S.Shelf.log c.past_all.new.shelf) (omega (arith, c.args.part.order)) c.past_all.ensures.log;
  short = search rules;
}

pub returns-then-count-into : goal.returns-then-count-into
returns-then-count-into g c = record {
  part = search rules;
  only_reads = search rules;
  log = search rules;
  log_of_fault =
      let start = c.args.part.offset + c.args.part.from in
      let count = c.in-Ok.count in
      (start + count, omega (arith, c.in-Ok.ensures.bound, c.requires), LogsFilled-through c.args.part.name.now start (start + count) _ (g.S.Shelf.log c.args.shelf.now) (g.S.Shelf.log c.read_into.new.shelf) c.in-Ok.ensures.log);
  short = search rules;
}
