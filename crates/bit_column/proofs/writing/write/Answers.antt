use Rattle.std.proofs.Common.{rules}
use Rattle.bit_column.proofs.Spelling.{written}
use Rattle.bit_column.proofs.writing.write.Goals as goal

pub returns : goal.returns
returns c = record {
  ok =
      let bits = c.in_default.ensures.bits in
      written c.args.out.now.items c.push_ids.new.out.items c.args.ids.now c.args.width bits.0 c.in_default.ensures.kept (λ i within. c.type_inv.out i 0 within) bits.1 bits.2;
  err = search rules;
}
