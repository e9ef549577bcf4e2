use Rattle.std.proofs.Common.{ap, subst, sym}
use Rattle.values.specs.Columns.{Listed}
use Rattle.commands.specs.GeneratedColumns.{HasSorts}
use Rattle.commands.specs.declared.generated.Generated.{Generated}
use Rattle.commands.proofs.GeneratedLemmas.{AreSoFar, none_yet, one_more, sorts_still}
use Rattle.commands.proofs.generated.columns_of.Goals as goal

pub each-init : goal.each-init
each-init c =
    let empty : Generated = record { a = c.texts.result; b = c.numbers.result; c = c.numbers-2.result; m = c.numbers-3.result } in
    record {
      sorts = subst HasSorts (sym c.make_room.ensures) (record {
        a = ap (λ (k : Listed). k.are_texts) c.texts.ensures;
        b = ap (λ (k : Listed). k.are_texts) c.numbers.ensures;
        c = ap (λ (k : Listed). k.are_texts) c.numbers-2.ensures;
        m = ap (λ (k : Listed). k.are_texts) c.numbers-3.ensures;
      });
      so_far = subst (AreSoFar 0) (sym c.make_room.ensures) (none_yet empty c.texts.ensures c.numbers.ensures c.numbers-2.ensures c.numbers-3.ensures);
    }

pub each-preserved : goal.each-preserved
each-preserved c = record {
  sorts = sorts_still c.each.row c.each.made c.push_row.new.made c.each.invariant.sorts c.in_ok-push_row.ensures;
  so_far = one_more c.each.row c.each.made c.push_row.new.made c.each.invariant.so_far c.in_ok-push_row.ensures;
}
