use Rattle.std.proofs.Common.{◌≡◌, ◌∙◌, ◌+◌, ◌∷◌, length, drop, true, false, ap, arith, rules}
use Rattle.std.specs.Map.{keys_of}
use Rattle.group_table.specs.Pooled.{has_slot, new_keys}
use Rattle.group_table.proofs.NewKeys.{drop_keys, new_there, more_absent}
use Rattle.group_table.proofs.table.count_new.Goals.{then-is_none, else-is_none}
use Rattle.group_table.proofs.table.count_new.Goals as goal

pub loop-at-preserved : goal.loop-at-preserved
loop-at-preserved c =
    let ks = keys_of c.args.from.now.entries in
    let there = has_slot c.args.own.now.entries in
    let key = c.in-Some.key.now in
    let rest = drop (c.loop-at.at + 1) ks in
    let step : drop c.loop-at.at ks ≡ key ∷ rest = drop_keys c.args.from.now.entries c.loop-at.at key c.in-Some.field-0-1.now c.in-Some.ensures.entry in
    elim c.if-is_none.branch [
      | then-is_none w ↦
          let absent : there key ≡ false = search rules in
          let more = ap (λ l. length (new_keys there l)) step ∙ more_absent there key rest absent in record {
            few = omega (arith, w.count-is, c.loop-at.invariant.few);
            counted = omega (arith, w.count-is, more, c.loop-at.invariant.counted);
          }
      | else-is_none w ↦
          let present : there key ≡ true = search rules in
          let same = ap (λ l. length (new_keys there l)) step ∙ ap length (new_there there key rest present) in record {
            few = omega (arith, w.count-is, c.loop-at.invariant.few);
            counted = omega (arith, w.count-is, same, c.loop-at.invariant.counted);
          }
    ]
