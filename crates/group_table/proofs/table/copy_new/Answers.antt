use Rattle.std.proofs.Common.{◌≡◌, ◌∙◌, ◌-◌, ◌+◌, ◌∷◌, ◌++◌, [], drop, true, false, ap, sym, arith, rules}
use Rattle.std.specs.Map.{keys_of}
use Rattle.group_table.specs.Pooled.{has_slot, new_keys}
use Rattle.group_table.proofs.NewKeys.{drop_keys, new_there, new_absent}
use Rattle.group_table.proofs.table.copy_new.Goals as goal

pub keys-preserved-in_ok-push : goal.keys-preserved-in_ok-push
keys-preserved-in_ok-push c =
    let ks = keys_of c.args.from.now.entries in
    let there = has_slot c.args.own.now.entries in
    let key = c.in-Some.key.now in
    let at = c.keys.at - 1 in
    let step : drop at ks ≡ key ∷ drop (at + 1) ks = drop_keys c.args.from.now.entries at key c.in-Some.field-0-1.now c.in-Some.ensures.entry in
    let next : at + 1 ≡ c.keys.at = omega (arith, c.keys-test.true) in
    let absent : there key ≡ false = search rules in
    record {
      within = omega (arith, c.keys.invariant.within);
      copied = c.in_ok-push.ensures.items ∙ (λ i. c.keys.invariant.copied i ++ c.in_ok-copy_row.ensures i ∷ [])
          ∙ ap (λ n. new_keys there (drop n ks) ++ key ∷ []) (sym next)
          ∙ sym (new_absent there key (drop (at + 1) ks) absent) ∙ ap (new_keys there) (sym step);
    }

pub keys-preserved : goal.keys-preserved
keys-preserved c =
    let ks = keys_of c.args.from.now.entries in
    let there = has_slot c.args.own.now.entries in
    let key = c.in-Some.key.now in
    let at = c.keys.at - 1 in
    let step : drop at ks ≡ key ∷ drop (at + 1) ks = drop_keys c.args.from.now.entries at key c.in-Some.field-0-1.now c.in-Some.ensures.entry in
    let next : at + 1 ≡ c.keys.at = omega (arith, c.keys-test.true) in
    let present : there key ≡ true = search rules in
    record {
      within = omega (arith, c.keys.invariant.within);
      copied = c.keys.invariant.copied ∙ ap (λ n. new_keys there (drop n ks)) (sym next)
          ∙ sym (new_there there key (drop (at + 1) ks) present) ∙ ap (new_keys there) (sym step);
    }
