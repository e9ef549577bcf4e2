-- The checks of a field that come before others, where they found nothing.
use Rattle.std.proofs.Common.{◌≡◌, ◌<◌, List, length, map, nat_lt, true, cond, None, Some, sym, ap, ◌∙◌, rules, tests}
use Rattle.json_keys.specs.declared.fault.KeyKind.TheVariants.{TooMany}
use Rattle.json_keys.specs.declared.fault.TextFault.TheVariants.{At}
use Rattle.json_keys.specs.Faults.{Finding, fault_unless}
use Rattle.json_keys.proofs.Places.{length-map}
use Rattle.table_schema.specs.declared.field.Field.{Field}
use Rattle.table_schema.specs.Firsts.{or_else}
use Rattle.table_schema.specs.Names.{Text}

pub few_fields : (fields : List Field) (path : Text) → length fields < 64 → fault_unless (nat_lt (length (map (λ f. f.name) fields)) 64) TooMany path ≡ None
few_fields fields path at_most =
    let passes : nat_lt (length fields) 64 ≡ true = search (rules, tests) in
    ap (λ n. cond (nat_lt n 64) None (Some (At TooMany path))) (length-map (λ f. f.name) fields) ∙ ap (λ b. cond b None (Some (At TooMany path))) passes

-- three checks that found nothing, before others
pub after_three : (a b c rest : Finding) → a ≡ None → b ≡ None → c ≡ None → rest ≡ or_else a (or_else b (or_else c rest))
after_three a b c rest first second third =
    sym (ap (λ f. or_else f (or_else b (or_else c rest))) first ∙ ap (λ f. or_else f (or_else c rest)) second ∙ ap (λ f. or_else f rest) third)
