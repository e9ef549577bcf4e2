use Rattle.std.proofs.Common.{◌≡◌, None, ap, ◌∙◌}
use Rattle.std.proofs.lemmas.Result.{err_from_is_err_and}
use Rattle.json_keys.specs.declared.fault.TextFault.{TextFault}
use Rattle.json_keys.specs.Faults.{Finding, Refuses}
use Rattle.table_schema.specs.Firsts.{or_else}
use Rattle.settings_parts.proofs.index_text.index_lists.Goals as goal

fourth_refuses : (a b c d : Finding) (e : TextFault) → a ≡ None → b ≡ None → c ≡ None → Refuses d e → Refuses (or_else a (or_else b (or_else c (or_else d None)))) e
fourth_refuses a b c d e first second third refuses = λ other.
    ap (λ f. or_else f (or_else b (or_else c (or_else d None)))) first ∙ ap (λ f. or_else f (or_else c (or_else d None))) second ∙ ap (λ f. or_else f (or_else d None)) third ∙ ap (λ f. or_else f None) (refuses other)

pub returns-in_err-trees-clause-err : goal.returns-in_err-trees-clause-err
returns-in_err-trees-clause-err c =
    let p = err_from_is_err_and c.from_residual-in_err-trees.result c.from_residual-in_err-trees.ensures.1 in
    rw (p.1, p.2) (fourth_refuses _ _ _ _ c.in_err-trees.field-0.0 c.in_ok-inverted.ensures.ok c.in_ok-ranged.ensures.ok c.in_ok-raw.ensures.ok c.in_err-trees.ensures)
