use Rattle.std.proofs.Common.{◌-◌, cond, codes, length, take, sym, ap, ◌∙◌}
use Rattle.std.proofs.lemmas.Str.Pattern.{ends_text}
use Rattle.settings_parts.proofs.head.bare_name.Goals as goal

pub returns-else-ends_with : goal.returns-else-ends_with
returns-else-ends_with c =
    let name = c.args.name.now in
    sym (ap (λ b. cond b (take (length name - 8) name) name) (sym (ends_text c.ends_with.result (codes "_OFFLINE") name c.ends_with.ensures.cases) ∙ c.if-ends_with.false))
