use Rattle.std.proofs.Common.{◌&&◌, ap, ◌∙◌, length, drop, sym}
use Rattle.std.specs.Str.{bytes_eq}
use Rattle.std.proofs.lemmas.List.{take_rest}
use Rattle.query_bind.proofs.Joined.{joined_parts, joined_short}
use Rattle.query_bind.proofs.checks.is_joined.Goals as goal

pub returns-then-name-middle : goal.returns-then-name-middle
returns-then-name-middle c = joined_short c.args.name.now c.args.front.now c.args.back.now c.if-name-middle.true

pub returns-then-eq : goal.returns-then-eq
returns-then-eq c =
    let name = c.args.name.now in
    let front = c.args.front.now in
    let back = c.args.back.now in
    c.eq-then-eq.ensures ∙ ap (λ rest. bytes_eq rest back) (take_rest name (length front))
    ∙ ap (λ b. b && bytes_eq (drop (length front) name) back) (sym (sym c.eq.ensures ∙ c.if-eq.true))
    ∙ joined_parts name front back c.if-name-middle.false

pub returns-else-eq : goal.returns-else-eq
returns-else-eq c =
    let name = c.args.name.now in
    let front = c.args.front.now in
    let back = c.args.back.now in
    c.if-eq.false ∙ ap (λ b. b && bytes_eq (drop (length front) name) back) (sym (sym c.eq.ensures ∙ c.if-eq.false))
    ∙ joined_parts name front back c.if-name-middle.false
