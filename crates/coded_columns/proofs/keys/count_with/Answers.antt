use Rattle.std.proofs.Common.{◌∙◌, ◌*◌, ℕ, Option, MatchOption, ap, sym, subst}
use Rattle.coded_columns.specs.declared.coded.Coded.{Coded}
use Rattle.coded_columns.specs.Coded.{IsOfField, IsUnread}
use Rattle.coded_columns.proofs.CodedLemmas.{looked}
use Rattle.coded_columns.proofs.KeySteps.{keys-more, keys-unread}
use Rattle.coded_columns.proofs.keys.count_with.Goals as goal

pub returns-in-Some : goal.returns-in-Some
returns-in-Some c = λ groups keys le.
    let segment = c.args.segment.now in
    let group : ℕ = c.args.group in
    let found = sym c.at.ensures ∙ c.in-Some.is in
    keys-more segment groups group c.in-Some.column c.args.size c.times.result keys found
    (subst (λ (o : Option Coded). MatchOption o (IsUnread segment group) (IsOfField segment group)) found (looked segment group))
    (c.times.ensures ∙ ap (λ n. c.args.size * n) c.count.ensures.count) le

pub returns-in-None : goal.returns-in-None
returns-in-None c = λ groups keys le.
    let segment = c.args.segment.now in
    let group : ℕ = c.args.group in
    let found = sym c.at.ensures ∙ c.in-None.is in
    keys-unread segment groups group c.args.size keys found
    (subst (λ (o : Option Coded). MatchOption o (IsUnread segment group) (IsOfField segment group)) found (looked segment group))
