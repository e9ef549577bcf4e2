use Rattle.std.proofs.Common.{◌≡◌, ◌∙◌, ◌+◌, ◌*◌, ℕ, Option, MatchOption, get_or, length, ap, sym, subst, arith}
use Rattle.coded_columns.specs.declared.coded.Coded.{Coded}
use Rattle.coded_columns.specs.Coded.{IsOfField, IsUnread}
use Rattle.coded_columns.specs.Keys.{packed_with}
use Rattle.coded_columns.proofs.CodedLemmas.{looked}
use Rattle.coded_columns.proofs.keys.put_column.Goals as goal

pub put_ids-requires-clause-rows : goal.put_ids-requires-clause-rows
put_ids-requires-clause-rows c =
    let segment = c.args.placed.segment.now in
    let group : ℕ = c.args.group in
    let of = subst (λ (o : Option Coded). MatchOption o (IsUnread segment group) (IsOfField segment group)) (sym c.at.ensures ∙ c.in-Some.is) (looked segment group) in
    λ k d lt. omega (arith, c.args.placed.within k d lt, of.ids.count)

pub returns-in-Some-clause-each : goal.returns-in-Some-clause-each
returns-in-Some-clause-each c = λ k lt.
    let at : ℕ = get_or c.args.placed.places.now k 0 in
    let id : ℕ = get_or c.in-Some.column.ids.now at 0 in
    let alone : id ≡ 0 * length c.in-Some.column.dictionary.now.values + id = omega arith in
    c.put_ids.ensures.each k lt ∙ alone ∙ ap (λ (o : Option Coded). packed_with o 0 at) (sym c.in-Some.is ∙ c.at.ensures)

pub returns-in-None-clause-each : goal.returns-in-None-clause-each
returns-in-None-clause-each c = λ k lt.
    c.put_zeros.ensures.each k (omega (arith, lt, c.requires, c.put_zeros.ensures.same)) ∙ ap (λ (o : Option Coded). packed_with o 0 (get_or c.args.placed.places.now k 0)) (sym c.in-None.is ∙ c.at.ensures)
