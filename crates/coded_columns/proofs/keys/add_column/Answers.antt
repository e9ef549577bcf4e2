use Rattle.std.proofs.Common.{◌∙◌, ◌<◌, ◌+◌, ◌*◌, ℕ, Option, MatchOption, get_or, ap, sym, subst, arith}
use Rattle.coded_columns.specs.declared.coded.Coded.{Coded}
use Rattle.coded_columns.specs.Coded.{IsOfField, IsUnread, most_rows}
use Rattle.coded_columns.specs.Keys.{packed_with}
use Rattle.coded_columns.proofs.CodedLemmas.{looked}
use Rattle.coded_columns.proofs.keys.add_column.Goals as goal

pub add_ids-requires-clause-rows : goal.add_ids-requires-clause-rows
add_ids-requires-clause-rows c =
    let segment = c.args.placed.segment.now in
    let group : ℕ = c.args.group in
    let of = subst (λ (o : Option Coded). MatchOption o (IsUnread segment group) (IsOfField segment group)) (sym c.at.ensures ∙ c.in-Some.is) (looked segment group) in
    λ k d lt. omega (arith, c.args.placed.within k d lt, of.ids.count)

pub add_ids-requires-clause-fits : goal.add_ids-requires-clause-fits
add_ids-requires-clause-fits c = λ k lt.
    let key : ℕ = get_or c.args.keys.now k 0 in
    let at : ℕ = get_or c.args.placed.places.now k 0 in
    subst (λ n. key * n + get_or c.in-Some.column.ids.now at 0 < most_rows) (sym c.count.ensures.count)
    (subst (λ (o : Option Coded). packed_with o key at < most_rows) (sym c.at.ensures ∙ c.in-Some.is) (c.requires.fits k lt))

pub returns-in-Some : goal.returns-in-Some
returns-in-Some c = λ k lt.
    let key : ℕ = get_or c.args.keys.now k 0 in
    let at : ℕ = get_or c.args.placed.places.now k 0 in
    c.add_ids.ensures k lt ∙ ap (λ n. key * n + get_or c.in-Some.column.ids.now at 0) c.count.ensures.count
    ∙ ap (λ (o : Option Coded). packed_with o key at) (sym c.in-Some.is ∙ c.at.ensures)

pub returns-in-None : goal.returns-in-None
returns-in-None c = λ k lt. ap (λ (o : Option Coded). packed_with o (get_or c.args.keys.now k 0) (get_or c.args.placed.places.now k 0)) (sym c.in-None.is ∙ c.at.ensures)
