use Rattle.std.proofs.Common.{◌≡◌, ◌∙◌, ◌/◌, ◌%◌, ℕ, Option, Some, MatchOption, List, get_or, set, ap, sym, subst, arith}
use Rattle.std.proofs.lemmas.List.{get_or-set_same}
use Rattle.coded_columns.specs.declared.coded.Coded.{Coded}
use Rattle.coded_columns.specs.Coded.{IsOfField, IsUnread, column_of}
use Rattle.coded_columns.specs.Keys.{IsIdAt, packed_with}
use Rattle.coded_columns.proofs.CodedLemmas.{looked}
use Rattle.coded_columns.proofs.KeyIdSteps.{last-id, some-value}
use Rattle.coded_columns.proofs.key_ids.put_last.Goals as goal

pub nonzero_rem-ids : goal.nonzero_rem-ids
nonzero_rem-ids c =
    let segment = c.args.segment.now in
    let group : ℕ = c.args.group in
    let column = c.in-Some.column in
    let found : column_of segment group ≡ Some column = sym c.at.ensures ∙ c.in-Some.is in
    let of = subst (λ (o : Option Coded). MatchOption o (IsUnread segment group) (IsOfField segment group)) found (looked segment group) in
    omega (arith, some-value segment.count column of.ids c.requires.rows, c.count-width.ensures.count)

pub nonzero_div-result : goal.nonzero_div-result
nonzero_div-result c =
    let segment = c.args.segment.now in
    let group : ℕ = c.args.group in
    let column = c.in-Some.column in
    let found : column_of segment group ≡ Some column = sym c.at.ensures ∙ c.in-Some.is in
    let of = subst (λ (o : Option Coded). MatchOption o (IsUnread segment group) (IsOfField segment group)) found (looked segment group) in
    omega (arith, some-value segment.count column of.ids c.requires.rows, c.count-width.ensures.count)

pub returns-in-Some-clause-own : goal.returns-in-Some-clause-own
returns-in-Some-clause-own c = λ row before lt e.
    let segment = c.args.segment.now in
    let group : ℕ = c.args.group in
    let ids : List ℕ = c.args.ids.now in
    let key : ℕ = c.args.key in
    let column = c.in-Some.column in
    let found : column_of segment group ≡ Some column = sym c.at.ensures ∙ c.in-Some.is in
    let of = subst (λ (o : Option Coded). MatchOption o (IsUnread segment group) (IsOfField segment group)) found (looked segment group) in
    let parts = last-id segment.count column row before key of.ids lt (subst (λ (o : Option Coded). packed_with o before row ≡ key) found e) in
    let own = get_or-set_same ids c.args.i (key % c.count-width.result) 0 c.requires.i ∙ ap (λ w. key % w) c.count-width.ensures.count ∙ parts.0 in
    subst (λ (o : Option Coded). IsIdAt o row (get_or (set ids c.args.i (key % c.count-width.result)) c.args.i 0)) (sym found) own

pub returns-in-Some-clause-rest : goal.returns-in-Some-clause-rest
returns-in-Some-clause-rest c = λ row before lt e.
    let segment = c.args.segment.now in
    let group : ℕ = c.args.group in
    let key : ℕ = c.args.key in
    let column = c.in-Some.column in
    let found : column_of segment group ≡ Some column = sym c.at.ensures ∙ c.in-Some.is in
    let of = subst (λ (o : Option Coded). MatchOption o (IsUnread segment group) (IsOfField segment group)) found (looked segment group) in
    let parts = last-id segment.count column row before key of.ids lt (subst (λ (o : Option Coded). packed_with o before row ≡ key) found e) in
    ap (λ w. key / w) c.count-width.ensures.count ∙ parts.1
