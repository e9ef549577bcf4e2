use Rattle.std.proofs.Common.{◌≡◌, ◌∙◌, Option, Some, MatchOption, sym, subst}
use Rattle.std.proofs.lemmas.Result.{IfOk-weaker}
use Rattle.coded_columns.specs.declared.coded.Coded.{Coded}
use Rattle.coded_columns.specs.Coded.{IsOfField, IsUnread, column_of}
use Rattle.coded_columns.specs.Keys.{IsIdAt}
use Rattle.coded_columns.proofs.CodedLemmas.{looked}
use Rattle.coded_scan.proofs.KeyedMerges.{id-known, value-is}
use Rattle.coded_scan.proofs.merging.value_of.Goals as goal

pub value_at-requires : goal.value_at-requires
value_at-requires c =
    let segment = c.args.segment.now in
    let found : column_of segment c.args.field ≡ Some c.in-Some.column = sym c.at.ensures ∙ c.in-Some.is in
    let of = subst (λ (o : Option Coded). MatchOption o (IsUnread segment c.args.field) (IsOfField segment c.args.field)) found (looked segment c.args.field) in
    let told = c.requires in
    id-known segment.count c.in-Some.column told.row c.args.id of.ids told.within (subst (λ (o : Option Coded). IsIdAt o told.row c.args.id) found told.is)

pub returns-in-Some : goal.returns-in-Some
returns-in-Some c =
    let segment = c.args.segment.now in
    let found : column_of segment c.args.field ≡ Some c.in-Some.column = sym c.at.ensures ∙ c.in-Some.is in
    let of = subst (λ (o : Option Coded). MatchOption o (IsUnread segment c.args.field) (IsOfField segment c.args.field)) found (looked segment c.args.field) in
    IfOk-weaker c.value_at.result _ _ (λ value got row lt is.
    value-is segment c.args.field c.in-Some.column row c.args.id value of lt (subst (λ (o : Option Coded). IsIdAt o row c.args.id) found is) got) c.value_at.ensures

pub returns-in-None : goal.returns-in-None
returns-in-None c = λ row lt is.
    let segment = c.args.segment.now in
    let of = subst (λ (o : Option Coded). MatchOption o (IsUnread segment c.args.field) (IsOfField segment c.args.field)) (sym c.at.ensures ∙ c.in-None.is) (looked segment c.args.field) in
    sym (of row)
