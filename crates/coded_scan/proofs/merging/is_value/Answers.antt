use Rattle.std.proofs.Common.{◌≡◌, ◌∙◌, Option, Some, MatchOption, sym, subst}
use Rattle.std.proofs.lemmas.Bool.{OnTrue_at, OnTrue_from}
use Rattle.coded_columns.specs.declared.coded.Coded.{Coded}
use Rattle.coded_columns.specs.Coded.{IsOfField, IsUnread, column_of}
use Rattle.coded_columns.specs.Keys.{IsIdAt}
use Rattle.coded_columns.proofs.CodedLemmas.{looked}
use Rattle.coded_scan.proofs.KeyedMerges.{value-is}
use Rattle.coded_scan.proofs.merging.is_value.Goals as goal

pub returns-in-Some : goal.returns-in-Some
returns-in-Some c =
    let segment = c.args.segment.now in
    let found : column_of segment c.args.field ≡ Some c.in-Some.column = sym c.at.ensures ∙ c.in-Some.is in
    let of = subst (λ (o : Option Coded). MatchOption o (IsUnread segment c.args.field) (IsOfField segment c.args.field)) found (looked segment c.args.field) in
    OnTrue_from c.has_value.result _ (λ yes row lt is.
    value-is segment c.args.field c.in-Some.column row c.args.id c.args.value.now of lt (subst (λ (o : Option Coded). IsIdAt o row c.args.id) found is) (OnTrue_at yes c.has_value.ensures))
