use Rattle.std.proofs.Common.{Option, MatchOption, sym, subst}
use Rattle.coded_columns.specs.declared.coded.Coded.{Coded}
use Rattle.coded_columns.specs.Coded.{IsOfField, IsUnread}
use Rattle.coded_columns.proofs.CodedLemmas.{looked}
use Rattle.coded_columns.proofs.coded.SegmentColumns.column.Goals as goal

pub returns : goal.returns
returns c = subst (λ (o : Option Coded). MatchOption o (IsUnread c.args.self.now c.args.field) (IsOfField c.args.self.now c.args.field)) (sym c.at.ensures) (looked c.args.self.now c.args.field)
