use Rattle.std.proofs.Common.{◌∙◌, ap, lit<, lit≤, sym}
use Rattle.pinot_run.specs.Script.{mark_of}
use Rattle.pinot_run.proofs.ScriptLemmas.{marked_one, marked_two}
use Rattle.pinot_run.proofs.script.mark_of.Goals as goal

pub returns-in-Done : goal.returns-in-Done
returns-in-Done c = marked_one 0 (lit< tt) ∙ ap mark_of (sym c.in-Done.is)

pub returns-in-BadWords : goal.returns-in-BadWords
returns-in-BadWords c = marked_one 2 (lit< tt) ∙ ap mark_of (sym c.in-BadWords.is)

pub returns-in-NoInput : goal.returns-in-NoInput
returns-in-NoInput c = marked_one 3 (lit< tt) ∙ ap mark_of (sym c.in-NoInput.is)

pub returns-in-BadSchema : goal.returns-in-BadSchema
returns-in-BadSchema c = marked_one 4 (lit< tt) ∙ ap mark_of (sym c.in-BadSchema.is)

pub returns-in-BadSettings : goal.returns-in-BadSettings
returns-in-BadSettings c = marked_one 5 (lit< tt) ∙ ap mark_of (sym c.in-BadSettings.is)

pub returns-in-TableExists : goal.returns-in-TableExists
returns-in-TableExists c = marked_one 6 (lit< tt) ∙ ap mark_of (sym c.in-TableExists.is)

pub returns-in-NoTable : goal.returns-in-NoTable
returns-in-NoTable c = marked_one 7 (lit< tt) ∙ ap mark_of (sym c.in-NoTable.is)

pub returns-in-BadCsv : goal.returns-in-BadCsv
returns-in-BadCsv c = marked_one 8 (lit< tt) ∙ ap mark_of (sym c.in-BadCsv.is)

pub returns-in-TooLarge : goal.returns-in-TooLarge
returns-in-TooLarge c = marked_one 9 (lit< tt) ∙ ap mark_of (sym c.in-TooLarge.is)

pub returns-in-NameTaken : goal.returns-in-NameTaken
returns-in-NameTaken c = marked_two 10 (lit≤ tt) (lit< tt) (lit< tt) ∙ ap mark_of (sym c.in-NameTaken.is)

pub returns-in-NoSegment : goal.returns-in-NoSegment
returns-in-NoSegment c = marked_two 11 (lit≤ tt) (lit< tt) (lit< tt) ∙ ap mark_of (sym c.in-NoSegment.is)

pub returns-in-BadQuery : goal.returns-in-BadQuery
returns-in-BadQuery c = marked_two 12 (lit≤ tt) (lit< tt) (lit< tt) ∙ ap mark_of (sym c.in-BadQuery.is)

pub returns-in-NotASegment : goal.returns-in-NotASegment
returns-in-NotASegment c = marked_two 13 (lit≤ tt) (lit< tt) (lit< tt) ∙ ap mark_of (sym c.in-NotASegment.is)

pub returns-in-TooManyGroups : goal.returns-in-TooManyGroups
returns-in-TooManyGroups c = marked_two 14 (lit≤ tt) (lit< tt) (lit< tt) ∙ ap mark_of (sym c.in-TooManyGroups.is)

pub returns-in-ReadFault : goal.returns-in-ReadFault
returns-in-ReadFault c = marked_two 15 (lit≤ tt) (lit< tt) (lit< tt) ∙ ap mark_of (sym c.in-ReadFault.is)

pub returns-in-WriteFault : goal.returns-in-WriteFault
returns-in-WriteFault c = marked_two 16 (lit≤ tt) (lit< tt) (lit< tt) ∙ ap mark_of (sym c.in-WriteFault.is)

pub returns-in-NoMemory : goal.returns-in-NoMemory
returns-in-NoMemory c = marked_two 17 (lit≤ tt) (lit< tt) (lit< tt) ∙ ap mark_of (sym c.in-NoMemory.is)

pub returns-in-CursorTaken : goal.returns-in-CursorTaken
returns-in-CursorTaken c = marked_two 18 (lit≤ tt) (lit< tt) (lit< tt) ∙ ap mark_of (sym c.in-CursorTaken.is)

pub returns-in-NoCursor : goal.returns-in-NoCursor
returns-in-NoCursor c = marked_two 19 (lit≤ tt) (lit< tt) (lit< tt) ∙ ap mark_of (sym c.in-NoCursor.is)
