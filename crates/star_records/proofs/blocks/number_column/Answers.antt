use Rattle.std.proofs.Common.{◌∙◌, ap, get_or, map, sym}
use Rattle.std.proofs.lemmas.Result.{IfOk-weaker}
use Rattle.star_rows.specs.Numbers.{numbers_of}
use Rattle.star_rows.specs.Words.{row_in}
use Rattle.star_records.proofs.BlockSteps as steps
use Rattle.star_records.proofs.blocks.number_column.Goals as goal

pub returns-then-is_zero : goal.returns-then-is_zero
returns-then-is_zero c =
    IfOk-weaker c.zeros.result _ _
    (λ v is. λ d. is ∙ steps.zeros_picked (numbers_of c.args.column) c.args.words.now d
    (c.requires.zero c.if-is_zero.true) c.requires.below)
    c.zeros.ensures

pub returns-in-Stored : goal.returns-in-Stored
returns-in-Stored c =
    IfOk-weaker c.column_at.result _ _
    (λ v is. λ d. is d ∙ ap (λ p. map (λ word. get_or (numbers_of p) (row_in word) d) c.args.words.now)
    (sym c.in-Stored.is))
    c.column_at.ensures

pub returns-in-Zeros : goal.returns-in-Zeros
returns-in-Zeros c =
    IfOk-weaker c.zeros-in-Zeros.result _ _
    (λ v is. λ d. is ∙ steps.zeros_picked (numbers_of c.args.column) c.args.words.now d
    (steps.zeros_alone c.args.column _ c.in-Zeros.is) c.requires.below)
    c.zeros-in-Zeros.ensures
