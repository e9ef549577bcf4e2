use Rattle.std.proofs.Common.{◌∙◌, sym, arith}
use Rattle.csv_ingest.proofs.MarkLemmas.{marked-text, short-text, unmarked-text}
use Rattle.csv_ingest.proofs.records.unmarked.Goals as goal

pub returns-then-text-lt3-clause-value : goal.returns-then-text-lt3-clause-value
returns-then-text-lt3-clause-value c = short-text c.args.text.now (omega arith)

pub returns-then-is_mark-clause-value : goal.returns-then-is_mark-clause-value
returns-then-is_mark-clause-value c = c.from_place.ensures ∙ marked-text c.args.text.now (omega arith) (sym c.is_mark.ensures ∙ c.if-is_mark.true)

pub returns-clause-value : goal.returns-clause-value
returns-clause-value c = unmarked-text c.args.text.now (omega arith) (sym c.is_mark.ensures ∙ c.if-is_mark.false)
