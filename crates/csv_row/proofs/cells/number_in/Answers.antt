use Rattle.std.proofs.Common.{◌∙◌, refl, ap}
use Rattle.std.specs.Result.{result_ok}
use Rattle.data_types.specs.declared.kind.FieldKind.TheVariants.{Int, Long}
use Rattle.csv_row.proofs.CellLemmas.{number-found, number-missing, text-missing}
use Rattle.csv_row.proofs.cells.number_in.Goals as goal

pub returns-in-Int-clause-found : goal.returns-in-Int-clause-found
returns-in-Int-clause-found c = number-found c.args.kind Int c.args.bytes.now c.ok.result c.in-Int.is refl (c.ok.ensures.value ∙ ap result_ok c.read_whole.ensures)

pub returns-in-Long-clause-found : goal.returns-in-Long-clause-found
returns-in-Long-clause-found c = number-found c.args.kind Long c.args.bytes.now c.ok-in-Long.result c.in-Long.is refl (c.ok-in-Long.ensures.value ∙ ap result_ok c.read_whole-in-Long.ensures)

pub returns-in-Text-clause-none : goal.returns-in-Text-clause-none
returns-in-Text-clause-none c = λ _. text-missing c.args.kind c.args.bytes.now c.in-Text.is

pub returns-in-Int-clause-none : goal.returns-in-Int-clause-none
returns-in-Int-clause-none c = number-missing c.args.kind Int c.args.bytes.now c.ok.result c.in-Int.is refl (c.ok.ensures.value ∙ ap result_ok c.read_whole.ensures)

pub returns-in-Long-clause-none : goal.returns-in-Long-clause-none
returns-in-Long-clause-none c = number-missing c.args.kind Long c.args.bytes.now c.ok-in-Long.result c.in-Long.is refl (c.ok-in-Long.ensures.value ∙ ap result_ok c.read_whole-in-Long.ensures)
