use Rattle.command_model.proofs.StopsLemmas.{json_read, json_stopped}
use Rattle.command_model.proofs.new_table.read_json.Goals as goal

pub returns-clause-bytes : goal.returns-clause-bytes
returns-clause-bytes g c = json_read c.args.file.now (g.I.Shelf.held c.args.inputs.now) c.read_input.result c.read_input.ensures.whole

pub returns-clause-stops : goal.returns-clause-stops
returns-clause-stops g c = json_stopped c.args.file.now (g.I.Shelf.held c.args.inputs.now) _ c.read_input.result c.read_input.ensures.stops
