use Rattle.outside.specs.Seen.{seen}
use Rattle.serve_lines.proofs.OverLemmas.{given_closed}
use Rattle.serve_lines.proofs.cursor.give_up.Goals as goal

pub returns-in-Ok-clause-over : goal.returns-in-Ok-clause-over
returns-in-Ok-clause-over g c = record { valid = c.requires.valid; cursors = c.close.ensures.cursors; over = c.close.ensures.over c.args.table.now c.requires.over }

pub returns-in-Err-clause-given_up : goal.returns-in-Err-clause-given_up
returns-in-Err-clause-given_up g c = given_closed (seen g.D.Shelf c.args.depot.now) (seen g.D.Shelf c.close.new.depot) c.args.cursor.now c.in-Err.fault c.stop_of.result c.in-Err.ensures.only c.in-Err.ensures.only_removes c.stop_of.ensures

pub returns-in-Err-clause-over : goal.returns-in-Err-clause-over
returns-in-Err-clause-over g c = record { valid = c.requires.valid; cursors = c.close.ensures.cursors; over = c.close.ensures.over c.args.table.now c.requires.over }
