use Rattle.std.proofs.Common.{◌≡◌, ◌∷◌, [], ◌++◌, codes, subst, sym}
use Rattle.segment_build.specs.Publishing.{incoming}
use Rattle.table_store.specs.TableFile.{table_file, table_name}
use Rattle.command_model.specs.World.{SameButThese}
use Rattle.command_model.proofs.CreateLemmas.{made_file, one_of_these, put_these}
use Rattle.commands.proofs.create.make.Goals as goal

pub returns-in-Ok-clause-makes : goal.returns-in-Ok-clause-makes
returns-in-Ok-clause-makes g c = (c.in-Ok.ensures.was_none, made_file (g.D.Shelf.held c.args.depot.now) (g.D.Shelf.held c.create_table.new.depot) _ _ _ _ c.as_slice-2.ensures c.as_slice-3.ensures c.in-Ok.ensures.created, subst (λ t. c.in_ok-reply.reply ≡ codes "created " ++ t ++ codes "\n") c.as_slice.ensures c.in_ok-reply.ensures)

pub returns-in-Ok-clause-writes : goal.returns-in-Ok-clause-writes
returns-in-Ok-clause-writes g c = record {
  held = subst (λ h. SameButThese (table_name ∷ []) (g.D.Shelf.held c.args.depot.now) h) (sym c.in-Ok.ensures.created) (put_these table_name (table_file (record { schema = c.as_slice-2.result.now; settings = c.as_slice-3.result.now })) (g.D.Shelf.held c.args.depot.now));
  parts = one_of_these incoming (g.D.Shelf.parts c.args.depot.now) (g.D.Shelf.parts c.create_table.new.depot) c.create_table.ensures.only_publishes.parts;
  reads_later = c.create_table.ensures.only_publishes.reads_later;
  writes_later = c.create_table.ensures.only_publishes.writes_later;
  log = c.create_table.ensures.only_publishes.log;
}
