use Rattle.memory_devices.proofs.Held.{sorted_after, held_after}
use Rattle.memory_devices.proofs.file_map.FileMap.put.Goals as goal

pub invariant_of-self : goal.invariant_of-self
invariant_of-self c = sorted_after c.put_file.result c.args.name c.args.bytes c.self.inside.files.items c.put_file.new.files.items c.put_file.ensures.ok c.put_file.ensures.err c.self.invariant

pub returns-clause-ok : goal.returns-clause-ok
returns-clause-ok c = held_after c.put_file.result c.args.name c.args.bytes c.self.inside.files.items c.put_file.new.files.items c.args.self.now c.put_file.ensures.ok c.self.invariant c.self.view_is
