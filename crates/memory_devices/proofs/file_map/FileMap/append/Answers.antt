use Rattle.std.proofs.Common.{◌≡◌, ◌++◌, Some}
use Rattle.std.specs.FinMap as map
use Rattle.outside.specs.Files.{bytes_of}
use Rattle.memory_devices.proofs.Held.{appended_after, others_kept_put}
use Rattle.memory_devices.proofs.file_map.FileMap.append.Goals as goal

after : (c : goal.In_ok-put) → c.put-2.new.self ≡ map.insert c.args.self.now c.args.name.now (bytes_of (Some c.args.self.now) c.args.name.now ++ c.args.more.now)
after c = appended_after c.args.self.now c.take.new.self c.put-2.new.self c.args.name.now c.in_ok-from_text.field-0 c.take.result c.new.result c.unwrap_or-bytes.result c.in_ok-extended.field-0 c.args.more.now
    c.take.ensures.taken c.take.ensures.rest c.new.ensures c.unwrap_or-bytes.ensures c.in_ok-extended.ensures c.in_ok-from_text.ensures c.in_ok-put.ensures.ok

pub returns-clause-ok : goal.returns-clause-ok
returns-clause-ok c = after c

pub returns-clause-others : goal.returns-clause-others
returns-clause-others c = rw (after c) (others_kept_put c.args.self.now c.args.name.now (bytes_of (Some c.args.self.now) c.args.name.now ++ c.args.more.now))
