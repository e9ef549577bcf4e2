use Rattle.std.proofs.Common.{◌≡◌, ◌∙◌, sym, ap}
use Rattle.std.specs.FinMap as map
use Rattle.std.specs.FinMap.{is_sorted}
use Rattle.outside.specs.Files.{name_order}
use Rattle.memory_devices.proofs.Held.{get_held, others_held, others_kept, absent_after, sorted_others}
use Rattle.memory_devices.proofs.file_map.FileMap.take.Goals as goal

pub invariant_of-self : goal.invariant_of-self
invariant_of-self c = ap (is_sorted name_order) c.take_file.ensures.rest ∙ sorted_others c.args.name.now c.self.inside.files.items c.self.invariant

taken : (c : goal.After-take_file) → c.take_file.result ≡ map.get c.args.self.now c.args.name.now
taken c = c.take_file.ensures.taken ∙ sym (get_held c.self.inside.files.items c.args.name.now c.self.invariant) ∙ ap (λ files. map.get files c.args.name.now) c.self.view_is

rest : (c : goal.After-take_file) → map.from_sorted {R = name_order} c.take_file.new.files.items ≡ map.remove c.args.self.now c.args.name.now
rest c = ap (map.from_sorted {R = name_order}) c.take_file.ensures.rest ∙ others_held c.args.name.now c.self.inside.files.items c.self.invariant ∙ ap (λ files. map.remove files c.args.name.now) c.self.view_is

pub returns-clause-taken : goal.returns-clause-taken
returns-clause-taken c = taken c

pub returns-clause-rest : goal.returns-clause-rest
returns-clause-rest c = rest c

pub returns-clause-others : goal.returns-clause-others
returns-clause-others c = rw (rest c) (others_kept c.args.self.now c.args.name.now)

pub returns-clause-absent : goal.returns-clause-absent
returns-clause-absent c = absent_after c.take_file.result c.args.self.now (map.from_sorted {R = name_order} c.take_file.new.files.items) c.args.name.now (taken c) (rest c)
