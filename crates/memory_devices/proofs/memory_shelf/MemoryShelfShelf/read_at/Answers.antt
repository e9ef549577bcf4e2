use Rattle.std.proofs.Common.{Some, sym, ap, ◌∙◌, rules}
use Rattle.std.specs.FinMap as map
use Rattle.outside.specs.Files.{Has}
use Rattle.memory_devices.proofs.memory_shelf.MemoryShelfShelf.read_at.Goals as goal

pub returns-in_err-file-in-Some : goal.returns-in_err-file-in-Some
returns-in_err-file-in-Some c =
    let there : Has (Some c.args.self.now.held) c.args.name.now = (c.in-Some.bytes.now, ap (λ m. map.get m.held c.args.name.now) (sym c.self.view_is) ∙ sym c.in-Some.ensures) in
    record {
      after = search rules;
      after_fault = search rules;
      fails = search rules;
      gives = record {
        bound = search rules;
        bytes = search rules;
        only_reads = search rules;
        logged = search rules;
        not_logged = search rules;
        missing = search rules;
        present = λ _. there;
      };
    }

pub returns-in_err-push-in-Some : goal.returns-in_err-push-in-Some
returns-in_err-push-in-Some c =
    let there : Has (Some c.args.self.now.held) c.args.name.now = (c.in-Some.bytes.now, ap (λ m. map.get m.held c.args.name.now) (sym c.self.view_is) ∙ sym c.in-Some.ensures) in
    record {
      after = search rules;
      after_fault = search rules;
      fails = search rules;
      gives = record {
        bound = search rules;
        bytes = search rules;
        only_reads = search rules;
        logged = search rules;
        not_logged = search rules;
        missing = search rules;
        present = λ _. there;
      };
    }
