use Rattle.segment_file.proofs.Faults.{ok_so}
use Rattle.segment_file.specs.Rules.{IsSpelled}
use Rattle.segment_head.proofs.dictionaries.take_dictionary.Goals as goal

pub returns-clause-ok : goal.returns-clause-ok
returns-clause-ok c = ok_so _ (IsSpelled c.args.kind c.args.rows c.args.bytes.items) c.of_rows.result (λ d is. is c.args.kind c.args.bytes.items c.of_bytes.ensures) c.of_rows.ensures.ok

pub returns-clause-bad : goal.returns-clause-bad
returns-clause-bad c = λ is. c.of_rows.ensures.bad is c.args.kind c.args.bytes.items c.of_bytes.ensures
