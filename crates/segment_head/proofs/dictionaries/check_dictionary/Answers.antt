use Rattle.dictionary.specs.Reading.{Checks}
use Rattle.segment_file.proofs.Faults.{ok_so}
use Rattle.segment_file.specs.Rules.{IsSpelled}
use Rattle.segment_head.proofs.dictionaries.check_dictionary.Goals as goal

pub returns-clause-ok : goal.returns-clause-ok
returns-clause-ok c =
    let checks : Checks c.args.kind c.args.bytes.now c.check.result = record { kind_is = c.check.ensures.kind; ok = c.check.ensures.ok; bad = c.check.ensures.bad; valid = c.check.ensures.valid } in
    ok_so _ (IsSpelled c.args.kind c.args.rows c.args.bytes.now) c.of_rows.result (λ d is. is c.args.kind c.args.bytes.now checks) c.of_rows.ensures.ok

pub returns-clause-bad : goal.returns-clause-bad
returns-clause-bad c =
    let checks : Checks c.args.kind c.args.bytes.now c.check.result = record { kind_is = c.check.ensures.kind; ok = c.check.ensures.ok; bad = c.check.ensures.bad; valid = c.check.ensures.valid } in
    λ is. c.of_rows.ensures.bad is c.args.kind c.args.bytes.now checks
