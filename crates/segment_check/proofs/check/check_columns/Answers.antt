use Rattle.std.proofs.Common.{◌∙◌, length, map, sym}
use Rattle.std.proofs.lemmas.List.{length-map}
use Rattle.outside.specs.Seen.{seen}
use Rattle.values.specs.Columns.{rows_of}
use Rattle.segment_build.specs.Coded.{decoded}
use Rattle.segment_check.proofs.Checks as checks
use Rattle.segment_check.proofs.check.check_columns.Goals as goal

pub returns-in-Err-clause-checks : goal.returns-in-Err-clause-checks
returns-in-Err-clause-checks g c =
    checks.head_wrong rows_of c.args.table.now c.args.name.now c.args.file.now c.requires.valid c.requires.name
    (seen g.S.Shelf c.args.shelf.now) (seen g.S.Shelf c.read_file_head.new.shelf) c.in-Err.fault c.in-Err.ensures

pub returns-in-Err-read_codes-clause-checks : goal.returns-in-Err-read_codes-clause-checks
returns-in-Err-read_codes-clause-checks g c =
    checks.codes_wrong rows_of c.args.table.now c.args.name.now c.args.file.now c.requires.valid c.requires.name
    c.in-Ok.read (seen g.S.Shelf c.args.shelf.now) (seen g.S.Shelf c.read_file_head.new.shelf) (seen g.S.Shelf c.read_codes.new.shelf) c.in-Ok.ensures c.in-Err-read_codes.fault c.in-Err-read_codes.ensures

pub decoded_columns-requires : goal.decoded_columns-requires
decoded_columns-requires g c = (c.args.table.now, c.in-Ok-read_codes.ensures.coded)

pub returns-in_err-columns-clause-checks : goal.returns-in_err-columns-clause-checks
returns-in_err-columns-clause-checks g c =
    let r = c.from_residual in
    checks.answer_lacking rows_of c.args.table.now c.args.name.now c.args.file.now c.requires.valid c.requires.name
    c.in-Ok.read (seen g.S.Shelf c.args.shelf.now) (seen g.S.Shelf c.read_file_head.new.shelf) (seen g.S.Shelf c.read_codes.new.shelf) c.in-Ok.ensures c.in-Ok-read_codes.coded c.in-Ok-read_codes.ensures r.result r.ensures

pub returns-in-Ok-compare-clause-checks : goal.returns-in-Ok-compare-clause-checks
returns-in-Ok-compare-clause-checks g c =
    checks.same_bytes rows_of c.args.table.now c.args.name.now c.args.file.now c.requires.valid c.requires.name
    c.in-Ok.read (seen g.S.Shelf c.args.shelf.now) (seen g.S.Shelf c.read_file_head.new.shelf) (seen g.S.Shelf c.read_codes.new.shelf) c.in-Ok.ensures c.in-Ok-read_codes.coded c.in-Ok-read_codes.ensures
    (seen g.S.Shelf c.compare.new.shelf) c.in_ok-columns.columns c.in-Ok-compare.field-0 c.in-Ok-compare.ensures (sym c.in_ok-columns.ensures.rows)

pub returns-clause-checks : goal.returns-clause-checks
returns-clause-checks g c =
    checks.other_bytes rows_of c.args.table.now c.args.name.now c.args.file.now c.requires.valid c.requires.name
    c.in-Ok.read (seen g.S.Shelf c.args.shelf.now) (seen g.S.Shelf c.read_file_head.new.shelf) (seen g.S.Shelf c.read_codes.new.shelf) c.in-Ok.ensures c.in-Ok-read_codes.coded c.in-Ok-read_codes.ensures
    (seen g.S.Shelf c.compare.new.shelf) c.in-Err-compare.fault c.in-Err-compare.ensures

pub returns-in-Ok-compare-clause-width : goal.returns-in-Ok-compare-clause-width
returns-in-Ok-compare-clause-width g c =
    let coded = c.in-Ok-read_codes.coded in
    c.in_ok-columns.ensures.width ∙ sym (length-map coded.columns.items decoded) ∙ c.in-Ok-read_codes.ensures.fields.width
