use Rattle.std.proofs.Common.{◌∙◌, [], length, sym, refl}
use Rattle.outside.specs.Seen.{seen}
use Rattle.values.specs.Columns.{rows_of}
use Rattle.values.proofs.RowLemmas.{length-rows}
use Rattle.segment_build.specs.Coded.{columns_in}
use Rattle.segment_check.proofs.Checks as checks
use Rattle.segment_check.proofs.check.count_image.Goals as goal

pub returns-in-Err : goal.returns-in-Err
returns-in-Err g c = record {
  rows = [];
  checks = checks.head_wrong (λ n. []) c.args.table.now c.args.name.now c.args.file.now c.requires.valid c.requires.name
      (seen g.S.Shelf c.args.shelf.now) (seen g.S.Shelf c.read_file_head.new.shelf) c.in-Err.fault c.in-Err.ensures;
  count = tt;
}

pub returns-in-Err-read_codes : goal.returns-in-Err-read_codes
returns-in-Err-read_codes g c = record {
  rows = [];
  checks = checks.codes_wrong (λ n. []) c.args.table.now c.args.name.now c.args.file.now c.requires.valid c.requires.name
      c.in-Ok.read (seen g.S.Shelf c.args.shelf.now) (seen g.S.Shelf c.read_file_head.new.shelf) (seen g.S.Shelf c.read_codes.new.shelf) c.in-Ok.ensures c.in-Err-read_codes.fault c.in-Err-read_codes.ensures;
  count = tt;
}

pub returns-in-Ok-compare : goal.returns-in-Ok-compare
returns-in-Ok-compare g c =
    let coded = c.in-Ok-read_codes.coded in
    let t = columns_in coded in
    record {
      rows = rows_of t;
      checks = checks.same_bytes (λ n. rows_of t) c.args.table.now c.args.name.now c.args.file.now c.requires.valid c.requires.name
          c.in-Ok.read (seen g.S.Shelf c.args.shelf.now) (seen g.S.Shelf c.read_file_head.new.shelf) (seen g.S.Shelf c.read_codes.new.shelf) c.in-Ok.ensures coded c.in-Ok-read_codes.ensures
          (seen g.S.Shelf c.compare.new.shelf) coded.rows c.in-Ok-compare.field-0 c.in-Ok-compare.ensures refl;
      count = sym (length-rows t.count t.columns c.in-Ok-read_codes.ensures.fields.counts);
    }

pub returns : goal.returns
returns g c = record {
  rows = [];
  checks = checks.other_bytes (λ n. []) c.args.table.now c.args.name.now c.args.file.now c.requires.valid c.requires.name
      c.in-Ok.read (seen g.S.Shelf c.args.shelf.now) (seen g.S.Shelf c.read_file_head.new.shelf) (seen g.S.Shelf c.read_codes.new.shelf) c.in-Ok.ensures c.in-Ok-read_codes.coded c.in-Ok-read_codes.ensures
      (seen g.S.Shelf c.compare.new.shelf) c.in-Err-compare.fault c.in-Err-compare.ensures;
  count = tt;
}
