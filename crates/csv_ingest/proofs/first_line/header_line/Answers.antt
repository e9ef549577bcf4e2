use Rattle.std.proofs.Common.{List, ℕ, ◌+◌, take}
use Rattle.csv.specs.Reading.{strip_bom}
use Rattle.csv.specs.Records.{fields_of}
use Rattle.csv_ingest.specs.Reading.{records_left}
use Rattle.csv_ingest.proofs.HeaderLine.{header-read, header-there}
use Rattle.csv_ingest.proofs.first_line.header_line.Goals as goal

pub unreachable-requires : goal.unreachable-requires
unreachable-requires c =
    let line : List ℕ = strip_bom (take (c.args.end + 1) c.args.text.now) in
    let none = rw c.if-branch.false at (c.in_ok-next_record.ensures line c.text_reader-reader.ensures.reads) in
    header-there c.args.text.now c.args.end c.requires c.text_reader-reader.result c.text_reader-reader.ensures.left (none 0)

pub returns : goal.returns
returns c =
    let line : List ℕ = strip_bom (take (c.args.end + 1) c.args.text.now) in
    let (left, reads, next) = rw c.if-branch.true at (c.in_ok-next_record.ensures line c.text_reader-reader.ensures.reads) in
    header-read c.args.text.now c.args.end c.requires c.text_reader-reader.result c.text_reader-reader.ensures.left (fields_of c.next_record.new.row) (records_left 0 c.next_record.new.reader left) (next 0)
