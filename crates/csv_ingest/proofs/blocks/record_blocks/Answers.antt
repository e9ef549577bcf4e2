use Rattle.std.proofs.Common.{◌∙◌, ◌+◌, rules, tests, ℕ, List, length, refl, ap, sym}
use Rattle.csv.specs.Reading.{strip_bom}
use Rattle.csv.specs.Records.{fields_of}
use Rattle.csv_ingest.specs.Blocks.{rows_from}
use Rattle.csv_ingest.specs.Reading.{records_left}
use Rattle.csv_row.specs.Row.{csv_limits}
use Rattle.csv_ingest.specs.Rows.{number_rows_in, rows_of, with_schema}
use Rattle.csv_ingest.proofs.BlockLemmas.{nothing-left}
use Rattle.csv_ingest.proofs.blocks.record_blocks.Goals as goal

pub returns-in-Ok : goal.returns-in-Ok
returns-in-Ok c =
    let text : List ℕ = strip_bom c.args.bytes.now in
    let new = c.read_header.new.reader in
    let (left, reads, next) = c.in-Ok.ensures.ok text c.text_reader-reader.ensures.reads in
    let fields = c.in-Ok.header.fields in
    let names : List (List ℕ) = fields_of c.in-Ok.header.names in
    record {
      blocks = search (rules, tests);
      at_most = search (rules, tests);
      ok = record {
        rows = rows_from 0 fields names (records_left c.unmarked_len-left.result new left);
        gives = record {
          none = λ z. nothing-left fields names 0 c.unmarked_len-left.result new left z;
          some = λ _. record { rest = left; reads = reads; is = refl };
        };
        is = ap (number_rows_in csv_limits) (sym (c.text_reader-reader.ensures.left (length text + 1)))
            ∙ next (length text)
            ∙ ap (λ k. with_schema fields (rows_of csv_limits fields names (records_left k new left))) (sym c.unmarked_len-left.ensures.value);
      };
      err = tt;
    }

pub returns : goal.returns
returns c = record {
  blocks = tt;
  at_most = tt;
  ok = tt;
  err = λ real.
      let text : List ℕ = strip_bom c.args.bytes.now in
      ap (number_rows_in csv_limits) (sym (c.text_reader-reader.ensures.left (length text + 1)))
      ∙ c.in-Err.ensures.err real text c.text_reader-reader.ensures.reads (length text);
}
