use Rattle.std.proofs.Common.{◌≡◌, ◌∙◌, ◌∷◌, rules, tests, List, ℕ, length, drop, ap, sym, subst}
use Rattle.csv.specs.Reading.{default_config, records_from}
use Rattle.csv.specs.Records.{fields_of}
use Rattle.csv.specs.declared.parser.State.TheVariants as st
use Rattle.csv_ingest.specs.Blocks.{rows_from}
use Rattle.csv_ingest.specs.Lines.{AtLineEnd}
use Rattle.csv_row.specs.Row.{csv_limits}
use Rattle.csv_ingest.specs.Rows.{number_rows_in}
use Rattle.csv_ingest.proofs.HeaderLine.{first-line}
use Rattle.csv_ingest.proofs.LineBlocks.{no-lines}
use Rattle.csv_ingest.proofs.NumberTextLemmas.{below-header}
use Rattle.csv_ingest.proofs.blocks.line_blocks.Goals as goal

pub returns-in-Ok : goal.returns-in-Ok
returns-in-Ok c =
    let text = c.args.text.now in
    let n : ℕ = length text in
    let rest : List ℕ = drop c.args.end text in
    let h = c.in-Ok.ensures.header in
    let fields = c.in-Ok.header.fields in
    let names : List (List ℕ) = fields_of c.in-Ok.header.names in
    let same : fields_of c.in_ok-names.names ≡ names = ap fields_of (sym c.in-Ok.ensures.names) in
    let first = first-line text c.args.end c.requires.end in
    record {
      blocks = record { header = h; at_most = search (rules, tests) };
      at_most = c.requires.at_most;
      ok = record {
        rows = rows_from 0 fields names (records_from default_config n st.StartRecord rest);
        gives = record {
          none = λ z. no-lines fields names 0 n rest z;
          some = λ _. record {
            at_end = subst AtLineEnd (sym c.from_place.ensures) first.at_end;
            is = ap (λ t. rows_from 0 fields names (records_from default_config n st.StartRecord t)) (sym c.from_place.ensures);
          };
        };
        is = ap (number_rows_in csv_limits) (c.in_ok-names.ensures n)
            ∙ ap (λ row. number_rows_in csv_limits (row ∷ records_from default_config n st.StartRecord rest)) same
            ∙ below-header names (records_from default_config n st.StartRecord rest) fields h.at_most h.fields;
      };
      err = tt;
    }
