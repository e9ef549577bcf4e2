use Rattle.std.proofs.Common.{◌≡◌, ◌≤◌, ◌<◌, ◌+◌, ◌-◌, ◌∙◌, List, ℕ, drop, ap, sym, subst, arith}
use Rattle.csv.specs.Reading.{default_config, records_from}
use Rattle.csv.specs.Records.{fields_of}
use Rattle.csv.specs.declared.parser.State.TheVariants as st
use Rattle.values.specs.Columns.{rows_of as rows_of_columns}
use Rattle.csv_row.specs.InOrder.{after}
use Rattle.csv_ingest.specs.Blocks.{rows_from}
use Rattle.csv_ingest.specs.Lines.{AtLineEnd}
use Rattle.csv_ingest.proofs.LineBlocks.{by-lines, lines-left, lines-next, no-lines}
use Rattle.csv_ingest.proofs.NumberLemmas.{number-columns}
use Rattle.csv_ingest.proofs.blocks.NumberBlocks.next_lines.Goals as goal

pub returns-then-count-eq0-clause-ok : goal.returns-then-count-eq0-clause-ok
returns-then-count-eq0-clause-ok c = λ whole h.
    let me = c.args.self.now in
    let names : List (List ℕ) = fields_of me.header.names in
    record {
      none = h.none;
      some = λ lt.
          lines-left me.header.fields names me.before me.left whole c.in-Lines.text.now c.text_reader.result
          (by-lines me.header.fields names me.before me.left whole me.source c.in-Lines.text c.in-Lines.is (h.some lt)) c.text_reader.ensures.reads c.text_reader.ensures.left;
    }

pub returns-clause-ok : goal.returns-clause-ok
returns-clause-ok c = λ whole h.
    let me = c.args.self.now in
    let fields = me.header.fields in
    let names : List (List ℕ) = fields_of me.header.names in
    let columns = c.in_ok-columns.field-0.columns in
    let taken = c.in_ok-columns.field-0.taken in
    let e = c.in_ok-columns.ensures in
    let count : columns.count ≡ c.len-count.result = sym c.len-count.ensures.count in
    let le : columns.count ≤ me.left = omega (arith, e.at_most, c.requires.room) in
    let some : 0 < me.left = omega (arith, c.if-count-eq0.false, count, le) in
    let l = by-lines fields names me.before me.left whole me.source c.in-Lines.text c.in-Lines.is (h.some some) in
    let lines = e.lines in
    let rest : List ℕ = drop taken c.in-Lines.text.now in
    let n : ℕ = c.len-count.result in
    let same : e.read.count ≡ n = sym e.same.count ∙ count in
    record {
      read = e.read;
      same = e.same;
      more = rows_from (me.before + n) fields names (records_from default_config (me.left - n) st.StartRecord rest);
      gives = record {
        none = λ z. no-lines fields names (me.before + n) (me.left - n) rest z;
        some = λ _. record {
          at_end = subst AtLineEnd (sym c.from_place.ensures) (lines.at_end l.at_end);
          is = ap (λ t. rows_from (me.before + n) fields names (records_from default_config (me.left - n) st.StartRecord t)) (sym c.from_place.ensures);
        };
      };
      is = lines-next fields names me.before me.left whole c.in-Lines.text.now e.read taken l lines (omega (arith, le, e.same.count))
          ∙ ap (λ k. after (rows_of_columns e.read) (rows_from (me.before + k) fields names (records_from default_config (me.left - k) st.StartRecord rest))) same;
    }

pub returns-clause-numbers : goal.returns-clause-numbers
returns-clause-numbers c =
    number-columns (fields_of c.args.self.now.header.names) c.args.self.now.header.fields c.in_ok-columns.field-0.columns.columns c.requires.is.header.fields c.in_ok-columns.ensures.sorts
