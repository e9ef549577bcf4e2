use Rattle.std.proofs.Common.{◌≡◌, ◌∙◌, ◌+◌, ◌++◌, ◌∷◌, [], Bor, ℕ, List, Ok, Err, refl, map, ap, sym, subst, arith, append-nil, append_assoc}
use Rattle.std.specs.List.{All}
use Rattle.csv.specs.Records.{fields_of}
use Rattle.values.specs.Columns.{Counts, rows_in_columns}
use Rattle.values.proofs.RowLemmas.{counts-push, rows-push}
use Rattle.csv_ingest.specs.Blocks.{IsBlock}
use Rattle.csv_row.specs.Row.{csv_limits, row_at}
use Rattle.csv_ingest.proofs.BlockLemmas.{begins, ends-all, one-fault, one-more}
use Rattle.csv_row.proofs.ColumnLemmas.{sorts-stay}
use Rattle.csv_ingest.proofs.rows.push_block.Goals as goal

pub rows-init : goal.rows-init
rows-init c =
    let now : Bor (List ℕ) → List ℕ = λ f. f.now in
    let old = c.args.columns.now.items in
    let none : (k : ℕ) → k ≡ k + 0 = λ k. omega arith in
    record {
      counts = λ k counts. subst (λ n. All (Counts n) old) (none k) counts;
      sorts = c.requires.sorts;
      rows = [];
      pushed = λ k counts. ap (λ n. rows_in_columns n old) (sym (none k)) ∙ sym (append-nil (rows_in_columns k old));
      block = λ rest r. begins c.args.layout.now.fields.now (map now c.args.layout.now.names.now) c.args.before c.args.reader.now rest r;
    }

pub rows-preserved : goal.rows-preserved
rows-preserved c =
    let now : Bor (List ℕ) → List ℕ = λ f. f.now in
    let fields = c.args.layout.now.fields.now in
    let header : List (List ℕ) = map now c.args.layout.now.names.now in
    let p = c.in-Ok.ensures.ok in
    let s = c.rows.invariant in
    let i = c.rows.i in
    let first = c.args.columns.now.items in
    let old = c.rows.columns.items in
    let new = c.push_row.new.columns.items in
    let number : c.args.before + i + 1 ≡ 1 + (c.args.before + i) = omega arith in
    let up : (k : ℕ) → k + i + 1 ≡ k + (i + 1) = λ k. omega arith in
    record {
      counts = λ k counts. subst (λ n. All (Counts n) new) (up k) (subst (All (Counts (k + i + 1))) (sym p.new_is) (counts-push (k + i) old p.row p.width (s.counts k counts)));
      sorts = sorts-stay fields old p.row new s.sorts p.new_is;
      rows = s.rows ++ p.row ∷ [];
      pushed = λ k counts.
          ap (λ n. rows_in_columns n new) (sym (up k))
          ∙ ap (rows_in_columns (k + i + 1)) p.new_is
          ∙ rows-push (k + i) old p.row p.width (s.counts k counts)
          ∙ ap (λ rows. rows ++ p.row ∷ []) (s.pushed k counts)
          ∙ append_assoc (rows_in_columns k first) s.rows (p.row ∷ []);
      block = λ rest r.
          let b = s.block rest r in
          let (left, reads, next) = rw c.if-not-branch.false at (c.in_ok-next_record.ensures b.left b.reads) in
          one-more fields header c.args.before i c.args.reader.now c.rows.reader rest s.rows b c.next_record.new.reader left (fields_of c.next_record.new.row) next reads p.row
          (subst (λ k. row_at csv_limits fields header (k, fields_of c.next_record.new.row) ≡ Ok p.row) number p.given_is);
    }

pub returns-in-Err-clause-err : goal.returns-in-Err-clause-err
returns-in-Err-clause-err c = λ real rest r n room.
    let now : Bor (List ℕ) → List ℕ = λ f. f.now in
    let fields = c.args.layout.now.fields.now in
    let header : List (List ℕ) = map now c.args.layout.now.names.now in
    let number : c.args.before + c.rows.i + 1 ≡ 1 + (c.args.before + c.rows.i) = omega arith in
    let s = c.rows.invariant in
    let b = s.block rest r in
    let (left, reads, next) = rw c.if-not-branch.false at (c.in_ok-next_record.ensures b.left b.reads) in
    one-fault fields header c.args.before c.rows.i c.args.reader.now c.rows.reader rest s.rows b c.next_record.new.reader left (fields_of c.next_record.new.row) next c.in-Err.fault
    (subst (λ k. row_at csv_limits fields header (k, fields_of c.next_record.new.row) ≡ Err c.in-Err.fault) number (c.in-Err.ensures.err real)) n (omega (arith, c.rows-test.true, room))

pub returns-then-not-branch-clause-ok : goal.returns-then-not-branch-clause-ok
returns-then-not-branch-clause-ok c = λ rest r.
    let now : Bor (List ℕ) → List ℕ = λ f. f.now in
    let fields = c.args.layout.now.fields.now in
    let header : List (List ℕ) = map now c.args.layout.now.names.now in
    let s = c.rows.invariant in
    let b = s.block rest r in
    let none = rw c.if-not-branch.true at (c.in_ok-next_record.ensures b.left b.reads) in
    record {
      rows = s.rows;
      pushed = s.pushed;
      is = (c.rows-test.true, ends-all fields header c.args.before c.rows.i c.args.reader.now c.rows.reader rest s.rows b none);
    }

pub returns-clause-ok : goal.returns-clause-ok
returns-clause-ok c = λ rest r.
    let now : Bor (List ℕ) → List ℕ = λ f. f.now in
    let fields = c.args.layout.now.fields.now in
    let header : List (List ℕ) = map now c.args.layout.now.names.now in
    let all : c.rows.i ≡ c.args.room = omega arith in
    let s = c.rows.invariant in
    record {
      rows = s.rows;
      pushed = λ k counts. ap (λ n. rows_in_columns (k + n) c.rows.columns.items) (sym all) ∙ s.pushed k counts;
      is = (refl, subst (λ k. IsBlock fields header c.args.before k c.args.reader.now c.rows.reader rest s.rows) all (s.block rest r));
    }

pub returns-clause-counts : goal.returns-clause-counts
returns-clause-counts c = λ k counts.
    let all : c.rows.i ≡ c.args.room = omega arith in
    subst (λ n. All (Counts (k + n)) c.rows.columns.items) all (c.rows.invariant.counts k counts)
