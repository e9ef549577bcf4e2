use Rattle.std.proofs.Common.{◌∙◌, ◌+◌, ◌*◌, ap, sym, subst}
use Rattle.csv_ingest.specs.Parts.{IsLineAt}
use Rattle.csv_ingest.proofs.PartRows.{all-more, line-more}
use Rattle.csv_ingest.proofs.parts.rows_of.Goals as goal

pub rows-preserved : goal.rows-preserved
rows-preserved c =
    let step = c.args.step in
    let i = c.rows.i in
    let IsLine = IsLineAt c.args.text.now c.args.places.now c.args.width step in
    record {
      at = ap (λ k. k + step) c.rows.invariant.at ∙ sym (line-more i step);
      lines = all-more (λ r. IsLineAt c.args.text.now c.args.places.now c.args.width step (r * step)) i c.rows.invariant.lines (subst IsLine c.rows.invariant.at (c.is_line.ensures c.if-not-is_line.false));
    }
