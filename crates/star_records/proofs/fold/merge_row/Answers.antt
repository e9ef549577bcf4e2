use Rattle.std.proofs.Common.{◌≡◌, ◌++◌, ◌∷◌, [], length, pos, sym, ap, subst, ◌∙◌, arith}
use Rattle.state_columns.specs.Docs.{Docs}
use Rattle.agg_laws.specs.Merged.{weights}
use Rattle.agg_laws.specs.Numbers.{AreWhole}
use Rattle.agg_laws.specs.Rows.{merged_rows, row_of, row_weight}
use Rattle.agg_laws.specs.laws.Rows.{row_weight_least}
use Rattle.state_columns.proofs.ValueSteps.{fits_row}
use Rattle.state_columns.proofs.WeightLemmas.{weights-append}
use Rattle.star_rows.specs.Columns.{row_at}
use Rattle.star_rows.proofs.RowLemmas as rows
use Rattle.star_records.proofs.FoldSteps.{parts}
use Rattle.star_records.proofs.fold.merge_row.Goals as goal

pub add_last-requires-clause-weight_fits : goal.add_last-requires-clause-weight_fits
add_last-requires-clause-weight_fits c front e is =
    let a = ap (weights row_weight) is in
    let b = weights-append row_weight front (e ∷ []) in
    omega (arith, a, b, c.requires.weight_fits)

pub returns : goal.returns
returns c =
    let ks = c.args.table.now.kinds in
    let row = row_at (pos 0) c.args.row c.args.metrics.now in
    let last = parts c.args.table.now.docs c.requires.some in
    let read : c.as_slice.result.now ≡ row_at (pos 0) c.args.row c.args.metrics.now =
    c.as_slice.ensures.value
    ∙ rows.is_row (pos 0) c.args.row c.args.metrics.now c.read_row.new.out.items
    c.in_ok-read_row.ensures.items c.requires.lengths in
    let values : c.as_slice-2.result.now ≡ row_at (pos 0) c.args.row c.args.metrics.now =
    c.as_slice-2.ensures.value
    ∙ rows.is_row (pos 0) c.args.row c.args.metrics.now c.read_row.new.out.items
    c.in_ok-read_row.ensures.items c.requires.lengths in
    let lengths : length c.as_slice.result.now ≡ length ks =
    ap length c.as_slice.ensures.value ∙ c.in_ok-read_row.ensures.length ∙ c.requires.metrics in
    record {
      merged = λ front e is. ap (λ (d : Docs). d.docs) (c.add_last.ensures front e is)
          ∙ ap (λ xs. front ++ ((e.0, merged_rows e.1 (row_of ks (xs ∷ []))) ∷ [])) values;
      weighs = row_weight_least (row_of ks (row ∷ [])) 1
          (fits_row ks row (ap length (sym read) ∙ lengths) (subst AreWhole read c.are_whole.ensures));
      dims = ap (λ (d : Docs). d.dims) (c.add_last.ensures last.0 last.1.0 last.1.1);
      kinds = ap (λ (d : Docs). d.kinds) (c.add_last.ensures last.0 last.1.0 last.1.1);
    }
