use Rattle.std.proofs.Common.{rules, ◌≡◌, ◌∙◌, ◌<◌, ◌++◌, ◌∷◌, [], ℕ, List, length, pos, sym, ap, arith}
use Rattle.std.proofs.lemmas.List.{get_or-map, length-map}
use Rattle.values.specs.Printed.{text_of}
use Rattle.values.specs.declared.value.Value.{Value}
use Rattle.values.specs.declared.value.Value.TheVariants.{Whole}
use Rattle.csv_text.specs.Cells.{cell_text, cell_texts}
use Rattle.csv_text.proofs.CellLemmas.{begun_more}
use Rattle.csv_text.proofs.cells.column_cells.Goals as goal

pub values-preserved : goal.values-preserved
values-preserved c =
    let at : ℕ = c.args.at in
    let width : ℕ = c.args.width in
    let values : List Value = c.args.dictionary.now.values in
    let texts : List (List ℕ) = cell_texts at width values in
    let id : ℕ = c.values.id in
    let lt : id < length values = omega (arith, c.values-test.true, c.count-count.ensures.count) in
    let here : c.len.result ≡ length c.values.bytes.items = search rules in
    begun_more texts id c.values.bytes.items c.values.starts.items c.push_cell.new.text.items c.push.new.self.items (omega (arith, lt, length-map values (λ v. cell_text at width (text_of v)))) c.values.invariant
    (c.in_ok-push.ensures.items ∙ ap (λ n. c.values.starts.items ++ n ∷ []) here)
    (c.in_ok-push_cell.ensures ∙ ap (λ t. c.values.bytes.items ++ t) (sym (get_or-map (λ v. cell_text at width (text_of v)) values id (Whole (pos 0)) [] lt)))
