use Rattle.std.proofs.Common.{◌≡◌, ◌∙◌, ℕ, List, pos, sym, ap}
use Rattle.std.proofs.lemmas.Bool.Decides.{Decides-eqb}
use Rattle.std.proofs.lemmas.Option.{get_or_from_slice_get}
use Rattle.std.proofs.lemmas.Slice.Eq.{slice_eq-Decides}
use Rattle.values.specs.declared.value.Value.TheVariants.{Whole, Text}
use Rattle.star_reader.specs.Asked.{value_of}
use Rattle.star_reader.proofs.KeySteps as steps
use Rattle.star_reader.proofs.key.is_value.Goals as goal

pub returns-in-None : goal.returns-in-None
returns-in-None c =
    let own = steps.is_text c.args.column.now.values.now.values c.args.id c.in-None.ensures c.requires in
    steps.apart c.args.value.now (value_of c.args.column.now c.args.id) _ own.0 c.in-Whole.is own.1

pub returns-in-Some-bytes_at : goal.returns-in-Some-bytes_at
returns-in-Some-bytes_at c =
    let own : List ℕ = c.in-Some-bytes_at.own.now in
    let mine : List ℕ = c.as_slice.result.now in
    let other : value_of c.args.column.now c.args.id ≡ Text own =
    get_or_from_slice_get c.args.column.now.values.now.values c.args.id (Text own) (Whole (pos 0)) c.in-Some-bytes_at.ensures in
    steps.same_texts c.args.value.now (value_of c.args.column.now c.args.id) mine own c.eq.result
    (c.in-Text.is ∙ ap Text (sym c.as_slice.ensures)) other
    (slice_eq-Decides Decides-eqb own mine c.eq.result c.eq.ensures)

pub returns-in-None-bytes_at : goal.returns-in-None-bytes_at
returns-in-None-bytes_at c =
    let own = steps.is_number c.args.column.now.values.now.values c.args.id c.in-None-bytes_at.ensures c.requires in
    steps.apart_from c.args.value.now (value_of c.args.column.now c.args.id) own.0 _ c.in-Text.is own.1
