use Rattle.std.proofs.Common.{◌≡◌, ◌<◌, ℕ, List, All, IfSome, length, ap, subst, sym, ◌∙◌}
use Rattle.bit_column.specs.Column.{ids_between}
use Rattle.bit_column.specs.Sections.{Readable, section}
use Rattle.bit_column.proofs.Ranges.{range-alone}
use Rattle.bit_column.proofs.range.read_range.Goals as goal

pub returns-in-Ok-clause-ids : goal.returns-in-Ok-clause-ids
returns-in-Ok-clause-ids g c =
    let held = g.S.Shelf.held c.args.shelf.now in
    let place = c.args.place.now in
    let width = c.args.width in
    let count = c.args.count in
    let from = c.args.from in
    let to = c.args.to in
    let appends = c.in-Ok.ensures.ids in
    let same : c.from_vec.result ≡ appends.ids = c.from_vec.ensures ∙ range-alone held place width count from to c.new-ids.result.items c.append_range.new.ids.items appends c.new-ids.ensures.items in
    subst (λ (ids : List ℕ). IfSome held (λ files. Readable width count from to (section files place) × (ids ≡ ids_between width from to (section files place)))) (sym same) appends.told

pub returns-in-Ok-clause-number : goal.returns-in-Ok-clause-number
returns-in-Ok-clause-number g c =
    let held = g.S.Shelf.held c.args.shelf.now in
    let appends = c.in-Ok.ensures.ids in
    let same : c.from_vec.result ≡ appends.ids = c.from_vec.ensures ∙ range-alone held c.args.place.now c.args.width c.args.count c.args.from c.args.to c.new-ids.result.items c.append_range.new.ids.items appends c.new-ids.ensures.items in
    ap length same ∙ appends.number

pub returns-in-Ok-clause-below : goal.returns-in-Ok-clause-below
returns-in-Ok-clause-below g c =
    let held = g.S.Shelf.held c.args.shelf.now in
    let appends = c.in-Ok.ensures.ids in
    let same : c.from_vec.result ≡ appends.ids = c.from_vec.ensures ∙ range-alone held c.args.place.now c.args.width c.args.count c.args.from c.args.to c.new-ids.result.items c.append_range.new.ids.items appends c.new-ids.ensures.items in
    subst (All (λ id. id < c.args.count)) (sym same) appends.below
