use Rattle.std.proofs.Common.{◌≡◌, ◌<◌, ◌++◌, ◌∷◌, [], ◌+◌, ◌-◌, ◌*◌, ◌/◌, ◌%◌, List, ℕ, OnOk, All, arith, take, refl, subst, sym, ap, ◌∙◌}
use Rattle.outside.specs.Seen.{seen}
use Rattle.bit_column.specs.Bits.{bits_of, field, pieces}
use Rattle.bit_column.proofs.RangeSteps.{bytes-appended, bytes-reads}
use Rattle.bit_column.proofs.Ranges.{on-both, one-alone, one-below, one-read}
use Rattle.bit_column.proofs.ShortSteps.{one-few}
use Rattle.bit_column.proofs.range.append_range.Goals as goal

pub read_short_range-requires-clause-few : goal.read_short_range-requires-clause-few
read_short_range-requires-clause-few g c = one-few c.args.range.width.bits c.args.range.from c.args.range.to (omega arith) c.args.range.width.most

pub returns-in-Ok-clause-ids : goal.returns-in-Ok-clause-ids
returns-in-Ok-clause-ids g c =
    let place = c.args.place.now in
    let width = c.args.range.width.bits in
    let from = c.args.range.from in
    let to = c.args.range.to in
    let count = c.args.range.count in
    let before = c.args.ids.now.items in
    let after = c.push_id.new.ids.items in
    let id = c.id_of-id.result in
    let bytes = take ((to * width + 7) / 8 - from * width / 8) c.read_short_range.new.bytes in
    let ids = pieces width (from * width % 8) (to - from) (bits_of 8 bytes) in
    let found : field width (from * width % 8) (bits_of 8 c.read_short_range.new.bytes) ≡ id = ap (λ b. field width b (bits_of 8 c.read_short_range.new.bytes)) (sym c.first_bit.ensures.is) ∙ sym c.id_of-id.ensures in
    let is : ids ≡ id ∷ [] = one-read width from to c.read_short_range.new.bytes (omega arith) ∙ ap (λ n. n ∷ []) found in
    bytes-appended c.in-Ok.field-0 place width from to (from * width % 8) bytes bytes (seen g.S.Shelf c.args.shelf.now) (seen g.S.Shelf c.read_short_range.new.shelf)
    refl refl c.in-Ok.ensures c.push_id.result count before after c.args.range.width.least (omega arith)
    (subst (λ (xs : List ℕ). OnOk c.push_id.result (after ≡ before ++ xs)) (sym is) c.push_id.ensures.ids)
    (on-both c.push_id.result (id < count) (id < count) (All (λ n. n < count) ids) (λ below again. one-below (λ n. n < count) id ids is below) c.push_id.ensures.below c.push_id.ensures.below)

pub returns-in-Ok-clause-reads : goal.returns-in-Ok-clause-reads
returns-in-Ok-clause-reads g c =
    let place = c.args.place.now in
    let width = c.args.range.width.bits in
    let from = c.args.range.from in
    let to = c.args.range.to in
    let count = c.args.range.count in
    let id = c.id_of-id.result in
    let bytes = take ((to * width + 7) / 8 - from * width / 8) c.read_short_range.new.bytes in
    let ids = pieces width (from * width % 8) (to - from) (bits_of 8 bytes) in
    let found : field width (from * width % 8) (bits_of 8 c.read_short_range.new.bytes) ≡ id = ap (λ b. field width b (bits_of 8 c.read_short_range.new.bytes)) (sym c.first_bit.ensures.is) ∙ sym c.id_of-id.ensures in
    let is : ids ≡ id ∷ [] = one-read width from to c.read_short_range.new.bytes (omega arith) ∙ ap (λ n. n ∷ []) found in
    bytes-reads c.in-Ok.field-0 place width from to (from * width % 8) bytes bytes (seen g.S.Shelf c.args.shelf.now) (seen g.S.Shelf c.read_short_range.new.shelf)
    refl refl c.in-Ok.ensures c.push_id.result count c.args.range.width.least (omega arith)
    (λ e all. c.push_id.ensures.bad e (one-alone (λ n. n < count) id ids is all)) c.push_id.ensures.read

pub returns-in-Err-clause-reads : goal.returns-in-Err-clause-reads
returns-in-Err-clause-reads g c = c.in-Err.ensures.reads c.args.range.count
