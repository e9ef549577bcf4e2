use Rattle.std.proofs.Common.{◌≡◌, ◌<◌, ◌++◌, ◌+◌, ◌-◌, ◌*◌, ◌/◌, List, ℕ, OnOk, All, take, refl, subst, sym}
use Rattle.outside.specs.Seen.{seen}
use Rattle.bit_column.specs.Bits.{bits_of, pieces}
use Rattle.bit_column.proofs.RangeSteps.{bytes-appended, bytes-reads}
use Rattle.bit_column.proofs.ShortSteps.{few-read}
use Rattle.bit_column.proofs.range.append_short.Goals as goal

pub returns-in-Ok-clause-ids : goal.returns-in-Ok-clause-ids
returns-in-Ok-clause-ids g c =
    let place = c.args.place.now in
    let width = c.args.range.width.bits in
    let from = c.args.range.from in
    let to = c.args.range.to in
    let bit = c.first_bit-bit.result in
    let count = c.args.range.count in
    let before = c.args.ids.now.items in
    let after = c.push_few.new.ids.items in
    let bytes = take ((to * width + 7) / 8 - from * width / 8) c.read_short_range.new.bytes in
    let same : pieces width bit (to - from) (bits_of 8 c.read_short_range.new.bytes) ≡ pieces width bit (to - from) (bits_of 8 bytes) = few-read width from to bit c.read_short_range.new.bytes c.args.range.order c.first_bit-bit.ensures.is in
    bytes-appended c.in-Ok.field-0 place width from to bit bytes bytes (seen g.S.Shelf c.args.shelf.now) (seen g.S.Shelf c.read_short_range.new.shelf)
    c.first_bit-bit.ensures.is refl c.in-Ok.ensures c.push_few.result count before after c.args.range.width.least c.requires.some
    (subst (λ (ps : List ℕ). OnOk c.push_few.result (after ≡ before ++ ps)) same c.push_few.ensures.ids)
    (subst (λ (ps : List ℕ). OnOk c.push_few.result (All (λ id. id < count) ps)) same c.push_few.ensures.below)

pub returns-in-Ok-clause-reads : goal.returns-in-Ok-clause-reads
returns-in-Ok-clause-reads g c =
    let place = c.args.place.now in
    let width = c.args.range.width.bits in
    let from = c.args.range.from in
    let to = c.args.range.to in
    let bit = c.first_bit-bit.result in
    let count = c.args.range.count in
    let bytes = take ((to * width + 7) / 8 - from * width / 8) c.read_short_range.new.bytes in
    let same : pieces width bit (to - from) (bits_of 8 c.read_short_range.new.bytes) ≡ pieces width bit (to - from) (bits_of 8 bytes) = few-read width from to bit c.read_short_range.new.bytes c.args.range.order c.first_bit-bit.ensures.is in
    bytes-reads c.in-Ok.field-0 place width from to bit bytes bytes (seen g.S.Shelf c.args.shelf.now) (seen g.S.Shelf c.read_short_range.new.shelf)
    c.first_bit-bit.ensures.is refl c.in-Ok.ensures c.push_few.result count c.args.range.width.least c.requires.some
    (λ e all. c.push_few.ensures.bad e (subst (λ (ps : List ℕ). All (λ id. id < count) ps) (sym same) all)) c.push_few.ensures.read

pub returns-in-Err-clause-reads : goal.returns-in-Err-clause-reads
returns-in-Err-clause-reads g c = c.in-Err.ensures.reads c.args.range.count
