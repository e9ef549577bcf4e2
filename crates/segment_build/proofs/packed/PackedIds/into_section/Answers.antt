use Rattle.std.proofs.Common.{◌≡◌, ◌∙◌, ap, sym, arith}
use Rattle.bit_column.specs.Column.{ids_between, spelled}
use Rattle.segment_build.proofs.packed.PackedIds.into_section.Goals as goal

pub returns-then-are_spelled-clause-section : goal.returns-then-are_spelled-clause-section
returns-then-are_spelled-clause-section c =
    let own = c.self.inside in
    let bits : own.width.bits ≡ c.args.width = omega (arith, c.if-self-width.true) in
    let value = c.as_slice.ensures.value in
    sym value ∙ c.are_spelled.ensures c.if-are_spelled.true
    ∙ ap (λ bytes. spelled own.width.bits (ids_between own.width.bits 0 own.rows bytes)) value
    ∙ ap (spelled own.width.bits) c.self.view_is
    ∙ ap (λ width. spelled width c.args.self) bits
