use Rattle.std.proofs.Common.{◌≡◌, ◌+◌, ◌*◌, ◌∷◌, [], ◌++◌, List, ℕ, ap, sym, ◌∙◌, arith}
use Rattle.std.proofs.lemmas.List.{take_more_set}
use Rattle.bit_column.specs.Bits.{bits_of, field, pieces}
use Rattle.bit_column.proofs.Fields.{field-word, pieces-more}
use Rattle.bit_column.proofs.words.put_words.Goals as goal

pub loop-i-preserved : goal.loop-i-preserved
loop-i-preserved c =
    let digits : List ℕ = bits_of 8 c.args.bytes.now in
    let i : ℕ = c.loop-i.i in
    let word : ℕ = c.four_bytes.result in
    let own : word ≡ field 32 (0 + i * 32) digits =
    field-word c.args.bytes.now i word (omega arith) (omega (arith, c.requires, c.loop-i-test.true)) c.four_bytes.ensures in
    take_more_set c.loop-i.ids i word (omega (arith, c.loop-i-test.true, c.loop-i.auto.ids))
    ∙ ap (λ ids. ids ++ word ∷ []) c.loop-i.invariant
    ∙ ap (λ x. pieces 32 0 i digits ++ x ∷ []) own
    ∙ sym (pieces-more 32 0 i digits)
