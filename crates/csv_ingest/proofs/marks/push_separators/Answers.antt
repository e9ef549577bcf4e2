use Rattle.std.proofs.Common.{◌≡◌, ◌≤◌, ◌∙◌, ◌+◌, ◌*◌, ◌/◌, ◌++◌, ◌∷◌, [], take, drop, length, get_or, sym, ap, subst, arith, append_assoc, append-nil}
use Rattle.std.proofs.lemmas.List.{take_all}
use Rattle.csv_ingest.specs.Places.{is_separator, places}
use Rattle.csv_ingest.proofs.PlaceLemmas.{block_more, byte_more}
use Rattle.csv_ingest.proofs.marks.push_separators.Goals as goal

pub bytes-init : goal.bytes-init
bytes-init c =
    let all : c.parts.i ≡ length c.args.text.now / 64 = omega (arith, c.parts.auto.i-end, c.parts-test.false) in
    subst (λ n. c.parts.out.items ≡ c.args.out.now.items ++ places is_separator 0 (take (n * 64) c.args.text.now)) all c.parts.invariant

pub bytes-preserved : goal.bytes-preserved
bytes-preserved c =
    let text = c.args.text.now in
    let at = c.bytes.at in
    let start = c.args.out.now.items in
    c.in_ok-push_byte.ensures
    ∙ ap (λ l. l ++ places is_separator at (get_or text at 0 ∷ [])) c.bytes.invariant
    ∙ append_assoc start (places is_separator 0 (take at text)) (places is_separator at (get_or text at 0 ∷ []))
    ∙ ap (λ l. start ++ l) (sym (byte_more is_separator text at c.bytes-test.true))

pub parts-init : goal.parts-init
parts-init c = sym (append-nil c.args.out.now.items)

pub parts-preserved : goal.parts-preserved
parts-preserved c =
    let text = c.args.text.now in
    let at = c.parts.i * 64 in
    let start = c.args.out.now.items in
    let room : at + 64 ≤ length text = omega (arith, c.parts-test.true) in
    let end : at + 64 ≡ (c.parts.i + 1) * 64 = omega arith in
    c.in_ok-push_block.ensures
    ∙ ap (λ l. l ++ places is_separator at (take 64 (drop at text))) c.parts.invariant
    ∙ append_assoc start (places is_separator 0 (take at text)) (places is_separator at (take 64 (drop at text)))
    ∙ ap (λ l. start ++ l) (sym (block_more is_separator text at room))
    ∙ ap (λ n. start ++ places is_separator 0 (take n text)) end

pub returns : goal.returns
returns c = c.bytes.invariant ∙ ap (λ l. c.args.out.now.items ++ places is_separator 0 l) (take_all c.bytes.at c.args.text.now c.bytes-test.false)
