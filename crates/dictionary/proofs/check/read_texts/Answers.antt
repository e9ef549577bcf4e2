use Rattle.std.proofs.Common.{◌≡◌, ◌∙◌, ◌+◌, ◌*◌, [], ◌∷◌, ◌++◌, ◌-◌, drop, length, slice_get, ap, arith, map, refl, sym, subst}
use Rattle.std.proofs.lemmas.Bool.{eqb-true}
use Rattle.std.proofs.lemmas.List.{length-drop, nil_from_length, take_all}
use Rattle.std.proofs.lemmas.List.Elements.{All-nil}
use Rattle.values.specs.declared.value.Value.TheVariants.{Text}
use Rattle.value_ids.specs.Blocks.{AreParts, IsPart, texts_in}
use Rattle.value_ids.specs.declared.text_block.TextPart.{TextPart}
use Rattle.dictionary.specs.Reading.{Left, is_above}
use Rattle.dictionary.specs.Spelling.{counted}
use Rattle.dictionary.proofs.PartLemmas.{are_more, last_pushed, parts_more, placed_first, placed_next}
use Rattle.dictionary.proofs.Texts.{texts_begin, texts_end, texts_stop, texts_fall, texts_more}
use Rattle.dictionary.proofs.check.read_texts.Goals as goal

pub loop-init : goal.loop-init
loop-init c =
    let none = c.in_ok-parts.ensures.items in
    let rest : drop 4 c.args.bytes.now ≡ (counted 0 ++ c.in-Some.ahead.offsets.now) ++ c.in-Some.ahead.texts.now =
    sym (take_all (length c.args.bytes.now - 4) (drop 4 c.args.bytes.now) (omega (arith, length-drop 4 c.args.bytes.now))) ∙ c.in-Some.ensures.2 in
    let all = ap (λ ps. map Text (texts_in c.args.bytes.now ps)) none in
    record {
      read = texts_begin c.args.count (drop 4 c.args.bytes.now) c.in-Some.ahead.offsets.now c.in-Some.ahead.texts.now c.in-Some.ahead.start (map Text (texts_in c.args.bytes.now c.in_ok-parts.parts.items))
          c.in-Some.ensures.0 c.in-Some.ensures.1 rest all;
      placed = placed_first c.args.count c.args.bytes.now c.in-Some.ahead.offsets.now c.in-Some.ahead.texts.now c.in-Some.ahead.start c.in-Some.ensures.0 c.in-Some.ensures.1 c.requires.front
          (length-drop 4 c.args.bytes.now) rest;
      are = subst (AreParts c.args.bytes.now) (sym none) (All-nil (IsPart c.args.bytes.now));
      last = sym (ap (λ vs. slice_get vs (length vs - 1)) all);
    }

pub returns-in_default-next_text-clause-bad : goal.returns-in_default-next_text-clause-bad
returns-in_default-next_text-clause-bad c = λ _.
    let left : Left = record { start = c.loop.ahead.start; offsets = c.loop.ahead.offsets.now; texts = c.loop.ahead.texts.now } in
    texts_stop c.args.count c.loop.counter (drop 4 c.args.bytes.now) left (map Text (texts_in c.args.bytes.now c.loop.parts.items)) c.in_default-next_text.ensures c.loop-test.true c.loop.invariant.read

pub returns-then-not-is_after-clause-bad : goal.returns-then-not-is_after-clause-bad
returns-then-not-is_after-clause-bad c = λ _.
    let left : Left = record { start = c.loop.ahead.start; offsets = c.loop.ahead.offsets.now; texts = c.loop.ahead.texts.now } in
    let following : Left = record { start = c.in-Some-next_text.following.start; offsets = c.in-Some-next_text.following.offsets.now; texts = c.in-Some-next_text.following.texts.now } in
    texts_fall c.args.count c.loop.counter (drop 4 c.args.bytes.now) left following (map Text (texts_in c.args.bytes.now c.loop.parts.items)) c.in-Some-next_text.text.now c.in-Some-next_text.ensures
    (ap (λ o. is_above o (Text c.in-Some-next_text.text.now)) (sym c.loop.invariant.last) ∙ sym c.if-not-is_after.ensures) c.loop-test.true c.loop.invariant.read

pub loop-preserved : goal.loop-preserved
loop-preserved c =
    let bytes = c.args.bytes.now in
    let first = 8 + 4 * c.args.count in
    let left : Left = record { start = c.loop.ahead.start; offsets = c.loop.ahead.offsets.now; texts = c.loop.ahead.texts.now } in
    let following : Left = record { start = c.in-Some-next_text.following.start; offsets = c.in-Some-next_text.following.offsets.now; texts = c.in-Some-next_text.following.texts.now } in
    let text = c.in-Some-next_text.text.now in
    let part : TextPart = record { start = first + left.start; len = length text } in
    let more : map Text (texts_in bytes c.keep_part.new.parts.items) ≡ map Text (texts_in bytes c.loop.parts.items) ++ Text text ∷ [] =
    parts_more bytes first left following text part c.loop.parts.items c.keep_part.new.parts.items c.in-Some-next_text.ensures c.loop.invariant.placed refl c.in_ok-keep_part.ensures.ok in
    record {
      read = texts_more c.args.count c.loop.counter (drop 4 bytes) left following (map Text (texts_in bytes c.loop.parts.items)) (map Text (texts_in bytes c.keep_part.new.parts.items)) text c.in-Some-next_text.ensures
          (ap (λ o. is_above o (Text text)) (sym c.loop.invariant.last) ∙ sym c.if-not-is_after.ensures) c.loop-test.true c.loop.invariant.read more;
      placed = placed_next bytes first left following text c.in-Some-next_text.ensures c.loop.invariant.placed;
      are = are_more bytes first left following text part c.loop.parts.items c.keep_part.new.parts.items c.in-Some-next_text.ensures c.loop.invariant.placed refl c.in_ok-keep_part.ensures.ok c.loop.invariant.are;
      last = sym (last_pushed (map Text (texts_in bytes c.loop.parts.items)) (map Text (texts_in bytes c.keep_part.new.parts.items)) (Text text) more);
    }

pub returns-clause-ok : goal.returns-clause-ok
returns-clause-ok c =
    let left : Left = record { start = c.loop.ahead.start; offsets = c.loop.ahead.offsets.now; texts = c.loop.ahead.texts.now } in
    let none : left.texts ≡ [] = nil_from_length left.texts (eqb-true (length left.texts) 0 (sym c.if-not-is_empty.ensures)) in
    texts_end c.args.count c.loop.counter (drop 4 c.args.bytes.now) left (map Text (texts_in c.args.bytes.now c.loop.parts.items)) c.requires.at_most none (omega (arith, c.loop-test.false, c.loop.auto.counter-end)) c.loop.invariant.read
