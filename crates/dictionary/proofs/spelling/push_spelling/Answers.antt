use Rattle.std.proofs.Common.{◌∙◌, length, ap}
use Rattle.std.specs.Int.{w32, to_be_bytes}
use Rattle.dictionary.proofs.Written.{counted_pushed, extended_twice, numbers_spelled, on_ok, texts_spelled}
use Rattle.dictionary.proofs.spelling.push_spelling.Goals as goal

pub returns-in-Int : goal.returns-in-Int
returns-in-Int c =
    let front = counted_pushed c.args.out.now.items c.extend_from_slice.new.self.items c.to_be_bytes.result (length c.args.values.now) c.in_ok-extend_from_slice.ensures.items (c.to_be_bytes.ensures ∙ ap (to_be_bytes w32) c.len.ensures) in
    record {
      ok = on_ok c.push_numbers.result (λ e. numbers_spelled c.args.kind c.args.values.now c.args.out.now.items c.extend_from_slice.new.self.items c.push_numbers.new.out.items c.in-Int.is front e) c.push_numbers.ensures.ok;
      kept = extended_twice c.args.out.now.items c.extend_from_slice.new.self.items c.push_numbers.new.out.items (c.to_be_bytes.result, c.in_ok-extend_from_slice.ensures.items) c.push_numbers.ensures.kept;
    }

pub returns-in_ok-push_offsets-in-Text-clause-ok :
    goal.returns-in_ok-push_offsets-in-Text-clause-ok
returns-in_ok-push_offsets-in-Text-clause-ok c =
    let front = counted_pushed c.args.out.now.items c.extend_from_slice.new.self.items c.to_be_bytes.result (length c.args.values.now) c.in_ok-extend_from_slice.ensures.items (c.to_be_bytes.ensures ∙ ap (to_be_bytes w32) c.len.ensures) in
    on_ok c.push_texts.result
    (λ e. texts_spelled c.args.kind c.args.values.now c.args.out.now.items c.extend_from_slice.new.self.items c.push_offsets.new.out.items c.push_texts.new.out.items c.in-Text.is front c.in_ok-push_offsets-in-Text.ensures.ok e)
    c.push_texts.ensures.ok
