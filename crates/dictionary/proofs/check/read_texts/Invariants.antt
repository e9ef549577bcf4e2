use Rattle.std.proofs.Common.{◌≡◌, ◌+◌, ◌-◌, ◌*◌, drop, length, map, slice_get}
use Rattle.std.specs.Prelude.{option_map}
use Rattle.std.specs.Option.{option_copied}
use Rattle.values.specs.declared.value.Value.TheVariants.{Text}
use Rattle.value_ids.specs.Blocks.{AreParts, texts_in}
use Rattle.dictionary.proofs.PartLemmas.{IsPlaced}
use Rattle.dictionary.proofs.Texts.{TextsRead}
use Rattle.dictionary.proofs.check.read_texts.Given as goal

abbrev pub invariant-loop : goal.invariant-loop
invariant-loop l = record {
  read : TextsRead l.count (drop 4 l.bytes) (record { start = l.ahead.start; offsets = l.ahead.offsets.now; texts = l.ahead.texts.now }) (map Text (texts_in l.bytes l.parts.items)) l.counter;
  placed : IsPlaced l.bytes (8 + 4 * l.count) (record { start = l.ahead.start; offsets = l.ahead.offsets.now; texts = l.ahead.texts.now });
  are : AreParts l.bytes l.parts.items;
  last : option_map Text (option_copied l.last) ≡ slice_get (map Text (texts_in l.bytes l.parts.items)) (length (map Text (texts_in l.bytes l.parts.items)) - 1);
}
