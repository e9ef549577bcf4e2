use Rattle.std.proofs.Common.{arith, inl, inr}
use Rattle.dictionary_reading.specs.declared.in_file.FileDictionary.{FileDictionary}
use Rattle.dictionary_reading.proofs.Lookups.{no_room}
use Rattle.dictionary_reading.proofs.in_file.FileDictionary.new.Goals.{then-count-gt-MOST_VALUES-via-then-count-gt-MOST_VALUES, then-count-gt-MOST_VALUES-via-else-count-gt-MOST_VALUES+then-place-room_of}
use Rattle.dictionary_reading.proofs.in_file.FileDictionary.new.Goals as goal

pub returns-then-count-gt-MOST_VALUES-clause-none : goal.returns-then-count-gt-MOST_VALUES-clause-none
returns-then-count-gt-MOST_VALUES-clause-none c = λ _ files.
    let l : FileDictionary = record { kind = c.args.kind; place = c.args.place; count = c.args.count } in
    elim c.then-count-gt-MOST_VALUES.branch [
      | then-count-gt-MOST_VALUES-via-then-count-gt-MOST_VALUES w ↦ no_room l files (inl (omega (arith, w.if-count-gt-MOST_VALUES)))
      | then-count-gt-MOST_VALUES-via-else-count-gt-MOST_VALUES+then-place-room_of w ↦ no_room l files (inr (omega (arith, w.if-place-room_of, w.room_of)))
    ]
