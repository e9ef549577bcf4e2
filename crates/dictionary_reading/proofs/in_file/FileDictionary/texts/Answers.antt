use Rattle.std.proofs.Common.{◌≡◌, ◌∙◌, ◌+◌, ◌-◌, ◌*◌, ◌<◌, Err, ap, arith, inl, inr, length, subst}
use Rattle.dictionary.specs.Spelling.{texts}
use Rattle.outside.specs.Seen.{OnlyReads, Seen, seen}
use Rattle.outside.proofs.SeenLemmas.{reads_after}
use Rattle.dictionary_reading.proofs.CallLemmas.{looks_bad, looks_ok}
use Rattle.dictionary_reading.proofs.Faults.{err_same, reads_err, reads_well}
use Rattle.dictionary_reading.specs.declared.fault.LookupFault.TheVariants.{NoDictionary}
use Rattle.dictionary_reading.specs.InFile.{OfDictionary, part}
use Rattle.dictionary_reading.proofs.LogLemmas.{logs_more, logs_then}
use Rattle.dictionary_reading.proofs.Lookups.{Ends, bad_ends, no_texts, texts_block}
use Rattle.dictionary_reading.proofs.in_file.FileDictionary.texts.Goals.{then-end-start-via-then-end-start, then-end-start-via-else-end-start+then-from}
use Rattle.dictionary_reading.proofs.in_file.FileDictionary.texts.Goals as goal

pub returns-then-end-start-clause-looks : goal.returns-then-end-start-clause-looks
returns-then-end-start-clause-looks g c =
    let e : Ends c.args.self.now c.args.from c.args.to c.four_at-start.result c.four_at-end.result c.in-Ok.starts = record { text = c.requires.texts; order = c.requires.order; within = c.requires.within; start_small = c.four_at-start.ensures.within; end_small = c.four_at-end.ensures.within; start_is = c.four_at-start.ensures.spelled ∙ ap (part 0 4) c.as_slice.ensures; end_is = c.four_at-end.ensures.spelled ∙ ap (part (4 * (c.args.to - c.args.from)) 4) c.as_slice-2.ensures } in
    let n = c.args.to - c.args.from in
    let old : Seen = seen g.S.Shelf c.args.shelf.now in
    let mid : Seen = seen g.S.Shelf c.starts.new.shelf in
    looks_bad c.args.self.now (4 + 516 * n) old mid (reads_well c.in-Ok.starts old mid c.in-Ok.ensures.looks.only_reads) (logs_more c.args.self.now.place (4 * n + 4) (4 + 516 * n) old.log mid.log (omega arith) c.in-Ok.ensures.looks.log)
    (elim c.then-end-start.branch [
      | then-end-start-via-then-end-start w ↦ bad_ends c.args.self.now (g.S.Shelf.held c.args.shelf.now) c.args.from c.args.to c.four_at-start.result c.four_at-end.result c.in-Ok.starts e (inl (omega (arith, w.if-end-start))) c.in-Ok.ensures.of
      | then-end-start-via-else-end-start+then-from w ↦ bad_ends c.args.self.now (g.S.Shelf.held c.args.shelf.now) c.args.from c.args.to c.four_at-start.result c.four_at-end.result c.in-Ok.starts e (inr (omega (arith, w.if-from, w.from, w.from-else-end-start))) c.in-Ok.ensures.of
    ])

pub returns-in-Err-texts_between-clause-looks : goal.returns-in-Err-texts_between-clause-looks
returns-in-Err-texts_between-clause-looks g c =
    let e : Ends c.args.self.now c.args.from c.args.to c.four_at-start.result c.four_at-end.result c.in-Ok.starts = record { text = c.requires.texts; order = c.requires.order; within = c.requires.within; start_small = c.four_at-start.ensures.within; end_small = c.four_at-end.ensures.within; start_is = c.four_at-start.ensures.spelled ∙ ap (part 0 4) c.as_slice.ensures; end_is = c.four_at-end.ensures.spelled ∙ ap (part (4 * (c.args.to - c.args.from)) 4) c.as_slice-2.ensures } in
    let n = c.args.to - c.args.from in
    let size = c.four_at-end.result - c.four_at-start.result in
    let old : Seen = seen g.S.Shelf c.args.shelf.now in
    let mid : Seen = seen g.S.Shelf c.starts.new.shelf in
    let new : Seen = seen g.S.Shelf c.texts_between.new.shelf in
    let first : OnlyReads ⊥ old mid = reads_well c.in-Ok.starts old mid c.in-Ok.ensures.looks.only_reads in
    record {
      refused = λ fails.
          no_texts c.args.self.now (g.S.Shelf.held c.args.shelf.now) c.args.from c.args.to c.four_at-start.result c.four_at-end.result c.in-Ok.starts e c.in-Ok.ensures.of
          (subst (λ held. OfDictionary c.args.self.now held (λ d. length (texts d.values) < c.four_at-end.result)) first.held (c.in-Err-texts_between.ensures.bad (ap Err (err_same c.in-Err-texts_between.fault NoDictionary fails))));
      only_reads = reads_err c.in-Err-texts_between.fault old mid new first c.in-Err-texts_between.ensures.only_reads;
      log = logs_more c.args.self.now.place (4 * n + 4 + size) (4 + 516 * n) old.log new.log (omega (arith, c.if-from.false, c.from.ensures, c.from-else-end-start.ensures)) (logs_then c.args.self.now.place (4 * n + 4) size old.log mid.log new.log c.in-Ok.ensures.looks.log c.in-Err-texts_between.ensures.log);
    }

pub returns-clause-looks : goal.returns-clause-looks
returns-clause-looks g c =
    let n = c.args.to - c.args.from in
    let size = c.four_at-end.result - c.four_at-start.result in
    let old : Seen = seen g.S.Shelf c.args.shelf.now in
    let mid : Seen = seen g.S.Shelf c.starts.new.shelf in
    let new : Seen = seen g.S.Shelf c.texts_between.new.shelf in
    looks_ok c.args.self.now (4 + 516 * n) c.new.result old new
    (reads_after ⊥ old mid new (reads_well c.in-Ok.starts old mid c.in-Ok.ensures.looks.only_reads) (reads_well c.in-Ok-texts_between.body mid new c.in-Ok-texts_between.ensures.only_reads))
    (logs_more c.args.self.now.place (4 * n + 4 + size) (4 + 516 * n) old.log new.log (omega (arith, c.if-from.false, c.from.ensures, c.from-else-end-start.ensures)) (logs_then c.args.self.now.place (4 * n + 4) size old.log mid.log new.log c.in-Ok.ensures.looks.log c.in-Ok-texts_between.ensures.log))

pub returns-clause-of : goal.returns-clause-of
returns-clause-of g c =
    let e : Ends c.args.self.now c.args.from c.args.to c.four_at-start.result c.four_at-end.result c.in-Ok.starts = record { text = c.requires.texts; order = c.requires.order; within = c.requires.within; start_small = c.four_at-start.ensures.within; end_small = c.four_at-end.ensures.within; start_is = c.four_at-start.ensures.spelled ∙ ap (part 0 4) c.as_slice.ensures; end_is = c.four_at-end.ensures.spelled ∙ ap (part (4 * (c.args.to - c.args.from)) 4) c.as_slice-2.ensures } in
    texts_block c.args.self.now (g.S.Shelf.held c.args.shelf.now) c.args.from c.args.to c.four_at-start.result c.four_at-end.result c.in-Ok.starts c.in-Ok-texts_between.body c.new.result e c.new.ensures c.in-Ok.ensures.of
    (subst (λ held. OfDictionary c.args.self.now held (λ d. c.in-Ok-texts_between.body ≡ part c.four_at-start.result (c.four_at-end.result - c.four_at-start.result) (texts d.values))) c.in-Ok.ensures.looks.only_reads.held c.in-Ok-texts_between.ensures.of)
