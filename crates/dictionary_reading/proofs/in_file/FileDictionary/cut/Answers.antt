use Rattle.std.proofs.Common.{◌≡◌, ◌∙◌, ◌+◌, ◌-◌, ◌*◌, ◌/◌, ℕ, Option, arith, get_or, subst}
use Rattle.outside.specs.Files.{Files}
use Rattle.outside.specs.Seen.{Seen, seen}
use Rattle.outside.proofs.SeenLemmas.{reads_after}
use Rattle.values.specs.declared.value.Value.{Value}
use Rattle.values.specs.Order.{value_order}
use Rattle.value_ids.specs.Ids.{Cuts}
use Rattle.value_ids.proofs.MatchLemmas.{cut_found}
use Rattle.dictionary_reading.specs.declared.in_file.FileDictionary.{FileDictionary}
use Rattle.dictionary_reading.specs.InFile.{OfDictionary}
use Rattle.dictionary_reading.proofs.CallLemmas.{looks_after, looks_ok}
use Rattle.value_ids.proofs.Halving.{Halved, halved_greater, halved_less}
use Rattle.dictionary_reading.proofs.CutLemmas.{of_both, of_more, probed_few, probed_more}
use Rattle.dictionary_reading.proofs.Faults.{reads_well}
use Rattle.dictionary_reading.proofs.LogLemmas.{logs_more, logs_then}
use Rattle.dictionary_reading.proofs.in_file.FileDictionary.cut.Goals as goal

pub halves-preserved-in-Ok-Less : goal.halves-preserved-in-Ok-Less
halves-preserved-in-Ok-Less g c =
    let l : FileDictionary = c.args.self.now in
    let held : Option Files = g.S.Shelf.held c.args.shelf.now in
    let bound : Value = c.args.bound.now in
    let low : ℕ = c.halves.low in
    let high : ℕ = c.halves.high in
    let middle : ℕ = low + (high - low) / 2 in
    let a : Seen = seen g.S.Shelf c.args.shelf.now in
    let b : Seen = seen g.S.Shelf c.halves.shelf in
    let e : Seen = seen g.S.Shelf c.order_at.new.shelf in
    let i = c.halves.invariant in
    let few = c.requires.room.few in
    let some = c.halves-test.true in
    let within = i.within in
    let order = subst (λ h. OfDictionary l h (λ d. (x : Value) → value_order (get_or d.values middle x) bound ≡ c.in-Ok-Less.field-0)) i.reads.held c.in-Ok-Less.ensures.order in
    record {
      reads = reads_after ⊥ a b e i.reads (reads_well c.in-Ok-Less.field-0 b e c.in-Ok-Less.ensures.looks.only_reads);
      order = omega (arith, some);
      within = within;
      halved = of_both l held (λ d. Halved d.values bound low high) (λ d. (x : Value) → value_order (get_or d.values middle x) bound ≡ c.in-Ok-Less.field-0) (λ d. Halved d.values bound (middle + 1) high)
          (λ files d is n h o. halved_less d.values bound low high middle is.stands.ascends (omega (arith, some, within, n)) (λ x. o x ∙ c.in-Ok-Less.field-0-is) h) i.halved order;
      probes = i.probes + 1;
      probed = probed_more l.count low high (middle + 1) high i.probes few some (omega (arith, some)) i.probed;
      log = logs_more l.place (520 * i.probes + 520) (520 * (i.probes + 1)) a.log e.log (omega arith) (logs_then l.place (520 * i.probes) 520 a.log b.log e.log i.log c.in-Ok-Less.ensures.looks.log);
    }

pub halves-preserved : goal.halves-preserved
halves-preserved g c =
    let l : FileDictionary = c.args.self.now in
    let held : Option Files = g.S.Shelf.held c.args.shelf.now in
    let bound : Value = c.args.bound.now in
    let low : ℕ = c.halves.low in
    let high : ℕ = c.halves.high in
    let middle : ℕ = low + (high - low) / 2 in
    let a : Seen = seen g.S.Shelf c.args.shelf.now in
    let b : Seen = seen g.S.Shelf c.halves.shelf in
    let e : Seen = seen g.S.Shelf c.order_at.new.shelf in
    let i = c.halves.invariant in
    let few = c.requires.room.few in
    let some = c.halves-test.true in
    let within = i.within in
    let order = subst (λ h. OfDictionary l h (λ d. (x : Value) → value_order (get_or d.values middle x) bound ≡ c.in-Ok-Greater.field-0)) i.reads.held c.in-Ok-Greater.ensures.order in
    record {
      reads = reads_after ⊥ a b e i.reads (reads_well c.in-Ok-Greater.field-0 b e c.in-Ok-Greater.ensures.looks.only_reads);
      order = omega arith;
      within = omega (arith, some, within);
      halved = of_both l held (λ d. Halved d.values bound low high) (λ d. (x : Value) → value_order (get_or d.values middle x) bound ≡ c.in-Ok-Greater.field-0) (λ d. Halved d.values bound low middle)
          (λ files d is n h o. halved_greater d.values bound low high middle is.stands.ascends (λ x. o x ∙ c.in-Ok-Greater.field-0-is) h) i.halved order;
      probes = i.probes + 1;
      probed = probed_more l.count low high low middle i.probes few some (omega (arith, some)) i.probed;
      log = logs_more l.place (520 * i.probes + 520) (520 * (i.probes + 1)) a.log e.log (omega arith) (logs_then l.place (520 * i.probes) 520 a.log b.log e.log i.log c.in-Ok-Greater.ensures.looks.log);
    }

pub returns-in-Ok-Equal-clause-cut : goal.returns-in-Ok-Equal-clause-cut
returns-in-Ok-Equal-clause-cut g c =
    let l : FileDictionary = c.args.self.now in
    let held : Option Files = g.S.Shelf.held c.args.shelf.now in
    let bound : Value = c.args.bound.now in
    let low : ℕ = c.halves.low in
    let high : ℕ = c.halves.high in
    let middle : ℕ = low + (high - low) / 2 in
    let i = c.halves.invariant in
    let some = c.halves-test.true in
    let within = i.within in
    let order = subst (λ h. OfDictionary l h (λ d. (x : Value) → value_order (get_or d.values middle x) bound ≡ c.in-Ok-Equal.field-0)) i.reads.held c.in-Ok-Equal.ensures.order in
    of_more l held (λ d. (x : Value) → value_order (get_or d.values middle x) bound ≡ c.in-Ok-Equal.field-0) (λ d. Cuts d.values bound middle (middle + 1))
    (λ files d is n o. cut_found d.values bound middle is.stands.ascends (omega (arith, some, within, n)) (λ x. o x ∙ c.in-Ok-Equal.field-0-is)) order

pub returns-in-Ok-Equal-clause-looks : goal.returns-in-Ok-Equal-clause-looks
returns-in-Ok-Equal-clause-looks g c =
    let l : FileDictionary = c.args.self.now in
    let i = c.halves.invariant in
    let few = probed_few l.count c.halves.low c.halves.high i.probes c.requires.room.few c.halves-test.true i.probed in
    let a : Seen = seen g.S.Shelf c.args.shelf.now in
    let b : Seen = seen g.S.Shelf c.halves.shelf in
    let e : Seen = seen g.S.Shelf c.order_at.new.shelf in
    looks_ok l 10920 _ a e (reads_after ⊥ a b e i.reads (reads_well c.in-Ok-Equal.field-0 b e c.in-Ok-Equal.ensures.looks.only_reads))
    (logs_more l.place (520 * i.probes + 520) 10920 a.log e.log (omega (arith, few)) (logs_then l.place (520 * i.probes) 520 a.log b.log e.log i.log c.in-Ok-Equal.ensures.looks.log))

pub returns-in-Err-clause-looks : goal.returns-in-Err-clause-looks
returns-in-Err-clause-looks g c =
    let l : FileDictionary = c.args.self.now in
    let i = c.halves.invariant in
    let few = probed_few l.count c.halves.low c.halves.high i.probes c.requires.room.few c.halves-test.true i.probed in
    let a : Seen = seen g.S.Shelf c.args.shelf.now in
    let b : Seen = seen g.S.Shelf c.halves.shelf in
    let e : Seen = seen g.S.Shelf c.order_at.new.shelf in
    looks_after l (520 * i.probes) 520 10920 c.in-Err.fault a b e i.reads i.log (omega (arith, few)) c.in-Err.ensures.looks
