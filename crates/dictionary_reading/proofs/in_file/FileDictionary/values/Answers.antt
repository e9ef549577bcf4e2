use Rattle.std.proofs.Common.{rules, Err, ap, ◌≡◌, ◌+◌, ◌-◌, ◌*◌, ℕ, List, Option, arith, drop, get_or, length, subst, take}
use Rattle.std.proofs.lemmas.List.{length-drop, length-take, take_rest}
use Rattle.outside.specs.Files.{Files}
use Rattle.outside.specs.Seen.{OnlyReads, Seen, seen}
use Rattle.outside.proofs.SeenLemmas.{reads_after}
use Rattle.value_ids.specs.Coding.{values_at}
use Rattle.dictionary_reading.specs.declared.in_file.FileDictionary.{FileDictionary}
use Rattle.dictionary_reading.specs.InFile.{IsBlockOf, OfDictionary}
use Rattle.dictionary_reading.proofs.CallLemmas.{looks_after}
use Rattle.dictionary_reading.proofs.CutLemmas.{of_both, of_more}
use Rattle.dictionary_reading.proofs.Faults.{err_same, reads_fine, reads_well}
use Rattle.dictionary_reading.proofs.ListLemmas.{near_inside, near_short, values_more}
use Rattle.dictionary_reading.proofs.LogLemmas.{logs_more, logs_then}
use Rattle.dictionary_reading.proofs.in_file.FileDictionary.values.Goals as goal

pub push_values-requires-clause-inside : goal.push_values-requires-clause-inside
push_values-requires-clause-inside g c =
    near_inside c.args.ids.now _ c.blocks-2.done c.count_near-near.result c.in-Ok.block.from c.in-Ok.block.to c.count_near-near.ensures.some (take_rest c.args.ids.now c.blocks-2.done) c.count_near-near.ensures.within c.count_near-near.ensures.ascend c.in-Ok.ensures.span.0 c.in-Ok.ensures.span.1

pub returns-in-Err-clause-looks : goal.returns-in-Err-clause-looks
returns-in-Err-clause-looks g c =
    let l : FileDictionary = c.args.self.now in
    let ids : List ℕ = c.args.ids.now in
    let done : ℕ = c.blocks-2.done in
    let near : ℕ = c.count_near-near.result in
    let a : Seen = seen g.S.Shelf c.args.shelf.now in
    let b : Seen = seen g.S.Shelf c.blocks-2.shelf in
    let e : Seen = seen g.S.Shelf c.block.new.shelf in
    let i = c.blocks-2.invariant in
    let short = near_short ids _ done near c.count_near-near.ensures.some (take_rest ids done) c.count_near-near.ensures.near in
    looks_after l (528388 * done) (4 + 516 * (get_or ids (done + near - 1) 0 + 1 - get_or ids done 0)) (528388 * length c.args.ids.now) c.in-Err.fault a b e i.reads i.log (omega (arith, short, c.blocks-2-test.true)) c.in-Err.ensures.looks

pub returns-in-Err-push_values-clause-looks : goal.returns-in-Err-push_values-clause-looks
returns-in-Err-push_values-clause-looks g c =
    let l : FileDictionary = c.args.self.now in
    let ids : List ℕ = c.args.ids.now in
    let done : ℕ = c.blocks-2.done in
    let near : ℕ = c.count_near-near.result in
    let a : Seen = seen g.S.Shelf c.args.shelf.now in
    let b : Seen = seen g.S.Shelf c.blocks-2.shelf in
    let e : Seen = seen g.S.Shelf c.block.new.shelf in
    let i = c.blocks-2.invariant in
    let short = near_short ids _ done near c.count_near-near.ensures.some (take_rest ids done) c.count_near-near.ensures.near in
    let all : OnlyReads ⊥ a e = reads_after ⊥ a b e i.reads (reads_well c.in-Ok.block b e c.in-Ok.ensures.looks.only_reads) in
    let of = subst (λ h. OfDictionary l h (λ d. IsBlockOf d c.in-Ok.block)) i.reads.held c.in-Ok.ensures.of in
    record {
      refused = λ bad. of_more l (g.S.Shelf.held c.args.shelf.now) (λ d. IsBlockOf d c.in-Ok.block) (λ _. ⊥) (λ files d is n block. c.in-Err-push_values.ensures.bad (ap Err (err_same c.in-Err-push_values.fault _ bad)) d block) of;
      only_reads = reads_fine _ a e (λ fails. c.in-Err-push_values.ensures.read (ap Err (err_same c.in-Err-push_values.fault _ fails))) all;
      log = logs_more l.place (528388 * done + 528388) (528388 * length c.args.ids.now) a.log e.log (omega (arith, c.blocks-2-test.true)) (logs_then l.place (528388 * done) 528388 a.log b.log e.log i.log (logs_more l.place (4 + 516 * (get_or ids (done + near - 1) 0 + 1 - get_or ids done 0)) 528388 b.log e.log short c.in-Ok.ensures.looks.log));
    }

pub blocks-2-preserved : goal.blocks-2-preserved
blocks-2-preserved g c =
    let l : FileDictionary = c.args.self.now in
    let ids : List ℕ = c.args.ids.now in
    let done : ℕ = c.blocks-2.done in
    let near : ℕ = c.count_near-near.result in
    let a : Seen = seen g.S.Shelf c.args.shelf.now in
    let b : Seen = seen g.S.Shelf c.blocks-2.shelf in
    let e : Seen = seen g.S.Shelf c.block.new.shelf in
    let short = near_short ids _ done near c.count_near-near.ensures.some (take_rest ids done) c.count_near-near.ensures.near in
    let held : Option Files = g.S.Shelf.held c.args.shelf.now in
    let i = c.blocks-2.invariant in
    let within = c.count_near-near.ensures.within in
    let some = c.count_near-near.ensures.some in
    let of = subst (λ h. OfDictionary l h (λ d. IsBlockOf d c.in-Ok.block)) i.reads.held c.in-Ok.ensures.of in
    record {
      reads = reads_after ⊥ a b e i.reads (reads_well c.in-Ok.block b e c.in-Ok.ensures.looks.only_reads);
      within = omega (arith, within, c.blocks-2-test.true, length-take (length ids - done) (drop done ids), length-drop done ids);
      listed = of_both l held (λ d. c.blocks-2.values.items ≡ values_at d.values (take done ids)) (λ d. IsBlockOf d c.in-Ok.block) (λ d. c.push_values.new.values.items ≡ values_at d.values (take (done + near) ids))
          (λ files d is n before block. values_more d.values ids done near c.blocks-2.values.items c.push_values.new.values.items before (c.in-Ok-push_values.ensures.values d block)) i.listed of;
      log = logs_more l.place (528388 * done + 528388) (528388 * (done + near)) a.log e.log (omega (arith, some)) (logs_then l.place (528388 * done) 528388 a.log b.log e.log i.log (logs_more l.place (4 + 516 * (get_or ids (done + near - 1) 0 + 1 - get_or ids done 0)) 528388 b.log e.log short c.in-Ok.ensures.looks.log));
    }
