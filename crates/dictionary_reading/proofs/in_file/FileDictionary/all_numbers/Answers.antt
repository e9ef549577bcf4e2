use Rattle.std.proofs.Common.{rules, ◌≡◌, ◌∙◌, ◌+◌, ◌-◌, ◌*◌, ◌++◌, ℕ, ℤ, List, Option, arith, drop, map, subst, take}
use Rattle.outside.specs.Files.{Files}
use Rattle.outside.specs.Seen.{OnlyReads, Seen, seen}
use Rattle.outside.proofs.SeenLemmas.{reads_after}
use Rattle.values.specs.declared.value.Value.TheVariants as value
use Rattle.dictionary_reading.specs.declared.in_file.FileDictionary.{FileDictionary}
use Rattle.dictionary_reading.specs.InFile.{IsBlockOf, OfDictionary}
use Rattle.dictionary_reading.proofs.CallLemmas.{looks_after}
use Rattle.dictionary_reading.proofs.CutLemmas.{of_both}
use Rattle.dictionary_reading.proofs.Faults.{reads_well}
use Rattle.dictionary_reading.proofs.LogLemmas.{logs_more, logs_then}
use Rattle.dictionary_reading.proofs.NumberLemmas.{piece_more}
use Rattle.dictionary_reading.proofs.in_file.FileDictionary.all_numbers.Goals as goal

pub returns-in-Err-clause-looks : goal.returns-in-Err-clause-looks
returns-in-Err-clause-looks g c =
    let l : FileDictionary = c.args.self.now in
    let done : ℕ = c.pieces.done in
    let size : ℕ = c.min.result in
    let a : Seen = seen g.S.Shelf c.args.shelf.now in
    let b : Seen = seen g.S.Shelf c.pieces.shelf in
    let e : Seen = seen g.S.Shelf c.numbers.new.shelf in
    let i = c.pieces.invariant in
    looks_after l (8 * done) (8 * (done + size - done)) (8 * l.count) c.in-Err.fault a b e i.reads i.log (omega (arith, c.pieces-test.true, c.min.ensures)) c.in-Err.ensures.looks

pub returns-in_err-push_numbers-clause-looks : goal.returns-in_err-push_numbers-clause-looks
returns-in_err-push_numbers-clause-looks g c =
    let l : FileDictionary = c.args.self.now in
    let done : ℕ = c.pieces.done in
    let size : ℕ = c.min.result in
    let a : Seen = seen g.S.Shelf c.args.shelf.now in
    let b : Seen = seen g.S.Shelf c.pieces.shelf in
    let e : Seen = seen g.S.Shelf c.numbers.new.shelf in
    let i = c.pieces.invariant in
    let all : OnlyReads ⊥ a e = reads_after ⊥ a b e i.reads (reads_well c.in-Ok.block b e c.in-Ok.ensures.looks.only_reads) in
    record {
      refused = search rules;
      only_reads = search (rules, all);
      log = logs_more l.place (8 * done + 8 * (done + size - done)) (8 * l.count) a.log e.log (omega (arith, c.pieces-test.true, c.min.ensures)) (logs_then l.place (8 * done) (8 * (done + size - done)) a.log b.log e.log i.log c.in-Ok.ensures.looks.log);
    }

pub pieces-preserved : goal.pieces-preserved
pieces-preserved g c =
    let l : FileDictionary = c.args.self.now in
    let held : Option Files = g.S.Shelf.held c.args.shelf.now in
    let done : ℕ = c.pieces.done in
    let size : ℕ = c.min.result in
    let a : Seen = seen g.S.Shelf c.args.shelf.now in
    let b : Seen = seen g.S.Shelf c.pieces.shelf in
    let e : Seen = seen g.S.Shelf c.numbers.new.shelf in
    let i = c.pieces.invariant in
    let count = i.count in
    let first = c.in-Ok.ensures.span.0 in
    let last = c.in-Ok.ensures.span.1 in
    let old : List ℤ = c.pieces.numbers.items in
    let new : List ℤ = c.push_numbers.new.numbers.items in
    let of = subst (λ h. OfDictionary l h (λ d. IsBlockOf d c.in-Ok.block)) i.reads.held c.in-Ok.ensures.of in
    record {
      reads = reads_after ⊥ a b e i.reads (reads_well c.in-Ok.block b e c.in-Ok.ensures.looks.only_reads);
      within = omega (arith, c.pieces-test.true, c.min.ensures);
      count = omega (arith, count, first, last, c.in_ok-push_numbers.ensures.count);
      listed = of_both l held (λ d. map value.Whole old ≡ take done d.values) (λ d. IsBlockOf d c.in-Ok.block) (λ d. map value.Whole new ≡ take (done + size) d.values)
          (λ files d is n before block. piece_more d done (done + size) old new (omega arith) before (c.in_ok-push_numbers.ensures.numbers d block ∙ (λ k. map value.Whole old ++ take (last k - first k) (drop (first k) d.values)))) i.listed of;
      log = logs_more l.place (8 * done + 8 * (done + size - done)) (8 * (done + size)) a.log e.log (omega arith) (logs_then l.place (8 * done) (8 * (done + size - done)) a.log b.log e.log i.log c.in-Ok.ensures.looks.log);
    }
