use Rattle.std.proofs.Common.{rules, ◌≡◌, ◌+◌, ◌*◌, ℕ, List, [], ◌∷◌, ◌++◌, Option, length, arith, ap, subst, take}
use Rattle.std.proofs.lemmas.List.{length-append, take_all}
use Rattle.outside.specs.Files.{Files}
use Rattle.outside.specs.Seen.{OnlyReads, Seen, seen}
use Rattle.outside.proofs.SeenLemmas.{reads_after}
use Rattle.values.specs.declared.value.Value.{Value}
use Rattle.value_ids.specs.Ids.{Cuts}
use Rattle.value_ids.specs.declared.cuts.Cut.{Cut}
use Rattle.dictionary_reading.specs.declared.in_file.FileDictionary.{FileDictionary}
use Rattle.dictionary_reading.specs.Bounds.{AreCutsFrom}
use Rattle.dictionary_reading.specs.InFile.{OfDictionary}
use Rattle.dictionary_reading.proofs.CallLemmas.{looks_after}
use Rattle.dictionary_reading.proofs.CutLemmas.{of_both, of_more}
use Rattle.dictionary_reading.proofs.Faults.{reads_well}
use Rattle.dictionary_reading.proofs.LogLemmas.{logs_more, logs_then}
use Rattle.dictionary_reading.proofs.MatchedLemmas.{cuts_more}
use Rattle.dictionary_reading.proofs.in_file.FileDictionary.cuts.Goals as goal

pub bounds-preserved : goal.bounds-preserved
bounds-preserved g c =
    let l : FileDictionary = c.args.self.now in
    let held : Option Files = g.S.Shelf.held c.args.shelf.now in
    let bounds : List Value = c.args.bounds.now in
    let at : ℕ = c.bounds.bound-index in
    let bound : Value = c.bound-item.result in
    let cut : Cut = c.in-Ok.cut in
    let old : List Cut = c.bounds.cuts.items in
    let new : List Cut = c.keep_cut.new.cuts.items in
    let a : Seen = seen g.S.Shelf c.args.shelf.now in
    let b : Seen = seen g.S.Shelf c.bounds.shelf in
    let e : Seen = seen g.S.Shelf c.cut.new.shelf in
    let i = c.bounds.invariant in
    let each = i.each in
    let next : new ≡ old ++ cut ∷ [] = c.in_ok-keep_cut-in-Ok.ensures in
    let own = subst (λ h. OfDictionary l h (λ d. Cuts d.values bound cut.from cut.to)) i.reads.held c.in-Ok.ensures.cut in
    record {
      reads = reads_after ⊥ a b e i.reads (reads_well cut b e c.in-Ok.ensures.looks.only_reads);
      each = omega (arith, each, ap length next, length-append old (cut ∷ []));
      cut = of_both l held (λ d. AreCutsFrom 0 (take at bounds) old d.values) (λ d. Cuts d.values bound cut.from cut.to) (λ d. AreCutsFrom 0 (take (at + 1) bounds) new d.values)
          (λ files d is n before now. cuts_more bounds at bound old new cut d.values c.bounds-test.true c.bound-item.is each next before now) i.cut own;
      log = logs_more l.place (10920 * at + 10920) (10920 * (at + 1)) a.log e.log (omega arith) (logs_then l.place (10920 * at) 10920 a.log b.log e.log i.log c.in-Ok.ensures.looks.log);
    }

pub returns-clause-cuts : goal.returns-clause-cuts
returns-clause-cuts g c =
    let l : FileDictionary = c.args.self.now in
    let bounds : List Value = c.args.bounds.now in
    let at : ℕ = c.bounds.bound-index in
    of_more l (g.S.Shelf.held c.args.shelf.now) (λ d. AreCutsFrom 0 (take at bounds) c.bounds.cuts.items d.values) (λ d. AreCutsFrom 0 bounds c.bounds.cuts.items d.values)
    (λ files d is n are. subst (λ bs. AreCutsFrom 0 bs c.bounds.cuts.items d.values) (take_all at bounds c.bounds-test.false) are) c.bounds.invariant.cut

pub returns-in_err-keep_cut-in-Ok-clause-looks : goal.returns-in_err-keep_cut-in-Ok-clause-looks
returns-in_err-keep_cut-in-Ok-clause-looks g c =
    let l : FileDictionary = c.args.self.now in
    let at : ℕ = c.bounds.bound-index in
    let i = c.bounds.invariant in
    let a : Seen = seen g.S.Shelf c.args.shelf.now in
    let b : Seen = seen g.S.Shelf c.bounds.shelf in
    let e : Seen = seen g.S.Shelf c.cut.new.shelf in
    let all : OnlyReads ⊥ a e = reads_after ⊥ a b e i.reads (reads_well c.in-Ok.cut b e c.in-Ok.ensures.looks.only_reads) in
    record {
      refused = search rules;
      only_reads = search (rules, all);
      log = logs_more l.place (10920 * at + 10920) (10920 * length c.args.bounds.now) a.log e.log (omega (arith, c.bounds-test.true)) (logs_then l.place (10920 * at) 10920 a.log b.log e.log i.log c.in-Ok.ensures.looks.log);
    }

pub returns-in-Err-clause-looks : goal.returns-in-Err-clause-looks
returns-in-Err-clause-looks g c =
    let l : FileDictionary = c.args.self.now in
    let at : ℕ = c.bounds.bound-index in
    let i = c.bounds.invariant in
    let a : Seen = seen g.S.Shelf c.args.shelf.now in
    let b : Seen = seen g.S.Shelf c.bounds.shelf in
    let e : Seen = seen g.S.Shelf c.cut.new.shelf in
    looks_after l (10920 * at) 10920 (10920 * length c.args.bounds.now) c.in-Err.fault a b e i.reads i.log (omega (arith, c.bounds-test.true)) c.in-Err.ensures.looks
