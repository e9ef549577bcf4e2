use Rattle.std.proofs.Common.{◌≡◌, ◌∙◌, ◌+◌, ◌++◌, ◌∷◌, [], List, ℕ, Option, Some, take, sym, ap, subst}
use Rattle.std.specs.Prelude.{IsErrOf}
use Rattle.std.proofs.lemmas.List.{take_all, take_more}
use Rattle.outside.specs.Seen.{Seen, seen}
use Rattle.table_store.specs.declared.fault.StoreFault.{StoreFault}
use Rattle.table_store.specs.declared.fault.StoreFault.TheVariants.{WriteFault}
use Rattle.query_executor.proofs.EndLemmas.{Done, Failed}
use Rattle.serving.specs.Closed.{has_file}
use Rattle.cursors.specs.declared.cursor.Cursor.{Cursor}
use Rattle.serving.proofs.CallLemmas.{no_err, removes_after, removes_not}
use Rattle.serving.proofs.ClosedLemmas.{got_at}
use Rattle.serving.proofs.GoneLemmas.{HaveGone, gone_kept, more_gone}
use Rattle.serving.proofs.closing.release.Goals as goal

pub returns-in-Err-clause-some_gone : goal.returns-in-Err-clause-some_gone
returns-in-Err-clause-some_gone g c =
    let gone = c.files.invariant.gone in
    (gone.0, gone_kept c.args.at c.args.cursors.now gone.0 gone.1.each, c.in-Err.ensures.unchanged ∙ gone.2)

pub files-preserved : goal.files-preserved
files-preserved g c =
    let files : List (Option (List ℕ)) = c.as_slice-files.result.now in
    let k : ℕ = c.files.k in
    let file : Option (List ℕ) = c.index-files-k.result in
    let more : take (k + 1) files ≡ take k files ++ file ∷ [] = take_more files k file c.files-test.true ∙ ap (λ f. take k files ++ f ∷ []) (sym c.index-files-k.is) in
    let a : Seen = seen g.D.Shelf c.args.depot.now in
    let b : Seen = seen g.D.Shelf c.files.depot in
    let d : Seen = seen g.D.Shelf c.release_file.new.depot in
    record {
      gone = subst (λ l. HaveGone c.args.at c.args.cursors.now l (g.D.Shelf.held c.args.depot.now) (g.D.Shelf.held c.release_file.new.depot)) (sym more)
          (more_gone c.args.at c.args.cursors.now (take k files) file (g.D.Shelf.held c.args.depot.now) (g.D.Shelf.held c.files.depot) (g.D.Shelf.held c.release_file.new.depot) c.files.invariant.gone c.in-Ok.ensures.released);
      removes = removes_after ⊥ a b d c.files.invariant.removes (removes_not (IsErrOf (Done {E = StoreFault} (tt {0})) WriteFault) ⊥ b d (λ e. no_err (tt {0}) WriteFault e) (λ e. e) c.in-Ok.ensures.only_removes);
    }

pub returns-in-Err-clause-only_removes : goal.returns-in-Err-clause-only_removes
returns-in-Err-clause-only_removes g c =
    removes_after (IsErrOf (Failed (Unit {0}) c.in-Err.fault) WriteFault) (seen g.D.Shelf c.args.depot.now) (seen g.D.Shelf c.files.depot) (seen g.D.Shelf c.release_file.new.depot) c.files.invariant.removes c.in-Err.ensures.only_removes

pub returns-clause-only_removes : goal.returns-clause-only_removes
returns-clause-only_removes g c =
    removes_not ⊥ (IsErrOf (Done {E = StoreFault} (tt {0})) WriteFault) (seen g.D.Shelf c.args.depot.now) (seen g.D.Shelf c.files.depot) (λ e. e) (λ e. no_err (tt {0}) WriteFault e) c.files.invariant.removes

pub returns-clause-gone : goal.returns-clause-gone
returns-clause-gone g c =
    let gone = c.files.invariant.gone in
    let own : Cursor = c.index-cursors-at.result in
    let files : List (Option (List ℕ)) = c.as_slice-files.result.now in
    let whole : take c.files.k files ≡ own.files.items = take_all c.files.k files c.files-test.false ∙ c.as_slice-files.ensures.value ∙ ap (λ (d : Cursor). d.files.items) (sym c.index-cursors-at.is) in (
      gone.0,
      record {
        each = gone.1.each;
        all = λ cursor got name has one.
            let both : Some cursor ≡ Some own = sym got ∙ got_at c.args.cursors.now c.args.at own own c.requires (sym c.index-cursors-at.is) in
            let same : cursor ≡ own = cc in
            gone.1.all name (ap (has_file name) (whole ∙ ap (λ (d : Cursor). d.files.items) (sym same)) ∙ has) one;
      },
      gone.2,
    )
