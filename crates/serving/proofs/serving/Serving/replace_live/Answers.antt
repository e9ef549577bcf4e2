use Rattle.std.proofs.Common.{◌≡◌, ◌∙◌, inr, List, Ok, Err, refl, sym, ap, subst}
use Rattle.std.specs.Prelude.{IsErrOf}
use Rattle.std.specs.List.{AllByRecursion}
use Rattle.outside.specs.Seen.{Seen, seen}
use Rattle.segment_file.specs.Names.{file_of}
use Rattle.table_store.specs.Calls.{CopiesFile, OnlyPublishes}
use Rattle.table_store.specs.Segments.{HasSegment, LacksSegment}
use Rattle.table_store.specs.declared.fault.StoreFault.{StoreFault}
use Rattle.table_store.specs.declared.fault.StoreFault.TheVariants as store
use Rattle.table_store.proofs.CopyLemmas.{copies_after, copies_so}
use Rattle.query_executor.proofs.EndLemmas.{Done, Failed}
use Rattle.cursor_serve.specs.Machine.{replaced}
use Rattle.serving.specs.Aside.{IsAside, is_awaited_in, kept_if, with_copy}
use Rattle.serving.specs.Calls.{Serves}
use Rattle.cursors.specs.Kept.{AreCursors, IsOver, cursors_in}
use Rattle.serving.specs.declared.aside.Aside.{Aside}
use Rattle.cursors.specs.declared.cursor.Cursor.{Cursor}
use Rattle.values.specs.Columns.{rows_of}
use Rattle.values.specs.declared.value.Value.{Value}
use Rattle.segment_file.specs.Image.{CanHold, image}
use Rattle.segment_file.specs.Ordered.{ordered}
use Rattle.serving.proofs.AsideLemmas.{cursors_left, failed_so, lost_but, lost_not_missed, lost_or_missed, lost_writing, no_place, write_not_read, others_back, others_copied, others_put, over_left, replaces, replaces_missed, replaces_none}
use Rattle.serving.proofs.CallLemmas.{ends_large, fails_back_after, fails_so, no_err, of_publishes, of_removes, quiet, quiet_large}
use Rattle.serving.proofs.serving.Serving.replace_live.Goals as goal

pub returns-in-Err-clause-serves : goal.returns-in-Err-clause-serves
returns-in-Err-clause-serves g c =
    let ds : List Cursor = c.args.self.now.cursors.items in
    let pool = c.args.self.now.pool in
    let name = c.args.name.now in
    let line = c.args.line in
    let all = c.requires.cursors in
    let held = g.D.Shelf.held c.args.depot.now in
    let table = c.args.table.now in
    let rows : List (List Value) = rows_of c.args.columns in
    let own : List (List Value) = ordered table.settings.sorted rows in
    λ lacks unicode fits.
    let why : StoreFault = c.in-Err.fault in
    let new = g.D.Shelf.held c.set_aside.new.depot in
    failed_so c.kept_idle_law.ensures (replaced line name own) table pool ds name line all held new c.in-Err.ensures.may_copy why c.from.result c.from.ensures
    (λ e. let missed = c.in-Err.ensures.missing (ap Err e) in replaces_none table pool ds name line own all held new missed.0 missed.1)
    (lost_or_missed Aside why c.in-Err.ensures.only)

pub returns-in-Err-clause-others : goal.returns-in-Err-clause-others
returns-in-Err-clause-others g c =
    let ds : List Cursor = c.args.self.now.cursors.items in
    let pool = c.args.self.now.pool in
    let name = c.args.name.now in
    let line = c.args.line in
    let all = c.requires.cursors in
    let held = g.D.Shelf.held c.args.depot.now in
    let copy = c.in-Err.ensures.may_copy in
    others_copied name line (kept_if copy.0 name line) copy.0 refl held (g.D.Shelf.held c.set_aside.new.depot) copy.1

pub returns-in-Ok-let_go-clause-too_large : goal.returns-in-Ok-let_go-clause-too_large
returns-in-Ok-let_go-clause-too_large g c =
    let ds : List Cursor = c.args.self.now.cursors.items in
    let pool = c.args.self.now.pool in
    let name = c.args.name.now in
    let line = c.args.line in
    let all = c.requires.cursors in
    let held = g.D.Shelf.held c.args.depot.now in
    let between = g.D.Shelf.held c.set_aside.new.depot in
    let made : Aside = c.in-Ok.made in
    let aside : IsAside name line ds made = subst (λ l. IsAside name line l made) c.as_slice.ensures.value c.in-Ok.ensures.aside in
    let table = c.args.table.now in
    let rows : List (List Value) = rows_of c.args.columns in
    let own : List (List Value) = ordered table.settings.sorted rows in
    let same : g.D.Shelf.held c.replace_segment.new.depot ≡ with_copy made.kept (file_of name) held = c.in-Err-replace_segment.ensures.kept ∙ c.in-Ok.ensures.copied in
    let large = c.in-Err-replace_segment.ensures.too_large (ap Err (c.is_too_large.ensures.yes c.if-is_too_large.true)) in
    λ lacks is. no_place table pool ds name line rows all made.kept (is_awaited_in (file_of name) ds) aside.kept held (g.D.Shelf.held c.replace_segment.new.depot) (g.D.Shelf.held c.let_go.new.depot)
    same (subst (λ h. HasSegment h name) (sym c.in-Err-replace_segment.ensures.kept) large.0) large.1 c.in-Ok-let_go.ensures.gone lacks

pub returns-in-Ok-let_go-clause-others : goal.returns-in-Ok-let_go-clause-others
returns-in-Ok-let_go-clause-others g c =
    let ds : List Cursor = c.args.self.now.cursors.items in
    let pool = c.args.self.now.pool in
    let name = c.args.name.now in
    let line = c.args.line in
    let all = c.requires.cursors in
    let held = g.D.Shelf.held c.args.depot.now in
    let between = g.D.Shelf.held c.set_aside.new.depot in
    let made : Aside = c.in-Ok.made in
    let aside : IsAside name line ds made = subst (λ l. IsAside name line l made) c.as_slice.ensures.value c.in-Ok.ensures.aside in
    let same : g.D.Shelf.held c.replace_segment.new.depot ≡ with_copy made.kept (file_of name) held = c.in-Err-replace_segment.ensures.kept ∙ c.in-Ok.ensures.copied in
    let large = c.in-Err-replace_segment.ensures.too_large (ap Err (c.is_too_large.ensures.yes c.if-is_too_large.true)) in
    others_back name line made.kept (is_awaited_in (file_of name) ds) aside.kept held (g.D.Shelf.held c.replace_segment.new.depot) (g.D.Shelf.held c.let_go.new.depot) same c.in-Ok-let_go.ensures.gone

pub returns-in-Ok-let_go-clause-copies : goal.returns-in-Ok-let_go-clause-copies
returns-in-Ok-let_go-clause-copies g c =
    let ds : List Cursor = c.args.self.now.cursors.items in
    let pool = c.args.self.now.pool in
    let name = c.args.name.now in
    let line = c.args.line in
    let all = c.requires.cursors in
    let held = g.D.Shelf.held c.args.depot.now in
    let between = g.D.Shelf.held c.set_aside.new.depot in
    let made : Aside = c.in-Ok.made in
    let aside : IsAside name line ds made = subst (λ l. IsAside name line l made) c.as_slice.ensures.value c.in-Ok.ensures.aside in
    let b : Seen = seen g.D.Shelf c.set_aside.new.depot in
    let d : Seen = seen g.D.Shelf c.replace_segment.new.depot in
    let e : Seen = seen g.D.Shelf c.let_go.new.depot in
    let a : Seen = seen g.D.Shelf c.args.depot.now in
    let after : CopiesFile (file_of name) ⊥ ⊥ a d = copies_after (file_of name) ⊥ ⊥ a b d (quiet (file_of name) Aside made a b c.in-Ok.ensures.copies)
    (quiet_large (file_of name) (Unit {0}) b d (of_publishes (file_of name) (IsErrOf (Failed (Unit {0}) store.TooLarge) store.ReadFault) (IsErrOf (Failed (Unit {0}) store.TooLarge) store.WriteFault) b d
    (subst (λ w. OnlyPublishes (IsErrOf (Failed (Unit {0}) w) store.ReadFault) (IsErrOf (Failed (Unit {0}) w) store.WriteFault) b d) (c.is_too_large.ensures.yes c.if-is_too_large.true) c.in-Err-replace_segment.ensures.only_publishes))) in
    ends_large (file_of name) (Unit {0}) a e (copies_after (file_of name) ⊥ ⊥ a d e after
    (quiet (file_of name) (Unit {0}) (tt {0}) d e (copies_so (file_of name) ⊥ (IsErrOf (Done {E = StoreFault} (tt {0})) store.WriteFault) (IsErrOf (Done {E = StoreFault} (tt {0})) store.ReadFault) (IsErrOf (Done {E = StoreFault} (tt {0})) store.WriteFault) d e
    ((λ x. absurd x), (λ x. absurd (no_err (tt {0}) store.ReadFault x))) ((λ x. x), (λ x. x)) (of_removes (file_of name) ⊥ (IsErrOf (Done {E = StoreFault} (tt {0})) store.WriteFault) d e c.in-Ok-let_go.ensures.only_removes))))

pub returns-in-Err-let_go-clause-serves : goal.returns-in-Err-let_go-clause-serves
returns-in-Err-let_go-clause-serves g c =
    let ds : List Cursor = c.args.self.now.cursors.items in
    let pool = c.args.self.now.pool in
    let name = c.args.name.now in
    let line = c.args.line in
    let all = c.requires.cursors in
    let held = g.D.Shelf.held c.args.depot.now in
    let between = g.D.Shelf.held c.set_aside.new.depot in
    let made : Aside = c.in-Ok.made in
    let aside : IsAside name line ds made = subst (λ l. IsAside name line l made) c.as_slice.ensures.value c.in-Ok.ensures.aside in
    let table = c.args.table.now in
    let rows : List (List Value) = rows_of c.args.columns in
    let own : List (List Value) = ordered table.settings.sorted rows in
    let same : g.D.Shelf.held c.replace_segment.new.depot ≡ with_copy made.kept (file_of name) held = c.in-Err-replace_segment.ensures.kept ∙ c.in-Ok.ensures.copied in
    let large = c.in-Err-replace_segment.ensures.too_large (ap Err (c.is_too_large.ensures.yes c.if-is_too_large.true)) in
    λ lacks unicode fits.
    let why : StoreFault = c.in-Err-let_go.fault in
    let new = g.D.Shelf.held c.let_go.new.depot in
    let back : new ≡ with_copy made.kept (file_of name) held = c.in-Err-let_go.ensures.unchanged ∙ same in
    failed_so c.kept_idle_law.ensures (replaced line name own) table pool ds name line all held new (is_awaited_in (file_of name) ds, back ∙ ap (λ k. with_copy k (file_of name) held) aside.kept) why c.from-in-Err-let_go.result c.from-in-Err-let_go.ensures
    (λ e. absurd (lost_not_missed why (lost_writing (Unit {0}) why c.in-Err-let_go.ensures.only) e)) (inr (lost_writing (Unit {0}) why c.in-Err-let_go.ensures.only))

pub returns-in-Err-let_go-clause-others : goal.returns-in-Err-let_go-clause-others
returns-in-Err-let_go-clause-others g c =
    let ds : List Cursor = c.args.self.now.cursors.items in
    let pool = c.args.self.now.pool in
    let name = c.args.name.now in
    let line = c.args.line in
    let all = c.requires.cursors in
    let held = g.D.Shelf.held c.args.depot.now in
    let between = g.D.Shelf.held c.set_aside.new.depot in
    let made : Aside = c.in-Ok.made in
    let aside : IsAside name line ds made = subst (λ l. IsAside name line l made) c.as_slice.ensures.value c.in-Ok.ensures.aside in
    let same : g.D.Shelf.held c.replace_segment.new.depot ≡ with_copy made.kept (file_of name) held = c.in-Err-replace_segment.ensures.kept ∙ c.in-Ok.ensures.copied in
    let large = c.in-Err-replace_segment.ensures.too_large (ap Err (c.is_too_large.ensures.yes c.if-is_too_large.true)) in
    others_copied name line made.kept (is_awaited_in (file_of name) ds) aside.kept held (g.D.Shelf.held c.let_go.new.depot) (c.in-Err-let_go.ensures.unchanged ∙ same)

pub returns-in-Err-let_go-clause-copies : goal.returns-in-Err-let_go-clause-copies
returns-in-Err-let_go-clause-copies g c =
    let ds : List Cursor = c.args.self.now.cursors.items in
    let pool = c.args.self.now.pool in
    let name = c.args.name.now in
    let line = c.args.line in
    let all = c.requires.cursors in
    let held = g.D.Shelf.held c.args.depot.now in
    let between = g.D.Shelf.held c.set_aside.new.depot in
    let made : Aside = c.in-Ok.made in
    let aside : IsAside name line ds made = subst (λ l. IsAside name line l made) c.as_slice.ensures.value c.in-Ok.ensures.aside in
    let b : Seen = seen g.D.Shelf c.set_aside.new.depot in
    let d : Seen = seen g.D.Shelf c.replace_segment.new.depot in
    let e : Seen = seen g.D.Shelf c.let_go.new.depot in
    let a : Seen = seen g.D.Shelf c.args.depot.now in
    let after : CopiesFile (file_of name) ⊥ ⊥ a d = copies_after (file_of name) ⊥ ⊥ a b d (quiet (file_of name) Aside made a b c.in-Ok.ensures.copies)
    (quiet_large (file_of name) (Unit {0}) b d (of_publishes (file_of name) (IsErrOf (Failed (Unit {0}) store.TooLarge) store.ReadFault) (IsErrOf (Failed (Unit {0}) store.TooLarge) store.WriteFault) b d
    (subst (λ w. OnlyPublishes (IsErrOf (Failed (Unit {0}) w) store.ReadFault) (IsErrOf (Failed (Unit {0}) w) store.WriteFault) b d) (c.is_too_large.ensures.yes c.if-is_too_large.true) c.in-Err-replace_segment.ensures.only_publishes))) in
    fails_back_after (file_of name) (Unit {0}) (Unit {0}) c.in-Err-let_go.fault c.from-in-Err-let_go.result a d e c.from-in-Err-let_go.ensures (write_not_read (Unit {0}) c.in-Err-let_go.fault c.in-Err-let_go.ensures.only) after c.in-Err-let_go.ensures.only_removes

pub returns-in-Err-replace_segment-clause-serves : goal.returns-in-Err-replace_segment-clause-serves
returns-in-Err-replace_segment-clause-serves g c =
    let ds : List Cursor = c.args.self.now.cursors.items in
    let pool = c.args.self.now.pool in
    let name = c.args.name.now in
    let line = c.args.line in
    let all = c.requires.cursors in
    let held = g.D.Shelf.held c.args.depot.now in
    let between = g.D.Shelf.held c.set_aside.new.depot in
    let made : Aside = c.in-Ok.made in
    let aside : IsAside name line ds made = subst (λ l. IsAside name line l made) c.as_slice.ensures.value c.in-Ok.ensures.aside in
    let table = c.args.table.now in
    let rows : List (List Value) = rows_of c.args.columns in
    let own : List (List Value) = ordered table.settings.sorted rows in
    λ lacks unicode fits.
    let why : StoreFault = c.in-Err-replace_segment.fault in
    let new = g.D.Shelf.held c.replace_segment.new.depot in
    let copied : new ≡ with_copy made.kept (file_of name) held = c.in-Err-replace_segment.ensures.kept ∙ c.in-Ok.ensures.copied in
    failed_so c.kept_idle_law.ensures (replaced line name own) table pool ds name line all held new (is_awaited_in (file_of name) ds, copied ∙ ap (λ k. with_copy k (file_of name) held) aside.kept) why c.from-in-Err-replace_segment.result c.from-in-Err-replace_segment.ensures
    (λ e. replaces_missed pool ds all name line made.kept aside.kept table own held new (subst (λ h. LacksSegment h name) c.in-Ok.ensures.copied (c.in-Err-replace_segment.ensures.missing (ap Err e))) copied)
    (lost_but (Unit {0}) why (c.is_too_large.ensures.no c.if-is_too_large.false) c.in-Err-replace_segment.ensures.only)

pub returns-in-Err-replace_segment-clause-others : goal.returns-in-Err-replace_segment-clause-others
returns-in-Err-replace_segment-clause-others g c =
    let ds : List Cursor = c.args.self.now.cursors.items in
    let pool = c.args.self.now.pool in
    let name = c.args.name.now in
    let line = c.args.line in
    let all = c.requires.cursors in
    let held = g.D.Shelf.held c.args.depot.now in
    let between = g.D.Shelf.held c.set_aside.new.depot in
    let made : Aside = c.in-Ok.made in
    let aside : IsAside name line ds made = subst (λ l. IsAside name line l made) c.as_slice.ensures.value c.in-Ok.ensures.aside in
    others_copied name line made.kept (is_awaited_in (file_of name) ds) aside.kept held (g.D.Shelf.held c.replace_segment.new.depot) (c.in-Err-replace_segment.ensures.kept ∙ c.in-Ok.ensures.copied)

pub returns-in-Err-replace_segment-clause-copies : goal.returns-in-Err-replace_segment-clause-copies
returns-in-Err-replace_segment-clause-copies g c =
    let ds : List Cursor = c.args.self.now.cursors.items in
    let pool = c.args.self.now.pool in
    let name = c.args.name.now in
    let line = c.args.line in
    let all = c.requires.cursors in
    let held = g.D.Shelf.held c.args.depot.now in
    let between = g.D.Shelf.held c.set_aside.new.depot in
    let made : Aside = c.in-Ok.made in
    let aside : IsAside name line ds made = subst (λ l. IsAside name line l made) c.as_slice.ensures.value c.in-Ok.ensures.aside in
    let a : Seen = seen g.D.Shelf c.args.depot.now in
    let b : Seen = seen g.D.Shelf c.set_aside.new.depot in
    let d : Seen = seen g.D.Shelf c.replace_segment.new.depot in
    let why : StoreFault = c.in-Err-replace_segment.fault in
    fails_so (file_of name) a d (Unit {0}) (Unit {0}) why c.from-in-Err-replace_segment.result c.from-in-Err-replace_segment.ensures
    (copies_after (file_of name) (IsErrOf (Failed (Unit {0}) why) store.ReadFault) (IsErrOf (Failed (Unit {0}) why) store.WriteFault) a b d (quiet (file_of name) Aside made a b c.in-Ok.ensures.copies)
    (of_publishes (file_of name) (IsErrOf (Failed (Unit {0}) why) store.ReadFault) (IsErrOf (Failed (Unit {0}) why) store.WriteFault) b d c.in-Err-replace_segment.ensures.only_publishes))

pub returns-clause-serves : goal.returns-clause-serves
returns-clause-serves g c =
    let ds : List Cursor = c.args.self.now.cursors.items in
    let pool = c.args.self.now.pool in
    let name = c.args.name.now in
    let line = c.args.line in
    let all = c.requires.cursors in
    let held = g.D.Shelf.held c.args.depot.now in
    let between = g.D.Shelf.held c.set_aside.new.depot in
    let made : Aside = c.in-Ok.made in
    let aside : IsAside name line ds made = subst (λ l. IsAside name line l made) c.as_slice.ensures.value c.in-Ok.ensures.aside in
    let table = c.args.table.now in
    let rows : List (List Value) = rows_of c.args.columns in
    let own : List (List Value) = ordered table.settings.sorted rows in
    λ lacks unicode fits.
    let done = c.in-Ok-replace_segment.ensures.published in
    let can : CanHold table rows = record { fit = c.requires.rows; unicode = unicode; trees = done.fits } in
    subst (λ l. Serves (replaced line name own) table (cursors_in pool ds) (cursors_in pool l) held (g.D.Shelf.held c.replace_segment.new.depot) (Ok tt)) (sym c.put_files.ensures)
    (replaces c.replace_stands_law.ensures c.kept_idle_law.ensures table pool ds name line rows c.requires.name can all made.files.items made.kept aside.kept aside.files held between (g.D.Shelf.held c.replace_segment.new.depot)
    c.in-Ok.ensures.copied c.in-Ok-replace_segment.ensures.was_there done.published lacks)

pub returns-clause-cursors : goal.returns-clause-cursors
returns-clause-cursors g c =
    let ds : List Cursor = c.args.self.now.cursors.items in
    let pool = c.args.self.now.pool in
    let name = c.args.name.now in
    let line = c.args.line in
    let all = c.requires.cursors in
    let held = g.D.Shelf.held c.args.depot.now in
    let between = g.D.Shelf.held c.set_aside.new.depot in
    let made : Aside = c.in-Ok.made in
    let aside : IsAside name line ds made = subst (λ l. IsAside name line l made) c.as_slice.ensures.value c.in-Ok.ensures.aside in
    subst (AreCursors pool) (sym c.put_files.ensures) (cursors_left pool made.files.items ds name line made.kept aside.kept aside.files all)

pub returns-clause-over : goal.returns-clause-over
returns-clause-over g c =
    let ds : List Cursor = c.args.self.now.cursors.items in
    let pool = c.args.self.now.pool in
    let name = c.args.name.now in
    let line = c.args.line in
    let all = c.requires.cursors in
    let held = g.D.Shelf.held c.args.depot.now in
    let between = g.D.Shelf.held c.set_aside.new.depot in
    let made : Aside = c.in-Ok.made in
    let aside : IsAside name line ds made = subst (λ l. IsAside name line l made) c.as_slice.ensures.value c.in-Ok.ensures.aside in
    λ table over. subst (AllByRecursion (IsOver table)) (sym c.put_files.ensures) (over_left table made.files.items ds over)

pub returns-clause-others : goal.returns-clause-others
returns-clause-others g c =
    let ds : List Cursor = c.args.self.now.cursors.items in
    let pool = c.args.self.now.pool in
    let name = c.args.name.now in
    let line = c.args.line in
    let all = c.requires.cursors in
    let held = g.D.Shelf.held c.args.depot.now in
    let between = g.D.Shelf.held c.set_aside.new.depot in
    let made : Aside = c.in-Ok.made in
    let aside : IsAside name line ds made = subst (λ l. IsAside name line l made) c.as_slice.ensures.value c.in-Ok.ensures.aside in
    others_put name line made.kept (is_awaited_in (file_of name) ds) aside.kept (image 1 c.args.table.now name (rows_of c.args.columns)) held between (g.D.Shelf.held c.replace_segment.new.depot) c.in-Ok.ensures.copied c.in-Ok-replace_segment.ensures.published.published
