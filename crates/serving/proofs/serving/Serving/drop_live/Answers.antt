use Rattle.std.proofs.Common.{◌≡◌, ◌∙◌, List, Ok, Err, refl, sym, ap, subst}
use Rattle.std.specs.List.{AllByRecursion}
use Rattle.segment_file.specs.Names.{file_of}
use Rattle.table_store.specs.Segments.{LacksSegment}
use Rattle.table_store.specs.declared.fault.StoreFault.{StoreFault}
use Rattle.cursor_serve.specs.Machine.{dropped}
use Rattle.serving.specs.Aside.{IsAside, MayHaveCopy, is_awaited_in, kept_if, with_copy}
use Rattle.serving.specs.Calls.{Serves}
use Rattle.cursors.specs.Kept.{AreCursors, IsOver, cursors_in}
use Rattle.serving.specs.declared.aside.Aside.{Aside}
use Rattle.cursors.specs.declared.cursor.Cursor.{Cursor}
use Rattle.serving.proofs.AsideLemmas.{cursors_left, drops, drops_missed, drops_none, failed_so, lost_or_missed, others_copied, others_dropped, over_left}
use Rattle.serving.proofs.serving.Serving.drop_live.Goals as goal

pub returns-in-Err-clause-serves : goal.returns-in-Err-clause-serves
returns-in-Err-clause-serves g c =
    let ds : List Cursor = c.args.self.now.cursors.items in
    let pool = c.args.self.now.pool in
    let name = c.args.name.now in
    let line = c.args.line in
    let all = c.requires.cursors in
    let held = g.D.Shelf.held c.args.depot.now in
    λ lacks table.
    let why : StoreFault = c.in-Err.fault in
    let new = g.D.Shelf.held c.set_aside.new.depot in
    failed_so c.kept_idle_law.ensures (dropped line name) table pool ds name line all held new c.in-Err.ensures.may_copy why c.from.result c.from.ensures
    (λ e. let missed = c.in-Err.ensures.missing (ap Err e) in drops_none table pool ds name line all held new missed.0 missed.1)
    (lost_or_missed Aside why c.in-Err.ensures.only)

pub returns-in-Err-clause-others : goal.returns-in-Err-clause-others
returns-in-Err-clause-others g c =
    let ds : List Cursor = c.args.self.now.cursors.items in
    let pool = c.args.self.now.pool in
    let name = c.args.name.now in
    let line = c.args.line in
    let all = c.requires.cursors in
    let held = g.D.Shelf.held c.args.depot.now in
    let copy = c.in-Err.ensures.may_copy in
    others_copied name line (kept_if copy.0 name line) copy.0 refl held (g.D.Shelf.held c.set_aside.new.depot) copy.1

pub returns-in-Err-drop_segment-clause-serves : goal.returns-in-Err-drop_segment-clause-serves
returns-in-Err-drop_segment-clause-serves g c =
    let ds : List Cursor = c.args.self.now.cursors.items in
    let pool = c.args.self.now.pool in
    let name = c.args.name.now in
    let line = c.args.line in
    let all = c.requires.cursors in
    let held = g.D.Shelf.held c.args.depot.now in
    let between = g.D.Shelf.held c.set_aside.new.depot in
    let made : Aside = c.in-Ok.made in
    let aside : IsAside name line ds made = subst (λ l. IsAside name line l made) c.as_slice.ensures.value c.in-Ok.ensures.aside in
    λ lacks table.
    let why : StoreFault = c.in-Err-drop_segment.fault in
    let new = g.D.Shelf.held c.drop_segment.new.depot in
    let same : new ≡ between = c.in-Err-drop_segment.ensures.kept in
    let copied : new ≡ with_copy made.kept (file_of name) held = same ∙ c.in-Ok.ensures.copied in
    failed_so c.kept_idle_law.ensures (dropped line name) table pool ds name line all held new (subst (MayHaveCopy name line held) (sym same) c.in-Ok.ensures.may_copy) why c.from-in-Err-drop_segment.result c.from-in-Err-drop_segment.ensures
    (λ e. drops_missed pool ds all name line made.kept aside.kept table held new (subst (λ h. LacksSegment h name) c.in-Ok.ensures.copied (c.in-Err-drop_segment.ensures.missing (ap Err e))) copied)
    (lost_or_missed (Unit {0}) why c.in-Err-drop_segment.ensures.only)

pub returns-in-Err-drop_segment-clause-others : goal.returns-in-Err-drop_segment-clause-others
returns-in-Err-drop_segment-clause-others g c =
    let ds : List Cursor = c.args.self.now.cursors.items in
    let pool = c.args.self.now.pool in
    let name = c.args.name.now in
    let line = c.args.line in
    let all = c.requires.cursors in
    let held = g.D.Shelf.held c.args.depot.now in
    let between = g.D.Shelf.held c.set_aside.new.depot in
    let made : Aside = c.in-Ok.made in
    let aside : IsAside name line ds made = subst (λ l. IsAside name line l made) c.as_slice.ensures.value c.in-Ok.ensures.aside in
    others_copied name line made.kept (is_awaited_in (file_of name) ds) aside.kept held (g.D.Shelf.held c.drop_segment.new.depot) (c.in-Err-drop_segment.ensures.kept ∙ c.in-Ok.ensures.copied)

pub returns-clause-serves : goal.returns-clause-serves
returns-clause-serves g c =
    let ds : List Cursor = c.args.self.now.cursors.items in
    let pool = c.args.self.now.pool in
    let name = c.args.name.now in
    let line = c.args.line in
    let all = c.requires.cursors in
    let held = g.D.Shelf.held c.args.depot.now in
    let between = g.D.Shelf.held c.set_aside.new.depot in
    let made : Aside = c.in-Ok.made in
    let aside : IsAside name line ds made = subst (λ l. IsAside name line l made) c.as_slice.ensures.value c.in-Ok.ensures.aside in
    λ lacks table.
    subst (λ l. Serves (dropped line name) table (cursors_in pool ds) (cursors_in pool l) held (g.D.Shelf.held c.drop_segment.new.depot) (Ok tt)) (sym c.put_files.ensures)
    (drops c.drop_stands_law.ensures c.kept_idle_law.ensures table pool ds name line all made.files.items made.kept aside.kept aside.files held between (g.D.Shelf.held c.drop_segment.new.depot)
    c.in-Ok.ensures.copied c.in-Ok-drop_segment.ensures.was_there c.in-Ok-drop_segment.ensures.dropped lacks)

pub returns-clause-cursors : goal.returns-clause-cursors
returns-clause-cursors g c =
    let ds : List Cursor = c.args.self.now.cursors.items in
    let pool = c.args.self.now.pool in
    let name = c.args.name.now in
    let line = c.args.line in
    let all = c.requires.cursors in
    let held = g.D.Shelf.held c.args.depot.now in
    let between = g.D.Shelf.held c.set_aside.new.depot in
    let made : Aside = c.in-Ok.made in
    let aside : IsAside name line ds made = subst (λ l. IsAside name line l made) c.as_slice.ensures.value c.in-Ok.ensures.aside in
    subst (AreCursors pool) (sym c.put_files.ensures) (cursors_left pool made.files.items ds name line made.kept aside.kept aside.files all)

pub returns-clause-over : goal.returns-clause-over
returns-clause-over g c =
    let ds : List Cursor = c.args.self.now.cursors.items in
    let pool = c.args.self.now.pool in
    let name = c.args.name.now in
    let line = c.args.line in
    let all = c.requires.cursors in
    let held = g.D.Shelf.held c.args.depot.now in
    let between = g.D.Shelf.held c.set_aside.new.depot in
    let made : Aside = c.in-Ok.made in
    let aside : IsAside name line ds made = subst (λ l. IsAside name line l made) c.as_slice.ensures.value c.in-Ok.ensures.aside in
    λ table over. subst (AllByRecursion (IsOver table)) (sym c.put_files.ensures) (over_left table made.files.items ds over)

pub returns-clause-others : goal.returns-clause-others
returns-clause-others g c =
    let ds : List Cursor = c.args.self.now.cursors.items in
    let pool = c.args.self.now.pool in
    let name = c.args.name.now in
    let line = c.args.line in
    let all = c.requires.cursors in
    let held = g.D.Shelf.held c.args.depot.now in
    let between = g.D.Shelf.held c.set_aside.new.depot in
    let made : Aside = c.in-Ok.made in
    let aside : IsAside name line ds made = subst (λ l. IsAside name line l made) c.as_slice.ensures.value c.in-Ok.ensures.aside in
    others_dropped name line made.kept (is_awaited_in (file_of name) ds) aside.kept held between (g.D.Shelf.held c.drop_segment.new.depot) c.in-Ok.ensures.copied c.in-Ok-drop_segment.ensures.dropped
