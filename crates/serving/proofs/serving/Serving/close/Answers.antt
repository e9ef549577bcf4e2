use Rattle.std.proofs.Common.{◌≡◌, ◌∙◌, ◌<◌, ℕ, List, Some, Ok, Err, get_or, length, sym, ap, subst, arith}
use Rattle.std.specs.List.{AllByRecursion, remove}
use Rattle.cursor_serve.specs.Machine.{closed}
use Rattle.serving.specs.Calls.{Serves}
use Rattle.serving.specs.Closed.{AreGone}
use Rattle.cursors.specs.Kept.{AreCursors, IsOver, cursors_in, place_under}
use Rattle.cursors.specs.declared.cursor.Cursor.{Cursor}
use Rattle.serving.proofs.ClosedLemmas.{closes_fault, closes_none, closes_out, cursors_out, got_at, over_out, place_named, write_or_memory}
use Rattle.serving.proofs.GoneLemmas.{gone_kept}
use Rattle.serving.proofs.PlaceLemmas.{AtPlace, IsOther, at_place, place_within}
use Rattle.serving.proofs.serving.Serving.close.Goals as goal

pub returns-in_default-clause-serves : goal.returns-in_default-clause-serves
returns-in_default-clause-serves g c = λ table.
    closes_none table c.args.self.now.pool c.args.self.now.cursors.items c.args.cursor.now (g.D.Shelf.held c.args.depot.now) (ap (place_under c.args.cursor.now) (sym c.as_slice.ensures.value) ∙ sym c.in_default.ensures)

pub release-requires : goal.release-requires
release-requires g c =
    let ds : List Cursor = c.args.self.now.cursors.items in
    let name = c.args.cursor.now in
    let pool = c.args.self.now.pool in
    let at : ℕ = c.in-Some.at in
    let place : place_under name ds ≡ Some at = sym (c.in-Some.ensures ∙ ap (place_under name) c.as_slice.ensures.value) in
    let lt : at < length ds = place_within name ds at place in
    let long = ap length c.as_slice-2.ensures.value in
    omega (arith, lt, long)

pub remove-groups-requires : goal.remove-groups-requires
remove-groups-requires g c =
    let ds : List Cursor = c.args.self.now.cursors.items in
    let name = c.args.cursor.now in
    let pool = c.args.self.now.pool in
    let at : ℕ = c.in-Some.at in
    let place : place_under name ds ≡ Some at = sym (c.in-Some.ensures ∙ ap (place_under name) c.as_slice.ensures.value) in
    let lt : at < length ds = place_within name ds at place in
    let long = ap length c.as_slice.ensures.value in
    let len = c.as_slice.ensures.len in
    omega (arith, lt, long, len)

pub returns-in-Err-clause-serves : goal.returns-in-Err-clause-serves
returns-in-Err-clause-serves g c = λ table.
    let some = c.in-Err.ensures.some_gone in
    subst (λ why. Serves (closed c.args.cursor.now) table (cursors_in c.args.self.now.pool c.args.self.now.cursors.items) (cursors_in c.args.self.now.pool c.args.self.now.cursors.items) (g.D.Shelf.held c.args.depot.now) (g.D.Shelf.held c.release.new.depot) (Err why)) (sym c.from.ensures)
    (closes_fault table c.kept_idle_law.ensures c.args.self.now.pool c.args.self.now.cursors.items c.args.cursor.now (g.D.Shelf.held c.args.depot.now) (g.D.Shelf.held c.release.new.depot) some.0 c.in-Err.fault some.1 some.2
    (write_or_memory c.in-Err.fault c.in-Err.ensures.only))

pub returns-clause-serves : goal.returns-clause-serves
returns-clause-serves g c = λ table.
    let ds : List Cursor = c.args.self.now.cursors.items in
    let name = c.args.cursor.now in
    let pool = c.args.self.now.pool in
    let at : ℕ = c.in-Some.at in
    let place : place_under name ds ≡ Some at = sym (c.in-Some.ensures ∙ ap (place_under name) c.as_slice.ensures.value) in
    let lt : at < length ds = place_within name ds at place in
    let own : Cursor = c.remove-groups.result in
    let is : get_or ds at own ≡ own = sym c.remove-groups.ensures.value in
    let placed : AtPlace (IsOther own) at own ds = at_place ds at own own lt is c.requires.cursors.owners in
    let gone = c.in-Ok.ensures.gone in
    let all : AreGone at ds gone.0 = subst (λ l. AreGone at l gone.0) c.as_slice-2.ensures.value gone.1 in
    subst (λ l. Serves (closed name) table (cursors_in pool ds) (cursors_in c.close.new.pool l) (g.D.Shelf.held c.args.depot.now) (g.D.Shelf.held c.release.new.depot) (Ok tt)) (sym c.remove-groups.ensures.items)
    (closes_out table c.kept_idle_law.ensures pool c.close.new.pool ds name at own own place (got_at ds at own own lt is) is (place_named name ds at own own place is) c.requires.cursors placed c.close.ensures.keeps
    (g.D.Shelf.held c.args.depot.now) (g.D.Shelf.held c.release.new.depot) gone.0 all gone.2)

pub returns-clause-cursors : goal.returns-clause-cursors
returns-clause-cursors g c =
    let ds : List Cursor = c.args.self.now.cursors.items in
    let name = c.args.cursor.now in
    let pool = c.args.self.now.pool in
    let at : ℕ = c.in-Some.at in
    let place : place_under name ds ≡ Some at = sym (c.in-Some.ensures ∙ ap (place_under name) c.as_slice.ensures.value) in
    let lt : at < length ds = place_within name ds at place in
    let own : Cursor = c.remove-groups.result in
    let is : get_or ds at own ≡ own = sym c.remove-groups.ensures.value in
    let placed : AtPlace (IsOther own) at own ds = at_place ds at own own lt is c.requires.cursors.owners in
    subst (AreCursors c.close.new.pool) (sym c.remove-groups.ensures.items)
    (cursors_out pool c.close.new.pool own ds at placed c.requires.cursors c.close.ensures.keeps c.close.ensures.none)

pub returns-clause-over : goal.returns-clause-over
returns-clause-over g c = λ table all.
    subst (AllByRecursion (IsOver table)) (sym c.remove-groups.ensures.items) (over_out (IsOver table) c.args.self.now.cursors.items c.in-Some.at all)

pub returns-clause-loses : goal.returns-clause-loses
returns-clause-loses g c =
    let gone = c.in-Ok.ensures.gone in
    (gone.0, gone_kept c.in-Some.at c.as_slice-2.result.now gone.0 gone.1.each, gone.2)
