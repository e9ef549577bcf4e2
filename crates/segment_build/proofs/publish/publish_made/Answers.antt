use Rattle.std.proofs.Common.{◌++◌, []}
use Rattle.std.specs.List.{concat}
use Rattle.outside.specs.Files.{bytes_of}
use Rattle.outside.specs.Seen.{seen}
use Rattle.segment_build.specs.Made.{each_bytes}
use Rattle.segment_build.specs.Publishing.{incoming}
use Rattle.segment_build.specs.FileLaws.{after_publish, gone_after, on_ok_then, published_after, same_but_new, writes_after, writes_handed}
use Rattle.segment_build.proofs.publish.publish_made.Goals as goal

pub returns-in_err-begin-clause-only_writes : goal.returns-in_err-begin-clause-only_writes
returns-in_err-begin-clause-only_writes g c =
    let e = c.in_err-begin.ensures in
    writes_handed c.from_residual.result c.in_err-begin.field-0.0 incoming (seen g.D.Shelf c.args.depot.now) (seen g.D.Shelf c.begin.new.self) c.from_residual.ensures.1
    (record { parts = e.unknown; log = e.writes.log; reads = e.writes.reads; later = e.writes.later; rose = e.writes.rose; unchanged = e.writes.unchanged })

pub returns-in_err-give-clause-only_writes : goal.returns-in_err-give-clause-only_writes
returns-in_err-give-clause-only_writes g c =
    let e = c.in_err-give.ensures in
    let b = c.in_ok-begin.ensures in
    writes_handed c.from_residual-in_err-give.result c.in_err-give.field-0.0 incoming (seen g.D.Shelf c.args.depot.now) (seen g.D.Shelf c.give.new.shelf) c.from_residual-in_err-give.ensures.1
    (writes_after _ incoming (seen g.D.Shelf c.args.depot.now) (seen g.D.Shelf c.begin.new.self) (seen g.D.Shelf c.give.new.shelf)
    (record { parts = same_but_new incoming [] _ _ b.begun; log = b.writes.log; reads = b.writes.reads; later = b.writes.later; rose = λ none. absurd none; unchanged = λ _. b.writes.unchanged (λ fails. cc) })
    (record { parts = e.unknown; log = e.writes.log; reads = e.writes.reads; later = e.writes.later; rose = e.writes.rose; unchanged = e.writes.unchanged }))

pub returns-clause-published : goal.returns-clause-published
returns-clause-published g c =
    on_ok_then c.publish.result (published_after incoming c.args.name.now (c.args.made.front.items ++ concat (each_bytes c.args.made.sections.items)) _ _ _ _ _ _ _ (g.met.D.Depot.tells_both c.args.depot.now)
    (record { begun = c.in_ok-begin.ensures.begun; grown = c.in_ok-give.ensures.appended; held_first = c.begin.ensures.held; held_then = c.give.ensures.held }))
    c.publish.ensures.published

pub returns-clause-gone : goal.returns-clause-gone
returns-clause-gone g c =
    on_ok_then c.publish.result (gone_after incoming (c.args.made.front.items ++ concat (each_bytes c.args.made.sections.items)) _ _ _ _ _ _ _
    (record { begun = c.in_ok-begin.ensures.begun; grown = c.in_ok-give.ensures.appended; held_first = c.begin.ensures.held; held_then = c.give.ensures.held }))
    c.publish.ensures.gone

pub returns-clause-only_writes : goal.returns-clause-only_writes
returns-clause-only_writes g c =
    let b = c.in_ok-begin.ensures in
    let a = c.in_ok-give.ensures in
    let p = c.publish.ensures in
    writes_after _ incoming (seen g.D.Shelf c.args.depot.now) (seen g.D.Shelf c.give.new.shelf) (seen g.D.Shelf c.publish.new.self)
    (writes_after ⊥ incoming (seen g.D.Shelf c.args.depot.now) (seen g.D.Shelf c.begin.new.self) (seen g.D.Shelf c.give.new.shelf)
    (record { parts = same_but_new incoming [] _ _ b.begun; log = b.writes.log; reads = b.writes.reads; later = b.writes.later; rose = λ none. absurd none; unchanged = λ _. b.writes.unchanged (λ fails. cc) })
    (record { parts = same_but_new incoming (bytes_of (g.D.Shelf.parts c.begin.new.self) incoming ++ (c.args.made.front.items ++ concat (each_bytes c.args.made.sections.items))) _ _ a.appended; log = a.writes.log; reads = a.writes.reads; later = a.writes.later; rose = λ none. absurd none; unchanged = λ _. a.writes.unchanged (λ fails. cc) }))
    (record { parts = after_publish c.publish.result incoming (g.D.Shelf.parts c.give.new.shelf) (g.D.Shelf.parts c.publish.new.self) p.gone p.unknown; log = p.writes.log; reads = p.writes.reads; later = p.writes.later; rose = p.writes.rose; unchanged = p.writes.unchanged })
