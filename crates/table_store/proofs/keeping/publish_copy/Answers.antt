use Rattle.std.proofs.Common.{◌∙◌, Err, ap, refl, subst}
use Rattle.outside.specs.Files.{Lacks, bytes_of, with_file, without_file}
use Rattle.outside.proofs.SeenLemmas.{reads_so}
use Rattle.outside.specs.Seen.{Seen, seen}
use Rattle.segment_build.specs.FileReads.{file_unread}
use Rattle.segment_build.specs.Publishing.{incoming}
use Rattle.table_store.proofs.CopyLemmas.{copies_after, looked_first, of_reads, part_gone, published_after, published_so}
use Rattle.table_store.proofs.FilesLemmas.{long_there}
use Rattle.table_store.proofs.keeping.publish_copy.Goals as goal

pub returns-in-Err-Missing-clause-copies : goal.returns-in-Err-Missing-clause-copies
returns-in-Err-Missing-clause-copies g c =
    let a : Seen = seen g.D.Shelf c.args.depot.now in
    let b : Seen = seen g.D.Shelf c.length.new.self in
    let e = c.in-Err-Missing.ensures in
    let missing = c.in-Err-Missing.field-0-is in
    of_reads c.args.file.now _ _ a b (λ w. cc w) (reads_so _ _ a b (λ r. absurd (cc r)) (λ r. absurd (cc (missing, r))) e.only_reads) (file_unread c.args.file.now a.log b.log e.log)

pub returns-in-Err-Failed-clause-copies : goal.returns-in-Err-Failed-clause-copies
returns-in-Err-Failed-clause-copies g c =
    let a : Seen = seen g.D.Shelf c.args.depot.now in
    let b : Seen = seen g.D.Shelf c.length.new.self in
    let e = c.in-Err-Failed.ensures in
    of_reads c.args.file.now _ _ a b (λ w. cc w) (reads_so _ _ a b (λ r. ap Err c.in-Err-Failed.field-0-is) (λ r. refl) e.only_reads) (file_unread c.args.file.now a.log b.log e.log)

pub returns-in-Err-NoMemory-clause-copies : goal.returns-in-Err-NoMemory-clause-copies
returns-in-Err-NoMemory-clause-copies g c =
    let a : Seen = seen g.D.Shelf c.args.depot.now in
    let b : Seen = seen g.D.Shelf c.length.new.self in
    let e = c.in-Err-NoMemory.ensures in
    let memory = c.in-Err-NoMemory.field-0-is in
    of_reads c.args.file.now _ _ a b (λ w. cc w) (reads_so _ _ a b (λ r. absurd (cc r)) (λ r. absurd (cc (memory, r))) e.only_reads) (file_unread c.args.file.now a.log b.log e.log)

pub returns-in-Err-clause-missing : goal.returns-in-Err-clause-missing
returns-in-Err-clause-missing g c = λ is. subst (λ h. Lacks h c.args.file.now) c.in-Ok.ensures.only_reads.held (c.in-Err.ensures.missing is)

pub returns-in-Err-clause-copies : goal.returns-in-Err-clause-copies
returns-in-Err-clause-copies g c =
    let a : Seen = seen g.D.Shelf c.args.depot.now in
    let b : Seen = seen g.D.Shelf c.length.new.self in
    let d : Seen = seen g.D.Shelf c.copy_file.new.depot in
    copies_after c.args.file.now _ _ a b d (looked_first c.args.file.now _ a b (λ f. cc f) c.in-Ok.ensures.only_reads c.in-Ok.ensures.log) c.in-Err.ensures.copies

pub returns-in-Ok-publish-clause-put : goal.returns-in-Ok-publish-clause-put
returns-in-Ok-publish-clause-put g c =
    let b : Seen = seen g.D.Shelf c.length.new.self in
    let d : Seen = seen g.D.Shelf c.copy_file.new.depot in
    published_so c.args.file.now c.args.kept.now b d (g.D.Shelf.held c.publish.new.self) (g.met.D.Depot.tells_both c.length.new.self) c.in-Ok-copy_file.ensures.copied c.copy_file.ensures.held c.in-Ok-publish.ensures.published
    ∙ ap (λ h. with_file c.args.kept.now (bytes_of h c.args.file.now) h) c.in-Ok.ensures.only_reads.held

pub returns-in-Ok-publish-clause-part_gone : goal.returns-in-Ok-publish-clause-part_gone
returns-in-Ok-publish-clause-part_gone g c =
    let b : Seen = seen g.D.Shelf c.length.new.self in
    let d : Seen = seen g.D.Shelf c.copy_file.new.depot in
    part_gone c.args.file.now b d (g.D.Shelf.parts c.publish.new.self) c.in-Ok-copy_file.ensures.copied c.in-Ok-publish.ensures.gone
    ∙ ap (without_file incoming) c.in-Ok.ensures.only_reads.parts

pub returns-in-Ok-publish-clause-was_there : goal.returns-in-Ok-publish-clause-was_there
returns-in-Ok-publish-clause-was_there g c = long_there (g.D.Shelf.held c.args.depot.now) c.args.file.now c.in-Ok.length c.in-Ok.ensures.length

pub returns-in-Ok-publish-clause-copies : goal.returns-in-Ok-publish-clause-copies
returns-in-Ok-publish-clause-copies g c =
    let a : Seen = seen g.D.Shelf c.args.depot.now in
    let b : Seen = seen g.D.Shelf c.length.new.self in
    let d : Seen = seen g.D.Shelf c.copy_file.new.depot in
    let e : Seen = seen g.D.Shelf c.publish.new.self in
    let is = c.in-Ok-publish.is in
    published_after c.args.file.now c.args.kept.now c.publish.result _ _ _ _ _ a b d e (λ f. cc f) (λ r. cc r) (λ w. cc w) c.in-Ok.ensures.only_reads c.in-Ok.ensures.log c.in-Ok-copy_file.ensures.copies c.publish.ensures (λ r. cc r)
    ((λ w. absurd (cc w)), (λ f. absurd (cc (is, f))))

pub returns-in-Err-Failed-publish-clause-copies : goal.returns-in-Err-Failed-publish-clause-copies
returns-in-Err-Failed-publish-clause-copies g c =
    let a : Seen = seen g.D.Shelf c.args.depot.now in
    let b : Seen = seen g.D.Shelf c.length.new.self in
    let d : Seen = seen g.D.Shelf c.copy_file.new.depot in
    let e : Seen = seen g.D.Shelf c.publish.new.self in
    let is = c.in-Err-Failed-publish.is in
    let failed = c.in-Err-Failed-publish.field-0-is in
    published_after c.args.file.now c.args.kept.now c.publish.result _ _ _ _ _ a b d e (λ f. cc f) (λ r. cc r) (λ w. cc w) c.in-Ok.ensures.only_reads c.in-Ok.ensures.log c.in-Ok-copy_file.ensures.copies c.publish.ensures (λ r. cc r)
    ((λ w. cc (is, failed)), (λ f. refl))

pub returns-in-Err-NoMemory-publish-clause-copies : goal.returns-in-Err-NoMemory-publish-clause-copies
returns-in-Err-NoMemory-publish-clause-copies g c =
    let a : Seen = seen g.D.Shelf c.args.depot.now in
    let b : Seen = seen g.D.Shelf c.length.new.self in
    let d : Seen = seen g.D.Shelf c.copy_file.new.depot in
    let e : Seen = seen g.D.Shelf c.publish.new.self in
    let is = c.in-Err-NoMemory-publish.is in
    let memory = c.in-Err-NoMemory-publish.field-0-is in
    published_after c.args.file.now c.args.kept.now c.publish.result _ _ _ _ _ a b d e (λ f. cc f) (λ r. cc r) (λ w. cc w) c.in-Ok.ensures.only_reads c.in-Ok.ensures.log c.in-Ok-copy_file.ensures.copies c.publish.ensures (λ r. cc r)
    ((λ w. absurd (cc w)), (λ f. absurd (cc (is, memory, f))))
