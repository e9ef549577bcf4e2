use Rattle.std.proofs.Common.{◌≡◌, ◌+◌, ◌-◌, length, subst, arith}
use borrow.Rule.Slice.PartMut.{mid_of}
use Rattle.outside.specs.Files.{Has}
use Rattle.outside.specs.Reads.{ReadsAt, LogsOn, LogsUpTo}
use Rattle.outside.specs.Seen.{seen}
use Rattle.outside.proofs.ReadLemmas.{LogsFilled-short, LogsOn-none, LogsOn-push, ReadsAt-has, fits_after, front-grows, front-starts, logs-up, on-err}
use Rattle.outside.proofs.SeenLemmas.{reads_after, reads_none}
use Rattle.outside.proofs.reading.read_into.Goals as goal

pub pieces-init : goal.pieces-init
pieces-init g c =
    let same : c.args.offset ≡ c.args.offset + 0 = omega arith in
    record {
      only_reads = reads_none (seen g.S.Shelf c.args.shelf.now);
      within = omega arith;
      log = subst (λ k. LogsOn c.args.name.now c.args.offset k (g.S.Shelf.log c.args.shelf.now) (g.S.Shelf.log c.args.shelf.now)) same (LogsOn-none c.args.name.now c.args.offset (g.S.Shelf.log c.args.shelf.now));
      front = front-starts (g.S.Shelf.held c.args.shelf.now) c.args.name.now c.args.offset c.args.into.now;
      present = λ some. absurd (omega (arith, some));
    }

pub returns-then-n-eq0-clause-log : goal.returns-then-n-eq0-clause-log
returns-then-n-eq0-clause-log g c =
    LogsFilled-short c.args.name.now c.args.offset (c.args.offset + c.pieces.done) c.in_ok-n.n (c.args.offset + length c.args.into.now) (g.S.Shelf.log c.args.shelf.now) (g.S.Shelf.log c.pieces.shelf) (g.S.Shelf.log c.read_at.new.self)
    c.pieces.invariant.log c.in_ok-n.ensures.logged c.if-n-eq0.true (omega arith)

pub returns-then-n-eq0-clause-present : goal.returns-then-n-eq0-clause-present
returns-then-n-eq0-clause-present g c =
    λ _. subst (λ h. Has h c.args.name.now) c.pieces.invariant.only_reads.held (ReadsAt-has _ _ _ _ _ _ c.in_ok-n.ensures.bytes)

pub pieces-preserved : goal.pieces-preserved
pieces-preserved g c =
    let i = c.pieces.invariant in
    let e = c.in_ok-n.ensures in
    let name = c.args.name.now in
    let offset = c.args.offset in
    let done = c.pieces.done in
    let n = c.in_ok-n.n in
    let room = length c.pieces.into - done in
    let held = g.S.Shelf.held c.args.shelf.now in
    let first = g.S.Shelf.log c.args.shelf.now in
    let now = g.S.Shelf.log c.read_at.new.self in
    let on : offset + done + n ≡ offset + (done + n) = omega arith in
    let bytes : ReadsAt held name (offset + done) n (mid_of done room c.pieces.into) c.read_at.new.into = subst (λ h. ReadsAt h name (offset + done) n (mid_of done room c.pieces.into) c.read_at.new.into) i.only_reads.held e.bytes in
    record {
      only_reads = reads_after ⊥ (seen g.S.Shelf c.args.shelf.now) (seen g.S.Shelf c.pieces.shelf) (seen g.S.Shelf c.read_at.new.self) i.only_reads
          (record { held = e.only_reads.held; parts = e.only_reads.parts; writes = e.only_reads.writes; later = e.only_reads.later; rose = λ fails. absurd fails; unchanged = λ _. e.only_reads.unchanged (λ fails. cc) });
      within = fits_after c.pieces.into c.read_at.new.into done n i.within c.read_at.auto.into e.bound;
      log = subst (λ k. LogsOn name offset k first now) on (LogsOn-push name offset (offset + done) n first (g.S.Shelf.log c.pieces.shelf) now i.log e.logged (omega arith));
      front = front-grows held name offset done n room c.pieces.into c.read_at.new.into i.within bytes i.front;
      present = λ _. ReadsAt-has held name (offset + done) n (mid_of done room c.pieces.into) c.read_at.new.into bytes;
    }

pub returns-in_err-n-clause-log_of_fault : goal.returns-in_err-n-clause-log_of_fault
returns-in_err-n-clause-log_of_fault g c =
    let name = c.args.name.now in
    let offset = c.args.offset in
    let limit = offset + length c.args.into.now in
    let first = g.S.Shelf.log c.args.shelf.now in
    let now = g.S.Shelf.log c.read_at.new.self in
    on-err c.from_residual.result (LogsUpTo name offset limit first now)
    (logs-up name offset (offset + c.pieces.done) limit first (g.S.Shelf.log c.pieces.shelf) now (omega arith) c.pieces.invariant.log c.in_err-n.ensures.not_logged)
